-- Each loop: what is still to come completes it.
use Rattle.std.proofs.Common.{◌≡◌, drop}
use Rattle.pfc_tree.specs.views.Stmts.{stmts_view, arms_view, alts_view}
use Rattle.pfc_types.specs.Views.{levels}
use Rattle.pfc_types.specs.rules.Declarations.{stmts_state, arms_state, alts_state}
use Rattle.pfc_check.specs.States.{state_of, labels_of}
use Rattle.pfc_check.proofs.state.State.+stmts.Given as goal

abbrev pub invariant-stmts-loop-s : goal.invariant-stmts-loop-s
invariant-stmts-loop-s l =
    stmts_state (state_of l.self) (levels l.view) (stmts_view (drop l.s-index l.ss)) ≡ stmts_state (state_of l.initial.self) (levels l.view) (stmts_view l.ss)

abbrev pub invariant-arms-loop-a : goal.invariant-arms-loop-a
invariant-arms-loop-a l =
    arms_state (levels l.view) (labels_of l.self l.labels) (arms_view (drop l.a-index l.arms)) ≡ arms_state (levels l.view)
    (labels_of l.initial.self l.initial.labels) (arms_view l.arms)

abbrev pub invariant-alts-loop-a : goal.invariant-alts-loop-a
invariant-alts-loop-a l =
    alts_state (state_of l.self) (levels l.view) (alts_view (drop l.a-index l.alts)) ≡ alts_state (state_of l.initial.self) (levels l.view) (alts_view l.alts)
