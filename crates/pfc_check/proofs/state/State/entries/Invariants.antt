use Rattle.std.proofs.Common.{◌≡◌, drop, map}
use Rattle.pfc_tree.specs.views.Parts.{entry_view}
use Rattle.pfc_types.specs.rules.Declarations.{entries_state}
use Rattle.pfc_check.specs.States.{state_of, around}
use Rattle.pfc_check.proofs.state.State.entries.Given as goal

-- what is still to come completes it
abbrev pub invariant-loop-k : goal.invariant-loop-k
invariant-loop-k l =
    entries_state (state_of l.self) l.block.scope (around l.block) l.k (map entry_view (drop l.k l.entries)) ≡ entries_state
    (state_of l.initial.self) l.block.scope (around l.block) 0 (map entry_view l.entries)
