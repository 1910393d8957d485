-- The same action comes next where other names come in view.
use Rattle.std.proofs.Common.{◌≡◌}
use Rattle.pfc_program.specs.Views.{names_view}
use Rattle.pfc_rewriting.specs.Going.{going_ahead}
use Rattle.pfc_rewriting.proofs.within.next_deed.Given as goal

abbrev pub invariant-loop-others : goal.invariant-loop-others
invariant-loop-others l =
    let t = l.program.tables in
    going_ahead t (names_view t l.names) l.going ≡ going_ahead t (names_view t l.fn.names) l.fn.going
