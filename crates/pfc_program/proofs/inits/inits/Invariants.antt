-- The parts still to come complete the initialising bodies.
use Rattle.std.proofs.Common.{◌≡◌, ◌++◌, drop}
use Rattle.pfc_tree.specs.views.Parts.{parts_view}
use Rattle.pfc_semantics.specs.Programs.{parts_inits}
use Rattle.pfc_program.specs.Views.{tables_view, blocks_view}
use Rattle.pfc_program.proofs.inits.inits.Given as goal

abbrev pub invariant-loop-p : goal.invariant-loop-p
invariant-loop-p l =
    blocks_view l.tables l.modules.items ++ parts_inits (tables_view l.tables) l.before l.after (parts_view (drop l.p-index l.ps))
    ≡ parts_inits (tables_view l.tables) 0 1 (parts_view l.ps)
