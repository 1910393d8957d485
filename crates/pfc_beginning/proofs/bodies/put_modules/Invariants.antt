-- The bodies that were put are the last ones.
use Rattle.std.proofs.Common.{◌≡◌, drop}
use Rattle.pfc_program.specs.Views.{blocks_view}
use Rattle.pfc_program.specs.declared.tables.Tables.{Tables}
use Rattle.pfc_semantics.specs.Configurations.{initialising}
use Rattle.pfc_pending.specs.Waiting.{remainder_of, waiting}
use Rattle.pfc_beginning.proofs.bodies.put_modules.Given as goal

abbrev pub invariant-loop-i : goal.invariant-loop-i
invariant-loop-i l =
    (t : Tables) → remainder_of (waiting t l.pending.items) ≡ initialising (blocks_view t (drop l.i l.modules)) (remainder_of (waiting t l.fn.pending.items))
