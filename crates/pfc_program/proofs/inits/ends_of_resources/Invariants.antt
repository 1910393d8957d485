-- The parts still to come complete the lines.
use Rattle.std.proofs.Common.{◌≡◌, ◌++◌, drop}
use Rattle.pfc_tree.specs.views.Parts.{parts_view}
use Rattle.pfc_semantics.specs.Programs as programs
use Rattle.pfc_program.proofs.inits.ends_of_resources.Given as goal

abbrev pub invariant-loop-p : goal.invariant-loop-p
invariant-loop-p l = l.ends.items ++ programs.ends_of_resources (parts_view (drop l.p-index l.ps)) ≡ programs.ends_of_resources (parts_view l.ps)
