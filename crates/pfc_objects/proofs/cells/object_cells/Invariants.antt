-- The places still to come complete the cells.
use Rattle.std.proofs.Common.{◌≡◌, ◌++◌, drop}
use Rattle.pfc_translation.specs.Objects.{all_objects, laid_objects}
use Rattle.pfc_objects.proofs.cells.object_cells.Given as goal

abbrev pub invariant-loop-m : goal.invariant-loop-m
invariant-loop-m l = l.cells.items ++ laid_objects (all_objects l.types) (drop l.m-index l.layout) ≡ laid_objects (all_objects l.types) l.layout
