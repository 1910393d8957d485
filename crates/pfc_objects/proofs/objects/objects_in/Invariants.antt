-- The cells still to come complete the objects.
use Rattle.std.proofs.Common.{◌≡◌, ◌++◌, drop}
use Rattle.pfc_translation.specs.Objects.{objects_from}
use Rattle.pfc_objects.proofs.objects.objects_in.Given as goal

abbrev pub invariant-loop-k : goal.invariant-loop-k
invariant-loop-k l = l.list.items ++ objects_from l.k (drop l.k l.cells) (drop l.k l.numbers) ≡ objects_from 0 l.cells l.numbers
