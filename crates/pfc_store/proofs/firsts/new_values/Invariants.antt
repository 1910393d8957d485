-- Behind the arguments stand the first values of the places that were gone through.
use Rattle.std.proofs.Common.{◌≡◌, ◌++◌, length, map, take, drop}
use Rattle.pfc_semantics.specs.Objects.{first_laid, all_first}
use Rattle.pfc_store.specs.Views.{values_view}
use Rattle.pfc_store.proofs.firsts.new_values.Given as goal

abbrev pub invariant-loop-i : goal.invariant-loop-i
invariant-loop-i l = values_view l.values.items ≡ values_view l.fn.args.items ++ drop (length l.fn.args.items)
    (take l.i (map (first_laid (all_first l.types)) l.layout))
