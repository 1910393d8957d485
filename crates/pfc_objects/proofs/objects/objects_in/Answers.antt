use Rattle.std.proofs.Common.{◌∙◌, ◌++◌, List, drop, sym, ap, arith}
use Rattle.std.proofs.lemmas.List.{append-nil}
use Rattle.pfc_code.specs.declared.images.Object.{Object}
use Rattle.pfc_objects.proofs.ObjectCells.{none_behind, one_over}
use Rattle.pfc_objects.proofs.objects.objects_in.Goals as goal

pub returns : goal.returns
returns c =
    let k = c.loop-k.k in
    let over = one_over c.args.cells.now c.args.numbers.now k (omega (arith, c.loop-k-test.false, c.min-k-end.ensures)) in
    sym (append-nil c.loop-k.list.items)
    ∙ ap (λ (l : List Object). c.loop-k.list.items ++ l) (sym (none_behind k (drop k c.args.cells.now) (drop k c.args.numbers.now) over))
    ∙ c.loop-k.invariant
