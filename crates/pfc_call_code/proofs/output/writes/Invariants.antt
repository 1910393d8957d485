-- What is put so far, with the code of what is still to come, is what is to be put.
use Rattle.std.proofs.Common.{◌≡◌, ◌+◌, length, drop}
use Rattle.pfc_tree.specs.views.Exprs.{actuals_view}
use Rattle.pfc_translation.specs.Calls.{writes_code}
use Rattle.pfc_addresses.specs.Sites.{site_view}
use Rattle.pfc_expression_code.specs.Putting.{Made, IsMade}
use Rattle.pfc_call_code.proofs.output.writes.Given as goal

abbrev pub invariant-loop-a : goal.invariant-loop-a
invariant-loop-a l =
    let s = site_view l.site in
    let left = writes_code s (actuals_view (drop l.a-index l.args)) l.newline in
    let whole = writes_code s (actuals_view l.args) l.newline in
    record {
      made : (after : Made) → IsMade left l.coder after → IsMade whole l.fn.coder after;
      size : length l.coder.code + left.size ≡ length l.fn.coder.code + whole.size;
    }
