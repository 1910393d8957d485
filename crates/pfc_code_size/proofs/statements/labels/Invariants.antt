use Rattle.std.proofs.Common.{◌≡◌, ◌+◌, drop}
use Rattle.pfc_tree.specs.views.Stmts.{arms_view}
use Rattle.pfc_code_size.specs.Statements.{label_count}
use Rattle.pfc_code_size.proofs.statements.labels.Given as goal

abbrev pub invariant-loop-a : goal.invariant-loop-a
invariant-loop-a l = l.n + label_count (arms_view (drop l.a-index l.all)) ≡ l.fn.count + label_count (arms_view l.all)
