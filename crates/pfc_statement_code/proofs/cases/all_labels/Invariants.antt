use Rattle.std.proofs.Common.{drop}
use Rattle.pfc_tree.specs.views.Stmts.{arms_view}
use Rattle.pfc_addresses.specs.Sites.{site_view}
use Rattle.pfc_statement_code.specs.Arms.{open_tests}
use Rattle.pfc_statement_code.proofs.Loops.{IsOnTheWay}
use Rattle.pfc_statement_code.proofs.cases.all_labels.Given as goal

abbrev pub invariant-loop-a : goal.invariant-loop-a
invariant-loop-a l =
    IsOnTheWay (open_tests (site_view l.site) (arms_view (drop l.a-index l.all))) (open_tests (site_view l.site) (arms_view l.all)) l.initial.code l.code
