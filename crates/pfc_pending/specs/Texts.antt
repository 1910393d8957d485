-- Parts of the text that are held while they wait.
use Rattle.std.specs.Prelude.{drop, map, get_or}
use Rattle.pfc_tree.specs.trees.Exprs.{ActualTrees}
use Rattle.pfc_tree.specs.trees.Stmts.{StmtTree, StmtTrees, empty}
use Rattle.pfc_tree.specs.views.Exprs.{actuals_view}
use Rattle.pfc_tree.specs.views.Stmts.{stmt_view, stmts_view}
use Rattle.pfc_pending.specs.declared.text.Actuals.{Actuals}
use Rattle.pfc_pending.specs.declared.text.OneStmt.{OneStmt}
use Rattle.pfc_pending.specs.declared.text.OneStmt.TheVariants as one
use Rattle.pfc_pending.specs.declared.text.Stmts.{Stmts}

abbrev pub stmts_left : Stmts → StmtTrees
stmts_left ss = stmts_view (drop ss.from ss.list.now.items)

abbrev pub stmt_at : OneStmt → StmtTree
stmt_at (one.Listed list i) = get_or (map stmt_view list.now.items) i empty
stmt_at (one.Alone s) = stmt_view s.now.value

abbrev pub actuals_left : Actuals → ActualTrees
actuals_left args = actuals_view (drop args.from args.list.now.items)
