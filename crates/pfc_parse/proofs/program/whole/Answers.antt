use Rattle.std.proofs.Common.{rules}
use Rattle.std.proofs.lemmas.Result.{err_from_is_err_and}
use Rattle.pfc_tree.specs.views.Parts.{tree_view}
use Rattle.pfc_grammar.specs.placed.Reading.{bind}
use Rattle.pfc_token_parser.proofs.Branches.{bind_halts}
use Rattle.pfc_parse.proofs.Whole.{whole_is, finished, unfinished}
use Rattle.pfc_parse.proofs.program.whole.Goals as goal

pub returns-in_err-tree : goal.returns-in_err-tree
returns-in_err-tree c = let p = err_from_is_err_and c.from_residual.result c.from_residual.ensures.1 in rw (p.1, p.2, whole_is c.args.tokens.now)
    (bind_halts _ _ _ _ c.in_err-tree.ensures)

pub returns-then-is_empty : goal.returns-then-is_empty
unfolding bind
returns-then-is_empty c = rw (whole_is c.args.tokens.now, c.in_ok-tree.ensures) (finished (tree_view c.in_ok-tree.tree) c.in_ok-tree.rest.now
    (search (rules, c.if-is_empty.ensures)))

pub returns-else-is_empty : goal.returns-else-is_empty
unfolding bind
returns-else-is_empty c = rw (whole_is c.args.tokens.now, c.in_ok-tree.ensures) (unfinished (tree_view c.in_ok-tree.tree) c.in_ok-tree.rest.now
    (search (rules, c.if-is_empty.ensures)))
