use Rattle.std.proofs.Common.{rules}
use Rattle.pfc_grammar.specs.placed.Reading.{bind, pure}
use Rattle.pfc_grammar.specs.placed.Stmts.{message_or_wait}
use Rattle.pfc_tree.specs.declared.tree.Comm.{the_lemmas}
use Rattle.pfc_token_parser.proofs.Branches.{branch_taken, branch_not_taken}
use Rattle.pfc_statement_parser.proofs.actions.message_or_wait.Goals as goal

pub returns-in-Some-clause-gives : goal.returns-in-Some-clause-gives
unfolding message_or_wait bind pure
returns-in-Some-clause-gives c = rw (branch_taken _ _ _ _ _ _ c.in-Some.ensures.taken, c.in_ok-seconds.ensures.gives) (search (rules, the_lemmas))

pub returns-in-Some-word-clause-gives : goal.returns-in-Some-word-clause-gives
unfolding message_or_wait bind pure
returns-in-Some-word-clause-gives c =
    rw (branch_not_taken _ _ _ _ c.in_default.ensures.taken, branch_taken _ _ _ _ _ _ c.in-Some-word.ensures.taken) (search (rules, the_lemmas))
