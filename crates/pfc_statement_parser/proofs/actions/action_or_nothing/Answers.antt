use Rattle.std.proofs.Common.{rules}
use Rattle.pfc_grammar.specs.placed.Reading.{pure}
use Rattle.pfc_tree.specs.declared.tree.Comm.{the_lemmas}
use Rattle.pfc_token_parser.proofs.Branches.{branch_not_taken}
use Rattle.pfc_statement_parser.proofs.actions.action_or_nothing.Goals as goal

pub returns-in_default-clause-gives : goal.returns-in_default-clause-gives
unfolding pure
returns-in_default-clause-gives c = rw (branch_not_taken _ _ _ _ c.in_default.ensures.taken) (search (rules, the_lemmas))
