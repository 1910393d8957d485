use Rattle.std.proofs.Common.{rules, sym}
use Rattle.pfc_grammar.specs.placed.Reading.{bind, pure}
use Rattle.pfc_grammar.specs.placed.Stmts.{action_behind}
use Rattle.pfc_tree.specs.declared.tree.Comm.{the_lemmas}
use Rattle.pfc_token_parser.proofs.Branches.{branch_taken, branch_not_taken}
use Rattle.pfc_statement_parser.proofs.actions.action_behind.Goals as goal

pub returns-in-Some-clause-gives : goal.returns-in-Some-clause-gives
unfolding action_behind bind pure
returns-in-Some-clause-gives c =
    rw (sym c.in_ok-copy.ensures, c.in_ok-target.ensures.gives, branch_taken _ _ _ _ _ _ c.in-Some.ensures.taken, c.in_ok-value.ensures.gives)
    (search (rules, the_lemmas))

pub returns-clause-gives : goal.returns-clause-gives
unfolding action_behind bind pure
returns-clause-gives c =
    rw (sym c.in_ok-copy.ensures, c.in_ok-target.ensures.gives, branch_not_taken _ _ _ _ c.in_default.ensures.taken) c.message_or_call.ensures.gives
