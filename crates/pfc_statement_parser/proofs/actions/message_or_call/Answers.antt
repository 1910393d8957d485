use Rattle.std.proofs.Common.{rules}
use Rattle.pfc_grammar.specs.placed.Reading.{bind, pure}
use Rattle.pfc_tree.specs.declared.tree.Comm.{the_lemmas}
use Rattle.pfc_token_parser.proofs.Branches.{branch_taken, branch_not_taken}
use Rattle.pfc_statement_parser.proofs.actions.message_or_call.Goals as goal

pub returns-in-Some-clause-gives : goal.returns-in-Some-clause-gives
unfolding bind pure
returns-in-Some-clause-gives c = rw (branch_taken _ _ _ _ _ _ c.in-Some.ensures.taken, c.in_ok-value.ensures.gives) (search (rules, the_lemmas))

pub returns-in-Some-sign-clause-gives : goal.returns-in-Some-sign-clause-gives
unfolding bind pure
returns-in-Some-sign-clause-gives c =
    rw (
      branch_not_taken _ _ _ _ c.in_default.ensures.taken,
      branch_taken _ _ _ _ _ _ c.in-Some-sign.ensures.taken,
      c.in_ok-variable.ensures.gives,
    ) (search (rules, the_lemmas))

pub returns-clause-gives : goal.returns-clause-gives
unfolding bind pure
returns-clause-gives c =
    rw (
      branch_not_taken _ _ _ _ c.in_default.ensures.taken,
      branch_not_taken _ _ _ _ c.in_default-sign.ensures.taken,
      c.in_ok-args.ensures.gives,
    ) (search (rules, the_lemmas))
