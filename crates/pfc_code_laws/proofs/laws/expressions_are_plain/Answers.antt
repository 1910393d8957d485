use Rattle.pfc_code_laws.proofs.Expressions.{plain_expr, plain_selectors, plain_args}
use Rattle.pfc_code_laws.proofs.laws.expressions_are_plain.Goals as goal

pub returns-clause-expressions : goal.returns-clause-expressions
returns-clause-expressions c = λ s e. plain_expr s e

pub returns-clause-selectors : goal.returns-clause-selectors
returns-clause-selectors c = λ s t ss. plain_selectors s t ss

pub returns-clause-arguments : goal.returns-clause-arguments
returns-clause-arguments c = λ s formals args. plain_args s formals args
