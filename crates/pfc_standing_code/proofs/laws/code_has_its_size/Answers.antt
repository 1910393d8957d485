use Rattle.pfc_standing_code.proofs.Sizes.{sized_expr, sized_stmt, sized_stmts}
use Rattle.pfc_standing_code.proofs.laws.code_has_its_size.Goals as goal

pub returns-clause-expressions : goal.returns-clause-expressions
returns-clause-expressions c = λ s e. sized_expr s e

pub returns-clause-statement : goal.returns-clause-statement
returns-clause-statement c = λ s n t. sized_stmt s n t

pub returns-clause-statements : goal.returns-clause-statements
returns-clause-statements c = λ s n ts. sized_stmts s n ts
