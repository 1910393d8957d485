use Rattle.pfc_types.specs.rules.Whole.{finished}
use Rattle.pfc_standing_code.specs.Typed.{ByName, InExpressions, FromOutside, ByRequeue}
use Rattle.pfc_callee_laws.proofs.Calls.{called_at}
use Rattle.pfc_callee_laws.proofs.laws.called_subs_are_nested.Goals as goal

pub returns-clause-by_name : goal.returns-clause-by_name
returns-clause-by_name c = λ t s scope formals lawful clean same body is. called_at t lawful clean s scope formals ByName same body is

pub returns-clause-in_expressions : goal.returns-clause-in_expressions
returns-clause-in_expressions c = λ t s scope formals lawful clean same body is. called_at t lawful clean s scope formals InExpressions same body is

pub returns-clause-from_outside : goal.returns-clause-from_outside
returns-clause-from_outside c = λ t s n scope formals lawful clean same body is.
    called_at t lawful clean s scope formals (FromOutside (finished t).blocks n) same body is

pub returns-clause-by_requeue : goal.returns-clause-by_requeue
returns-clause-by_requeue c = λ t s scope formals lawful clean same body is. called_at t lawful clean s scope formals (ByRequeue s.block) same body is
