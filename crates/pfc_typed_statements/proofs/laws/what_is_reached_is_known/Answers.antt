use Rattle.pfc_typed_statements.proofs.Reached.{reached_known, callable_known}
use Rattle.pfc_typed_statements.proofs.laws.what_is_reached_is_known.Goals as goal

pub returns-clause-reached : goal.returns-clause-reached
returns-clause-reached c = λ t s program have. reached_known t s program have

pub returns-clause-called : goal.returns-clause-called
returns-clause-called c = λ t s lawful program have. callable_known t s lawful program have
