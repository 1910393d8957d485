use Rattle.pfc_nesting_laws.proofs.Programs.{has_scopes, is_laid, nested_in, nested_in_mains, main_alone, main_found, main_has_none}
use Rattle.pfc_nesting_laws.proofs.laws.program_blocks_are_nested.Goals as goal

pub returns-clause-scopes : goal.returns-clause-scopes
returns-clause-scopes c = λ t k b lawful at. has_scopes t lawful k b at

pub returns-clause-nested : goal.returns-clause-nested
returns-clause-nested c = λ t j k b callee lawful at at_callee seen. nested_in t lawful j k b callee at at_callee seen

pub returns-clause-main : goal.returns-clause-main
returns-clause-main c = λ t lawful. (main_alone t lawful, main_found t lawful, λ i. main_has_none t lawful i)

pub returns-clause-in_main : goal.returns-clause-in_main
returns-clause-in_main c = λ t k b callee lawful alone accepts at outer. nested_in_mains t lawful b alone accepts k callee at outer

pub returns-clause-layouts : goal.returns-clause-layouts
returns-clause-layouts c = λ t k i b lawful at accept. is_laid t lawful k b at i accept
