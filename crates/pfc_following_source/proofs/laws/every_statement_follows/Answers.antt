use Rattle.pfc_following_source.proofs.structures.Anywhere.{every_statement_anywhere, every_list_anywhere}
use Rattle.pfc_following_source.proofs.laws.every_statement_follows.Goals as goal

pub returns-clause-statement : goal.returns-clause-statement
returns-clause-statement c = λ g b env. every_statement_anywhere g b env

pub returns-clause-list : goal.returns-clause-list
returns-clause-list c = λ g b env. every_list_anywhere g b env
