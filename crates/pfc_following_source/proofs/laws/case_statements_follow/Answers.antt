use Rattle.pfc_following_source.proofs.structures.Anywhere.{case_of_follows, arm_list_follows}
use Rattle.pfc_following_source.proofs.laws.case_statements_follow.Goals as goal

pub returns-clause-statement : goal.returns-clause-statement
returns-clause-statement c = λ g b env. case_of_follows g b env

pub returns-clause-arms : goal.returns-clause-arms
returns-clause-arms c = λ g b env. arm_list_follows g b env
