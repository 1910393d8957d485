use Rattle.pfc_following_source.proofs.structures.Anywhere.{if_then_follows, if_then_else_follows}
use Rattle.pfc_following_source.proofs.laws.if_statements_follow.Goals as goal

pub returns-clause-without_else : goal.returns-clause-without_else
returns-clause-without_else c = λ g b env. if_then_follows g b env

pub returns-clause-with_else : goal.returns-clause-with_else
returns-clause-with_else c = λ g b env. if_then_else_follows g b env
