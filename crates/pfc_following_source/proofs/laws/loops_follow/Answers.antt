use Rattle.pfc_following_source.proofs.structures.Anywhere.{while_do_follows, repeat_until_follows, repeat_forever_follows}
use Rattle.pfc_following_source.proofs.laws.loops_follow.Goals as goal

pub returns-clause-while_loops : goal.returns-clause-while_loops
returns-clause-while_loops c = λ g b env. while_do_follows g b env

pub returns-clause-repeat_loops : goal.returns-clause-repeat_loops
returns-clause-repeat_loops c = λ g b env. repeat_until_follows g b env

pub returns-clause-endless_loops : goal.returns-clause-endless_loops
returns-clause-endless_loops c = λ g b env. repeat_forever_follows g b env
