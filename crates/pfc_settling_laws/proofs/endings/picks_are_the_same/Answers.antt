use Rattle.std.proofs.Common.{List, ap}
use Rattle.pfc_sched.specs.Picks.{picked, after_pick}
use Rattle.pfc_state.specs.Stands.{Stand}
use Rattle.pfc_settling_laws.proofs.Reported.{rows_same}
use Rattle.pfc_settling_laws.proofs.endings.picks_are_the_same.Goals as goal

pub returns-clause-pick : goal.returns-clause-pick
returns-clause-pick c = λ facts m config picking is. ap (λ (rows : List Stand). picked picking rows) (rows_same facts m config is)

pub returns-clause-after : goal.returns-clause-after
returns-clause-after c = λ facts m config picking is. ap (λ (rows : List Stand). after_pick picking rows) (rows_same facts m config is)
