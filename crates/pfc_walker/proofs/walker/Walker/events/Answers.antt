use Rattle.std.proofs.Common.{IfOk}
use Rattle.std.proofs.lemmas.Result.{IfOk-weaker}
use Rattle.pfc_walker.proofs.walker.Walker.events.Goals as goal

pub events_of-requires : goal.events_of-requires
events_of-requires c = let (g, c', walks) = c.requires in (g, c', walks.program, walks.stands)

pub returns : goal.returns
returns c = IfOk-weaker c.events_of.result _ _ (λ events h g c' walks. h g c' walks.program walks.stands) c.events_of.ensures
