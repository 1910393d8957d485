use Rattle.std.proofs.Common.{ap, ◌∙◌}
use Rattle.pfc_world.specs.Tables.{at}
use Rattle.pfc_own_actions.specs.Creating.{is_under_way}
use Rattle.pfc_own_actions.proofs.Created.{under_way_is}
use Rattle.pfc_own_actions.proofs.creating.is_unfinished.Goals as goal

pub returns : goal.returns
returns c = c.is_under_way.ensures ∙ ap is_under_way c.state.ensures.state ∙ under_way_is (at c.args.world.now.rows c.args.q)
