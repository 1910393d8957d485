use Rattle.std.proofs.Common.{ap, ◌∙◌}
use Rattle.pfc_world.specs.Tables.{at}
use Rattle.pfc_creating.specs.Creating.{is_under_way}
use Rattle.pfc_creating.proofs.Created.{under_way_is}
use Rattle.pfc_creating.proofs.numbers.is_unfinished.Goals as goal

pub returns : goal.returns
returns c = c.is_under_way.ensures ∙ ap is_under_way c.state.ensures.state ∙ under_way_is (at c.args.world.now.rows c.args.n)
