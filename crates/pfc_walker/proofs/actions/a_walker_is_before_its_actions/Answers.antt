use Rattle.pfc_walker.proofs.Acted.{walks_before}
use Rattle.pfc_walker.proofs.actions.a_walker_is_before_its_actions.Goals as goal

pub returns : goal.returns
returns c = walks_before
