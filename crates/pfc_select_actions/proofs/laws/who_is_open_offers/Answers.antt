use Rattle.pfc_select_actions.proofs.Agreeing.{who_offers}
use Rattle.pfc_select_actions.proofs.laws.who_is_open_offers.Goals as goal

pub returns : goal.returns
returns c = who_offers
