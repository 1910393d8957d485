use Rattle.pfc_call_laws.proofs.Agreeing.{views_agree}
use Rattle.pfc_call_laws.proofs.laws.views_from_inside_agree.Goals as goal

pub returns : goal.returns
returns c = λ g homes homes' layout values other cells other_cells first l n d view sound grows holds holds_other alike.
    views_agree g sound homes homes' grows layout values other cells other_cells holds holds_other d alike first l view n
