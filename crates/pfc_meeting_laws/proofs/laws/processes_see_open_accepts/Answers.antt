use Rattle.pfc_meeting_laws.proofs.Accepts.{process_sees}
use Rattle.pfc_meeting_laws.proofs.laws.processes_see_open_accepts.Goals as goal

pub returns : goal.returns
returns c = λ g homes entries store main p a b e accepts cells sound scopes nested shows none_shown at living number link few holds small lent opened lent_to.
    process_sees g homes entries store main p a b e accepts cells sound scopes nested shows none_shown at living number link few holds small lent opened lent_to
