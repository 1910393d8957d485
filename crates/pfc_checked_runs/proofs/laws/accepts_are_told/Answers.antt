use Rattle.pfc_checked_runs.proofs.accepts.Placed.{keeps_offers, next_stands, next_stand}
use Rattle.pfc_checked_runs.proofs.accepts.Shown.{keeps_accepts}
use Rattle.pfc_checked_runs.proofs.laws.accepts_are_told.Goals as goal

pub returns : goal.returns
returns c =
    record {
      accepts = λ facts d back passed. keeps_accepts facts d back passed;
      offers = λ facts d placed. keeps_offers facts d placed;
      meets = λ facts d p x o k a placed next offer. next_stands facts d placed p x o k a next offer;
      decides = λ facts d p x sel k placed next. next_stand facts d placed p x sel k next;
    }
