use Rattle.pfc_accept_laws.proofs.Meetings.{open_behind, meeting_places, accept_stands, body_places}
use Rattle.pfc_accept_laws.proofs.NextPlaces.{next_places}
use Rattle.pfc_accept_laws.proofs.laws.accepts_stand_once.Goals as goal

pub returns : goal.returns
returns c =
    record {
      begins = λ b before all. body_places b before all;
      next = λ b doing placed. next_places b doing placed;
      behind = λ b x o k placed left. open_behind b x.env o k placed left;
      meeting = λ b x a o caller k is placed left. meeting_places b x a o caller k is placed left;
      stands = λ b x o a k is placed. accept_stands b x o a k is placed;
    }
