use Rattle.pfc_holding_laws.proofs.Inside.{actor_alive, ready_alive}
use Rattle.pfc_holding_laws.proofs.laws.who_acts_is_alive.Goals as goal

pub returns : goal.returns
returns c =
    record {
      acts = λ facts m d p level acting. actor_alive facts m d p level acting;
      ready = λ facts m d p represents among ready. ready_alive facts m d p represents among ready;
    }
