use Rattle.pfc_guard_laws.proofs.Tops.{returns_once, outside_at_ends}
use Rattle.pfc_guard_laws.proofs.laws.ordered_activations_enter_once.Goals as goal

pub returns : goal.returns
returns c =
    record {
      resources = λ tops g d p ordered rooted. returns_once tops g d p ordered rooted;
      monitors = λ tops g d p ordered. outside_at_ends tops g d p ordered;
    }
