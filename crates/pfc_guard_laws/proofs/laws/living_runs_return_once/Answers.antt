use Rattle.pfc_guard_laws.proofs.Living.{are_ordered, returns_so, outside_so, runs_once}
use Rattle.pfc_guard_laws.proofs.laws.living_runs_return_once.Goals as goal

pub returns : goal.returns
returns c =
    record {
      ordered = λ tops g input seed d p program comes. are_ordered tops g program input seed d p comes;
      runs = λ tops g input seed d program comes. runs_once tops g program input seed d comes;
      resources = λ tops g input seed d p program comes. returns_so tops g program input seed d p comes;
      monitors = λ tops g input seed d p program comes. outside_so tops g program input seed d p comes;
    }
