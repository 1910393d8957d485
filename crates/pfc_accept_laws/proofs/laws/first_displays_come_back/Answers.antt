use Rattle.pfc_accept_laws.proofs.Displays.{displays, displays_told, step_goes_back, first_is}
use Rattle.pfc_accept_laws.proofs.Runs.{start_so, settled_so}
use Rattle.pfc_accept_laws.proofs.laws.first_displays_come_back.Goals as goal

pub returns : goal.returns
returns c =
    record {
      start = λ g input seed. start_so (displays g) (displays_told g) input seed;
      settles = λ g d all. settled_so (displays g) (displays_told g) d all;
      steps = λ g d p choice all alive inside. step_goes_back g d p choice all alive inside;
      first = λ g d q a all child is. first_is g d q a all child is;
    }
