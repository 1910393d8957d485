-- What is kept of a run, and tells of the accepts in it.
use Rattle.pfc_semantics.specs.Configurations.{Config}
use Rattle.pfc_semantics.specs.Programs.{Program}
use Rattle.pfc_accept_laws.specs.Displays.{AllGoBack}
use Rattle.pfc_accept_laws.specs.Placed.{AllPlaced}
use Rattle.pfc_accept_laws.specs.Shown.{AllPass}

-- Displays go back to those with which processes began, who waits for an entry passes locations by reference, and all processes are placed.
pub record TellsOfAccepts (g : Program) (c : Config) : Type 0 where
  pub back : AllGoBack g c
  pub passed : AllPass g c
  pub placed : AllPlaced g c
