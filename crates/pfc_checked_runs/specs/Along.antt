-- What is so all along the runs of a checked program.
use Rattle.pfc_semantics.specs.Configurations.{Config}
use Rattle.pfc_semantics.specs.Programs.{Program}
use Rattle.pfc_guard_laws.specs.Runs.{RunsLiving}
use Rattle.pfc_inside_laws.specs.Inside.{AreInside}
use Rattle.pfc_accept_programs.specs.Told.{TellsOfAccepts}

-- Whoever acted on the way had an activation; each child is inside each monitor whose text it performs; and of accepts it is so what rendezvous ask.
pub record IsSoAlong (g : Program) (first c : Config) : Type 0 where
  pub living : RunsLiving g first c
  pub inside : AreInside g c
  pub accepts : TellsOfAccepts g c
