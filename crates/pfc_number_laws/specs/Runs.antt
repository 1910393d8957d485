-- Where runs may come, whoever acts, and what actions take there.
use Rattle.std.specs.Prelude.{ℕ}
use Rattle.pfc_semantics.specs.Programs.{Program}
use Rattle.pfc_semantics.specs.Remainders.{Action, initials, delays}
use Rattle.pfc_semantics.specs.Configurations.{Config}
use Rattle.pfc_semantics.specs.Events.{step}
use Rattle.pfc_semantics.specs.Time.{settled_config}
use Rattle.pfc_run_invariants.specs.Fitting.{Fits}

-- A run from the first configuration comes to this one: in each action some process acts, with some choice, from a settled configuration.
pub data ComesTo (g : Program) (first : Config) : Config → Type 0 where
  at_first : ComesTo g first first
  acts : (c : Config) (p choice : ℕ) → ComesTo g first c → ComesTo g first (step g (settled_config c) p choice).config

-- what an action takes as a count or as a rank has 32 bits
abbrev pub TakesSmall : Action → Type 0
TakesSmall (initials x s n k) = Fits n
TakesSmall (delays x s n k) = Fits n
TakesSmall n = Unit {0}
