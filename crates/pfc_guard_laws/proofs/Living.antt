-- Where whoever acts has an activation the activations of each process are in order, and it returns once from what it has entered.
use Rattle.std.proofs.Common.{ℕ, List, [], ◌∷◌, Some, Ok}
use Rattle.pfc_semantics.specs.Programs.{Program}
use Rattle.pfc_semantics.specs.Configurations.{main_activation, Config, activity_of, start}
use Rattle.pfc_semantics.specs.Time.{settled_config}
use Rattle.pfc_guard_laws.specs.Tops.{Tops, AreOrdered, IsRooted}
use Rattle.pfc_guard_laws.specs.Configurations.{SuitsInOrder}
use Rattle.pfc_guard_laws.specs.Runs.{ReturnsOnce, RunsOnce, once_first, acts_once, RunsLiving, living_first, acts_living}
use Rattle.pfc_guard_laws.specs.Keeping.{IsOutsideAtEnds}
use Rattle.pfc_guard_laws.proofs.Steps.{SuitsEffect}
use Rattle.pfc_guard_laws.proofs.Runs.{anything, settled_suits, start_suits, step_suits}
use Rattle.pfc_guard_laws.proofs.Tops.{returns_once, outside_at_ends}

module _ (tops : Tops) (g : Program) (program : SuitsInOrder g (Some tops)) where
  living_come : (first c : Config) → SuitsEffect g (Some tops) anything (Ok first) → RunsLiving g first c → SuitsEffect g (Some tops) anything (Ok c)
  living_come first _ so living_first = so
  living_come first _ so (acts_living d p choice before ready lives) =
      let come = living_come first d so before in
      step_suits g (Some tops) program (settled_config d) p choice ready lives (come.0, settled_suits g (Some tops) anything d come.0 come.1)

  module _ (input : List ℕ) (seed : ℕ) where
    first_so : SuitsEffect g (Some tops) anything (Ok (start g input seed))
    first_so = (λ q. main_activation g ∷ [], start_suits g (Some tops) anything program input seed)

    pub are_ordered :
        (c : Config) (p : ℕ) → RunsLiving g (start g input seed) c
        → AreOrdered tops (activity_of g (settled_config c) p).activations × IsRooted (activity_of g (settled_config c) p).activations
    are_ordered c p comes =
        let come = living_come (start g input seed) c first_so comes in
        (settled_suits g (Some tops) anything c come.0 come.1 p).ordered

    pub returns_so : (c : Config) (p : ℕ) → RunsLiving g (start g input seed) c → ReturnsOnce g (settled_config c) p
    returns_so c p comes = let so = are_ordered c p comes in returns_once tops g (settled_config c) p so.0 so.1

    pub outside_so : (c : Config) (p : ℕ) → RunsLiving g (start g input seed) c → IsOutsideAtEnds g (settled_config c) p
    outside_so c p comes = outside_at_ends tops g (settled_config c) p (are_ordered c p comes).0

    pub runs_once : (c : Config) → RunsLiving g (start g input seed) c → RunsOnce g (start g input seed) c
    runs_once _ living_first = once_first
    runs_once _ (acts_living d p choice before ready lives) = acts_once d p choice (runs_once d before) ready (returns_so d p before)
