-- Where runs may come.
use Rattle.std.specs.Prelude.{ℕ, ◌≡◌, ◌≢◌, true, List, [], ◌∷◌, All}
use Rattle.pfc_state.specs.Stands.{is_ready}
use Rattle.pfc_world.specs.Tables.{at}
use Rattle.pfc_semantics.specs.Programs.{Program}
use Rattle.pfc_types.specs.rules.Expressions.{Env}
use Rattle.pfc_semantics.specs.Remainders.{Remainder, finishes}
use Rattle.pfc_semantics.specs.Configurations.{of_resource, of_remainder, Activation, Config, activity_of}
use Rattle.pfc_semantics.specs.Steps.{next_of}
use Rattle.pfc_semantics.specs.Events.{step}
use Rattle.pfc_semantics.specs.Time.{settled_config}

-- A run from the first configuration comes to this one: in each action some ready process acts, with some choice, from a settled configuration.
pub data RunsTo (g : Program) (first : Config) : Config → Type 0 where
  at_first : RunsTo g first first
  acts : (c : Config) (p choice : ℕ) → RunsTo g first c → is_ready (at (settled_config c).table.rows p) ≡ true
      → RunsTo g first (step g (settled_config c) p choice).config

-- ## Returns from resources

-- Where a process is about to return from a procedure of a resource that it has called from outside, the activations below have not entered the resource, and
-- there are some. Who has entered a resource and calls one of its procedures from outside waits for what it holds itself, and nobody else hands that over.
abbrev pub ReturnsOnce : Program → Config → ℕ → Type 0
ReturnsOnce g c p =
    (line : ℕ) (a : Activation) (below : List Activation) (env : Env) (k : Remainder) (r : ℕ) → next_of g c p ≡ finishes line
    → (activity_of g c p).activations ≡ a ∷ below → a.caller ≡ of_remainder env k → a.mark ≡ of_resource r
    → (below ≢ []) × All (λ (b : Activation). b.mark ≢ of_resource r) below

-- a run in which all returns are so
pub data RunsOnce (g : Program) (first : Config) : Config → Type 0 where
  once_first : RunsOnce g first first
  acts_once : (c : Config) (p choice : ℕ) → RunsOnce g first c → is_ready (at (settled_config c).table.rows p) ≡ true → ReturnsOnce g (settled_config c) p
      → RunsOnce g first (step g (settled_config c) p choice).config

-- ## Runs of the living

-- A run in which whoever acts has an activation. So it is in every run of a checked program: a process that has none was not activated, or it is finished.
pub data RunsLiving (g : Program) (first : Config) : Config → Type 0 where
  living_first : RunsLiving g first first
  acts_living : (c : Config) (p choice : ℕ) → RunsLiving g first c → is_ready (at (settled_config c).table.rows p) ≡ true
      → (activity_of g (settled_config c) p).activations ≢ [] → RunsLiving g first (step g (settled_config c) p choice).config
