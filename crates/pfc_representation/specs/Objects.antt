-- The kinds of objects: how far the numbers of each go.
use Rattle.std.specs.Prelude.{ℕ, ◌≡◌, ◌≤◌, ◌<◌, pos, length, Some}
use Rattle.pfc_types.specs.Types.{semaphore, condition, form_of}
use Rattle.pfc_types.specs.declared.types.TypeId.{TypeId}
use Rattle.pfc_types.specs.declared.types.TypeForm.TheVariants.{Channel, Process}
use Rattle.pfc_semantics.specs.Values.{Location, ordinal}
use Rattle.pfc_semantics.specs.Store.{value_at}
use Rattle.pfc_semantics.specs.Processes.{declaration_of}
use Rattle.pfc_semantics.specs.Configurations.{Config}
use Rattle.pfc_stacks.specs.declared.refs.Ref.{Ref}
use Rattle.pfc_cells.specs.Homes.{Homes, Lies}
use Rattle.pfc_representation.specs.Levels.{Facts, program_in}

-- Each object at a location has a number that is one of its kind. One channel carries messages of one type.
pub record AreOfKinds (facts : Facts) (homes : Homes) (c : Config) : Type 0 where
  pub semaphores : (l : Location) (r : Ref) → Lies (program_in facts) homes l (Some semaphore) r
      → (n : ℕ) × (value_at c.store l ≡ ordinal (pos n)) × (n < length c.counts)
  pub conditions : (l : Location) (r : Ref) → Lies (program_in facts) homes l (Some condition) r
      → (n : ℕ) × (value_at c.store l ≡ ordinal (pos n)) × (n < length (program_in facts).objects.conditions)
  pub processes : (l : Location) (t : TypeId) (k : ℕ) (r : Ref) → Lies (program_in facts) homes l (Some t) r
      → form_of (program_in facts).state.forms t ≡ Some (Process k)
      → (n : ℕ) × (value_at c.store l ≡ ordinal (pos n)) × (1 ≤ n) × (n < length c.activities) × (declaration_of (program_in facts) n ≡ k)
  pub channel_numbers : (l : Location) (t v : TypeId) (r : Ref) → Lies (program_in facts) homes l (Some t) r
      → form_of (program_in facts).state.forms t ≡ Some (Channel v)
      → (n : ℕ) × (value_at c.store l ≡ ordinal (pos n)) × (n < (program_in facts).objects.channels)
  pub channels : (l m : Location) (t u v w : TypeId) (r s : Ref) → Lies (program_in facts) homes l (Some t) r → Lies (program_in facts) homes m (Some u) s
      → form_of (program_in facts).state.forms t ≡ Some (Channel v) → form_of (program_in facts).state.forms u ≡ Some (Channel w)
      → value_at c.store l ≡ value_at c.store m → v ≡ w
