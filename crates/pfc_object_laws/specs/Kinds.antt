-- What the number of an object is, among all objects of its kind.
use Rattle.std.specs.Prelude.{ℕ, ◌-◌, ◌<◌, ◌≤◌, ◌≡◌, pos, List, Some}
use Rattle.std.specs.List.{slice_get}
use Rattle.pfc_types.specs.Types.{Forms, semaphore, condition, form_of}
use Rattle.pfc_types.specs.declared.types.TypeId.{TypeId}
use Rattle.pfc_types.specs.declared.types.TypeForm.TheVariants.{Channel, Process}
use Rattle.pfc_semantics.specs.Values.{Value, ordinal, part}
use Rattle.pfc_cells.specs.Shapes.{IsPath}

-- all objects: how many semaphores and conditions there are, what each channel carries, and the declaration of each process
pub record Kinds : Type 0 where
  pub semaphores : ℕ
  pub conditions : ℕ
  pub carried : List TypeId
  pub processes : List ℕ

-- An object is its number, which is one of its kind: a channel's is one of a channel that carries the same, a process's one of a process of the same
-- declaration, counted from 1.
pub record HasKind (forms : Forms) (all : Kinds) (t : TypeId) (v : Value) : Type 0 where
  pub semaphore : t ≡ semaphore → (n : ℕ) × (v ≡ ordinal (pos n)) × (n < all.semaphores)
  pub condition : t ≡ condition → (n : ℕ) × (v ≡ ordinal (pos n)) × (n < all.conditions)
  pub channel : (u : TypeId) → form_of forms t ≡ Some (Channel u) → (n : ℕ) × (v ≡ ordinal (pos n)) × (slice_get all.carried n ≡ Some u)
  pub process :
      (k : ℕ) → form_of forms t ≡ Some (Process k) → (n : ℕ) × (v ≡ ordinal (pos n)) × (1 ≤ n) × (slice_get all.processes (n - 1) ≡ Some k)

-- so each part of a value
abbrev pub EachKind : Forms → Kinds → TypeId → Value → Type 0
EachKind forms all t v = (path : List ℕ) (u : TypeId) (o : ℕ) → IsPath forms (Some t) path (Some u) o → HasKind forms all u (part path v)
