-- Changes that keep what an activation sees.
use Rattle.std.specs.Prelude.{ℕ, ◌≡◌, pos, Bool, true, get_or, Some}
use Rattle.std.specs.List.{slice_get}
use Rattle.pfc_types.specs.declared.types.TypeId.{TypeId}
use Rattle.pfc_types.specs.declared.scope.Meaning.TheVariants.{Variable}
use Rattle.pfc_semantics.specs.Values.{ordinal}
use Rattle.pfc_semantics.specs.Store.{Store, values_in}
use Rattle.pfc_semantics.specs.Programs.{Program}
use Rattle.pfc_cells.specs.Homes.{Home, Homes, layout_at}
use Rattle.pfc_cells.specs.Memory.{Entry, Entries}
use Rattle.pfc_views.specs.Views.{IsLiving}

-- Homes and living activations before and after, and the store: each activation has its home still, those that are kept live, and their reference
-- parameters stand for what they stood for.
pub record IsLike (g : Program) (keeps : ℕ → Bool) (homes homes' : Homes) (entries entries' : Entries) (store store' : Store) : Type 0 where
  pub at_home : (a : ℕ) (home : Home) → homes a ≡ Some home → homes' a ≡ Some home
  pub living : (q : ℕ) (e : Entry) → keeps e.activation ≡ true → IsLiving e (entries q) → IsLiving e (entries' q)
  pub references : (a k : ℕ) (home : Home) (t : TypeId) → keeps a ≡ true → homes a ≡ Some home → slice_get (layout_at g home) k ≡ Some (Variable t true)
      → get_or (values_in store' a) k (ordinal (pos 0)) ≡ get_or (values_in store a) k (ordinal (pos 0))
