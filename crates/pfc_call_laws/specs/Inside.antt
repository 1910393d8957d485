-- What is seen from inside a new activation: its own cells, and behind one static link what another sees.
use Rattle.std.specs.Prelude.{ℕ, zero, suc, ◌+◌, ◌-◌, ◌==◌, nat_le, Bool, true, false, ◌&&◌, ◌||◌, ℤ, pos, unsigned_abs, List, [], ◌∷◌, get_or, ◌≡◌, Some}
use Rattle.std.specs.List.{slice_get}
use Rattle.pfc_types.specs.Types.{Forms}
use Rattle.pfc_types.specs.rules.Declarations.{name_cells}
use Rattle.pfc_types.specs.declared.types.TypeId.{TypeId}
use Rattle.pfc_types.specs.declared.scope.Meaning.TheVariants.{Variable}
use Rattle.pfc_semantics.specs.Values.{Value, ordinal}
use Rattle.pfc_semantics.specs.Layouts.{Layout}
use Rattle.pfc_semantics.specs.Programs.{Program}
use Rattle.pfc_translation.specs.Sites.{is_reference}
use Rattle.pfc_cells.specs.Homes.{cells_before}
use Rattle.pfc_cells.specs.Memory.{is_pointer}
use Rattle.pfc_standing_code.specs.Settings.{View}

-- whether a variable begins at cell d
abbrev pub begins_at : Forms → Layout → ℕ → Bool
begins_at forms [] d = false
begins_at forms (m ∷ layout) d = d == 0 || (nat_le (name_cells forms m) d && begins_at forms layout (d - name_cells forms m))

-- whether a reference begins there that stands for a location
abbrev pub refers_at : Forms → Layout → List Value → ℕ → Bool
refers_at forms [] values d = false
refers_at forms (m ∷ layout) [] d = false
refers_at forms (m ∷ layout) (v ∷ values) d =
    (d == 0 && (is_reference m && is_pointer v)) || (nat_le (name_cells forms m) d && refers_at forms layout values (d - name_cells forms m))

-- the number in the cell of such a reference
abbrev pub held_in : Bool → List ℤ → ℕ → ℕ
held_in true cells d = unsigned_abs (get_or cells d (pos 0))
held_in false cells d = 0

-- of the own activation, or of one further out
abbrev pub from_inside : {A : Type 0} → A → (ℕ → A) → ℕ → A
from_inside own outer zero = own
from_inside own outer (suc n) = outer n

-- where nothing is seen: from main's first activation no static link leads on
abbrev pub nothing_seen : View
nothing_seen = record { reaches = λ l d. false; refers = λ l d. false; first = λ l. 0; held = λ l d. 0 }

-- Inside an activation whose variables are laid out so, and have these values and cells, the first of which has this address: its static link leads to
-- the l-th activation of a view.
abbrev pub view_inside : Forms → Layout → List Value → List ℤ → ℕ → ℕ → View → View
view_inside forms layout values cells first l view = record {
  reaches = λ n d. from_inside (begins_at forms layout d) (λ m. view.reaches (l + m) d) n;
  refers = λ n d. from_inside (refers_at forms layout values d) (λ m. view.refers (l + m) d) n;
  first = λ n. from_inside first (λ m. view.first (l + m)) n;
  held = λ n d. from_inside (held_in (refers_at forms layout values d) cells d) (λ m. view.held (l + m) d) n;
}

-- The references that begin at a cell stand for the same among some values as among others.
abbrev pub StandAlike : Program → Layout → List Value → List Value → ℕ → Type 0
StandAlike g layout values other d =
    (k : ℕ) (t : TypeId) → slice_get layout k ≡ Some (Variable t true) → cells_before g.state.forms layout k ≡ d
    → get_or values k (ordinal (pos 0)) ≡ get_or other k (ordinal (pos 0))
