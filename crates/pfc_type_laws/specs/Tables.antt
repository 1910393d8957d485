-- The table of types: types are made of earlier ones.
use Rattle.std.specs.Prelude.{ℕ, ◌<◌, ◌≤◌, ◌≡◌, ◌≢◌, true, is_some, [], ◌∷◌, length, Some}
use Rattle.pfc_types.specs.Types.{Forms, form_of, has_bounds, synchronous}
use Rattle.pfc_types.specs.Fields.{FieldList}
use Rattle.pfc_types.specs.Faulty.{BeginsPredeclared}
use Rattle.pfc_types.specs.declared.types.TypeId.{TypeId}
use Rattle.pfc_types.specs.declared.types.TypeForm.{TypeForm}
use Rattle.pfc_types.specs.declared.types.TypeForm.TheVariants.{Channel, Array, Record, Process}

abbrev pub AreBefore : ℕ → FieldList → Type 0
AreBefore n [] = Unit {0}
AreBefore n (f ∷ fields) = (f.1.place < n) × AreBefore n fields

-- what a type is made of stands before place n of the table
abbrev pub IsBefore : ℕ → TypeForm → Type 0
IsBefore n (Channel t) = t.place < n
IsBefore n (Array over low high element) = element.place < n
IsBefore n (Record fields) = AreBefore n fields
IsBefore n (Process k) = Unit {0}

-- `synchronous` is no type of a variable or of a part
abbrev pub IsNoSignal : TypeId → Type 0
IsNoSignal t = t.place ≢ synchronous.place

abbrev pub AreNoSignals : FieldList → Type 0
AreNoSignals [] = Unit {0}
AreNoSignals (f ∷ fields) = IsNoSignal f.1 × AreNoSignals fields

abbrev pub HasNoSignal : TypeForm → Type 0
HasNoSignal (Channel t) = Unit {0}
HasNoSignal (Array over low high element) = IsNoSignal element
HasNoSignal (Record fields) = AreNoSignals fields
HasNoSignal (Process k) = Unit {0}

-- a type of variables: it stands in the table
abbrev pub IsOfVariables : Forms → TypeId → Type 0
IsOfVariables forms t = (t.place < length forms) × IsNoSignal t

-- what is true of the table of types of every program
pub record IsBuiltUp (forms : Forms) : Type 0 where
  -- the six predeclared types stand first
  pub predeclared : BeginsPredeclared forms
  -- a type stands behind those that it is made of
  pub behind : (t : TypeId) (form : TypeForm) → form_of forms t ≡ Some form → IsBefore t.place form
  -- each that is not predeclared is made of something, of which nothing has the type `synchronous`
  pub made : (t : TypeId) → 6 ≤ t.place → t.place < length forms → is_some (form_of forms t) ≡ true
  pub parts : (t : TypeId) (form : TypeForm) → form_of forms t ≡ Some form → HasNoSignal form
  -- an index is of a simple type, and the low bound is not above the high one
  pub bounds : (t : TypeId) (form : TypeForm) → form_of forms t ≡ Some form → has_bounds form ≡ true
