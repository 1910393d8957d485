-- Faulty constants, ranges and groups of parameters as they are written.
use Rattle.std.proofs.Common.{◌≡◌, ℕ, Bool, true, false, not, ◌&&◌, ◌||◌, if◌then◌else◌, is_some, List, [], ◌∷◌, Option, Some, None, refl, sym, ap, ap₂, ◌∙◌}
use Rattle.std.specs.Prelude.{int_le}
use Rattle.pfc_base.specs.declared.places.Place.{Place}
use Rattle.pfc_tree.specs.Symbols.{Text}
use Rattle.pfc_tree.specs.declared.tree.Sign.{Sign}
use Rattle.pfc_tree.specs.declared.tree.Constant.{Constant}
use Rattle.pfc_tree.specs.declared.tree.Constant.TheVariants.{Number, Named as NamedConstant, Literal}
use Rattle.pfc_tree.specs.declared.tree.Range.{Range}
use Rattle.pfc_tree.specs.trees.Types.{GroupTree}
use Rattle.pfc_types.specs.Faults.{unless}
use Rattle.pfc_types.specs.Faulty.{IsSimpleConstant, HoldSimpleConstants}
use Rattle.pfc_types.specs.Types.{Forms, integer, is_same, is_simple, synchronous}
use Rattle.pfc_types.specs.Blocks.{State}
use Rattle.pfc_types.specs.Scopes.{Names, Level, look}
use Rattle.pfc_types.specs.declared.types.TypeId.{TypeId}
use Rattle.pfc_types.specs.declared.scope.Meaning.{Meaning}
use Rattle.pfc_types.specs.declared.scope.Meaning.TheVariants.{Constant as AConstant, Named, Variable, Sub, Module, Process, Entry, Predeclared, Faulty}
use Rattle.pfc_types.specs.rules.Kinds.{a_constant, name_rules, type_name_rules, named_type}
use Rattle.pfc_types.specs.rules.Constants.{Ordinal, signed, sign_fits, sign_rule, named_constant, char_value, is_char, constant_value, constant_place}
use Rattle.pfc_types.specs.rules.Constants.{broken_constant, Extent, are_bounds, extent_of, range_extent, bounds_rule, broken_range, broken_ranges}
use Rattle.pfc_types.specs.rules.Constants.{range_extents}
use Rattle.pfc_types.specs.rules.Declarations.{passed_fits, parameter_fits, parameter_rules, parameter_type, group_type, broken_group}
use Rattle.pfc_types.specs.rules.FaultyNames.{stands_faulty, constant_uses_faulty, ranges_use_faulty, group_uses_faulty}
use Rattle.pfc_types.proofs.Clean.{clean, clean-unless, some-where_so, and-false, and-right, related_parts, two_parts}
use Rattle.pfc_types.proofs.Looks.{look_simple}

-- ## Constants

chosen : {A : Type 0} (b : Bool) (x : A) (p : Place) (n : ℕ) → is_some (if b then Some x else None) ≡ ((true && clean (unless b p n)) && true)
chosen true x p n = refl
chosen false x p n = refl

named_exact : (sign : Option (Sign × Place)) (m : Option Meaning) (p : Place) →
    is_some (named_constant sign m) ≡ ((clean (name_rules a_constant m p) && clean (sign_rule sign m)) && not (stands_faulty m))
named_exact sign None p = refl
named_exact None (Some (AConstant t v)) p = refl
named_exact (Some sign) (Some (AConstant t v)) p = chosen (is_same t integer) (record { t = t; value = signed (Some sign) v }) sign.1 322
named_exact sign (Some (Named t)) p = refl
named_exact sign (Some (Variable t r)) p = refl
named_exact sign (Some (Sub n)) p = refl
named_exact sign (Some (Module n)) p = refl
named_exact sign (Some (Process n)) p = refl
named_exact sign (Some (Entry n)) p = refl
named_exact sign (Some (Predeclared k)) p = refl
named_exact None (Some Faulty) p = refl
named_exact (Some sign) (Some Faulty) p = refl

pub constant_exact : (scopes : List Names) (view : List Level) (c : Constant) →
    is_some (constant_value scopes view c) ≡ (clean (broken_constant scopes view c) && not (constant_uses_faulty scopes view c))
constant_exact scopes view (Number sign n p) = refl
constant_exact scopes view (NamedConstant sign x p) = named_exact sign (look scopes view x) p
constant_exact scopes view (Literal x p) = by x
  where
    by : (x : Text) → is_some (char_value x) ≡ (clean (unless (is_char x) p 325) && not false)
    by [] = refl
    by (b ∷ []) = refl
    by (b ∷ c ∷ rest) = refl

-- the value of a constant is of a simple type
abbrev pub IsSimpleValue : Option Ordinal → Type 0
IsSimpleValue None = Unit {0}
IsSimpleValue (Some c) = is_simple c.t ≡ true

named_simple : (sign : Option (Sign × Place)) (m : Option Meaning) → IsSimpleConstant m → IsSimpleValue (named_constant sign m)
named_simple sign None h = tt
named_simple sign (Some (AConstant t v)) h = by (sign_fits sign t)
  where
    by : (b : Bool) → IsSimpleValue (if b then Some (record { t = t; value = signed sign v }) else None)
    by true = h
    by false = tt
named_simple sign (Some (Named t)) h = tt
named_simple sign (Some (Variable t r)) h = tt
named_simple sign (Some (Sub n)) h = tt
named_simple sign (Some (Module n)) h = tt
named_simple sign (Some (Process n)) h = tt
named_simple sign (Some (Entry n)) h = tt
named_simple sign (Some (Predeclared k)) h = tt
named_simple sign (Some Faulty) h = tt

pub constant_simple : (scopes : List Names) → HoldSimpleConstants scopes → (view : List Level) (c : Constant) → IsSimpleValue (constant_value scopes view c)
constant_simple scopes h view (Number sign n p) = refl
constant_simple scopes h view (NamedConstant sign x p) = named_simple sign (look scopes view x) (look_simple scopes h view x)
constant_simple scopes h view (Literal x p) = by x
  where
    by : (x : Text) → IsSimpleValue (char_value x)
    by [] = tt
    by (b ∷ []) = refl
    by (b ∷ c ∷ rest) = tt

-- ## Ranges

extent_exact : (a b : Option Ordinal) (p : Place) → is_some (extent_of a b) ≡ ((is_some a && is_some b) && clean (bounds_rule a b p))
extent_exact None b p = refl
extent_exact (Some a) None p = refl
extent_exact (Some a) (Some b) p = by (are_bounds a b)
  where
    by : (t : Bool) → is_some {T = Extent} (if t then Some (record { index = a.t; low = a.value; high = b.value }) else None) ≡ clean (unless t p 303)
    by true = refl
    by false = refl

range_exact : (scopes : List Names) (view : List Level) (r : Range) →
    is_some (range_extent scopes view r) ≡ (clean (broken_range scopes view r) && not
    (constant_uses_faulty scopes view r.low || constant_uses_faulty scopes view r.high))
range_exact scopes view r =
    extent_exact (constant_value scopes view r.low) (constant_value scopes view r.high) (constant_place r.low)
    ∙ ap₂ (λ x y. (x && y) && clean (bounds_rule (constant_value scopes view r.low) (constant_value scopes view r.high) (constant_place r.low)))
    (constant_exact scopes view r.low) (constant_exact scopes view r.high)
    ∙ related_parts (clean (broken_constant scopes view r.low)) (constant_uses_faulty scopes view r.low) (clean (broken_constant scopes view r.high))
    (constant_uses_faulty scopes view r.high)
    (clean (bounds_rule (constant_value scopes view r.low) (constant_value scopes view r.high) (constant_place r.low)))

abbrev pub all_some : List (Option Extent) → Bool
all_some [] = true
all_some (r ∷ rs) = is_some r && all_some rs

pub extents_exact : (scopes : List Names) (view : List Level) (rs : List Range) →
    all_some (range_extents scopes view rs) ≡ (clean (broken_ranges scopes view rs) && not (ranges_use_faulty scopes view rs))
extents_exact scopes view [] = refl
extents_exact scopes view (r ∷ rs) =
    ap₂ (λ x y. x && y) (range_exact scopes view r) (extents_exact scopes view rs)
    ∙ two_parts (clean (broken_range scopes view r)) (constant_uses_faulty scopes view r.low || constant_uses_faulty scopes view r.high)
    (clean (broken_ranges scopes view rs)) (ranges_use_faulty scopes view rs)

-- bounds of a simple type, the low one not above the high one
abbrev pub AreBounds : List (Option Extent) → Type 0
AreBounds [] = Unit {0}
AreBounds (None ∷ rs) = AreBounds rs
AreBounds (Some r ∷ rs) = ((is_simple r.index && int_le r.low r.high) ≡ true) × AreBounds rs

pub extents_bounds : (scopes : List Names) → HoldSimpleConstants scopes → (view : List Level) (rs : List Range) → AreBounds (range_extents scopes view rs)
extents_bounds scopes h view [] = tt
extents_bounds scopes h view (r ∷ rs) = by (constant_value scopes view r.low) (constant_value scopes view r.high)
    (constant_simple scopes h view r.low) (extents_bounds scopes h view rs)
  where
    by : (a b : Option Ordinal) → IsSimpleValue a → AreBounds (range_extents scopes view rs) → AreBounds (extent_of a b ∷ range_extents scopes view rs)
    by None b s others = others
    by (Some a) None s others = others
    by (Some a) (Some b) s others = at (are_bounds a b) refl
      where
        at : (t : Bool) → are_bounds a b ≡ t →
            AreBounds ((if t then Some (record { index = a.t; low = a.value; high = b.value }) else None) ∷ range_extents scopes view rs)
        at true e = (ap₂ (λ x y. x && y) s (and-right (is_same a.t b.t) (int_le a.value b.value) e), others)
        at false e = others

-- ## Names of types, and groups of parameters

pub named_type_exact : (carried : Bool) (m : Option Meaning) (p : Place) →
    is_some (named_type carried m) ≡ (clean (type_name_rules carried m p) && not (stands_faulty m))
named_type_exact carried None p = refl
named_type_exact carried (Some (Named t)) p = some-where_so (carried || not (is_same t synchronous)) t ∙ true_behind (carried || not (is_same t synchronous)) ∙
    ap (λ x. x && true) (sym (clean-unless (carried || not (is_same t synchronous)) p 411))
  where
    true_behind : (b : Bool) → b ≡ (b && true)
    true_behind true = refl
    true_behind false = refl
named_type_exact carried (Some (AConstant t v)) p = refl
named_type_exact carried (Some (Variable t r)) p = refl
named_type_exact carried (Some (Sub n)) p = refl
named_type_exact carried (Some (Module n)) p = refl
named_type_exact carried (Some (Process n)) p = refl
named_type_exact carried (Some (Entry n)) p = refl
named_type_exact carried (Some (Predeclared k)) p = refl
named_type_exact carried (Some Faulty) p = sym (and-false (clean (type_name_rules carried (Some Faulty) p)))

parameter_exact : (reference : Bool) (forms : Forms) (t : Option TypeId) (p : Place) →
    is_some (parameter_type reference forms t) ≡ (is_some t && clean (parameter_rules reference forms t p))
parameter_exact reference forms None p = refl
parameter_exact reference forms (Some t) p =
    some-where_so (passed_fits reference forms t && parameter_fits forms t) t ∙
    sym (ap₂ (λ x y. x && y) (clean-unless (passed_fits reference forms t) p 406) (clean-unless (parameter_fits forms t) p 407))

pub group_exact : (s : State) (view : List Level) (g : GroupTree) →
    is_some (group_type s view g) ≡ (clean (broken_group s view g) && not (group_uses_faulty s.blocks.scopes view g))
group_exact s view g =
    parameter_exact g.reference s.forms (named_type false (look s.blocks.scopes view g.form.0)) g.form.1
    ∙ ap (λ x. x && clean (parameter_rules g.reference s.forms (named_type false (look s.blocks.scopes view g.form.0)) g.form.1))
    (named_type_exact false (look s.blocks.scopes view g.form.0) g.form.1)
    ∙ by (clean (type_name_rules false (look s.blocks.scopes view g.form.0) g.form.1)) (stands_faulty (look s.blocks.scopes view g.form.0))
    (clean (parameter_rules g.reference s.forms (named_type false (look s.blocks.scopes view g.form.0)) g.form.1))
  where
    by : (a u r : Bool) → ((a && not u) && r) ≡ ((a && r) && not u)
    by false u r = refl
    by true true r = sym (and-false r)
    by true false true = refl
    by true false false = refl
