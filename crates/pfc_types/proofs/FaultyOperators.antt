-- Faulty operands, selectors and arguments: what joins two parts has a type exactly where both have theirs and its own rule holds.
use Rattle.std.proofs.Common.{◌≡◌, ℕ, Bool, true, false, not, ◌&&◌, ◌==◌, if◌then◌else◌, is_some, List, [], ◌∷◌, Option, Some, None, refl, sym, ap, ap₂, ◌∙◌}
use Rattle.std.proofs.Common.{arith}
use Rattle.std.proofs.lemmas.Bool.Decides.{nat_tests}
use Rattle.pfc_base.specs.declared.places.Place.{Place}
use Rattle.pfc_tree.specs.Symbols.{Text}
use Rattle.pfc_tree.specs.declared.tree.Sign.{Sign}
use Rattle.pfc_types.specs.Faults.{unless}
use Rattle.pfc_types.specs.Faulty.{BeginsPredeclared}
use Rattle.pfc_types.specs.Types.{Forms, integer, boolean, is_same, is_simple, form_of, array_form, field_form}
use Rattle.pfc_types.specs.declared.types.TypeId.{TypeId}
use Rattle.pfc_types.specs.declared.heads.Formal.{Formal}
use Rattle.pfc_types.specs.rules.Kinds.{where_so, has, may_have, has_object, value_rule}
use Rattle.pfc_types.specs.rules.Expressions.{operated, operator_rule, signed_type, signed_rule, related_type, relation_rule, element_of, element_type}
use Rattle.pfc_types.specs.rules.Expressions.{may_index, index_rule, field_type, is_field, field_rule}
use Rattle.pfc_types.specs.rules.Routines.{Want, a_value, a_simple_value, a_variable_of, wants_for, suits, may_suit, fits_want, want_rules}
use Rattle.pfc_types.specs.rules.FaultyNames.{all_typed}
use Rattle.pfc_types.proofs.Clean.{clean, clean-unless, some-where_so, and-false}
use Rattle.pfc_types.proofs.PredeclaredTypes.{simple_no_object}

-- ## Operators

pub operated_exactly : (t : TypeId) (a b : Option TypeId) (p : Place) → is_some (operated t a b) ≡ ((is_some a && is_some b) && clean (operator_rule t a b p))
operated_exactly t None b p = refl
operated_exactly t (Some u) None p = ap (λ x. is_some (where_so x t)) (and-false (is_same u t))
operated_exactly t (Some u) (Some v) p = some-where_so (is_same u t && is_same v t) t ∙ sym (clean-unless (is_same u t && is_same v t) p 311)

pub signed_exactly : (sign : Option (Sign × Place)) (t : Option TypeId) → is_some (signed_type sign t) ≡ (is_some t && clean (signed_rule sign t))
signed_exactly None None = refl
signed_exactly None (Some t) = refl
signed_exactly (Some sign) None = refl
signed_exactly (Some sign) (Some t) = some-where_so (is_same t integer) integer ∙ sym (clean-unless (is_same t integer) sign.1 311)

pub has_exactly : (t : TypeId) (a : Option TypeId) (p : Place) (n : ℕ) → is_some (where_so (has t a) t) ≡ (is_some a && clean (unless (may_have t a) p n))
has_exactly t None p n = refl
has_exactly t (Some u) p n = some-where_so (is_same u t) t ∙ sym (clean-unless (is_same u t) p n)

pub clean-value : (forms : Forms) (t : Option TypeId) (p : Place) → clean (value_rule forms t p) ≡ not (has_object forms t)
clean-value forms t p = clean-unless (not (has_object forms t)) p 406

-- two types that are the same are simple alike
same_simple : (t u : TypeId) → is_same t u ≡ true → is_simple t ≡ true → is_simple u ≡ true
same_simple t u e h = ap (λ n. is_simple (record { place = n })) (sym (same t.place u.place e)) ∙ h
  where
    same : (n m : ℕ) → (n == m) ≡ true → n ≡ m
    same n m e = grind (arith, nat_tests)

pub related_exactly :
    (forms : Forms) → BeginsPredeclared forms → (a b : Option TypeId) (p q r : Place)
    → is_some (related_type a b) ≡ ((is_some a && is_some b) && (clean (relation_rule a b p) && (clean (value_rule forms a q) && clean (value_rule forms b r))))
related_exactly forms begins None b p q r = refl
related_exactly forms begins (Some t) None p q r = ap (λ x. is_some (where_so x boolean)) (and-false (is_simple t))
related_exactly forms begins (Some t) (Some u) p q r =
    some-where_so (is_simple t && is_same t u) boolean
    ∙ by (is_simple t) (is_simple u) (is_same t u) refl refl refl
    ∙ sym (ap₂ (λ x y. x && y) (clean-unless ((is_simple t && is_simple u) && is_same t u) p 311)
    (ap₂ (λ x y. x && y) (clean-value forms (Some t) q) (clean-value forms (Some u) r)))
  where
    absurd_of : true ≡ false → ⊥
    absurd_of e = cc

    by : (s v e : Bool) → is_simple t ≡ s → is_simple u ≡ v → is_same t u ≡ e →
        (s && e) ≡ (((s && v) && e) && (not (has_object forms (Some t)) && not (has_object forms (Some u))))
    by false v e hs hv he = refl
    by true v false hs hv he = sym (ap (λ x. x && (not (has_object forms (Some t)) && not (has_object forms (Some u)))) (and-false v))
    by true false true hs hv he = absurd (absurd_of (sym (same_simple t u he hs) ∙ hv))
    by true true true hs hv he = sym (ap₂ (λ x y. not x && not y) (simple_no_object forms begins t hs) (simple_no_object forms begins u hv))

-- ## Selectors

pub element_exactly : (forms : Forms) (t i : Option TypeId) (p : Place) →
    is_some (element_type forms t i) ≡ ((is_some t && is_some i) && clean (index_rule forms t i p))
element_exactly forms None i p = refl
element_exactly forms (Some t) i p = at (array_form (form_of forms t)) i
  where
    at : (a : Option (TypeId × TypeId)) (i : Option TypeId) → is_some (element_of a i) ≡ ((true && is_some i) && clean (unless (may_index a i) p 314))
    at None None = refl
    at None (Some u) = refl
    at (Some a) None = refl
    at (Some a) (Some u) = some-where_so (is_same u a.0) a.1 ∙ sym (clean-unless (is_same u a.0) p 314)

pub field_exactly : (forms : Forms) (t : Option TypeId) (x : Text) (p : Place) → is_some (field_type forms t x) ≡ (is_some t && clean (field_rule forms t x p))
field_exactly forms None x p = refl
field_exactly forms (Some t) x p = at (field_form (form_of forms t) x)
  where
    at : (f : Option TypeId) → is_some f ≡ clean (unless (is_field f) p 315)
    at None = refl
    at (Some u) = refl

-- ## Arguments

-- what is wanted has a type
abbrev pub is_wanted : Want → Bool
is_wanted (a_value t) = is_some t
is_wanted a_simple_value = true
is_wanted (a_variable_of t) = is_some t

abbrev pub all_wanted : List Want → Bool
all_wanted [] = true
all_wanted (w ∷ ws) = is_wanted w && all_wanted ws

pub wanted_formals : (formals : List Formal) → all_wanted (wants_for formals) ≡ all_typed formals
wanted_formals [] = refl
wanted_formals (f ∷ fs) = ap₂ (λ x y. x && y) (at f.reference) (wanted_formals fs)
  where
    at : (reference : Bool) → is_wanted (if reference then a_variable_of f.t else a_value f.t) ≡ is_some f.t
    at true = refl
    at false = refl

pub suits_exactly : (t u : Option TypeId) (p : Place) (n : ℕ) (r : Bool) →
    (suits t u && r) ≡ ((is_some t && is_some u) && (clean (unless (may_suit t u) p n) && r))
suits_exactly None u p n r = refl
suits_exactly (Some t) None p n r = refl
suits_exactly (Some t) (Some u) p n r = ap (λ x. x && r) (sym (clean-unless (is_same u t) p n))

pub wanted_exactly :
    (forms : Forms) → BeginsPredeclared forms → (w : Want) (lent : Bool) (u : Option TypeId) (p : Place)
    → fits_want forms w lent u ≡ ((is_wanted w && is_some u) && clean (want_rules forms w lent u p))
wanted_exactly forms begins (a_value t) lent u p =
    suits_exactly t u p 317 (not (has_object forms u)) ∙
    ap (λ x. (is_some t && is_some u) && (clean (unless (may_suit t u) p 317) && x)) (sym (clean-value forms u p))
wanted_exactly forms begins a_simple_value lent None p = refl
wanted_exactly forms begins a_simple_value lent (Some u) p =
    by (is_simple u) refl ∙ sym (ap₂ (λ x y. x && y) (clean-unless (is_simple u) p 317) (clean-value forms (Some u) p))
  where
    by : (s : Bool) → is_simple u ≡ s → s ≡ (s && not (has_object forms (Some u)))
    by false h = refl
    by true h = sym (ap not (simple_no_object forms begins u h))
wanted_exactly forms begins (a_variable_of t) lent u p =
    suits_exactly t u p 317 lent ∙ ap (λ x. (is_some t && is_some u) && (clean (unless (may_suit t u) p 317) && x)) (sym (clean-unless lent p 318))

-- what fits has a type
pub fits_typed : (forms : Forms) (w : Want) (lent : Bool) (u : Option TypeId) → fits_want forms w lent u ≡ true → is_some u ≡ true
fits_typed forms w lent (Some u) h = refl
fits_typed forms (a_value None) lent None h = h
fits_typed forms (a_value (Some t)) lent None h = h
fits_typed forms a_simple_value lent None h = h
fits_typed forms (a_variable_of None) lent None h = h
fits_typed forms (a_variable_of (Some t)) lent None h = h
