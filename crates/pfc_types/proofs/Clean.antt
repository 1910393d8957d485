-- Whether a rule is broken, as a Boolean, and what a part with a type owes to its own parts.
use Rattle.std.proofs.Common.{◌≡◌, ◌≢◌, ℕ, ◌⊎◌, inl, inr, Bool, true, false, not, ◌&&◌, ◌||◌, is_some, List, [], ◌∷◌, ◌++◌, Option, Some, None, refl, sym, ap}
use Rattle.std.proofs.Common.{ap₂, ◌∙◌}
use Rattle.pfc_base.specs.declared.places.Place.{Place}
use Rattle.pfc_base.specs.declared.faults.Refusal.{Refusal}
use Rattle.pfc_types.specs.Faults.{Faults, none, one, ◌⨾◌, listed, unless}
use Rattle.pfc_types.specs.Faulty.{IsFaultyExactly}
use Rattle.pfc_types.specs.declared.types.TypeId.{TypeId}
use Rattle.pfc_types.specs.rules.Kinds.{where_so}

-- no rule is broken
abbrev pub clean : Faults → Bool
clean none = true
clean (one f) = false
clean (fs ⨾ gs) = clean fs && clean gs

pub clean-unless : (b : Bool) (p : Place) (n : ℕ) → clean (unless b p n) ≡ b
clean-unless true p n = refl
clean-unless false p n = refl

pub some-where_so : (b : Bool) (t : TypeId) → is_some (where_so b t) ≡ b
some-where_so true t = refl
some-where_so false t = refl

-- ## Booleans

pub and-false : (a : Bool) → (a && false) ≡ false
and-false true = refl
and-false false = refl

pub and-true : (a : Bool) → (a && true) ≡ a
and-true true = refl
and-true false = refl

pub and-left : (a b : Bool) → (a && b) ≡ true → a ≡ true
and-left true b h = refl
and-left false b h = h

pub and-right : (a b : Bool) → (a && b) ≡ true → b ≡ true
and-right true b h = h
and-right false b h = cc

-- Parts of which each has a type exactly where a is so and it uses no faulty name, which is u; and a rule r between them.
pub related_parts : (a u b v r : Bool) → (((a && not u) && (b && not v)) && r) ≡ ((a && (b && r)) && not (u || v))
related_parts false u b v r = refl
related_parts true true b v r = sym (and-false (b && r))
related_parts true false false v r = refl
related_parts true false true true r = sym (and-false r)
related_parts true false true false true = refl
related_parts true false true false false = refl

pub two_parts : (a u b v : Bool) → ((a && not u) && (b && not v)) ≡ ((a && b) && not (u || v))
two_parts false u b v = refl
two_parts true true b v = sym (and-false b)
two_parts true false b v = refl

-- what was before, and two parts behind it
pub then_parts : (t a u b v : Bool) → ((t && (a && not u)) && (b && not v)) ≡ (t && ((a && b) && not (u || v)))
then_parts false a u b v = refl
then_parts true a u b v = two_parts a u b v

-- ## The list

no_fault : (f : Refusal) (fs : List Refusal) → f ∷ fs ≡ [] → ⊥
no_fault f fs e = cc

empty-left : (fs gs : List Refusal) → fs ++ gs ≡ [] → fs ≡ []
empty-left [] gs e = refl
empty-left (f ∷ fs) gs e = absurd (no_fault f (fs ++ gs) e)

empty-right : (fs gs : List Refusal) → fs ++ gs ≡ [] → gs ≡ []
empty-right [] gs e = e
empty-right (f ∷ fs) gs e = absurd (no_fault f (fs ++ gs) e)

pub clean-listed : (fs : Faults) → clean fs ≡ true → listed fs ≡ []
clean-listed none e = refl
clean-listed (one f) e = cc
clean-listed (fs ⨾ gs) e = ap₂ (λ x y. x ++ y) (clean-listed fs (and-left (clean fs) (clean gs) e)) (clean-listed gs (and-right (clean fs) (clean gs) e))

pub listed-clean : (fs : Faults) → listed fs ≡ [] → clean fs ≡ true
listed-clean none e = refl
listed-clean (one f) e = absurd (no_fault f [] e)
listed-clean (fs ⨾ gs) e = ap₂ (λ x y. x && y) (listed-clean fs (empty-left (listed fs) (listed gs) e))
    (listed-clean gs (empty-right (listed fs) (listed gs) e))

-- a Boolean equation says when the type is missing
pub faulty_exactly : {A : Type 0} (t : Option A) (fs : Faults) (u : Bool) → is_some t ≡ (clean fs && not u) → IsFaultyExactly t fs u
faulty_exactly {A} t fs u e = (λ h. why (clean fs) u refl (ap is_some (sym h) ∙ e), λ h. missing t e h)
  where
    why : (c v : Bool) → clean fs ≡ c → false ≡ (c && not v) → (listed fs ≢ []) ⊎ (v ≡ true)
    why false v is h = inl (λ l. cc_of (sym (listed-clean fs l) ∙ is))
      where
        cc_of : true ≡ false → ⊥
        cc_of x = cc
    why true true is h = inr refl
    why true false is h = cc

    missing : (r : Option A) → is_some r ≡ (clean fs && not u) → (listed fs ≢ []) ⊎ (u ≡ true) → r ≡ None
    missing None x h = refl
    missing (Some s) x (inl h) = absurd (h (clean-listed fs (and-left (clean fs) (not u) (sym x))))
    missing (Some s) x (inr h) = absurd (against u h (and-right (clean fs) (not u) (sym x)))
      where
        against : (v : Bool) → v ≡ true → not v ≡ true → ⊥
        against v a b = cc
