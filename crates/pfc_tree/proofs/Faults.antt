-- A list of kinds has at most one syntax fault.
use Rattle.std.proofs.Common.{◌≡◌, ℕ, ◌<◌, ◌≤◌, inl, inr, List, length, arith, refl}
use Rattle.pfc_tree.specs.Symbols.{Symbol}
use Rattle.pfc_tree.specs.Grammar.{IsUnexpected, IsDeep, IsSyntaxFault, unexpected, deep}

-- two places, of which neither is before the other, are one
one_place : (i j : ℕ) → (i < j → ⊥) → (j < i → ⊥) → i ≡ j
one_place i j below above = omega (arith, below, above)

-- an unexpected place is at most the length
within : (kinds : List Symbol) (i : ℕ) → IsUnexpected kinds i → i ≤ length kinds
within kinds i u = elim u.here [
  | inl stops ↦ let inside : i < length kinds =
      stops.inside in omega arith
  | inr ends ↦ let at_end : i ≡ length kinds = ends.end in omega arith
]

-- no unexpected place is before another
not_before : (kinds : List Symbol) (i j : ℕ) → IsUnexpected kinds i → IsUnexpected kinds j → i < j → ⊥
not_before kinds i j u v lt =
    elim u.here [
      | inl stops ↦ stops.none (v.before i lt)
      | inr ends ↦ let at_end : i ≡ length kinds = ends.end in let most : j ≤ length kinds = within kinds j v in omega arith
    ]

pub unexpected_is_one : (kinds : List Symbol) (i j : ℕ) → IsUnexpected kinds i → IsUnexpected kinds j → i ≡ j
unexpected_is_one kinds i j u v = one_place i j (not_before kinds i j u v) (not_before kinds j i v u)

pub deep_is_one : (kinds : List Symbol) (i j : ℕ) → IsDeep kinds i → IsDeep kinds j → i ≡ j
deep_is_one kinds i j d e = one_place i j (λ lt. e.first i lt d.here) (λ lt. d.first j lt e.here)

-- at an unexpected place the kinds do not begin a program, or end; at a deep one they begin one
pub never_both : (kinds : List Symbol) (i : ℕ) → IsUnexpected kinds i → IsDeep kinds i → ⊥
never_both kinds i u d =
    elim u.here [
      | inl stops ↦ stops.none d.here.begun
      | inr ends ↦ let at_end : i ≡ length kinds = ends.end in let inside : i < length kinds = d.here.inside in omega arith
    ]

pub code_is_one : (kinds : List Symbol) (c d i j : ℕ) → IsSyntaxFault kinds c i → IsSyntaxFault kinds d j → c ≡ d
code_is_one kinds _ _ _ _ (unexpected i u first) (unexpected j v second) = refl
code_is_one kinds _ _ _ _ (unexpected i u first) (deep j e second) = absurd (let before : i < j = first j e in let after : j < i = second i u in omega arith)
code_is_one kinds _ _ _ _ (deep i e first) (unexpected j u second) = absurd (let before : i < j = first j u in let after : j < i = second i e in omega arith)
code_is_one kinds _ _ _ _ (deep i e first) (deep j f second) = refl

pub place_is_one : (kinds : List Symbol) (c d i j : ℕ) → IsSyntaxFault kinds c i → IsSyntaxFault kinds d j → i ≡ j
place_is_one kinds _ _ _ _ (unexpected i u first) (unexpected j v second) = unexpected_is_one kinds i j u v
place_is_one kinds _ _ _ _ (unexpected i u first) (deep j e second) = absurd (let before : i < j = first j e in let after : j < i = second i u in omega arith)
place_is_one kinds _ _ _ _ (deep i e first) (unexpected j u second) = absurd (let before : i < j = first j u in let after : j < i = second i e in omega arith)
place_is_one kinds _ _ _ _ (deep i e first) (deep j f second) = deep_is_one kinds i j e f
