-- An element, where its index has a value.
use Rattle.std.proofs.Common.{◌≡◌, ℤ, List, [], ◌∷◌, length, Option, Some, sym, ap, subst, arith}
use Rattle.std.proofs.Common.{FitsSigned, w64, to_z, of_z}
use Rattle.std.proofs.lemmas.Int.{to_z-of_z}
use Rattle.pfc_program.specs.declared.tables.Tables.{Tables}
use Rattle.pfc_tree.specs.declared.tree.Expr.{Expr}
use Rattle.pfc_tree.specs.declared.tree.Selector.{Selector}
use Rattle.pfc_tree.specs.views.Exprs.{exprs_view, selectors_view}
use Rattle.pfc_semantics.specs.Displays.{TypedSpot}
use Rattle.pfc_semantics.specs.Values.{ordinal}
use Rattle.pfc_semantics.specs.Remainders.{Context, AwaitsLocation, AwaitsValue, index_into}
use Rattle.pfc_semantics.specs.Expressions.{element_spot, with_element}
use Rattle.pfc_semantics.specs.Rewriting.{from_location, from_value}
use Rattle.pfc_pending.specs.Waiting.{Waiting}
use Rattle.pfc_frequent_parts.specs.Parts.{reached_ahead}
use Rattle.pfc_frequent_parts.specs.declared.elements.Reached.{Reached}

pub element_step :
    (c : Context) (s x : TypedSpot) (es : List Expr) (ss : List Selector) (goal : AwaitsLocation) (i : ℤ)
    → length es ≡ 0 → length ss ≡ 0 → element_spot c.env.state.forms s i ≡ Some x
    → from_location c goal x ≡ from_value c (index_into s (exprs_view es) (selectors_view ss) goal) (ordinal i)
element_step c s x [] [] goal i none last is = sym (ap (λ (found : Option TypedSpot). with_element c found (from_location c goal)) is)
element_step c s x (e ∷ es) ss goal i none last is = absurd (omega (arith, none))
element_step c s x [] (t ∷ ss) goal i none last is = absurd (omega (arith, last))

pub ruleset elements = element_step

-- ## The same of a number that is handed on in 64 bits

pub value_same :
    (c : Context) (u : AwaitsValue) (i : ℤ) → FitsSigned w64 i → from_value c u (ordinal (to_z w64 (of_z w64 i))) ≡ from_value c u (ordinal i)
value_same c u i fits = ap (λ (n : ℤ). from_value c u (ordinal n)) (to_z-of_z w64 i fits)

pub reached_same :
    (t : Tables) (c : Context) (w : Waiting) (i : ℤ) (r : Option Reached) (u : AwaitsValue)
    → FitsSigned w64 i
    → reached_ahead t c w (to_z w64 (of_z w64 i)) r ≡ from_value c u (ordinal (to_z w64 (of_z w64 i)))
    → reached_ahead t c w i r ≡ from_value c u (ordinal i)
reached_same t c w i r u fits is = subst (λ (n : ℤ). reached_ahead t c w n r ≡ from_value c u (ordinal n)) (to_z-of_z w64 i fits) is
