-- Instructions that are led one after the other.
use Rattle.std.proofs.Common.{◌≡◌, ◌<◌, ◌≤◌, ℕ, zero, suc, ◌+◌, ◌&&◌, Bool, true, false, List, [], ◌∷◌, length, drop, get_or, min, refl, sym, ap, ap₂, ◌∙◌}
use Rattle.std.proofs.Common.{arith, Option, Some, None}
use Rattle.std.proofs.lemmas.List.{drop_more}
use Rattle.pfc_emit.specs.Patches.{has_address_at, patched}
use Rattle.pfc_emit.proofs.Patches.{has_address_at-patched}
use Rattle.pfc_tree.specs.Symbols.{Text}
use Rattle.pfc_translation.specs.Codes.{Lined}
use Rattle.pfc_expression_code.specs.Putting.{Made}
use Rattle.pfc_select_code.specs.Leading.{can_lead, led}

both_true : (a b : Bool) → a && b ≡ true → (a ≡ true) × (b ≡ true)
both_true true true is = (refl, refl)
both_true true false is = cc
both_true false b is = cc

can_patched : (code : Lined) (at target : ℕ) (places : List (Option ℕ)) → can_lead (patched code at target) places ≡ can_lead code places
can_patched code at target [] = refl
can_patched code at target (None ∷ places) = can_patched code at target places
can_patched code at target (Some other ∷ places) =
    ap₂ (λ a b. a && b) (has_address_at-patched code at target other) (can_patched code at target places)

led_cons :
    (code : Lined) (place : Option ℕ) (places : List (Option ℕ)) (target : ℕ) (targets : List ℕ)
    → led (led code (place ∷ []) (target ∷ [])) places targets ≡ led code (place ∷ places) (target ∷ targets)
led_cons code None places target targets = refl
led_cons code (Some at) places target targets = refl

can_rest :
    (code : Lined) (place : Option ℕ) (places : List (Option ℕ)) (target : ℕ)
    → can_lead code (place ∷ places) ≡ true → can_lead (led code (place ∷ []) (target ∷ [])) places ≡ true
can_rest code None places target can = can
can_rest code (Some at) places target can = can_patched code at target places ∙ (both_true (has_address_at code at) (can_lead code places) can).1

-- behind one that is led, the others can be led
pub rest_can :
    (code next : Lined) (places : List (Option ℕ)) (i target : ℕ) (place : Option ℕ) → i < length places → place ≡ get_or places i None
    → next ≡ led code (place ∷ []) (target ∷ []) → can_lead code (drop i places) ≡ true → can_lead next (drop (i + 1) places) ≡ true
rest_can code next places i target place less is leads can =
    ap (λ (l : Lined). can_lead l (drop (i + 1) places)) leads
    ∙ can_rest code place (drop (i + 1) places) target
    (sym (ap (λ (l : List (Option ℕ)). can_lead code l) (drop_more places i None less ∙ ap (λ (p : Option ℕ). p ∷ drop (i + 1) places) (sym is))) ∙ can)

pub next_led :
    (code next : Lined) (places : List (Option ℕ)) (targets : List ℕ) (i target : ℕ) (place : Option ℕ) → i < length places → i < length targets
    → place ≡ get_or places i None → target ≡ get_or targets i 0 → next ≡ led code (place ∷ []) (target ∷ [])
    → led next (drop (i + 1) places) (drop (i + 1) targets) ≡ led code (drop i places) (drop i targets)
next_led code next places targets i target place less in_targets is to leads =
    ap (λ (l : Lined). led l (drop (i + 1) places) (drop (i + 1) targets)) leads
    ∙ led_cons code place (drop (i + 1) places) target (drop (i + 1) targets)
    ∙ sym (ap₂ (λ (l : List (Option ℕ)) (m : List ℕ). led code l m)
    (drop_more places i None less ∙ ap (λ (p : Option ℕ). p ∷ drop (i + 1) places) (sym is))
    (drop_more targets i 0 in_targets ∙ ap (λ t. t ∷ drop (i + 1) targets) (sym to)))

none_left : (code : Lined) (places : List (Option ℕ)) → led code places [] ≡ code
none_left code [] = refl
none_left code (place ∷ places) = refl

-- all are led where either list ends
pub all_led :
    (code : Lined) (places : List (Option ℕ)) (targets : List ℕ) (i : ℕ) → min (length places) (length targets) ≤ i
    → led code (drop i places) (drop i targets) ≡ code
all_led code [] targets zero past = refl
all_led code (place ∷ places) [] zero past = refl
all_led code (place ∷ places) (target ∷ targets) zero past = absurd (omega (arith, past))
all_led code [] targets (suc i) past = refl
all_led code (place ∷ places) [] (suc i) past = none_left code (drop i places)
all_led code (place ∷ places) (target ∷ targets) (suc i) past = all_led code places targets i (omega (arith, past))

-- what is made, by its parts
pub made_is :
    (m : Made) (code : Lined) (texts : List Text) (arms : ℕ) → m.code ≡ code → m.texts ≡ texts → m.arms ≡ arms
    → m ≡ record { code = code; texts = texts; arms = arms }
made_is m code texts arms first second third =
    ap₂ (λ (x : Lined) (y : List Text). record { code = x; texts = y; arms = m.arms }) first second
    ∙ ap (λ z. record { code = code; texts = texts; arms = z }) third
