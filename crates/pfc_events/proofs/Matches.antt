-- The walk over the alternatives that are matched.
use Rattle.std.proofs.Common.{◌≡◌, ℕ, zero, suc, ◌+◌, ◌<◌, ◌≤◌, ◌-◌, arith, List, [], ◌∷◌, length, drop, drop-cons, drop_of_length-le, add-one, get_or, Some}
use Rattle.std.proofs.Common.{refl, sym, ap, ◌∙◌}
use Rattle.std.specs.Prelude.{is_some, if◌then◌else◌, slice_get}
use Rattle.pfc_state.specs.declared.waits.Arm.{Arm}
use Rattle.pfc_state.specs.Stands.{Stand}
use Rattle.pfc_world.specs.Partners.{partner}
use Rattle.pfc_world.specs.Selects.{matched_from}

pub matched_step :
    (rows : List Stand) (p : ℕ) (arms : List Arm) (i : ℕ) (d : Arm) → i < length arms
    → matched_from i rows p (drop i arms)
    ≡ (if is_some (partner rows p (get_or arms i d)) then
    i ∷ matched_from (i + 1) rows p (drop (i + 1) arms) else matched_from (i + 1) rows p (drop (i + 1) arms))
matched_step rows p arms i d h = ap (matched_from i rows p) (drop-cons arms i d h ∙ ap (λ n. get_or arms i d ∷ drop n arms) (sym (add-one i)))

pub matched_end : (rows : List Stand) (p : ℕ) (arms : List Arm) (i : ℕ) → length arms ≤ i → matched_from i rows p (drop i arms) ≡ []
matched_end rows p arms i h = ap (matched_from i rows p) (drop_of_length-le arms {i = i} h)

pub number_first : (x : ℕ) (xs : List ℕ) → slice_get (x ∷ xs) 0 ≡ Some x
number_first x xs = refl

pub number_behind : (x : ℕ) (xs : List ℕ) (n : ℕ) → 0 < n → slice_get (x ∷ xs) n ≡ slice_get xs (n - 1)
number_behind x xs zero h = absurd (omega arith)
number_behind x xs (suc n) h = ap (slice_get xs) (omega arith)
