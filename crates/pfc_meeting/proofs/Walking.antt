-- Walks over what is open.
use Rattle.std.proofs.Common.{◌≡◌, ℕ, ◌+◌, ◌<◌, ◌≤◌, ◌-◌, zero, suc, false, ◌||◌, arith, List, [], ◌∷◌, length, drop, drop-cons, drop_of_length-le, add-one}
use Rattle.std.proofs.Common.{get_or, Some, None, refl, sym, ap, ◌∙◌}
use Rattle.pfc_state.specs.declared.waits.Arm.{Arm}
use Rattle.std.specs.Prelude.{if◌then◌else◌, slice_get}
use Rattle.pfc_semantics.specs.Store.{Store}
use Rattle.pfc_semantics.specs.Displays.{Display}
use Rattle.pfc_semantics.specs.Remainders as remainders
use Rattle.pfc_semantics.specs.Channels.{is_arm, listed_arm, is_communication, communications}
use Rattle.pfc_semantics.specs.Selects.{is_end, or_timeout, timeout_at, open_timeout, may_terminate_at}
use Rattle.pfc_pending.specs.declared.select.Open.{Open}
use Rattle.pfc_pending.specs.Selects.{offer_view, open_view, opens_view}
use Rattle.pfc_meeting.specs.Opens.{arm_in, arms_in, first_met}

-- the one at a place, and those behind it
pub opens_step : (os : List Open) (i : ℕ) (d : Open) → i < length os → drop i os ≡ get_or os i d ∷ drop (i + 1) os
opens_step os i d h = drop-cons os i d h ∙ ap (λ n. get_or os i d ∷ drop n os) (sym (add-one i))

pub met_step :
    (store : Store) (display : Display) (arm : Arm) (os : List Open) (i : ℕ) (d : Open) → i < length os
    → first_met store display arm (opens_view (drop i os))
    ≡ (if is_arm arm (arm_in store display (offer_view (get_or os i d).offer)) then
    Some (open_view (get_or os i d)) else first_met store display arm (opens_view (drop (i + 1) os)))
met_step store display arm os i d h = ap (λ (l : List Open). first_met store display arm (opens_view l)) (opens_step os i d h)

pub met_end :
    (store : Store) (display : Display) (arm : Arm) (os : List Open) (i : ℕ) → length os ≤ i → first_met store display arm (opens_view (drop i os)) ≡ None
met_end store display arm os i h = ap (λ (l : List Open). first_met store display arm (opens_view l)) (drop_of_length-le os {i = i} h)

pub arms_step :
    (store : Store) (display : Display) (os : List Open) (i : ℕ) (d : Open) → i < length os
    → arms_in store display (opens_view (drop i os))
    ≡ listed_arm (arm_in store display (offer_view (get_or os i d).offer)) (arms_in store display (opens_view (drop (i + 1) os)))
arms_step store display os i d h = ap (λ (l : List Open). arms_in store display (opens_view l)) (opens_step os i d h)

pub arms_end : (store : Store) (display : Display) (os : List Open) (i : ℕ) → length os ≤ i → arms_in store display (opens_view (drop i os)) ≡ []
arms_end store display os i h = ap (λ (l : List Open). arms_in store display (opens_view l)) (drop_of_length-le os {i = i} h)

-- ## What a select looks for

pub communication_step :
    (os : List Open) (i : ℕ) (d : Open) → i < length os
    → communications (opens_view (drop i os))
    ≡ (if is_communication (offer_view (get_or os i d).offer) then
    open_view (get_or os i d) ∷ communications (opens_view (drop (i + 1) os)) else communications (opens_view (drop (i + 1) os)))
communication_step os i d h = ap (λ (l : List Open). communications (opens_view l)) (opens_step os i d h)

pub communication_end : (os : List Open) (i : ℕ) → length os ≤ i → communications (opens_view (drop i os)) ≡ []
communication_end os i h = ap (λ (l : List Open). communications (opens_view l)) (drop_of_length-le os {i = i} h)

pub get_first : (x : remainders.Open) (xs : List remainders.Open) → slice_get (x ∷ xs) 0 ≡ Some x
get_first x xs = refl

pub get_behind : (x : remainders.Open) (xs : List remainders.Open) (n : ℕ) → 0 < n → slice_get (x ∷ xs) n ≡ slice_get xs (n - 1)
get_behind x xs zero h = absurd (omega arith)
get_behind x xs (suc n) h = ap (slice_get xs) (omega arith)

pub timeout_step :
    (os : List Open) (i : ℕ) (d : Open) → i < length os
    → open_timeout (opens_view (drop i os))
    ≡ or_timeout (timeout_at (open_view (get_or os i d)) (offer_view (get_or os i d).offer)) (open_timeout (opens_view (drop (i + 1) os)))
timeout_step os i d h = ap (λ (l : List Open). open_timeout (opens_view l)) (opens_step os i d h)

pub timeout_end : (os : List Open) (i : ℕ) → length os ≤ i → open_timeout (opens_view (drop i os)) ≡ None
timeout_end os i h = ap (λ (l : List Open). open_timeout (opens_view l)) (drop_of_length-le os {i = i} h)

pub end_step :
    (os : List Open) (i : ℕ) (d : Open) → i < length os
    → may_terminate_at (opens_view (drop i os)) ≡ (is_end (offer_view (get_or os i d).offer) || may_terminate_at (opens_view (drop (i + 1) os)))
end_step os i d h = ap (λ (l : List Open). may_terminate_at (opens_view l)) (opens_step os i d h)

pub end_none : (os : List Open) (i : ℕ) → length os ≤ i → may_terminate_at (opens_view (drop i os)) ≡ false
end_none os i h = ap (λ (l : List Open). may_terminate_at (opens_view l)) (drop_of_length-le os {i = i} h)
