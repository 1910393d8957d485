-- Who offers an alternative has a place for it.
use Rattle.std.proofs.Common.{◌≡◌, ℕ, ◌+◌, ◌<◌, Bool, true, false, not, ◌||◌, None, Some, List, [], ◌∷◌, length, nat_lt, suc, arith, refl, sym, ap, subst, cond}
use Rattle.std.specs.Prelude.{MatchOption}
use Rattle.std.specs.List.{list_any, position_or_len}
use Rattle.std.proofs.lemmas.Bool.Decides.{nat_tests}
use Rattle.pfc_state.specs.declared.waits.Arm.{Arm}
use Rattle.pfc_state.specs.declared.waits.Why.{Why}
use Rattle.pfc_state.specs.declared.waits.Why.TheVariants.{Select}
use Rattle.pfc_state.specs.Stands.{Stand, Is_idle, Is_created, Is_ready, Waits, Is_done, arms_of, ticket_offering}
use Rattle.pfc_state.specs.Waits.{same_arm, has_arm, place_of_arm}
use Rattle.pfc_world.specs.Firsts.{IsFirst, IsNobody, offer_at}
use Rattle.pfc_world.specs.Tables.{at}

found : (p : Arm → Bool) (arms : List Arm) → list_any p arms ≡ true → position_or_len p arms < length arms
found p [] h = cc
found p (a ∷ rest) h = go (p a) (found p rest) h
  where
    go : (b : Bool) → (list_any p rest ≡ true → position_or_len p rest < length rest) → (b || list_any p rest) ≡ true
        → cond (not b) (1 + position_or_len p rest) 0 < suc (length rest)
    go true ih e = omega arith
    go false ih e = let lt : position_or_len p rest < length rest = ih e in omega arith

-- an alternative is offered at a place
abbrev HasPlace : Arm → Stand → ℕ → Type 0
HasPlace arm s place = place_of_arm arm (arms_of s) ≡ Some place

placed-at : (arm : Arm) (arms : List Arm) → has_arm arm arms ≡ true → (place : ℕ) × (place_of_arm arm arms ≡ Some place)
placed-at arm arms h =
    let lt : position_or_len (λ a. same_arm a arm) arms < length arms = found (λ a. same_arm a arm) arms h in
    let passed : nat_lt (position_or_len (λ a. same_arm a arm) arms) (length arms) ≡ true = grind (arith, nat_tests) in
    (position_or_len (λ a. same_arm a arm) arms, ap (λ b. cond b (Some (position_or_len (λ a. same_arm a arm) arms)) None) passed)

tested : (b : Bool) (ticket t : ℕ) → cond b (Some ticket) None ≡ Some t → b ≡ true
tested true ticket t h = refl
tested false ticket t h = cc

no-ticket : (A : Type 0) (t : ℕ) → None ≡ Some t → A
no-ticket A t h = cc

wait-place : (arm : Arm) (why : Why) (ticket : ℕ) (arms : List Arm) (t : ℕ) → ticket_offering arm (Waits why ticket arms) ≡ Some t
    → (place : ℕ) × (place_of_arm arm arms ≡ Some place)
wait-place arm (Select due terminate) ticket arms t h = placed-at arm arms (tested (has_arm arm arms) ticket t h)
wait-place arm _ ticket arms t h = no-ticket ((place : ℕ) × (place_of_arm arm arms ≡ Some place)) t h

stand-place : (arm : Arm) (s : Stand) (t : ℕ) → ticket_offering arm s ≡ Some t → (place : ℕ) × (place_of_arm arm (arms_of s) ≡ Some place)
stand-place arm (Waits why ticket arms) t h = wait-place arm why ticket arms t h
stand-place arm Is_idle t h = no-ticket ((place : ℕ) × (place_of_arm arm [] ≡ Some place)) t h
stand-place arm Is_created t h = no-ticket ((place : ℕ) × (place_of_arm arm [] ≡ Some place)) t h
stand-place arm Is_ready t h = no-ticket ((place : ℕ) × (place_of_arm arm [] ≡ Some place)) t h
stand-place arm Is_done t h = no-ticket ((place : ℕ) × (place_of_arm arm [] ≡ Some place)) t h

-- the first to offer an alternative is answered with a place of it
pub offered : (arm : Arm) (rows : List Stand) (p : ℕ) → IsFirst (ticket_offering arm) rows p
    → MatchOption (offer_at p (place_of_arm arm (arms_of (at rows p)))) (IsNobody (ticket_offering arm) rows)
    (λ offer. IsFirst (ticket_offering arm) rows offer.process)
offered arm rows p h =
    let place : (place : ℕ) × (place_of_arm arm (arms_of (at rows p)) ≡ Some place) = stand-place arm (at rows p) h.ticket h.own in
    subst (λ o. MatchOption (offer_at p o) (IsNobody (ticket_offering arm) rows) (λ offer. IsFirst (ticket_offering arm) rows offer.process)) (sym place.1) h
