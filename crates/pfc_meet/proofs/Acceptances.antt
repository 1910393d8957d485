-- The owner of an entry, where it waits in a select.
use Rattle.std.proofs.Common.{◌≡◌, ℕ, ◌+◌, ◌<◌, Bool, true, false, not, ◌||◌, Option, None, Some, List, [], ◌∷◌, length, nat_lt, suc, arith, refl, sym, ap, ◌∙◌}
use Rattle.std.proofs.Common.{cond}
use Rattle.std.specs.Prelude.{is_some}
use Rattle.std.specs.List.{list_any, position_or_len}
use Rattle.std.proofs.lemmas.Bool.Decides.{nat_tests}
use Rattle.pfc_state.specs.declared.standings.State.{State}
use Rattle.pfc_state.specs.declared.standings.State.TheVariants.{Waiting}
use Rattle.pfc_state.specs.declared.waits.Arm.{Arm}
use Rattle.pfc_state.specs.declared.waits.Arm.TheVariants.{Accept as Entry}
use Rattle.pfc_state.specs.declared.waits.Why.{Why}
use Rattle.pfc_state.specs.declared.waits.Why.TheVariants.{Select}
use Rattle.pfc_state.specs.Stands.{Stand, Is_idle, Is_created, Is_ready, Waits, Is_done, arms_of, state_of}
use Rattle.pfc_state.specs.Waits.{same_arm, has_arm, is_select, place_of_arm}
use Rattle.pfc_world.specs.declared.answers.Offer.{Offer}
use Rattle.pfc_world.specs.declared.partners.Partner.{Partner}
use Rattle.pfc_world.specs.Firsts.{offer_at}
use Rattle.pfc_meet.specs.Matches.{acceptance_of}

no-test : (A : Type 0) → false ≡ true → A
no-test A h = cc

-- where an alternative is among others, it has a place; else the search comes to the end
place-found : (test : Arm → Bool) (arms : List Arm) → list_any test arms ≡ true → position_or_len test arms < length arms
place-found test [] h = no-test _ h
place-found test (a ∷ rest) h = go (test a) (place-found test rest) h
  where
    go : (b : Bool) → (list_any test rest ≡ true → position_or_len test rest < length rest) → (b || list_any test rest) ≡ true
        → cond (not b) (1 + position_or_len test rest) 0 < suc (length rest)
    go true ih e = omega arith
    go false ih e = let lt : position_or_len test rest < length rest = ih e in omega arith

place-missed : (test : Arm → Bool) (arms : List Arm) → list_any test arms ≡ false → position_or_len test arms ≡ length arms
place-missed test [] h = refl
place-missed test (a ∷ rest) h = go (test a) (place-missed test rest) h
  where
    go : (b : Bool) → (list_any test rest ≡ false → position_or_len test rest ≡ length rest) → (b || list_any test rest) ≡ false
        → cond (not b) (1 + position_or_len test rest) 0 ≡ suc (length rest)
    go true ih e = no-test _ (sym e)
    go false ih e = let same : position_or_len test rest ≡ length rest = ih e in omega arith

has-place : (arm : Arm) (arms : List Arm) → has_arm arm arms ≡ is_some (place_of_arm arm arms)
has-place arm arms = go (has_arm arm arms) refl
  where
    at_place : ℕ
    at_place = position_or_len (λ a. same_arm a arm) arms

    go : (b : Bool) → has_arm arm arms ≡ b → b ≡ is_some (cond (nat_lt at_place (length arms)) (Some at_place) None)
    go true e =
        let lt : at_place < length arms = place-found (λ a. same_arm a arm) arms e in
        let test : nat_lt at_place (length arms) ≡ true = grind (arith, nat_tests) in
        sym (ap (λ t. is_some (cond t (Some at_place) None)) test)
    go false e =
        let same : at_place ≡ length arms = place-missed (λ a. same_arm a arm) arms e in
        let test : nat_lt at_place (length arms) ≡ false = grind (arith, nat_tests) in
        sym (ap (λ t. is_some (cond t (Some at_place) None)) test)

abbrev met : ℕ → Option ℕ → Partner
met owner place = record { process = owner; alternative = place }

-- the owner at the place that it offers
abbrev pub met_by : ℕ → Option Offer → Option Partner
met_by owner (Some offer) = Some (met owner (Some offer.arm))
met_by owner None = None

abbrev select_in : State → Bool
select_in (Waiting why) = is_select why
select_in _ = false

met-where : (owner ticket : ℕ) (b : Bool) (place : Option ℕ) → b ≡ is_some place →
    cond (is_some (cond b (Some ticket) None)) (Some (met owner place)) None ≡ met_by owner (offer_at owner place)
met-where owner ticket true (Some place) e = refl
met-where owner ticket true None e = no-test _ (sym e)
met-where owner ticket false (Some place) e = no-test _ e
met-where owner ticket false None e = refl

select-wait : (owner entry : ℕ) (why : Why) (ticket : ℕ) (arms : List Arm) → is_select why ≡ true
    → acceptance_of owner entry (Waits why ticket arms) ≡ met_by owner (offer_at owner (place_of_arm (Entry entry) arms))
select-wait owner entry (Select due terminate) ticket arms h =
    met-where owner ticket (has_arm (Entry entry) arms) (place_of_arm (Entry entry) arms) (has-place (Entry entry) arms)
select-wait owner entry _ ticket arms h = no-test _ h

select-stand : (owner entry : ℕ) (s : Stand) → select_in (state_of s) ≡ true →
    acceptance_of owner entry s ≡ met_by owner (offer_at owner (place_of_arm (Entry entry) (arms_of s)))
select-stand owner entry (Waits why ticket arms) h = select-wait owner entry why ticket arms h
select-stand owner entry Is_idle h = no-test _ h
select-stand owner entry Is_created h = no-test _ h
select-stand owner entry Is_ready h = no-test _ h
select-stand owner entry Is_done h = no-test _ h

-- The owner waits in a select, and is met where it offers the entry.
pub in-select : (owner entry : ℕ) (s : Stand) (state : State) (why : Why) (o a : Option Offer) → state ≡ state_of s → state ≡ Waiting why → is_select why ≡ true
    → o ≡ offer_at owner (place_of_arm (Entry entry) (arms_of s)) → o ≡ a → met_by owner a ≡ acceptance_of owner entry s
in-select owner entry s state why o a e f g h i =
    sym (select-stand owner entry s (ap select_in (sym e ∙ f) ∙ g) ∙ ap (λ x. met_by owner x) (sym h ∙ i))
