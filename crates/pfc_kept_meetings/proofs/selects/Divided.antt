-- What a decision takes: nothing, an alternative with a message, or one that accepts.
use Rattle.std.proofs.Common.{◌≡◌, ℕ, zero, suc, ◌<◌, max, Bool, true, false, if◌then◌else◌, List, [], ◌∷◌, length, slice_get, Option, Some, None, refl}
use Rattle.std.proofs.Common.{sym, ap, ◌∙◌, subst, arith, ◌⊎◌, inl, inr}
use Rattle.std.specs.Prelude.{is_some}
use Rattle.pfc_state.specs.declared.waits.Arm.{Arm as WaitArm}
use Rattle.pfc_semantics.specs.Programs.{Program}
use Rattle.pfc_semantics.specs.Remainders.{Context, Offer, Open, Selecting, Remainder, to_send, to_receive, to_accept, to_wait, to_end, decides}
use Rattle.pfc_semantics.specs.Channels.{arm_of, is_communication, communications, listed_arm, arms_of_all}
use Rattle.pfc_semantics.specs.Configurations.{Config}
use Rattle.pfc_semantics.specs.Selects.{choices, matched_places, place_taken, open_at}
use Rattle.pfc_representation.specs.Actions.{IsChoice}
use Rattle.pfc_kept_meetings.specs.selects.Groups.{IsMessageOffer, IsMessage, IsEntryOffer, IsEntry, TakesMessage, TakesEntry}
use Rattle.pfc_kept_meetings.proofs.selects.Taken.{IsTaken, taken}

module _ (g : Program) (c : Config) (p : ℕ) where
  -- the alternative that the table has at this place
  record IsListed (os : List Open) (place : ℕ) (w : WaitArm) : Type 0 where
    o : Open
    there : slice_get (communications os) place ≡ Some o
    is : arm_of g c p o.offer ≡ Some w

  communicating : (offer : Offer) → is_communication offer ≡ is_some (arm_of g c p offer)
  communicating (to_send channel v) = refl
  communicating (to_receive channel target) = refl
  communicating (to_accept a) = refl
  communicating (to_wait n) = refl
  communicating to_end = refl

  is_listed : (os : List Open) (place : ℕ) (w : WaitArm) → slice_get (arms_of_all g c p os) place ≡ Some w → IsListed os place w
  is_listed [] place w there = absurd (let no : None ≡ Some w = there in cc)
  is_listed (o ∷ os) place w there = by_arm (λ j u h. is_listed os j u h) (arm_of g c p o.offer) refl place w there
    where
      by_arm : ((j : ℕ) (u : WaitArm) → slice_get (arms_of_all g c p os) j ≡ Some u → IsListed os j u) → (y : Option WaitArm) → arm_of g c p o.offer ≡ y
          → (j : ℕ) (u : WaitArm) → slice_get (listed_arm y (arms_of_all g c p os)) j ≡ Some u → IsListed (o ∷ os) j u
      by_arm others None is j u h =
          let at = others j u h in
          let none : is_communication o.offer ≡ false = communicating o.offer ∙ ap (λ (y : Option WaitArm). is_some y) is in
          record {
            o = at.o;
            there = ap (λ (y : Bool). slice_get (if y then o ∷ communications os else communications os) j) none ∙ at.there;
            is = at.is;
          }
      by_arm others (Some v) is zero u h =
          let some : is_communication o.offer ≡ true = communicating o.offer ∙ ap (λ (y : Option WaitArm). is_some y) is in
          record {
            o = o;
            there = ap (λ (y : Bool). slice_get (if y then o ∷ communications os else communications os) 0) some;
            is = is ∙ h;
          }
      by_arm others (Some v) is (suc j) u h =
          let at = others j u h in
          let some : is_communication o.offer ≡ true = communicating o.offer ∙ ap (λ (y : Option WaitArm). is_some y) is in
          record {
            o = at.o;
            there = ap (λ (y : Bool). slice_get (if y then o ∷ communications os else communications os) (suc j)) some ∙ at.there;
            is = at.is;
          }

  by_kind : (offer : Offer) (w : WaitArm) → arm_of g c p offer ≡ Some w → IsMessageOffer offer ⊎ IsEntryOffer offer
  by_kind (to_send channel v) w is = inl tt
  by_kind (to_receive channel target) w is = inl tt
  by_kind (to_accept a) w is = inr tt
  by_kind (to_wait n) w is = absurd (let no : None ≡ Some w = is in cc)
  by_kind to_end w is = absurd (let no : None ≡ Some w = is in cc)

  module _ (sel : Selecting) (choice : ℕ) where
    takes_one : (i : ℕ) → i < length (matched_places g c p sel)
        → IsMessage (open_at sel.offered (slice_get (matched_places g c p sel) i)) ⊎ IsEntry (open_at sel.offered (slice_get (matched_places g c p sel) i))
    takes_one i less =
        let which : IsTaken c.table.rows p (arms_of_all g c p sel.offered) i = taken c.table.rows p (arms_of_all g c p sel.offered) i less in
        let at : IsListed sel.offered which.place which.arm = is_listed sel.offered which.place which.arm which.listed in
        let one : open_at sel.offered (slice_get (matched_places g c p sel) i) ≡ Some at.o =
        ap (λ (y : Option ℕ). open_at sel.offered y) which.among ∙ at.there in
        subst (λ (y : Option Open). IsMessage y ⊎ IsEntry y) (sym one) (by_kind at.o.offer which.arm at.is)

    chosen_place : (pri : Bool) (n k : ℕ) → n ≡ suc k → IsChoice choice (if pri then 0 else n) → place_taken pri choice < n
    chosen_place true n k is h = some n k is
      where
        some : (j i : ℕ) → j ≡ suc i → 0 < j
        some j i same = grind (arith, same)
    chosen_place false n k is h = within n k choice is h
      where
        within : (j i a : ℕ) → j ≡ suc i → a < max 1 j → a < j
        within j i a same less = subst (λ l. a < l) (sym same) (below i a (subst (λ l. a < max 1 l) same less))
          where
            below : (l y : ℕ) → y < max 1 (suc l) → y < suc l
            below l y least = grind (arith, least)

    by_places : (places : List ℕ) → matched_places g c p sel ≡ places → IsChoice choice (if sel.pri then 0 else length (matched_places g c p sel))
        → (matched_places g c p sel ≡ []) ⊎ (TakesMessage g c p sel choice ⊎ TakesEntry g c p sel choice)
    by_places [] is h = inl is
    by_places (place ∷ places) is h =
        inr (takes_one (place_taken sel.pri choice)
        (chosen_place sel.pri (length (matched_places g c p sel)) (length places) (ap (λ (ns : List ℕ). length ns) is) h))

pub divided : (g : Program) (c : Config) (p choice : ℕ) (x : Context) (sel : Selecting) (k : Remainder) → IsChoice choice (choices g c p (decides x sel k))
    → (matched_places g c p sel ≡ []) ⊎ (TakesMessage g c p sel choice ⊎ TakesEntry g c p sel choice)
divided g c p choice x sel k h = by_places g c p sel choice (matched_places g c p sel) refl h
