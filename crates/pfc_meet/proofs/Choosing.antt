-- The walk to a matched alternative.
use Rattle.std.proofs.Common.{◌≡◌, ℕ, suc, ◌+◌, ◌<◌, ◌≤◌, true, Option, None, Some, List, ◌∷◌, length, drop, drop-cons, drop_of_length-le, get_or, refl, sym}
use Rattle.std.proofs.Common.{ap, ◌∙◌, cond}
use Rattle.std.specs.Prelude.{is_some, slice_get}
use Rattle.std.proofs.lemmas.Option.{slice_get-get_or}
use Rattle.pfc_state.specs.declared.waits.Arm.{Arm}
use Rattle.pfc_state.specs.Stands.{Stand}
use Rattle.pfc_world.specs.declared.partners.Partner.{Partner}
use Rattle.pfc_world.specs.Partnering.{met_at}
use Rattle.pfc_world.specs.Partners.{partner}
use Rattle.pfc_world.specs.Selects.{matched, matched_from, opposite}
use Rattle.pfc_meet.specs.Choices.{IsMatch}
use Rattle.pfc_meet.specs.Matches.{partner_met}

-- the walk does not come to the end before the k-th
pub exhausted : (rows : List Stand) (p place : ℕ) (arms : List Arm) (left k : ℕ) → length arms ≤ place
    → slice_get (matched_from place rows p (drop place arms)) left ≡ slice_get (matched rows p arms) k → k < length (matched rows p arms) → ⊥
exhausted rows p place arms left k past h lt =
    let none : None ≡ slice_get (matched rows p arms) k =
    sym (ap (λ rest. slice_get (matched_from place rows p rest) left) (drop_of_length-le arms {i = place} past)) ∙ h in
    let some : slice_get (matched rows p arms) k ≡ Some (get_or (matched rows p arms) k 0) = slice_get-get_or (matched rows p arms) k 0 lt in
    cc

met-some : (rows : List Stand) (arm : Arm) (o : Option ℕ) (met : Partner) → met_at rows arm o ≡ Some met → is_some o ≡ true
met-some rows arm (Some q) met h = refl
met-some rows arm None met h = cc

-- the walk stands at the k-th where no matched alternative is left before it
pub chosen : (rows : List Stand) (p place : ℕ) (arms : List Arm) (d : Arm) (left k : ℕ) (met : Partner) → place < length arms
    → slice_get (matched_from place rows p (drop place arms)) left ≡ slice_get (matched rows p arms) k → left ≡ 0 →
    partner_met rows p (get_or arms place d) ≡ Some met
    → IsMatch rows p arms k (record { place = place; alternative = get_or arms place d; partner = met })
chosen rows p place arms d left k met lt h zero_left meets = record {
  kth = sym h
      ∙ ap (λ n. slice_get (matched_from place rows p (drop place arms)) n) zero_left
      ∙ ap (λ rest. slice_get (matched_from place rows p rest) 0) (drop-cons arms place d lt)
      ∙ ap (λ b. slice_get (cond b (place ∷ matched_from (place + 1) rows p (drop (suc place) arms))
      (matched_from (place + 1) rows p (drop (suc place) arms))) 0)
      (met-some rows (opposite (get_or arms place d)) (partner rows p (get_or arms place d)) met meets);
  own = slice_get-get_or arms place d lt;
  meets = meets;
}
