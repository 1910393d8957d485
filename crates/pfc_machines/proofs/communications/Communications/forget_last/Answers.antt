use Rattle.std.proofs.Common.{◌≡◌, ◌≤◌, ◌-◌, ◌∷◌, [], ◌++◌, List, ℕ, ℤ, length, take, refl, sym, ap, ap₂, ◌∙◌, subst, arith}
use Rattle.std.specs.Prelude.{reverse, option_to_list}
use Rattle.pfc_state.specs.declared.waits.Arm.{Arm}
use Rattle.pfc_machines.specs.declared.alternatives.Alternative.{Alternative}
use Rattle.pfc_machines.specs.Communications.{Communicating}
use Rattle.pfc_machines.specs.Offers.{arm_of, listed_arm, arms_of, without_last}
use Rattle.pfc_machines.proofs.Ends.{arms_after, arms_within, fewer, forgotten, take_fewer}
use Rattle.pfc_machines.proofs.communications.Communications.forget_last.Goals as goal

pub invariant_of-self : goal.invariant_of-self
invariant_of-self c =
    let items : List Alternative = c.self.inside.alternatives.items in
    let earlier : List Alternative = c.pop.new.self.items in
    let last : Alternative = c.in-Some.last in
    let is : items ≡ earlier ++ last ∷ [] = c.pop.ensures.items ∙ ap (λ o. earlier ++ option_to_list o) c.in-Some.is in
    let inv = c.self.invariant in
    let count : c.saturating_sub-arms.result ≡ length c.self.inside.arms.items - length (listed_arm (arm_of last.offer)) =
    c.saturating_sub-arms.ensures ∙ ap₂ (λ (l m : ℕ). l - m) (omega (arith, c.len.ensures, c.self.inside.arms.ok.0)) c.arms.ensures in
    let arms : c.truncate.new.self.items ≡ arms_of (reverse earlier) =
    c.truncate.ensures.items ∙ arms_after items earlier last is c.self.inside.arms.items c.saturating_sub-arms.result inv.2 count in
    let less = fewer items earlier last is in (
      omega (arith, less, inv.0),
      omega (arith, inv.1, c.pop.ensures.capacity),
      arms,
      subst (λ (xs : List Arm). length xs ≤ length earlier) (sym arms) (arms_within items earlier last is),
      omega (arith, inv.4, c.truncate.ensures.capacity),
      subst (λ (xs : List ℤ). length xs ≤ c.self.inside.room.words) (sym c.truncate-in-Some.ensures.items)
          (omega (arith, inv.5, take_fewer c.saturating_sub-words.result c.self.inside.words.items)),
      omega (arith, inv.6, c.truncate-in-Some.ensures.capacity),
      inv.7,
      inv.8,
    )

pub returns-in-Some : goal.returns-in-Some
returns-in-Some c =
    let items : List Alternative = c.self.inside.alternatives.items in
    let earlier : List Alternative = c.pop.new.self.items in
    let last : Alternative = c.in-Some.last in
    let is : items ≡ earlier ++ last ∷ [] = c.pop.ensures.items ∙ ap (λ o. earlier ++ option_to_list o) c.in-Some.is in
    let before : Communicating = record {
      alternatives = reverse items;
      words = reverse c.self.inside.words.items;
      callers = reverse c.self.inside.callers.items;
      room = c.self.inside.room;
    } in
    forgotten before items earlier last c.self.inside.words.items c.truncate-in-Some.new.self.items c.len-in-Some.result c.words.result
    is refl refl (omega (arith, c.len-in-Some.ensures, c.self.inside.words.ok.0)) c.words.ensures
    (c.truncate-in-Some.ensures.items ∙ ap (λ n. take n c.self.inside.words.items) c.saturating_sub-words.ensures)
    ∙ ap (λ (e : Communicating). without_last e e.alternatives) c.self.view_is
