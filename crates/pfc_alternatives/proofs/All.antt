-- The alternatives of a process are put in, or taken out, one after the other.
use Rattle.std.proofs.Common.{◌≡◌, ◌≢◌, ℕ, suc, ◌+◌, ◌*◌, ◌<◌, ◌≤◌, Bool, true, false, ◌||◌, inl, inr, Option, None, Some, List, [], ◌∷◌, length, get_or, arith}
use Rattle.std.proofs.Common.{refl, sym, ap, ◌∙◌, subst}
use Rattle.std.proofs.lemmas.Bool.{cases_eq, cases_lt, eqb-true}
use Rattle.pfc_links.specs.declared.links.Member.{Member}
use Rattle.pfc_links.specs.Members.{in_list}
use Rattle.pfc_state.specs.declared.waits.Arm.{Arm}
use Rattle.pfc_state.specs.declared.waits.Arm.TheVariants.{Send, Receive, Accept}
use Rattle.pfc_state.specs.Waits.{same_arm, has_arm}
use Rattle.pfc_alternatives.specs.Lists.{list_of}
use Rattle.pfc_alternatives.specs.Nodes.{Nodes, node_at, IsProcess, IsIn, AreBefore, AreEarlier, KeepsOthers}
use Rattle.pfc_alternatives.proofs.One.{IsOfferedOne, IsWithdrawnOne}

pub others-kept : (nodes : Nodes) (p : ℕ) → KeepsOthers nodes nodes p
others-kept nodes p = record { places = refl; room = refl; long = refl; others = λ q k away lt. refl }

pub others-more : (a b c : Nodes) (p : ℕ) → KeepsOthers a b p → KeepsOthers b c p → KeepsOthers a c p
others-more a b c p h g = record {
  places = g.places ∙ h.places;
  room = g.room ∙ h.room;
  long = g.long ∙ h.long;
  others = λ q k away lt. g.others q k away (subst (λ n. k < n) (sym h.room) lt) ∙ h.others q k away lt;
}

pub process-kept : (a b : Nodes) (p : ℕ) → KeepsOthers a b p → IsProcess a p → IsProcess b p
process-kept a b p h is = subst (λ n. p * n + n ≤ length b.members) (sym h.room) (subst (λ n. p * a.room + a.room ≤ n) (sym h.long) is)

pub earlier-kept : (a b : Nodes) (p ticket : ℕ) → KeepsOthers a b p → AreEarlier a p ticket → AreEarlier b p ticket
earlier-kept a b p ticket h e = record {
  below = λ q k list t away lt own.
      let low : k < a.room = subst (λ n. k < n) h.room lt in
      e.below q k list t away low (sym (h.others q k away low) ∙ own);
}

-- any alternative
abbrev any : Arm
any = Send 0

-- So many of the alternatives are put in.
pub record IsOffering (old new : Nodes) (p : ℕ) (arms : List Arm) (place ticket : ℕ) : Type 0 where
  pub others : KeepsOthers old new p
  pub only : AreBefore new p place ticket
  pub offered : (j : ℕ) → j < place → IsIn new p (list_of old.places (get_or arms j any)) ticket

pub offering-starts : (nodes : Nodes) (p : ℕ) (arms : List Arm) (ticket : ℕ) → AreBefore nodes p 0 ticket → IsOffering nodes nodes p arms 0 ticket
offering-starts nodes p arms ticket free = record {
  others = others-kept nodes p;
  only = free;
  offered = λ j lt. absurd (omega (arith, lt));
}

pub offering-more : (old mid new : Nodes) (p : ℕ) (arms : List Arm) (arm : Arm) (place ticket : ℕ) →
    IsOffering old mid p arms place ticket → arm ≡ get_or arms place any
    → IsOfferedOne mid new p place (list_of mid.places arm) ticket → IsOffering old new p arms (place + 1) ticket
offering-more old mid new p arms arm place ticket h is one = record {
  others = others-more old mid new p h.others one.others;
  only = one.only;
  offered = λ j lt. elim (cases_eq j place) [
    | inl here ↦ subst (λ n. IsIn new p n ticket) (ap (λ n. list_of n arm) h.others.places ∙
        ap (list_of old.places) (is ∙ ap (λ n. get_or arms n any) (sym here))) one.offered
    | inr other ↦ one.kept (list_of old.places (get_or arms j any)) (h.offered j (omega (arith, lt, other)))
  ];
}

-- the same alternative is in the same list
same-list : (places : ℕ) (a b : Arm) → same_arm a b ≡ true → list_of places a ≡ list_of places b
same-list places (Send c) (Send d) h = ap (λ n. list_of places (Send n)) (eqb-true c d h)
same-list places (Receive c) (Receive d) h = ap (λ n. list_of places (Receive n)) (eqb-true c d h)
same-list places (Accept e) (Accept f) h = ap (λ n. list_of places (Accept n)) (eqb-true e f h)
same-list places _ _ h = cc

-- an alternative that is offered is so at a place
found : (P : ℕ → Type 0) (places : ℕ) (arm : Arm) (arms : List Arm) → ((j : ℕ) → j < length arms → P (list_of places (get_or arms j any))) →
    has_arm arm arms ≡ true → P (list_of places arm)
found P places arm [] h is = cc
found P places arm (a ∷ rest) h is = go (same_arm a arm) refl (found P places arm rest (λ j lt. h (suc j) (omega (arith, lt)))) is
  where
    go : (b : Bool) → same_arm a arm ≡ b → (has_arm arm rest ≡ true → P (list_of places arm)) → (b || has_arm arm rest) ≡ true → P (list_of places arm)
    go true same ih e = subst P (same-list places a arm same) (h 0 (omega arith))
    go false same ih e = ih e

pub offering-ends : (old new : Nodes) (p : ℕ) (arms : List Arm) (ticket : ℕ) →
    IsOffering old new p arms (length arms) ticket → (arm : Arm) → has_arm arm arms ≡ true
    → IsIn new p (list_of old.places arm) ticket
offering-ends old new p arms ticket h arm is = found (λ n. IsIn new p n ticket) old.places arm arms h.offered is

-- So many of the places are taken out.
pub record IsWithdrawing (old new : Nodes) (p place : ℕ) : Type 0 where
  pub others : KeepsOthers old new p
  pub none : (k : ℕ) → k < place → k < old.room → node_at new p k ≡ None
  pub rest : (k : ℕ) → place ≤ k → k < old.room → node_at new p k ≡ node_at old p k

pub withdrawing-starts : (nodes : Nodes) (p : ℕ) → IsWithdrawing nodes nodes p 0
withdrawing-starts nodes p = record {
  others = others-kept nodes p;
  none = λ k lt low. absurd (omega (arith, lt));
  rest = λ k le low. refl;
}

pub withdrawing-more : (old mid new : Nodes) (p place : ℕ) → IsWithdrawing old mid p place →
    IsWithdrawnOne mid new p place → IsWithdrawing old new p (place + 1)
withdrawing-more old mid new p place h one = record {
  others = others-more old mid new p h.others one.others;
  none = λ k lt low. elim (cases_eq k place) [
    | inl here ↦ ap (λ n. node_at new p n) here ∙ one.none
    | inr other ↦ one.rest k other (subst (λ n. k < n) (sym h.others.room) low) ∙ h.none k (omega (arith, lt, other)) low
  ];
  rest = λ k le low.
      let away : k ≢ place = λ e. absurd (omega (arith, le, e)) in
      one.rest k away (subst (λ n. k < n) (sym h.others.room) low) ∙ h.rest k (omega (arith, le)) low;
}

pub withdrawing-ends : (old new : Nodes) (p count : ℕ) → ((k list t : ℕ) → k < old.room → node_at old p k ≡ in_list list t →
    k < count) → IsWithdrawing old new p count
    → (k : ℕ) → k < old.room → node_at new p k ≡ None
withdrawing-ends old new p count only h k low = elim (cases_lt k count) [
  | inl lt ↦ h.none k lt low
  | inr le ↦ h.rest k le low ∙ none (node_at old p k) (λ list t own. let lt : k < count = only k list t low own in absurd (omega (arith, lt, le)))
]
  where
    none : (o : Option Member) → ((list t : ℕ) → o ≡ in_list list t → ⊥) → o ≡ None
    none None f = refl
    none (Some m) f = absurd (f m.list m.ticket refl)
