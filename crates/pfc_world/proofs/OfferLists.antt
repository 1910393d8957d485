-- Who waits with which alternative, as one process stands at something else.
use Rattle.std.proofs.Common.{zero-le, ◌≡◌, ◌≢◌, ℕ, zero, suc, ◌+◌, ◌-◌, ◌*◌, ◌<◌, ◌≤◌, Bool, true, false, Option, None, Some, List, [], ◌∷◌, length, set, map}
use Rattle.std.proofs.Common.{replicate, inl, inr, ◌⊎◌, cond, arith, refl, sym, ap, ◌∙◌, subst}
use Rattle.std.proofs.lemmas.List.{length-set, length-map, get_or-set_same, get_or-set_other, get_or-replicate, get_or_past, length-replicate}
use Rattle.std.proofs.lemmas.Bool.{cases_eq, cases_lt}
use Rattle.std.proofs.Math.Nat.{mul-le-mul_right}
use Rattle.pfc_links.specs.declared.links.Member.{Member}
use Rattle.pfc_links.specs.Members.{member_at, in_list}
use Rattle.pfc_alternatives.specs.Lists.{list_of}
use Rattle.pfc_alternatives.specs.Nodes.{Nodes, node_at, IsProcess, IsIn, AreBefore, AreEarlier, KeepsOthers}
use Rattle.pfc_state.specs.declared.waits.Arm.{Arm}
use Rattle.pfc_state.specs.declared.waits.Why.{Why}
use Rattle.pfc_state.specs.declared.waits.Why.TheVariants.{Select}
use Rattle.pfc_state.specs.Waits.{is_select, has_arm}
use Rattle.pfc_state.specs.Stands.{Stand, Is_idle, Is_created, Is_ready, Waits, Is_done, ticket_of, arms_of, ticket_offering, is_unfinished, started}
use Rattle.pfc_world.specs.Offers.{AreOffered}
use Rattle.pfc_world.specs.Tables.{at}
use Rattle.pfc_world.specs.Tickets.{AreTickets, IsNew}
use Rattle.pfc_world.proofs.Maps.{at-changed, started-kind}

-- who stands at this waits with no alternative
pub record OffersNone (s : Stand) : Type 0 where
  pub none : arms_of s ≡ []
  pub nobody : (arm : Arm) → ticket_offering arm s ≡ None

pub ready-none : OffersNone Is_ready
ready-none = record { none = refl; nobody = λ arm. refl }

pub done-none : OffersNone Is_done
done-none = record { none = refl; nobody = λ arm. refl }

pub created-none : OffersNone Is_created
created-none = record { none = refl; nobody = λ arm. refl }

pub plain-none : (why : Why) (t : ℕ) → is_select why ≡ false → OffersNone (Waits why t [])
plain-none why t plain = record { none = refl; nobody = λ arm. nobody arm why plain }
  where
    nobody : (arm : Arm) (why : Why) → is_select why ≡ false → ticket_offering arm (Waits why t []) ≡ None
    nobody arm (Select due terminate) h = refl
    nobody arm _ h = refl

pub over-none : (s : Stand) → is_unfinished s ≡ false → OffersNone s
over-none Is_idle h = record { none = refl; nobody = λ arm. refl }
over-none Is_done h = done-none
over-none Is_created h = created-none
over-none Is_ready h = ready-none
over-none (Waits why t arms) h = cc

-- there are places for a process of the table
pub is-process : (rows : List Stand) (nodes : Nodes) (p : ℕ) → p < length rows → AreOffered rows nodes → IsProcess nodes p
is-process rows nodes p lt h =
    let le : (p + 1) * nodes.room ≤ length rows * nodes.room = mul-le-mul_right nodes.room (omega (arith, lt)) in
    let e : (p + 1) * nodes.room ≡ p * nodes.room + nodes.room = grind (arith) in
    subst (λ n. p * nodes.room + nodes.room ≤ n) (sym h.long) (subst (λ n. n ≤ length rows * nodes.room) e le)

clash : (A : Type 0) (o : Option ℕ) (t : ℕ) → o ≡ None → o ≡ Some t → A
clash A o t none some = let no : None ≡ Some t = sym none ∙ some in cc

empty : (A : Type 0) (arms : List Arm) (k : ℕ) → arms ≡ [] → k < length arms → A
empty A arms k none lt = let no : k < 0 = subst (λ v. k < length v) none lt in absurd (omega (arith, no))

-- What has changed: process p stands at this, the places of the others are as they were, and those of p are its own.
record IsChanged (rows : List Stand) (old new : Nodes) (p : ℕ) (s : Stand) : Type 0 where
  others : KeepsOthers old new p
  few : length (arms_of s) ≤ old.room
  each : (k list t : ℕ) → k < old.room → node_at new p k ≡ in_list list t → (k < length (arms_of s)) × (ticket_of s ≡ Some t)
  every : (arm : Arm) (t : ℕ) → ticket_offering arm s ≡ Some t → IsIn new p (list_of old.places arm) t

changed : (rows now : List Stand) (old new : Nodes) (p : ℕ) (s : Stand) → p < length rows → now ≡ set rows p s → AreOffered rows old →
    IsChanged rows old new p s → AreOffered now new
changed rows now old new p s lt is h c = subst (λ v. AreOffered v new) (sym is) (record {
  long = c.others.long ∙ h.long ∙ ap (λ n. n * old.room) (sym (length-set rows p s)) ∙ ap (λ n. length (set rows p s) * n) (sym c.others.room);
  few = λ q. subst (λ n. length (arms_of (at (set rows p s) q)) ≤ n) (sym c.others.room) (few q (cases_eq q p));
  each = λ q k list t low own. each q k list t (subst (λ n. k < n) c.others.room low) own (cases_eq q p);
  every = λ arm q t own. subst (λ n. IsIn new q (list_of n arm) t) (sym c.others.places) (every arm q t own (cases_eq q p));
})
  where
    here : (q : ℕ) → q ≡ p → at (set rows p s) q ≡ s
    here q same = ap (λ n. at (set rows p s) n) same ∙ get_or-set_same rows p s Is_idle lt

    there : (q : ℕ) → q ≢ p → at (set rows p s) q ≡ at rows q
    there q away = get_or-set_other rows p q s Is_idle away

    few : (q : ℕ) → (q ≡ p) ⊎ (q ≢ p) → length (arms_of (at (set rows p s) q)) ≤ old.room
    few q (inl same) = subst (λ v. length (arms_of v) ≤ old.room) (sym (here q same)) c.few
    few q (inr away) = subst (λ v. length (arms_of v) ≤ old.room) (sym (there q away)) (h.few q)

    each : (q k list t : ℕ) → k < old.room → node_at new q k ≡ in_list list t → (q ≡ p) ⊎ (q ≢ p) → (k < length (arms_of (at (set rows p s) q))) ×
        (ticket_of (at (set rows p s) q) ≡ Some t)
    each q k list t low own (inl same) =
        subst (λ v. (k < length (arms_of v)) × (ticket_of v ≡ Some t)) (sym (here q same))
        (c.each k list t low (subst (λ n. node_at new n k ≡ in_list list t) same own))
    each q k list t low own (inr away) =
        subst (λ v. (k < length (arms_of v)) × (ticket_of v ≡ Some t)) (sym (there q away)) (h.each q k list t low (sym (c.others.others q k away low) ∙ own))

    every : (arm : Arm) (q t : ℕ) → ticket_offering arm (at (set rows p s) q) ≡ Some t → (q ≡ p) ⊎ (q ≢ p) → IsIn new q (list_of old.places arm) t
    every arm q t own (inl same) =
        subst (λ n. IsIn new n (list_of old.places arm) t) (sym same) (c.every arm t (sym (ap (ticket_offering arm) (here q same)) ∙ own))
    every arm q t own (inr away) =
        let was : IsIn old q (list_of old.places arm) t = h.every arm q t (sym (ap (ticket_offering arm) (there q away)) ∙ own) in
        record {
          place = was.place;
          within = subst (λ n. was.place < n) (sym c.others.room) was.within;
          is =
              c.others.others q was.place away was.within ∙ was.is;
        }

-- a process that waited with no alternative waits with none
pub kept-offered : (rows now : List Stand) (nodes : Nodes) (p : ℕ) (s : Stand) → p < length rows → OffersNone (at rows p) → now ≡ set rows p s → OffersNone s →
    AreOffered rows nodes → AreOffered now nodes
kept-offered rows now nodes p s lt was is none h = changed rows now nodes nodes p s lt is h (record {
  others = record { places = refl; room = refl; long = refl; others = λ q k away low. refl };
  few = subst (λ v. length v ≤ nodes.room) (sym none.none) zero-le;
  each = λ k list t low own. empty ((k < length (arms_of s)) × (ticket_of s ≡ Some t)) (arms_of (at rows p)) k was.none (h.each p k list t low own).0;
  every = λ arm t own. clash (IsIn nodes p (list_of nodes.places arm) t) (ticket_offering arm s) t (none.nobody arm) own;
})

no-node : (A : Type 0) (o : Option Member) (list t : ℕ) → o ≡ None → o ≡ in_list list t → A
no-node A o list t none some = let no : None ≡ in_list list t = sym none ∙ some in cc

-- a process waits with none of its alternatives any more
pub withdrawn-offered : (rows now : List Stand) (old new : Nodes) (p : ℕ) (s : Stand) → p < length rows →
    now ≡ set rows p s → OffersNone s → AreOffered rows old
    → ((k : ℕ) → k < old.room → node_at new p k ≡ None) → KeepsOthers old new p → AreOffered now new
withdrawn-offered rows now old new p s lt is none h out others = changed rows now old new p s lt is h (record {
  others = others;
  few = subst (λ v. length v ≤ old.room) (sym none.none) zero-le;
  each = λ k list t low own. no-node ((k < length (arms_of s)) × (ticket_of s ≡ Some t)) (node_at new p k) list t (out k low) own;
  every = λ arm t own. clash (IsIn new p (list_of old.places arm) t) (ticket_offering arm s) t (none.nobody arm) own;
})

-- a process that acts waits with no alternative as yet
pub free-offered : (rows : List Stand) (nodes : Nodes) (p ticket : ℕ) → at rows p ≡ Is_ready → AreOffered rows nodes → AreBefore nodes p 0 ticket
free-offered rows nodes p ticket ready h = record {
  only = λ k list t low own. empty ((k < 0) × (t ≡ ticket)) (arms_of (at rows p)) k (ap arms_of ready) (h.each p k list t low own).0;
}

-- nobody waits since the present action
pub earlier-offered : (rows : List Stand) (nodes : Nodes) (p done ticket : ℕ) → ticket ≡ done + 1 → AreTickets rows done → IsNew rows done →
    AreOffered rows nodes → AreEarlier nodes p ticket
earlier-offered rows nodes p done ticket is tickets fresh h = record {
  below = λ q k list t away low own.
      let since : ticket_of (at rows q) ≡ Some t = (h.each q k list t low own).1 in
      let le : t ≤ done + 1 = tickets.upto q t since in
      let apart : t ≢ done + 1 = λ e. fresh q (since ∙ ap (λ n. Some n) e) in
      omega (arith, le, apart, is);
}

tested : (b : Bool) (ticket t : ℕ) → cond b (Some ticket) None ≡ Some t → (b ≡ true) × (ticket ≡ t)
tested true ticket t h = (refl, let e : Some ticket ≡ Some t = h in cc)
tested false ticket t h = cc

-- a process that acted waits with these alternatives
pub put-offered : (rows now : List Stand) (old new : Nodes) (p ticket : ℕ) (due : Option ℕ) (terminate : Bool) (arms : List Arm) → p < length rows →
    now ≡ set rows p (Waits (Select due terminate) ticket arms)
    → length arms ≤ old.room → AreOffered rows old → ((arm : Arm) → has_arm arm arms ≡ true → IsIn new p (list_of old.places arm) ticket) →
    AreBefore new p (length arms) ticket → KeepsOthers old new p
    → AreOffered now new
put-offered rows now old new p ticket due terminate arms lt is few h offered only others =
    changed rows now old new p (Waits (Select due terminate) ticket arms) lt is h (record {
      others = others;
      few = few;
      each = λ k list t low own.
          let has : (k < length arms) × (t ≡ ticket) = only.only k list t (subst (λ n. k < n) (sym others.room) low) own in
          (has.0, ap (λ n. Some n) (sym has.1));
      every = λ arm t own.
          let has : (has_arm arm arms ≡ true) × (ticket ≡ t) = tested (has_arm arm arms) ticket t own in
          subst (λ n. IsIn new p (list_of old.places arm) n) has.1 (offered arm has.0);
    })

-- of a process that waits, no place is in a list but those of its alternatives
pub within-offered : (rows : List Stand) (nodes : Nodes) (p count : ℕ) → count ≡ length (arms_of (at rows p)) → AreOffered rows nodes → (k list t : ℕ) →
    k < nodes.room → node_at nodes p k ≡ in_list list t → k < count
within-offered rows nodes p count is h k list t low own = subst (λ n. k < n) (sym is) (h.each p k list t low own).0

started-arms : (s : Stand) → arms_of (started s) ≡ arms_of s
started-arms Is_idle = refl
started-arms Is_created = refl
started-arms Is_ready = refl
started-arms (Waits why t arms) = refl
started-arms Is_done = refl

started-ticket : (s : Stand) → ticket_of (started s) ≡ ticket_of s
started-ticket Is_idle = refl
started-ticket Is_created = refl
started-ticket Is_ready = refl
started-ticket (Waits why t arms) = refl
started-ticket Is_done = refl

started-offers : (arm : Arm) (s : Stand) → ticket_offering arm (started s) ≡ ticket_offering arm s
started-offers arm Is_idle = refl
started-offers arm Is_created = refl
started-offers arm Is_ready = refl
started-offers arm (Waits why t arms) = refl
started-offers arm Is_done = refl

-- whoever was created is ready
pub started-offered : (rows now : List Stand) (nodes : Nodes) → now ≡ map started rows → AreOffered rows nodes → AreOffered now nodes
started-offered rows now nodes is h = subst (λ v. AreOffered v nodes) (sym is) (record {
  long = h.long ∙ ap (λ n. n * nodes.room) (sym (length-map rows started));
  few = λ q. subst (λ n. length n ≤ nodes.room) (sym (ap arms_of (there q) ∙ started-arms (at rows q))) (h.few q);
  each = λ q k list t low own.
      let was : (k < length (arms_of (at rows q))) × (ticket_of (at rows q) ≡ Some t) = h.each q k list t low own in
      (subst (λ n. k < length n) (sym (ap arms_of (there q) ∙ started-arms (at rows q))) was.0, ap ticket_of (there q) ∙ started-ticket (at rows q) ∙ was.1);
  every = λ arm q t own. h.every arm q t (sym (ap (ticket_offering arm) (there q) ∙ started-offers arm (at rows q)) ∙ own);
})
  where
    there : (q : ℕ) → at (map started rows) q ≡ started (at rows q)
    there q = at-changed started rows q started-kind

none-at : (n x : ℕ) → member_at (replicate n None) x ≡ None
none-at n x = elim (cases_lt x n) [
  | inl lt ↦ get_or-replicate n x None None lt
  | inr le ↦ get_or_past (replicate n None) x None (subst (λ v. v ≤ x) (sym (length-replicate n None)) le)
]

idle-at : (n p : ℕ) → at (replicate n Is_idle) p ≡ Is_idle
idle-at n p = elim (cases_lt p n) [
  | inl lt ↦ get_or-replicate n p Is_idle Is_idle lt
  | inr le ↦ get_or_past (replicate n Is_idle) p Is_idle (subst (λ v. v ≤ p) (sym (length-replicate n Is_idle)) le)
]

-- nobody waits as yet
pub first-offered : (n room : ℕ) (nodes : Nodes) → 0 < n → nodes.room ≡ room → nodes.members ≡ replicate (n * room) None →
    AreOffered (Is_ready ∷ replicate (n - 1) Is_idle) nodes
first-offered n room nodes some room_is members_are = subst (λ v. AreOffered (Is_ready ∷ replicate (n - 1) Is_idle) v) (sym is) (record {
  long = length-replicate (n * room) None ∙ ap (λ k. k * room) (let e : n ≡ suc (n - 1) = omega (arith, some) in e ∙
      ap suc (sym (length-replicate (n - 1) Is_idle)));
  few = λ p. few p;
  each = λ p k list t low own. no-node ((k < length (arms_of (at (Is_ready ∷ replicate (n - 1) Is_idle) p))) ×
      (ticket_of (at (Is_ready ∷ replicate (n - 1) Is_idle) p) ≡ Some t)) (member_at (replicate (n * room) None) (p * room + k)) list t
      (none-at (n * room) (p * room + k)) own;
  every = λ arm p t own. every arm p t own;
})
  where
    made : Nodes
    made = record { places = nodes.places; room = room; members = replicate (n * room) None }

    is : nodes ≡ made
    is =
        ap (λ v. record { places = nodes.places; room = v; members = nodes.members }) room_is
        ∙ ap (λ v. record { places = nodes.places; room = room; members = v }) members_are

    few : (p : ℕ) → length (arms_of (at (Is_ready ∷ replicate (n - 1) Is_idle) p)) ≤ room
    few zero = zero-le
    few (suc p) = subst (λ s. length (arms_of s) ≤ room) (sym (idle-at (n - 1) p)) zero-le

    every : (arm : Arm) (p t : ℕ) → ticket_offering arm (at (Is_ready ∷ replicate (n - 1) Is_idle) p) ≡ Some t → IsIn made p (list_of nodes.places arm) t
    every arm zero t own = clash _ (ticket_offering arm Is_ready) t refl own
    every arm (suc p) t own = clash _ (ticket_offering arm (at (replicate (n - 1) Is_idle) p)) t (ap (ticket_offering arm) (idle-at (n - 1) p)) own

-- the same, where the process and the ticket were named otherwise
pub select-offered : (rows now : List Stand) (old new : Nodes) (p p' ticket ticket' : ℕ) (due : Option ℕ) (terminate : Bool) (arms : List Arm) →
    p' ≡ p → ticket' ≡ ticket → p < length rows
    → now ≡ set rows p (Waits (Select due terminate) ticket arms) → length arms ≤ old.room → AreOffered rows old → ((arm : Arm) → has_arm arm arms ≡ true →
    IsIn new p' (list_of old.places arm) ticket')
    → AreBefore new p' (length arms) ticket' → KeepsOthers old new p' → AreOffered now new
select-offered rows now old new p p' ticket ticket' due terminate arms same since lt is few h offered only others =
    put-offered rows now old new p ticket due terminate arms lt is few h
    (λ arm has. subst (λ n. IsIn new n (list_of old.places arm) ticket) same (subst (λ n. IsIn new p' (list_of old.places arm) n) since (offered arm has)))
    (subst (λ n. AreBefore new n (length arms) ticket) same (subst (λ n. AreBefore new p' (length arms) n) since only))
    (subst (λ n. KeepsOthers old new n) same others)
