-- Clocks: the steps by which one is gathered, and what the clocks of all events tell.
use Rattle.std.proofs.Common.{◌≡◌, ◌≢◌, ℕ, zero, suc, ◌+◌, ◌<◌, ◌≤◌, max, ◌⊎◌, inl, inr, Bool, true, ◌||◌, eqb, ltb, List, [], length, map, get_or, set}
use Rattle.std.proofs.Common.{replicate, Decides, arith, refl, ap, sym, subst, ◌∙◌, eqb-true, eq-eqb}
use Rattle.std.specs.List.{list_any, All}
use Rattle.std.proofs.lemmas.Bool.{or_cases, or_left, or_right, cases_eq, cases_lt, false≢true, ltb-true, lt-ltb}
use Rattle.std.proofs.lemmas.Bool.Decides.{same_from_decides}
use Rattle.std.proofs.lemmas.List.{length-set, length-map, length-replicate, get_or-map, get_or_default, get_or-set_same, get_or-set_other, get_or_read}
use Rattle.pfc_hb.specs.declared.events.Event.{Event}
use Rattle.pfc_hb.specs.declared.objects.Thing.{Thing}
use Rattle.pfc_hb.specs.declared.objects.Thing.TheVariants.{Semaphore, Channel, Monitor, Resource, Owner}
use Rattle.pfc_hb.specs.Order.{no_event, event_at, shares_thing, is_same_thing, Before, is_before}
use Rattle.pfc_hb.specs.Order.Before.{through}
use Rattle.pfc_hb.specs.Clocks.{reaches, leads, has_thing, IsLastWith, AreSlots, Has, IsClock, AreClocks, Gathers, Keeps, HasAll, AreColumns, TellsBehind}
use Rattle.pfc_hb.specs.Clocks.{TellOrder}
use Rattle.pfc_hb.proofs.ListAny.{list_any-found, list_any-at}
use Rattle.pfc_hb.proofs.BeforeLaws.{Before-ordered, Before-cause, cause-leads, leads-before, is_before-decides}

zeros : (n s : ℕ) → ◌≡◌ {A = ℕ} (get_or (replicate n 0) s 0) 0
zeros zero s = refl
zeros (suc n) zero = refl
zeros (suc n) (suc s) = zeros n s

-- ## Objects

same_thing-equal : (t u : Thing) → is_same_thing t u ≡ true → t ≡ u
same_thing-equal (Semaphore a) (Semaphore b) h = ap Semaphore (eqb-true a b h)
same_thing-equal (Channel a) (Channel b) h = ap Channel (eqb-true a b h)
same_thing-equal (Monitor a) (Monitor b) h = ap Monitor (eqb-true a b h)
same_thing-equal (Resource a) (Resource b) h = ap Resource (eqb-true a b h)
same_thing-equal (Owner a) (Owner b) h = ap Owner (eqb-true a b h)
same_thing-equal t u h = absurd (false≢true h)

same_thing-itself : (t : Thing) → is_same_thing t t ≡ true
same_thing-itself (Semaphore a) = eq-eqb a a refl
same_thing-itself (Channel a) = eq-eqb a a refl
same_thing-itself (Monitor a) = eq-eqb a a refl
same_thing-itself (Resource a) = eq-eqb a a refl
same_thing-itself (Owner a) = eq-eqb a a refl

-- two events with one object share it
pub shares-common : (t : Thing) (a b : Event) → has_thing t a ≡ true → has_thing t b ≡ true → shares_thing a b ≡ true
shares-common t a b first second =
    let f = list_any-found (is_same_thing t) a.things t first in
    let it : get_or a.things f.0 t ≡ t = sym (same_thing-equal t (get_or a.things f.0 t) f.2) in
    list_any-at (λ u. list_any (is_same_thing u) b.things) a.things t f.0 f.1 (rw it second)

-- what two events share is an object of the second that the first has
pub shares-found : (a b : Event) (d : Thing) → shares_thing a b ≡ true → (m : ℕ) × (m < length b.things) × (has_thing (get_or b.things m d) a ≡ true)
shares-found a b d h =
    let f = list_any-found (λ u. list_any (is_same_thing u) b.things) a.things d h in
    let t = get_or a.things f.0 d in
    let g = list_any-found (is_same_thing t) b.things d f.2 in
    let it : t ≡ get_or b.things g.0 d = same_thing-equal t (get_or b.things g.0 d) g.2 in
    (g.0, g.1, list_any-at (is_same_thing (get_or b.things g.0 d)) a.things d f.0 f.1 (subst (λ v. is_same_thing v t ≡ true) it (same_thing-itself t)))

-- a list's element is in it, at any default
pub has_thing-at : (e : Event) (m : ℕ) (t : Thing) → m < length e.things → t ≡ get_or e.things m t → has_thing t e ≡ true
has_thing-at e m t lt is = list_any-at (is_same_thing t) e.things t m lt (subst (λ u. is_same_thing t u ≡ true) is (same_thing-itself t))

-- a test of two events that were read at their places
pub test-read : (test : Event → Event → Bool) (events : List Event) (i j : ℕ) (a b : Event) (r : Bool) → i < length events → j < length events
    → a ≡ get_or events i a → b ≡ get_or events j b → r ≡ test a b → r ≡ test (event_at events i) (event_at events j)
test-read test events i j a b r small within first second told =
    let f : a ≡ event_at events i = get_or_read events i a small first no_event in
    let s : b ≡ event_at events j = get_or_read events j b within second no_event in
    told ∙ ap (λ v. test v b) f ∙ ap (λ v. test (event_at events i) v) s

-- ## Gathering

module _ (events : List Event) (slots : List ℕ) (width : ℕ) where
  -- a clock that counts nothing, before any cause was looked at
  pub gathers-nothing : (j : ℕ) → Gathers events slots width j (replicate width 0)
  gathers-nothing j = record {
    wide = length-replicate width 0;
    low = λ s. rw zeros (omega arith);
    sound = λ k h. absurd (omega (arith, rw zeros at h));
    closed = λ m k h b. absurd (omega (arith, rw zeros at h));
  }

  -- a clock and that of an event before, joined
  pub joins-kept : (clock other joint : List ℕ) → ((s : ℕ) → get_or joint s 0 ≡ max (get_or clock s 0) (get_or other s 0)) → Keeps slots clock joint
  joins-kept clock other joint greater k h = rw (greater (get_or slots k 0)) (omega (arith, h))

  pub joins-counted : (i : ℕ) (clock other joint : List ℕ) → IsClock events slots width i other
      → ((s : ℕ) → get_or joint s 0 ≡ max (get_or clock s 0) (get_or other s 0)) → Has slots joint i
  joins-counted i clock other joint o greater = rw (greater (get_or slots i 0)) (omega (arith, o.own))

  pub gathers-joined : (j i : ℕ) (clock other joint : List ℕ) → Before events i j → Gathers events slots width j clock → IsClock events slots width i other
      → length joint ≡ length clock → ((s : ℕ) → get_or joint s 0 ≡ max (get_or clock s 0) (get_or other s 0)) → Gathers events slots width j joint
  gathers-joined j i clock other joint before g o long greater =
      let lt : i < j = Before-ordered before in
      let parts : (k : ℕ) → Has slots joint k → Has slots clock k ⊎ Has slots other k =
      λ k h. elim (cases_lt k (get_or clock (get_or slots k 0) 0)) [
        | inl a ↦ inl a
        | inr b ↦ let h' : k < max (get_or clock (get_or slots k 0) 0) (get_or other (get_or slots k 0) 0) =
            rw (greater (get_or slots k 0)) at h in inr (omega (arith, b, h'))
      ] in
      let left : (k : ℕ) → Has slots clock k → Has slots joint k = joins-kept clock other joint greater in
      let right : (k : ℕ) → Has slots other k → Has slots joint k = λ k h. rw (greater (get_or slots k 0)) (omega (arith, h)) in
      let near : (k : ℕ) → Has slots other k → k ≤ i = λ k h. omega (arith, h, o.low (get_or slots k 0)) in
      let known : (k : ℕ) → Has slots other k → (k ≡ i) ⊎ Before events k i = λ k h. elim (cases_eq k i) [
        | inl e ↦ inl e
        | inr other' ↦ let n : k ≤ i = near k h in inr (o.sound k (omega (arith, n, other')) h)
      ] in
      record {
        wide = long ∙ g.wide;
        low = λ s. rw (greater s) (omega (arith, g.low s, o.low s));
        sound = λ k h. elim (parts k h) [
          | inl a ↦ g.sound k a
          | inr b ↦ elim (known k b) [ inl e ↦ subst (λ v. Before events v j) (sym e) before | inr earlier ↦ through earlier before ]
        ];
        closed = λ m k h b. elim (parts k h) [
          | inl a ↦ left m (g.closed m k a b)
          | inr p ↦ elim (known k p) [
            | inl e ↦ right m (o.complete m (subst (λ v. Before events m v) e b))
            | inr earlier ↦ right m (o.complete m (through b earlier))
          ]
        ];
      }

  -- ## What leads to an event is before it

  pub reaches-before : (i j : ℕ) → i < j → j < length events → reaches (event_at events i) (event_at events j) ≡ true → Before events i j
  reaches-before i j lt within h = leads-before events i j lt within (or_left _ _ (or_left _ _ h))

  pub shares-before : (i j : ℕ) → i < j → j < length events → shares_thing (event_at events i) (event_at events j) ≡ true → Before events i j
  shares-before i j lt within h = leads-before events i j lt within (or_left _ _ (or_right _ _ h))

  pub joins-before : (i j : ℕ) → i < j → j < length events → (event_at events j).joins ≡ true → Before events i j
  joins-before i j lt within h = leads-before events i j lt within (or_right _ _ h)

  -- behind the last event of its process nothing that reaches it is left to be found
  pub own_past-rest : (j i : ℕ) (clock : List ℕ) → i < j → j < length events → (event_at events i).process ≡ (event_at events j).process
      → Gathers events slots width j clock
      → ((k : ℕ) → i ≤ k → k < j → reaches (event_at events k) (event_at events j) ≡ true → Has slots clock k)
      → HasAll events slots reaches j clock
  own_past-rest j i clock lt within one g so_far k small h =
      let here : Has slots clock i = so_far i (omega arith) lt (or_left _ _ (eq-eqb _ _ one)) in
      elim (cases_lt k i) [
        | inr later ↦ so_far k later small h
        | inl earlier ↦
            let h' : reaches (event_at events k) (event_at events i) ≡ true =
            subst (λ p. (eqb (event_at events k).process p || list_any (λ q. eqb q p) (event_at events k).wakes) ≡ true) (sym one) h in
            g.closed k i here (reaches-before k i earlier (omega (arith, lt, within)) h')
      ]

  -- with the last event that has an object, all that have it are counted
  pub object-counted : (t : Thing) (j i : ℕ) (clock : List ℕ) → j < length events → IsLastWith events t j i →
      Gathers events slots width j clock → Has slots clock i
      → (k : ℕ) → k < j → has_thing t (event_at events k) ≡ true → Has slots clock k
  object-counted t j i clock within last g here k small h = elim (cases_eq k i) [
    | inl e ↦ subst (λ v. Has slots clock v) (sym e) here
    | inr other ↦ elim (cases_lt k i) [
      | inl earlier ↦ g.closed k i here (shares-before k i earlier (omega (arith, last.below, within))
          (shares-common t (event_at events k) (event_at events i) h last.has))
      | inr later ↦ absurd (false≢true (sym (last.behind k (omega (arith, later, other)) small) ∙ h))
    ]
  ]

  pub object-before : (t : Thing) (j i : ℕ) → j < length events → has_thing t (event_at events j) ≡ true → IsLastWith events t j i → Before events i j
  object-before t j i within has last =
      shares-before i j last.below within (shares-common t (event_at events i) (event_at events j) last.has has)

  -- every object of an event was looked at
  pub objects-counted : (j : ℕ) (clock : List ℕ) (d : Thing)
      → ((m : ℕ) → m < length (event_at events j).things → (k : ℕ) → k < j →
      has_thing (get_or (event_at events j).things m d) (event_at events k) ≡ true → Has slots clock k)
      → HasAll events slots shares_thing j clock
  objects-counted j clock d each k small h =
      let f = shares-found (event_at events k) (event_at events j) d h in
      each f.0 f.1 k small f.2

  -- the three kinds of causes together
  pub all-counted : (j : ℕ) (own objects clock : List ℕ) → HasAll events slots reaches j own → Keeps slots own objects →
      HasAll events slots shares_thing j objects → Keeps slots objects clock
      → ((event_at events j).joins ≡ true → (k : ℕ) → k < j → Has slots clock k) → HasAll events slots leads j clock
  all-counted j own objects clock first kept second also third k small h = elim (or_cases _ _ h) [
    | inl rest ↦ elim (or_cases _ _ rest) [ inl r ↦ also k (kept k (first k small r)) | inr s ↦ also k (second k small s) ]
    | inr joined ↦ third joined k small
  ]

  -- the gathered clock, with the count of the event itself
  pub is_clock : (j : ℕ) (clock : List ℕ) → AreSlots events slots width → j < length events →
      Gathers events slots width j clock → HasAll events slots leads j clock
      → IsClock events slots width j (set clock (get_or slots j 0) (j + 1))
  is_clock j clock are within g all =
      let mine = get_or slots j 0 in
      let fits : mine < length clock = rw g.wide (are.within j within) in
      let at : get_or (set clock mine (j + 1)) mine 0 ≡ j + 1 = get_or-set_same clock mine (j + 1) 0 fits in
      let beside : (s : ℕ) → s ≢ mine → get_or (set clock mine (j + 1)) s 0 ≡ get_or clock s 0 = λ s ne. get_or-set_other clock mine s (j + 1) 0 ne in
      record {
        wide = length-set clock mine (j + 1) ∙ g.wide;
        low = λ s. elim (cases_eq s mine) [
          | inl e ↦ subst (λ v. get_or (set clock mine (j + 1)) v 0 ≤ j + 1) (sym e) (omega (arith, at))
          | inr ne ↦ omega (arith, beside s ne, g.low s)
        ];
        own = omega (arith, at);
        sound = λ i lt h. elim (cases_eq (get_or slots i 0) mine) [
          | inl e ↦ reaches-before i j lt within (or_left _ _ (eq-eqb _ _ (are.apart i j (omega (arith, lt, within)) within e)))
          | inr ne ↦ g.sound i (omega (arith, h, beside (get_or slots i 0) ne))
        ];
        complete = λ i b.
            let lt : i < j = Before-ordered b in
            let c = Before-cause b in
            let has : Has slots clock c.0 = all c.0 c.1 (cause-leads events c.0 j c.2) in
            let it : Has slots clock i = elim c.3 [ inl e ↦ subst (λ v. Has slots clock v) (sym e) has | inr earlier ↦ g.closed i c.0 has earlier ] in
            elim (cases_eq (get_or slots i 0) mine) [
              | inl e ↦ subst (λ v. i < get_or (set clock mine (j + 1)) v 0) (sym e) (omega (arith, at, lt))
              | inr ne ↦ omega (arith, it, beside (get_or slots i 0) ne)
            ];
      }

  -- what the column of an event's process tells
  tells_behind : (clocks : List (List ℕ)) (i : ℕ) → i < length events → length clocks ≡ length events → AreClocks events slots width (length events) clocks
      → TellsBehind events i (map (λ clock. get_or clock (get_or slots i 0) 0) clocks)
  tells_behind clocks i small long each =
      let s = get_or slots i 0 in
      record {
        wide = length-map clocks (λ clock. get_or clock s 0) ∙ long;
        told = λ j lt within.
            let c = each j within in
            let at : get_or (map (λ clock. get_or clock s 0) clocks) j 0 ≡ get_or (get_or clocks j []) s 0 =
            get_or-map (λ clock. get_or clock s 0) clocks j [] 0 (rw long within) in
            let past = ltb i (get_or (get_or clocks j []) s 0) in
            let decided : Decides past (Before events i j) = (λ h. c.sound i lt (ltb-true _ _ h), λ b. lt-ltb _ _ (c.complete i b)) in
            ap (ltb i) at ∙ same_from_decides past (is_before events i j) decided (is_before-decides events i j within);
      }

  -- what slots and columns tell together
  pub tell_order : (clocks columns : List (List ℕ)) → AreSlots events slots width → length clocks ≡ length events
      → AreClocks events slots width (length events) clocks → AreColumns clocks width columns → TellOrder events slots columns
  tell_order clocks columns are long each beside = record {
    slotted = are.each;
    within = λ i small. rw beside.each (are.within i small);
    told = λ i small. subst (TellsBehind events i) (sym (beside.column (get_or slots i 0) (are.within i small))) (tells_behind clocks i small long each);
  }

  pub clocks-wide : (clocks : List (List ℕ)) → length clocks ≡ length events → AreClocks events slots width (length events) clocks
      → All (λ clock. length clock ≡ width) clocks
  clocks-wide clocks long each k d lt =
      let there : get_or clocks k d ≡ get_or clocks k [] = get_or_default clocks k d [] lt in
      rw there (each k (rw long at lt)).wide
