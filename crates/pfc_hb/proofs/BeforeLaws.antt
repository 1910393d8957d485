-- The order of events, and that its computed reading is the relation.
use Rattle.std.proofs.Common.{◌≡◌, ℕ, zero, suc, ◌<◌, ◌≤◌, ◌⊎◌, inl, inr, Bool, true, false, not, ◌&&◌, ◌||◌, eqb, List, [], ◌∷◌, length, get_or, Decides}
use Rattle.std.proofs.Common.{arith, refl, sym, subst, ◌∙◌, eqb-true, eq-eqb}
use Rattle.std.specs.List.{list_any, Contains}
use Rattle.std.proofs.lemmas.Bool.{or_cases, or_left, or_right, cases_Bool, cases_eq, false≢true}
use Rattle.std.proofs.lemmas.List.Elements.{Contains-get_or, Contains-append_left, Contains-push, Contains-push_cases}
use Rattle.pfc_hb.specs.declared.events.Event.{Event}
use Rattle.pfc_hb.specs.Order.{no_event, event_at, has_same_process, wakes_process_of, shares_thing, acts_between, is_cause, Before, some_cause, with_place}
use Rattle.pfc_hb.specs.Order.{reached, is_before}
use Rattle.pfc_hb.specs.Order.Before.{direct, through}
use Rattle.pfc_hb.specs.Clocks.{leads}
use Rattle.pfc_hb.proofs.ListAny.{list_any-found, list_any-contained, list_any-between}

pub Before-ordered : {events : List Event} {i j : ℕ} → Before events i j → i < j
Before-ordered (direct lt within cause) = lt
Before-ordered (through a b) = let p = Before-ordered a in let q = Before-ordered b in omega (arith, p, q)

pub Before-happened : {events : List Event} {i j : ℕ} → Before events i j → j < length events
Before-happened (direct lt within cause) = within
Before-happened (through a b) = Before-happened b

-- what is before an event is a direct cause of it, or before one
pub Before-cause : {events : List Event} {i k : ℕ} → Before events i k → (j : ℕ) × (j < k) × (is_cause events j k ≡ true) × ((i ≡ j) ⊎ Before events i j)
Before-cause {events} {i} {k} (direct lt within cause) = (i, lt, cause, inl refl)
Before-cause {events} {i} {k} (through a b) =
    let c = Before-cause b in
    (c.0, c.1, c.2, elim c.3 [ inl e ↦ inr (subst (λ n. Before events i n) e a) | inr q ↦ inr (through a q) ])

-- ## Causes

without_next : (s w n t j : Bool) → (s || (w && n) || t || j) ≡ true → (s || w || t || j) ≡ true
without_next true w n t j h = refl
without_next false true n t j h = refl
without_next false false n t j h = h

-- what leads to an event: the same process, a wake, a common object, or that it joins
lead_cases : (s w t j : Bool) → (s || w || t || j) ≡ true → (s ≡ true) ⊎ ((w ≡ true) ⊎ ((t ≡ true) ⊎ (j ≡ true)))
lead_cases true w t j h = inl refl
lead_cases false true t j h = inr (inl refl)
lead_cases false false true j h = inr (inr (inl refl))
lead_cases false false false j h = inr (inr (inr h))

by_process : (s w n t j : Bool) → s ≡ true → (s || (w && n) || t || j) ≡ true
by_process s w n t j h = rw h refl

by_wake : (s w a t j : Bool) → w ≡ true → a ≡ false → (s || (w && not a) || t || j) ≡ true
by_wake true w a t j h k = refl
by_wake false w a t j h k = rw (h, k) refl

by_thing : (s w n t j : Bool) → t ≡ true → (s || (w && n) || t || j) ≡ true
by_thing s w n t j h = or_left (s || (w && n) || t) j (or_right (s || (w && n)) t h)

by_join : (s w n t j : Bool) → j ≡ true → (s || (w && n) || t || j) ≡ true
by_join s w n t j h = or_right (s || (w && n) || t) j h

module _ (events : List Event) (i j : ℕ) where
  abbrev pub same : Bool
  same = has_same_process (event_at events i) (event_at events j)

  abbrev pub woken : Bool
  woken = wakes_process_of (event_at events i) (event_at events j)

  abbrev pub acts : Bool
  acts = acts_between events (event_at events j) i j

  abbrev pub shared : Bool
  shared = shares_thing (event_at events i) (event_at events j)

  abbrev pub joined : Bool
  joined = (event_at events j).joins

  -- a direct cause leads to what it causes
  pub cause-leads : is_cause events i j ≡ true → leads (event_at events i) (event_at events j) ≡ true
  cause-leads h = without_next same woken (not acts) shared joined h

  pub leads-cases : leads (event_at events i) (event_at events j) ≡ true → (same ≡ true) ⊎ ((woken ≡ true) ⊎ ((shared ≡ true) ⊎ (joined ≡ true)))
  leads-cases h = lead_cases same woken shared joined h

  cause-by_process : same ≡ true → is_cause events i j ≡ true
  cause-by_process h = by_process same woken (not acts) shared joined h

  cause-by_wake : woken ≡ true → acts ≡ false → is_cause events i j ≡ true
  cause-by_wake h k = by_wake same woken acts shared joined h k

  cause-by_thing : shared ≡ true → is_cause events i j ≡ true
  cause-by_thing h = by_thing same woken (not acts) shared joined h

  cause-by_join : joined ≡ true → is_cause events i j ≡ true
  cause-by_join h = by_join same woken (not acts) shared joined h

-- Whom an event wakes, its later events are after it: the first of them directly, the others after that one.
wakes-before : (events : List Event) (n i j : ℕ) → j ≤ n → i < j → j < length events → woken events i j ≡ true → Before events i j
wakes-before events zero i j most lt within wakes = absurd (omega (arith, most, lt))
wakes-before events (suc n) i j most lt within wakes = elim (cases_Bool (acts events i j)) [
  | inl found ↦
      let f = list_any-between (λ e. has_same_process e (event_at events j)) events no_event i j found in
      let k = f.0 in
      let one : (event_at events k).process ≡ (event_at events j).process = eqb-true (event_at events k).process (event_at events j).process f.3 in
      let wakes_k : woken events i k ≡ true = subst (λ p. list_any (λ q. eqb q p) (event_at events i).wakes ≡ true) (sym one) wakes in
      let happened : k < length events = omega (arith, f.2, within) in
      through (wakes-before events n i k (omega (arith, f.2, most)) f.1 happened wakes_k)
      (direct f.2 within (cause-by_process events k j f.3))
  | inr none ↦ direct lt within (cause-by_wake events i j wakes none)
]

-- an event is before the later ones of its process
pub same_process-before : (events : List Event) (i j : ℕ) → i < j → j < length events →
    has_same_process (event_at events i) (event_at events j) ≡ true → Before events i j
same_process-before events i j lt within h = direct lt within (cause-by_process events i j h)

-- what leads to a later event is before it
pub leads-before : (events : List Event) (i j : ℕ) → i < j → j < length events → leads (event_at events i) (event_at events j) ≡ true → Before events i j
leads-before events i j lt within h = elim (leads-cases events i j h) [
  | inl s ↦ direct lt within (cause-by_process events i j s)
  | inr rest ↦ elim rest [
    | inl w ↦ wakes-before events j i j (omega arith) lt within w
    | inr others ↦ elim others [
      | inl t ↦ direct lt within (cause-by_thing events i j t)
      | inr k ↦ direct lt within (cause-by_join events i j k)
    ]
  ]
]

-- ## The computed order

module _ (events : List Event) (i : ℕ) where
  -- the event itself, or one that it is before
  abbrev From : ℕ → Type 0
  From k = (i ≡ k) ⊎ Before events i k

  from-cause : (k j : ℕ) → k < j → j < length events → is_cause events k j ≡ true → From k → Before events i j
  from-cause k j lt within cause f = elim f [
    | inl e ↦ subst (λ n. Before events n j) (sym e) (direct lt within cause)
    | inr before ↦ through before (direct lt within cause)
  ]

  -- whether an event has a place among the reached ones
  abbrev adds : ℕ → Bool
  adds n = eqb i n || some_cause events (reached events i n) n

  with_place-cases : (places : List ℕ) (n k : ℕ) (b : Bool) → Contains (with_place places n b) k → Contains places k ⊎ ((n ≡ k) × (b ≡ true))
  with_place-cases places n k true h = elim (Contains-push_cases places n k h) [ inl old ↦ inl old | inr new ↦ inr (new, refl) ]
  with_place-cases places n k false h = inl h

  with_place-old : (places : List ℕ) (n k : ℕ) (b : Bool) → Contains places k → Contains (with_place places n b) k
  with_place-old places n k true h = Contains-append_left places (n ∷ []) k h
  with_place-old places n k false h = h

  with_place-new : (places : List ℕ) (n : ℕ) (b : Bool) → b ≡ true → Contains (with_place places n b) n
  with_place-new places n true h = Contains-push places n
  with_place-new places n false h = absurd (false≢true h)

  reached-sound : (n k : ℕ) → n ≤ length events → Contains (reached events i n) k → (k < n) × From k
  reached-sound zero k few c = absurd (omega (arith, c.1))
  reached-sound (suc n) k few c =
      let known = reached-sound n in
      let room : n ≤ length events = omega (arith, few) in
      elim (with_place-cases (reached events i n) n k (adds n) c) [
        | inl old ↦ let r = reached-sound n k room old in (omega (arith, r.0), r.1)
        | inr new ↦ elim (or_cases (eqb i n) (some_cause events (reached events i n) n) new.1) [
          | inl e ↦ (omega (arith, new.0), inl (eqb-true i n e ∙ new.0))
          | inr caused ↦
              let f = list_any-found (λ m. is_cause events m n) (reached events i n) 0 caused in
              let m = get_or (reached events i n) f.0 0 in
              let r = reached-sound n m room (Contains-get_or (reached events i n) f.0 0 f.1) in
              (omega (arith, new.0), inr (subst (λ v. Before events i v) new.0 (from-cause m n r.0 (omega (arith, few)) f.2 r.1)))
        ]
      ]

  -- a test that finds a cause of an event before which this one is
  some_cause-known : (n : ℕ) → ((k : ℕ) → k < n → From k → Contains (reached events i n) k) → Before events i n →
      some_cause events (reached events i n) n ≡ true
  some_cause-known n known b =
      let c = Before-cause b in
      list_any-contained (λ m. is_cause events m n) (reached events i n) c.0 (known c.0 c.1 c.3) c.2

  reached-complete : (n k : ℕ) → k < n → From k → Contains (reached events i n) k
  reached-complete zero k lt f = absurd (omega (arith, lt))
  reached-complete (suc n) k lt f = elim (cases_eq k n) [
    | inl last ↦
        let added : adds n ≡ true = elim f [
          | inl e ↦ or_left (eqb i n) (some_cause events (reached events i n) n) (eq-eqb i n (e ∙ last))
          | inr b ↦ or_right (eqb i n) (some_cause events (reached events i n) n) (some_cause-known n (reached-complete n)
              (subst (λ v. Before events i v) last b))
        ] in
        subst (λ v. Contains (reached events i (suc n)) v) (sym last) (with_place-new (reached events i n) n (adds n) added)
    | inr other ↦ with_place-old (reached events i n) n k (adds n) (reached-complete n k (omega (arith, lt, other)) f)
  ]

  -- the computed order is the order
  pub is_before-decides : (j : ℕ) → j < length events → Decides (is_before events i j) (Before events i j)
  is_before-decides j within = (
    λ h.
        let f = list_any-found (λ m. is_cause events m j) (reached events i j) 0 h in
        let m = get_or (reached events i j) f.0 0 in
        let r = reached-sound j m (omega (arith, within)) (Contains-get_or (reached events i j) f.0 0 f.1) in
        from-cause m j r.0 within f.2 r.1,
    λ b. some_cause-known j (reached-complete j) b,
  )
