-- The computed races are the races: exactly these, in order.
use Rattle.std.proofs.Common.{get_or, ◌≡◌, ℕ, zero, suc, ◌+◌, ◌-◌, ◌<◌, ◌≤◌, inl, inr, Bool, true, false, not, ◌&&◌, ltb, cond, List, [], ◌∷◌, ◌++◌, length}
use Rattle.std.proofs.Common.{set, take, arith, add-one, refl, sym, ap, subst, ◌∙◌}
use Rattle.pfc_hb.specs.Lines.{IsPair}
use Rattle.std.specs.List.{All, Contains, AllPairs}
use Rattle.std.proofs.lemmas.Bool.{and_from, and_parts, and_left, and_right, cases_eq, cases_lt, false≢true, ltb-true, lt-ltb, le-ltb, not-true, not_from_false}
use Rattle.std.proofs.lemmas.Bool.{false_from_ne_true}
use Rattle.std.proofs.lemmas.List.{append_assoc, append-nil, length-append, get_or_append_left, get_or-append_right, take-set, take_more_set}
use Rattle.std.proofs.lemmas.List.Elements.{Contains-get_or, Contains-append_left, Contains-append_right, Contains-append_cases, Contains-push}
use Rattle.std.proofs.lemmas.List.Elements.{Contains-push_cases}
use Rattle.pfc_hb.specs.declared.events.Event.{Event}
use Rattle.pfc_hb.specs.declared.events.Race.{Race}
use Rattle.pfc_hb.specs.Order.{event_at, has_same_process, Before, is_before}
use Rattle.pfc_hb.specs.Conflicts.{have_clash, conflicts, IsRace, Precedes, AreRaces, is_race, race_at, races_with, races_below, races_of}
use Rattle.pfc_hb.proofs.BeforeLaws.{is_before-decides, same_process-before}

-- ## Lists

all_pairs_append : {X : Type 0} (R : X → X → Type 0) (xs ys : List X) → AllPairs R xs → AllPairs R ys
    → ((x y : X) → Contains xs x → Contains ys y → R x y) → AllPairs R (xs ++ ys)
all_pairs_append R xs ys first second across i j d lt within =
    let m = length xs in
    let total : j < m + length ys = subst (λ n. j < n) (length-append xs ys) within in
    elim (cases_lt j m) [
      | inl left ↦
          rw (get_or_append_left xs ys d i (omega (arith, lt, left)), get_or_append_left xs ys d j left) (first i j d lt left)
      | inr right ↦
          let small : j - m < length ys = omega (arith, total, right) in
          rw (get_or-append_right xs ys m j d refl right)
          (elim (cases_lt i m) [
            | inl here ↦ rw (get_or_append_left xs ys d i here) (across _ _ (Contains-get_or xs i d here) (Contains-get_or ys (j - m) d small))
            | inr there ↦ rw (get_or-append_right xs ys m i d refl there) (second (i - m) (j - m) d (omega (arith, lt, there, right)) small)
          ])
    ]

-- ## One pair more

-- the list of what a test lets through
abbrev kept : Race → Bool → List Race
kept r b = cond b (r ∷ []) []

kept-cases : (r x : Race) (b : Bool) → Contains (kept r b) x → (b ≡ true) × (x ≡ r)
kept-cases r x true c = elim (Contains-push_cases [] r x c) [ inl n ↦ absurd (omega (arith, n.1)) | inr e ↦ (refl, sym e) ]
kept-cases r x false c = absurd (omega (arith, c.1))

kept-there : (r : Race) (b : Bool) → b ≡ true → Contains (kept r b) r
kept-there r true h = Contains-push [] r
kept-there r false h = absurd (false≢true h)

all_pairs_none : (R : Race → Race → Type 0) → AllPairs R []
all_pairs_none R i j d lt within = absurd (omega (arith, within))

kept-pairs : (R : Race → Race → Type 0) (r : Race) (b : Bool) → AllPairs R (kept r b)
kept-pairs R r true i j d lt within = absurd (omega (arith, lt, within))
kept-pairs R r false i j d lt within = absurd (omega (arith, within))

own_ordered : (clash same before : Bool) → (same ≡ true → before ≡ true) → ((clash && not same) && not before) ≡ (clash && not before)
own_ordered false same before h = refl
own_ordered true false before h = refl
own_ordered true true before h = rw (h refl) refl

module _ (events : List Event) where
  -- whether a pair is put in
  abbrev pub passes : ℕ → ℕ → Bool
  passes i j = ltb i j && is_race events i j

  races_with-element : (i n : ℕ) (r : Race) → Contains (races_with events i n) r → (j : ℕ) × (j < n) × (i < j) × (is_race events i j ≡ true) × (r ≡ race_at i j)
  races_with-element i zero r c = absurd (omega (arith, c.1))
  races_with-element i (suc n) r c = elim (Contains-append_cases (races_with events i n) (kept (race_at i n) (passes i n)) r c) [
    | inl old ↦ let f = races_with-element i n r old in (f.0, omega (arith, f.1), f.2, f.3, f.4)
    | inr new ↦
        let k = kept-cases (race_at i n) r (passes i n) new in
        let both = and_parts (ltb i n) (is_race events i n) k.0 in
        (n, omega arith, ltb-true i n both.0, both.1, k.1)
  ]

  races_with-there : (i n j : ℕ) → j < n → i < j → is_race events i j ≡ true → Contains (races_with events i n) (race_at i j)
  races_with-there i zero j small lt h = absurd (omega (arith, small))
  races_with-there i (suc n) j small lt h = elim (cases_eq j n) [
    | inl e ↦ subst (λ v. Contains (races_with events i (suc n)) (race_at i v)) (sym e)
        (Contains-append_right (races_with events i n) (kept (race_at i n) (passes i n)) (race_at i n)
        (kept-there (race_at i n) (passes i n) (and_from _ _ (lt-ltb i n (omega (arith, lt, e))) (subst (λ v. is_race events i v ≡ true) e h))))
    | inr other ↦ Contains-append_left (races_with events i n) (kept (race_at i n) (passes i n)) (race_at i j)
        (races_with-there i n j (omega (arith, small, other)) lt h)
  ]

  races_with-sorted : (i n : ℕ) → AllPairs Precedes (races_with events i n)
  races_with-sorted i zero = all_pairs_none Precedes
  races_with-sorted i (suc n) =
      all_pairs_append Precedes (races_with events i n) (kept (race_at i n) (passes i n)) (races_with-sorted i n)
      (kept-pairs Precedes (race_at i n) (passes i n))
      (λ x y old new.
      let f = races_with-element i n x old in
      let k = kept-cases (race_at i n) y (passes i n) new in
      rw (f.4, k.1) (inr (refl, omega (arith, f.1))))

  -- nothing is put in up to the event itself
  pub races_with-nothing : (i n : ℕ) → n ≤ i + 1 → races_with events i n ≡ []
  races_with-nothing i zero few = refl
  races_with-nothing i (suc n) few =
      let none : passes i n ≡ false = and_left _ _ (le-ltb i n (omega (arith, few))) in
      rw (races_with-nothing i n (omega (arith, few)), none) refl

  -- an event without accesses has no races
  pub races_with-no_accesses : (i n : ℕ) → (event_at events i).accesses ≡ [] → races_with events i n ≡ []
  races_with-no_accesses i zero none = refl
  races_with-no_accesses i (suc n) none =
      let calm : have_clash (event_at events i) (event_at events n) ≡ false = rw none refl in
      let quiet : conflicts (event_at events i) (event_at events n) ≡ false = and_left _ _ calm in
      let nothing : passes i n ≡ false = and_right _ _ (and_left _ _ quiet) in
      rw (races_with-no_accesses i n none, nothing) refl

  -- events of one process are in order, so the test of the processes adds nothing to that of the order
  pub race-unordered : (i j : ℕ) → i < j → j < length events →
      is_race events i j ≡ (have_clash (event_at events i) (event_at events j) && not (is_before events i j))
  race-unordered i j lt within =
      own_ordered (have_clash (event_at events i) (event_at events j)) (has_same_process (event_at events i) (event_at events j)) (is_before events i j)
      (λ s. (is_before-decides events i j within).1 (same_process-before events i j lt within s))

  -- one second event more
  pub races_with-step : (i j : ℕ) (start now later : List Race) (racing : Bool) → i < j → racing ≡ is_race events i j
      → now ≡ start ++ races_with events i j → later ≡ now ++ cond racing (race_at i j ∷ []) [] → later ≡ start ++ races_with events i (j + 1)
  races_with-step i j start now later racing lt is so_far added =
      let behind : ltb i j ≡ true = lt-ltb i j lt in
      let all : now ++ cond racing (race_at i j ∷ []) [] ≡ (start ++ races_with events i j) ++ cond (passes i j) (race_at i j ∷ []) [] =
      rw (so_far, is, behind) refl in
      rw add-one (added ∙ all ∙ append_assoc start (races_with events i j) (cond (passes i j) (race_at i j ∷ []) []))

  races_below-element : (m : ℕ) (r : Race) → Contains (races_below events m) r → (i : ℕ) × (i < m) × Contains (races_with events i (length events)) r
  races_below-element zero r c = absurd (omega (arith, c.1))
  races_below-element (suc m) r c = elim (Contains-append_cases (races_below events m) (races_with events m (length events)) r c) [
    | inl old ↦ let f = races_below-element m r old in (f.0, omega (arith, f.1), f.2)
    | inr new ↦ (m, omega arith, new)
  ]

  races_below-there : (m i : ℕ) (r : Race) → i < m → Contains (races_with events i (length events)) r → Contains (races_below events m) r
  races_below-there zero i r lt c = absurd (omega (arith, lt))
  races_below-there (suc m) i r lt c = elim (cases_eq i m) [
    | inl e ↦ Contains-append_right (races_below events m) (races_with events m (length events)) r
        (subst (λ v. Contains (races_with events v (length events)) r) e c)
    | inr other ↦ Contains-append_left (races_below events m) (races_with events m (length events)) r (races_below-there m i r (omega (arith, lt, other)) c)
  ]

  races_below-sorted : (m : ℕ) → AllPairs Precedes (races_below events m)
  races_below-sorted zero = all_pairs_none Precedes
  races_below-sorted (suc m) =
      all_pairs_append Precedes (races_below events m) (races_with events m (length events)) (races_below-sorted m) (races_with-sorted m (length events))
      (λ x y old new.
      let a = races_below-element m x old in
      let f = races_with-element a.0 (length events) x a.2 in
      let g = races_with-element m (length events) y new in
      rw (f.4, g.4) (inl (omega (arith, a.1))))

  -- ## What is computed of a pair

  race-equal : (r : Race) (a b : ℕ) → a ≡ r.first → b ≡ r.second → r ≡ record { first = a; second = b }
  race-equal r a b e f = rw (e, f) refl

  race-is : (i j : ℕ) → i < j → j < length events → is_race events i j ≡ true → IsRace events (race_at i j)
  race-is i j lt within h =
      let both = and_parts (conflicts (event_at events i) (event_at events j)) (not (is_before events i j)) h in
      let at : (k : ℕ) → k + 1 - 1 ≡ k = λ k. omega arith in
      record {
        counted = omega arith;
        ordered = omega (arith, lt);
        happened = omega (arith, within);
        conflict = rw (at i, at j) both.0;
        unordered = λ b.
            let b' : Before events i j = rw (at i, at j) at b in
            false≢true (sym (not-true _ both.1) ∙ (is_before-decides events i j within).1 b');
      }

  race-computed : (r : Race) → IsRace events r → (i : ℕ) × (j : ℕ) × (i < j) × (j < length events) × (is_race events i j ≡ true) × (r ≡ race_at i j)
  race-computed r h =
      let i = r.first - 1 in
      let j = r.second - 1 in
      let within : j < length events = omega (arith, h.counted, h.ordered, h.happened) in
      let calm : is_before events i j ≡ false = false_from_ne_true _ (λ e. h.unordered ((is_before-decides events i j within).0 e)) in (
        i,
        j,
        omega (arith, h.counted, h.ordered),
        within,
        and_from _ _ h.conflict (not_from_false _ calm),
        race-equal r (i + 1) (j + 1) (omega (arith, h.counted)) (omega (arith, h.ordered)),
      )

  pub are_races : AreRaces events (races_of events)
  are_races = record {
    exact = λ r. (
      λ c.
          let a = races_below-element (length events) r c in
          let f = races_with-element a.0 (length events) r a.2 in
          rw f.4 (race-is a.0 f.0 f.2 f.1 f.3),
      λ h.
          let f = race-computed r h in
          rw f.5 (races_below-there (length events) f.0 (race_at f.0 f.1) (omega (arith, f.2, f.3)) (races_with-there f.0 (length events) f.1 f.3 f.2 f.4)),
    );
    sorted = races_below-sorted (length events);
  }

-- the events of a race happened
pub races-pairs : (events : List Event) (races : List Race) → AreRaces events races → All (IsPair events) races
races-pairs events races are = λ k d lt.
    let r = get_or races k d in
    let is : IsRace events r = (are.exact r).0 (Contains-get_or races k d lt) in
    record {
      first_from = is.counted;
      first_to = omega (arith, is.ordered, is.happened);
      second_from = omega (arith, is.counted, is.ordered);
      second_to = is.happened;
    }

-- a race is written behind those before it, and stays where its event is marked
pub note-step : (races : List Race) (place : ℕ) (race : Race) (marked : Bool) (n : ℕ) → place < length races → n ≡ cond marked 1 0
    → take (place + n) (set races place race) ≡ take place races ++ cond marked (race ∷ []) []
note-step races place race true n lt is = rw is (take_more_set races place race lt)
note-step races place race false n lt is =
    let none : place + n ≡ place = omega (arith, is) in
    ap (λ k. take k (set races place race)) none ∙ take-set races place race ∙ sym (append-nil (take place races))

pub one-at-most : (marked : Bool) (n : ℕ) → n ≡ cond marked 1 0 → n ≤ 1
one-at-most true n is = omega (arith, is)
one-at-most false n is = omega (arith, is)
