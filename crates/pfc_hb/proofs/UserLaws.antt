-- Users that are put in one by one.
use Rattle.std.proofs.Common.{get_or, ◌≡◌, ◌≢◌, ℕ, zero, suc, ◌+◌, ◌<◌, ◌≤◌, inl, inr, Bool, true, false, ◌&&◌, ◌||◌, eqb, Some, List, [], ◌++◌, length}
use Rattle.std.proofs.Common.{replicate, take, drop, arith, refl, sym, ap, ◌∙◌, eqb-true, eq-eqb}
use Rattle.std.proofs.lemmas.Bool.{cases_eq, false≢true, false_from_ne_true}
use Rattle.std.proofs.lemmas.List.{append-nil, get_or-replicate, length-drop, length-replicate, nil_from_length, take_all}
use Rattle.std.proofs.lemmas.List.Folds.{list_any-append, list_any_more}
use Rattle.pfc_hb.specs.declared.accesses.Access.{Access}
use Rattle.pfc_hb.specs.declared.accesses.Spot.{Spot}
use Rattle.pfc_hb.specs.declared.events.Event.{Event}
use Rattle.pfc_hb.specs.declared.parts.Part.{Part}
use Rattle.pfc_hb.specs.declared.users.Users.{Users}
use Rattle.pfc_hb.specs.Order.{event_at}
use Rattle.pfc_hb.specs.Parts.{number_of}
use Rattle.pfc_hb.proofs.PartLaws.{number_of-within}
use Rattle.pfc_hb.specs.Users.{Adds, AddsAll, AddsNumbers, AreSized, SameSizes, has_number, TellUsers, is_user, no_users, some_use, users_at}

-- what is told of the events below a bound, and of no others
pub record TellBelow (events : List Event) (parts : List Part) (test : Spot → Spot → Bool) (bound : ℕ) (users : List Users) : Type 0 where
  pub sized : AreSized (length parts) (length events) users
  pub told : (s : Spot) (n : ℕ) (w : Bool) (i : ℕ) → number_of parts s ≡ Some n → i < bound
      → is_user (users_at users n) w i ≡ some_use test w s (event_at events i).accesses
  pub ahead : (s : Spot) (n : ℕ) (w : Bool) (i : ℕ) → number_of parts s ≡ Some n → bound ≤ i → is_user (users_at users n) w i ≡ false

joined : (before here some passes test : Bool) → ((before || (here && some)) || (here && passes && test)) ≡ (before || (here && (some || (passes && test))))
joined true here some passes test = refl
joined false false some passes test = refl
joined false true some passes test = refl

-- one access more
pub adds_all-more : (parts : List Part) (test : Spot → Spot → Bool) (place k : ℕ) (accesses : List Access) (d : Access) (start now later : List Users) →
    k < length accesses
    → AddsAll parts test place (take k accesses) start now
    → Adds parts (test (get_or accesses k d).spot) place (get_or accesses k d).write now later
    → AddsAll parts test place (take (k + 1) accesses) start later
adds_all-more parts test place k accesses d start now later lt old new s n w i known =
    let a = get_or accesses k d in
    let before = is_user (users_at start n) w i in
    let here = eqb i place in
    let some = some_use test w s (take k accesses) in
    new s n w i known
    ∙ ap (λ b. b || (here && (w || a.write) && test a.spot s)) (old s n w i known)
    ∙ joined before here some (w || a.write) (test a.spot s)
    ∙ ap (λ b. before || (here && b)) (sym (list_any_more (λ x. (w || x.write) && test x.spot s) accesses k d lt))

pub same_sizes-trans : (a b c : List Users) → SameSizes a b → SameSizes b c → SameSizes a c
same_sizes-trans a b c first second = record {
  each = second.each ∙ first.each;
  all = λ n. second.all n ∙ first.all n;
  writers = λ n. second.writers n ∙ first.writers n;
}

-- what is put in by numbers is put in by spots
pub adds-numbers : (parts : List Part) (numbers : List ℕ) (place : ℕ) (write : Bool) (test : Spot →
    Bool) (before after : List Users) → length before ≡ length parts
    → ((s : Spot) (n : ℕ) → number_of parts s ≡ Some n → test s ≡ has_number numbers n)
    → AddsNumbers numbers place write before after → Adds parts test place write before after
adds-numbers parts numbers place write test before after long tells new s n w i known =
    new n w i (omega (arith, long, number_of-within parts s n known))
    ∙ ap (λ b. is_user (users_at before n) w i || (eqb i place && (w || write) && b)) (sym (tells s n known))

both-put : (before here passes first second : Bool)
    → ((before || (here && passes && first)) || (here && passes && second)) ≡ (before || (here && passes && (first || second)))
both-put true here passes first second = refl
both-put false false passes first second = refl
both-put false true false first second = refl
both-put false true true first second = refl

-- some numbers, and then others
pub adds_numbers-both : (first second : List ℕ) (place : ℕ) (write : Bool) (before now after : List Users) → length now ≡ length before
    → AddsNumbers first place write before now → AddsNumbers second place write now after → AddsNumbers (first ++ second) place write before after
adds_numbers-both first second place write before now after long one other n w i lt =
    let user = is_user (users_at before n) w i in
    other n w i (omega (arith, long, lt))
    ∙ ap (λ b. b || (eqb i place && (w || write) && has_number second n)) (one n w i lt)
    ∙ both-put user (eqb i place) (w || write) (has_number first n) (has_number second n)
    ∙ ap (λ b. user || (eqb i place && (w || write) && b)) (sym (list_any-append (λ m. eqb m n) first second))

none-marked : (n i : ℕ) → get_or (replicate n false) i false ≡ false
none-marked zero i = refl
none-marked (suc n) zero = refl
none-marked (suc n) (suc i) = none-marked n i

no_user : (events : ℕ) (w : Bool) (i : ℕ) → is_user (no_users events) w i ≡ false
no_user events true i = none-marked events i
no_user events false i = none-marked events i

-- nothing is told before the first event
pub tell_below-none : (events : List Event) (parts : List Part) (test : Spot → Spot → Bool) →
    TellBelow events parts test 0 (replicate (length parts) (no_users (length events)))
tell_below-none events parts test =
    let none = no_users (length events) in
    let users : List Users = replicate (length parts) none in
    let at : (n : ℕ) → n < length parts → users_at users n ≡ none = λ n lt. get_or-replicate (length parts) n none (record { all = []; writers = [] }) lt in
    record {
      sized = record {
        each = length-replicate (length parts) none;
        all = λ n lt. ap (λ u. length u.all) (at n lt) ∙ length-replicate (length events) false;
        writers = λ n lt. ap (λ u. length u.writers) (at n lt) ∙ length-replicate (length events) false;
      };
      told = λ s n w i known lt. absurd (omega (arith, lt));
      ahead = λ s n w i known ahead. ap (λ u. is_user u w i) (at n (number_of-within parts s n known)) ∙ no_user (length events) w i;
    }

other-event : (before here some : Bool) → here ≡ false → (before || (here && some)) ≡ before
other-event true here some none = refl
other-event false false some none = refl
other-event false true some none = absurd (false≢true (sym none))

this-event : (before here some : Bool) → before ≡ false → here ≡ true → (before || (here && some)) ≡ some
this-event false true some none now = refl
this-event true here some none now = absurd (false≢true (sym none))
this-event false false some none now = absurd (false≢true now)

-- one event more
pub tell_below-more : (events : List Event) (parts : List Part) (test : Spot → Spot →
    Bool) (bound : ℕ) (now later : List Users) → TellBelow events parts test bound now
    → SameSizes now later → AddsAll parts test bound (event_at events bound).accesses now later → TellBelow events parts test (bound + 1) later
tell_below-more events parts test bound now later old sizes new =
    let uses : Spot → Bool → ℕ → Bool = λ s w i. some_use test w s (event_at events i).accesses in
    let apart : (i : ℕ) → i ≢ bound → eqb i bound ≡ false = λ i other. false_from_ne_true (eqb i bound) (λ e. other (eqb-true i bound e)) in
    record {
      sized = record {
        each = sizes.each ∙ old.sized.each;
        all = λ n lt. sizes.all n ∙ old.sized.all n lt;
        writers = λ n lt. sizes.writers n ∙ old.sized.writers n lt;
      };
      told = λ s n w i known lt. elim (cases_eq i bound) [
        | inl e ↦ new s n w i known ∙ this-event _ (eqb i bound) (uses s w bound) (old.ahead s n w i known (omega (arith, e))) (eq-eqb i bound e) ∙
            ap (uses s w) (sym e)
        | inr other ↦ new s n w i known ∙ other-event _ (eqb i bound) (uses s w bound) (apart i other) ∙ old.told s n w i known (omega (arith, lt, other))
      ];
      ahead = λ s n w i known ahead.
          let other : i ≢ bound = omega (arith, ahead) in
          new s n w i known ∙ other-event _ (eqb i bound) (uses s w bound) (apart i other) ∙ old.ahead s n w i known (omega (arith, ahead));
    }

pub tell_users : (events : List Event) (parts : List Part) (test : Spot → Spot → Bool) (bound : ℕ) (users : List Users) → bound ≡ length events
    → TellBelow events parts test bound users → TellUsers events parts test users
tell_users events parts test bound users all below = record {
  sized = below.sized;
  told = λ s n w i known lt. below.told s n w i known (omega (arith, lt, all));
}

-- a list that was lent whole and comes back with as many elements
pub given_back : (old new : List Users) (room : ℕ) → room ≡ length old → length new ≡ length old → take room (new ++ drop (length new) old) ≡ new
given_back old new room all same =
    let none : drop (length new) old ≡ [] = nil_from_length _ (omega (arith, length-drop (length new) old, same)) in
    let joined : new ++ drop (length new) old ≡ new = ap (λ l. new ++ l) none ∙ append-nil new in
    ap (take room) joined ∙ take_all room new (omega (arith, all, same))
