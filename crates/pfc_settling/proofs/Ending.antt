-- The end of those that wait in a select with an open `terminate`, one after the other.
use Rattle.std.proofs.Common.{◌≡◌, ℕ, zero, suc, ◌+◌, ◌<◌, ◌≤◌, Bool, true, false, List, [], ◌∷◌, ◌++◌, length, map, set, get_or, take, reverse, if◌then◌else◌}
use Rattle.std.proofs.Common.{refl, sym, ap, ◌∙◌, subst, arith, add-one}
use Rattle.std.proofs.lemmas.List.{map-append, map-set, set-get_or, get_or-map, reverse-append, take_more, length-map}
use Rattle.pfc_program.specs.declared.tables.Tables.{Tables}
use Rattle.pfc_state.specs.Stands.{Stand, may_end}
use Rattle.pfc_world.specs.Tables.{at}
use Rattle.pfc_store.specs.Views.{store_view}
use Rattle.pfc_semantics.specs.Store.{Store, without}
use Rattle.pfc_semantics.specs.Configurations as configurations
use Rattle.pfc_semantics.specs.Processes.{ended_activity, without_all}
use Rattle.pfc_semantics.specs.Time.{ended_children, rooms_left}
use Rattle.pfc_activities.specs.declared.activities.Activation.{Activation}
use Rattle.pfc_activities.specs.declared.activities.Activity.{Activity}
use Rattle.pfc_activities.specs.declared.state.State.{State}
use Rattle.pfc_activities.specs.Shown.{Shown, shown, activity_shown, activities_shown}
use Rattle.pfc_activities.specs.Views.{activation_view, activations_view}
use Rattle.pfc_settling.specs.Ending.{ended_shown, all_ended, all_left, ended_from, left_from, lines_of, EndsOne, EndsNext, EndsChildren}

-- ## On with the next number

-- one that does not wait so stays
pub stays_so : (n : ℕ) (rows : List Stand) (xs : List Shown) → may_end (at rows n) ≡ false → ended_from n rows xs ≡ ended_from (suc n) rows xs
stays_so zero [] xs e = refl
stays_so zero (stand ∷ rows) [] e = refl
stays_so zero (stand ∷ rows) (x ∷ xs) e = ap (λ (b : Bool). (if b then ended_shown x else x) ∷ all_ended rows xs) e
stays_so (suc n) [] xs e = refl
stays_so (suc n) (stand ∷ rows) [] e = refl
stays_so (suc n) (stand ∷ rows) (x ∷ xs) e = ap (λ (l : List Shown). x ∷ l) (stays_so n rows xs e)

pub stays_left :
    (n : ℕ) (rows : List Stand) (xs : List Shown) (store : Store) → may_end (at rows n) ≡ false → left_from n rows xs store ≡ left_from (suc n) rows xs store
stays_left zero [] xs store e = refl
stays_left zero (stand ∷ rows) [] store e = refl
stays_left zero (stand ∷ rows) (x ∷ xs) store e = ap (λ (b : Bool). all_left rows xs (if b then without_all store x.activations else store)) e
stays_left (suc n) [] xs store e = refl
stays_left (suc n) (stand ∷ rows) [] store e = refl
stays_left (suc n) (stand ∷ rows) (x ∷ xs) store e = stays_left n rows xs store e

-- one that does ends
pub ends_so :
    (n : ℕ) (rows : List Stand) (xs : List Shown) (d : Shown)
    → may_end (at rows n) ≡ true → ended_from n rows xs ≡ ended_from (suc n) rows (set xs n (ended_shown (get_or xs n d)))
ends_so zero [] xs d e = absurd cc
ends_so zero (stand ∷ rows) [] d e = refl
ends_so zero (stand ∷ rows) (x ∷ xs) d e = ap (λ (b : Bool). (if b then ended_shown x else x) ∷ all_ended rows xs) e
ends_so (suc n) [] xs d e = absurd cc
ends_so (suc n) (stand ∷ rows) [] d e = refl
ends_so (suc n) (stand ∷ rows) (x ∷ xs) d e = ap (λ (l : List Shown). x ∷ l) (ends_so n rows xs d e)

pub ends_left :
    (n : ℕ) (rows : List Stand) (xs : List Shown) (store : Store) (d y : Shown)
    → n < length xs → may_end (at rows n) ≡ true →
    left_from n rows xs store ≡ left_from (suc n) rows (set xs n y) (without_all store (get_or xs n d).activations)
ends_left n [] xs store d y low e = absurd cc
ends_left n (stand ∷ rows) [] store d y low e = absurd (omega (arith, low))
ends_left zero (stand ∷ rows) (x ∷ xs) store d y low e = ap (λ (b : Bool). all_left rows xs (if b then without_all store x.activations else store)) e
ends_left (suc n) (stand ∷ rows) (x ∷ xs) store d y low e = ends_left n rows xs store d y (omega (arith, low)) e

-- there is none of this number
pub beyond_so : (n : ℕ) (rows : List Stand) (xs : List Shown) → length xs ≤ n → ended_from n rows xs ≡ ended_from (suc n) rows xs
beyond_so zero [] xs high = refl
beyond_so zero (stand ∷ rows) [] high = refl
beyond_so zero (stand ∷ rows) (x ∷ xs) high = absurd (omega (arith, high))
beyond_so (suc n) [] xs high = refl
beyond_so (suc n) (stand ∷ rows) [] high = refl
beyond_so (suc n) (stand ∷ rows) (x ∷ xs) high = ap (λ (l : List Shown). x ∷ l) (beyond_so n rows xs (omega (arith, high)))

pub beyond_left : (n : ℕ) (rows : List Stand) (xs : List Shown) (store : Store) → length xs ≤ n → left_from n rows xs store ≡ left_from (suc n) rows xs store
beyond_left zero [] xs store high = refl
beyond_left zero (stand ∷ rows) [] store high = refl
beyond_left zero (stand ∷ rows) (x ∷ xs) store high = absurd (omega (arith, high))
beyond_left (suc n) [] xs store high = refl
beyond_left (suc n) (stand ∷ rows) [] store high = refl
beyond_left (suc n) (stand ∷ rows) (x ∷ xs) store high = beyond_left n rows xs store (omega (arith, high))

-- behind the last one
pub none_left : (n : ℕ) (rows : List Stand) (xs : List Shown) → length rows ≤ n → ended_from n rows xs ≡ xs
none_left zero [] xs high = refl
none_left zero (stand ∷ rows) xs high = absurd (omega (arith, high))
none_left (suc n) [] xs high = refl
none_left (suc n) (stand ∷ rows) [] high = refl
none_left (suc n) (stand ∷ rows) (x ∷ xs) high = ap (λ (l : List Shown). x ∷ l) (none_left n rows xs (omega (arith, high)))

pub all_gone : (n : ℕ) (rows : List Stand) (xs : List Shown) (store : Store) → length rows ≤ n → left_from n rows xs store ≡ store
all_gone zero [] xs store high = refl
all_gone zero (stand ∷ rows) xs store high = absurd (omega (arith, high))
all_gone (suc n) [] xs store high = refl
all_gone (suc n) (stand ∷ rows) [] store high = refl
all_gone (suc n) (stand ∷ rows) (x ∷ xs) store high = all_gone n rows xs store (omega (arith, high))

-- ## The definitions

either_shown : (b : Bool) (a : configurations.Activity) → shown (if b then ended_activity a else a) ≡ (if b then ended_shown (shown a) else shown a)
either_shown true a = refl
either_shown false a = refl

pub ended_are : (rows : List Stand) (cs : List configurations.Activity) → map shown (ended_children rows cs) ≡ all_ended rows (map shown cs)
ended_are [] cs = refl
ended_are (stand ∷ rows) [] = refl
ended_are (stand ∷ rows) (a ∷ cs) =
    ap (λ (x : Shown). x ∷ map shown (ended_children rows cs)) (either_shown (may_end stand) a)
    ∙ ap (λ (l : List Shown). (if may_end stand then ended_shown (shown a) else shown a) ∷ l) (ended_are rows cs)

pub left_are : (rows : List Stand) (cs : List configurations.Activity) (store : Store) → rooms_left rows cs store ≡ all_left rows (map shown cs) store
left_are [] cs store = refl
left_are (stand ∷ rows) [] store = refl
left_are (stand ∷ rows) (a ∷ cs) store = left_are rows cs (if may_end stand then without_all store a.activations else store)

-- ## Activations

-- the innermost first
pub innermost : (t : Tables) (xs : List Activation) (a : Activation) → activations_view t (xs ++ a ∷ []) ≡ activation_view t a ∷ activations_view t xs
innermost t xs a = ap reverse (map-append (activation_view t) xs (a ∷ [])) ∙ reverse-append (map (activation_view t) xs) (activation_view t a ∷ [])

-- the last one is gone first
pub one_gone :
    (t : Tables) (xs : List Activation) (i : ℕ) (a : Activation) (store : Store)
    → i < length xs → a ≡ get_or xs i a
    → without_all store (activations_view t (take (i + 1) xs)) ≡ without_all (without store a.number) (activations_view t (take i xs))
one_gone t xs i a store low is =
    ap (λ (l : List Activation). without_all store (activations_view t l)) (take_more xs i a low ∙ ap (λ (b : Activation). take i xs ++ b ∷ []) (sym is))
    ∙ ap (without_all store) (innermost t (take i xs) a)

-- ## States

abbrev line_in : Activity → ℕ
line_in a = a.line

-- the process with this number was found, and is this one now
pub ends_one :
    (old new : State) (p : ℕ) (found y : Activity)
    → p < length old.activities.items → found ≡ get_or old.activities.items p found
    → ((t : Tables) → activity_shown t y ≡ ended_shown (activity_shown t found)) → y.line ≡ found.line
    → ((t : Tables) → store_view new.store ≡ without_all (store_view old.store) (activations_view t found.activations.items))
    → new.activities.items ≡ set old.activities.items p y → new ≡ record old { activities = new.activities; store = new.store } → EndsOne old new p
ends_one old new p found y low is seen line gone items rest =
    let ys : List Activity = old.activities.items in
    record {
      activities = λ t d.
          let here : activity_shown t found ≡ get_or (activities_shown t ys) p d
          = ap (activity_shown t) is ∙ sym (get_or-map (activity_shown t) ys p found d low) in
          ap (activities_shown t) items ∙ map-set (activity_shown t) ys p y
          ∙ ap (set (activities_shown t ys) p) (seen t ∙ ap ended_shown here);
      store = λ t d.
          let here : activity_shown t found ≡ get_or (activities_shown t ys) p d
          = ap (activity_shown t) is ∙ sym (get_or-map (activity_shown t) ys p found d low) in
          gone t ∙ ap (λ (x : Shown). without_all (store_view old.store) x.activations) here;
      lines =
          ap (map line_in) items ∙ map-set line_in ys p y
          ∙ ap (set (map line_in ys) p) (line ∙ ap line_in is ∙ sym (get_or-map line_in ys p found 0 low))
          ∙ set-get_or (map line_in ys) p 0;
      rest = rest;
    }

-- one of some
pub any_of : (xs : List Activity) (p : ℕ) → p < length xs → Activity
any_of [] p within = absurd (omega (arith, within))
any_of (x ∷ xs) p within = x

-- on with the next number
module _ (old : State) (p : ℕ) where
  abbrev seen : Tables → List Shown
  seen t = activities_shown t old.activities.items

  pub none_there : length old.activities.items ≤ p → EndsNext old old p
  none_there high = record {
    activities = λ t. beyond_so p old.world.rows (seen t) (many t) ∙ ap (λ (n : ℕ). ended_from n old.world.rows (seen t)) (sym (add-one p));
    store = λ t. beyond_left p old.world.rows (seen t) (store_view old.store) (many t) ∙
        ap (λ (n : ℕ). left_from n old.world.rows (seen t) (store_view old.store)) (sym (add-one p));
    lines = refl;
    rest = refl;
  }
    where
      many : (t : Tables) → length (seen t) ≤ p
      many t = subst (λ (n : ℕ). n ≤ p) (sym (length-map old.activities.items (activity_shown t))) high

  pub goes_past : may_end (at old.world.rows p) ≡ false → EndsNext old old p
  goes_past e = record {
    activities = λ t. stays_so p old.world.rows (seen t) e ∙ ap (λ (n : ℕ). ended_from n old.world.rows (seen t)) (sym (add-one p));
    store = λ t. stays_left p old.world.rows (seen t) (store_view old.store) e ∙
        ap (λ (n : ℕ). left_from n old.world.rows (seen t) (store_view old.store)) (sym (add-one p));
    lines = refl;
    rest = refl;
  }

  pub ends_next : (new : State) (d : Activity) → p < length old.activities.items → may_end (at old.world.rows p) ≡ true → EndsOne old new p → EndsNext old new p
  ends_next new d low e one = record {
    activities = λ t.
        ends_so p old.world.rows (seen t) (activity_shown t d) e ∙ ap (ended_from (suc p) old.world.rows) (sym (one.activities t (activity_shown t d)))
        ∙ ap (λ (n : ℕ). ended_from n old.world.rows (activities_shown t new.activities.items)) (sym (add-one p));
    store = λ t.
        let z : Shown = activity_shown t d in
        let y : Shown = ended_shown (get_or (seen t) p z) in
        let few : p < length (seen t) = subst (λ (n : ℕ). p < n) (sym (length-map old.activities.items (activity_shown t))) low in
        ends_left p old.world.rows (seen t) (store_view old.store) z y few e
        ∙ ap (λ (xs : List Shown). left_from (suc p) old.world.rows xs (without_all (store_view old.store) (get_or (seen t) p z).activations))
        (sym (one.activities t z))
        ∙ ap (left_from (suc p) old.world.rows (activities_shown t new.activities.items)) (sym (one.store t z))
        ∙ ap (λ (n : ℕ). left_from n old.world.rows (activities_shown t new.activities.items) (store_view new.store)) (sym (add-one p));
    lines = one.lines;
    rest = one.rest;
  }

-- behind the last one
pub all_so :
    (old new : State) (p : ℕ)
    → length old.world.rows ≤ p
    → ((t : Tables) → all_ended old.world.rows (activities_shown t old.activities.items) ≡ ended_from p old.world.rows
    (activities_shown t new.activities.items))
    → ((t : Tables)
    → all_left old.world.rows (activities_shown t old.activities.items) (store_view old.store)
    ≡ left_from p old.world.rows (activities_shown t new.activities.items) (store_view new.store))
    → lines_of new ≡ lines_of old → new ≡ record old { activities = new.activities; store = new.store } → EndsChildren old new
all_so old new p high activities store lines rest =
    record {
      activities = λ t. sym (activities t ∙ none_left p old.world.rows (activities_shown t new.activities.items) high);
      store = λ t. sym (store t ∙ all_gone p old.world.rows (activities_shown t new.activities.items) (store_view new.store) high);
      lines = lines;
      rest = rest;
    }
