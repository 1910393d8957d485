-- The trace of a run, as a script, gives the run again.
use Rattle.std.proofs.Common.{◌≡◌, ℕ, zero, suc, ◌+◌, ◌<◌, ◌==◌, Bool, true, false, nat_lt, min, List, [], ◌∷◌, ◌++◌, length, Option, Some, None, Ok, Err, refl}
use Rattle.std.proofs.Common.{sym, ap, ◌∙◌, arith, slice_get, append_assoc, length-append}
use Rattle.std.specs.Prelude.{if◌then◌else◌}
use Rattle.std.proofs.lemmas.Bool.Decides.{nat_tests}
use Rattle.std.proofs.lemmas.List.Elements.{All-head, All-tail}
use Rattle.pfc_state.specs.Stands.{Stand, is_ready}
use Rattle.pfc_state.specs.declared.endings.Ending.{Ending}
use Rattle.pfc_world.specs.Tables.{at}
use Rattle.pfc_world.specs.Ready.{ready_numbers}
use Rattle.pfc_sched.specs.Picks.{Picking, by_words, by_turn, by_list, named, picked_among, picked, after_picked, after_pick, chosen}
use Rattle.pfc_sched.specs.declared.picking.Pick.{Pick}
use Rattle.pfc_sched.specs.declared.picking.Pick.TheVariants.{Process, Nobody, NotReady, NoProcess, ScriptEnd}
use Rattle.pfc_sched.proofs.PickLaws.{picks_ready}
use Rattle.pfc_semantics.specs.Programs.{Program}
use Rattle.pfc_semantics.specs.Remainders.{Action}
use Rattle.pfc_semantics.specs.Configurations.{Config, Effect}
use Rattle.pfc_semantics.specs.Time.{settled_config}
use Rattle.pfc_semantics.specs.Selects.{choices}
use Rattle.pfc_semantics.specs.Steps.{next_of, effect}
use Rattle.pfc_semantics.specs.Events.{event_of, Step, step}
use Rattle.pfc_semantics.specs.Runs.{Run, ending_at, behind_event, choice_among, behind_choice, by_pick, unless_ended, run_from}
use Rattle.pfc_traces.specs.Choices.{AreFirst, choice_made, choices_from, of_process, unless_over}
use Rattle.pfc_traces.specs.Laws.{IsUnstopped, Replays}
use Rattle.pfc_traces.specs.Traces.{trace_of}

-- ## Picks by a list

next_item : (front rest : List ℕ) (p : ℕ) → slice_get (front ++ p ∷ rest) (length front) ≡ Some p
next_item [] rest p = refl
next_item (x ∷ front) rest p = next_item front rest p

-- a process that is ready is what its number gives
named_at : (rows : List Stand) (q : ℕ) → q < length rows → is_ready (at rows q) ≡ true → named (Some q) rows ≡ Process q
named_at rows q within ready =
    ap (λ (t : Bool). if t then (if is_ready (at rows q) then Process q else NotReady q) else NoProcess q)
    (let e : nat_lt q (length rows) ≡ true = grind (arith, nat_tests) in e)
    ∙ ap (λ (t : Bool). if t then Process q else NotReady q) ready

-- where somebody is ready, a pick is not of nobody
named_somebody : (o : Option ℕ) (rows : List Stand) → named o rows ≡ Nobody → ⊥
named_somebody None rows e = cc
named_somebody (Some p) rows e = by_tests (nat_lt p (length rows)) (is_ready (at rows p)) e
  where
    by_tests : (s t : Bool) → (if s then (if t then Process p else NotReady p) else NoProcess p) ≡ Nobody → ⊥
    by_tests true true e = cc
    by_tests true false e = cc
    by_tests false t e = cc

somebody : (picking : Picking) (rows : List Stand) (r : ℕ) (ready : List ℕ) → picked_among picking rows (r ∷ ready) ≡ Nobody → ⊥
somebody (by_words g) rows r ready e = cc
somebody (by_turn last) rows r ready e = cc
somebody (by_list numbers item) rows r ready e = named_somebody (slice_get numbers item) rows e

same_nobody :
    (picking other : Picking) (rows : List Stand) (ready : List ℕ) → picked_among picking rows ready ≡ Nobody → picked_among other rows ready ≡ Nobody
same_nobody picking other rows [] e = refl
same_nobody picking other rows (r ∷ ready) e = absurd (somebody picking rows r ready e)

same_process :
    (picking : Picking) (all : List ℕ) (item : ℕ) (rows : List Stand) (ready : List ℕ) (p : ℕ)
    → picked_among picking rows ready ≡ Process p → slice_get all item ≡ Some p → named (Some p) rows ≡ Process p
    → picked_among (by_list all item) rows ready ≡ Process p
same_process picking all item rows [] p e next names = absurd (let no : Nobody ≡ Process p = e in cc)
same_process picking all item rows (r ∷ ready) p e next names = ap (λ (o : Option ℕ). named o rows) next ∙ names

one_taken :
    (picking : Picking) (all : List ℕ) (item : ℕ) (rows : List Stand) (ready : List ℕ) (p : ℕ)
    → picked_among picking rows ready ≡ Process p → item < length all → after_picked (by_list all item) ready ≡ by_list all (item + 1)
one_taken picking all item rows [] p e low = absurd (let no : Nobody ≡ Process p = e in cc)
one_taken picking all item rows (r ∷ ready) p e low = ap (by_list all) (let e : min (item + 1) (length all + 1) ≡ item + 1 = omega arith in e)

-- ## Choices

split_choice :
    (b : Bool) (k : ℕ) (more : List ℕ) → AreFirst ((if b then [] else k ∷ []) ++ more) → ((let x : ℕ = if b then 0 else k in x) ≡ 0) × AreFirst more
split_choice true k more h = (refl, h)
split_choice false k more h = (All-head (λ x. x ≡ 0) k more h, All-tail (λ x. x ≡ 0) k more h)

-- a list always chooses the first, and stays
list_chooses : (all : List ℕ) (item m : ℕ) → choice_among (by_list all item) m ≡ 0
list_chooses all item m = either (m == 0)
  where
    either : (b : Bool) → (let x : ℕ = if b then 0 else 0 in x) ≡ 0
    either true = refl
    either false = refl

list_stays : (all : List ℕ) (item m : ℕ) → behind_choice (by_list all item) m ≡ by_list all item
list_stays all item m = either (m == 0)
  where
    either : (b : Bool) → (let x : Picking = if b then by_list all item else by_list all item in x) ≡ by_list all item
    either true = refl
    either false = refl

-- ## One action

pub who_acted : (g : Program) (c : Config) (p choice : ℕ) (n : Action) (e : Effect) → (event_of g c p choice n e).process ≡ p
who_acted g c p choice n (Ok d) = refl
who_acted g c p choice n (Err f) = refl

module _ (g : Program) (limit : ℕ) where
  abbrev pub acting : ℕ → Picking → Config → ℕ → Run
  acting left behind s p =
      let m = choices g s p (next_of g s p) in
      let t = step g s p (choice_among behind m) in
      behind_event t.event (run_from g limit left (behind_choice behind m) t.config)

  abbrev choosing : ℕ → Picking → Config → ℕ → List ℕ
  choosing left behind s p =
      let m = choices g s p (next_of g s p) in
      choice_made behind m ++ choices_from g left (behind_choice behind m) (step g s p (choice_among behind m)).config

  -- with so many actions left, the run is that of a script which begins with some numbers and goes on with its trace
  abbrev IsAgain : ℕ → Type 0
  IsAgain left =
      (picking : Picking) (c : Config) (front all : List ℕ)
      → IsUnstopped (run_from g limit left picking c).ending → AreFirst (choices_from g left picking c)
      → all ≡ front ++ trace_of (run_from g limit left picking c)
      → run_from g limit left (by_list all (length front)) c ≡ run_from g limit left picking c

  acts_again :
      (left : ℕ) → IsAgain left → (behind : Picking) (s : Config) (p : ℕ) (front all : List ℕ)
      → IsUnstopped (acting left behind s p).ending → AreFirst (choosing left behind s p)
      → all ≡ front ++ trace_of (acting left behind s p)
      → acting left (by_list all (length (front ++ p ∷ []))) s p ≡ acting left behind s p
  acts_again left again behind s p front all unstopped first is =
      let m : ℕ = choices g s p (next_of g s p) in
      let k : ℕ = choice_among behind m in
      let t : Step = step g s p k in
      let after : Picking = behind_choice behind m in
      let rest : Run = run_from g limit left after t.config in
      let list : Picking = by_list all (length (front ++ p ∷ [])) in
      let chosen_first = split_choice (m == 0) (chosen behind m) (choices_from g left after t.config) first in
      let here : t.event.process ≡ p = who_acted g s p k (next_of g s p) (effect g s p k (next_of g s p)) in
      let more : all ≡ (front ++ p ∷ []) ++ trace_of rest
      = is ∙ ap (λ (q : ℕ). front ++ q ∷ trace_of rest) here ∙ sym (append_assoc front (p ∷ []) (trace_of rest)) in
      ap (λ (x : ℕ). behind_event (step g s p x).event (run_from g limit left (behind_choice list m) (step g s p x).config))
      (list_chooses all (length (front ++ p ∷ [])) m ∙ sym chosen_first.0)
      ∙ ap (λ (x : Picking). behind_event t.event (run_from g limit left x t.config)) (list_stays all (length (front ++ p ∷ [])) m)
      ∙ ap (behind_event t.event) (again after t.config (front ++ p ∷ []) all unstopped chosen_first.1 more)

  through_pick :
      (left : ℕ) → IsAgain left → (s : Config) (picking : Picking) (front all : List ℕ) (pick : Pick) → picked picking s.table.rows ≡ pick
      → IsUnstopped (by_pick s (after_pick picking s.table.rows) (acting left (after_pick picking s.table.rows) s) pick).ending
      → AreFirst (of_process (choosing left (after_pick picking s.table.rows) s) pick)
      → all ≡ front ++ trace_of (by_pick s (after_pick picking s.table.rows) (acting left (after_pick picking s.table.rows) s) pick)
      → by_pick s (after_pick (by_list all (length front)) s.table.rows) (acting left (after_pick (by_list all (length front)) s.table.rows) s)
      (picked (by_list all (length front)) s.table.rows)
      ≡ by_pick s (after_pick picking s.table.rows) (acting left (after_pick picking s.table.rows) s) pick
  through_pick left again s picking front all (Process p) e unstopped first is =
      let rows : List Stand = s.table.rows in
      let behind : Picking = after_pick picking rows in
      let list : Picking = by_list all (length front) in
      let rest : List ℕ = trace_of (acting left behind s p) in
      let m : ℕ = choices g s p (next_of g s p) in
      let k : ℕ = choice_among behind m in
      let later : List ℕ = trace_of (run_from g limit left (behind_choice behind m) (step g s p k).config) in
      let whole : all ≡ front ++ p ∷ later
      = is ∙ ap (λ (q : ℕ). front ++ q ∷ later) (who_acted g s p k (next_of g s p) (effect g s p k (next_of g s p))) in
      let ready : (p < length rows) × (is_ready (at rows p) ≡ true) = picks_ready picking rows p e in
      let item : slice_get all (length front) ≡ Some p = ap (λ (l : List ℕ). slice_get l (length front)) whole ∙ next_item front later p in
      let low : length front < length all = omega (arith, ap length whole ∙ length-append front (p ∷ later)) in
      let same : picked list rows ≡ Process p
      = same_process picking all (length front) rows (ready_numbers rows) p e item (named_at rows p ready.0 ready.1) in
      let one : length front + 1 ≡ length (front ++ p ∷ []) = sym (length-append front (p ∷ [])) in
      let taken : after_pick list rows ≡ by_list all (length (front ++ p ∷ []))
      = one_taken picking all (length front) rows (ready_numbers rows) p e low ∙ ap (by_list all) one in
      ap (by_pick s (after_pick list rows) (acting left (after_pick list rows) s)) same
      ∙ ap (λ (x : Picking). acting left x s p) taken
      ∙ acts_again left again behind s p front all unstopped first is
  through_pick left again s picking front all Nobody e unstopped first is =
      let rows : List Stand = s.table.rows in
      let list : Picking = by_list all (length front) in
      ap (by_pick s (after_pick list rows) (acting left (after_pick list rows) s)) (same_nobody picking list rows (ready_numbers rows) e)
  through_pick left again s picking front all (NotReady p) e unstopped first is = absurd unstopped
  through_pick left again s picking front all (NoProcess p) e unstopped first is = absurd unstopped
  through_pick left again s picking front all ScriptEnd e unstopped first is = absurd unstopped

  through_ending :
      (s : Config) (go other : Run) (further front all : List ℕ) (ending : Option Ending)
      → (IsUnstopped go.ending → AreFirst further → all ≡ front ++ trace_of go → other ≡ go)
      → IsUnstopped (unless_ended s go ending).ending → AreFirst (unless_over further ending) → all ≡ front ++ trace_of (unless_ended s go ending)
      → unless_ended s other ending ≡ unless_ended s go ending
  through_ending s go other further front all (Some ending) same unstopped first is = refl
  through_ending s go other further front all None same unstopped first is = same unstopped first is

  run_again : (left : ℕ) → IsAgain left
  run_again zero picking c front all unstopped first is = refl
  run_again (suc left) picking c front all unstopped first is =
      let s : Config = settled_config c in
      let rows : List Stand = s.table.rows in
      let behind : Picking = after_pick picking rows in
      let list : Picking = by_list all (length front) in
      through_ending s (by_pick s behind (acting left behind s) (picked picking rows))
      (by_pick s (after_pick list rows) (acting left (after_pick list rows) s) (picked list rows)) (of_process (choosing left behind s) (picked picking rows))
      front all (ending_at s) (through_pick left (run_again left) s picking front all (picked picking rows) refl) unstopped first is

pub replays : Replays
replays g limit left picking c unstopped first =
    run_again g limit left picking c [] (trace_of (run_from g limit left picking c)) unstopped first refl
