-- A change of one process, on both sides.
use Rattle.std.proofs.Common.{◌≡◌, ℕ, ◌+◌, ◌<◌, List, [], ◌∷◌, ◌++◌, length, map, set, get_or, None, Ok, Err, refl, sym, ap, ◌∙◌, subst}
use Rattle.std.proofs.lemmas.List.{append-nil, map-set, set-set, set-get_or, get_or-map, get_or-set_same, length-map, length-set}
use Rattle.pfc_base.specs.declared.faults.RunFault.{RunFault}
use Rattle.rand_pcg.specs.Lcg.{Lcg}
use Rattle.pfc_program.specs.declared.tables.Tables.{Tables}
use Rattle.pfc_values.specs.Inputs.{Left as InputLeft}
use Rattle.pfc_pending.specs.declared.at_hand.At.{At}
use Rattle.pfc_world.specs.Tables.{Table}
use Rattle.pfc_world.specs.Tickets.{IsNew}
use Rattle.pfc_world.specs.Transitions.{ticked}
use Rattle.pfc_semantics.specs.Displays.{Display, Spot, located}
use Rattle.pfc_semantics.specs.Store.{Store, value_at, stored}
use Rattle.pfc_semantics.specs.Values.{Value, Location}
use Rattle.pfc_monitor.specs.Guards.{Guards}
use Rattle.pfc_store.specs.Views.{store_view}
use Rattle.pfc_semantics.specs.Programs.{Program}
use Rattle.pfc_semantics.specs.Remainders.{Action}
use Rattle.pfc_semantics.specs.Rewriting.{Doing, next}
use Rattle.pfc_semantics.specs.Configurations as configurations
use Rattle.pfc_semantics.specs.Configurations.{Config, activity_of, nobody, location_for, value_for, with_activity, doing_next, done_at, after, empty_hand}
use Rattle.pfc_semantics.specs.Steps.{effect, line_of}
use Rattle.pfc_activities.specs.declared.activities.Activity.{Activity}
use Rattle.pfc_activities.specs.declared.changes.Done.TheVariants.{Stepped, Faulted}
use Rattle.pfc_activities.specs.declared.source.Source.{Source}
use Rattle.pfc_activities.specs.declared.state.State.{State}
use Rattle.pfc_activities.specs.Shown.{Shown, shown, activity_shown, activities_shown}
use Rattle.pfc_activities.specs.Views.{activations_view, ahead_of, at_work, at_line}
use Rattle.pfc_activities.specs.Relation.{Agrees, Stands, IsIn, shown_before, IsBefore, IsAt, IsKept, Reports, behind, Ends}

-- ## One process of many

-- an activity is replaced on both sides by one that shows the same
pub change_one :
    (t : Tables) (xs : List configurations.Activity) (ys : List Activity) (p : ℕ) (x : configurations.Activity) (y : Activity) (old : Shown)
    → map shown xs ≡ set (activities_shown t ys) p old → shown x ≡ activity_shown t y → map shown (set xs p x) ≡ activities_shown t (set ys p y)
change_one t xs ys p x y old h e =
    map-set shown xs p x ∙ ap (λ (l : List Shown). set l p (shown x)) h ∙ set-set (activities_shown t ys) p old (shown x)
    ∙ ap (λ (z : Shown). set (activities_shown t ys) p z) e ∙ sym (map-set (activity_shown t) ys p y)

-- where nothing was taken from it, it is as if what it shows had been put there
pub as_put :
    (t : Tables) (ys : List Activity) (p : ℕ) (a : Activity) → IsIn ys p a → activities_shown t ys ≡ set (activities_shown t ys) p (activity_shown t a)
as_put t ys p a there =
    ap (activities_shown t) (sym (set-get_or ys p a) ∙ ap (λ (z : Activity). set ys p z) (there.is a)) ∙ map-set (activity_shown t) ys p a

-- there are as many on both sides
pub as_many : (t : Tables) (xs : List configurations.Activity) (ys : List Activity) (p : ℕ) (old : Shown) →
    map shown xs ≡ set (activities_shown t ys) p old → length xs ≡ length ys
as_many t xs ys p old h = sym (length-map xs shown) ∙ ap length h ∙ length-set (activities_shown t ys) p old ∙ length-map ys (activity_shown t)

-- what the process shows in the definitions
pub shown_is :
    (t : Tables) (xs : List configurations.Activity) (ys : List Activity) (p : ℕ) (old : Shown) (d : configurations.Activity)
    → p < length ys → map shown xs ≡ set (activities_shown t ys) p old → shown (get_or xs p d) ≡ old
shown_is t xs ys p old d within h =
    let here : p < length xs = subst (λ n. p < n) (sym (as_many t xs ys p old h)) within in
    let there : p < length (activities_shown t ys) = subst (λ n. p < n) (sym (length-map ys (activity_shown t))) within in
    sym (get_or-map shown xs p d old here) ∙ ap (λ (l : List Shown). get_or l p old) h ∙ get_or-set_same (activities_shown t ys) p old old there

-- ## What the definitions know of the process that acts

module _ (source : Source) (g : Program) (s : State) (c : Config) (p : ℕ) (a : Activity) (n : Action) (before : IsBefore source s c p a n) where
  abbrev t : Tables
  t = source.program.tables

  pub acting_is : shown (activity_of g c p) ≡ shown_before source a n before.hand
  acting_is = shown_is t c.activities s.activities.items p (shown_before source a n before.hand) (nobody g) before.there.within before.activities

  pub next_is : next (activity_of g c p).doing ≡ n
  next_is = ap (λ (x : Shown). x.next) acting_is

  pub display_is : (activity_of g c p).display ≡ a.display
  display_is = ap (λ (x : Shown). x.display) acting_is

  pub activations_are : (activity_of g c p).activations ≡ activations_view t a.activations.items
  activations_are = ap (λ (x : Shown). x.activations) acting_is

  pub here : p < length c.activities
  here = subst (λ k. p < k) (sym (as_many t c.activities s.activities.items p (shown_before source a n before.hand) before.activities)) before.there.within

  -- a spot lies in the store where the code finds it
  pub located_is : (spot : Spot) → located (store_view s.store) a.display spot ≡ location_for g c p spot
  located_is spot =
      ap (λ (store : Store). located store a.display spot) before.agrees.store ∙ ap (λ (display : Display). located c.store display spot) (sym display_is)

  pub value_is : (spot : Spot) → value_at (store_view s.store) (located (store_view s.store) a.display spot) ≡ value_for g c p spot
  value_is spot =
      ap (λ (store : Store). value_at store (located (store_view s.store) a.display spot)) before.agrees.store ∙ ap (value_at c.store) (located_is spot)

  pub written_is :
      (spot : Spot) (v : Value)
      → stored (store_view s.store) (located (store_view s.store) a.display spot) v ≡ stored c.store (location_for g c p spot) v
  written_is spot v =
      ap (λ (store : Store). stored store (located (store_view s.store) a.display spot) v) before.agrees.store
      ∙ ap (λ (l : Location). stored c.store l v) (located_is spot)

-- ## Lines

abbrev held_line : Activity → ℕ
held_line a = a.line

abbrev line_in : configurations.Activity → ℕ
line_in a = a.line

abbrev shown_line : Shown → ℕ
shown_line x = x.line

lines_shown : (xs : List configurations.Activity) → map shown_line (map shown xs) ≡ map line_in xs
lines_shown [] = refl
lines_shown (x ∷ xs) = ap (λ l. x.line ∷ l) (lines_shown xs)

lines_held : (t : Tables) (ys : List Activity) → map shown_line (activities_shown t ys) ≡ map held_line ys
lines_held t [] = refl
lines_held t (y ∷ ys) = ap (λ l. y.line ∷ l) (lines_held t ys)

pub reports_of : (source : Source) (s : State) (c : Config) → Stands source s c → Reports s c
reports_of source s c stands =
    record {
      table = stands.mirrors.agrees.table;
      acting = stands.quiet.acting;
      lines = sym (lines_held source.program.tables s.activities.items) ∙ ap (map shown_line) (sym stands.mirrors.activities) ∙ lines_shown c.activities;
    }

-- ## The end of an action

-- a process that is changed, and then has another line
pub set_twice :
    (xs : List configurations.Activity) (p : ℕ) (w d : configurations.Activity) (line : ℕ)
    → p < length xs → set (set xs p w) p (record (get_or (set xs p w) p d) { line = line }) ≡ set xs p (record w { line = line })
set_twice xs p w d line h =
    ap (λ (z : configurations.Activity). (let y : configurations.Activity = record z { line = line } in set (set xs p w) p y)) (get_or-set_same xs p w d h)
    ∙ set-set xs p w (record w { line = line })

-- all but the processes and the table is as it was
pub kept_agrees :
    (source : Source) (s new : State) (c d : Config) (ys : List Activity)
    → Agrees source s c → IsKept s new → new.activities.items ≡ ys → length ys ≡ length s.activities.items → new.world ≡ ticked s.world
    → d ≡ record c { activities = d.activities; table = ticked c.table; output = d.output; fault = d.fault } → Agrees source new d
kept_agrees source s new c d ys agrees kept items many world is =
    record {
      table = world ∙ ap ticked agrees.table ∙ ap (λ (x : Config). x.table) (sym is);
      counts = kept.semaphores ∙ agrees.counts ∙ ap (λ (x : Config). x.counts) (sym is);
      monitors = ap (λ (m : Guards). m.holders) kept.monitors ∙ agrees.monitors ∙ ap (λ (x : Config). x.monitors) (sym is);
      resources = kept.resources ∙ agrees.resources ∙ ap (λ (x : Config). x.resources) (sym is);
      store = ap store_view kept.store ∙ agrees.store ∙ ap (λ (x : Config). x.store) (sym is);
      input = kept.input ∙ agrees.input ∙ ap (λ (x : Config). x.input) (sym is);
      words = kept.draws ∙ agrees.words ∙ ap (λ (x : Config). x.words) (sym is);
      count = ap length items ∙ many ∙ agrees.count ∙ ap (λ (x : Config). length x.table.rows) (sym is);
      conditions = ap (λ (m : Guards). m.owners) kept.monitors ∙ agrees.conditions;
    }

-- the process is another on both sides, and its action is done
pub stands_so :
    (source : Source) (g : Program) (s new : State) (c : Config) (p : ℕ) (a y : Activity) (n : Action) (w : configurations.Activity) (line : ℕ)
    → IsBefore source s c p a n → c.table.acting ≡ None → c.fault ≡ None → shown (record w { line = line }) ≡ activity_shown source.program.tables y
    → new.activities.items ≡ set s.activities.items p y → IsKept s new → new.world ≡ ticked s.world → IsNew new.world.rows new.world.done
    → Stands source new (done_at g (with_activity c p w) p line)
stands_so source g s new c p a y n w line before acting sound same items kept world fresh =
    let t : Tables = source.program.tables in
    record {
      mirrors = record {
        activities =
            ap (map shown) (set_twice c.activities p w (nobody g) line (here source g s c p a n before))
            ∙ change_one t c.activities s.activities.items p (record w { line = line }) y (shown_before source a n before.hand) before.activities same
            ∙ ap (activities_shown t) (sym items);
        agrees = kept_agrees source s new c (done_at g (with_activity c p w) p line) (set s.activities.items p y) before.agrees kept items
            (length-set s.activities.items p y) world refl;
      };
      quiet = record {
        acting = acting;
        fresh = subst (λ (k : Table). IsNew k.rows k.done) (world ∙ ap ticked before.agrees.table) fresh;
        sound = sound;
      };
    }

-- the process goes on so
pub goes_on :
    (source : Source) (g : Program) (s new : State) (c : Config) (p : ℕ) (a : Activity) (n : Action) (doing : Doing) (at : At) (line : ℕ)
    → IsAt source s c p a n → next doing ≡ ahead_of source.program.tables a.doing at
    → new.activities.items ≡ set s.activities.items p (at_line (at_work a at) line) → IsKept s new →
    new.world ≡ ticked s.world → IsNew new.world.rows new.world.done
    → Stands source new (done_at g (doing_next g c p doing) p line)
goes_on source g s new c p a n doing at line is_at nexts items kept world fresh =
    let t : Tables = source.program.tables in
    stands_so source g s new c p a (at_line (at_work a at) line) n
    (configurations.at_work (activity_of g c p) doing) line is_at.before is_at.quiet.acting is_at.quiet.sound
    (ap (λ (x : Shown). (let y : Shown = record x { next = next doing; hand = empty_hand; line = line } in y)) (acting_is source g s c p a n is_at.before)
    ∙ ap (λ (m : Action). (let y : Shown = record (activity_shown t a) { next = m; hand = empty_hand; line = line } in y)) nexts)
    items kept world fresh

-- an action without a fault
pub ends_so :
    (source : Source) (g : Program) (new : State) (c d : Config) (p choice : ℕ) (n : Action) (bytes : List ℕ)
    → effect g c p choice n ≡ Ok d → Stands source new (done_at g d p (line_of n)) → d.output ≡ c.output ++ bytes → Ends source g new c p choice n bytes Stepped
ends_so source g new c d p choice n bytes e stands output =
    let is : behind g c p choice n ≡ done_at g d p (line_of n) = ap (after g c p (line_of n)) e in
    record {
      stands = λ _. subst (λ (k : Config). Stands source new k) (sym is) stands;
      reports = subst (λ (k : Config). Reports new k) (sym is) (reports_of source new (done_at g d p (line_of n)) stands);
      tells = ap (λ (k : Config). k.fault) is ∙ stands.quiet.sound;
      output = ap (λ (k : Config). k.output) is ∙ output;
    }

-- all three
pub goes_on_so :
    (source : Source) (g : Program) (s new : State) (c d : Config) (p choice : ℕ) (a : Activity) (n : Action) (doing : Doing) (bytes : List ℕ) (at : At)
    → IsAt source s d p a n → effect g c p choice n ≡ Ok (doing_next g d p doing) → next doing ≡ ahead_of source.program.tables a.doing at
    → line_of n ≡ a.doing.line → d.output ≡ c.output ++ bytes
    → new.activities.items ≡ set s.activities.items p (at_line (at_work a at) a.doing.line) → IsKept s new →
    new.world ≡ ticked s.world → IsNew new.world.rows new.world.done
    → Ends source g new c p choice n bytes Stepped
goes_on_so source g s new c d p choice a n doing bytes at is_at e nexts lines output items kept world fresh =
    ends_so source g new c (doing_next g d p doing) p choice n bytes e
    (subst (λ (l : ℕ). Stands source new (done_at g (doing_next g d p doing) p l)) (sym lines)
    (goes_on source g s new d p a n doing at a.doing.line is_at nexts items kept world fresh))
    output

-- a fault
pub ends_in_fault :
    (source : Source) (g : Program) (s new : State) (c : Config) (p choice : ℕ) (a : Activity) (n : Action) (line : ℕ) (f : RunFault)
    → IsAt source s c p a n → effect g c p choice n ≡ Err f → line_of n ≡ line
    → new.activities.items ≡ set s.activities.items p (at_line a line) → new.world ≡ ticked s.world → Ends source g new c p choice n [] (Faulted line f)
ends_in_fault source g s new c p choice a n line f is_at e lines items world =
    let t : Tables = source.program.tables in
    let before : IsBefore source s c p a n = is_at.before in
    let ys : List Activity = s.activities.items in
    let is : behind g c p choice n ≡ after g c p line (Err f)
    = ap (after g c p (line_of n)) e ∙ ap (λ (l : ℕ). after g c p l (Err f)) lines in
    let others : map line_in c.activities ≡ set (map held_line ys) p a.line
    = sym (lines_shown c.activities) ∙ ap (map shown_line) before.activities ∙
    map-set shown_line (activities_shown t ys) p (shown_before source a n before.hand)
    ∙ ap (λ (l : List ℕ). set l p a.line) (lines_held t ys) in
    let same : map held_line new.activities.items ≡ map line_in (after g c p line (Err f)).activities
    = ap (map held_line) items ∙ map-set held_line ys p (at_line a line) ∙ sym (set-set (map held_line ys) p a.line line)
    ∙ ap (λ (l : List ℕ). set l p line) (sym others) ∙ sym (map-set line_in c.activities p (record (activity_of g c p) { line = line })) in
    record {
      stands = λ wrong. absurd cc;
      reports = subst (λ (k : Config). Reports new k) (sym is)
          (record { table = world ∙ ap ticked before.agrees.table; acting = is_at.quiet.acting; lines = same });
      tells = ap (λ (k : Config). k.fault) is;
      output = ap (λ (k : Config). k.output) is ∙ sym (append-nil c.output);
    }

-- ## On the way

-- the same process, where variables, input or draws were changed on both sides, and bytes were written
pub other_parts :
    (source : Source) (s mid : State) (c : Config) (p : ℕ) (a : Activity) (n : Action) (store : Store) (input : InputLeft) (words : Lcg) (output : List ℕ)
    → IsAt source s c p a n → mid ≡ record s { store = mid.store; input = mid.input; draws = mid.draws }
    → store_view mid.store ≡ store → mid.input ≡ input → mid.draws ≡ words
    → IsAt source mid (record c { store = store; input = input; words = words; output = output }) p a n
other_parts source s mid c p a n store input words output is_at is store_is input_is words_is =
    let before : IsBefore source s c p a n = is_at.before in
    let same : mid.activities.items ≡ s.activities.items = ap (λ (x : State). x.activities.items) is in
    record {
      before = record {
        hand = before.hand;
        there = subst (λ (ys : List Activity). IsIn ys p a) (sym same) before.there;
        activities = before.activities ∙
            ap (λ (ys : List Activity). set (activities_shown source.program.tables ys) p (shown_before source a n before.hand)) (sym same);
        agrees = record {
          table = ap (λ (x : State). x.world) is ∙ before.agrees.table;
          counts = ap (λ (x : State). x.semaphores) is ∙ before.agrees.counts;
          monitors = ap (λ (x : State). x.monitors.holders) is ∙ before.agrees.monitors;
          resources = ap (λ (x : State). x.resources) is ∙ before.agrees.resources;
          store = store_is;
          input = input_is;
          words = words_is;
          count = ap length same ∙ before.agrees.count;
          conditions = ap (λ (x : State). x.monitors.owners) is ∙ before.agrees.conditions;
        };
      };
      quiet = record { acting = is_at.quiet.acting; fresh = is_at.quiet.fresh; sound = is_at.quiet.sound };
    }

-- ## Changes one after the other

pub kept_twice : (s mid new : State) → IsKept s mid → IsKept mid new → IsKept s new
kept_twice s mid new first then_so =
    record {
      semaphores = then_so.semaphores ∙ first.semaphores;
      monitors = then_so.monitors ∙ first.monitors;
      resources = then_so.resources ∙ first.resources;
      store = then_so.store ∙ first.store;
      input = then_so.input ∙ first.input;
      draws = then_so.draws ∙ first.draws;
    }

-- the process is where it was put
pub put_in : (xs mid : List Activity) (p : ℕ) (a y : Activity) → IsIn xs p a → mid ≡ set xs p y → IsIn mid p y
put_in xs mid p a y there is =
    record {
      within = subst (λ k. p < k) (sym (ap length is ∙ length-set xs p y)) there.within;
      is = λ d. ap (λ (l : List Activity). get_or l p d) is ∙ get_or-set_same xs p y d there.within;
    }

-- the process is changed, and then has its line
pub and_line :
    (xs mid new : List Activity) (p : ℕ) (a y : Activity) (line : ℕ)
    → IsIn xs p a → mid ≡ set xs p y → ((b : Activity) → IsIn mid p b → new ≡ set mid p (at_line b line)) → new ≡ set xs p (at_line y line)
and_line xs mid new p a y line there is then_so =
    then_so y (put_in xs mid p a y there is) ∙ ap (λ (l : List Activity). set l p (at_line y line)) is ∙ set-set xs p y (at_line y line)
