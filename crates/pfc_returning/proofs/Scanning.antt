-- One process of many, before whose caller a scan was put.
use Rattle.std.proofs.Common.{◌≡◌, ℕ, ◌<◌, List, [], ◌∷◌, ◌++◌, length, map, reverse, set, get_or, Result, Ok, Err, OnOk, OnErr, is_ok, refl, sym, ap, ◌∙◌}
use Rattle.std.specs.Prelude.{if◌then◌else◌}
use Rattle.std.proofs.lemmas.List.{map-append, reverse-append, map-set, set-set, get_or-set_same, length-set}
use Rattle.pfc_program.specs.declared.tables.Tables.{Tables}
use Rattle.pfc_store.specs.Views.{store_view}
use Rattle.pfc_semantics.specs.Programs.{Program}
use Rattle.pfc_semantics.specs.Remainders.{Action}
use Rattle.pfc_semantics.specs.Rewriting.{Doing}
use Rattle.pfc_semantics.specs.Configurations as configurations
use Rattle.pfc_semantics.specs.Configurations.{Config, activity_of, nobody, with_activity}
use Rattle.pfc_semantics.specs.Calls.{left_by}
use Rattle.pfc_activities.specs.declared.activities.Activation.{Activation}
use Rattle.pfc_activities.specs.declared.activities.Activity.{Activity}
use Rattle.pfc_activities.specs.declared.activities.Caller.{Caller as HeldCaller}
use Rattle.pfc_activities.specs.declared.activities.Doing.{Doing as HeldDoing}
use Rattle.pfc_activities.specs.declared.source.Source.{Source}
use Rattle.pfc_activities.specs.declared.state.State.{State}
use Rattle.pfc_activities.specs.Relation.{Agrees, shown_before, IsBefore, StaysAt}
use Rattle.pfc_activities.specs.Shown.{Shown, shown, activity_shown, activities_shown}
use Rattle.pfc_activities.specs.Views.{activation_view, activations_view, caller_view}
use Rattle.pfc_activities.proofs.Acting.{acting_is, put_in}
use Rattle.pfc_returning.specs.Scans.{behind_scan, scan_behind, with_scan}

-- ## The state

-- only this process was changed
pub record IsPut (s new : State) (p : ℕ) (b : Activity) : Type 0 where
  pub is : new ≡ record s { activities = new.activities }
  pub items : new.activities.items ≡ set s.activities.items p b

-- there are as many processes on both sides, and all else is as it was
still_agrees :
    (source : Source) (s new : State) (c d : Config) (p : ℕ) (b : Activity)
    → Agrees source s c → IsPut s new p b → d ≡ record c { activities = d.activities } → Agrees source new d
still_agrees source s new c d p b agrees put is =
    record {
      table = ap (λ (x : State). x.world) put.is ∙ agrees.table ∙ ap (λ (x : Config). x.table) (sym is);
      counts = ap (λ (x : State). x.semaphores) put.is ∙ agrees.counts ∙ ap (λ (x : Config). x.counts) (sym is);
      monitors = ap (λ (x : State). x.monitors.holders) put.is ∙ agrees.monitors ∙ ap (λ (x : Config). x.monitors) (sym is);
      resources = ap (λ (x : State). x.resources) put.is ∙ agrees.resources ∙ ap (λ (x : Config). x.resources) (sym is);
      store = ap (λ (x : State). store_view x.store) put.is ∙ agrees.store ∙ ap (λ (x : Config). x.store) (sym is);
      input = ap (λ (x : State). x.input) put.is ∙ agrees.input ∙ ap (λ (x : Config). x.input) (sym is);
      words = ap (λ (x : State). x.draws) put.is ∙ agrees.words ∙ ap (λ (x : Config). x.words) (sym is);
      count = ap length put.items ∙ length-set s.activities.items p b ∙ agrees.count ∙ ap (λ (x : Config). length x.table.rows) (sym is);
      conditions = ap (λ (x : State). x.monitors.owners) put.is ∙ agrees.conditions;
    }

-- the processes behind a change of one, where that one had something taken from it
put_shown :
    (t : Tables) (ys new : List Activity) (p : ℕ) (b : Activity) (x : Shown)
    → new ≡ set ys p b → set (activities_shown t new) p x ≡ set (activities_shown t ys) p x
put_shown t ys new p b x is =
    ap (λ (l : List Activity). set (activities_shown t l) p x) is ∙ ap (λ (l : List Shown). set l p x) (map-set (activity_shown t) ys p b)
    ∙ set-set (activities_shown t ys) p (activity_shown t b) x

-- ## Want of memory

-- nothing was done
pub nothing_so : (s : State) (p : ℕ) → StaysAt s s p
nothing_so s p source c a n is_at = (a, is_at, record { names = refl; line = refl; pending = refl })

-- a refusal, whatever it was
pub on_err : {A E : Type 0} (r : Result A E) (P : Type 0) → P → OnErr r P
on_err (Ok x) P h = tt
on_err (Err e) P h = h

-- where there is no difference to be seen, the process stands where it stood
pub stays_so :
    (s new : State) (p : ℕ) (found b : Activity)
    → found ≡ get_or s.activities.items p found → IsPut s new p b → b.doing ≡ found.doing → ((t : Tables) → activity_shown t b ≡ activity_shown t found)
    → StaysAt s new p
stays_so s new p found b is put doing seen source c a n is_at =
    let t : Tables = source.program.tables in
    let before : IsBefore source s c p a n = is_at.before in
    let same : found ≡ a = is ∙ before.there.is found in
    let at : b.doing ≡ a.doing = doing ∙ ap (λ (x : Activity). x.doing) same in
    let alike : shown_before source b n before.hand ≡ shown_before source a n before.hand
    = ap (λ (x : Shown). (let y : Shown = record x { next = n; hand = before.hand } in y)) (seen t ∙ ap (activity_shown t) same) in (
      b,
      record {
        before = record {
          hand = before.hand;
          there = put_in s.activities.items new.activities.items p a b before.there put.items;
          activities =
              before.activities ∙ ap (λ (x : Shown). set (activities_shown t s.activities.items) p x) (sym alike)
              ∙ sym (put_shown t s.activities.items new.activities.items p b (shown_before source b n before.hand) put.items);
          agrees = still_agrees source s new c c p b before.agrees put refl;
        };
        quiet = is_at.quiet;
      },
      record {
        names = ap (λ (d : HeldDoing). d.names) at;
        line = ap (λ (d : HeldDoing). d.line) at;
        pending = ap (λ (d : HeldDoing). d.pending.items) at;
      },
    )

-- ## The activations

pub if_ok : {A E P Q : Type 0} (r : Result A E) → (P → Q) → OnOk r P → OnOk r Q
if_ok (Ok x) f h = f h
if_ok (Err e) f h = tt

pub if_err : {A E P Q : Type 0} (r : Result A E) → (P → Q) → OnErr r P → OnErr r Q
if_err (Ok x) f h = tt
if_err (Err e) f h = f h

-- the last that is kept is the first of the definitions
last_first : (t : Tables) (xs : List Activation) (x : Activation) → activations_view t (xs ++ x ∷ []) ≡ activation_view t x ∷ activations_view t xs
last_first t xs x = ap reverse (map-append (activation_view t) xs (x ∷ [])) ∙ reverse-append (map (activation_view t) xs) (activation_view t x ∷ [])

-- what was pushed, where there was room for it
pub pushed : {E : Type 0} (xs new : List Activation) (x : Activation) (r : Result (Unit {0}) E) (u : Unit {0}) →
    new ≡ (if is_ok r then xs ++ x ∷ [] else xs) → r ≡ Ok u → new ≡ xs ++ x ∷ []
pushed xs new x r u is ok = is ∙ ap (λ z. if is_ok z then xs ++ x ∷ [] else xs) ok

-- the innermost has another caller
pub other_caller :
    (t : Tables) (old : Activity) (popped new : List Activation) (x : Activation) (caller : HeldCaller) (inner : configurations.Caller)
    → old.activations.items ≡ popped ++ x ∷ [] → new ≡ popped ++ record x { caller = caller } ∷ [] → caller_view t caller ≡ inner
    → activations_view t new ≡ record (activation_view t x) { caller = inner } ∷ activations_view t popped
other_caller t old popped new x caller inner before is same =
    ap (activations_view t) is ∙ last_first t popped (record x { caller = caller })
    ∙ ap (λ (z : configurations.Caller). (let y : configurations.Activation =
    record (activation_view t x) { caller = z } in y ∷ activations_view t popped)) same

pub scan_seen :
    (t : Tables) (old : Activity) (popped new : List Activation) (x : Activation) (caller : HeldCaller) (resource line : ℕ)
    → old.activations.items ≡ popped ++ x ∷ [] → new ≡ popped ++ record x { caller = caller } ∷ []
    → caller_view t caller ≡ behind_scan resource line (caller_view t x.caller)
    → activations_view t new ≡ scan_behind resource line (activations_view t old.activations.items)
scan_seen t old popped new x caller resource line before is same =
    other_caller t old popped new x caller (behind_scan resource line (caller_view t x.caller)) before is same
    ∙ sym (ap (scan_behind resource line) (ap (activations_view t) before ∙ last_first t popped x))

pub nothing_seen :
    (t : Tables) (old : Activity) (popped new : List Activation) (x : Activation) (caller : HeldCaller)
    → old.activations.items ≡ popped ++ x ∷ [] → new ≡ popped ++ record x { caller = caller } ∷ []
    → caller_view t caller ≡ caller_view t x.caller → activations_view t new ≡ activations_view t old.activations.items
nothing_seen t old popped new x caller before is same =
    other_caller t old popped new x caller (caller_view t x.caller) before is same ∙ sym (ap (activations_view t) before ∙ last_first t popped x)

-- ## A scan

-- the configuration in which the process has the scan before its caller, too
abbrev pub scan_put : Program → Config → ℕ → ℕ → ℕ → Config
scan_put g c p resource line =
    with_activity c p (record (activity_of g c p) { activations = scan_behind resource line (activity_of g c p).activations })

pub put_before :
    (source : Source) (g : Program) (s new : State) (c : Config) (p resource line : ℕ) (a b : Activity) (n : Action)
    → IsBefore source s c p a n → IsPut s new p b
    → activity_shown source.program.tables b ≡ with_scan resource line (activity_shown source.program.tables a)
    → IsBefore source new (scan_put g c p resource line) p b n
put_before source g s new c p resource line a b n before put shows =
    let t : Tables = source.program.tables in
    let w : configurations.Activity = record (activity_of g c p) { activations = scan_behind resource line (activity_of g c p).activations } in
    let seen : shown w ≡ shown_before source b n before.hand
    = ap (with_scan resource line) (acting_is source g s c p a n before)
    ∙ ap (λ (x : Shown). (let y : Shown = record x { next = n; hand = before.hand } in y)) (sym shows) in
    record {
      hand = before.hand;
      there = put_in s.activities.items new.activities.items p a b before.there put.items;
      activities =
          map-set shown c.activities p w ∙ ap (λ (l : List Shown). set l p (shown w)) before.activities
          ∙ set-set (activities_shown t s.activities.items) p (shown_before source a n before.hand) (shown w)
          ∙ ap (λ (x : Shown). set (activities_shown t s.activities.items) p x) seen
          ∙ sym (put_shown t s.activities.items new.activities.items p b (shown_before source b n before.hand) put.items);
      agrees = still_agrees source s new c (scan_put g c p resource line) p b before.agrees put refl;
    }

-- what was there before is not to be seen behind the return
pub left_from_scan :
    (g : Program) (c : Config) (p resource line : ℕ) (a : configurations.Activation) (caller : configurations.Caller)
    (below : List configurations.Activation) (doing : Doing)
    → p < length c.activities
    → left_by g (scan_put g c p resource line) p (record a { caller = caller }) below doing ≡ left_by g c p a below doing
left_from_scan g c p resource line a caller below doing within =
    let old : configurations.Activity = activity_of g c p in
    let w : configurations.Activity = record old { activations = scan_behind resource line old.activations } in
    let left : configurations.Activity → configurations.Activity
    = λ z. (let y : configurations.Activity = record (configurations.at_work z doing) { display = a.display; activations = below } in y) in
    let k : Config = record c { store = (left_by g c p a below doing).store } in
    ap (λ (z : configurations.Activity). with_activity (record k { activities = set c.activities p w }) p (left z))
    (get_or-set_same c.activities p w (nobody g) within)
    ∙ ap (λ (l : List configurations.Activity). (let x : Config = record k { activities = l } in x)) (set-set c.activities p w (left w))
