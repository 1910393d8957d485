-- The end of a body, on both sides.
use Rattle.std.proofs.Common.{◌≡◌, ℕ, List, [], length, set, get_or, Option, None, Result, Ok, Err, IfOk, OnErr, refl, sym, ap, ◌∙◌, subst}
use Rattle.std.proofs.lemmas.List.{append-nil}
use Rattle.pfc_program.specs.declared.tables.Tables.{Tables}
use Rattle.pfc_types.specs.declared.heads.SubHead.{SubHead}
use Rattle.pfc_world.specs.Tables.{Table}
use Rattle.pfc_world.specs.Tickets.{IsNew}
use Rattle.pfc_world.specs.Holders.{Held, held_in}
use Rattle.pfc_world.specs.Monitors.{handed_over}
use Rattle.pfc_world.specs.Transitions.{ticked}
use Rattle.pfc_store.specs.Views.{store_view}
use Rattle.pfc_semantics.specs.Values.{Value}
use Rattle.pfc_semantics.specs.Store.{Store, variable, without}
use Rattle.pfc_semantics.specs.Programs.{Program}
use Rattle.pfc_semantics.specs.Remainders.{Action, finishes, in_names, scan_on, leave}
use Rattle.pfc_semantics.specs.Rewriting.{Doing, going, holding}
use Rattle.pfc_semantics.specs.Configurations as configurations
use Rattle.pfc_semantics.specs.Configurations.{Activation, Caller, Config, Effect, activity_of, with_activity}
use Rattle.pfc_semantics.specs.Calls.{left_by, result_in}
use Rattle.pfc_semantics.specs.Monitors.{leaves_monitor}
use Rattle.pfc_semantics.specs.Steps.{effect, ends_body}
use Rattle.pfc_pending.specs.declared.actions.Deed.TheVariants as deed
use Rattle.pfc_activities.specs.declared.activities.Activity.{Activity}
use Rattle.pfc_activities.specs.declared.changes.Done.{Done}
use Rattle.pfc_activities.specs.declared.changes.Done.TheVariants.{Stepped}
use Rattle.pfc_activities.specs.declared.source.Source.{Source}
use Rattle.pfc_activities.specs.declared.state.State.{State}
use Rattle.pfc_activities.specs.Programs.{IsProgram}
use Rattle.pfc_activities.specs.Relation.{IsIn, shown_before, IsBefore, IsKept, Ends, IsPerformed, Performs, StaysAt}
use Rattle.pfc_activities.specs.Shown.{Shown, activity_shown, activities_shown}
use Rattle.pfc_activities.specs.Views.{activations_view}
use Rattle.pfc_activities.proofs.Acting.{activations_are, here, stands_so, ends_so}
use Rattle.pfc_waiting.specs.Waiting.{HasActed}
use Rattle.pfc_waiting.proofs.Waiting.{IsMid, other_objects}
use Rattle.pfc_returning.specs.declared.ways.Way.TheVariants as way
use Rattle.pfc_returning.specs.Ending.{shown_back, GoesBack, result_place, EndsProcess}
use Rattle.pfc_returning.specs.Scans.{behind_scan, scan_behind, with_scan}
use Rattle.pfc_returning.specs.Ways.{IsWay, doing_back}
use Rattle.pfc_returning.proofs.Going.{process_way, GoesBackBy, statement_way, monitor_way, GivesBack, value_way, ScansBehind, resource_way}
use Rattle.pfc_returning.proofs.Scanning.{nothing_so, IsPut, scan_put, put_before, left_from_scan}

-- ## Back from an activation

-- mid is the state without the variables of that activation, and y the process behind it
pub goes_back_so :
    (source : Source) (g : Program) (s mid new : State) (c k : Config) (p choice number line : ℕ) (b y : Activity) (a : Activation)
    (below : List Activation) (doing : Doing)
    → IsBefore source s k p b (finishes line) → k.table.acting ≡ None → k.fault ≡ None
    → mid ≡ record s { store = mid.store } → store_view mid.store ≡ without (store_view s.store) number → number ≡ a.number
    → activity_shown source.program.tables y ≡ shown_back doing a.display below line
    → new.activities.items ≡ set mid.activities.items p y → IsKept mid new → new.world ≡ ticked mid.world → IsNew new.world.rows new.world.done
    → effect g c p choice (finishes line) ≡ Ok (left_by g k p a below doing) → k.output ≡ c.output → Ends source g new c p choice (finishes line) [] Stepped
goes_back_so source g s mid new c k p choice number line b y a below doing before acting sound mid_is store same shows items kept ticks fresh e output =
    let t : Tables = source.program.tables in
    let n : Action = finishes line in
    let k2 : Config = record k { store = without k.store a.number } in
    let w : configurations.Activity = record (configurations.at_work (activity_of g k p) doing) { display = a.display; activations = below } in
    let unchanged : mid.activities.items ≡ s.activities.items = ap (λ (x : State). x.activities.items) mid_is in
    let at_mid : IsBefore source mid k2 p b n
    = record {
      hand = before.hand;
      there = subst (λ (ys : List Activity). IsIn ys p b) (sym unchanged) before.there;
      activities = before.activities ∙ ap (λ (ys : List Activity). set (activities_shown t ys) p (shown_before source b n before.hand)) (sym unchanged);
      agrees = record {
        table = ap (λ (x : State). x.world) mid_is ∙ before.agrees.table;
        counts = ap (λ (x : State). x.semaphores) mid_is ∙ before.agrees.counts;
        monitors = ap (λ (x : State). x.monitors.holders) mid_is ∙ before.agrees.monitors;
        resources = ap (λ (x : State). x.resources) mid_is ∙ before.agrees.resources;
        store = store ∙ ap (λ (x : Store). without x number) before.agrees.store ∙ ap (without k.store) same;
        input = ap (λ (x : State). x.input) mid_is ∙ before.agrees.input;
        words = ap (λ (x : State). x.draws) mid_is ∙ before.agrees.words;
        count = ap length unchanged ∙ before.agrees.count;
        conditions = ap (λ (x : State). x.monitors.owners) mid_is ∙ before.agrees.conditions;
      };
    } in
    ends_so source g new c (with_activity k2 p w) p choice n [] e
    (stands_so source g mid new k2 p b y n w line at_mid acting sound (sym shows) items kept ticks fresh)
    (output ∙ sym (append-nil c.output))

-- ## The ways back

-- the end of the body of the configuration is that of the activations that are kept
body_is :
    (source : Source) (g : Program) (s : State) (c : Config) (p choice line : ℕ) (b : Activity)
    → IsBefore source s c p b (finishes line)
    → effect g c p choice (finishes line) ≡ ends_body g c p (activations_view source.program.tables b.activations.items)
body_is source g s c p choice line b before = ap (ends_body g c p) (activations_are source g s c p b (finishes line) before)

pub process_so :
    (s new : State) (p line : ℕ) (d : Done) → IsWay s p way.Process → EndsProcess s new p line d → IsPerformed s new p (deed.Finishes line) [] d
process_so s new p line d is_way ended source g c choice b program is_at =
    let t : Tables = source.program.tables in
    let before : IsBefore source s c p b (finishes line) = is_at.before in
    ended source g c choice b is_at
    (body_is source g s c p choice line b before ∙ process_way g c p (activations_view t b.activations.items) (is_way t b before.there))

pub statement_so :
    (s new : State) (p number line : ℕ) (v : Value) (d : Done)
    → IsWay s p (way.Statement number) → GoesBack s new p number v line d → IsPerformed s new p (deed.Finishes line) [] d
statement_so s new p number line v d is_way goes source g c choice b program is_at =
    let t : Tables = source.program.tables in
    let before : IsBefore source s c p b (finishes line) = is_at.before in
    let w : GoesBackBy g c p (activations_view t b.activations.items) number v (λ d. d)
    = statement_way g c p (activations_view t b.activations.items) number v (is_way t b before.there) in
    goes source g c c choice b w.a w.below w.doing before is_at.quiet.acting is_at.quiet.sound w.living w.number w.back
    (body_is source g s c p choice line b before ∙ w.does) refl

pub monitor_so :
    (s mid new : State) (p number m line : ℕ) (v : Value) (d : Done)
    → IsMid s mid → HasActed s.world mid.world → mid.semaphores ≡ s.semaphores → mid.monitors.owners ≡ s.monitors.owners
    → held_in mid.world mid.monitors.holders ≡ handed_over (held_in s.world s.monitors.holders) m
    → IsWay s p (way.Monitor number m) → GoesBack mid new p number v line d → IsPerformed s new p (deed.Finishes line) [] d
monitor_so s mid new p number m line v d is acted counts owners rule is_way goes source g c choice b program is_at =
    let t : Tables = source.program.tables in
    let before : IsBefore source s c p b (finishes line) = is_at.before in
    let xs : List Activation = activations_view t b.activations.items in
    let w : GoesBackBy g c p xs number v (λ d. leaves_monitor d m) = monitor_way g c p xs number m v (is_way t b before.there) in
    let h : Held = handed_over (held_in c.table c.monitors) m in
    let k : Config = record c { table = h.table; counts = c.counts; monitors = h.holders } in
    let agreed : held_in mid.world mid.monitors.holders ≡ h
    = rule ∙ ap (λ (x : Table). handed_over (held_in x s.monitors.holders) m) before.agrees.table
    ∙ ap (λ (x : List (Option ℕ)). handed_over (held_in c.table x) m) before.agrees.monitors in
    let table_is : mid.world ≡ h.table = ap (λ (x : Held). x.table) agreed in
    goes source g c k choice b w.a w.below w.doing
    (other_objects source s mid c p b (finishes line) h.table c.counts h.holders before is acted table_is (counts ∙ before.agrees.counts)
    (ap (λ (x : Held). x.holders) agreed) owners)
    (ap (λ (x : Table). x.acting) (sym table_is) ∙ acted.acting) is_at.quiet.sound w.living w.number w.back
    (body_is source g s c p choice line b before ∙ w.does) refl

-- the result lies in the store where the code finds it
result_is :
    (source : Source) (g : Program) (s : State) (c : Config) (number scope : ℕ) (a : Activation) (v : Value)
    → IsProgram source g → store_view s.store ≡ c.store → number ≡ a.number → scope ≡ a.scope
    → v ≡ variable (store_view s.store) (result_place source.program.tables.scopes.now.subs number scope) → v ≡ result_in g c a
result_is source g s c number scope a v program store same_number same_scope found =
    let subs : List SubHead = source.program.tables.scopes.now.subs in
    found ∙ ap (λ (x : Store). variable x (result_place subs number scope)) store
    ∙ ap (λ (i : ℕ). variable c.store (result_place subs i scope)) same_number
    ∙ ap (λ (i : ℕ). variable c.store (result_place subs a.number i)) same_scope
    ∙ ap (λ (h : Program). variable c.store (result_place h.state.blocks.subs a.number a.scope)) (sym program.is)

pub value_so :
    (source : Source) (s new : State) (p number scope line : ℕ) (v : Value) (d : Done)
    → IsWay s p (way.Value number scope)
    → v ≡ variable (store_view s.store) (result_place source.program.tables.scopes.now.subs number scope)
    → GoesBack s new p number v line d → Performs source s new p (deed.Finishes line) [] d
value_so source s new p number scope line v d is_way found goes g c choice b program is_at =
    let t : Tables = source.program.tables in
    let before : IsBefore source s c p b (finishes line) = is_at.before in
    let xs : List Activation = activations_view t b.activations.items in
    let w : GivesBack g c p xs number scope = value_way g c p xs number scope (is_way t b before.there) in
    let result : v ≡ result_in g c w.a = result_is source g s c number scope w.a v program before.agrees.store w.number w.scope found in
    goes source g c c choice b w.a w.below (holding w.x v w.u) before is_at.quiet.acting is_at.quiet.sound w.living w.number
    (ap (λ (z : Caller). doing_back z v) w.caller)
    (body_is source g s c p choice line b before ∙ w.does
    ∙ ap (λ (z : Value). (let r : Effect = Ok (left_by g c p w.a w.below (holding w.x z w.u)) in r)) (sym result))
    refl

pub resource_so :
    (source : Source) (s mid new : State) (p number resource end line : ℕ) (v : Value) (found b : Activity) (d : Done)
    → IsWay s p (way.Resource number resource) → end ≡ get_or source.program.resource_ends.items resource 0
    → found ≡ get_or s.activities.items p found → IsPut s mid p b
    → ((t : Tables) → activity_shown t b ≡ with_scan resource end (activity_shown t found))
    → GoesBack mid new p number v line d → Performs source s new p (deed.Finishes line) [] d
resource_so source s mid new p number resource end line v found b d is_way last is put shows goes g c choice a program is_at =
    let t : Tables = source.program.tables in
    let n : Action = finishes line in
    let before : IsBefore source s c p a n = is_at.before in
    let xs : List Activation = activations_view t a.activations.items in
    let w : ScansBehind g c p xs number resource = resource_way g c p xs number resource (is_way t a before.there) in
    let seen : activity_shown t b ≡ with_scan resource end (activity_shown t a)
    = shows t ∙ ap (λ (x : Activity). with_scan resource end (activity_shown t x)) (is ∙ before.there.is found) in
    let k : Config = scan_put g c p resource end in
    let inner : Caller = behind_scan resource end w.a.caller in
    let scanning : Doing
    = going w.env (scan_on (record { resource = resource; line = end; after = None; way = leave }) (in_names w.env w.k)) in
    let line_is : end ≡ get_or g.resource_ends resource 0
    = last ∙ ap (λ (h : Program). get_or h.resource_ends resource 0) (sym program.is) in
    goes source g c k choice b (record w.a { caller = inner }) w.below scanning
    (put_before source g s mid c p resource end a b n before put seen)
    is_at.quiet.acting is_at.quiet.sound
    (ap (λ (x : Shown). x.activations) seen ∙ ap (scan_behind resource end) w.living) w.number
    (ap (λ (z : Caller). doing_back (behind_scan resource end z) v) w.caller)
    (body_is source g s c p choice line a before ∙ w.does
    ∙ ap (λ (i : ℕ). (let r : Effect
    = Ok (left_by g c p w.a w.below (going w.env (scan_on (record { resource = resource; line = i; after = None; way = leave }) (in_names w.env w.k)))) in r))
    (sym line_is)
    ∙ ap (λ (x : Config). (let r : Effect = Ok x in r))
    (sym (left_from_scan g c p resource end w.a inner w.below scanning (here source g s c p a n before))))
    refl

-- ## Results

-- where the source need not be known
pub performs_so :
    {E : Type 0} (source : Source) (s new : State) (p line : ℕ) (r : Result Done E)
    → IfOk r (λ d. IsPerformed s new p (deed.Finishes line) [] d) → IfOk r (λ d. Performs source s new p (deed.Finishes line) [] d)
performs_so source s new p line (Ok d) h = h source
performs_so source s new p line (Err e) h = tt

-- where nothing was done
pub unchanged_so : {E : Type 0} (s new : State) (p : ℕ) (r : Result Done E) → OnErr r (new ≡ s) → OnErr r (StaysAt s new p)
unchanged_so s new p (Ok d) h = tt
unchanged_so s new p (Err e) h = subst (λ (x : State). StaysAt s x p) (sym h) (nothing_so s p)
