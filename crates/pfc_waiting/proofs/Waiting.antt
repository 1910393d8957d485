-- Actions that change the table, the counts of semaphores and the monitors.
use Rattle.std.proofs.Common.{◌≡◌, ℕ, List, [], ◌++◌, length, set, Option, None, Ok, refl, sym, ap, ◌∙◌, subst}
use Rattle.std.specs.Prelude.{unsigned_abs}
use Rattle.std.proofs.lemmas.List.{append-nil}
use Rattle.pfc_program.specs.declared.tables.Tables.{Tables}
use Rattle.pfc_world.specs.Tables.{Table}
use Rattle.pfc_world.specs.Tickets.{IsNew}
use Rattle.pfc_world.specs.Transitions.{ticked}
use Rattle.pfc_store.specs.declared.spots.Spot.{Spot}
use Rattle.pfc_store.specs.Views.{spot_view, store_view}
use Rattle.pfc_semantics.specs.Values.{Value, ordinal_of}
use Rattle.pfc_semantics.specs.Programs.{Program}
use Rattle.pfc_semantics.specs.Remainders.{Action}
use Rattle.pfc_semantics.specs.Rewriting.{Doing, next, going}
use Rattle.pfc_semantics.specs.Configurations as configurations
use Rattle.pfc_semantics.specs.Configurations.{Config, activity_of, doing_next, done_at, empty_hand, number_for}
use Rattle.pfc_semantics.specs.Steps.{effect, line_of}
use Rattle.pfc_pending.specs.Waiting.{remainder_of}
use Rattle.pfc_pending.specs.declared.at_hand.At.{At}
use Rattle.pfc_pending.specs.declared.at_hand.At.TheVariants as at
use Rattle.pfc_activities.specs.declared.activities.Activity.{Activity}
use Rattle.pfc_activities.specs.declared.changes.Done.{Done}
use Rattle.pfc_activities.specs.declared.changes.Done.TheVariants.{Stepped}
use Rattle.pfc_activities.specs.declared.source.Source.{Source}
use Rattle.pfc_activities.specs.declared.state.State.{State}
use Rattle.pfc_activities.specs.Shown.{Shown, activity_shown, activities_shown}
use Rattle.pfc_activities.specs.Views.{context_of, pending_of, ahead_of, at_work, at_line}
use Rattle.pfc_activities.specs.Relation.{IsIn, shown_before, IsBefore, IsAt, IsKept, Stands, Ends}
use Rattle.pfc_activities.proofs.Acting.{acting_is, value_is, stands_so, ends_so}
use Rattle.pfc_waiting.specs.Waiting.{IsNumber, HasActed, GoesOnWhenReady}

-- ## The end of an action

-- the process goes on so when it is ready: it perhaps waits since this action
pub goes_on_later :
    (source : Source) (g : Program) (s new : State) (c k : Config) (p choice : ℕ) (a : Activity) (n : Action) (doing : Doing) (bytes : List ℕ) (at : At)
    → IsBefore source s k p a n → k.table.acting ≡ None → k.fault ≡ None → effect g c p choice n ≡ Ok (doing_next g k p doing)
    → next doing ≡ ahead_of source.program.tables a.doing at → line_of n ≡ a.doing.line → k.output ≡ c.output ++ bytes
    → new.activities.items ≡ set s.activities.items p (at_line (at_work a at) a.doing.line) → IsKept s new → new.world ≡ ticked s.world
    → IsNew new.world.rows new.world.done → Ends source g new c p choice n bytes Stepped
goes_on_later source g s new c k p choice a n doing bytes at before acting sound e nexts lines output items kept world fresh =
    let t : Tables = source.program.tables in
    let line : ℕ = a.doing.line in
    let same : configurations.Activity = configurations.at_work (activity_of g k p) doing in
    ends_so source g new c (doing_next g k p doing) p choice n bytes e
    (subst (λ (l : ℕ). Stands source new (done_at g (doing_next g k p doing) p l)) (sym lines)
    (stands_so source g s new k p a (at_line (at_work a at) line) n same line before acting sound
    (ap (λ (x : Shown). (let y : Shown = record x { next = next doing; hand = empty_hand; line = line } in y)) (acting_is source g s k p a n before)
    ∙ ap (λ (m : Action). (let y : Shown = record (activity_shown t a) { next = m; hand = empty_hand; line = line } in y)) nexts)
    items kept world fresh))
    output

-- ## On the way

-- only the table, the counts and the monitors were changed
abbrev pub IsMid : State → State → Type 0
IsMid s mid = mid ≡ record s { world = mid.world; semaphores = mid.semaphores; monitors = mid.monitors }

-- the same process, where those were changed on both sides
pub other_objects :
    (source : Source) (s mid : State) (c : Config) (p : ℕ) (a : Activity) (n : Action) (table : Table) (counts : List ℕ) (monitors : List (Option ℕ))
    → IsBefore source s c p a n → IsMid s mid → HasActed s.world mid.world → mid.world ≡ table → mid.semaphores ≡ counts
    → mid.monitors.holders ≡ monitors → mid.monitors.owners ≡ s.monitors.owners
    → IsBefore source mid (record c { table = table; counts = counts; monitors = monitors }) p a n
other_objects source s mid c p a n table counts monitors before is acted table_is counts_is monitors_is owners =
    let same : mid.activities.items ≡ s.activities.items = ap (λ (x : State). x.activities.items) is in
    record {
      hand = before.hand;
      there = subst (λ (ys : List Activity). IsIn ys p a) (sym same) before.there;
      activities = before.activities ∙
          ap (λ (ys : List Activity). set (activities_shown source.program.tables ys) p (shown_before source a n before.hand)) (sym same);
      agrees = record {
        table = table_is;
        counts = counts_is;
        monitors = monitors_is;
        resources = ap (λ (x : State). x.resources) is ∙ before.agrees.resources;
        store = ap (λ (x : State). store_view x.store) is ∙ before.agrees.store;
        input = ap (λ (x : State). x.input) is ∙ before.agrees.input;
        words = ap (λ (x : State). x.draws) is ∙ before.agrees.words;
        count =
            ap length same ∙ before.agrees.count
            ∙ sym (ap (λ (w : Table). length w.rows) (sym table_is) ∙ acted.count ∙ ap (λ (w : Table). length w.rows) before.agrees.table);
        conditions = owners ∙ before.agrees.conditions;
      };
    }

-- the number of an object is that of the definitions
pub number_is :
    (source : Source) (g : Program) (s : State) (c : Config) (p : ℕ) (a : Activity) (n : Action) (spot : Spot) (number : ℕ)
    → IsBefore source s c p a n → IsNumber s p spot number → number ≡ number_for g c p (spot_view spot)
number_is source g s c p a n spot number before is =
    is a before.there ∙ ap (λ (v : Value). unsigned_abs (ordinal_of v)) (value_is source g s c p a n before (spot_view spot))

-- the process is behind its statement when it is ready
pub behind_it :
    (source : Source) (g : Program) (s mid new : State) (c : Config) (p choice : ℕ) (a : Activity) (n : Action) (d : Done)
    (table : Table) (counts : List ℕ) (monitors : List (Option ℕ))
    → IsAt source s c p a n → IsMid s mid → HasActed s.world mid.world → mid.world ≡ table → mid.semaphores ≡ counts
    → mid.monitors.holders ≡ monitors → mid.monitors.owners ≡ s.monitors.owners → GoesOnWhenReady mid new p at.Rest d
    → effect g c p choice n
    ≡ Ok (doing_next g (record c { table = table; counts = counts; monitors = monitors }) p
    (going (context_of source.program.tables a.doing).env (remainder_of (pending_of source.program.tables a.doing))))
    → line_of n ≡ a.doing.line → Ends source g new c p choice n [] d
behind_it source g s mid new c p choice a n d table counts monitors is_at is acted table_is counts_is monitors_is owners goes e lines =
    let t : Tables = source.program.tables in
    let k : Config = record c { table = table; counts = counts; monitors = monitors } in
    goes source g c k choice a n (going (context_of t a.doing).env (remainder_of (pending_of t a.doing))) []
    (other_objects source s mid c p a n table counts monitors is_at.before is acted table_is counts_is monitors_is owners)
    (ap (λ (w : Table). w.acting) (sym table_is) ∙ acted.acting) is_at.quiet.sound e refl lines (sym (append-nil c.output))
