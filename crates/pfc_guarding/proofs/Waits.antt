-- A process that waits and shows its guard, on both sides.
use Rattle.std.proofs.Common.{◌≡◌, ℕ, ◌<◌, List, [], length, set, None, Ok, sym, ap, ◌∙◌, subst}
use Rattle.std.proofs.lemmas.List.{append-nil, set-set, get_or-set_same}
use Rattle.pfc_program.specs.declared.tables.Tables.{Tables}
use Rattle.pfc_world.specs.Holders.{Held, held_in}
use Rattle.pfc_world.specs.Tables.{Table}
use Rattle.pfc_world.specs.Tickets.{IsNew}
use Rattle.pfc_world.specs.Transitions.{ticked}
use Rattle.pfc_store.specs.Views.{store_view}
use Rattle.pfc_semantics.specs.Programs.{Program}
use Rattle.pfc_semantics.specs.Remainders.{Action}
use Rattle.pfc_semantics.specs.Rewriting.{Doing, going}
use Rattle.pfc_semantics.specs.Configurations as configurations
use Rattle.pfc_semantics.specs.Configurations.{Config, Effect, barred_at, activity_of, nobody, with_activity, doing_next, showing, goes_on, done_at}
use Rattle.pfc_semantics.specs.Steps.{effect, line_of}
use Rattle.pfc_pending.specs.declared.pending.Bar.{Bar}
use Rattle.pfc_pending.specs.declared.at_hand.At.TheVariants as at
use Rattle.pfc_pending.specs.Waiting.{remainder_of, bar_view}
use Rattle.pfc_activities.specs.declared.activities.Activity.{Activity}
use Rattle.pfc_activities.specs.declared.changes.Done.TheVariants.{Stepped}
use Rattle.pfc_activities.specs.declared.source.Source.{Source}
use Rattle.pfc_activities.specs.declared.state.State.{State}
use Rattle.pfc_activities.specs.Relation.{IsIn, shown_before, IsBefore, IsKept, Stands, Ends}
use Rattle.pfc_activities.specs.Shown.{Shown, shown, activity_shown, activities_shown}
use Rattle.pfc_activities.specs.Views.{context_of, pending_of, at_work, at_line}
use Rattle.pfc_activities.proofs.Acting.{acting_is, here, stands_so, ends_so}
use Rattle.pfc_waiting.specs.Waiting.{HasActed}
use Rattle.pfc_guarding.specs.Barring.{showing_bar}

-- what a process is that is behind its statement, and shows this
showing_once :
    (g : Program) (c : Config) (p : ℕ) (doing : Doing) (hand : configurations.Hand)
    → p < length c.activities
    → showing g (doing_next g c p doing) p hand ≡ with_activity c p (record (configurations.at_work (activity_of g c p) doing) { hand = hand })
showing_once g c p doing hand within =
    let w : configurations.Activity = configurations.at_work (activity_of g c p) doing in
    ap (λ (z : configurations.Activity). (let y : configurations.Activity = record z { hand = hand } in with_activity (with_activity c p w) p y))
    (get_or-set_same c.activities p w (nobody g) within)
    ∙ ap (λ (l : List configurations.Activity). (let x : Config = record c { activities = l } in x)) (set-set c.activities p w (record w { hand = hand }))

pub waits_barred :
    (source : Source) (g : Program) (s new : State) (c k : Config) (p choice : ℕ) (a : Activity) (n : Action) (bar : Bar)
    → IsBefore source s k p a n → k.table.acting ≡ None → k.fault ≡ None
    → effect g c p choice n
    ≡ Ok (showing g (goes_on g k p (context_of source.program.tables a.doing) (remainder_of (pending_of source.program.tables a.doing))) p
    (barred_at (bar_view source.program.tables bar)))
    → line_of n ≡ a.doing.line → k.output ≡ c.output
    → new.activities.items ≡ set s.activities.items p (at_line (showing_bar (at_work a at.Rest) bar) a.doing.line) → IsKept s new
    → new.world ≡ ticked s.world → IsNew new.world.rows new.world.done → Ends source g new c p choice n [] Stepped
waits_barred source g s new c k p choice a n bar before acting sound e lines output items kept world fresh =
    let t : Tables = source.program.tables in
    let line : ℕ = a.doing.line in
    let doing : Doing = going (context_of t a.doing).env (remainder_of (pending_of t a.doing)) in
    let w : configurations.Activity = record (configurations.at_work (activity_of g k p) doing) { hand = barred_at (bar_view t bar) } in
    let y : Activity = at_line (showing_bar (at_work a at.Rest) bar) line in
    let seen : shown (record w { line = line }) ≡ activity_shown t y
    = ap (λ (x : Shown). (let z : Shown
    = record { next = (activity_shown t y).next; display = x.display; activations = x.activations; hand = barred_at (bar_view t bar); line = line } in z))
    (acting_is source g s k p a n before) in
    ends_so source g new c (with_activity k p w) p choice n []
    (e ∙ ap (λ (d : Config). (let r : Effect = Ok d in r)) (showing_once g k p doing (barred_at (bar_view t bar)) (here source g s k p a n before)))
    (subst (λ (l : ℕ). Stands source new (done_at g (with_activity k p w) p l)) (sym lines)
    (stands_so source g s new k p a y n w line before acting sound seen items kept world fresh))
    (output ∙ sym (append-nil c.output))

-- ## On the way

-- only the table and the resources were changed
abbrev pub IsMid : State → State → Type 0
IsMid s mid = mid ≡ record s { world = mid.world; resources = mid.resources }

-- the same process, where those were changed on both sides
pub other_resources :
    (source : Source) (s mid : State) (c : Config) (p : ℕ) (a : Activity) (n : Action) (h : Held)
    → IsBefore source s c p a n → IsMid s mid → HasActed s.world mid.world → held_in mid.world mid.resources ≡ h
    → IsBefore source mid (record c { table = h.table; resources = h.holders }) p a n
other_resources source s mid c p a n h before is acted agreed =
    let same : mid.activities.items ≡ s.activities.items = ap (λ (x : State). x.activities.items) is in
    let table_is : mid.world ≡ h.table = ap (λ (x : Held). x.table) agreed in
    record {
      hand = before.hand;
      there = subst (λ (ys : List Activity). IsIn ys p a) (sym same) before.there;
      activities =
          before.activities ∙ ap (λ (ys : List Activity). set (activities_shown source.program.tables ys) p (shown_before source a n before.hand)) (sym same);
      agrees = record {
        table = table_is;
        counts = ap (λ (x : State). x.semaphores) is ∙ before.agrees.counts;
        monitors = ap (λ (x : State). x.monitors.holders) is ∙ before.agrees.monitors;
        resources = ap (λ (x : Held). x.holders) agreed;
        store = ap (λ (x : State). store_view x.store) is ∙ before.agrees.store;
        input = ap (λ (x : State). x.input) is ∙ before.agrees.input;
        words = ap (λ (x : State). x.draws) is ∙ before.agrees.words;
        count =
            ap length same ∙ before.agrees.count
            ∙ sym (ap (λ (w : Table). length w.rows) (sym table_is) ∙ acted.count ∙ ap (λ (w : Table). length w.rows) before.agrees.table);
        conditions = ap (λ (x : State). x.monitors.owners) is ∙ before.agrees.conditions;
      };
    }

-- nobody acts then
pub nobody_acts :
    (s mid : State) (h : Held) → HasActed s.world mid.world → held_in mid.world mid.resources ≡ h → h.table.acting ≡ None
nobody_acts s mid h acted agreed = ap (λ (x : Held). x.table.acting) (sym agreed) ∙ acted.acting
