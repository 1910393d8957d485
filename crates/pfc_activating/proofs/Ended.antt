-- The end of an action behind which the state shows all but the line and the count of it.
use Rattle.std.proofs.Common.{◌≡◌, ℕ, List, ◌++◌, set, None, Ok, sym, ap, ◌∙◌, subst}
use Rattle.std.proofs.lemmas.List.{set-get_or}
use Rattle.pfc_program.specs.declared.tables.Tables.{Tables}
use Rattle.pfc_world.specs.Tickets.{IsNew}
use Rattle.pfc_world.specs.Transitions.{ticked}
use Rattle.pfc_semantics.specs.Programs.{Program}
use Rattle.pfc_semantics.specs.Remainders.{Action}
use Rattle.pfc_semantics.specs.Configurations as configurations
use Rattle.pfc_semantics.specs.Configurations.{Config, activity_of, nobody, with_activity, done_at}
use Rattle.pfc_semantics.specs.Steps.{effect, line_of}
use Rattle.pfc_activities.specs.declared.activities.Activity.{Activity}
use Rattle.pfc_activities.specs.declared.changes.Done.TheVariants.{Stepped}
use Rattle.pfc_activities.specs.declared.source.Source.{Source}
use Rattle.pfc_activities.specs.declared.state.State.{State}
use Rattle.pfc_activities.specs.Shown.{Shown, shown, activity_shown}
use Rattle.pfc_activities.specs.Views.{at_line, doing_ahead, hand_view}
use Rattle.pfc_activities.specs.Relation.{IsIn, IsBefore, IsKept, Mirrors, Stands, Ends}
use Rattle.pfc_activities.proofs.Acting.{as_put, acting_is, stands_so, ends_so}

-- a process from which nothing was taken is before what it shows
abbrev pub before_it :
    (source : Source) (s : State) (k : Config) (p : ℕ) (y : Activity)
    → Mirrors source s k → IsIn s.activities.items p y → IsBefore source s k p y (doing_ahead source.program.tables y.doing)
before_it source s k p y mirrors there =
    record {
      hand = hand_view source.program.tables y.doing y.hand;
      there = there;
      activities = mirrors.activities ∙ as_put source.program.tables s.activities.items p y there;
      agrees = mirrors.agrees;
    }

pub ends_where_it_is :
    (source : Source) (g : Program) (s new : State) (c k : Config) (p choice : ℕ) (y : Activity) (n : Action) (bytes : List ℕ) (line : ℕ)
    → Mirrors source s k → k.table.acting ≡ None → k.fault ≡ None → IsIn s.activities.items p y
    → effect g c p choice n ≡ Ok k → line_of n ≡ line → k.output ≡ c.output ++ bytes
    → new.activities.items ≡ set s.activities.items p (at_line y line) → IsKept s new → new.world ≡ ticked s.world → IsNew new.world.rows new.world.done
    → Ends source g new c p choice n bytes Stepped
ends_where_it_is source g s new c k p choice y n bytes line mirrors acting sound there e lines output items kept world fresh =
    let t : Tables = source.program.tables in
    let m : Action = doing_ahead t y.doing in
    let before : IsBefore source s k p y m = before_it source s k p y mirrors there in
    let w : configurations.Activity = activity_of g k p in
    let same : shown (record w { line = line }) ≡ activity_shown t (at_line y line)
    = ap (λ (x : Shown). (let z : Shown = record x { line = line } in z)) (acting_is source g s k p y m before) in
    let as_it_was : with_activity k p w ≡ k
    = ap (λ (xs : List configurations.Activity). (let x : Config = record k { activities = xs } in x)) (set-get_or k.activities p (nobody g)) in
    ends_so source g new c k p choice n bytes e
    (subst (λ (l : ℕ). Stands source new (done_at g k p l)) (sym lines)
    (subst (λ (x : Config). Stands source new (done_at g x p line)) as_it_was
    (stands_so source g s new k p y (at_line y line) m w line before acting sound same items kept world fresh)))
    output
