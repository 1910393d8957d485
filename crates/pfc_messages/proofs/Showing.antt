-- A process waits and shows what it offers, on both sides.
use Rattle.std.proofs.Common.{◌≡◌, ℕ, List, [], length, map, set, None, Ok, sym, ap, ◌∙◌, subst}
use Rattle.std.proofs.lemmas.List.{append-nil, set-set, get_or-set_same, length-set}
use Rattle.pfc_world.specs.Tables.{Table}
use Rattle.pfc_world.specs.Tickets.{IsNew}
use Rattle.pfc_world.specs.Transitions.{ticked}
use Rattle.pfc_program.specs.declared.tables.Tables.{Tables}
use Rattle.pfc_store.specs.Views.{store_view}
use Rattle.pfc_semantics.specs.Programs.{Program}
use Rattle.pfc_semantics.specs.Remainders.{Context, Remainder, Action}
use Rattle.pfc_semantics.specs.Rewriting.{going, next}
use Rattle.pfc_semantics.specs.Configurations as configurations
use Rattle.pfc_semantics.specs.Configurations.{Config, activity_of, nobody, goes_on, showing, with_table, done_at}
use Rattle.pfc_semantics.specs.Steps.{effect, line_of}
use Rattle.pfc_pending.specs.Waiting.{remainder_of}
use Rattle.pfc_pending.specs.declared.at_hand.At.TheVariants as at
use Rattle.pfc_activities.specs.declared.activities.Activity.{Activity}
use Rattle.pfc_activities.specs.declared.changes.Done.TheVariants.{Stepped}
use Rattle.pfc_activities.specs.declared.source.Source.{Source}
use Rattle.pfc_activities.specs.declared.state.State.{State}
use Rattle.pfc_activities.specs.Relation.{Agrees, IsIn, IsBefore, IsAt, IsKept, Stands, Ends, shown_before}
use Rattle.pfc_activities.specs.Shown.{Shown, shown, activity_shown, activities_shown}
use Rattle.pfc_activities.specs.Views.{context_of, pending_of, ahead_of, at_line}
use Rattle.pfc_activities.proofs.Acting.{acting_is, here, change_one, ends_so}
use Rattle.pfc_meeting.proofs.Both.{now_in, stands_then}
use Rattle.pfc_meeting.proofs.BothPass.{agrees_world}

-- what the process shows in the definitions that goes on so and shows this while it waits
shows_hand :
    (source : Source) (g : Program) (s : State) (c : Config) (p : ℕ) (a : Activity) (n : Action) (x : Context) (k : Remainder) (hand : configurations.Hand)
    → IsBefore source s c p a n
    → shown (record (activity_of g (goes_on g c p x k) p) { hand = hand })
    ≡ record (activity_shown source.program.tables a) { next = next (going x.env k); hand = hand }
shows_hand source g s c p a n x k hand before =
    ap (λ (b : configurations.Activity). (let y : Shown = record (shown b) { hand = hand } in y))
    (get_or-set_same c.activities p (configurations.at_work (activity_of g c p) (going x.env k)) (nobody g) (here source g s c p a n before))
    ∙ ap (λ (b : Shown). (let y : Shown = record b { next = next (going x.env k); hand = hand } in y)) (acting_is source g s c p a n before)

pub shown_so :
    (source : Source) (g : Program) (s mid new : State) (c : Config) (p choice : ℕ) (a z : Activity) (n : Action) (table : Table) (hand : configurations.Hand)
    (items : List Activity) (line : ℕ)
    → IsAt source s c p a n
    → activity_shown source.program.tables z
    ≡ record (activity_shown source.program.tables a) { next = ahead_of source.program.tables a.doing at.Rest; hand = hand }
    → effect g c p choice n
    ≡ Ok (with_table
    (showing g (goes_on g c p (context_of source.program.tables a.doing) (remainder_of (pending_of source.program.tables a.doing))) p hand) table)
    → line_of n ≡ line → mid ≡ record s { store = mid.store; world = mid.world } → store_view mid.store ≡ store_view s.store → mid.world ≡ table
    → table.acting ≡ None → length table.rows ≡ length c.table.rows → items ≡ set s.activities.items p z → new.activities.items ≡ set items p (at_line z line)
    → IsKept mid new → new.world ≡ ticked mid.world → IsNew new.world.rows new.world.done → Ends source g new c p choice n [] Stepped
shown_so source g s mid new c p choice a z n table hand items line is_at shows e lines mid_is store world acting rows first last kept ticks fresh =
    let t : Tables = source.program.tables in
    let ys : List Activity = s.activities.items in
    let x : Context = context_of t a.doing in
    let k : Remainder = remainder_of (pending_of t a.doing) in
    let before : IsBefore source s c p a n = is_at.before in
    let w : configurations.Activity = configurations.at_work (activity_of g c p) (going x.env k) in
    let c1 : Config = goes_on g c p x k in
    let v : configurations.Activity = record (activity_of g c1 p) { hand = hand } in
    let cs : List configurations.Activity = set c1.activities p v in
    let c2 : Config = record c { table = table } in
    let acts : shown v ≡ activity_shown t z = shows_hand source g s c p a n x k hand before ∙ sym shows in
    let same : map shown cs ≡ activities_shown t items
    = ap (map shown) (set-set c.activities p w v)
    ∙ change_one t c.activities ys p v z (shown_before source a n before.hand) before.activities acts ∙ ap (activities_shown t) (sym first) in
    let there : IsIn items p z = subst (λ (l : List Activity). IsIn l p z) (sym first) (now_in ys p a z before.there) in
    let agrees : Agrees source mid c2
    = agrees_world source s mid c c.store table before.agrees mid_is (store ∙ before.agrees.store) world rows in
    let many : length items ≡ length mid.activities.items
    = ap length first ∙ length-set ys p z ∙ ap (λ (b : State). length b.activities.items) (sym mid_is) in
    ends_so source g new c (record c2 { activities = cs }) p choice n [] e
    (subst (λ (l : ℕ). Stands source new (done_at g (record c2 { activities = cs }) p l)) (sym lines)
    (stands_then source g mid new c2 cs items p z line same agrees many acting is_at.quiet.sound there last kept ticks fresh))
    (sym (append-nil c.output))
