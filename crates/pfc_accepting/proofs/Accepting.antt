-- A plain `accept`, on both sides.
use Rattle.std.proofs.Common.{◌≡◌, ℕ, List, [], ◌∷◌, length, get_or, Option, None, Some, Ok, refl, sym, ap, ◌∙◌, subst, arith}
use Rattle.std.specs.Prelude.{take}
use Rattle.std.proofs.lemmas.List.{take_all}
use Rattle.pfc_world.specs.Partners.{caller as first_caller}
use Rattle.pfc_world.specs.Rendezvous.{accepted}
use Rattle.pfc_world.specs.Tables.{Table}
use Rattle.pfc_program.specs.declared.tables.Tables.{Tables}
use Rattle.pfc_program.specs.Views.{names_view}
use Rattle.pfc_semantics.specs.Remainders as remainders
use Rattle.pfc_semantics.specs.Remainders.{Context, Remainder, Action, to_accept}
use Rattle.pfc_semantics.specs.Alternatives.{context}
use Rattle.pfc_semantics.specs.Statements.{plain_open}
use Rattle.pfc_semantics.specs.Rendezvous.{accepts_from}
use Rattle.pfc_semantics.specs.Selects.{meets_or_waits}
use Rattle.pfc_semantics.specs.Configurations as configurations
use Rattle.pfc_semantics.specs.Configurations.{Config, Effect, offering, goes_on, showing, with_table}
use Rattle.pfc_semantics.specs.Steps.{effect}
use Rattle.pfc_pending.specs.Selects.{accepting_view, opens_view}
use Rattle.pfc_pending.specs.Waiting.{remainder_of, waiting}
use Rattle.pfc_pending.specs.declared.actions.Deed.TheVariants as deed
use Rattle.pfc_pending.specs.declared.pending.Pending.{Pending}
use Rattle.pfc_pending.specs.declared.select.Accepting.{Accepting}
use Rattle.pfc_pending.specs.declared.select.Offer.TheVariants as offer
use Rattle.pfc_activities.specs.declared.activities.Activity.{Activity}
use Rattle.pfc_activities.specs.declared.changes.Done.{Done}
use Rattle.pfc_activities.specs.declared.hands.Hand.TheVariants as hand
use Rattle.pfc_activities.specs.declared.hands.Offering.{Offering}
use Rattle.pfc_activities.specs.declared.source.Source.{Source}
use Rattle.pfc_activities.specs.declared.state.State.{State}
use Rattle.pfc_activities.specs.Relation.{IsBefore, IsAt, Performs}
use Rattle.pfc_activities.specs.Views.{context_of, pending_of, deed_of, kept_of, hand_view}
use Rattle.pfc_meeting.specs.declared.onward.Onward.{Onward}
use Rattle.pfc_meeting.specs.Going.{left_of}
use Rattle.pfc_waiting.specs.Waiting.{HasActed}
use Rattle.pfc_waiting.proofs.Waiting.{other_objects}
use Rattle.pfc_accepting.specs.declared.meetings.Meeting.{Meeting}
use Rattle.pfc_accepting.specs.Meetings.{opened, IsMeetingAt}
use Rattle.pfc_accepting.specs.Acting.{IsTaken, IsShown}

-- the process that acts, where its action has changed the table on both sides
pub other_table :
    (source : Source) (s : State) (w table : Table) (c : Config) (p : ℕ) (a : Activity) (n : Action)
    → IsAt source s c p a n → HasActed s.world w → w ≡ table → IsBefore source (record s { world = w }) (with_table c table) p a n
other_table source s w table c p a n is_at acted is =
    other_objects source s (record s { world = w }) c p a n table c.counts c.monitors is_at.before refl acted is is_at.before.agrees.counts
    is_at.before.agrees.monitors refl

-- all that is pending is left
pub left_whole : (t : Tables) (n : ℕ) (parts : List Pending) → n ≡ length parts → remainder_of (waiting t (take n parts)) ≡ remainder_of (waiting t parts)
left_whole t n parts h = ap (λ (l : List Pending). remainder_of (waiting t l)) (take_all n parts (omega arith))

pub accepts_so :
    (source : Source) (s new : State) (w : Table) (p caller : ℕ) (accepting : Accepting) (way : Onward) (own : Activity) (m : Meeting) (d : Done)
    → first_caller s.world.rows p accepting.entry ≡ Some caller → own ≡ get_or s.activities.items p own
    → way.kept ≡ length own.doing.pending.items → ((offer : remainders.Offer) → opened offer way ≡ plain_open offer)
    → IsMeetingAt source.program.tables own.doing.names accepting way m → w ≡ accepted s.world p accepting.entry → HasActed s.world w
    → IsTaken (record s { world = w }) new p caller m d → Performs source s new p (deed.Meets (offer.Accept accepting)) [] d
accepts_so source s new w p caller accepting way own m d first own_is kept plain at_meeting rule acted taken g c choice a program is_at =
    let t : Tables = source.program.tables in
    let x : Context = context_of t a.doing in
    let k : Remainder = remainder_of (pending_of t a.doing) in
    let act : Action = deed_of t a.doing (deed.Meets (offer.Accept accepting)) in
    let acc : remainders.Accepting = accepting_view accepting in
    let table : Table = accepted c.table p accepting.entry in
    let c1 : Config = with_table c table in
    let table_is : w ≡ table = rule ∙ ap (λ (b : Table). accepted b p accepting.entry) is_at.before.agrees.table in
    let same : own ≡ a = own_is ∙ is_at.before.there.is own in
    let found : first_caller c.table.rows p accepting.entry ≡ Some caller
    = ap (λ (b : Table). first_caller b.rows p accepting.entry) (sym is_at.before.agrees.table) ∙ first in
    let left : left_of t a way.kept ≡ k
    = left_whole t way.kept a.doing.pending.items (kept ∙ ap (λ (b : Activity). length b.doing.pending.items) same) in
    let e : effect g c p choice act ≡ Ok (accepts_from g c1 p x acc (opened (to_accept acc) way) caller (left_of t a way.kept))
    = ap (λ (f : Option ℕ). (let r : Effect = Ok (with_table (meets_or_waits g c p x (plain_open (to_accept acc)) k f) table) in r)) found
    ∙ ap (λ (o : remainders.Open). (let r : Effect = Ok (accepts_from g c1 p x acc o caller k) in r)) (sym (plain (to_accept acc)))
    ∙ ap (λ (j : Remainder). (let r : Effect = Ok (accepts_from g c1 p x acc (opened (to_accept acc) way) caller j) in r)) (sym left) in
    taken source g c c1 choice a act accepting way (to_accept acc) (other_table source s w table c p a act is_at acted table_is)
    (ap (λ (b : Table). b.acting) (sym table_is) ∙ acted.acting) is_at.quiet.sound
    (subst (λ (b : Activity). IsMeetingAt t b.doing.names accepting way m) same at_meeting) e refl refl

pub accept_waits :
    (source : Source) (s new : State) (w : Table) (p : ℕ) (accepting : Accepting) (own : Activity) (o : Offering) (d : Done)
    → first_caller s.world.rows p accepting.entry ≡ None → own ≡ get_or s.activities.items p own → o.line ≡ own.doing.line
    → opens_view o.opens.items ≡ plain_open (to_accept (accepting_view accepting)) ∷ [] → o.kept ≡ length own.doing.pending.items
    → w ≡ accepted s.world p accepting.entry → HasActed s.world w
    → IsShown (record s { world = w }) new p (hand.Offering o) d → Performs source s new p (deed.Meets (offer.Accept accepting)) [] d
accept_waits source s new w p accepting own o d nobody own_is lines opens kept rule acted shows g c choice a program is_at =
    let t : Tables = source.program.tables in
    let x : Context = context_of t a.doing in
    let k : Remainder = remainder_of (pending_of t a.doing) in
    let act : Action = deed_of t a.doing (deed.Meets (offer.Accept accepting)) in
    let plain : remainders.Open = plain_open (to_accept (accepting_view accepting)) in
    let table : Table = accepted c.table p accepting.entry in
    let c1 : Config = with_table c table in
    let table_is : w ≡ table = rule ∙ ap (λ (b : Table). accepted b p accepting.entry) is_at.before.agrees.table in
    let same : own ≡ a = own_is ∙ is_at.before.there.is own in
    let found : first_caller c.table.rows p accepting.entry ≡ None
    = ap (λ (b : Table). first_caller b.rows p accepting.entry) (sym is_at.before.agrees.table) ∙ nobody in
    let left : kept_of t a.doing o ≡ k
    = left_whole t o.kept a.doing.pending.items (kept ∙ ap (λ (b : Activity). length b.doing.pending.items) same) in
    let held : hand_view t a.doing (hand.Offering o) ≡ offering x (plain ∷ []) k
    = ap (λ (l : ℕ). offering (context (names_view t a.doing.names) l) (opens_view o.opens.items) (kept_of t a.doing o))
    (lines ∙ ap (λ (b : Activity). b.doing.line) same)
    ∙ ap (λ (l : List remainders.Open). offering x l (kept_of t a.doing o)) opens ∙ ap (offering x (plain ∷ [])) left in
    let e : effect g c p choice act ≡ Ok (showing g (goes_on g c1 p x k) p (hand_view t a.doing (hand.Offering o)))
    = ap (λ (f : Option ℕ). (let r : Effect = Ok (with_table (meets_or_waits g c p x plain k f) table) in r)) found
    ∙ ap (λ (h : configurations.Hand). (let r : Effect = Ok (showing g (goes_on g c1 p x k) p h) in r)) (sym held) in
    shows source g c c1 choice a act (other_table source s w table c p a act is_at acted table_is)
    (ap (λ (b : Table). b.acting) (sym table_is) ∙ acted.acting) is_at.quiet.sound e refl refl
