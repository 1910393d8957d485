-- A caller is accepted by a select, on both sides.
use Rattle.std.proofs.Common.{◌≡◌, ℕ, List, length, get_or, Some, Result, Ok, Err, refl, sym, ap, ◌∙◌, subst}
use Rattle.std.specs.Prelude.{IfOk}
use Rattle.pfc_base.specs.declared.memory_error.Memory.{Memory}
use Rattle.pfc_state.specs.declared.waits.Arm.{Arm}
use Rattle.pfc_state.specs.declared.waits.Arm.TheVariants.{Accept as Entry}
use Rattle.pfc_world.specs.Selects.{communicated_with}
use Rattle.pfc_world.specs.Rendezvous.{taken}
use Rattle.pfc_world.specs.Tables.{Table}
use Rattle.pfc_program.specs.declared.tables.Tables.{Tables}
use Rattle.pfc_program.specs.declared.names.Names.{Names}
use Rattle.pfc_program.specs.Views.{names_view}
use Rattle.pfc_semantics.specs.Programs.{Program}
use Rattle.pfc_semantics.specs.Alternatives.{context}
use Rattle.pfc_semantics.specs.Remainders.{Context, Remainder, to_accept}
use Rattle.pfc_semantics.specs.Rendezvous.{accepts_from}
use Rattle.pfc_semantics.specs.Configurations.{Config, Effect, with_table}
use Rattle.pfc_semantics.specs.Selects.{communicates_by}
use Rattle.pfc_pending.specs.Selects.{accepting_view, offer_view, open_view}
use Rattle.pfc_pending.specs.declared.select.Offer.{Offer as HeldOffer}
use Rattle.pfc_pending.specs.declared.select.Offer.TheVariants as offer
use Rattle.pfc_pending.specs.declared.select.Open.{Open}
use Rattle.pfc_pending.specs.Waiting.{remainder_of, waiting}
use Rattle.pfc_pending.specs.declared.pending.Pending.{Pending}
use Rattle.pfc_pending.specs.declared.select.Accepting.{Accepting}
use Rattle.pfc_activities.specs.declared.activities.Activity.{Activity}
use Rattle.pfc_activities.specs.declared.changes.Done.{Done}
use Rattle.pfc_activities.specs.declared.source.Source.{Source}
use Rattle.pfc_activities.specs.declared.state.State.{State}
use Rattle.pfc_activities.specs.Relation.{StaysAt}
use Rattle.pfc_activities.specs.Views.{context_of, pending_of}
use Rattle.pfc_meeting.specs.declared.onward.Onward.{Onward}
use Rattle.pfc_meeting.specs.Going.{left_of}
use Rattle.pfc_waiting.specs.Waiting.{HasActed}
use Rattle.pfc_accepting.specs.declared.meetings.Meeting.{Meeting}
use Rattle.pfc_accepting.specs.Meetings.{opened, IsMeetingAt}
use Rattle.pfc_accepting.specs.Acting.{IsTaken}
use Rattle.pfc_accepting.proofs.Accepting.{other_table, left_whole}
use Rattle.pfc_deciding.specs.declared.own.Behind.{Behind}
use Rattle.pfc_deciding.specs.Accepting.{accepts_it, accept_open}
use Rattle.pfc_deciding.specs.declared.matching.Matched.{Matched}
use Rattle.pfc_deciding.specs.Matching.{takes_open_in}
use Rattle.pfc_deciding.specs.Coming.{ComesTo}

pub accepts_own :
    (source : Source) (s new : State) (w : Table) (p caller : ℕ) (accepting : Accepting) (way : Behind) (gone : Onward) (n : ℕ)
    (own : Activity) (m : Meeting) (d : Done)
    → own ≡ get_or s.activities.items p own → gone ≡ record { kept = n; replica = way.replica; next = way.next; stmts = way.stmts }
    → n ≡ length own.doing.pending.items → IsMeetingAt source.program.tables own.doing.names accepting gone m → w ≡ taken s.world p caller
    → HasActed s.world w → IsTaken (record s { world = w }) new p caller m d → ComesTo source s new p (accepts_it accepting way caller p) d
accepts_own source s new w p caller accepting way gone n own m d own_is gone_is kept at_meeting rule acted takes g c choice a act program is_at e lines =
    let t : Tables = source.program.tables in
    let x : Context = context_of t a.doing in
    let k : Remainder = remainder_of (pending_of t a.doing) in
    let table : Table = taken c.table p caller in
    let c1 : Config = with_table c table in
    let plain : Onward = record { kept = n; replica = way.replica; next = way.next; stmts = way.stmts } in
    let table_is : w ≡ table = rule ∙ ap (λ (b : Table). taken b p caller) is_at.before.agrees.table in
    let same : own ≡ a = own_is ∙ is_at.before.there.is own in
    let left : left_of t a n ≡ k = left_whole t n a.doing.pending.items (kept ∙ ap (λ (b : Activity). length b.doing.pending.items) same) in
    let effects : Ok (accepts_from g c1 p x (accepting_view accepting) (opened (to_accept (accepting_view accepting)) plain) caller (left_of t a plain.kept))
    ≡ Ok (accepts_from g c1 p x (accepting_view accepting) (opened (to_accept (accepting_view accepting)) gone) caller (left_of t a gone.kept))
    = ap (λ (o : Onward). (let r : Effect =
    Ok (accepts_from g c1 p x (accepting_view accepting) (opened (to_accept (accepting_view accepting)) o) caller (left_of t a o.kept)) in r))
    (sym gone_is) in
    takes source g c c1 choice a act accepting gone (to_accept (accepting_view accepting)) (other_table source s w table c p a act is_at acted table_is)
    (ap (λ (b : Table). b.acting) (sym table_is) ∙ acted.acting) is_at.quiet.sound
    (subst (λ (b : Activity). IsMeetingAt t b.doing.names accepting gone m) same at_meeting)
    (e ∙ ap (λ (j : Remainder). (let r : Effect = Ok (accepts_from g c1 p x (accepting_view accepting) (accept_open accepting way) caller j) in r)) (sym left) ∙
    effects) lines refl

-- what an action comes to in more room it comes to
pub comes_in_room :
    (source : Source) (s mid new : State) (p : ℕ) (what : Program → Config → Context → Remainder → Effect) (d : Done)
    → StaysAt s mid p → ComesTo source mid new p what d → ComesTo source s new p what d
comes_in_room source s mid new p what d stays comes g c choice a n program is_at e lines =
    let t : Tables = source.program.tables in
    let moved = stays source c a n is_at in
    comes g c choice moved.0 n program moved.1
    (e ∙ ap (λ (m : Names). what g c (context (names_view t m) a.doing.line) (remainder_of (pending_of t a.doing))) (sym moved.2.names)
    ∙ ap (λ (l : ℕ). what g c (context (names_view t moved.0.doing.names) l) (remainder_of (pending_of t a.doing))) (sym moved.2.line)
    ∙ ap (λ (ps : List Pending). what g c (context_of t moved.0.doing) (remainder_of (waiting t ps))) (sym moved.2.pending))
    (lines ∙ sym moved.2.line)

pub accepts_ok :
    (source : Source) (s new : State) (p : ℕ) (found : Open) (m : Matched) (way : Behind) (r : Result Done Memory) (accepting : Accepting) (entry : ℕ)
    → found.offer ≡ offer.Accept accepting → m.arm ≡ Entry entry
    → way ≡ record { replica = found.replica; next = found.next; stmts = found.stmts }
    → IfOk r (λ d. ComesTo source s new p (accepts_it accepting way m.partner p) d) → IfOk r (λ d. ComesTo source s new p (takes_open_in found m p) d)
accepts_ok source s new p found m way (Ok d) accepting entry is arm way_is h =
    λ g c choice a n program is_at e lines.
    let x : Context = context_of source.program.tables a.doing in
    let k : Remainder = remainder_of (pending_of source.program.tables a.doing) in
    let here : Behind = record { replica = found.replica; next = found.next; stmts = found.stmts } in
    h g c choice a n program is_at
    (e
    ∙ ap (λ (b : Arm). (let y : Effect =
    Ok (with_table (communicates_by g c p x (open_view found) k m.partner (offer_view found.offer) (Some b))
    (communicated_with (Some m.partner) c.table p b)) in y)) arm
    ∙ ap
    (λ (f : HeldOffer).
    (let y : Effect = Ok (with_table (communicates_by g c p x (record (open_view found) { offer = offer_view f }) k m.partner (offer_view f)
    (Some (Entry entry))) (taken c.table p m.partner)) in y))
    is
    ∙ ap (λ (w : Behind). accepts_it accepting w m.partner p g c x k) (sym way_is))
    lines
accepts_ok source s new p found m way (Err given) accepting entry is arm way_is h = h
