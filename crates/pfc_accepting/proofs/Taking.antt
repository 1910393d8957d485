-- A meeting begins, on both sides, and a process waits.
use Rattle.std.proofs.Common.{◌≡◌, ◌≢◌, ℕ, ◌+◌, ◌<◌, List, [], length, set, get_or, Ok, refl, sym, ap, ◌∙◌, subst}
use Rattle.std.specs.Prelude.{option_map}
use Rattle.std.proofs.lemmas.List.{append-nil, set-set, get_or-set_same, get_or-set_other, length-set}
use Rattle.pfc_tree.specs.trees.Stmts.{StmtTree, no_stmts, more_stmts}
use Rattle.pfc_types.specs.rules.Expressions.{Env}
use Rattle.pfc_types.specs.rules.Statements.{within_accept}
use Rattle.pfc_world.specs.Tickets.{IsNew}
use Rattle.pfc_world.specs.Transitions.{ticked}
use Rattle.pfc_program.specs.InView.{InView}
use Rattle.pfc_program.specs.declared.tables.Tables.{Tables}
use Rattle.pfc_program.specs.Views.{names_view}
use Rattle.pfc_store.specs.Views.{store_view, values_view}
use Rattle.pfc_store.specs.Frames.{frame_view}
use Rattle.pfc_store.specs.declared.displays.Frame.{Frame as HeldFrame}
use Rattle.pfc_store.specs.declared.values.Value.{Value as HeldValue}
use Rattle.pfc_semantics.specs.Values.{Value}
use Rattle.pfc_semantics.specs.Store.{Store, values_in, with_values}
use Rattle.pfc_semantics.specs.Displays.{Frame, Display, frame_of}
use Rattle.pfc_semantics.specs.Remainders as remainders
use Rattle.pfc_semantics.specs.Remainders.{Context, Remainder, perform, in_names, part_from}
use Rattle.pfc_semantics.specs.Alternatives.{context}
use Rattle.pfc_semantics.specs.Rewriting.{Doing, going, next, from_remainder}
use Rattle.pfc_semantics.specs.Channels.{behind_replica}
use Rattle.pfc_semantics.specs.Statements.{behind}
use Rattle.pfc_semantics.specs.Rendezvous.{meeting_of, asked, taken_from, parameters_taken}
use Rattle.pfc_semantics.specs.Configurations as configurations
use Rattle.pfc_semantics.specs.Configurations.{Config, activity_of, nobody, goes_on, done_at, with_activity, empty_hand}
use Rattle.pfc_pending.specs.Selects.{accepting_view, replica_view, stmt_of}
use Rattle.pfc_pending.specs.Texts.{stmts_left, stmt_at}
use Rattle.pfc_pending.specs.Waiting.{remainder_of}
use Rattle.pfc_pending.specs.declared.at_hand.At.{At}
use Rattle.pfc_pending.specs.declared.at_hand.At.TheVariants as at
use Rattle.pfc_pending.specs.declared.select.Accepting.{Accepting}
use Rattle.pfc_activities.specs.declared.activities.Activity.{Activity}
use Rattle.pfc_activities.specs.declared.activities.Doing.{Doing as HeldDoing}
use Rattle.pfc_activities.specs.declared.changes.Done.TheVariants.{Stepped}
use Rattle.pfc_activities.specs.declared.hands.Hand.{Hand}
use Rattle.pfc_activities.specs.declared.hands.Hand.TheVariants as hand
use Rattle.pfc_activities.specs.declared.state.State.{State}
use Rattle.pfc_activities.specs.Relation.{IsIn, IsKept, Stands}
use Rattle.pfc_activities.specs.Shown.{Shown, shown, activity_shown}
use Rattle.pfc_activities.specs.Views.{context_of, pending_of, hand_view, at_work, at_line}
use Rattle.pfc_activities.proofs.Acting.{acting_is, display_is, here, stands_so, ends_so}
use Rattle.pfc_meeting.specs.declared.onward.Onward.{Onward}
use Rattle.pfc_meeting.specs.Going.{left_of}
use Rattle.pfc_meeting.proofs.Both.{other_is, kept_in, now_in}
use Rattle.pfc_accepting.specs.declared.meetings.Meeting.{Meeting}
use Rattle.pfc_accepting.specs.Meetings.{opened, IsMeetingAt, in_meeting, without_hand, parameters_in}
use Rattle.pfc_accepting.specs.States.{IsBegun}
use Rattle.pfc_accepting.specs.Acting.{IsTaken, IsMet, IsShown}
use Rattle.pfc_accepting.proofs.Pairs.{there_is, both_end}

-- ## In the meeting

-- by its parts
abbrev meeting_by : Tables → ℕ → Onward → Env → ℕ → StmtTree → ℕ → InView → Remainder → Remainder
meeting_by t caller way inner n stmt line outer k =
    behind_replica (option_map replica_view way.replica)
    (in_names inner
    (perform n (more_stmts stmt no_stmts) (part_from caller line (in_names (names_view t outer) (behind way.next (stmts_left way.stmts) k)))))

-- what is pending in it is what the definitions say
meeting_is :
    (t : Tables) (names : InView) (accepting : Accepting) (way : Onward) (m : Meeting) (offer : remainders.Offer) (line caller : ℕ) (k : Remainder)
    → IsMeetingAt t names accepting way m
    → in_meeting t m caller k ≡ meeting_of (context (names_view t names) line) (accepting_view accepting) (opened offer way) caller k
meeting_is t names accepting way m offer line caller k is =
    ap (λ (w : Onward). meeting_by t caller w (names_view t m.inner) m.next (stmt_at m.stmt) m.line m.outer k) is.goes
    ∙ ap (λ (e : Env). meeting_by t caller way e m.next (stmt_at m.stmt) m.line m.outer k) is.inner
    ∙ ap (λ (n : ℕ). meeting_by t caller way (within_accept (names_view t names) accepting.scope) n (stmt_at m.stmt) m.line m.outer k) is.next
    ∙ ap (λ (s : StmtTree). meeting_by t caller way (within_accept (names_view t names) accepting.scope) (accepting.scope + 1) s m.line m.outer k) is.stmt
    ∙ ap (λ (l : ℕ). meeting_by t caller way (within_accept (names_view t names) accepting.scope) (accepting.scope + 1)
    (stmt_of accepting.stmt) l m.outer k) is.line
    ∙ ap (λ (i : InView). meeting_by t caller way (within_accept (names_view t names) accepting.scope) (accepting.scope + 1)
    (stmt_of accepting.stmt) accepting.line i k) is.outer

-- with what is left behind it
meeting_left :
    (t : Tables) (b : Activity) (accepting : Accepting) (way : Onward) (m : Meeting) (offer : remainders.Offer) (line caller : ℕ)
    → IsMeetingAt t b.doing.names accepting way m
    → in_meeting t m caller (left_of t b m.way.kept)
    ≡ meeting_of (context (names_view t b.doing.names) line) (accepting_view accepting) (opened offer way) caller (left_of t b way.kept)
meeting_left t b accepting way m offer line caller is =
    ap (λ (w : Onward). in_meeting t m caller (left_of t b w.kept)) is.goes
    ∙ meeting_is t b.doing.names accepting way m offer line caller (left_of t b way.kept) is

-- the accept's parameters
parameters_are :
    (store later : Store) (display other : Display) (scope i : ℕ) (args values : List Value)
    → store ≡ later → display ≡ other → scope ≡ i → args ≡ values → parameters_in store display scope args ≡ parameters_in later other i values
parameters_are store later display other scope i args values s d n v =
    ap (λ (x : Store). parameters_in x display scope args) s ∙ ap (λ (x : Display). parameters_in later x scope args) d
    ∙ ap (λ (x : ℕ). parameters_in later other x args) n ∙ ap (parameters_in later other i) v

pub begun_store :
    (store later : Store) (found b : Activity) (scope : ℕ) (f : HeldFrame) (args : List Value)
    → later ≡ with_values store f.activation (taken_from f.first args (values_in store f.activation)) → frame_view f ≡ frame_of found.display scope → found ≡ b
    → later ≡ parameters_in store b.display scope args
begun_store store later found b scope f args taken is same =
    taken
    ∙ ap (λ (x : Frame). with_values store x.activation (taken_from x.first args (values_in store x.activation)))
    (is ∙ ap (λ (x : Activity). frame_of x.display scope) same)

-- ## The process that acts takes a caller

pub taken_so :
    (s emptied mid new : State) (p caller : ℕ) (args : List HeldValue) (m : Meeting) (found z : Activity) (line : ℕ)
    → caller ≢ p → caller < length s.activities.items → found ≡ get_or s.activities.items caller found
    → ((t : Tables) → values_view args ≡ asked (hand_view t found.doing found.hand)) → ((t : Tables) → activity_shown t z ≡ without_hand t found)
    → emptied ≡ record s { activities = emptied.activities } → emptied.activities.items ≡ set s.activities.items caller z
    → IsBegun emptied mid p caller args m
    → ((y : Activity) → IsIn s.activities.items p y → line ≡ y.doing.line)
    → ((y : Activity) → IsIn mid.activities.items p y → new.activities.items ≡ set mid.activities.items p (at_line y line))
    → IsKept mid new → new.world ≡ ticked mid.world → IsNew new.world.rows new.world.done → IsTaken s new p caller m Stepped
taken_so s emptied mid new p caller args m found z line other within is given shows emptied_is items begun of_line last kept ticks fresh source g c k choice a n
    accepting way offer before acting sound at_meeting e lines output =
    let t : Tables = source.program.tables in
    let ys : List Activity = s.activities.items in
    let x : Context = context_of t a.doing in
    let back : p ≢ caller = λ h. other (sym h) in
    let there : IsIn ys caller found = there_is ys caller found within is in
    let in_emptied : IsIn emptied.activities.items p a
    = subst (λ (l : List Activity). IsIn l p a) (sym items) (kept_in ys p caller a z back before.there) in
    let seen : shown (activity_of g k caller) ≡ activity_shown t found = other_is source g s k p caller a found n before other there in
    let values : List Value = asked (activity_of g k caller).hand in
    let doing : Doing = going x.env (meeting_of x (accepting_view accepting) (opened offer way) caller (left_of t a way.kept)) in
    let w : configurations.Activity = configurations.at_work (activity_of g k p) doing in
    let v : configurations.Activity = record (get_or (set k.activities p w) caller (nobody g)) { hand = empty_hand } in
    let store : Store = (parameters_taken g k p (accepting_view accepting) values).store in
    let acts : shown w ≡ activity_shown t begun.now
    = ap (λ (b : Shown). (let r : Shown = record b { next = next doing; hand = empty_hand } in r)) (acting_is source g s k p a n before)
    ∙ ap (λ (j : Remainder). (let r : Shown = record (activity_shown t a) { next = from_remainder x.env j; hand = empty_hand } in r))
    (sym (meeting_left t a accepting way m offer a.doing.line caller at_meeting))
    ∙ sym (begun.shows t a in_emptied) in
    let nothing : shown v ≡ activity_shown t z
    = ap (λ (b : configurations.Activity). (let r : Shown = record (shown b) { hand = empty_hand } in r))
    (get_or-set_other k.activities p caller w (nobody g) other)
    ∙ ap (λ (b : Shown). (let r : Shown = record b { hand = empty_hand } in r)) seen ∙ sym (shows t) in
    let stored : store_view mid.store ≡ store
    = begun.store a in_emptied
    ∙ parameters_are (store_view emptied.store) k.store a.display (activity_of g k p).display m.scope accepting.scope (values_view args) values
    (ap (λ (b : State). store_view b.store) emptied_is ∙ before.agrees.store) (sym (display_is source g s k p a n before)) at_meeting.scope
    (given t ∙ ap (λ (b : Shown). asked b.hand) (sym seen)) in
    let mid_is : mid ≡ record s { activities = mid.activities; store = mid.store }
    = begun.rest ∙ ap (λ (b : State). (let r : State = record b { activities = mid.activities; store = mid.store } in r)) emptied_is in
    both_end source g s mid new c k store p caller choice a begun.now z mid.activities.items n w v line before acting sound other acts nothing mid_is
    (ap length begun.items ∙ length-set emptied.activities.items p begun.now ∙ ap length items ∙ length-set ys caller z) stored
    (begun.items ∙ ap (λ (l : List Activity). set l p begun.now) items) last kept ticks fresh e (of_line a before.there) lines output

-- ## The process that acts is taken by the owner of an entry

pub met_so :
    (s mid new : State) (p q : ℕ) (values : List HeldValue) (m : Meeting) (all : List Activity) (line : ℕ)
    → q ≢ p → IsBegun s mid q p values m
    → ((y : Activity) → IsIn s.activities.items p y → line ≡ y.doing.line)
    → ((y : Activity) → IsIn mid.activities.items p y → all ≡ set mid.activities.items p (at_work y at.Rest))
    → ((y : Activity) → IsIn all p y → new.activities.items ≡ set all p (at_line y line))
    → IsKept mid new → new.world ≡ ticked mid.world → IsNew new.world.rows new.world.done → IsMet s new p q values m Stepped
met_so s mid new p q values m all line other begun of_line then_so last kept ticks fresh source g c k choice a b n accepting way offer line_there before acting
    sound there at_meeting e lines output =
    let t : Tables = source.program.tables in
    let ys : List Activity = s.activities.items in
    let x : Context = context_of t a.doing in
    let y : Context = context (names_view t b.doing.names) line_there in
    let back : p ≢ q = λ h. other (sym h) in
    let in_mid : IsIn mid.activities.items p a = subst (λ (l : List Activity). IsIn l p a) (sym begun.items) (kept_in ys p q a begun.now back before.there) in
    let rest : Remainder = remainder_of (pending_of t a.doing) in
    let doing : Doing = going y.env (meeting_of y (accepting_view accepting) (opened offer way) p (left_of t b way.kept)) in
    let w : configurations.Activity = configurations.at_work (activity_of g k p) (going x.env rest) in
    let partner : configurations.Activity = get_or (set k.activities p w) q (nobody g) in
    let v : configurations.Activity = configurations.at_work partner doing in
    let k1 : Config = goes_on g k p x rest in
    let store : Store = (parameters_taken g k1 q (accepting_view accepting) (values_view values)).store in
    let seen : shown partner ≡ activity_shown t b
    = ap shown (get_or-set_other k.activities p q w (nobody g) other) ∙ other_is source g s k p q a b n before other there in
    let acts : shown w ≡ activity_shown t (at_work a at.Rest)
    = ap (λ (z : Shown). (let r : Shown = record z { next = from_remainder x.env rest; hand = empty_hand } in r)) (acting_is source g s k p a n before) in
    let meets : shown v ≡ activity_shown t begun.now
    = ap (λ (z : Shown). (let r : Shown = record z { next = next doing; hand = empty_hand } in r)) seen
    ∙ ap (λ (j : Remainder). (let r : Shown = record (activity_shown t b) { next = from_remainder y.env j; hand = empty_hand } in r))
    (sym (meeting_left t b accepting way m offer line_there p at_meeting))
    ∙ sym (begun.shows t b there) in
    let stored : store_view mid.store ≡ store
    = begun.store b there
    ∙ parameters_are (store_view s.store) k.store b.display partner.display m.scope accepting.scope (values_view values) (values_view values)
    before.agrees.store (sym (ap (λ (z : Shown). z.display) seen)) at_meeting.scope refl in
    both_end source g s mid new c k store p q choice a (at_work a at.Rest) begun.now all n w v line before acting sound other acts meets begun.rest
    (ap length begun.items ∙ length-set ys q begun.now) stored
    (then_so a in_mid ∙ ap (λ (l : List Activity). set l p (at_work a at.Rest)) begun.items) last kept ticks fresh e (of_line a before.there) lines output

-- ## A process that waits

-- what it shows is seen by its names and by what is pending
pub hand_still : (t : Tables) (d : HeldDoing) (at : At) (h : Hand) → hand_view t (record d { at = at }) h ≡ hand_view t d h
hand_still t d at hand.Empty = refl
hand_still t d at (hand.Offering o) = refl
hand_still t d at (hand.Asking args) = refl
hand_still t d at (hand.Barred b) = refl

pub shown_so :
    (s new : State) (p : ℕ) (hand : Hand) (found z : Activity) (all : List Activity) (line : ℕ)
    → found ≡ get_or s.activities.items p found
    → ((t : Tables) → activity_shown t z ≡ record (activity_shown t (at_work found at.Rest)) { hand = hand_view t found.doing hand })
    → all ≡ set s.activities.items p z
    → ((y : Activity) → IsIn s.activities.items p y → line ≡ y.doing.line)
    → ((y : Activity) → IsIn all p y → new.activities.items ≡ set all p (at_line y line))
    → IsKept s new → new.world ≡ ticked s.world → IsNew new.world.rows new.world.done → IsShown s new p hand Stepped
shown_so s new p hand found z all line is shows items of_line last kept ticks fresh source g c k choice a n before acting sound e lines output =
    let t : Tables = source.program.tables in
    let ys : List Activity = s.activities.items in
    let x : Context = context_of t a.doing in
    let rest : Remainder = remainder_of (pending_of t a.doing) in
    let seen : configurations.Hand = hand_view t a.doing hand in
    let w : configurations.Activity = configurations.at_work (activity_of g k p) (going x.env rest) in
    let v : configurations.Activity = record (get_or (set k.activities p w) p (nobody g)) { hand = seen } in
    let same : found ≡ a = is ∙ before.there.is found in
    let there : IsIn all p z = subst (λ (l : List Activity). IsIn l p z) (sym items) (now_in ys p a z before.there) in
    let acts : shown (record v { line = line }) ≡ activity_shown t (at_line z line)
    = ap (λ (b : configurations.Activity). (let r : Shown = record (shown b) { hand = seen; line = line } in r))
    (get_or-set_same k.activities p w (nobody g) (here source g s k p a n before))
    ∙ ap (λ (b : Shown). (let r : Shown = record b { next = from_remainder x.env rest; hand = seen; line = line } in r)) (acting_is source g s k p a n before)
    ∙ ap (λ (b : Activity). (let r : Shown = record (activity_shown t (at_work b at.Rest)) { hand = hand_view t b.doing hand; line = line } in r)) (sym same)
    ∙ ap (λ (b : Shown). (let r : Shown = record b { line = line } in r)) (sym (shows t)) in
    ends_so source g new c (with_activity k p v) p choice n []
    (e ∙ ap (λ (l : List configurations.Activity). (let d : Config = record k { activities = l } in Ok d)) (set-set k.activities p w v))
    (subst (λ (l : ℕ). Stands source new (done_at g (with_activity k p v) p l)) (of_line a before.there ∙ sym lines)
    (stands_so source g s new k p a (at_line z line) n v line before acting sound acts
    (last z there ∙ ap (λ (l : List Activity). set l p (at_line z line)) items ∙ set-set ys p z (at_line z line)) kept ticks fresh))
    (output ∙ sym (append-nil c.output))
