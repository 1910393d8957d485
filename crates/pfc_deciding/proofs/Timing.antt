-- A select without a matched alternative, on both sides.
use Rattle.std.proofs.Common.{arith, ◌≡◌, ◌≢◌, ℕ, ◌+◌, ◌*◌, ◌<◌, Bool, true, false, List, [], ◌∷◌, length, set, get_or, Option, Some, None, Ok, Err, refl, sym}
use Rattle.std.proofs.Common.{ap, ◌∙◌, subst}
use Rattle.std.specs.Prelude.{◌==◌, nat_le, if◌then◌else◌, option_map, take}
use Rattle.std.proofs.lemmas.Bool.Decides.{nat_tests}
use Rattle.std.proofs.lemmas.List.{length-set}
use Rattle.pfc_base.specs.declared.faults.RunFault.TheVariants.{Late, Closed}
use Rattle.pfc_state.specs.declared.waits.Arm.{Arm}
use Rattle.pfc_state.specs.declared.waits.Why.TheVariants.{Select}
use Rattle.pfc_state.specs.Stands.{Waits}
use Rattle.pfc_world.specs.Selects.{select_waited}
use Rattle.pfc_world.specs.Tables.{Table}
use Rattle.pfc_world.specs.Tickets.{IsNew}
use Rattle.pfc_world.specs.Transitions.{begun, ticked}
use Rattle.pfc_program.specs.declared.tables.Tables.{Tables}
use Rattle.pfc_program.specs.declared.names.Names.{Names}
use Rattle.pfc_program.specs.Views.{names_view}
use Rattle.pfc_store.specs.Views.{store_view}
use Rattle.pfc_semantics.specs.Programs.{Program}
use Rattle.pfc_semantics.specs.Remainders as remainders
use Rattle.pfc_semantics.specs.Remainders.{Context, Remainder}
use Rattle.pfc_semantics.specs.Alternatives.{context}
use Rattle.pfc_semantics.specs.Selects.{latest, open_timeout, may_terminate_at, waits_until, waits_or_closed, times_out, goes_otherwise}
use Rattle.pfc_semantics.specs.Configurations as configurations
use Rattle.pfc_semantics.specs.Configurations.{Config, Effect, goes_on, showing, offering, with_table}
use Rattle.pfc_pending.specs.Selects.{opens_view, otherwise_view, select_view}
use Rattle.pfc_pending.specs.Waiting.{remainder_of, waiting}
use Rattle.pfc_pending.specs.declared.pending.Pending.{Pending}
use Rattle.pfc_pending.specs.declared.select.Open.{Open}
use Rattle.pfc_pending.specs.declared.select.Otherwise.{Otherwise}
use Rattle.pfc_pending.specs.declared.select.Selecting.{Selecting}
use Rattle.pfc_activities.specs.declared.activities.Activity.{Activity}
use Rattle.pfc_activities.specs.declared.changes.Done.{Done}
use Rattle.pfc_activities.specs.declared.changes.Done.TheVariants.{Stepped}
use Rattle.pfc_activities.specs.declared.source.Source.{Source}
use Rattle.pfc_activities.specs.declared.state.State.{State}
use Rattle.pfc_activities.specs.Relation.{IsIn, IsBefore, IsFault, IsKept}
use Rattle.pfc_activities.specs.Shown.{activity_shown}
use Rattle.pfc_activities.specs.Views.{context_of, pending_of, at_line}
use Rattle.pfc_meeting.specs.declared.offered.Delay.{Delay}
use Rattle.pfc_meeting.specs.Delays.{delay_view}
use Rattle.pfc_meeting.specs.Going.{left_of}
use Rattle.pfc_meeting.proofs.Both.{now_in}
use Rattle.pfc_messages.proofs.Showing.{shown_so}
use Rattle.pfc_deciding.specs.declared.own.Behind.{Behind}
use Rattle.pfc_deciding.specs.Coming.{ComesTo, IsOnWay, IsUnderWay, left_behind, on_behind}
use Rattle.pfc_deciding.specs.Matching.{AreArms}
use Rattle.pfc_deciding.specs.Waiting.{due_at, offers_all, ShowsAll, waits_in, waits_for_in, times_out_in, goes_otherwise_in}
use Rattle.pfc_deciding.proofs.Taking.{arms_here}

-- ## The process waits with all that is open

pub shows_all :
    (s mid new : State) (p : ℕ) (opens : List Open) (arms : List Arm) (kept : ℕ) (due : Option ℕ) (terminate : Bool)
    (items : List Activity) (found z : Activity)
    (line r : ℕ)
    → found ≡ get_or s.activities.items p found → ((t : Tables) → activity_shown t z ≡ offers_all t found opens kept)
    → ((y : Activity) → IsIn s.activities.items p y → line ≡ y.doing.line)
    → r ≡ p → terminate ≡ may_terminate_at (opens_view opens)
    → mid ≡ record s { store = mid.store; world = mid.world } → store_view mid.store ≡ store_view s.store
    → mid.world ≡ select_waited (begun s.world p) r arms due terminate → items ≡ set s.activities.items p z
    → ((y : Activity) → IsIn items p y → new.activities.items ≡ set items p (at_line y line))
    → IsKept mid new → new.world ≡ ticked mid.world → IsNew new.world.rows new.world.done → ShowsAll s new p opens arms kept due Stepped
shows_all s mid new p opens arms kept due terminate items found z line r is shows of_line same_process ends mid_is store world first last held ticks
    fresh source g c choice a n is_at e lines =
    let t : Tables = source.program.tables in
    let before : IsBefore source s c p a n = is_at.before in
    let table : Table = select_waited c.table p arms due (may_terminate_at (opens_view opens)) in
    let hand : configurations.Hand = offering (context_of t a.doing) (opens_view opens) (left_of t a kept) in
    let in_table : mid.world ≡ table
    = world ∙ ap (λ (i : ℕ). select_waited (begun s.world p) i arms due terminate) same_process
    ∙ ap (λ (b : Bool). select_waited s.world p arms due b) ends
    ∙ ap (λ (w : Table). select_waited w p arms due (may_terminate_at (opens_view opens))) before.agrees.table in
    shown_so source g s mid new c p choice a z n table hand items line is_at
    (shows t ∙ ap (λ (b : Activity). offers_all t b opens kept) (is ∙ before.there.is found)) e (lines ∙
    sym (of_line a before.there)) mid_is store in_table refl
    (length-set c.table.rows p (Waits (Select due (may_terminate_at (opens_view opens))) (c.table.done + 1) arms)) first
    (last z (subst (λ (l : List Activity). IsIn l p z) (sym first) (now_in s.activities.items p a z before.there))) held ticks fresh

-- ## Nothing is due

no_open : (g : Program) (c : Config) (p : ℕ) (x : Context) (sv : remainders.Selecting) (k : Remainder) (l : List Open) → 0 < length l
    → waits_or_closed g c p x sv k None (opens_view l) ≡ Ok (waits_until g c p x sv k None k)
no_open g c p x sv k [] h = absurd (omega arith)
no_open g c p x sv k (o ∷ os) h = refl

pub closes_so :
    (s new : State) (p : ℕ) (select : Selecting) (d : Done)
    → select.offered.items ≡ [] → IsFault s new p Closed d → (source : Source) → ComesTo source s new p (waits_in select p) d
closes_so s new p select d none fault source g c choice a n program is_at e lines =
    fault source g c choice a n is_at
    (e ∙ ap
    (λ (l : List Open). waits_or_closed g c p (context_of source.program.tables a.doing) (select_view select)
    (remainder_of (pending_of source.program.tables a.doing)) None (opens_view l))
    none)
    lines

pub waits_so :
    (s new : State) (p : ℕ) (select : Selecting) (arms : List Arm) (kept : ℕ) (d : Done)
    → 0 < length select.offered.items → AreArms s p select.offered.items arms
    → ((a : Activity) → IsIn s.activities.items p a → take kept a.doing.pending.items ≡ a.doing.pending.items)
    → ShowsAll s new p select.offered.items arms kept None d → (source : Source) → ComesTo source s new p (waits_in select p) d
waits_so s new p select arms kept d some are all shows source g c choice a n program is_at e lines =
    let t : Tables = source.program.tables in
    let x : Context = context_of t a.doing in
    let k : Remainder = remainder_of (pending_of t a.doing) in
    let os : List remainders.Open = opens_view select.offered.items in
    shows source g c choice a n is_at
    (e ∙ no_open g c p x (select_view select) k select.offered.items some
    ∙ ap (λ (l : List Arm). (let r : Effect =
    Ok (with_table (showing g (goes_on g c p x k) p (offering x os k)) (select_waited c.table p l None (may_terminate_at os))) in r))
    (arms_here source g s c p a n select.offered.items arms is_at are)
    ∙ ap (λ (l : List Pending). (let r : Effect =
    Ok (with_table (showing g (goes_on g c p x k) p (offering x os (remainder_of (waiting t l))))
    (select_waited c.table p arms None (may_terminate_at os))) in r))
    (sym (all a is_at.before.there)))
    lines

-- ## A moment is due

not_due : {A : Type 0} → (b : Bool) (y : ℕ) (one other : A) → None ≡ (if b then Some y else None) → (if b then one else other) ≡ other
not_due true y one other h = absurd cc
not_due false y one other h = refl

is_due : (b : Bool) (y due : ℕ) (f : ℕ → Effect) (other : Effect) → Some due ≡ (if b then Some y else None) → (if b then f y else other) ≡ f due
is_due true y due f other h = ap f cc
is_due false y due f other h = absurd cc

pub late_so :
    (s new : State) (p : ℕ) (select : Selecting) (seconds : ℕ) (way : Behind) (d : Done)
    → None ≡ due_at s.world.moment seconds → IsFault s new p Late d → (source : Source) → ComesTo source s new p (waits_for_in select seconds way p) d
late_so s new p select seconds way d past fault source g c choice a n program is_at e lines =
    let x : Context = context_of source.program.tables a.doing in
    let k : Remainder = remainder_of (pending_of source.program.tables a.doing) in
    let due : ℕ = c.table.moment + 1000 * seconds in
    let stop : Effect = Err Late in
    fault source g c choice a n is_at
    (e ∙ not_due (nat_le due latest) due (let r : Effect = Ok (waits_until g c p x (select_view select) k (Some due) (left_behind way k)) in r) stop
    (past ∙ ap (λ (w : Table). due_at w.moment seconds) is_at.before.agrees.table))
    lines

pub waits_for_so :
    (s mid new : State) (p : ℕ) (select : Selecting) (arms : List Arm) (kept seconds due : ℕ) (way : Behind) (d : Done)
    → AreArms s p select.offered.items arms → ((a : Activity) → IsIn s.activities.items p a → kept ≡ length a.doing.pending.items)
    → Some due ≡ due_at s.world.moment seconds → IsUnderWay s mid p way → ShowsAll mid new p select.offered.items arms kept (Some due) d
    → (source : Source) → ComesTo source s new p (waits_for_in select seconds way p) d
waits_for_so s mid new p select arms kept seconds due way d are many found goes shows source g c choice a n program is_at e lines =
    let t : Tables = source.program.tables in
    let x : Context = context_of t a.doing in
    let k : Remainder = remainder_of (pending_of t a.doing) in
    let os : List remainders.Open = opens_view select.offered.items in
    let end : Bool = may_terminate_at os in
    let moment : ℕ = c.table.moment + 1000 * seconds in
    let stop : Effect = Err Late in
    let own : (b : Activity) × IsOnWay source mid c p a b n way = goes.same source c a n is_at in
    let b : Activity = own.0 in
    let y : Context = context_of t b.doing in
    let later : Remainder = remainder_of (pending_of t b.doing) in
    let same : x ≡ y
    = ap (λ (m : Names). context (names_view t m) a.doing.line) (sym own.1.names)
    ∙ ap (λ (l : ℕ). context (names_view t b.doing.names) l) (sym own.1.line) in
    let below : k ≡ left_of t b kept
    = ap (λ (l : List Pending). remainder_of (waiting t l)) (sym own.1.below)
    ∙ ap (λ j. left_of t b j) (sym (many a is_at.before.there)) in
    shows source g c choice b n own.1.at
    (e
    ∙ is_due (nat_le moment latest) moment due (λ j. Ok (waits_until g c p x (select_view select) k (Some j) (left_behind way k))) stop
    (found ∙ ap (λ (w : Table). due_at w.moment seconds) is_at.before.agrees.table)
    ∙ ap (λ (l : List Arm). (let r : Effect =
    Ok (with_table (showing g (goes_on g c p x (left_behind way k)) p (offering x os k)) (select_waited c.table p l (Some due) end)) in r))
    (arms_here source g s c p a n select.offered.items arms is_at are)
    ∙ ap (λ (l : Remainder). (let r : Effect =
    Ok (with_table (showing g (goes_on g c p x l) p (offering x os k)) (select_waited c.table p arms (Some due) end)) in r)) (sym own.1.left)
    ∙ ap (λ (l : Remainder). (let r : Effect =
    Ok (with_table (showing g (goes_on g c p x later) p (offering x os l)) (select_waited c.table p arms (Some due) end)) in r)) below
    ∙ ap (λ (z : Context). (let r : Effect =
    Ok (with_table (showing g (goes_on g c p z later) p (offering z os (left_of t b kept))) (select_waited c.table p arms (Some due) end)) in r)) same)
    (lines ∙ sym own.1.line)

-- ## The steps one after the other

pub comes_as :
    (source : Source) (s new : State) (p : ℕ) (what other : Program → Config → Context → Remainder → Effect) (d : Done)
    → ((g : Program) (c : Config) (x : Context) (k : Remainder) → other g c x k ≡ what g c x k) → ComesTo source s new p what d → ComesTo source s new p other d
comes_as source s new p what other d same comes g c choice a n program is_at e lines =
    comes g c choice a n program is_at (e ∙ same g c (context_of source.program.tables a.doing) (remainder_of (pending_of source.program.tables a.doing))) lines

at_zero : {A : Type 0} → (n : ℕ) (one other : A) → n ≡ 0 → (if n == 0 then one else other) ≡ one
at_zero n one other h = ap (λ (k : ℕ). if k == 0 then one else other) h

at_some : {A : Type 0} → (n : ℕ) (one other : A) → n ≢ 0 → (if n == 0 then one else other) ≡ other
at_some n one other h =
    let test : (n == 0) ≡ false = grind (arith, nat_tests) in ap (λ (b : Bool). if b then one else other) test

pub no_timeout :
    (s new : State) (p : ℕ) (select : Selecting) (d : Done)
    → open_timeout (opens_view select.offered.items) ≡ None → ((source : Source) → ComesTo source s new p (waits_in select p) d)
    → (source : Source) → ComesTo source s new p (times_out_in select p) d
no_timeout s new p select d none comes source =
    comes_as source s new p (waits_in select p) (times_out_in select p) d (λ g c x k. ap (times_out g c p x (select_view select) k) none) (comes source)

pub timeout_now :
    (s new : State) (p : ℕ) (select : Selecting) (delay : Delay) (way : Behind) (d : Done)
    → open_timeout (opens_view select.offered.items) ≡ Some (delay_view delay) → delay.seconds ≡ 0
    → way ≡ record { replica = delay.at.now.replica; next = delay.at.now.next; stmts = delay.at.now.stmts }
    → ((source : Source) → ComesTo source s new p (on_behind way p) d) → (source : Source) → ComesTo source s new p (times_out_in select p) d
timeout_now s new p select delay way d some zero_seconds way_is comes source =
    let now : Behind = record { replica = delay.at.now.replica; next = delay.at.now.next; stmts = delay.at.now.stmts } in
    comes_as source s new p (on_behind way p) (times_out_in select p) d
    (λ g c x k.
    ap (times_out g c p x (select_view select) k) some
    ∙ at_zero delay.seconds (on_behind now p g c x k) (waits_for_in select delay.seconds now p g c x k) zero_seconds
    ∙ ap (λ (w : Behind). on_behind w p g c x k) (sym way_is))
    (comes source)

pub timeout_later :
    (s new : State) (p : ℕ) (select : Selecting) (delay : Delay) (way : Behind) (d : Done)
    → open_timeout (opens_view select.offered.items) ≡ Some (delay_view delay) → delay.seconds ≢ 0
    → way ≡ record { replica = delay.at.now.replica; next = delay.at.now.next; stmts = delay.at.now.stmts }
    → ((source : Source) → ComesTo source s new p (waits_for_in select delay.seconds way p) d) → (source : Source) →
    ComesTo source s new p (times_out_in select p) d
timeout_later s new p select delay way d some seconds way_is comes source =
    let now : Behind = record { replica = delay.at.now.replica; next = delay.at.now.next; stmts = delay.at.now.stmts } in
    comes_as source s new p (waits_for_in select delay.seconds way p) (times_out_in select p) d
    (λ g c x k.
    ap (times_out g c p x (select_view select) k) some
    ∙ at_some delay.seconds (on_behind now p g c x k) (waits_for_in select delay.seconds now p g c x k) seconds
    ∙ ap (λ (w : Behind). waits_for_in select delay.seconds w p g c x k) (sym way_is))
    (comes source)

pub otherwise_so :
    (s new : State) (p : ℕ) (select : Selecting) (other : Otherwise) (way : Behind) (d : Done)
    → select.otherwise ≡ Some other → way ≡ record { replica = None; next = other.next; stmts = other.stmts }
    → ((source : Source) → ComesTo source s new p (on_behind way p) d) → (source : Source) → ComesTo source s new p (goes_otherwise_in select p) d
otherwise_so s new p select other way d is way_is comes source =
    comes_as source s new p (on_behind way p) (goes_otherwise_in select p) d
    (λ g c x k.
    ap (λ (o : Option Otherwise). goes_otherwise g c p x (select_view select) k (option_map otherwise_view o)) is
    ∙ ap (λ (w : Behind). on_behind w p g c x k) (sym way_is))
    (comes source)

pub no_otherwise :
    (s new : State) (p : ℕ) (select : Selecting) (d : Done)
    → select.otherwise ≡ None → ((source : Source) → ComesTo source s new p (times_out_in select p) d)
    → (source : Source) → ComesTo source s new p (goes_otherwise_in select p) d
no_otherwise s new p select d is comes source =
    comes_as source s new p (times_out_in select p) (goes_otherwise_in select p) d
    (λ g c x k. ap (λ (o : Option Otherwise). goes_otherwise g c p x (select_view select) k (option_map otherwise_view o)) is) (comes source)

-- whether something is open
pub nothing_open : (l : List Open) (n : ℕ) (b : Bool) → b ≡ (n == 0) → b ≡ true → n ≡ length l → l ≡ []
nothing_open [] n b h t e = refl
nothing_open (o ∷ os) n b h t e = let z : n ≡ 0 = grind (arith, nat_tests) in absurd (omega arith)

pub something_open : (l : List Open) (n : ℕ) (b : Bool) → b ≡ (n == 0) → b ≡ false → n ≡ length l → 0 < length l
something_open l n b h f e = let z : n ≢ 0 = grind (arith, nat_tests) in omega arith
