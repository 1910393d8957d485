-- What each action comes to.
use Rattle.std.proofs.Common.{◌≡◌, ℕ, List, [], Option, None, Some, Ok, refl, sym, ap, ◌∙◌}
use Rattle.std.proofs.lemmas.List.{append-nil}
use Rattle.std.specs.Prelude.{option_map}
use Rattle.pfc_state.specs.Stands.{Is_ready}
use Rattle.pfc_program.specs.declared.tables.Tables.{Tables}
use Rattle.pfc_world.specs.Holders.{Held, held_in}
use Rattle.pfc_world.specs.Resources.{given_up, barred, passed_to, requeued}
use Rattle.pfc_world.specs.Tables.{Table, at}
use Rattle.pfc_semantics.specs.Programs.{Program}
use Rattle.pfc_semantics.specs.Remainders as remainders
use Rattle.pfc_semantics.specs.Remainders.{Remainder, Action}
use Rattle.pfc_semantics.specs.Rewriting.{going}
use Rattle.pfc_semantics.specs.Configurations.{Config, Effect}
use Rattle.pfc_semantics.specs.Resources.{scanned_all, scanned_to, passed_by}
use Rattle.pfc_semantics.specs.Steps.{effect}
use Rattle.pfc_pending.specs.declared.pending.Bar.{Bar}
use Rattle.pfc_pending.specs.declared.pending.Scan.{Scan}
use Rattle.pfc_pending.specs.declared.pending.Tried.{Tried}
use Rattle.pfc_pending.specs.declared.pending.Pending.TheVariants as pending
use Rattle.pfc_pending.specs.declared.actions.Deed.TheVariants as deed
use Rattle.pfc_pending.specs.declared.at_hand.At.TheVariants as at_hand
use Rattle.pfc_pending.specs.Waiting.{remainder_of, way_view, scan_view, tried_view}
use Rattle.pfc_activities.specs.declared.activities.Activity.{Activity}
use Rattle.pfc_activities.specs.declared.changes.Done.{Done}
use Rattle.pfc_activities.specs.declared.source.Source.{Source}
use Rattle.pfc_activities.specs.declared.state.State.{State}
use Rattle.pfc_activities.specs.Relation.{IsBefore, IsPerformed}
use Rattle.pfc_activities.specs.Views.{context_of, pending_of, deed_of}
use Rattle.pfc_waiting.specs.Waiting.{HasActed, GoesOnWhenReady}
use Rattle.pfc_guarding.specs.Barring.{WaitsBarred}
use Rattle.pfc_guarding.specs.Scanning.{GivesUp}
use Rattle.pfc_guarding.specs.Trying.{IsNext}
use Rattle.pfc_guarding.specs.Under.{GoesUnder}
use Rattle.pfc_guarding.proofs.Waits.{IsMid, other_resources, nobody_acts}
use Rattle.pfc_guarding.proofs.Trying.{next_is}

-- what is left to do behind the action
abbrev left : Tables → Activity → Remainder
left t a = remainder_of (pending_of t a.doing)

-- ## Turns of a scan

-- what a turn comes to, by whom it found
scan_is :
    (source : Source) (g : Program) (s : State) (c : Config) (p choice : ℕ) (a : Activity) (scan : Scan) (found : Option Tried)
    → IsBefore source s c p a (deed_of source.program.tables a.doing (deed.Scans scan)) → at s.world.rows p ≡ Is_ready
    → IsNext s scan.resource scan.after found
    → effect g c p choice (deed_of source.program.tables a.doing (deed.Scans scan))
    ≡ Ok (scanned_to g c p (context_of source.program.tables a.doing) (scan_view source.program.tables scan) (left source.program.tables a)
    (option_map (tried_view source.program.tables) found))
scan_is source g s c p choice a scan found before ready next =
    let t : Tables = source.program.tables in
    ap (λ (w : Option remainders.Tried).
    (let r : Effect = Ok (scanned_to g c p (context_of t a.doing) (scan_view t scan) (left t a) w) in r))
    (sym (next_is source g s c p scan.resource scan.after a (deed_of t a.doing (deed.Scans scan)) found before ready next))

pub tries_other :
    (s new : State) (p : ℕ) (scan : Scan) (tried : Tried) (d : Done)
    → at s.world.rows p ≡ Is_ready → IsNext s scan.resource scan.after (Some tried) → GoesUnder s new p (pending.TryOther tried scan) d
    → IsPerformed s new p (deed.Scans scan) [] d
tries_other s new p scan tried d ready next goes source g c choice a program is_at =
    goes source g c choice a (deed_of source.program.tables a.doing (deed.Scans scan)) is_at
    (scan_is source g s c p choice a scan (Some tried) is_at.before ready next) refl

pub tries_own :
    (s new : State) (p : ℕ) (scan : Scan) (bar : Bar) (d : Done)
    → at s.world.rows p ≡ Is_ready → IsNext s scan.resource scan.after None → scan.own ≡ Some bar → GoesUnder s new p (pending.TryGuard bar) d
    → IsPerformed s new p (deed.Scans scan) [] d
tries_own s new p scan bar d ready next own goes source g c choice a program is_at =
    let t : Tables = source.program.tables in
    goes source g c choice a (deed_of t a.doing (deed.Scans scan)) is_at
    (scan_is source g s c p choice a scan None is_at.before ready next
    ∙ ap (λ (w : Option Bar). (let r : Effect = Ok (scanned_all g c p (context_of t a.doing) (scan_view t scan) (left t a) (way_view t w)) in r)) own)
    refl

pub ends_scan :
    (s new : State) (p : ℕ) (scan : Scan) (d : Done)
    → at s.world.rows p ≡ Is_ready → IsNext s scan.resource scan.after None → scan.own ≡ None → GivesUp s new p scan.resource d
    → IsPerformed s new p (deed.Scans scan) [] d
ends_scan s new p scan d ready next own goes source g c choice a program is_at =
    let t : Tables = source.program.tables in
    goes source g c choice a (deed_of t a.doing (deed.Scans scan)) is_at
    (scan_is source g s c p choice a scan None is_at.before ready next
    ∙ ap (λ (w : Option Bar). (let r : Effect = Ok (scanned_all g c p (context_of t a.doing) (scan_view t scan) (left t a) (way_view t w)) in r)) own)
    refl

pub gives_up_so :
    (s mid new : State) (p r : ℕ) (d : Done)
    → IsMid s mid → HasActed s.world mid.world → held_in mid.world mid.resources ≡ given_up (held_in s.world s.resources) r
    → GoesOnWhenReady mid new p at_hand.Rest d → GivesUp s new p r d
gives_up_so s mid new p r d is acted rule goes source g c choice a n is_at e lines =
    let t : Tables = source.program.tables in
    let h : Held = given_up (held_in c.table c.resources) r in
    let k : Config = record c { table = h.table; resources = h.holders } in
    let agreed : held_in mid.world mid.resources ≡ h
    = rule ∙ ap (λ (x : Table). given_up (held_in x s.resources) r) is_at.before.agrees.table
    ∙ ap (λ (x : List (Option ℕ)). given_up (held_in c.table x) r) is_at.before.agrees.resources in
    goes source g c k choice a n (going (context_of t a.doing).env (left t a)) [] (other_resources source s mid c p a n h is_at.before is acted agreed)
    (nobody_acts s mid h acted agreed) is_at.quiet.sound e refl lines (sym (append-nil c.output))

-- ## A false guard

pub bars_so :
    (s mid new : State) (p : ℕ) (bar : Bar) (d : Done)
    → IsMid s mid → HasActed s.world mid.world
    → held_in mid.world mid.resources ≡ barred (held_in s.world s.resources) p bar.resource bar.procedure
    → WaitsBarred mid new p bar d → IsPerformed s new p (deed.Bars bar) [] d
bars_so s mid new p bar d is acted rule waits source g c choice a program is_at =
    let t : Tables = source.program.tables in
    let n : Action = deed_of t a.doing (deed.Bars bar) in
    let h : Held = barred (held_in c.table c.resources) p bar.resource bar.procedure in
    let k : Config = record c { table = h.table; resources = h.holders } in
    let agreed : held_in mid.world mid.resources ≡ h
    = rule ∙ ap (λ (x : Table). barred (held_in x s.resources) p bar.resource bar.procedure) is_at.before.agrees.table
    ∙ ap (λ (x : List (Option ℕ)). barred (held_in c.table x) p bar.resource bar.procedure) is_at.before.agrees.resources in
    waits source g c k choice a n (other_resources source s mid c p a n h is_at.before is acted agreed)
    (nobody_acts s mid h acted agreed) is_at.quiet.sound refl refl refl

-- ## A true guard

-- what it comes to, by what comes behind the scan
passed_is :
    (t : Tables) (g : Program) (c : Config) (p choice : ℕ) (a : Activity) (tried : Tried) (scan : Scan) (own : Option Bar)
    → scan.own ≡ own
    → effect g c p choice (deed_of t a.doing (deed.Passes tried scan))
    ≡ Ok (passed_by g c p (context_of t a.doing) (tried_view t tried) (left t a) scan.resource (way_view t own))
passed_is t g c p choice a tried scan own is =
    ap (λ (w : Option Bar).
    (let r : Effect = Ok (passed_by g c p (context_of t a.doing) (tried_view t tried) (left t a) scan.resource (way_view t w)) in r)) is

pub passes_so :
    (s mid new : State) (p : ℕ) (tried : Tried) (scan : Scan) (d : Done)
    → IsMid s mid → HasActed s.world mid.world → scan.own ≡ None
    → held_in mid.world mid.resources ≡ passed_to (held_in s.world s.resources) scan.resource tried.process
    → GoesOnWhenReady mid new p at_hand.Rest d → IsPerformed s new p (deed.Passes tried scan) [] d
passes_so s mid new p tried scan d is acted own rule goes source g c choice a program is_at =
    let t : Tables = source.program.tables in
    let n : Action = deed_of t a.doing (deed.Passes tried scan) in
    let h : Held = passed_to (held_in c.table c.resources) scan.resource tried.process in
    let k : Config = record c { table = h.table; resources = h.holders } in
    let agreed : held_in mid.world mid.resources ≡ h
    = rule ∙ ap (λ (x : Table). passed_to (held_in x s.resources) scan.resource tried.process) is_at.before.agrees.table
    ∙ ap (λ (x : List (Option ℕ)). passed_to (held_in c.table x) scan.resource tried.process) is_at.before.agrees.resources in
    goes source g c k choice a n (going (context_of t a.doing).env (left t a)) [] (other_resources source s mid c p a n h is_at.before is acted agreed)
    (nobody_acts s mid h acted agreed) is_at.quiet.sound (passed_is t g c p choice a tried scan None own) refl refl (sym (append-nil c.output))

pub requeues_so :
    (s mid new : State) (p : ℕ) (tried : Tried) (scan : Scan) (bar : Bar) (d : Done)
    → IsMid s mid → HasActed s.world mid.world → scan.own ≡ Some bar
    → held_in mid.world mid.resources ≡ requeued (held_in s.world s.resources) p scan.resource bar.procedure tried.process
    → WaitsBarred mid new p bar d → IsPerformed s new p (deed.Passes tried scan) [] d
requeues_so s mid new p tried scan bar d is acted own rule waits source g c choice a program is_at =
    let t : Tables = source.program.tables in
    let n : Action = deed_of t a.doing (deed.Passes tried scan) in
    let h : Held = requeued (held_in c.table c.resources) p scan.resource bar.procedure tried.process in
    let k : Config = record c { table = h.table; resources = h.holders } in
    let agreed : held_in mid.world mid.resources ≡ h
    = rule ∙ ap (λ (x : Table). requeued (held_in x s.resources) p scan.resource bar.procedure tried.process) is_at.before.agrees.table
    ∙ ap (λ (x : List (Option ℕ)). requeued (held_in c.table x) p scan.resource bar.procedure tried.process) is_at.before.agrees.resources in
    waits source g c k choice a n (other_resources source s mid c p a n h is_at.before is acted agreed)
    (nobody_acts s mid h acted agreed) is_at.quiet.sound (passed_is t g c p choice a tried scan (Some bar) own) refl refl
