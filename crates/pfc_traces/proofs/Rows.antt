-- No change of the table makes a process or loses one.
use Rattle.std.proofs.Common.{◌≡◌, ℕ, suc, ◌+◌, Bool, true, false, List, [], ◌∷◌, length, Option, Some, None, refl, ap, ◌∙◌}
use Rattle.std.specs.Prelude.{ℤ, ◌==◌, ◌-◌, if◌then◌else◌, slice_get}
use Rattle.std.proofs.lemmas.List.{length-set, length-map}
use Rattle.pfc_state.specs.declared.waits.Arm.{Arm}
use Rattle.pfc_state.specs.declared.waits.Arm.TheVariants.{Send as To, Receive as From, Accept as Entry}
use Rattle.pfc_state.specs.declared.waits.Why.{Why}
use Rattle.pfc_state.specs.declared.waits.Why.TheVariants.{Send, Receive, Call, Accept, Meeting, Semaphore, Enter, Condition, Resumer, Entrant, Barred}
use Rattle.pfc_state.specs.Stands.{Stand, Is_ready, Is_done, Waits, started, woken}
use Rattle.pfc_world.specs.Tables.{Table, some_ready}
use Rattle.pfc_world.specs.Transitions.{placed, blocked, is_released, released, rested, finished, all_started}
use Rattle.pfc_world.specs.Channels.{passed_with}
use Rattle.pfc_world.specs.Holders.{Held, holder_in, given_to}
use Rattle.pfc_world.specs.Monitors.{entered_where, entered, handed_over, delayed, resumed_with, resumed}
use Rattle.pfc_world.specs.Partners.{receiver, sender, caller, partner, is_accepting, semaphore_waiter, next_holder, next_entrant, condition_waiter}
use Rattle.pfc_world.specs.Rendezvous.{called, accepted_with}
use Rattle.pfc_world.specs.Resources.{resource_entered_where, resource_entered, given_up, barred, requeued}
use Rattle.pfc_world.specs.Selects.{matched, communicated_with, committed_to, committed_at, committed}
use Rattle.pfc_world.specs.Semaphores.{Counted, count_of, counting, waited, signalled_to, signalled}
use Rattle.pfc_world.specs.Settling.{earliest, woken_now, moved_to, settled, may_all_end}
use Rattle.pfc_world.specs.Terminating.{terminated_child, over_children, terminated, terminated_where, wholly_settled}
use Rattle.pfc_semantics.specs.Selects.{plainly}

-- as many processes in both
abbrev pub SameRows : Table → Table → Type 0
SameRows old new = length new.rows ≡ length old.rows

pub either_rows : (w : Table) (b : Bool) (u v : Table) → SameRows w u → SameRows w v → (let x : Table = if b then u else v in SameRows w x)
either_rows w true u v first second = first
either_rows w false u v first second = second

pub placed_rows : (w : Table) (p : ℕ) (stand : Stand) → SameRows w (placed w p stand)
placed_rows w p stand = length-set w.rows p stand

pub blocked_rows : (w : Table) (p : ℕ) (why : Why) (arms : List Arm) → SameRows w (blocked w p why arms)
blocked_rows w p why arms = length-set w.rows p (Waits why (w.done + 1) arms)

pub started_rows : (w : Table) → SameRows w (all_started w)
started_rows w = length-map w.rows started

released_rows : (w : Table) → SameRows w (released w)
released_rows w = either_rows w (is_released w.rows) (placed w 0 Is_ready) w (placed_rows w 0 Is_ready) refl

pub finished_rows : (w : Table) (p : ℕ) → SameRows w (finished w p)
finished_rows w p = released_rows (rested (placed w p Is_done)) ∙ placed_rows w p Is_done

-- ## Semaphores, monitors and resources

pub waited_rows : (c : Counted) (p s : ℕ) → SameRows c.table (waited c p s).table
waited_rows c p s =
    either (count_of c s == 0) (record { table = blocked c.table p (Semaphore s) []; counts = c.counts }) (counting c s (count_of c s - 1))
    (blocked_rows c.table p (Semaphore s) []) refl
  where
    either :
        (b : Bool) (u v : Counted) → SameRows c.table u.table → SameRows c.table v.table
        → (let x : Counted = if b then u else v in SameRows c.table x.table)
    either true u v first second = first
    either false u v first second = second

signalled_to_rows : (q : Option ℕ) (c : Counted) (s : ℕ) → SameRows c.table (signalled_to q c s).table
signalled_to_rows (Some q) c s = placed_rows c.table q Is_ready
signalled_to_rows None c s = refl

pub signalled_rows : (c : Counted) (s : ℕ) → SameRows c.table (signalled c s).table
signalled_rows c s = signalled_to_rows (semaphore_waiter c.table.rows s) c s

given_rows : (q : Option ℕ) (h : Held) (m : ℕ) → SameRows h.table (given_to q h m).table
given_rows (Some q) h m = placed_rows h.table q Is_ready
given_rows None h m = refl

entered_where_rows : (q : Option ℕ) (h : Held) (p m : ℕ) → SameRows h.table (entered_where q h p m).table
entered_where_rows None h p m = refl
entered_where_rows (Some q) h p m = blocked_rows h.table p (Enter m) []

pub entered_rows : (h : Held) (p m : ℕ) → SameRows h.table (entered h p m).table
entered_rows h p m = entered_where_rows (holder_in h.holders m) h p m

pub handed_rows : (h : Held) (m : ℕ) → SameRows h.table (handed_over h m).table
handed_rows h m = given_rows (next_holder h.table.rows m) h m

pub delayed_rows : (h : Held) (p m c : ℕ) (rank : ℤ) → SameRows h.table (delayed h p m c rank).table
delayed_rows h p m c rank = blocked_rows (handed_over h m).table p (Condition c rank) [] ∙ handed_rows h m

resumed_with_rows : (q : Option ℕ) (h : Held) (p m : ℕ) → SameRows h.table (resumed_with q h p m).table
resumed_with_rows None h p m = refl
resumed_with_rows (Some q) h p m = blocked_rows (placed h.table q Is_ready) p (Resumer m) [] ∙ placed_rows h.table q Is_ready

pub resumed_rows : (h : Held) (p m c : ℕ) → SameRows h.table (resumed h p m c).table
resumed_rows h p m c = resumed_with_rows (condition_waiter h.table.rows c) h p m

resource_entered_where_rows : (q : Option ℕ) (h : Held) (p m : ℕ) → SameRows h.table (resource_entered_where q h p m).table
resource_entered_where_rows None h p m = refl
resource_entered_where_rows (Some q) h p m = blocked_rows h.table p (Entrant m) []

pub resource_entered_rows : (h : Held) (p m : ℕ) → SameRows h.table (resource_entered h p m).table
resource_entered_rows h p m = resource_entered_where_rows (holder_in h.holders m) h p m

pub given_up_rows : (h : Held) (m : ℕ) → SameRows h.table (given_up h m).table
given_up_rows h m = given_rows (next_entrant h.table.rows m) h m

pub barred_rows : (h : Held) (p m procedure : ℕ) → SameRows h.table (barred h p m procedure).table
barred_rows h p m procedure = blocked_rows (given_up h m).table p (Barred m procedure) [] ∙ given_up_rows h m

pub requeued_rows : (h : Held) (p m procedure q : ℕ) → SameRows h.table (requeued h p m procedure q).table
requeued_rows h p m procedure q = blocked_rows (placed h.table q Is_ready) p (Barred m procedure) [] ∙ placed_rows h.table q Is_ready

-- ## Communication

passed_rows : (q : Option ℕ) (w : Table) (p : ℕ) (why : Why) → SameRows w (passed_with q w p why)
passed_rows (Some q) w p why = placed_rows w q Is_ready
passed_rows None w p why = blocked_rows w p why []

accepted_rows : (q : Option ℕ) (w : Table) (p entry : ℕ) → SameRows w (accepted_with q w p entry)
accepted_rows (Some q) w p entry = placed_rows w q (Waits (Meeting p) (w.done + 1) [])
accepted_rows None w p entry = blocked_rows w p (Accept entry) []

pub plainly_rows : (w : Table) (p : ℕ) (arm : Option Arm) → SameRows w (plainly w p arm)
plainly_rows w p None = refl
plainly_rows w p (Some (To c)) = passed_rows (receiver w.rows c) w p (Send c)
plainly_rows w p (Some (From c)) = passed_rows (sender w.rows c) w p (Receive c)
plainly_rows w p (Some (Entry e)) = accepted_rows (caller w.rows p e) w p e

pub called_rows : (w : Table) (p owner entry : ℕ) → SameRows w (called w p owner entry)
called_rows w p owner entry =
    either_rows w (is_accepting w.rows owner entry) (blocked (placed w owner Is_ready) p (Meeting owner) []) (blocked w p (Call owner entry) [])
    (blocked_rows (placed w owner Is_ready) p (Meeting owner) [] ∙ placed_rows w owner Is_ready)
    (blocked_rows w p (Call owner entry) [])

communicated_rows : (q : Option ℕ) (w : Table) (p : ℕ) (arm : Arm) → SameRows w (communicated_with q w p arm)
communicated_rows None w p arm = refl
communicated_rows (Some q) w p (Entry e) = placed_rows w q (Waits (Meeting p) (w.done + 1) [])
communicated_rows (Some q) w p (To c) = placed_rows w q Is_ready
communicated_rows (Some q) w p (From c) = placed_rows w q Is_ready

committed_to_rows : (arm : Option Arm) (w : Table) (p : ℕ) → SameRows w (committed_to arm w p)
committed_to_rows None w p = refl
committed_to_rows (Some arm) w p = communicated_rows (partner w.rows p arm) w p arm

committed_at_rows : (place : Option ℕ) (w : Table) (p : ℕ) (arms : List Arm) → SameRows w (committed_at place w p arms)
committed_at_rows None w p arms = refl
committed_at_rows (Some place) w p arms = committed_to_rows (slice_get arms place) w p

pub committed_rows : (w : Table) (p : ℕ) (arms : List Arm) (k : ℕ) → SameRows w (committed w p arms k)
committed_rows w p arms k = committed_at_rows (slice_get (matched w.rows p arms) k) w p arms

-- ## Settling

woken_rows : (w : Table) → SameRows w (woken_now w)
woken_rows w = length-map w.rows (woken w.moment)

moved_rows : (moment : Option ℕ) (w : Table) → SameRows w (moved_to moment w)
moved_rows None w = refl
moved_rows (Some moment) w = woken_rows (record w { moment = moment })

settled_rows : (w : Table) → SameRows w (settled w)
settled_rows w =
    let now : Table = woken_now w in
    either_rows w (some_ready now.rows) now (moved_to (earliest now.rows) now) (woken_rows w) (moved_rows (earliest now.rows) now ∙ woken_rows w)

over_children_rows : (change : Stand → Stand) (rows : List Stand) → length (over_children change rows) ≡ length rows
over_children_rows change [] = refl
over_children_rows change (main ∷ children) = ap suc (length-map children change)

terminated_rows : (w : Table) → SameRows w (terminated w)
terminated_rows w = released_rows (record w { rows = over_children terminated_child w.rows }) ∙ over_children_rows terminated_child w.rows

terminated_where_rows : (b : Bool) (w : Table) → SameRows w (terminated_where b w)
terminated_where_rows true w = terminated_rows w
terminated_where_rows false w = refl

pub wholly_settled_rows : (w : Table) → SameRows w (wholly_settled w)
wholly_settled_rows w = terminated_where_rows (may_all_end (settled w).rows) (settled w) ∙ settled_rows w
