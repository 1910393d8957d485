-- Who waits for an entry behind an action, or when it is settled, waited for it before, but for who calls one.
use Rattle.std.proofs.Common.{ℕ, ℤ, zero, suc, ◌+◌, Bool, true, false, if◌then◌else◌, List, [], ◌∷◌, map, Option, Some, None}
use Rattle.std.specs.Prelude.{◌-◌, ◌==◌, slice_get}
use Rattle.pfc_state.specs.declared.waits.Arm.{Arm}
use Rattle.pfc_state.specs.declared.waits.Arm.TheVariants.{Send as To, Receive as From, Accept as Entry}
use Rattle.pfc_state.specs.declared.waits.Why.{Why}
use Rattle.pfc_state.specs.declared.waits.Why.TheVariants.{Accept, Barred, Call as ACall, Condition, Enter, Entrant, Meeting, Receive, Resumer, Semaphore, Send}
use Rattle.pfc_state.specs.Stands.{Stand, Is_idle, Is_created, Is_ready, Waits, Is_done, started, woken, is_due, due_of, may_end}
use Rattle.pfc_world.specs.Tables.{Table, at, some_ready}
use Rattle.pfc_world.specs.Transitions.{placed, blocked, is_released, released, finished, all_started}
use Rattle.pfc_world.specs.Holders.{Held, holder_in, given_to}
use Rattle.pfc_world.specs.Semaphores.{Counted, count_of, counting, waited, signalled_to, signalled}
use Rattle.pfc_world.specs.Monitors.{entered, entered_where, handed_over, delayed, resumed_with, resumed}
use Rattle.pfc_world.specs.Resources.{resource_entered, resource_entered_where, given_up, barred, passed_to, requeued}
use Rattle.pfc_world.specs.Partners.{semaphore_waiter, next_holder, condition_waiter, next_entrant, receiver, sender, caller, partner}
use Rattle.pfc_world.specs.Channels.{passed_with}
use Rattle.pfc_world.specs.Rendezvous.{accepted_with}
use Rattle.pfc_world.specs.Selects.{communicated_with, committed_to, committed_at, committed, matched}
use Rattle.pfc_world.specs.Settling.{earliest, woken_now, moved_to, settled, may_all_end}
use Rattle.pfc_world.specs.Terminating.{terminated_child, over_children, terminated_where, wholly_settled}
use Rattle.pfc_semantics.specs.Selects.{plainly}
use Rattle.pfc_accept_laws.proofs.Lists.{set_changes}

-- no wait for an entry
abbrev pub IsNoCall : Stand → Type 0
IsNoCall (Waits (ACall owner entry) ticket arms) = ⊥
IsNoCall stand = Unit {0}

-- Something is told of what each process stands at, which is so of whatever is no wait for an entry.
module _ (R : ℕ → Stand → Type 0) (free : (q : ℕ) (s : Stand) → IsNoCall s → R q s) where
  abbrev pub RowsSo : Table → Type 0
  RowsSo w = (q : ℕ) → R q (at w.rows q)

  pub placed_so : (w : Table) (p : ℕ) (s : Stand) → IsNoCall s → RowsSo w → RowsSo (placed w p s)
  placed_so w p s none all q = set_changes (R q) Is_idle w.rows p q s (λ is. free q s none) (λ off. all q) (free q Is_idle tt)

  pub blocked_so : (w : Table) (p : ℕ) (why : Why) (arms : List Arm) → IsNoCall (Waits why (w.done + 1) arms) → RowsSo w → RowsSo (blocked w p why arms)
  blocked_so w p why arms none all = placed_so w p (Waits why (w.done + 1) arms) none all

  -- ## Changes of all rows

  at_mapped : (f : Stand → Stand) (q : ℕ) → ((s : Stand) → R q s → R q (f s)) → (rows : List Stand) (i : ℕ) → R q (at rows i) → R q (at (map f rows) i)
  at_mapped f q each [] i so = so
  at_mapped f q each (s ∷ rows) zero so = each s so
  at_mapped f q each (s ∷ rows) (suc i) so = at_mapped f q each rows i so

  started_so : (q : ℕ) (s : Stand) → R q s → R q (started s)
  started_so q Is_created so = free q Is_ready tt
  started_so q Is_idle so = so
  started_so q Is_ready so = so
  started_so q (Waits why ticket arms) so = so
  started_so q Is_done so = so

  pub all_started_so : (w : Table) → RowsSo w → RowsSo (all_started w)
  all_started_so w all q = at_mapped started q (started_so q) w.rows q (all q)

  woken_so : (moment q : ℕ) (s : Stand) → R q s → R q (woken moment s)
  woken_so moment q s so = by (is_due moment (due_of s))
    where
      by : (b : Bool) → R q (if b then Is_ready else s)
      by true = free q Is_ready tt
      by false = so

  woken_now_so : (w : Table) → RowsSo w → RowsSo (woken_now w)
  woken_now_so w all q = at_mapped (woken w.moment) q (woken_so w.moment q) w.rows q (all q)

  moved_so : (moment : Option ℕ) (w : Table) → RowsSo w → RowsSo (moved_to moment w)
  moved_so None w all = all
  moved_so (Some moment) w all = woken_now_so (record w { moment = moment }) all

  released_so : (w : Table) → RowsSo w → RowsSo (released w)
  released_so w all = by (is_released w.rows)
    where
      by : (b : Bool) → RowsSo (if b then placed w 0 Is_ready else w)
      by true = placed_so w 0 Is_ready tt all
      by false = all

  pub finished_so : (w : Table) (p : ℕ) → RowsSo w → RowsSo (finished w p)
  finished_so w p all = released_so _ (placed_so w p Is_done tt all)

  -- ## Settling

  settled_so : (w : Table) → RowsSo w → RowsSo (settled w)
  settled_so w all = let v : Table = woken_now w in by v (woken_now_so w all) (some_ready v.rows)
    where
      by : (v : Table) → RowsSo v → (b : Bool) → RowsSo (if b then v else moved_to (earliest v.rows) v)
      by v so true = so
      by v so false = moved_so (earliest v.rows) v so

  child_so : (q : ℕ) (s : Stand) → R q s → R q (terminated_child s)
  child_so q s so = by (may_end s)
    where
      by : (b : Bool) → R q (if b then Is_done else s)
      by true = free q Is_done tt
      by false = so

  children_so : (q : ℕ) (rows : List Stand) (i : ℕ) → R q (at rows i) → R q (at (over_children terminated_child rows) i)
  children_so q [] i so = so
  children_so q (main ∷ children) zero so = so
  children_so q (main ∷ children) (suc i) so = at_mapped terminated_child q (child_so q) children i so

  terminated_so : (b : Bool) (w : Table) → RowsSo w → RowsSo (terminated_where b w)
  terminated_so true w all = released_so (record w { rows = over_children terminated_child w.rows }) (λ q. children_so q w.rows q (all q))
  terminated_so false w all = all

  pub wholly_so : (w : Table) → RowsSo w → RowsSo (wholly_settled w)
  wholly_so w all = terminated_so (may_all_end (settled w).rows) (settled w) (settled_so w all)

  -- ## Semaphores

  pub waited_so : (c : Counted) (p s : ℕ) → RowsSo c.table → RowsSo (waited c p s).table
  waited_so c p s all = by (count_of c s == 0)
    where
      by : (b : Bool) → RowsSo (if b then record { table = blocked c.table p (Semaphore s) []; counts = c.counts } else counting c s (count_of c s - 1)).table
      by true = blocked_so c.table p (Semaphore s) [] tt all
      by false = all

  pub signalled_so : (c : Counted) (s : ℕ) → RowsSo c.table → RowsSo (signalled c s).table
  signalled_so c s all = by (semaphore_waiter c.table.rows s)
    where
      by : (o : Option ℕ) → RowsSo (signalled_to o c s).table
      by None = all
      by (Some q) = placed_so c.table q Is_ready tt all

  -- ## Monitors and resources

  given_so : (o : Option ℕ) (h : Held) (m : ℕ) → RowsSo h.table → RowsSo (given_to o h m).table
  given_so None h m all = all
  given_so (Some q) h m all = placed_so h.table q Is_ready tt all

  pub handed_so : (h : Held) (m : ℕ) → RowsSo h.table → RowsSo (handed_over h m).table
  handed_so h m all = given_so (next_holder h.table.rows m) h m all

  pub entered_so : (h : Held) (p m : ℕ) → RowsSo h.table → RowsSo (entered h p m).table
  entered_so h p m all = by (holder_in h.holders m)
    where
      by : (o : Option ℕ) → RowsSo (entered_where o h p m).table
      by None = all
      by (Some q) = blocked_so h.table p (Enter m) [] tt all

  pub delayed_so : (h : Held) (p m c : ℕ) (rank : ℤ) → RowsSo h.table → RowsSo (delayed h p m c rank).table
  delayed_so h p m c rank all = blocked_so (handed_over h m).table p (Condition c rank) [] tt (handed_so h m all)

  pub resumed_so : (h : Held) (p m c : ℕ) → RowsSo h.table → RowsSo (resumed h p m c).table
  resumed_so h p m c all = by (condition_waiter h.table.rows c)
    where
      by : (o : Option ℕ) → RowsSo (resumed_with o h p m).table
      by None = all
      by (Some q) = blocked_so (placed h.table q Is_ready) p (Resumer m) [] tt (placed_so h.table q Is_ready tt all)

  pub resource_so : (h : Held) (p m : ℕ) → RowsSo h.table → RowsSo (resource_entered h p m).table
  resource_so h p m all = by (holder_in h.holders m)
    where
      by : (o : Option ℕ) → RowsSo (resource_entered_where o h p m).table
      by None = all
      by (Some q) = blocked_so h.table p (Entrant m) [] tt all

  pub given_up_so : (h : Held) (r : ℕ) → RowsSo h.table → RowsSo (given_up h r).table
  given_up_so h r all = given_so (next_entrant h.table.rows r) h r all

  pub barred_so : (h : Held) (p r procedure : ℕ) → RowsSo h.table → RowsSo (barred h p r procedure).table
  barred_so h p r procedure all = blocked_so (given_up h r).table p (Barred r procedure) [] tt (given_up_so h r all)

  pub passed_so : (h : Held) (r q : ℕ) → RowsSo h.table → RowsSo (passed_to h r q).table
  passed_so h r q all = placed_so h.table q Is_ready tt all

  pub requeued_so : (h : Held) (p r procedure q : ℕ) → RowsSo h.table → RowsSo (requeued h p r procedure q).table
  requeued_so h p r procedure q all = blocked_so (placed h.table q Is_ready) p (Barred r procedure) [] tt (placed_so h.table q Is_ready tt all)

  -- ## Communication

  with_so : (o : Option ℕ) (w : Table) (p : ℕ) (why : Why) → IsNoCall (Waits why (w.done + 1) []) → RowsSo w → RowsSo (passed_with o w p why)
  with_so None w p why none all = blocked_so w p why [] none all
  with_so (Some q) w p why none all = placed_so w q Is_ready tt all

  accepted_so : (o : Option ℕ) (w : Table) (p entry : ℕ) → RowsSo w → RowsSo (accepted_with o w p entry)
  accepted_so None w p entry all = blocked_so w p (Accept entry) [] tt all
  accepted_so (Some q) w p entry all = placed_so w q (Waits (Meeting p) (w.done + 1) []) tt all

  pub plainly_so : (w : Table) (p : ℕ) (arm : Option Arm) → RowsSo w → RowsSo (plainly w p arm)
  plainly_so w p None all = all
  plainly_so w p (Some (To c)) all = with_so (receiver w.rows c) w p (Send c) tt all
  plainly_so w p (Some (From c)) all = with_so (sender w.rows c) w p (Receive c) tt all
  plainly_so w p (Some (Entry e)) all = accepted_so (caller w.rows p e) w p e all

  communicated_so : (o : Option ℕ) (w : Table) (p : ℕ) (arm : Arm) → RowsSo w → RowsSo (communicated_with o w p arm)
  communicated_so None w p arm all = all
  communicated_so (Some q) w p (Entry e) all = placed_so w q (Waits (Meeting p) (w.done + 1) []) tt all
  communicated_so (Some q) w p (To c) all = placed_so w q Is_ready tt all
  communicated_so (Some q) w p (From c) all = placed_so w q Is_ready tt all

  committed_to_so : (o : Option Arm) (w : Table) (p : ℕ) → RowsSo w → RowsSo (committed_to o w p)
  committed_to_so None w p all = all
  committed_to_so (Some arm) w p all = communicated_so (partner w.rows p arm) w p arm all

  committed_at_so : (o : Option ℕ) (w : Table) (p : ℕ) (arms : List Arm) → RowsSo w → RowsSo (committed_at o w p arms)
  committed_at_so None w p arms all = all
  committed_at_so (Some place) w p arms all = committed_to_so (slice_get arms place) w p all

  pub committed_so : (w : Table) (p : ℕ) (arms : List Arm) (k : ℕ) → RowsSo w → RowsSo (committed w p arms k)
  committed_so w p arms k all = committed_at_so (slice_get (matched w.rows p arms) k) w p arms all
