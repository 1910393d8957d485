-- Nobody acts behind an action.
use Rattle.std.proofs.Common.{◌≡◌, ℕ, ℤ, pos, negsuc, zero, suc, Bool, true, false, nat_le, List, [], ◌∷◌, Option, Some, None, Result, Ok, Err, refl, ap, ◌∙◌}
use Rattle.std.specs.Prelude.{◌==◌, ◌+◌, ◌*◌, ◌-◌, ◌/◌, if◌then◌else◌, slice_get}
use Rattle.rand_pcg.specs.Lcg.{Lcg}
use Rattle.pfc_base.specs.declared.faults.RunFault.{RunFault}
use Rattle.pfc_base.specs.declared.faults.RunFault.TheVariants.{Stack, Active, NotActive, Late, Count as TooLarge}
use Rattle.pfc_state.specs.declared.waits.Arm.{Arm}
use Rattle.pfc_state.specs.declared.waits.Arm.TheVariants.{Send as To, Receive as From, Accept as Entry}
use Rattle.pfc_state.specs.declared.waits.Why.{Why}
use Rattle.pfc_state.specs.declared.waits.Why.TheVariants.{Coend, Sleep, Send, Receive, Semaphore, Meeting, Call, Condition}
use Rattle.pfc_state.specs.Stands.{Is_ready, Is_done, is_unfinished}
use Rattle.pfc_sched.specs.Draws.{drawn, after_draw}
use Rattle.pfc_types.specs.Blocks.{module_at}
use Rattle.pfc_types.specs.rules.Expressions.{Env}
use Rattle.pfc_values.specs.Inputs.{Item, item, skipped}
use Rattle.pfc_values.specs.Numbers.{Outcome, fitting}
use Rattle.pfc_world.specs.Tables.{Table, at, some_created}
use Rattle.pfc_world.specs.Transitions.{placed, rested, blocked, is_released, finished, all_started}
use Rattle.pfc_world.specs.Partners.{is_accepting, caller, receiver, sender, partner, next_barred, next_holder, next_entrant, condition_waiter}
use Rattle.pfc_world.specs.Partners.{semaphore_waiter}
use Rattle.pfc_world.specs.Channels.{passed_with}
use Rattle.pfc_world.specs.Rendezvous.{is_uncalled, called as called_in, accepted_with}
use Rattle.pfc_world.specs.Semaphores.{Counted, count_of, counting, waited, is_overfull, signalled_to, signalled}
use Rattle.pfc_world.specs.Holders.{Held, holder_in, standing, given_to}
use Rattle.pfc_world.specs.Monitors.{entered_where, entered, delayed, resumed_with}
use Rattle.pfc_world.specs.Resources.{resource_entered_where, resource_entered}
use Rattle.pfc_world.specs.Selects.{matched, communicated_with, committed_to, committed_at}
use Rattle.pfc_semantics.specs.Values.{Value}
use Rattle.pfc_semantics.specs.Objects.{module_number}
use Rattle.pfc_semantics.specs.Operators.{simple_of}
use Rattle.pfc_semantics.specs.Displays.{Spot}
use Rattle.pfc_semantics.specs.Programs.{Block, Program, block_at}
use Rattle.pfc_semantics.specs.Remainders.{Context, Argument, Call as Calling, Offer, Open, Otherwise, Selecting, Remainder, AwaitsValue, Scan, Tried, Way}
use Rattle.pfc_semantics.specs.Remainders.{leave, own, to_send, to_receive, to_accept, to_wait, to_end, to_procedure, to_function, to_module, to_requeue}
use Rattle.pfc_semantics.specs.Remainders.{to_process, to_entry, Action, reads, writes, turns, calls, finishes, prints, inputs, skips, asks_eof, asks_eoln}
use Rattle.pfc_semantics.specs.Remainders.{asks_clock, asks_empty, draws, joins, initials, waits, signals, delays, resumes, sleeps, meets, decides, parts}
use Rattle.pfc_semantics.specs.Remainders.{scans, bars, passes, faults}
use Rattle.pfc_semantics.specs.Configurations.{Mark, plain, of_monitor, of_resource, Caller, of_nobody, of_remainder, of_value, Activation, Config, Effect}
use Rattle.pfc_semantics.specs.Configurations.{asking, activity_of, goes_on, showing, number_for, all_passed, with_table, counted, with_counted, monitors_held}
use Rattle.pfc_semantics.specs.Configurations.{with_monitors, resources_held, with_resources, body_of}
use Rattle.pfc_semantics.specs.Calls.{cells_above, most_cells, unless_full, activated}
use Rattle.pfc_semantics.specs.Channels.{Side, arm_of, arms_of_all, behind_open, side_of}
use Rattle.pfc_semantics.specs.Processes.{process_block, created, creates, joined}
use Rattle.pfc_semantics.specs.Semaphores.{initials_at, signals_to}
use Rattle.pfc_semantics.specs.Monitors.{monitor_of, is_inside, enters_monitor}
use Rattle.pfc_semantics.specs.Resources.{guarded_body, enters_resource, scanned_all, scanned_to, tried_at, passed_by, requeued_in, requeues}
use Rattle.pfc_semantics.specs.Rendezvous.{called_into, called_at, enters}
use Rattle.pfc_semantics.specs.Selects.{plainly, matched_places, place_taken, Timeout, open_timeout, latest, waits_until, waits_or_closed, times_out}
use Rattle.pfc_semantics.specs.Selects.{goes_otherwise, decides_by}
use Rattle.pfc_semantics.specs.Time.{slept, sleeps_for, clocked}
use Rattle.pfc_semantics.specs.Steps.{enters_module, calls_by, returns_to, ends_for, ends_body, read_in, skipped_in, drawn_in, effect}

-- ## What an action comes to

-- nobody acts behind it
abbrev pub Rests : Effect → Type 0
Rests (Ok d) = d.table.acting ≡ None
Rests (Err f) = Unit {0}

either_rests : (b : Bool) (d e : Effect) → Rests d → Rests e → Rests (if b then d else e)
either_rests true d e first second = first
either_rests false d e first second = second

either_table : (b : Bool) (v w : Table) → v.acting ≡ None → w.acting ≡ None → (let x : Table = if b then v else w in x.acting) ≡ None
either_table true v w first second = first
either_table false v w first second = second

either_held : (b : Bool) (v w : Held) → v.table.acting ≡ None → w.table.acting ≡ None → (let x : Held = if b then v else w in x.table.acting) ≡ None
either_held true v w first second = first
either_held false v w first second = second

either_counted :
    (b : Bool) (v w : Counted) → v.table.acting ≡ None → w.table.acting ≡ None → (let x : Counted = if b then v else w in x.table.acting) ≡ None
either_counted true v w first second = first
either_counted false v w first second = second

-- a call of an entry leaves the table of who waits in it
called_into_table :
    (g : Program) (c : Config) (p q : ℕ) (args : List Value) (s : Side) (offer : Offer) → (called_into g c p q args s offer).table ≡ c.table
called_into_table g c p q args s (to_send channel v) = refl
called_into_table g c p q args s (to_receive channel target) = refl
called_into_table g c p q args s (to_accept a) = refl
called_into_table g c p q args s (to_wait n) = refl
called_into_table g c p q args s to_end = refl

called_at_table : (g : Program) (c : Config) (p q : ℕ) (args : List Value) (s : Option Side) → (called_at g c p q args s).table ≡ c.table
called_at_table g c p q args None = refl
called_at_table g c p q args (Some s) = called_into_table g c p q args s s.at.offer

-- ## Tables

module _ (w : Table) (alone : w.acting ≡ None) where
  finished_rests : (p : ℕ) → (finished w p).acting ≡ None
  finished_rests p =
      let v : Table = rested (placed w p Is_done) in either_table (is_released v.rows) (placed v 0 Is_ready) v refl refl

  called_rests : (p owner entry : ℕ) → (called_in w p owner entry).acting ≡ None
  called_rests p owner entry =
      either_table (is_accepting w.rows owner entry) (blocked (placed w owner Is_ready) p (Meeting owner) []) (blocked w p (Call owner entry) []) refl refl

  accepted_rests : (o : Option ℕ) (p entry : ℕ) → (accepted_with o w p entry).acting ≡ None
  accepted_rests (Some q) p entry = alone
  accepted_rests None p entry = refl

  passed_rests : (o : Option ℕ) (p : ℕ) (why : Why) → (passed_with o w p why).acting ≡ None
  passed_rests (Some q) p why = alone
  passed_rests None p why = refl

  plainly_rests : (p : ℕ) (arm : Option Arm) → (plainly w p arm).acting ≡ None
  plainly_rests p None = alone
  plainly_rests p (Some (To c)) = passed_rests (receiver w.rows c) p (Send c)
  plainly_rests p (Some (From c)) = passed_rests (sender w.rows c) p (Receive c)
  plainly_rests p (Some (Entry e)) = accepted_rests (caller w.rows p e) p e

  -- the communication of an alternative that is matched
  communicated_rests : (o : Option ℕ) (p : ℕ) (arm : Arm) → (communicated_with o w p arm).acting ≡ None
  communicated_rests None p arm = alone
  communicated_rests (Some q) p (Entry e) = alone
  communicated_rests (Some q) p (To c) = alone
  communicated_rests (Some q) p (From c) = alone

  committed_to_rests : (o : Option Arm) (p : ℕ) → (committed_to o w p).acting ≡ None
  committed_to_rests None p = alone
  committed_to_rests (Some arm) p = communicated_rests (partner w.rows p arm) p arm

  committed_rests : (o : Option ℕ) (p : ℕ) (arms : List Arm) → (committed_at o w p arms).acting ≡ None
  committed_rests None p arms = alone
  committed_rests (Some place) p arms = committed_to_rests (slice_get arms place) p

module _ (h : Held) (alone : h.table.acting ≡ None) where
  given_rests : (o : Option ℕ) (m : ℕ) → (given_to o h m).table.acting ≡ None
  given_rests (Some q) m = alone
  given_rests None m = alone

  entered_rests : (o : Option ℕ) (p m : ℕ) → (entered_where o h p m).table.acting ≡ None
  entered_rests None p m = alone
  entered_rests (Some q) p m = refl

  resource_entered_rests : (o : Option ℕ) (p m : ℕ) → (resource_entered_where o h p m).table.acting ≡ None
  resource_entered_rests None p m = alone
  resource_entered_rests (Some q) p m = refl

  resumed_rests : (o : Option ℕ) (p m : ℕ) → (resumed_with o h p m).table.acting ≡ None
  resumed_rests None p m = alone
  resumed_rests (Some q) p m = refl

signalled_rests : (o : Option ℕ) (c : Counted) (s : ℕ) → c.table.acting ≡ None → (signalled_to o c s).table.acting ≡ None
signalled_rests (Some q) c s alone = alone
signalled_rests None c s alone = alone

-- ## Actions

module _ (g : Program) (c : Config) (p : ℕ) (alone : c.table.acting ≡ None) where
  full_rests : (q cells : ℕ) (d : Config) → d.table.acting ≡ None → Rests (unless_full q cells d)
  full_rests q cells d rests = either_rests (nat_le cells (most_cells q)) (Ok d) (Err Stack) rests tt

  enters_module_rests : (n : ℕ) (b : Block) (caller : Caller) (args : List Argument) → Rests (enters_module g c p n b caller args)
  enters_module_rests n b caller args =
      let m : ℕ = module_number g.state.blocks n in
      let cells : ℕ = cells_above (activity_of g c p).activations b in
      let monitor : Config = activated g c p b (of_monitor m) caller args (body_of b) in
      let resource : Config = activated g c p b (of_resource m) caller args (guarded_body g m b b.guard) in
      either_rests (module_at g.state.blocks n).resource (enters_resource g c p b m caller args) (enters_monitor g c p b m caller args)
      (full_rests p cells (with_resources resource (resource_entered (resources_held resource) p m))
      (resource_entered_rests (resources_held resource) alone (holder_in c.resources m) p m))
      (full_rests p cells (with_monitors monitor (entered (monitors_held monitor) p m))
      (entered_rests (monitors_held monitor) alone (holder_in c.monitors m) p m))

  requeues_rests : (b : Block) (args : List Argument) (activations : List Activation) → Rests (requeues g c p b args activations)
  requeues_rests b args [] = alone
  requeues_rests b args (a ∷ below) = full_rests p (cells_above below b) (requeued_in g c p b args a below) alone

  creates_rests : (x : Context) (s : Spot) (args : List Argument) (k : Remainder) → Rests (creates g c p x s args k)
  creates_rests x s args k =
      let n : ℕ = number_for g c p s in
      let b : Block = process_block g n in
      let cells : ℕ = cells_above [] b in
      let d : Config = goes_on g (created g c n b (all_passed g c p args)) p x k in
      either_rests (is_unfinished (at c.table.rows n)) (Err Active) (unless_full n cells d) tt (full_rests n cells d alone)

  enters_rests : (x : Context) (s : Spot) (entry : ℕ) (args : List Argument) (k : Remainder) → Rests (enters g c p x s entry args k)
  enters_rests x s entry args k =
      let q : ℕ = number_for g c p s in
      let values : List Value = all_passed g c p args in
      let waiting : Config = with_table (goes_on g c p x k) (called_in c.table p q entry) in
      let side : Option Side = side_of g c q (Entry entry) in
      let met : Effect = Ok (called_at g waiting p q values side) in
      let shown : Effect = Ok (showing g waiting p (asking values)) in
      let accepting : Bool = is_accepting c.table.rows q entry in
      let calls : (called_in c.table p q entry).acting ≡ None = called_rests c.table alone p q entry in
      either_rests (is_uncalled c.table q) (Err NotActive) (if accepting then met else shown) tt
      (either_rests accepting met shown (ap (λ (w : Table). w.acting) (called_at_table g waiting p q values side) ∙ calls) calls)

  calls_rests : (x : Context) (call : Calling) (args : List Argument) → Rests (calls_by g c p x call args)
  calls_rests x (to_procedure scope k) args =
      let b : Block = block_at g scope in
      full_rests p (cells_above (activity_of g c p).activations b) (activated g c p b plain (of_remainder x.env k) args (body_of b)) alone
  calls_rests x (to_function scope u) args =
      let b : Block = block_at g scope in
      full_rests p (cells_above (activity_of g c p).activations b) (activated g c p b plain (of_value x u) args (body_of b)) alone
  calls_rests x (to_module n scope k) args = enters_module_rests n (block_at g scope) (of_remainder x.env k) args
  calls_rests x (to_requeue scope) args = requeues_rests (block_at g scope) args (activity_of g c p).activations
  calls_rests x (to_process s k) args = creates_rests x s args k
  calls_rests x (to_entry s entry k) args = enters_rests x s entry args k

  returns_rests : (a : Activation) (below : List Activation) (env : Env) (k : Remainder) (mark : Mark)
      → (returns_to g c p a below env k mark).table.acting ≡ None
  returns_rests a below env k plain = alone
  returns_rests a below env k (of_monitor m) = given_rests (monitors_held c) alone (next_holder c.table.rows m) m
  returns_rests a below env k (of_resource m) = alone

  ends_for_rests : (a : Activation) (below : List Activation) (caller : Caller) → (ends_for g c p a below caller).table.acting ≡ None
  ends_for_rests a below of_nobody = finished_rests c.table alone p
  ends_for_rests a below (of_remainder env k) = returns_rests a below env k a.mark
  ends_for_rests a below (of_value x u) = alone

  ends_rests : (activations : List Activation) → Rests (ends_body g c p activations)
  ends_rests [] = finished_rests c.table alone p
  ends_rests (a ∷ below) = ends_for_rests a below a.caller

  read_rests : (x : Context) (s : Spot) (k : Remainder) (read : Result Item RunFault) → Rests (read_in g c p x s k read)
  read_rests x s k (Ok i) = alone
  read_rests x s k (Err f) = tt

  skipped_rests : (x : Context) (k : Remainder) (left : Result (List ℕ) RunFault) → Rests (skipped_in g c p x k left)
  skipped_rests x k (Ok left) = alone
  skipped_rests x k (Err f) = tt

  drawn_rests : (x : Context) (u : AwaitsValue) (words : Lcg) (drawn : Result ℤ RunFault) → Rests (drawn_in g c p x u words drawn)
  drawn_rests x u words (Ok n) = alone
  drawn_rests x u words (Err f) = tt

  slept_rests : (x : Context) (n : ℕ) (k : Remainder) → Rests (slept g c p x n k)
  slept_rests x zero k = alone
  slept_rests x (suc n) k =
      let due : ℕ = c.table.moment + 1000 * suc n in
      either_rests (nat_le due latest) (Ok (with_table (goes_on g c p x k) (blocked c.table p (Sleep due) []))) (Err Late) refl tt

  sleeps_rests : (x : Context) (n : ℤ) (k : Remainder) → Rests (sleeps_for g c p x n k)
  sleeps_rests x (pos n) k = slept_rests x n k
  sleeps_rests x (negsuc n) k = tt

  clocked_rests : (x : Context) (u : AwaitsValue) (seconds : Outcome) → Rests (clocked g c p x u seconds)
  clocked_rests x u (Ok n) = alone
  clocked_rests x u (Err f) = tt

  joined_rests : (x : Context) (k : Remainder) → Rests (joined g c p x k)
  joined_rests x k =
      either_rests (some_created c.table.rows) (Ok (with_table (goes_on g c p x k) (blocked (all_started c.table) p Coend []))) (Ok (goes_on g c p x k)) refl
      alone

  initials_rests : (x : Context) (s : Spot) (n : ℤ) (k : Remainder) → Rests (initials_at g c p x s n k)
  initials_rests x s (pos n) k = alone
  initials_rests x s (negsuc n) k = tt

  waited_rests : (s : ℕ) → (waited (counted c) p s).table.acting ≡ None
  waited_rests s =
      either_counted (count_of (counted c) s == 0) (record { table = blocked c.table p (Semaphore s) []; counts = c.counts })
      (counting (counted c) s (count_of (counted c) s - 1)) refl alone

  signals_rests : (x : Context) (s : Spot) (k : Remainder) → Rests (signals_to g c p x s k)
  signals_rests x s k =
      let n : ℕ = number_for g c p s in
      either_rests (is_overfull (counted c) n) (Err TooLarge) (Ok (with_counted (goes_on g c p x k) (signalled (counted c) n))) tt
      (signalled_rests (semaphore_waiter c.table.rows n) (counted c) n alone)

  delayed_rests : (n m : ℕ) (rank : ℤ)
      → (let h : Held = if is_inside g c p m then delayed (monitors_held c) p m n rank
      else standing (monitors_held c) (blocked c.table p (Condition n rank) []) in h.table.acting)
      ≡ None
  delayed_rests n m rank =
      either_held (is_inside g c p m) (delayed (monitors_held c) p m n rank) (standing (monitors_held c) (blocked c.table p (Condition n rank) [])) refl refl

  -- ## Selects

  waits_or_closed_rests : (x : Context) (s : Selecting) (k : Remainder) (t : Option Timeout) (os : List Open) → Rests (waits_or_closed g c p x s k t os)
  waits_or_closed_rests x s k None [] = tt
  waits_or_closed_rests x s k None (o ∷ os) = refl
  waits_or_closed_rests x s k (Some t) os =
      let due : ℕ = c.table.moment + 1000 * t.seconds in
      either_rests (nat_le due latest) (Ok (waits_until g c p x s k (Some due) (behind_open t.at k))) (Err Late) refl tt

  times_out_rests : (x : Context) (s : Selecting) (k : Remainder) (t : Option Timeout) → Rests (times_out g c p x s k t)
  times_out_rests x s k None = waits_or_closed_rests x s k None s.offered
  times_out_rests x s k (Some t) =
      either_rests (t.seconds == 0) (Ok (goes_on g c p x (behind_open t.at k))) (waits_or_closed g c p x s k (Some t) s.offered) alone
      (waits_or_closed_rests x s k (Some t) s.offered)

  goes_otherwise_rests : (x : Context) (s : Selecting) (k : Remainder) (other : Option Otherwise) → Rests (goes_otherwise g c p x s k other)
  goes_otherwise_rests x s k (Some other) = alone
  goes_otherwise_rests x s k None = times_out_rests x s k (open_timeout s.offered)

  decides_rests : (x : Context) (s : Selecting) (k : Remainder) (choice : ℕ) (places : List ℕ) → Rests (decides_by g c p x s k choice places)
  decides_rests x s k choice [] = goes_otherwise_rests x s k s.otherwise
  decides_rests x s k choice (place ∷ places) =
      let arms : List Arm = arms_of_all g c p s.offered in
      committed_rests c.table alone (slice_get (matched c.table.rows p arms) (place_taken s.pri choice)) p arms

  -- ## Resources

  scanned_all_rests : (x : Context) (s : Scan) (k : Remainder) (way : Way) → (scanned_all g c p x s k way).table.acting ≡ None
  scanned_all_rests x s k leave = given_rests (resources_held c) alone (next_entrant c.table.rows s.resource) s.resource
  scanned_all_rests x s k (own b) = alone

  scanned_to_rests : (x : Context) (s : Scan) (k : Remainder) (found : Option Tried) → (scanned_to g c p x s k found).table.acting ≡ None
  scanned_to_rests x s k None = scanned_all_rests x s k s.way
  scanned_to_rests x s k (Some w) = alone

  passed_by_rests : (x : Context) (w : Tried) (k : Remainder) (m : ℕ) (way : Way) → (passed_by g c p x w k m way).table.acting ≡ None
  passed_by_rests x w k m leave = alone
  passed_by_rests x w k m (own b) = refl

  -- ## Every action

  pub effect_rests : (choice : ℕ) (n : Action) → Rests (effect g c p choice n)
  effect_rests choice (reads x s u) = alone
  effect_rests choice (writes x s v k) = alone
  effect_rests choice (turns x k) = alone
  effect_rests choice (calls x call args) = calls_rests x call args
  effect_rests choice (finishes line) = ends_rests (activity_of g c p).activations
  effect_rests choice (prints x bytes k) = alone
  effect_rests choice (inputs x t s k) = read_rests x s k (item (simple_of t) c.input.bytes)
  effect_rests choice (skips x k) = skipped_rests x k (skipped c.input.whole_lines c.input.bytes)
  effect_rests choice (asks_eof x u) = alone
  effect_rests choice (asks_eoln x u) = alone
  effect_rests choice (asks_clock x u) = clocked_rests x u (fitting (pos (c.table.moment / 1000)))
  effect_rests choice (asks_empty x s u) = alone
  effect_rests choice (draws x n u) = drawn_rests x u (after_draw c.words n) (drawn c.words n)
  effect_rests choice (joins x k) = joined_rests x k
  effect_rests choice (initials x s n k) = initials_rests x s n k
  effect_rests choice (waits x s k) = waited_rests (number_for g c p s)
  effect_rests choice (signals x s k) = signals_rests x s k
  effect_rests choice (delays x s rank k) = delayed_rests (number_for g c p s) (monitor_of g (number_for g c p s)) rank
  effect_rests choice (resumes x s k) =
      let n : ℕ = number_for g c p s in resumed_rests (monitors_held c) alone (condition_waiter c.table.rows n) p (monitor_of g n)
  effect_rests choice (sleeps x n k) = sleeps_rests x n k
  effect_rests choice (meets x o k) = plainly_rests c.table alone p (arm_of g c p o.offer)
  effect_rests choice (decides x s k) = decides_rests x s k choice (matched_places g c p s)
  effect_rests choice (parts x caller k) = alone
  effect_rests choice (scans x s k) = scanned_to_rests x s k (tried_at g c (next_barred c.table.rows s.resource s.after))
  effect_rests choice (bars x b k) = refl
  effect_rests choice (passes x w s k) = passed_by_rests x w k s.resource s.way
  effect_rests choice (faults x f) = tt
