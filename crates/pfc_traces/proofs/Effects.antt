-- No action makes a process or loses one.
use Rattle.std.proofs.Common.{◌≡◌, ℕ, ℤ, pos, negsuc, zero, suc, Bool, true, false, nat_le, List, [], ◌∷◌, length, Option, Some, None, Result, Ok, Err, refl}
use Rattle.std.proofs.Common.{ap, ◌∙◌}
use Rattle.std.specs.Prelude.{◌==◌, ◌+◌, ◌*◌, ◌/◌, if◌then◌else◌}
use Rattle.rand_pcg.specs.Lcg.{Lcg}
use Rattle.pfc_base.specs.declared.faults.RunFault.{RunFault}
use Rattle.pfc_base.specs.declared.faults.RunFault.TheVariants.{Stack, Active, NotActive, Late, Count as TooLarge}
use Rattle.pfc_state.specs.declared.waits.Arm.TheVariants.{Accept as Entry}
use Rattle.pfc_state.specs.declared.waits.Why.TheVariants.{Coend, Sleep, Condition}
use Rattle.pfc_state.specs.Stands.{Is_ready, Is_created, is_unfinished}
use Rattle.pfc_sched.specs.Draws.{drawn, after_draw}
use Rattle.pfc_types.specs.Blocks.{module_at}
use Rattle.pfc_types.specs.rules.Expressions.{Env}
use Rattle.pfc_values.specs.Inputs.{Item, item, skipped}
use Rattle.pfc_values.specs.Numbers.{Outcome, fitting}
use Rattle.pfc_world.specs.Tables.{Table, at, some_created}
use Rattle.pfc_world.specs.Transitions.{blocked, all_started}
use Rattle.pfc_world.specs.Holders.{Held, standing}
use Rattle.pfc_world.specs.Partners.{is_accepting, next_barred}
use Rattle.pfc_world.specs.Rendezvous.{is_uncalled, called as called_in}
use Rattle.pfc_world.specs.Semaphores.{is_overfull, signalled}
use Rattle.pfc_world.specs.Monitors.{entered, delayed}
use Rattle.pfc_world.specs.Resources.{resource_entered}
use Rattle.pfc_semantics.specs.Values.{Value}
use Rattle.pfc_semantics.specs.Objects.{module_number}
use Rattle.pfc_semantics.specs.Operators.{simple_of}
use Rattle.pfc_semantics.specs.Displays.{Spot}
use Rattle.pfc_semantics.specs.Programs.{Block, Program, block_at}
use Rattle.pfc_semantics.specs.Remainders.{Context, Argument, Call, Open, Offer, Otherwise, Selecting, Remainder, AwaitsValue, Scan, Tried, Way, leave, own}
use Rattle.pfc_semantics.specs.Remainders.{to_send, to_receive, to_accept, to_wait, to_end, to_procedure, to_function, to_module, to_requeue, to_process}
use Rattle.pfc_semantics.specs.Remainders.{to_entry, Action, reads, writes, turns, calls, finishes, prints, inputs, skips, asks_eof, asks_eoln, asks_clock}
use Rattle.pfc_semantics.specs.Remainders.{asks_empty, draws, joins, initials, waits, signals, delays, resumes, sleeps, meets, decides, parts, scans, bars}
use Rattle.pfc_semantics.specs.Remainders.{passes, faults}
use Rattle.pfc_semantics.specs.Configurations.{Mark, plain, of_monitor, of_resource, Caller, of_nobody, of_remainder, of_value, Activation, Config, Effect}
use Rattle.pfc_semantics.specs.Configurations.{asking, activity_of, goes_on, showing, number_for, all_passed, with_table, counted, with_counted, monitors_held}
use Rattle.pfc_semantics.specs.Configurations.{with_monitors, resources_held, with_resources, body_of}
use Rattle.pfc_semantics.specs.Calls.{cells_above, most_cells, unless_full, activated, left_by}
use Rattle.pfc_semantics.specs.Rewriting.{going}
use Rattle.pfc_semantics.specs.Processes.{process_block, created, creates, joined}
use Rattle.pfc_semantics.specs.Semaphores.{initials_at, signals_to}
use Rattle.pfc_semantics.specs.Monitors.{enters_monitor, is_inside, monitor_of}
use Rattle.pfc_semantics.specs.Resources.{guarded_body, enters_resource, scanned_all, scanned_to, tried_at, passed_by, requeued_in, requeues}
use Rattle.pfc_semantics.specs.Channels.{Side, arm_of, arms_of_all, behind_open, side_of}
use Rattle.pfc_semantics.specs.Rendezvous.{called_into, called_at, enters}
use Rattle.pfc_semantics.specs.Selects.{Timeout, latest, matched_places, place_taken, open_timeout, waits_until, waits_or_closed, times_out, goes_otherwise}
use Rattle.pfc_semantics.specs.Selects.{decides_by}
use Rattle.pfc_semantics.specs.Time.{slept, sleeps_for, clocked}
use Rattle.pfc_semantics.specs.Steps.{enters_module, calls_by, returns_to, ends_for, ends_body, read_in, skipped_in, drawn_in, effect}
use Rattle.pfc_traces.proofs.Rows.{SameRows, placed_rows, blocked_rows, started_rows, finished_rows, waited_rows, signalled_rows, entered_rows, handed_rows}
use Rattle.pfc_traces.proofs.Rows.{delayed_rows, resumed_rows, resource_entered_rows, given_up_rows, barred_rows, requeued_rows, plainly_rows, called_rows}
use Rattle.pfc_traces.proofs.Rows.{committed_rows}

-- what the action comes to has as many processes as this table
abbrev pub KeepsRows : Table → Effect → Type 0
KeepsRows w (Ok d) = SameRows w d.table
KeepsRows w (Err f) = Unit {0}

either_effect : (w : Table) (b : Bool) (d e : Effect) → KeepsRows w d → KeepsRows w e → KeepsRows w (if b then d else e)
either_effect w true d e first second = first
either_effect w false d e first second = second

full_keeps : (w : Table) (p cells : ℕ) (d : Config) → SameRows w d.table → KeepsRows w (unless_full p cells d)
full_keeps w p cells d same = either_effect w (nat_le cells (most_cells p)) (Ok d) (Err Stack) same tt

-- ## Calls

enters_module_keeps :
    (g : Program) (c : Config) (p n : ℕ) (b : Block) (caller : Caller) (args : List Argument) → KeepsRows c.table (enters_module g c p n b caller args)
enters_module_keeps g c p n b caller args =
    let m : ℕ = module_number g.state.blocks n in
    let cells : ℕ = cells_above (activity_of g c p).activations b in
    let monitor : Config = activated g c p b (of_monitor m) caller args (body_of b) in
    let resource : Config = activated g c p b (of_resource m) caller args (guarded_body g m b b.guard) in
    either_effect c.table (module_at g.state.blocks n).resource (enters_resource g c p b m caller args) (enters_monitor g c p b m caller args)
    (full_keeps c.table p cells (with_resources resource (resource_entered (resources_held resource) p m))
    (resource_entered_rows (resources_held resource) p m))
    (full_keeps c.table p cells (with_monitors monitor (entered (monitors_held monitor) p m)) (entered_rows (monitors_held monitor) p m))

requeues_keeps :
    (g : Program) (c : Config) (p : ℕ) (b : Block) (args : List Argument) (activations : List Activation)
    → KeepsRows c.table (requeues g c p b args activations)
requeues_keeps g c p b args [] = refl
requeues_keeps g c p b args (a ∷ below) = full_keeps c.table p (cells_above below b) (requeued_in g c p b args a below) refl

creates_keeps :
    (g : Program) (c : Config) (p : ℕ) (x : Context) (s : Spot) (args : List Argument) (k : Remainder) → KeepsRows c.table (creates g c p x s args k)
creates_keeps g c p x s args k =
    let n : ℕ = number_for g c p s in
    let b : Block = process_block g n in
    let cells : ℕ = cells_above [] b in
    let d : Config = goes_on g (created g c n b (all_passed g c p args)) p x k in
    either_effect c.table (is_unfinished (at c.table.rows n)) (Err Active) (unless_full n cells d) tt
    (full_keeps c.table n cells d (placed_rows c.table n Is_created))

called_into_keeps :
    (g : Program) (c : Config) (p q : ℕ) (args : List Value) (s : Side) (offer : Offer) → (called_into g c p q args s offer).table ≡ c.table
called_into_keeps g c p q args s (to_send channel v) = refl
called_into_keeps g c p q args s (to_receive channel target) = refl
called_into_keeps g c p q args s (to_accept a) = refl
called_into_keeps g c p q args s (to_wait n) = refl
called_into_keeps g c p q args s to_end = refl

called_at_keeps : (g : Program) (c : Config) (p q : ℕ) (args : List Value) (s : Option Side) → (called_at g c p q args s).table ≡ c.table
called_at_keeps g c p q args None = refl
called_at_keeps g c p q args (Some s) = called_into_keeps g c p q args s s.at.offer

enters_keeps :
    (g : Program) (c : Config) (p : ℕ) (x : Context) (s : Spot) (entry : ℕ) (args : List Argument) (k : Remainder)
    → KeepsRows c.table (enters g c p x s entry args k)
enters_keeps g c p x s entry args k =
    let q : ℕ = number_for g c p s in
    let values : List Value = all_passed g c p args in
    let waiting : Config = with_table (goes_on g c p x k) (called_in c.table p q entry) in
    let side : Option Side = side_of g c q (Entry entry) in
    let met : Effect = Ok (called_at g waiting p q values side) in
    let shown : Effect = Ok (showing g waiting p (asking values)) in
    let accepting : Bool = is_accepting c.table.rows q entry in
    let rows : SameRows c.table (called_in c.table p q entry) = called_rows c.table p q entry in
    either_effect c.table (is_uncalled c.table q) (Err NotActive) (if accepting then met else shown) tt
    (either_effect c.table accepting met shown (ap (λ (w : Table). length w.rows) (called_at_keeps g waiting p q values side) ∙ rows) rows)

calls_keeps : (g : Program) (c : Config) (p : ℕ) (x : Context) (call : Call) (args : List Argument) → KeepsRows c.table (calls_by g c p x call args)
calls_keeps g c p x (to_procedure scope k) args =
    let b : Block = block_at g scope in
    full_keeps c.table p (cells_above (activity_of g c p).activations b) (activated g c p b plain (of_remainder x.env k) args (body_of b)) refl
calls_keeps g c p x (to_function scope u) args =
    let b : Block = block_at g scope in
    full_keeps c.table p (cells_above (activity_of g c p).activations b) (activated g c p b plain (of_value x u) args (body_of b)) refl
calls_keeps g c p x (to_module n scope k) args = enters_module_keeps g c p n (block_at g scope) (of_remainder x.env k) args
calls_keeps g c p x (to_requeue scope) args = requeues_keeps g c p (block_at g scope) args (activity_of g c p).activations
calls_keeps g c p x (to_process s k) args = creates_keeps g c p x s args k
calls_keeps g c p x (to_entry s entry k) args = enters_keeps g c p x s entry args k

-- ## Ends of bodies

returns_keeps :
    (g : Program) (c : Config) (p : ℕ) (a : Activation) (below : List Activation) (env : Env) (k : Remainder) (mark : Mark)
    → SameRows c.table (returns_to g c p a below env k mark).table
returns_keeps g c p a below env k plain = refl
returns_keeps g c p a below env k (of_monitor m) = handed_rows (monitors_held (left_by g c p a below (going env k))) m
returns_keeps g c p a below env k (of_resource m) = refl

ends_for_keeps :
    (g : Program) (c : Config) (p : ℕ) (a : Activation) (below : List Activation) (caller : Caller) → SameRows c.table (ends_for g c p a below caller).table
ends_for_keeps g c p a below of_nobody = finished_rows c.table p
ends_for_keeps g c p a below (of_remainder env k) = returns_keeps g c p a below env k a.mark
ends_for_keeps g c p a below (of_value x u) = refl

ends_keeps : (g : Program) (c : Config) (p : ℕ) (activations : List Activation) → KeepsRows c.table (ends_body g c p activations)
ends_keeps g c p [] = finished_rows c.table p
ends_keeps g c p (a ∷ below) = ends_for_keeps g c p a below a.caller

-- ## Input, draws and time

read_keeps :
    (g : Program) (c : Config) (p : ℕ) (x : Context) (s : Spot) (k : Remainder) (read : Result Item RunFault)
    → KeepsRows c.table (read_in g c p x s k read)
read_keeps g c p x s k (Ok i) = refl
read_keeps g c p x s k (Err f) = tt

skipped_keeps :
    (g : Program) (c : Config) (p : ℕ) (x : Context) (k : Remainder) (left : Result (List ℕ) RunFault)
    → KeepsRows c.table (skipped_in g c p x k left)
skipped_keeps g c p x k (Ok left) = refl
skipped_keeps g c p x k (Err f) = tt

drawn_keeps :
    (g : Program) (c : Config) (p : ℕ) (x : Context) (u : AwaitsValue) (words : Lcg) (n : Result ℤ RunFault) → KeepsRows c.table (drawn_in g c p x u words n)
drawn_keeps g c p x u words (Ok n) = refl
drawn_keeps g c p x u words (Err f) = tt

slept_keeps : (g : Program) (c : Config) (p : ℕ) (x : Context) (n : ℕ) (k : Remainder) → KeepsRows c.table (slept g c p x n k)
slept_keeps g c p x zero k = refl
slept_keeps g c p x (suc n) k =
    let due : ℕ = c.table.moment + 1000 * suc n in
    either_effect c.table (nat_le due latest) (Ok (with_table (goes_on g c p x k) (blocked c.table p (Sleep due) []))) (Err Late)
    (blocked_rows c.table p (Sleep due) []) tt

sleeps_keeps : (g : Program) (c : Config) (p : ℕ) (x : Context) (n : ℤ) (k : Remainder) → KeepsRows c.table (sleeps_for g c p x n k)
sleeps_keeps g c p x (pos n) k = slept_keeps g c p x n k
sleeps_keeps g c p x (negsuc n) k = tt

clocked_keeps : (g : Program) (c : Config) (p : ℕ) (x : Context) (u : AwaitsValue) (seconds : Outcome) → KeepsRows c.table (clocked g c p x u seconds)
clocked_keeps g c p x u (Ok n) = refl
clocked_keeps g c p x u (Err f) = tt

-- ## `coend`, semaphores, monitors and resources

joined_keeps : (g : Program) (c : Config) (p : ℕ) (x : Context) (k : Remainder) → KeepsRows c.table (joined g c p x k)
joined_keeps g c p x k =
    either_effect c.table (some_created c.table.rows) (Ok (with_table (goes_on g c p x k) (blocked (all_started c.table) p Coend []))) (Ok (goes_on g c p x k))
    (blocked_rows (all_started c.table) p Coend [] ∙ started_rows c.table) refl

initials_keeps : (g : Program) (c : Config) (p : ℕ) (x : Context) (s : Spot) (n : ℤ) (k : Remainder) → KeepsRows c.table (initials_at g c p x s n k)
initials_keeps g c p x s (pos n) k = refl
initials_keeps g c p x s (negsuc n) k = tt

signals_keeps : (g : Program) (c : Config) (p : ℕ) (x : Context) (s : Spot) (k : Remainder) → KeepsRows c.table (signals_to g c p x s k)
signals_keeps g c p x s k =
    let n : ℕ = number_for g c p s in
    either_effect c.table (is_overfull (counted c) n) (Err TooLarge) (Ok (with_counted (goes_on g c p x k) (signalled (counted c) n))) tt
    (signalled_rows (counted c) n)

delays_keeps : (g : Program) (c : Config) (p : ℕ) (x : Context) (s : Spot) (rank : ℤ) (k : Remainder) → KeepsRows c.table (effect g c p 0 (delays x s rank k))
delays_keeps g c p x s rank k =
    let n : ℕ = number_for g c p s in
    let m : ℕ = monitor_of g n in
    let h : Held = monitors_held c in
    either (is_inside g c p m) (delayed h p m n rank) (standing h (blocked h.table p (Condition n rank) [])) (delayed_rows h p m n rank)
    (blocked_rows h.table p (Condition n rank) [])
  where
    either : (b : Bool) (u v : Held) → SameRows c.table u.table → SameRows c.table v.table → (let x : Held = if b then u else v in SameRows c.table x.table)
    either true u v first second = first
    either false u v first second = second

scanned_all_keeps :
    (g : Program) (c : Config) (p : ℕ) (x : Context) (s : Scan) (k : Remainder) (way : Way) → SameRows c.table (scanned_all g c p x s k way).table
scanned_all_keeps g c p x s k leave = given_up_rows (resources_held c) s.resource
scanned_all_keeps g c p x s k (own b) = refl

scanned_to_keeps :
    (g : Program) (c : Config) (p : ℕ) (x : Context) (s : Scan) (k : Remainder) (found : Option Tried) → SameRows c.table (scanned_to g c p x s k found).table
scanned_to_keeps g c p x s k None = scanned_all_keeps g c p x s k s.way
scanned_to_keeps g c p x s k (Some w) = refl

passed_by_keeps :
    (g : Program) (c : Config) (p : ℕ) (x : Context) (w : Tried) (k : Remainder) (m : ℕ) (way : Way) → SameRows c.table (passed_by g c p x w k m way).table
passed_by_keeps g c p x w k m leave = placed_rows c.table w.process Is_ready
passed_by_keeps g c p x w k m (own b) = requeued_rows (resources_held c) p m b.procedure w.process

-- ## Selects

waits_or_closed_keeps :
    (g : Program) (c : Config) (p : ℕ) (x : Context) (s : Selecting) (k : Remainder) (t : Option Timeout) (os : List Open)
    → KeepsRows c.table (waits_or_closed g c p x s k t os)
waits_or_closed_keeps g c p x s k None [] = tt
waits_or_closed_keeps g c p x s k None (o ∷ os) = blocked_rows c.table p _ (arms_of_all g c p s.offered)
waits_or_closed_keeps g c p x s k (Some t) os =
    let due : ℕ = c.table.moment + 1000 * t.seconds in
    either_effect c.table (nat_le due latest) (Ok (waits_until g c p x s k (Some due) (behind_open t.at k))) (Err Late)
    (blocked_rows c.table p _ (arms_of_all g c p s.offered)) tt

times_out_keeps :
    (g : Program) (c : Config) (p : ℕ) (x : Context) (s : Selecting) (k : Remainder) (t : Option Timeout) → KeepsRows c.table (times_out g c p x s k t)
times_out_keeps g c p x s k None = waits_or_closed_keeps g c p x s k None s.offered
times_out_keeps g c p x s k (Some t) =
    either_effect c.table (t.seconds == 0) (Ok (goes_on g c p x (behind_open t.at k))) (waits_or_closed g c p x s k (Some t) s.offered) refl
    (waits_or_closed_keeps g c p x s k (Some t) s.offered)

goes_otherwise_keeps :
    (g : Program) (c : Config) (p : ℕ) (x : Context) (s : Selecting) (k : Remainder) (other : Option Otherwise)
    → KeepsRows c.table (goes_otherwise g c p x s k other)
goes_otherwise_keeps g c p x s k (Some other) = refl
goes_otherwise_keeps g c p x s k None = times_out_keeps g c p x s k (open_timeout s.offered)

decides_by_keeps :
    (g : Program) (c : Config) (p : ℕ) (x : Context) (s : Selecting) (k : Remainder) (choice : ℕ) (places : List ℕ)
    → KeepsRows c.table (decides_by g c p x s k choice places)
decides_by_keeps g c p x s k choice [] = goes_otherwise_keeps g c p x s k s.otherwise
decides_by_keeps g c p x s k choice (place ∷ places) = committed_rows c.table p (arms_of_all g c p s.offered) (place_taken s.pri choice)

-- ## Every action

pub effect_keeps : (g : Program) (c : Config) (p choice : ℕ) (n : Action) → KeepsRows c.table (effect g c p choice n)
effect_keeps g c p choice (reads x s u) = refl
effect_keeps g c p choice (writes x s v k) = refl
effect_keeps g c p choice (turns x k) = refl
effect_keeps g c p choice (calls x call args) = calls_keeps g c p x call args
effect_keeps g c p choice (finishes line) = ends_keeps g c p (activity_of g c p).activations
effect_keeps g c p choice (prints x bytes k) = refl
effect_keeps g c p choice (inputs x t s k) = read_keeps g c p x s k (item (simple_of t) c.input.bytes)
effect_keeps g c p choice (skips x k) = skipped_keeps g c p x k (skipped c.input.whole_lines c.input.bytes)
effect_keeps g c p choice (asks_eof x u) = refl
effect_keeps g c p choice (asks_eoln x u) = refl
effect_keeps g c p choice (asks_clock x u) = clocked_keeps g c p x u (fitting (pos (c.table.moment / 1000)))
effect_keeps g c p choice (asks_empty x s u) = refl
effect_keeps g c p choice (draws x n u) = drawn_keeps g c p x u (after_draw c.words n) (drawn c.words n)
effect_keeps g c p choice (joins x k) = joined_keeps g c p x k
effect_keeps g c p choice (initials x s n k) = initials_keeps g c p x s n k
effect_keeps g c p choice (waits x s k) = waited_rows (counted c) p (number_for g c p s)
effect_keeps g c p choice (signals x s k) = signals_keeps g c p x s k
effect_keeps g c p choice (delays x s rank k) = delays_keeps g c p x s rank k
effect_keeps g c p choice (resumes x s k) = let n : ℕ = number_for g c p s in resumed_rows (monitors_held c) p (monitor_of g n) n
effect_keeps g c p choice (sleeps x n k) = sleeps_keeps g c p x n k
effect_keeps g c p choice (meets x o k) = plainly_rows c.table p (arm_of g c p o.offer)
effect_keeps g c p choice (decides x s k) = decides_by_keeps g c p x s k choice (matched_places g c p s)
effect_keeps g c p choice (parts x caller k) = placed_rows c.table caller Is_ready
effect_keeps g c p choice (scans x s k) = scanned_to_keeps g c p x s k (tried_at g c (next_barred c.table.rows s.resource s.after))
effect_keeps g c p choice (bars x b k) = barred_rows (resources_held c) p b.resource b.procedure
effect_keeps g c p choice (passes x w s k) = passed_by_keeps g c p x w k s.resource s.way
effect_keeps g c p choice (faults x f) = tt
