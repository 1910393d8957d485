-- No action but that of a `write` prints.
use Rattle.std.proofs.Common.{◌≡◌, ℕ, ℤ, pos, negsuc, zero, suc, Bool, nat_le, List, [], ◌∷◌, ◌++◌, Option, Some, None, Result, Ok, Err, refl, sym}
use Rattle.std.proofs.Common.{◌∙◌}
use Rattle.std.specs.Prelude.{◌+◌, ◌*◌, ◌/◌, if◌then◌else◌}
use Rattle.std.proofs.lemmas.List.{append-nil}
use Rattle.rand_pcg.specs.Lcg.{Lcg}
use Rattle.pfc_base.specs.declared.faults.RunFault.{RunFault}
use Rattle.pfc_base.specs.declared.faults.RunFault.TheVariants.{Stack, Active, NotActive, Late, Count as TooLarge}
use Rattle.pfc_state.specs.declared.waits.Arm.TheVariants.{Accept as Entry}
use Rattle.pfc_state.specs.declared.waits.Why.TheVariants.{Coend, Sleep}
use Rattle.pfc_state.specs.Stands.{is_unfinished}
use Rattle.pfc_sched.specs.Draws.{drawn, after_draw}
use Rattle.pfc_types.specs.Blocks.{module_at}
use Rattle.pfc_types.specs.rules.Expressions.{Env}
use Rattle.pfc_values.specs.Inputs.{Item, item, skipped}
use Rattle.pfc_values.specs.Numbers.{Outcome, fitting}
use Rattle.pfc_world.specs.Tables.{at, some_created}
use Rattle.pfc_world.specs.Transitions.{blocked, all_started}
use Rattle.pfc_world.specs.Partners.{is_accepting, next_barred}
use Rattle.pfc_world.specs.Rendezvous.{is_uncalled, called as called_in}
use Rattle.pfc_world.specs.Semaphores.{is_overfull, signalled}
use Rattle.pfc_world.specs.Monitors.{entered}
use Rattle.pfc_world.specs.Resources.{resource_entered}
use Rattle.pfc_semantics.specs.Values.{Value}
use Rattle.pfc_semantics.specs.Objects.{module_number}
use Rattle.pfc_semantics.specs.Operators.{simple_of}
use Rattle.pfc_semantics.specs.Displays.{Spot}
use Rattle.pfc_semantics.specs.Programs.{Block, Program, block_at}
use Rattle.pfc_semantics.specs.Remainders.{Context, Argument, Call, Remainder, AwaitsValue, Scan, Tried, Way, leave, own, to_procedure, to_function, to_module}
use Rattle.pfc_semantics.specs.Remainders.{to_requeue, to_process, to_entry, Action, reads, writes, turns, calls, finishes, prints, inputs, skips, asks_eof}
use Rattle.pfc_semantics.specs.Remainders.{asks_eoln, asks_clock, asks_empty, draws, joins, initials, waits, signals, delays, resumes, sleeps, meets, decides}
use Rattle.pfc_semantics.specs.Remainders.{parts, scans, bars, passes, faults}
use Rattle.pfc_semantics.specs.Configurations.{Mark, plain, of_monitor, of_resource, Caller, of_nobody, of_remainder, of_value, Activation, Config, Effect}
use Rattle.pfc_semantics.specs.Configurations.{asking, activity_of, goes_on, showing, number_for, all_passed, with_table, counted, with_counted, monitors_held}
use Rattle.pfc_semantics.specs.Configurations.{with_monitors, resources_held, with_resources, body_of}
use Rattle.pfc_semantics.specs.Calls.{cells_above, most_cells, unless_full, activated}
use Rattle.pfc_semantics.specs.Processes.{process_block, created, creates, joined}
use Rattle.pfc_semantics.specs.Semaphores.{initials_at, signals_to}
use Rattle.pfc_semantics.specs.Monitors.{enters_monitor}
use Rattle.pfc_semantics.specs.Resources.{guarded_body, enters_resource, scanned_all, scanned_to, tried_at, passed_by, requeued_in, requeues}
use Rattle.pfc_semantics.specs.Channels.{Side, side_of}
use Rattle.pfc_semantics.specs.Rendezvous.{called_at, enters}
use Rattle.pfc_semantics.specs.Selects.{latest}
use Rattle.pfc_semantics.specs.Time.{slept, sleeps_for, clocked}
use Rattle.pfc_semantics.specs.Steps.{enters_module, calls_by, returns_to, ends_for, ends_body, read_in, skipped_in, drawn_in, effect}
use Rattle.pfc_run_laws.specs.Outputs.{Extends}
use Rattle.pfc_run_laws.proofs.Communications.{Keeps, either_keeps, called_at_keeps, meets_keeps, decides_keeps}

full_keeps : (out : List ℕ) (p cells : ℕ) (d : Config) → d.output ≡ out → Keeps out (unless_full p cells d)
full_keeps out p cells d same = either_keeps out (nat_le cells (most_cells p)) (Ok d) (Err Stack) same tt

-- ## Calls

enters_module_keeps :
    (g : Program) (c : Config) (p n : ℕ) (b : Block) (caller : Caller) (args : List Argument) → Keeps c.output (enters_module g c p n b caller args)
enters_module_keeps g c p n b caller args =
    let m : ℕ = module_number g.state.blocks n in
    let cells : ℕ = cells_above (activity_of g c p).activations b in
    let monitor : Config = activated g c p b (of_monitor m) caller args (body_of b) in
    let resource : Config = activated g c p b (of_resource m) caller args (guarded_body g m b b.guard) in
    either_keeps c.output (module_at g.state.blocks n).resource (enters_resource g c p b m caller args) (enters_monitor g c p b m caller args)
    (full_keeps c.output p cells (with_resources resource (resource_entered (resources_held resource) p m)) refl)
    (full_keeps c.output p cells (with_monitors monitor (entered (monitors_held monitor) p m)) refl)

requeues_keeps :
    (g : Program) (c : Config) (p : ℕ) (b : Block) (args : List Argument) (activations : List Activation) → Keeps c.output (requeues g c p b args activations)
requeues_keeps g c p b args [] = refl
requeues_keeps g c p b args (a ∷ below) = full_keeps c.output p (cells_above below b) (requeued_in g c p b args a below) refl

creates_keeps :
    (g : Program) (c : Config) (p : ℕ) (x : Context) (s : Spot) (args : List Argument) (k : Remainder) → Keeps c.output (creates g c p x s args k)
creates_keeps g c p x s args k =
    let n : ℕ = number_for g c p s in
    let b : Block = process_block g n in
    let cells : ℕ = cells_above [] b in
    let d : Config = goes_on g (created g c n b (all_passed g c p args)) p x k in
    either_keeps c.output (is_unfinished (at c.table.rows n)) (Err Active) (unless_full n cells d) tt (full_keeps c.output n cells d refl)

enters_keeps :
    (g : Program) (c : Config) (p : ℕ) (x : Context) (s : Spot) (entry : ℕ) (args : List Argument) (k : Remainder) →
    Keeps c.output (enters g c p x s entry args k)
enters_keeps g c p x s entry args k =
    let q : ℕ = number_for g c p s in
    let values : List Value = all_passed g c p args in
    let waiting : Config = with_table (goes_on g c p x k) (called_in c.table p q entry) in
    let side : Option Side = side_of g c q (Entry entry) in
    let met : Effect = Ok (called_at g waiting p q values side) in
    let shown : Effect = Ok (showing g waiting p (asking values)) in
    let accepting : Bool = is_accepting c.table.rows q entry in
    either_keeps c.output (is_uncalled c.table q) (Err NotActive) (if accepting then met else shown) tt
    (either_keeps c.output accepting met shown (called_at_keeps g waiting p q values side) refl)

calls_keeps : (g : Program) (c : Config) (p : ℕ) (x : Context) (call : Call) (args : List Argument) → Keeps c.output (calls_by g c p x call args)
calls_keeps g c p x (to_procedure scope k) args =
    let b : Block = block_at g scope in
    full_keeps c.output p (cells_above (activity_of g c p).activations b) (activated g c p b plain (of_remainder x.env k) args (body_of b)) refl
calls_keeps g c p x (to_function scope u) args =
    let b : Block = block_at g scope in
    full_keeps c.output p (cells_above (activity_of g c p).activations b) (activated g c p b plain (of_value x u) args (body_of b)) refl
calls_keeps g c p x (to_module n scope k) args = enters_module_keeps g c p n (block_at g scope) (of_remainder x.env k) args
calls_keeps g c p x (to_requeue scope) args = requeues_keeps g c p (block_at g scope) args (activity_of g c p).activations
calls_keeps g c p x (to_process s k) args = creates_keeps g c p x s args k
calls_keeps g c p x (to_entry s entry k) args = enters_keeps g c p x s entry args k

-- ## Ends of bodies

returns_keeps :
    (g : Program) (c : Config) (p : ℕ) (a : Activation) (below : List Activation) (env : Env) (k : Remainder) (mark : Mark)
    → (returns_to g c p a below env k mark).output ≡ c.output
returns_keeps g c p a below env k plain = refl
returns_keeps g c p a below env k (of_monitor m) = refl
returns_keeps g c p a below env k (of_resource m) = refl

ends_for_keeps :
    (g : Program) (c : Config) (p : ℕ) (a : Activation) (below : List Activation) (caller : Caller) → (ends_for g c p a below caller).output ≡ c.output
ends_for_keeps g c p a below of_nobody = refl
ends_for_keeps g c p a below (of_remainder env k) = returns_keeps g c p a below env k a.mark
ends_for_keeps g c p a below (of_value x u) = refl

ends_keeps : (g : Program) (c : Config) (p : ℕ) (activations : List Activation) → Keeps c.output (ends_body g c p activations)
ends_keeps g c p [] = refl
ends_keeps g c p (a ∷ below) = ends_for_keeps g c p a below a.caller

-- ## Input, draws and time

read_keeps : (g : Program) (c : Config) (p : ℕ) (x : Context) (s : Spot) (k : Remainder) (read : Result Item RunFault) →
    Keeps c.output (read_in g c p x s k read)
read_keeps g c p x s k (Ok i) = refl
read_keeps g c p x s k (Err f) = tt

skipped_keeps : (g : Program) (c : Config) (p : ℕ) (x : Context) (k : Remainder) (left : Result (List ℕ) RunFault) → Keeps c.output (skipped_in g c p x k left)
skipped_keeps g c p x k (Ok left) = refl
skipped_keeps g c p x k (Err f) = tt

drawn_keeps :
    (g : Program) (c : Config) (p : ℕ) (x : Context) (u : AwaitsValue) (words : Lcg) (drawn : Result ℤ RunFault) →
    Keeps c.output (drawn_in g c p x u words drawn)
drawn_keeps g c p x u words (Ok n) = refl
drawn_keeps g c p x u words (Err f) = tt

slept_keeps : (g : Program) (c : Config) (p : ℕ) (x : Context) (n : ℕ) (k : Remainder) → Keeps c.output (slept g c p x n k)
slept_keeps g c p x zero k = refl
slept_keeps g c p x (suc n) k =
    let due : ℕ = c.table.moment + 1000 * suc n in
    either_keeps c.output (nat_le due latest) (Ok (with_table (goes_on g c p x k) (blocked c.table p (Sleep due) []))) (Err Late) refl tt

sleeps_keeps : (g : Program) (c : Config) (p : ℕ) (x : Context) (n : ℤ) (k : Remainder) → Keeps c.output (sleeps_for g c p x n k)
sleeps_keeps g c p x (pos n) k = slept_keeps g c p x n k
sleeps_keeps g c p x (negsuc n) k = tt

clocked_keeps : (g : Program) (c : Config) (p : ℕ) (x : Context) (u : AwaitsValue) (seconds : Outcome) → Keeps c.output (clocked g c p x u seconds)
clocked_keeps g c p x u (Ok n) = refl
clocked_keeps g c p x u (Err f) = tt

-- ## `coend`, semaphores and resources

joined_keeps : (g : Program) (c : Config) (p : ℕ) (x : Context) (k : Remainder) → Keeps c.output (joined g c p x k)
joined_keeps g c p x k =
    either_keeps c.output (some_created c.table.rows)
    (Ok (with_table (goes_on g c p x k) (blocked (all_started c.table) p Coend []))) (Ok (goes_on g c p x k)) refl refl

initials_keeps : (g : Program) (c : Config) (p : ℕ) (x : Context) (s : Spot) (n : ℤ) (k : Remainder) → Keeps c.output (initials_at g c p x s n k)
initials_keeps g c p x s (pos n) k = refl
initials_keeps g c p x s (negsuc n) k = tt

signals_keeps : (g : Program) (c : Config) (p : ℕ) (x : Context) (s : Spot) (k : Remainder) → Keeps c.output (signals_to g c p x s k)
signals_keeps g c p x s k =
    let n : ℕ = number_for g c p s in
    either_keeps c.output (is_overfull (counted c) n) (Err TooLarge) (Ok (with_counted (goes_on g c p x k) (signalled (counted c) n))) tt refl

scanned_all_keeps : (g : Program) (c : Config) (p : ℕ) (x : Context) (s : Scan) (k : Remainder) (way : Way) → (scanned_all g c p x s k way).output ≡ c.output
scanned_all_keeps g c p x s k leave = refl
scanned_all_keeps g c p x s k (own b) = refl

scanned_to_keeps : (g : Program) (c : Config) (p : ℕ) (x : Context) (s : Scan) (k : Remainder) (found : Option Tried) →
    (scanned_to g c p x s k found).output ≡ c.output
scanned_to_keeps g c p x s k None = scanned_all_keeps g c p x s k s.way
scanned_to_keeps g c p x s k (Some w) = refl

passed_by_keeps : (g : Program) (c : Config) (p : ℕ) (x : Context) (w : Tried) (k : Remainder) (m : ℕ) (way : Way) →
    (passed_by g c p x w k m way).output ≡ c.output
passed_by_keeps g c p x w k m leave = refl
passed_by_keeps g c p x w k m (own b) = refl

-- ## Every action

-- the output behind the action extends this
abbrev pub Grows : List ℕ → Effect → Type 0
Grows out (Ok d) = Extends out d.output
Grows out (Err f) = Unit {0}

kept : (out : List ℕ) (e : Effect) → Keeps out e → Grows out e
kept out (Ok d) same = ([], same ∙ sym (append-nil out))
kept out (Err f) same = tt

pub effect_grows : (g : Program) (c : Config) (p choice : ℕ) (n : Action) → Grows c.output (effect g c p choice n)
effect_grows g c p choice (reads x s u) = ([], sym (append-nil c.output))
effect_grows g c p choice (writes x s v k) = ([], sym (append-nil c.output))
effect_grows g c p choice (turns x k) = ([], sym (append-nil c.output))
effect_grows g c p choice (calls x call args) = kept c.output (calls_by g c p x call args) (calls_keeps g c p x call args)
effect_grows g c p choice (finishes line) = kept c.output (ends_body g c p (activity_of g c p).activations) (ends_keeps g c p (activity_of g c p).activations)
effect_grows g c p choice (prints x bytes k) = (bytes, refl)
effect_grows g c p choice (inputs x t s k) =
    kept c.output (read_in g c p x s k (item (simple_of t) c.input.bytes)) (read_keeps g c p x s k (item (simple_of t) c.input.bytes))
effect_grows g c p choice (skips x k) =
    kept c.output (skipped_in g c p x k (skipped c.input.whole_lines c.input.bytes)) (skipped_keeps g c p x k (skipped c.input.whole_lines c.input.bytes))
effect_grows g c p choice (asks_eof x u) = ([], sym (append-nil c.output))
effect_grows g c p choice (asks_eoln x u) = ([], sym (append-nil c.output))
effect_grows g c p choice (asks_clock x u) =
    kept c.output (clocked g c p x u (fitting (pos (c.table.moment / 1000)))) (clocked_keeps g c p x u (fitting (pos (c.table.moment / 1000))))
effect_grows g c p choice (asks_empty x s u) = ([], sym (append-nil c.output))
effect_grows g c p choice (draws x n u) =
    kept c.output (drawn_in g c p x u (after_draw c.words n) (drawn c.words n)) (drawn_keeps g c p x u (after_draw c.words n) (drawn c.words n))
effect_grows g c p choice (joins x k) = kept c.output (joined g c p x k) (joined_keeps g c p x k)
effect_grows g c p choice (initials x s n k) = kept c.output (initials_at g c p x s n k) (initials_keeps g c p x s n k)
effect_grows g c p choice (waits x s k) = ([], sym (append-nil c.output))
effect_grows g c p choice (signals x s k) = kept c.output (signals_to g c p x s k) (signals_keeps g c p x s k)
effect_grows g c p choice (delays x s rank k) = ([], sym (append-nil c.output))
effect_grows g c p choice (resumes x s k) = ([], sym (append-nil c.output))
effect_grows g c p choice (sleeps x n k) = kept c.output (sleeps_for g c p x n k) (sleeps_keeps g c p x n k)
effect_grows g c p choice (meets x o k) = kept c.output (effect g c p choice (meets x o k)) (meets_keeps g c p x o k)
effect_grows g c p choice (decides x s k) = kept c.output (effect g c p choice (decides x s k)) (decides_keeps g c p x s k choice)
effect_grows g c p choice (parts x caller k) = ([], sym (append-nil c.output))
effect_grows g c p choice (scans x s k) =
    ([], scanned_to_keeps g c p x s k (tried_at g c (next_barred c.table.rows s.resource s.after)) ∙ sym (append-nil c.output))
effect_grows g c p choice (bars x b k) = ([], sym (append-nil c.output))
effect_grows g c p choice (passes x w s k) = ([], passed_by_keeps g c p x w k s.resource s.way ∙ sym (append-nil c.output))
effect_grows g c p choice (faults x f) = tt
