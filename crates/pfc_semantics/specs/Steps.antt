-- What an action does, one clause for each kind.
use Rattle.std.specs.Prelude.{ℕ, ℤ, if◌then◌else◌, List, [], ◌∷◌, ◌++◌, Result, Ok, Err}
use Rattle.rand_pcg.specs.Lcg.{Lcg}
use Rattle.pfc_base.specs.declared.faults.RunFault.{RunFault}
use Rattle.pfc_types.specs.Blocks.{module_at}
use Rattle.pfc_types.specs.rules.Expressions.{Env}
use Rattle.pfc_sched.specs.Draws.{drawn, after_draw}
use Rattle.pfc_values.specs.Numbers.{truth}
use Rattle.pfc_values.specs.Inputs.{Item, item, skipped, at_end, at_line_end}
use Rattle.pfc_semantics.specs.Values.{ordinal}
use Rattle.pfc_semantics.specs.Objects.{module_number}
use Rattle.pfc_semantics.specs.Displays.{Spot}
use Rattle.pfc_semantics.specs.Operators.{simple_of}
use Rattle.pfc_semantics.specs.Programs.{Block, Program, block_at}
use Rattle.pfc_semantics.specs.Remainders.{Context, Argument, Call, Remainder, AwaitsValue, Action, leave, in_names, scan_on, to_procedure, to_function}
use Rattle.pfc_semantics.specs.Remainders.{to_module, to_requeue, to_process, to_entry, reads, writes, turns, calls, finishes, prints, inputs, skips, asks_eof}
use Rattle.pfc_semantics.specs.Remainders.{asks_eoln, asks_clock, asks_empty, draws, joins, initials, waits, signals, delays, resumes, sleeps, meets, decides}
use Rattle.pfc_semantics.specs.Remainders.{parts, scans, bars, passes, faults}
use Rattle.pfc_semantics.specs.Rewriting.{going, holding, next}
use Rattle.pfc_semantics.specs.Configurations.{Mark, plain, of_monitor, of_resource, Caller, of_nobody, of_remainder, of_value, Activation, Config, Effect}
use Rattle.pfc_semantics.specs.Configurations.{activity_of, goes_on, holds, value_for, written_for}
use Rattle.pfc_semantics.specs.Calls.{called, left_by, result_in}
use Rattle.pfc_semantics.specs.Processes.{creates, joined, ended_process}
use Rattle.pfc_semantics.specs.Semaphores.{initials_at, waits_for, signals_to}
use Rattle.pfc_semantics.specs.Rendezvous.{enters, parted}
use Rattle.pfc_semantics.specs.Selects.{meets_at, decides_at}
use Rattle.pfc_semantics.specs.Monitors.{enters_monitor, leaves_monitor, delays_at, resumes_at, empties_at}
use Rattle.pfc_semantics.specs.Resources.{enters_resource, scan_of, barred_by, scans_at, passes_to, requeues}
use Rattle.pfc_semantics.specs.Time.{sleeps_for, clocks}

-- ## Calls and returns

-- an exported procedure of a monitor, or of a resource, is called from outside
abbrev pub enters_module : Program → Config → ℕ → ℕ → Block → Caller → List Argument → Effect
enters_module g c p n b caller args =
    if (module_at g.state.blocks n).resource
    then enters_resource g c p b (module_number g.state.blocks n) caller args
    else enters_monitor g c p b (module_number g.state.blocks n) caller args

abbrev pub calls_by : Program → Config → ℕ → Context → Call → List Argument → Effect
calls_by g c p x (to_procedure scope k) args = called g c p (block_at g scope) (of_remainder x.env k) args
calls_by g c p x (to_function scope u) args = called g c p (block_at g scope) (of_value x u) args
calls_by g c p x (to_module n scope k) args = enters_module g c p n (block_at g scope) (of_remainder x.env k) args
calls_by g c p x (to_requeue scope) args = requeues g c p (block_at g scope) args (activity_of g c p).activations
calls_by g c p x (to_process s k) args = creates g c p x s args k
calls_by g c p x (to_entry s entry k) args = enters g c p x s entry args k

-- A return goes back to the caller. From a monitor it hands over, and from a resource a scan comes behind it, while the process still holds the
-- resource.
abbrev pub returns_to : Program → Config → ℕ → Activation → List Activation → Env → Remainder → Mark → Config
returns_to g c p a below env k plain = left_by g c p a below (going env k)
returns_to g c p a below env k (of_monitor m) = leaves_monitor (left_by g c p a below (going env k)) m
returns_to g c p a below env k (of_resource r) = left_by g c p a below (going env (scan_on (scan_of g r leave) (in_names env k)))

-- The end of a body is the end of its activation: of the process, where that is its first.
abbrev pub ends_for : Program → Config → ℕ → Activation → List Activation → Caller → Config
ends_for g c p a below of_nobody = ended_process g c p
ends_for g c p a below (of_remainder env k) = returns_to g c p a below env k a.mark
ends_for g c p a below (of_value x u) = left_by g c p a below (holding x (result_in g c a) u)

abbrev pub ends_body : Program → Config → ℕ → List Activation → Effect
ends_body g c p [] = Ok (ended_process g c p)
ends_body g c p (a ∷ below) = Ok (ends_for g c p a below a.caller)

-- ## Input and draws

abbrev pub read_in : Program → Config → ℕ → Context → Spot → Remainder → Result Item RunFault → Effect
read_in g c p x s k (Ok i) =
    Ok (goes_on g (record (written_for g c p s (ordinal i.value)) { input = record c.input { bytes = i.left } }) p x k)
read_in g c p x s k (Err f) = Err f

abbrev pub skipped_in : Program → Config → ℕ → Context → Remainder → Result (List ℕ) RunFault → Effect
skipped_in g c p x k (Ok left) = Ok (goes_on g (record c { input = record c.input { bytes = left } }) p x k)
skipped_in g c p x k (Err f) = Err f

abbrev pub drawn_in : Program → Config → ℕ → Context → AwaitsValue → Lcg → Result ℤ RunFault → Effect
drawn_in g c p x u words (Ok m) = Ok (holds g (record c { words = words }) p x (ordinal m) u)
drawn_in g c p x u words (Err f) = Err f

-- ## Actions

-- what an action does; `choice` is the place that a plain select takes among its matched alternatives
abbrev pub effect : Program → Config → ℕ → ℕ → Action → Effect
effect g c p choice (reads x s u) = Ok (holds g c p x (value_for g c p s) u)
effect g c p choice (writes x s v k) = Ok (goes_on g (written_for g c p s v) p x k)
effect g c p choice (turns x k) = Ok (goes_on g c p x k)
effect g c p choice (calls x call args) = calls_by g c p x call args
effect g c p choice (finishes line) = ends_body g c p (activity_of g c p).activations
effect g c p choice (prints x bytes k) = Ok (goes_on g (record c { output = c.output ++ bytes }) p x k)
effect g c p choice (inputs x t s k) = read_in g c p x s k (item (simple_of t) c.input.bytes)
effect g c p choice (skips x k) = skipped_in g c p x k (skipped c.input.whole_lines c.input.bytes)
effect g c p choice (asks_eof x u) = Ok (holds g c p x (ordinal (truth (at_end c.input.bytes))) u)
effect g c p choice (asks_eoln x u) = Ok (holds g c p x (ordinal (truth (at_line_end c.input.bytes))) u)
effect g c p choice (asks_clock x u) = clocks g c p x u
effect g c p choice (asks_empty x s u) = empties_at g c p x s u
effect g c p choice (draws x n u) = drawn_in g c p x u (after_draw c.words n) (drawn c.words n)
effect g c p choice (joins x k) = joined g c p x k
effect g c p choice (initials x s n k) = initials_at g c p x s n k
effect g c p choice (waits x s k) = waits_for g c p x s k
effect g c p choice (signals x s k) = signals_to g c p x s k
effect g c p choice (delays x s rank k) = delays_at g c p x s rank k
effect g c p choice (resumes x s k) = resumes_at g c p x s k
effect g c p choice (sleeps x n k) = sleeps_for g c p x n k
effect g c p choice (meets x o k) = meets_at g c p x o k
effect g c p choice (decides x s k) = decides_at g c p x s k choice
effect g c p choice (parts x caller k) = parted g c p x caller k
effect g c p choice (scans x s k) = scans_at g c p x s k
effect g c p choice (bars x b k) = barred_by g c p x b k
effect g c p choice (passes x w s k) = passes_to g c p x w s k
effect g c p choice (faults x f) = Err f

-- the line of an action
abbrev pub line_of : Action → ℕ
line_of (reads x s u) = x.line
line_of (writes x s v k) = x.line
line_of (turns x k) = x.line
line_of (calls x call args) = x.line
line_of (finishes line) = line
line_of (prints x bytes k) = x.line
line_of (inputs x t s k) = x.line
line_of (skips x k) = x.line
line_of (asks_eof x u) = x.line
line_of (asks_eoln x u) = x.line
line_of (asks_clock x u) = x.line
line_of (asks_empty x s u) = x.line
line_of (draws x n u) = x.line
line_of (joins x k) = x.line
line_of (initials x s n k) = x.line
line_of (waits x s k) = x.line
line_of (signals x s k) = x.line
line_of (delays x s rank k) = x.line
line_of (resumes x s k) = x.line
line_of (sleeps x n k) = x.line
line_of (meets x o k) = x.line
line_of (decides x s k) = x.line
line_of (parts x caller k) = x.line
line_of (scans x s k) = x.line
line_of (bars x b k) = x.line
line_of (passes x w s k) = x.line
line_of (faults x f) = x.line

-- the action that comes next for a process
abbrev pub next_of : Program → Config → ℕ → Action
next_of g c p = next (activity_of g c p).doing
