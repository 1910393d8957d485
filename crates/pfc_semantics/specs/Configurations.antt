-- Configurations: all that there is between two actions.
use Rattle.std.specs.Prelude.{ℕ, ◌+◌, unsigned_abs, Bool, true, false, List, [], ◌∷◌, length, map, get_or, set, replicate, Option, Some, None, Result, Ok, Err}
use Rattle.rand_pcg.specs.Lcg.{Lcg}
use Rattle.pfc_base.specs.declared.faults.RunFault.{RunFault}
use Rattle.pfc_types.specs.Blocks.{process_at}
use Rattle.pfc_types.specs.rules.Expressions.{Env}
use Rattle.pfc_world.specs.Tables.{Table, start_table}
use Rattle.pfc_world.specs.Holders.{Held}
use Rattle.pfc_world.specs.Semaphores.{Counted}
use Rattle.pfc_world.specs.Transitions.{ticked}
use Rattle.pfc_sched.specs.Draws.{first_draws}
use Rattle.pfc_values.specs.Inputs.{Left as InputLeft, opened}
use Rattle.pfc_semantics.specs.Values.{Location, Value, ordinal_of, points}
use Rattle.pfc_semantics.specs.Store.{Store, with_room, value_at, stored}
use Rattle.pfc_semantics.specs.Objects.{of_kind}
use Rattle.pfc_semantics.specs.Displays.{Spot, Display, located}
use Rattle.pfc_semantics.specs.Programs.{Block, Program, block_at}
use Rattle.pfc_semantics.specs.Remainders.{Context, Open, Bar, Argument, by_value, by_reference, Remainder, AwaitsValue, ends, in_names}
use Rattle.pfc_semantics.specs.Statements.{behind}
use Rattle.pfc_semantics.specs.Rewriting.{Doing, going, holding}

-- ## Activations

-- by what its end is followed: nothing, the leaving of a monitor, or a scan of a resource
pub data Mark : Type 0 where
  plain : Mark
  of_monitor : ℕ → Mark
  of_resource : ℕ → Mark

-- what waits for the end of an activation: nobody where it is the first of its process, a statement, or an expression that waits for the
-- result of a function
pub data Caller : Type 0 where
  of_nobody : Caller
  of_remainder : Env → Remainder → Caller
  of_value : Context → AwaitsValue → Caller

-- A living activation: its number, the scope of its block, its mark, what waits for its end, and the display to which its end goes back.
-- `cells` counts its cells, those of the activations below it, and 8 for each of them.
pub record Activation : Type 0 where
  pub number : ℕ
  pub scope : ℕ
  pub mark : Mark
  pub caller : Caller
  pub display : Display
  pub cells : ℕ

-- ## Processes

-- what a process that waits shows to the others: the alternatives that it offers, of which a plain communication has one, with what is
-- left behind them; the arguments of its call of an entry; or the guard at which it is barred
pub data Hand : Type 0 where
  empty_hand : Hand
  offering : Context → List Open → Remainder → Hand
  asking : List Value → Hand
  barred_at : Bar → Hand

-- A process: what it is at, the display of its innermost activation, its living activations, innermost first, what it shows, and its line. Of a
-- process that waits, `doing` is what it does when it is ready.
pub record Activity : Type 0 where
  pub doing : Doing
  pub display : Display
  pub activations : List Activation
  pub hand : Hand
  pub line : ℕ

-- ## Configurations

-- the fault in which an action of a process ended, at a line
pub record FaultAt : Type 0 where
  pub process : ℕ
  pub line : ℕ
  pub fault : RunFault

pub record Config : Type 0 where
  -- by the number of the process, main being 0
  pub activities : List Activity
  -- the standings, the number of actions done, and the clock
  pub table : Table
  -- the count of each semaphore, and who holds each monitor and each resource
  pub counts : List ℕ
  pub monitors : List (Option ℕ)
  pub resources : List (Option ℕ)
  pub store : Store
  pub input : InputLeft
  pub output : List ℕ
  -- the words of `random`
  pub words : Lcg
  pub fault : Option FaultAt

-- ## Start

-- a body, and its end
abbrev pub body_of : Block → Remainder
body_of b = behind b.next b.stmts (ends b.last_line)

-- before main's own body come the initialising bodies of monitors and resources, in the order of the text
abbrev pub initialising : List Block → Remainder → Remainder
initialising [] k = k
initialising (b ∷ bs) k = in_names b.env (behind b.next b.stmts (initialising bs k))

abbrev pub main_remainder : Program → Remainder
main_remainder g = initialising g.modules (in_names g.main.env (body_of g.main))

-- Each activation counts 8 cells of its own.
abbrev pub main_activation : Program → Activation
main_activation g = record { number = 0; scope = 0; mark = plain; caller = of_nobody; display = []; cells = g.main.cells + 8 }

-- the line of main is that of its own `begin`, also where initialising bodies come first
abbrev pub main_activity : Program → Activity
main_activity g =
    record { doing = going g.main.env (main_remainder g); display = []; activations = main_activation g ∷ []; hand = empty_hand; line = g.main.first_line }

-- a process that was never activated, by its declaration: its line is that of its body's `begin`
abbrev pub declared_block : Program → ℕ → Block
declared_block g n = block_at g (process_at g.state.blocks n).scope

abbrev pub idle_activity : Program → ℕ → Activity
idle_activity g n =
    let b = declared_block g n in
    record { doing = going b.env (ends b.last_line); display = []; activations = []; hand = empty_hand; line = b.first_line }

-- how many monitors, and how many resources, there are
abbrev pub modules_of : Program → Bool → ℕ
modules_of g resource = of_kind resource g.state.blocks.modules

-- how many alternatives one select may have, at most, one with a spread counted once for each value
abbrev pub most_alternatives : ℕ
most_alternatives = 1024

-- before the first action: main is ready, and the other processes are idle; each has room for the alternatives of any select
abbrev pub start : Program → List ℕ → ℕ → Config
start g input seed =
    record {
      activities = main_activity g ∷ map (idle_activity g) g.objects.processes;
      table = start_table (1 + length g.objects.processes) most_alternatives;
      counts = replicate g.objects.semaphores 0;
      monitors = replicate (modules_of g false) None;
      resources = replicate (modules_of g true) None;
      store = with_room [] 0 g.variables;
      input = opened input;
      output = [];
      words = first_draws seed;
      fault = None;
    }

-- ## Parts of a configuration

-- what there is at no process
abbrev pub nobody : Program → Activity
nobody g = record { doing = going g.main.env (ends 0); display = []; activations = []; hand = empty_hand; line = 0 }

abbrev pub activity_of : Program → Config → ℕ → Activity
activity_of g c p = get_or c.activities p (nobody g)

abbrev pub with_activity : Config → ℕ → Activity → Config
with_activity c p a = record c { activities = set c.activities p a }

-- the process goes on so, and shows nothing
abbrev pub at_work : Activity → Doing → Activity
at_work a doing = record a { doing = doing; hand = empty_hand }

abbrev pub doing_next : Program → Config → ℕ → Doing → Config
doing_next g c p doing = with_activity c p (at_work (activity_of g c p) doing)

-- the process goes on with a remainder, or with a value
abbrev pub goes_on : Program → Config → ℕ → Context → Remainder → Config
goes_on g c p x k = doing_next g c p (going x.env k)

abbrev pub holds : Program → Config → ℕ → Context → Value → AwaitsValue → Config
holds g c p x v u = doing_next g c p (holding x v u)

-- the process shows this while it waits
abbrev pub showing : Program → Config → ℕ → Hand → Config
showing g c p hand = with_activity c p (record (activity_of g c p) { hand = hand })

-- where a spot lies for a process, and what lies there
abbrev pub location_for : Program → Config → ℕ → Spot → Location
location_for g c p s = located c.store (activity_of g c p).display s

abbrev pub value_for : Program → Config → ℕ → Spot → Value
value_for g c p s = value_at c.store (location_for g c p s)

-- the number of the object that a spot names: that is no read
abbrev pub number_for : Program → Config → ℕ → Spot → ℕ
number_for g c p s = unsigned_abs (ordinal_of (value_for g c p s))

-- a value is written to a spot of a process
abbrev pub written_for : Program → Config → ℕ → Spot → Value → Config
written_for g c p s v = record c { store = stored c.store (location_for g c p s) v }

-- an argument: its value, or where its variable lies
abbrev pub passed : Program → Config → ℕ → Argument → Value
passed g c p (by_value v) = v
passed g c p (by_reference s) = points (location_for g c p s)

abbrev pub all_passed : Program → Config → ℕ → List Argument → List Value
all_passed g c p args = map (passed g c p) args

-- ## Standings, counts and holders

abbrev pub with_table : Config → Table → Config
with_table c table = record c { table = table }

abbrev pub counted : Config → Counted
counted c = record { table = c.table; counts = c.counts }

abbrev pub with_counted : Config → Counted → Config
with_counted c w = record c { table = w.table; counts = w.counts }

abbrev pub monitors_held : Config → Held
monitors_held c = record { table = c.table; holders = c.monitors }

abbrev pub with_monitors : Config → Held → Config
with_monitors c h = record c { table = h.table; monitors = h.holders }

abbrev pub resources_held : Config → Held
resources_held c = record { table = c.table; holders = c.resources }

abbrev pub with_resources : Config → Held → Config
with_resources c h = record c { table = h.table; resources = h.holders }

-- ## The end of an action

-- what an action comes to: another configuration, or a fault
abbrev pub Effect : Type 0
Effect = Result Config RunFault

-- the process has the line, and the clock and the number of actions rise by 1
abbrev pub done_at : Program → Config → ℕ → ℕ → Config
done_at g c p line = with_activity (record c { table = ticked c.table }) p (record (activity_of g c p) { line = line })

-- A fault is an action that changes nothing else.
abbrev pub after : Program → Config → ℕ → ℕ → Effect → Config
after g c p line (Ok d) = done_at g d p line
after g c p line (Err f) = done_at g (record c { fault = Some (record { process = p; line = line; fault = f }) }) p line
