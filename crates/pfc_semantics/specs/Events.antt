-- What an action was: its process and its line, the bytes that it wrote, the variables that it read or wrote, whom it made ready, and at which
-- objects it synchronised. A trace and a report of races are functions of this.
use Rattle.std.specs.Prelude.{ℕ, ◌+◌, Bool, true, false, not, ◌&&◌, if◌then◌else◌, List, [], ◌∷◌, ◌++◌, length, drop, Option, Some, None, slice_get, Ok, Err}
use Rattle.pfc_types.specs.Blocks.{module_at}
use Rattle.pfc_state.specs.Stands.{Stand, is_ready}
use Rattle.pfc_state.specs.declared.waits.Arm.{Arm}
use Rattle.pfc_state.specs.declared.waits.Arm.TheVariants.{Send as To, Receive as From, Accept as Entry}
use Rattle.pfc_world.specs.Partners.{is_accepting}
use Rattle.pfc_semantics.specs.Values.{Location, Value, points}
use Rattle.pfc_semantics.specs.Objects.{module_number}
use Rattle.pfc_semantics.specs.Displays.{Frame, Spot, frame_of}
use Rattle.pfc_semantics.specs.Programs.{Program}
use Rattle.pfc_semantics.specs.Remainders.{Accepting, Offer, Open, Argument, Call, Action, to_send, to_receive, to_accept, to_wait, to_end, to_module}
use Rattle.pfc_semantics.specs.Remainders.{to_requeue, to_entry, reads, writes, calls, finishes, inputs, asks_empty, initials, waits, signals, delays, resumes}
use Rattle.pfc_semantics.specs.Remainders.{meets, decides, parts, scans, bars, passes}
use Rattle.pfc_semantics.specs.Configurations.{Mark, plain, of_monitor, of_resource, Activation, Config, Effect, activity_of, location_for, number_for}
use Rattle.pfc_semantics.specs.Configurations.{all_passed, after}
use Rattle.pfc_semantics.specs.Channels.{Side, arm_of, side_of}
use Rattle.pfc_semantics.specs.Rendezvous.{asked}
use Rattle.pfc_semantics.specs.Selects.{partner_at, matched_places, open_at, place_taken}
use Rattle.pfc_semantics.specs.Monitors.{monitor_of}
use Rattle.pfc_semantics.specs.Steps.{next_of, line_of, effect}

-- a read or a write of what lies at a location
pub record Access : Type 0 where
  pub at : Location
  pub write : Bool

-- an object of a synchronisation; for calls of entries, accepts and their ends it is the called process
pub data Thing : Type 0 where
  a_semaphore : ℕ → Thing
  a_channel : ℕ → Thing
  a_monitor : ℕ → Thing
  a_resource : ℕ → Thing
  an_owner : ℕ → Thing

pub record Event : Type 0 where
  pub process : ℕ
  pub line : ℕ
  pub printed : List ℕ
  pub accesses : List Access
  pub wakes : List ℕ
  pub things : List Thing

-- ## Accesses

abbrev pub a_read : Location → List Access
a_read l = record { at = l; write = false } ∷ []

abbrev pub a_write : Location → List Access
a_write l = record { at = l; write = true } ∷ []

-- the parameters of an accept that take values are written; a reference is no access
abbrev pub parameter_writes : Frame → ℕ → List Value → List Access
parameter_writes f i [] = []
parameter_writes f i (points l ∷ vs) = parameter_writes f (i + 1) vs
parameter_writes f i (v ∷ vs) = a_write (record { activation = f.activation; variable = f.first + i; selectors = [] }) ++ parameter_writes f (i + 1) vs

abbrev pub meeting_writes : Program → Config → ℕ → Accepting → List Value → List Access
meeting_writes g c q a args = parameter_writes (frame_of (activity_of g c q).display a.scope) 0 args

-- a message is written to the receiver's variable, if it has one
abbrev pub message_write : Program → Config → ℕ → Option Spot → List Access
message_write g c q None = []
message_write g c q (Some target) = a_write (location_for g c q target)

-- what a partner's alternative has written by its side
abbrev pub written_beside : Program → Config → ℕ → List Value → Offer → List Access
written_beside g c q args (to_receive channel target) = message_write g c q target
written_beside g c q args (to_accept a) = meeting_writes g c q a args
written_beside g c q args offer = []

abbrev pub written_at : Program → Config → ℕ → List Value → Option Side → List Access
written_at g c q args None = []
written_at g c q args (Some s) = written_beside g c q args s.at.offer

-- the communication of the process that acts with q
abbrev pub communication_writes : Program → Config → ℕ → ℕ → Offer → Option Arm → List Access
communication_writes g c p q (to_send channel v) (Some (To n)) = written_at g c q [] (side_of g c q (From n))
communication_writes g c p q (to_receive channel target) arm = message_write g c p target
communication_writes g c p q (to_accept a) arm = meeting_writes g c p a (asked (activity_of g c q).hand)
communication_writes g c p q offer arm = []

abbrev pub met_writes : Program → Config → ℕ → Open → Option ℕ → List Access
met_writes g c p o None = []
met_writes g c p o (Some q) = communication_writes g c p q o.offer (arm_of g c p o.offer)

abbrev pub open_writes : Program → Config → ℕ → Option Open → List Access
open_writes g c p None = []
open_writes g c p (Some o) = met_writes g c p o (partner_at c p (arm_of g c p o.offer))

abbrev pub call_writes : Program → Config → ℕ → Call → List Argument → List Access
call_writes g c p (to_entry s entry k) args =
    let q = number_for g c p s in
    if is_accepting c.table.rows q entry then written_at g c q (all_passed g c p args) (side_of g c q (Entry entry)) else []
call_writes g c p call args = []

abbrev pub accesses_of : Program → Config → ℕ → ℕ → Action → List Access
accesses_of g c p choice (reads x s u) = a_read (location_for g c p s)
accesses_of g c p choice (writes x s v k) = a_write (location_for g c p s)
accesses_of g c p choice (inputs x t s k) = a_write (location_for g c p s)
accesses_of g c p choice (calls x call args) = call_writes g c p call args
accesses_of g c p choice (meets x o k) = open_writes g c p (Some o)
accesses_of g c p choice (decides x s k) = open_writes g c p (open_at s.offered (slice_get (matched_places g c p s) (place_taken s.pri choice)))
accesses_of g c p choice n = []

-- ## Objects

abbrev pub open_thing : Program → Config → ℕ → Offer → List Thing
open_thing g c p (to_send channel v) = a_channel (number_for g c p channel) ∷ []
open_thing g c p (to_receive channel target) = a_channel (number_for g c p channel) ∷ []
open_thing g c p (to_accept a) = an_owner p ∷ []
open_thing g c p (to_wait n) = []
open_thing g c p to_end = []

abbrev pub open_things : Program → Config → ℕ → List Open → List Thing
open_things g c p [] = []
open_things g c p (o ∷ os) = open_thing g c p o.offer ++ open_things g c p os

abbrev pub module_thing : Program → ℕ → Thing
module_thing g n =
    if (module_at g.state.blocks n).resource then a_resource (module_number g.state.blocks n) else a_monitor (module_number g.state.blocks n)

abbrev pub mark_things : Mark → List Thing
mark_things plain = []
mark_things (of_monitor m) = a_monitor m ∷ []
mark_things (of_resource r) = a_resource r ∷ []

-- the innermost activation, which a return or a requeue ends
abbrev pub innermost_things : List Activation → List Thing
innermost_things [] = []
innermost_things (a ∷ below) = mark_things a.mark

abbrev pub call_things : Program → Config → ℕ → Call → List Thing
call_things g c p (to_module n scope k) = module_thing g n ∷ []
call_things g c p (to_requeue scope) = innermost_things (activity_of g c p).activations
call_things g c p (to_entry s entry k) = an_owner (number_for g c p s) ∷ []
call_things g c p call = []

abbrev pub things_of : Program → Config → ℕ → Action → List Thing
things_of g c p (calls x call args) = call_things g c p call
things_of g c p (finishes line) = innermost_things (activity_of g c p).activations
things_of g c p (asks_empty x s u) = a_monitor (monitor_of g (number_for g c p s)) ∷ []
things_of g c p (initials x s n k) = a_semaphore (number_for g c p s) ∷ []
things_of g c p (waits x s k) = a_semaphore (number_for g c p s) ∷ []
things_of g c p (signals x s k) = a_semaphore (number_for g c p s) ∷ []
things_of g c p (delays x s rank k) = a_monitor (monitor_of g (number_for g c p s)) ∷ []
things_of g c p (resumes x s k) = a_monitor (monitor_of g (number_for g c p s)) ∷ []
things_of g c p (meets x o k) = open_thing g c p o.offer
things_of g c p (decides x s k) = open_things g c p s.offered
things_of g c p (parts x caller k) = an_owner p ∷ []
things_of g c p (scans x s k) = a_resource s.resource ∷ []
things_of g c p (bars x b k) = a_resource b.resource ∷ []
things_of g c p (passes x w s k) = a_resource s.resource ∷ []
things_of g c p n = []

-- ## Who is made ready

abbrev pub woken_from : ℕ → List Stand → List Stand → List ℕ
woken_from q (before ∷ rows) (now ∷ others) =
    if not (is_ready before) && is_ready now then q ∷ woken_from (q + 1) rows others else woken_from (q + 1) rows others
woken_from q rows others = []

-- ## The step

-- A fault changes nothing but the line, so it writes nothing, wakes nobody, and has no object.
abbrev pub event_of : Program → Config → ℕ → ℕ → Action → Effect → Event
event_of g c p choice n (Ok d) =
    record {
      process = p;
      line = line_of n;
      printed = drop (length c.output) d.output;
      accesses = accesses_of g c p choice n;
      wakes = woken_from 0 c.table.rows d.table.rows;
      things = things_of g c p n;
    }
event_of g c p choice n (Err f) = record { process = p; line = line_of n; printed = []; accesses = []; wakes = []; things = [] }

-- what a step comes to: the configuration behind it, and what its action was
pub record Step : Type 0 where
  pub config : Config
  pub event : Event

-- The step of a ready process: all that is quiet, and then the one action that comes next. `choice` is used only by a plain select with matched
-- alternatives.
abbrev pub step : Program → Config → ℕ → ℕ → Step
step g c p choice =
    let n = next_of g c p in
    let done = effect g c p choice n in
    record { config = after g c p (line_of n) done; event = event_of g c p choice n done }
