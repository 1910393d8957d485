-- Machines that tests begin with.
use Rattle.std.specs.Prelude.{ℕ, ℤ, pos, false, List, [], ◌∷◌, Option, None, Ok, Err}
use Rattle.pfc_code.specs.declared.images.Block.{Block}
use Rattle.pfc_sched.specs.Draws.{first_draws}
use Rattle.pfc_stacks.specs.Stacks.{Stack, idle_stack}
use Rattle.pfc_state.specs.Stands.{Is_idle, Is_created, Is_ready}
use Rattle.pfc_values.specs.Inputs.{opened}
use Rattle.pfc_world.specs.Tables.{Table}
use Rattle.pfc_world.specs.Transitions.{begun, ticked}
use Rattle.pfc_machines.specs.declared.alternatives.Offer.TheVariants.{Timeout}
use Rattle.pfc_machines.specs.declared.descriptors.Descriptor.{Descriptor}
use Rattle.pfc_machines.specs.declared.descriptors.Scan.{Scan}
use Rattle.pfc_machines.specs.declared.machine.Machine.{Machine}
use Rattle.pfc_machines.specs.Actions.{Effect}
use Rattle.pfc_machines.specs.Descriptors.{descriptor_by}
use Rattle.pfc_machines.specs.Communications.{no_communications}
use Rattle.pfc_machines.specs.Quiet.{makes, receiving}
use Rattle.pfc_machines.specs.Rooms.{room_by}
use Rattle.pfc_meeting_actions.specs.Meetings.{calls_entry, accepts}
use Rattle.pfc_message_actions.specs.Messages.{sends, receives}
use Rattle.pfc_select_actions.specs.Selects.{decides}

-- ## Blocks

-- by entry, parameters, cells and line
abbrev pub block_by : ℕ → ℕ → ℕ → ℕ → Block
block_by entry params cells line =
    record { label = 112 ∷ []; entry = entry; body = entry; params = params; cells = cells; operands = 8; level = 0; line = line }

-- a process, one with more cells than there is place for, and main
abbrev pub sample_blocks : List Block
sample_blocks = block_by 0 1 1 5 ∷ block_by 1 1 16377 6 ∷ block_by 2 0 2 9 ∷ []

-- ## Machines

-- main with these operands
abbrev pub main_with : List ℤ → Stack
main_with ops = record {
  at = 2;
  base = 0;
  cells = pos 0 ∷ pos 2 ∷ pos 0 ∷ pos 0 ∷ pos 0 ∷ pos 0 ∷ pos 0 ∷ pos 0 ∷ pos 0 ∷ pos 0 ∷ [];
  operands = ops;
  room = 8;
  spare = 0;
  looks_from = None;
}

-- main in its first activation, with this scan
abbrev pub main_descriptor : Option Scan → Descriptor
main_descriptor scan =
    record { line = 9; activations = 1; communications = record no_communications { room = room_by 5 2 2 }; offered = 0; scan = scan }

-- who acts, if somebody does
abbrev pub world_with : Option ℕ → Table
world_with acting = record { rows = Is_ready ∷ Is_idle ∷ []; acting = acting; done = 0; moment = 0; room = 4 }

-- main and one more process, over an input and a seed
abbrev pub machine_with : List ℤ → Option Scan → Option ℕ → List ℕ → ℕ → Machine
machine_with ops scan acting input seed = record {
  stacks = main_with ops ∷ idle_stack 0 ∷ [];
  world = world_with acting;
  semaphores = [];
  monitors = record { holders = []; owners = [] };
  resources = None ∷ None ∷ [];
  descriptors = main_descriptor scan ∷ descriptor_by 5 ∷ [];
  rooms = room_by 1 0 2 ∷ room_by 0 0 0 ∷ room_by 5 2 2 ∷ [];
  input = opened input;
  draws = first_draws seed;
  in_line = false;
}

-- main has two operands over 50, of which the last is the top
abbrev pub sample_machine : ℤ → ℤ → Option Scan → Option ℕ → List ℕ → ℕ → Machine
sample_machine a b scan acting input seed = machine_with (b ∷ a ∷ pos 50 ∷ []) scan acting input seed

-- ## Two processes

-- the other process in its first activation, whose parameter is 42
abbrev pub other_with : List ℤ → Stack
other_with ops = record {
  at = 0;
  base = 0;
  cells = pos 0 ∷ pos 0 ∷ pos 0 ∷ pos 0 ∷ pos 0 ∷ pos 0 ∷ pos 0 ∷ pos 0 ∷ pos 42 ∷ [];
  operands = ops;
  room = 8;
  spare = 0;
  looks_from = None;
}

abbrev pub other_descriptor : Descriptor
other_descriptor = record { line = 5; activations = 1; communications = record no_communications { room = room_by 1 0 2 }; offered = 0; scan = None }

-- main has created the other, and is over 50
abbrev pub created_machine : Machine
created_machine = record (machine_with [] None None [] 7) {
  stacks = record (main_with (pos 50 ∷ [])) { at = 3 } ∷ other_with [] ∷ [];
  world = record (world_with None) { rows = Is_ready ∷ Is_created ∷ [] };
  descriptors = main_descriptor None ∷ other_descriptor ∷ [];
}

-- both are ready
abbrev pub idle_pair : Machine
idle_pair = record created_machine {
  stacks = record (main_with (pos 50 ∷ [])) { at = 4 } ∷ other_with [] ∷ [];
  world = record (world_with None) { rows = Is_ready ∷ Is_ready ∷ [] };
}

-- both are ready, and have two operands each, main over 50
abbrev pub pair_machine : ℤ → ℤ → ℤ → ℤ → Machine
pair_machine a b c d =
    record idle_pair { stacks = record (main_with (b ∷ a ∷ pos 50 ∷ [])) { at = 4 } ∷ other_with (d ∷ c ∷ []) ∷ [] }

-- ## What actions leave

-- the machine that an action leaves, or any where it is a fault
abbrev pub left_by : Effect → Machine
left_by (Ok m) = m
left_by (Err f) = machine_with [] None None [] 7

-- a process acts
abbrev pub acting : ℕ → Machine → Machine
acting p m = record m { world = begun m.world p }

-- the action is counted
abbrev pub counted : Machine → Machine
counted m = record m { world = ticked m.world }

-- main has 7 over channel 3, and the other the address of its parameter over the same
abbrev pub message_pair : Machine
message_pair = pair_machine (pos 3) (pos 7) (pos 3) (pos 4294967304)

-- main has sent first
abbrev pub sent_first : Machine
sent_first = counted (left_by (sends 1 0 (acting 0 message_pair)))

-- the other has received first
abbrev pub received_first : Machine
received_first = counted (left_by (receives 1 1 (acting 1 message_pair)))

-- main has 7 over the number of the other
abbrev pub meeting_pair : Machine
meeting_pair = pair_machine (pos 1) (pos 7) (pos 3) (pos 4)

-- main has called first, and the call is accepted
abbrev pub called_first : Machine
called_first = counted (left_by (calls_entry 0 1 0 (acting 0 meeting_pair)))

abbrev pub accepted_then : Machine
accepted_then = counted (left_by (accepts 0 0 1 1 (acting 1 called_first)))

-- the other has waited first, and is called
abbrev pub accepted_first : Machine
accepted_first = counted (left_by (accepts 0 0 1 1 (acting 1 meeting_pair)))

abbrev pub called_then : Machine
called_then = counted (left_by (calls_entry 0 1 0 (acting 0 accepted_first)))

-- main has 2 over channel 3, and the other has the channel
abbrev pub select_pair : Machine
select_pair = pair_machine (pos 3) (pos 2) (pos 7) (pos 3)

-- main has a `timeout 2` with branch 9 open, and an alternative that receives from the channel, with branch 8
abbrev pub two_open : Machine
two_open = receiving 0 8 0 (makes select_pair 0 (Timeout 2) 9 1 [])

-- main has decided first, without a partner
abbrev pub waiting_select : Machine
waiting_select = counted (left_by (decides 0 0 0 0 (acting 0 two_open)))

-- the other has sent first
abbrev pub sender_waits : Machine
sender_waits = counted (left_by (sends 0 1 (acting 1 two_open)))
