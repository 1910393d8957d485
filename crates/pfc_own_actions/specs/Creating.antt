-- The creation of a process.
use Rattle.std.specs.Prelude.{ℕ, ◌≡◌, ◌<◌, Bool, true, false, if◌then◌else◌, length, get_or, set, Result, Ok, Err}
use Rattle.pfc_base.specs.declared.faults.RunFault.TheVariants.{Active, Stack}
use Rattle.pfc_code.specs.declared.images.Block.{Block}
use Rattle.pfc_state.specs.declared.standings.State.{State}
use Rattle.pfc_state.specs.declared.standings.State.TheVariants.{Idle, Done}
use Rattle.pfc_state.specs.Stands.{Is_created, is_unfinished}
use Rattle.pfc_stacks.specs.Activations.{has_place, created}
use Rattle.pfc_stacks.specs.declared.instructed.CallFault.{CallFault}
use Rattle.pfc_stacks.specs.declared.instructed.CallFault.TheVariants.{Stack as Full, Memory as Wanting}
use Rattle.pfc_stacks.specs.Refs.{number_of}
use Rattle.pfc_stacks.specs.Stacks.{operand, operands_of}
use Rattle.pfc_world.specs.Tables.{at}
use Rattle.pfc_world.specs.Transitions.{placed}
use Rattle.pfc_machines.specs.declared.machine.Machine.{Machine}
use Rattle.pfc_machines.specs.Actions.{at_rest, Effect}
use Rattle.pfc_machines.specs.Descriptors.{descriptor_of, begun}
use Rattle.pfc_machines.specs.Rooms.{no_room}

-- the number of the process lies below the arguments of its block
abbrev pub created_by : Machine → ℕ → Block → ℕ
created_by m p b = number_of (operand (operands_of m.stacks p) b.params)

-- Process q is created at block b, number k of the image, with the arguments that process p pops, over the number of q, and there is room for what
-- its activation has to do with others.
abbrev pub creation : ℕ → Block → ℕ → ℕ → Machine → Machine
creation k b p q m = record m {
  stacks = created k b q p m.stacks;
  world = placed m.world q Is_created;
  descriptors = set m.descriptors q (begun (descriptor_of m.descriptors q) (get_or m.rooms k no_room));
}

-- `NEW`: fault 9 where that process is created, ready or waiting; then fault 6 where its block has too many cells.
abbrev pub creates : ℕ → Block → ℕ → Machine → Effect
creates k b p m =
    let q = created_by m p b in
    if is_unfinished (at m.world.rows q)
    then Err Active
    else (if has_place q 0 b then Ok (at_rest (creation k b p q m)) else Err Stack)

-- a process that was activated and has not finished since, by its state
abbrev pub is_under_way : State → Bool
is_under_way Idle = false
is_under_way Done = false
is_under_way state = true

-- ## What an answer tells

-- what is left but for the standing of q
abbrev pub beginning : ℕ → Block → ℕ → ℕ → Machine → Machine
beginning k b p q m = record m {
  stacks = created k b q p m.stacks;
  descriptors = set m.descriptors q (begun (descriptor_of m.descriptors q) (get_or m.rooms k no_room));
}

-- It is refused for the stack only where the block has too many cells, and granted only where it has not; a refusal changes nothing.
abbrev pub IsBegun : ℕ → Block → ℕ → ℕ → Machine → Result Unit CallFault → Machine → Type 0
IsBegun k b p q old (Ok u) new = (has_place q 0 b ≡ true) × (new ≡ beginning k b p q old)
IsBegun k b p q old (Err Full) new = (has_place q 0 b ≡ false) × (new ≡ old)
IsBegun k b p q old (Err Wanting) new = new ≡ old

-- a process of the machine
pub record IsProcess (m : Machine) (q : ℕ) : Type 0 where
  pub row : q < length m.world.rows
  pub stack : q < length m.stacks
  pub descriptor : q < length m.descriptors
