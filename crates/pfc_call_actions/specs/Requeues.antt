-- Requeues.
use Rattle.std.specs.Prelude.{ℕ, true, get_or, set}
use Rattle.pfc_code.specs.declared.images.Block.{Block}
use Rattle.pfc_stacks.specs.Activations.{has_place, replaced}
use Rattle.pfc_stacks.specs.Stacks.{stack_of}
use Rattle.pfc_machines.specs.declared.machine.Machine.{Machine}
use Rattle.pfc_machines.specs.Actions.{Effect}
use Rattle.pfc_machines.specs.Descriptors.{descriptor_of, roomier}
use Rattle.pfc_machines.specs.Rooms.{no_room}
use Rattle.pfc_call_actions.specs.Calls.{unless_full}
use Rattle.pfc_call_actions.specs.Returns.{scans_from}

-- Block b, number k of the image, takes the place of the last activation's, and there is room for what that has to do with others.
abbrev pub in_place : ℕ → Block → ℕ → Machine → Machine
in_place k b p m = record m {
  stacks = set m.stacks p (replaced k b (stack_of m.stacks p));
  descriptors = set m.descriptors p (roomier (descriptor_of m.descriptors p) (get_or m.rooms k no_room));
}

-- `REQ`: the activation gives way to one of the other block, with the same caller and the same way back. The process keeps the resource, and scans,
-- at this address, before it tries its own guard. The old activation is not counted for fault 6.
abbrev pub requeues : ℕ → ℕ → Block → ℕ → Machine → Effect
requeues scan k b p m = unless_full (has_place p (stack_of m.stacks p).base b) (scans_from scan true p (in_place k b p m))
