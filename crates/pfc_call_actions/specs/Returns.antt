-- Returns, and the beginnings of scans.
use Rattle.std.specs.Prelude.{ℕ, ◌≡◌, ◌<◌, Bool, false, List, length, get_or, set, None, Some, Ok}
use Rattle.pfc_code.specs.declared.images.Block.{Block}
use Rattle.pfc_stacks.specs.declared.marks.Mark.{Mark}
use Rattle.pfc_stacks.specs.declared.marks.Mark.TheVariants.{Plain, Monitor, Resource}
use Rattle.pfc_stacks.specs.Activations.{returned, returned_with, result_in, mark_in}
use Rattle.pfc_stacks.specs.Effects.{last_block}
use Rattle.pfc_stacks.specs.Stacks.{stack_of}
use Rattle.pfc_world.specs.Holders.{holder_in}
use Rattle.pfc_world.specs.Monitors.{handed_over}
use Rattle.pfc_machines.specs.declared.machine.Machine.{Machine}
use Rattle.pfc_machines.specs.Actions.{at_rest, Effect}
use Rattle.pfc_machines.specs.Descriptors.{descriptor_of, left}
use Rattle.pfc_object_actions.specs.Conditions.{monitors_held, with_monitors}

-- the last activation has ended
abbrev pub ended : ℕ → Machine → Machine
ended p m = record m {
  stacks = set m.stacks p (returned (stack_of m.stacks p));
  descriptors = set m.descriptors p (left (descriptor_of m.descriptors p));
}

-- The process scans, at an address, before it goes on where it is; where it has requeued, it keeps the resource behind the scan.
abbrev pub scans_from : ℕ → Bool → ℕ → Machine → Machine
scans_from scan requeued p m =
    let s = stack_of m.stacks p in
    record m {
      stacks = set m.stacks p (record s { at = scan });
      descriptors = set m.descriptors p (record (descriptor_of m.descriptors p) {
        scan = Some (record { back = s.at; after = None; tried = None; requeued = requeued });
      });
    }

-- From a monitor it hands over, and from a resource a scan comes behind it, while the process still holds the resource. `scans` holds the addresses of
-- scans.
abbrev pub returned_by : Mark → List ℕ → ℕ → Machine → Machine
returned_by Plain scans p m = ended p m
returned_by (Monitor n) scans p m = with_monitors (ended p m) (handed_over (monitors_held m) n)
returned_by (Resource g) scans p m = scans_from (get_or scans g 0) false p (ended p m)

-- `RET`
abbrev pub returns : List ℕ → ℕ → Machine → Effect
returns scans p m = Ok (at_rest (returned_by (mark_in (stack_of m.stacks p)) scans p m))

-- `RETF`
abbrev pub returns_result : List Block → ℕ → Machine → Effect
returns_result blocks p m =
    let s = stack_of m.stacks p in
    Ok (at_rest (record (ended p m) { stacks = set m.stacks p (returned_with (result_in (last_block blocks s) s) s) }))

-- who ends an activation that entered a monitor holds that one
abbrev pub HoldsMarked : Mark → ℕ → Machine → Type 0
HoldsMarked Plain p m = Unit {0}
HoldsMarked (Monitor n) p m = (n < length m.monitors.holders) × (holder_in m.monitors.holders n ≡ Some p)
HoldsMarked (Resource g) p m = Unit {0}
