-- Calls.
use Rattle.std.specs.Prelude.{ℕ, ◌+◌, ◌≡◌, ◌≤◌, ◌<◌, ◌^◌, Bool, true, if◌then◌else◌, ℤ, List, length, get_or, set, Result, Ok, Err, is_ok}
use Rattle.std.specs.List.{slice_get}
use Rattle.pfc_base.specs.declared.faults.RunFault.TheVariants.{Stack as Full}
use Rattle.pfc_code.specs.declared.images.Block.{Block}
use Rattle.pfc_stacks.specs.declared.marks.Mark.{Mark}
use Rattle.pfc_stacks.specs.declared.marks.Mark.TheVariants.{Plain, Monitor, Resource}
use Rattle.pfc_stacks.specs.Activations.{has_place, called, main_link, params_of}
use Rattle.pfc_stacks.specs.Stacks.{Stacks, stack_of, operands_of, in_view}
use Rattle.pfc_world.specs.Holders.{Held, held_in}
use Rattle.pfc_world.specs.Monitors.{entered as monitor_entered}
use Rattle.pfc_world.specs.Resources.{resource_entered}
use Rattle.pfc_machines.specs.declared.actions.ActionFault.{ActionFault}
use Rattle.pfc_machines.specs.declared.actions.ActionFault.TheVariants.{Fault, Memory}
use Rattle.pfc_machines.specs.declared.machine.Machine.{Machine}
use Rattle.pfc_machines.specs.Actions.{at_rest, Effect}
use Rattle.pfc_machines.specs.Descriptors.{descriptor_of, entered, roomier}
use Rattle.pfc_machines.specs.Rooms.{no_room}
use Rattle.pfc_object_actions.specs.Conditions.{monitors_held, with_monitors}
use Rattle.pfc_call_actions.specs.declared.beginning.Entry.{Entry}
use Rattle.pfc_call_actions.specs.declared.beginning.Entry.TheVariants.{Inside, Outside}

-- ## Activations

-- Block b, number k of the image, is called by process p with a static link and a mark, and there is room for what its activation has to do with
-- others.
abbrev pub activated : ℕ → Block → ℤ → Mark → ℕ → Machine → Machine
activated k b link mark p m = record m {
  stacks = set m.stacks p (called k b link mark (stack_of m.stacks p));
  descriptors = set m.descriptors p (entered (roomier (descriptor_of m.descriptors p) (get_or m.rooms k no_room)));
}

-- fault 6 where its cells would be too many
abbrev pub unless_full : Bool → Machine → Effect
unless_full placed next = if placed then Ok (at_rest next) else Err Full

abbrev pub has_place_above : Block → ℕ → Machine → Bool
has_place_above b p m = has_place p (length (stack_of m.stacks p).cells) b

-- ## What they do

-- `CALL`: the static link lies so many links up.
abbrev pub calls : ℕ → Block → ℕ → ℕ → Machine → Effect
calls k b l p m = unless_full (has_place_above b p m) (activated k b (in_view m.stacks p l) Plain p m)

-- `MCALL`: a call from outside makes the activation and asks to enter, in one action: a free monitor is the caller's, else it waits.
abbrev pub calls_monitor : ℕ → ℕ → Block → ℕ → Machine → Effect
calls_monitor n k b p m =
    let inside = activated k b main_link (Monitor n) p m in
    unless_full (has_place_above b p m) (with_monitors inside (monitor_entered (monitors_held inside) p n))

-- the standings of a machine, and who holds its resources
abbrev pub resources_held : Machine → Held
resources_held m = held_in m.world m.resources

abbrev pub with_resources : Machine → Held → Machine
with_resources m h = record m { world = h.table; resources = h.holders }

-- `RCALL`: the same as for a monitor.
abbrev pub calls_resource : ℕ → ℕ → Block → ℕ → Machine → Effect
calls_resource g k b p m =
    let inside = activated k b main_link (Resource g) p m in
    unless_full (has_place_above b p m) (with_resources inside (resource_entered (resources_held inside) p g))

-- ## From where

abbrev pub link_by : Entry → ℕ → Stacks → ℤ
link_by (Inside l) p stacks = in_view stacks p l
link_by (Outside mark) p stacks = main_link

abbrev pub mark_by : Entry → Mark
mark_by (Inside l) = Plain
mark_by (Outside mark) = mark

-- ## When a process may call a block

pub record CanCall (blocks : List Block) (k p : ℕ) (m : Machine) : Type 0 where
  -- there is such a block
  pub block : k < length blocks
  -- its arguments are there
  pub arguments : params_of (slice_get blocks k) ≤ length (operands_of m.stacks p)
  -- activations are counted in 32 bits
  pub few : (descriptor_of m.descriptors p).activations + 1 < 2 ^ 32

-- ## What an answer tells

-- A fault changes nothing, nor does want of memory, which comes only where there is no fault.
abbrev pub IsGranted : Effect → Machine → Result Unit ActionFault → Machine → Type 0
IsGranted e old (Ok u) new = e ≡ Ok new
IsGranted e old (Err (Fault f)) new = (e ≡ Err f) × (new ≡ at_rest old)
IsGranted e old (Err Memory) new = (is_ok e ≡ true) × (new ≡ at_rest old)
