-- Turns of a scan.
use Rattle.std.specs.Prelude.{ℕ, ◌≡◌, ◌<◌, Bool, true, false, List, length, set, Option, None, Some, Ok}
use Rattle.std.specs.List.{slice_get}
use Rattle.pfc_code.specs.declared.images.Block.{Block}
use Rattle.pfc_resource.specs.declared.scans.Barred.{Barred}
use Rattle.pfc_resource.specs.Scans.{scanned}
use Rattle.pfc_stacks.specs.Stacks.{stack_of}
use Rattle.pfc_world.specs.Holders.{holder_in}
use Rattle.pfc_world.specs.Resources.{given_up}
use Rattle.pfc_machines.specs.declared.descriptors.Scan.{Scan}
use Rattle.pfc_machines.specs.declared.machine.Machine.{Machine}
use Rattle.pfc_machines.specs.Actions.{at_rest, Effect}
use Rattle.pfc_machines.specs.Descriptors.{descriptor_of}
use Rattle.pfc_call_actions.specs.Calls.{resources_held, with_resources}

-- a guarded procedure begins with its guard
abbrev pub entry_in : Option Block → ℕ
entry_in None = 0
entry_in (Some b) = b.entry

-- The process goes on at an address and scans nothing any more; it counts static links from its own activation.
abbrev pub scan_ended : ℕ → ℕ → Machine → Machine
scan_ended at p m = record m {
  stacks = set m.stacks p (record (stack_of m.stacks p) { at = at; looks_from = None });
  descriptors = set m.descriptors p (record (descriptor_of m.descriptors p) { scan = None });
}

-- It goes on at the guard of the procedure at which another one is barred, and counts static links from that one's activation.
abbrev pub tries : List Block → Scan → Barred → ℕ → Machine → Machine
tries blocks s b p m = record m {
  stacks = set m.stacks p (record (stack_of m.stacks p) { at = entry_in (slice_get blocks b.procedure); looks_from = Some b.process });
  descriptors = set m.descriptors p (record (descriptor_of m.descriptors p) { scan = Some (record s { after = Some b.ticket; tried = Some b.process }) });
}

-- A turn that finds no further barred process: behind a return the first entrant has the resource, or it is free, and the process goes on; behind a
-- requeue the process keeps it, and goes on at its own guard.
abbrev pub over : Bool → ℕ → Machine → Machine
over true g m = m
over false g m = with_resources m (given_up (resources_held m) g)

abbrev pub scanned_all : Scan → ℕ → ℕ → Machine → Machine
scanned_all s g p m = over s.requeued g (scan_ended s.back p m)

abbrev pub scanned_to : List Block → Scan → Option Barred → ℕ → ℕ → Machine → Machine
scanned_to blocks s None g p m = scanned_all s g p m
scanned_to blocks s (Some b) g p m = tries blocks s b p m

-- who scans nothing goes on
abbrev pub turned : List Block → Option Scan → ℕ → ℕ → Machine → Machine
turned blocks None g p m = m
turned blocks (Some s) g p m = scanned_to blocks s (scanned m.world.rows g s.after) g p m

-- `SCAN`: a turn takes the next barred process by ticket; then the process that scans evaluates that one's guard.
abbrev pub scans : List Block → ℕ → ℕ → Machine → Effect
scans blocks g p m = Ok (at_rest (turned blocks (descriptor_of m.descriptors p).scan g p m))

-- the process holds the resource
pub record Holds (g p : ℕ) (m : Machine) : Type 0 where
  pub known : g < length m.resources
  pub holder : holder_in m.resources g ≡ Some p
