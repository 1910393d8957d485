-- What a process does with its partner, once both have met, and while it waits for one.
use Rattle.std.specs.Prelude.{ℕ, ◌≤◌, Option, set, length}
use Rattle.pfc_state.specs.declared.waits.Arm.{Arm}
use Rattle.pfc_stacks.specs.Stacks.{stack_of}
use Rattle.pfc_machines.specs.declared.alternatives.KeptAlternative.{KeptAlternative}
use Rattle.pfc_machines.specs.declared.alternatives.Sought.TheVariants.{OpenTo}
use Rattle.pfc_machines.specs.declared.machine.Machine.{Machine}
use Rattle.pfc_machines.specs.Descriptors.{descriptor_of, offering, withdrawn}
use Rattle.pfc_machines.specs.Offers.{last_made, first_sought}

-- ## While it waits

-- it offers its last n alternatives
abbrev pub offers : Machine → ℕ → ℕ → Machine
offers m p n = record m { descriptors = set m.descriptors p (offering n (descriptor_of m.descriptors p)) }

-- ## Once it is met

-- A process that waits offers alternatives, also in a plain communication, and is met at the first of them in the text that is open to this.
abbrev pub open_to : Machine → ℕ → Arm → Option KeptAlternative
open_to m q arm = let d = descriptor_of m.descriptors q in first_sought (OpenTo arm) (last_made d.offered d.communications)

-- it goes on at a branch, and what it offered is gone
abbrev pub goes_behind : Machine → ℕ → ℕ → Machine
goes_behind m q branch = record m {
  stacks = set m.stacks q (record (stack_of m.stacks q) { at = branch });
  descriptors = set m.descriptors q (withdrawn (descriptor_of m.descriptors q));
}

-- ## What is so of every process

-- what it offers, it has made
abbrev pub IsOffering : Machine → ℕ → Type 0
IsOffering m q = let d = descriptor_of m.descriptors q in d.offered ≤ length d.communications.alternatives
