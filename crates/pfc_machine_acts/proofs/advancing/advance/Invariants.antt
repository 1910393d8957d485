use Rattle.std.proofs.Common.{◌≡◌, ◌<◌, ℕ, length}
use Rattle.pfc_code.specs.declared.instructions.Instr.{Instr}
use Rattle.pfc_code.specs.Images.{plain_image}
use Rattle.pfc_machines.specs.declared.machine.Machine.{Machine}
use Rattle.pfc_machine_acts.specs.Running.{IsNext, quiet_ahead}
use Rattle.pfc_machine_acts.proofs.advancing.advance.Given as goal

-- the process is before the same action as at the start
abbrev pub invariant-loop-next : goal.invariant-loop-next
invariant-loop-next l = record {
  process : l.r.number ≡ l.p;
  stack : l.p < length l.machine.stacks;
  some : (n : ℕ) × (m : Machine) × (i : Instr) × IsNext (plain_image l.image) l.p l.machine n m i;
  all : (n : ℕ) (m : Machine) (i : Instr) → IsNext (plain_image l.image) l.p l.fn.machine n m i
      → (k : ℕ) × IsNext (plain_image l.image) l.p l.machine k m i;
}

abbrev pub decreases-loop-next : goal.decreases-loop-next
decreases-loop-next l = quiet_ahead (plain_image l.image) l.p (length l.image.code.items) l.machine
