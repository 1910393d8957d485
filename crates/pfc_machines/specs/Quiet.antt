-- The quiet instructions that are not of the stacks alone: those that make alternatives of a select, and a guard by which nothing changes hands.
use Rattle.std.specs.Prelude.{ℕ, zero, suc, ◌+◌, ◌≤◌, ◌<◌, ◌^◌, ℤ, pos, negsuc, Bool, true, false, List, [], length, take, drop, get_or, set, Option, None}
use Rattle.std.specs.Prelude.{Some, ◌≡◌}
use Rattle.pfc_base.specs.declared.faults.RunFault.{RunFault}
use Rattle.pfc_base.specs.declared.faults.RunFault.TheVariants.{Below}
use Rattle.pfc_code.specs.declared.instructions.Instr.{Instr}
use Rattle.pfc_code.specs.declared.instructions.Instr.TheVariants.{GRD, ARMS, ARMR, ARMA, ARMT, ARMX}
use Rattle.pfc_code.specs.Operands.{told}
use Rattle.pfc_code.specs.Operands as table
use Rattle.pfc_stacks.specs.Effects.{passed}
use Rattle.pfc_stacks.specs.Refs.{number_of}
use Rattle.pfc_stacks.specs.Stacks.{stack_of, operand, operands_of}
use Rattle.pfc_values.specs.Numbers.{is_true}
use Rattle.pfc_machines.specs.declared.alternatives.Offer.{Offer}
use Rattle.pfc_machines.specs.declared.alternatives.Offer.TheVariants.{Send, Receive, Accept, Timeout, Terminate}
use Rattle.pfc_machines.specs.declared.descriptors.Scan.{Scan}
use Rattle.pfc_machines.specs.declared.machine.Machine.{Machine}
use Rattle.pfc_machines.specs.declared.quiet.Quiet.{Quiet}
use Rattle.pfc_machines.specs.declared.quiet.Quiet.TheVariants.{Passed, Faulted, Acts}
use Rattle.pfc_machines.specs.Descriptors.{descriptor_of, with_made}
use Rattle.pfc_machines.specs.Rooms.{room_for}

-- ## What they do

pub data QuietEffect : Type 0 where
  -- it leaves this machine
  goes : Machine → QuietEffect
  -- a fault, which is an action and leaves the instruction undone
  ends_in : RunFault → QuietEffect
  -- it is an action: it is left undone
  acts : QuietEffect

-- so many operands of the process are popped, and it goes on at the next instruction
abbrev pub left_by : Machine → ℕ → ℕ → Machine
left_by m p n = record m { stacks = passed m.stacks p (drop n (operands_of m.stacks p)) }

-- its last activation has made one alternative more, of so many operands, with the words of its message
abbrev pub makes : Machine → ℕ → Offer → ℕ → ℕ → List ℤ → Machine
makes m p offer branch n words =
    let d = descriptor_of m.descriptors p in
    record (left_by m p n) {
      descriptors = set m.descriptors p (with_made d (record { activation = d.activations; offer = offer; branch = branch }) words);
    }

-- the address lies over the channel's number; without cells there is none
abbrev pub receiving : ℕ → ℕ → ℕ → Machine → Machine
receiving zero branch p m = makes m p (Receive (number_of (operand (operands_of m.stacks p) 0)) 0 (pos 0)) branch 1 []
receiving (suc z) branch p m =
    let ops = operands_of m.stacks p in makes m p (Receive (number_of (operand ops 1)) (suc z) (operand ops 0)) branch 2 []

-- a number of seconds below 0 is a fault
abbrev pub timing : ℤ → ℕ → ℕ → Machine → QuietEffect
timing (pos n) branch p m = goes (makes m p (Timeout n) branch 1 [])
timing (negsuc n) branch p m = ends_in Below

-- whose guard a process tries, in a scan; None where it tries its own
abbrev pub tried_in : Option Scan → Option ℕ
tried_in None = None
tried_in (Some scan) = scan.tried

abbrev pub tried_by : Machine → ℕ → Option ℕ
tried_by m p = tried_in (descriptor_of m.descriptors p).scan

abbrev pub untried : Option Scan → Option Scan
untried None = None
untried (Some scan) = Some (record scan { tried = None })

-- The process goes back to the scan, at an address, and counts static links from its own activation again.
abbrev pub scans_on : ℕ → ℕ → Machine → Machine
scans_on scan p m =
    let s = stack_of m.stacks p in
    let d = descriptor_of m.descriptors p in
    record m {
      stacks = set m.stacks p (record s { at = scan; operands = drop 1 s.operands; looks_from = None });
      descriptors = set m.descriptors p (record d { scan = untried d.scan });
    }

-- Its own guard is true: it goes on at its body. That of another is false: it scans on. Else something changes hands.
abbrev pub guarding : Option ℕ → Bool → ℕ → ℕ → Machine → QuietEffect
guarding None true scan p m = goes (left_by m p 1)
guarding None false scan p m = acts
guarding (Some q) true scan p m = acts
guarding (Some q) false scan p m = goes (scans_on scan p m)

-- what such an instruction of process p does, in an image with these scans
abbrev pub quiet_effect : List ℕ → Instr → ℕ → Machine → QuietEffect
quiet_effect scans (ARMS z a) p m =
    let ops = operands_of m.stacks p in goes (makes m p (Send (number_of (operand ops z)) z) a (z + 1) (take z ops))
quiet_effect scans (ARMR z a) p m = goes (receiving z a p m)
quiet_effect scans (ARMA e d z a) p m = goes (makes m p (Accept e d z) a 0 [])
quiet_effect scans (ARMT a) p m = timing (operand (operands_of m.stacks p) 0) a p m
quiet_effect scans ARMX p m = goes (makes m p Terminate 0 0 [])
quiet_effect scans (GRD g) p m = guarding (tried_by m p) (is_true (operand (operands_of m.stacks p) 0)) (get_or scans g 0) p m
quiet_effect scans i p m = acts

-- ## When they may be performed

pub record CanGo (i : Instr) (p : ℕ) (m : Machine) : Type 0 where
  -- it is a process
  pub stack : p < length m.stacks
  pub descriptor : p < length m.descriptors
  -- it finds its operands, as the table of instructions has them
  pub held : told (table.operands_of i).reads ≤ length (operands_of m.stacks p)
  -- there is room for the alternative that it makes, and for the words of its message
  pub places : length (descriptor_of m.descriptors p).communications.alternatives + (room_for (length m.descriptors) i).alternatives ≤
      (descriptor_of m.descriptors p).communications.room.alternatives
  pub words : length (descriptor_of m.descriptors p).communications.words + (room_for (length m.descriptors) i).words ≤
      (descriptor_of m.descriptors p).communications.room.words
  -- addresses have 32 bits
  pub next : (stack_of m.stacks p).at + 1 < 2 ^ 32

-- ## What an answer tells of that

abbrev pub IsQuiet : QuietEffect → Machine → Quiet → Machine → Type 0
IsQuiet e old Passed new = e ≡ goes new
IsQuiet e old (Faulted f) new = (e ≡ ends_in f) × (new ≡ old)
IsQuiet e old Acts new = (e ≡ acts) × (new ≡ old)
