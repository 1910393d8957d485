-- What an action of a process leaves.
use Rattle.std.specs.Prelude.{ℕ, ◌+◌, ◌≡◌, ◌<◌, ◌^◌, List, ◌++◌, length, Some, Result, Ok, Err}
use Rattle.pfc_base.specs.declared.faults.RunFault.{RunFault}
use Rattle.pfc_base.specs.declared.faults.RunFault.TheVariants.{Stack as Full}
use Rattle.pfc_stacks.specs.declared.instructed.CallFault.{CallFault}
use Rattle.pfc_stacks.specs.declared.instructed.CallFault.TheVariants.{Stack, Memory as Short}
use Rattle.pfc_stacks.specs.Stacks.{stack_of}
use Rattle.pfc_values.specs.declared.pieces.PieceFault.{PieceFault}
use Rattle.pfc_values.specs.declared.pieces.PieceFault.TheVariants.{Fault as Refused, Memory as Wanting}
use Rattle.pfc_world.specs.Transitions.{rested}
use Rattle.pfc_machines.specs.declared.actions.ActionFault.{ActionFault}
use Rattle.pfc_machines.specs.declared.actions.ActionFault.TheVariants.{Fault, Memory}
use Rattle.pfc_machines.specs.declared.machine.Machine.{Machine}

-- who acted is ready, unless it waits or has finished
abbrev pub at_rest : Machine → Machine
at_rest m = record m { world = rested m.world }

-- What an action of a process comes to, before it is counted: another machine, or a fault.
abbrev pub Effect : Type 0
Effect = Result Machine RunFault

-- the same of an action that prints these bytes
pub record Printed : Type 0 where
  pub machine : Machine
  pub bytes : List ℕ

abbrev pub PrintedEffect : Type 0
PrintedEffect = Result Printed RunFault

-- ## When a process may perform an instruction

pub record Acts (p : ℕ) (m : Machine) : Type 0 where
  pub acting : m.world.acting ≡ Some p
  pub stack : p < length m.stacks
  pub descriptor : p < length m.descriptors
  -- addresses have 32 bits
  pub next : (stack_of m.stacks p).at + 1 < 2 ^ 32

-- ## Why an action is not performed

abbrev pub of_piece : PieceFault → ActionFault
of_piece (Refused f) = Fault f
of_piece Wanting = Memory

abbrev pub of_call : CallFault → ActionFault
of_call Stack = Fault Full
of_call Short = Memory

-- ## What an answer tells

-- a fault changes nothing
abbrev pub IsActed : Effect → Machine → Result Unit RunFault → Machine → Type 0
IsActed e old (Ok u) new = e ≡ Ok new
IsActed e old (Err f) new = (e ≡ Err f) × (new ≡ at_rest old)

-- nor does want of memory
abbrev pub IsTaken : Effect → Machine → Result Unit ActionFault → Machine → Type 0
IsTaken e old (Ok u) new = e ≡ Ok new
IsTaken e old (Err (Fault f)) new = (e ≡ Err f) × (new ≡ at_rest old)
IsTaken e old (Err Memory) new = new ≡ at_rest old

-- what was printed stands behind what was there
pub record IsPut (e : PrintedEffect) (new : Machine) (out out' : List ℕ) : Type 0 where
  pub printed : Printed
  pub is : e ≡ Ok printed
  pub machine : new ≡ printed.machine
  pub bytes : out' ≡ out ++ printed.bytes

abbrev pub IsPrinted : PrintedEffect → Machine → List ℕ → Result Unit ActionFault → Machine → List ℕ → Type 0
IsPrinted e old out (Ok u) new out' = IsPut e new out out'
IsPrinted e old out (Err (Fault f)) new out' = (e ≡ Err f) × (new ≡ at_rest old) × (out' ≡ out)
IsPrinted e old out (Err Memory) new out' = (new ≡ at_rest old) × (out' ≡ out)
