-- When an action may be performed: what the crate of its kind asks.
use Rattle.std.specs.Prelude.{ℕ, ◌+◌, ◌*◌, ◌^◌, ◌≡◌, ◌≤◌, ◌<◌, true, false, List, length, Some, IfSome}
use Rattle.std.specs.List.{slice_get}
use Rattle.pfc_code.specs.declared.images.Block.{Block}
use Rattle.pfc_code.specs.declared.instructions.Instr.{Instr}
use Rattle.pfc_code.specs.declared.instructions.Instr.TheVariants.{CALL, RET, RETF, MCALL, RCALL, GRD, SCAN, REQ, NEW, SINI, SWAIT, SSIG, SEND, RECV, ECALL}
use Rattle.pfc_code.specs.declared.instructions.Instr.TheVariants.{ACC, EACC, SEL, DELAY, RESUME, EMPTY, CLOCK, RAND, WRS, RDI, RDC, EOF, EOLN}
use Rattle.pfc_code.specs.Images.{PlainImage}
use Rattle.pfc_meet.specs.Meetings.{IsInMeeting}
use Rattle.pfc_resource.specs.Scans.{IsBarredAt}
use Rattle.pfc_stacks.specs.Activations.{params_of, mark_in}
use Rattle.pfc_stacks.specs.Conditions.{AreLive}
use Rattle.pfc_stacks.specs.Refs.{ref_of}
use Rattle.pfc_stacks.specs.Stacks.{stack_of, operand, operands_of}
use Rattle.pfc_state.specs.declared.waits.Arm.TheVariants.{Send as To, Receive as From}
use Rattle.pfc_values.specs.declared.simple.Simple.TheVariants.{Integer}
use Rattle.pfc_values.specs.Numbers.{is_of}
use Rattle.pfc_world.specs.Holders.{holder_in}
use Rattle.pfc_world.specs.Partners.{is_empty_condition, is_accepting, receiver, sender, caller}
use Rattle.pfc_world.specs.Tables.{at}
use Rattle.pfc_world.specs.Tickets.{IsNew}
use Rattle.pfc_machines.specs.declared.machine.Machine.{Machine}
use Rattle.pfc_machines.specs.Actions.{Acts}
use Rattle.pfc_machines.specs.Quiet.{acts, left_by, quiet_effect, tried_by, CanGo}
use Rattle.pfc_own_actions.specs.Creating.{created_by, IsProcess}
use Rattle.pfc_object_actions.specs.Conditions.{monitor_of, is_inside}
use Rattle.pfc_object_actions.specs.Objects.{object_at}
use Rattle.pfc_call_actions.specs.Calls.{CanCall}
use Rattle.pfc_call_actions.specs.Returns.{HoldsMarked}
use Rattle.pfc_resource_actions.specs.Scans.{Holds}
use Rattle.pfc_message_actions.specs.Messages.{channel_under, channel_for, target_for, CanTake, CanGive}
use Rattle.pfc_meeting_actions.specs.Meetings.{called_by, last_caller, CanMeet, CanBeCalled}
use Rattle.pfc_select_actions.specs.Conditions.{CanDecide}

-- ## By instruction

abbrev pub CanSelect : Instr → ℕ → ℕ → Machine → Type 0
CanSelect (SEL mark x) choice p m = CanDecide mark choice p m
CanSelect i choice p m = Unit {0}

-- q may take a message of process p, and give it one
pub record CanSend (z p : ℕ) (m : Machine) : Type 0 where
  pub room : CanGo (SEND z) p m
  pub receiver : (q : ℕ) → receiver m.world.rows (channel_under z p m) ≡ Some q → CanTake m q (From (channel_under z p m)) z

pub record CanReceive (z p : ℕ) (m : Machine) : Type 0 where
  pub room : CanGo (RECV z) p m
  pub sender : (q : ℕ) → sender m.world.rows (channel_for z p m) ≡ Some q → CanGive m q (To (channel_for z p m)) (ref_of (target_for z p m))

pub record CanCallEntry (e z p : ℕ) (m : Machine) : Type 0 where
  pub held : z + 1 ≤ length (operands_of m.stacks p)
  pub known : called_by z p m < length m.world.rows
  pub owner : is_accepting m.world.rows (called_by z p m) e ≡ true → CanBeCalled (left_by m p 0) (called_by z p m) e z p

pub record CanAccept (e d z p : ℕ) (m : Machine) : Type 0 where
  pub room : CanGo (ACC e d z) p m
  pub caller : (q : ℕ) → caller m.world.rows p e ≡ Some q → CanMeet (left_by m p 0) p d z q

abbrev pub CanCommunicate : Instr → ℕ → ℕ → Machine → Type 0
CanCommunicate (SEND z) choice p m = CanSend z p m
CanCommunicate (RECV z) choice p m = CanReceive z p m
CanCommunicate (ECALL e z) choice p m = CanCallEntry e z p m
CanCommunicate (ACC e d z) choice p m = CanAccept e d z p m
CanCommunicate EACC choice p m = IfSome (last_caller p m) (λ (q : ℕ). IsInMeeting (at m.world.rows q))
CanCommunicate i choice p m = CanSelect i choice p m

pub record CanInitialise (p : ℕ) (m : Machine) : Type 0 where
  pub integer : is_of Integer (operand (operands_of m.stacks p) 0) ≡ true
  pub known : object_at 1 p m < length m.semaphores

pub record CanDelay (p : ℕ) (m : Machine) : Type 0 where
  pub integer : is_of Integer (operand (operands_of m.stacks p) 0) ≡ true
  pub known : object_at 1 p m < length m.monitors.owners
  pub holds : is_inside (monitor_of m (object_at 1 p m)) p m ≡ true → holder_in m.monitors.holders (monitor_of m (object_at 1 p m)) ≡ Some p

pub record CanResume (p : ℕ) (m : Machine) : Type 0 where
  pub known : object_at 0 p m < length m.monitors.owners
  pub holds : is_empty_condition m.world.rows (object_at 0 p m) ≡ false → holder_in m.monitors.holders (monitor_of m (object_at 0 p m)) ≡ Some p

pub record CanGuard (scans : List ℕ) (g p : ℕ) (m : Machine) : Type 0 where
  pub holds : Holds g p m
  pub action : quiet_effect scans (GRD g) p m ≡ acts
  pub barred : (q : ℕ) → tried_by m p ≡ Some q → IsBarredAt g (at m.world.rows q)

pub record CanScan (g p : ℕ) (m : Machine) : Type 0 where
  pub holds : Holds g p m
  pub processes : length m.world.rows ≤ length m.stacks

abbrev pub CanHold : PlainImage → Instr → ℕ → ℕ → Machine → Type 0
CanHold image SINI choice p m = CanInitialise p m
CanHold image SWAIT choice p m = object_at 0 p m < length m.semaphores
CanHold image SSIG choice p m = object_at 0 p m < length m.semaphores
CanHold image DELAY choice p m = CanDelay p m
CanHold image RESUME choice p m = CanResume p m
CanHold image EMPTY choice p m = 1 ≤ length (operands_of m.stacks p)
CanHold image (GRD g) choice p m = CanGuard image.scans g p m
CanHold image (SCAN g) choice p m = CanScan g p m
CanHold image i choice p m = CanCommunicate i choice p m

-- from outside
pub record CanEnter (blocks : List Block) (held k p : ℕ) (n : ℕ) (m : Machine) : Type 0 where
  pub known : n < held
  pub can : CanCall blocks k p m

pub record CanRequeue (blocks : List Block) (k p : ℕ) (m : Machine) : Type 0 where
  pub block : k < length blocks
  pub arguments : params_of (slice_get blocks k) ≤ length (operands_of m.stacks p)

pub record CanCreate (blocks : List Block) (k p : ℕ) (m : Machine) : Type 0 where
  pub block : k < length blocks
  pub arguments : params_of (slice_get blocks k) + 1 ≤ length (operands_of m.stacks p)
  pub process : (b : Block) → slice_get blocks k ≡ Some b → IsProcess m (created_by m p b)

abbrev pub HasRoom : ℕ → Machine → Type 0
HasRoom p m = length (operands_of m.stacks p) < (stack_of m.stacks p).room

abbrev pub CanActivate : PlainImage → Instr → ℕ → ℕ → Machine → Type 0
CanActivate image (CALL k l) choice p m = CanCall image.blocks k p m
CanActivate image (MCALL n k) choice p m = CanEnter image.blocks (length m.monitors.holders) k p n m
CanActivate image (RCALL g k) choice p m = CanEnter image.blocks (length m.resources) k p g m
CanActivate image RET choice p m = HoldsMarked (mark_in (stack_of m.stacks p)) p m
CanActivate image RETF choice p m = HasRoom p m
CanActivate image (REQ g k) choice p m = CanRequeue image.blocks k p m
CanActivate image (NEW k) choice p m = CanCreate image.blocks k p m
CanActivate image i choice p m = CanHold image i choice p m

pub record CanRead (p : ℕ) (m : Machine) : Type 0 where
  pub some : 1 ≤ length (operands_of m.stacks p)
  pub live : AreLive m.stacks (ref_of (operand (operands_of m.stacks p) 0)) 1

abbrev pub CanLive : PlainImage → Instr → ℕ → ℕ → Machine → Type 0
CanLive image CLOCK choice p m = HasRoom p m
CanLive image RAND choice p m = 1 ≤ length (operands_of m.stacks p)
CanLive image RDI choice p m = CanRead p m
CanLive image RDC choice p m = CanRead p m
CanLive image EOF choice p m = HasRoom p m
CanLive image EOLN choice p m = HasRoom p m
CanLive image i choice p m = CanActivate image i choice p m

-- an action that may print
abbrev pub CanPrint : PlainImage → Instr → ℕ → ℕ → Machine → Type 0
CanPrint image (WRS s w) choice p m = s < length image.texts
CanPrint image i choice p m = CanLive image i choice p m

-- ## Any action

-- the process acts, and the clock goes on
pub record IsActing (p : ℕ) (m : Machine) : Type 0 where
  pub acts : Acts p m
  pub fresh : IsNew m.world.rows m.world.done
  pub done : m.world.done < 10 ^ 18
  pub moment : m.world.moment < 2 * 10 ^ 18

-- what the instruction asks, where it is not of the stacks alone
pub record CanDo (image : PlainImage) (i : Instr) (choice p : ℕ) (m : Machine) : Type 0 where
  pub acting : IsActing p m
  pub can : CanPrint image i choice p m
