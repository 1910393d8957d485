-- What an answer tells of an effect.
use Rattle.std.specs.Prelude.{ℕ, ◌≡◌, Bool, true, false, List, length, set, ℤ, Result, Ok, Err}
use Rattle.pfc_code.specs.declared.images.Block.{Block}
use Rattle.pfc_code.specs.declared.instructions.Instr.{Instr}
use Rattle.pfc_code.specs.declared.instructions.Instr.TheVariants.{CALL}
use Rattle.pfc_state.specs.declared.states.Running.{Running}
use Rattle.pfc_stacks.specs.declared.instructed.Performed.{Performed}
use Rattle.pfc_stacks.specs.declared.instructed.Performed.TheVariants.{Passed, Action, Faulted, Nothing}
use Rattle.pfc_stacks.specs.declared.instructed.Instructed.{Instructed}
use Rattle.pfc_stacks.specs.declared.instructed.Instructed.TheVariants.{Quiet, Acted, Fault, Outward, Memory}
use Rattle.pfc_stacks.specs.declared.instructed.CallFault.{CallFault}
use Rattle.pfc_stacks.specs.declared.instructed.CallFault.TheVariants.{Stack as Full, Memory as Wanting}
use Rattle.pfc_stacks.specs.declared.marks.Mark.{Mark}
use Rattle.pfc_stacks.specs.Activations.{has_place, called, created, replaced}
use Rattle.pfc_stacks.specs.Stacks.{Stack, Stacks, stack_of}
use Rattle.pfc_stacks.specs.Effects.{OwnEffect, quiet, action, fault, more, Effect, goes, acts, ends_in, outward, effect}

-- ## Instructions

-- what was done, where it left this address and these operands
abbrev pub own_effect_by : Performed → ℕ → List ℤ → OwnEffect
own_effect_by Passed at ops = quiet at ops
own_effect_by Action at ops = action at ops
own_effect_by (Faulted f) at ops = fault f
own_effect_by Nothing at ops = more

-- a fault and what is left to others change nothing
abbrev pub Changes : Performed → Stack → Stack → Type 0
Changes Passed old new = new ≡ record old { at = new.at; operands = new.operands }
Changes Action old new = new ≡ record old { at = new.at; operands = new.operands }
Changes (Faulted f) old new = new ≡ old
Changes Nothing old new = new ≡ old

-- only a call takes memory
abbrev pub IsCall : Instr → Type 0
IsCall (CALL k l) = Unit {0}
IsCall i = ⊥

-- the effect of what was done
abbrev pub IsDone : Effect → Stacks → Performed → Stacks → Type 0
IsDone e old Passed new = e ≡ goes new
IsDone e old Action new = e ≡ acts new
IsDone e old (Faulted f) new = (e ≡ ends_in f) × (new ≡ old)
IsDone e old Nothing new = (e ≡ outward) × (new ≡ old)

-- the process that performed an instruction
abbrev pub performer : Instructed → Running
performer (Quiet r) = r
performer (Acted r) = r
performer (Fault r f) = r
performer (Outward r instr) = r
performer (Memory r) = r

abbrev pub IsAction : Effect → Type 0
IsAction (acts stacks) = Unit {0}
IsAction e = ⊥

-- What the answer to instruction i of process p tells of its effect. Memory is wanting only for a call that has place; then all is as it was.
abbrev pub IsPerformed : List Block → Instr → ℕ → Stacks → Instructed → Stacks → Type 0
IsPerformed blocks i p old (Quiet r) new = effect blocks i p old ≡ goes new
IsPerformed blocks i p old (Acted r) new = effect blocks i p old ≡ acts new
IsPerformed blocks i p old (Fault r f) new = (effect blocks i p old ≡ ends_in f) × (new ≡ old)
IsPerformed blocks i p old (Outward r instr) new = (effect blocks i p old ≡ outward) × (instr ≡ i) × (new ≡ old)
IsPerformed blocks i p old (Memory r) new = IsCall i × IsAction (effect blocks i p old) × (new ≡ old)

-- ## Calls

-- What the answer to a call tells, which leaves `next` where the cells have place. It is refused for the stack exactly where they have none, and else
-- only for want of memory; then all is as it was.
abbrev pub IsCalled : {S : Type 0} → Bool → S → S → Result Unit CallFault → S → Type 0
IsCalled placed old next (Ok u) new = (placed ≡ true) × (new ≡ next)
IsCalled placed old next (Err Full) new = (placed ≡ false) × (new ≡ old)
IsCalled placed old next (Err Wanting) new = (placed ≡ true) × (new ≡ old)

-- a call by process p of block b, number k of the image
abbrev pub IsCallBy : ℕ → ℕ → Block → ℤ → Mark → Stacks → Result Unit CallFault → Stacks → Type 0
IsCallBy p k b link mark old result new =
    let s = stack_of old p in
    IsCalled (has_place p (length s.cells) b) old (set old p (called k b link mark s)) result new

-- the creation of process p at that block by another
abbrev pub IsCreatedBy : ℕ → ℕ → ℕ → Block → Stacks → Result Unit CallFault → Stacks → Type 0
IsCreatedBy from p k b old result new = IsCalled (has_place p 0 b) old (created k b p from old) result new

-- that block in place of the last activation's of process p, whose cells are not counted
abbrev pub IsReplacedBy : ℕ → ℕ → Block → Stacks → Result Unit CallFault → Stacks → Type 0
IsReplacedBy p k b old result new =
    let s = stack_of old p in
    IsCalled (has_place p s.base b) old (set old p (replaced k b s)) result new
