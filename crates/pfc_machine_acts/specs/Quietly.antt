-- What instructions do quietly: nothing that another process may see.
use Rattle.std.specs.Prelude.{ℕ, ◌≡◌, ◌<◌, length, Option}
use Rattle.std.specs.Prelude.{Ok}
use Rattle.std.specs.List.{slice_get}
use Rattle.pfc_code.specs.declared.instructions.Instr.{Instr}
use Rattle.pfc_code.specs.declared.instructions.Instr.TheVariants.{CALL, RET, RETF}
use Rattle.pfc_code.specs.Images.{PlainImage}
use Rattle.pfc_stacks.specs.Conditions.{CanPerform}
use Rattle.pfc_stacks.specs.Effects as stacked
use Rattle.pfc_stacks.specs.Stacks.{stack_of}
use Rattle.pfc_machines.specs.declared.machine.Machine.{Machine}
use Rattle.pfc_state.specs.declared.states.Running.{Running}
use Rattle.pfc_machines.specs.Actions.{at_rest}
use Rattle.pfc_machine_acts.specs.declared.stepping.Stepped.{Stepped}
use Rattle.pfc_machine_acts.specs.declared.stepping.Stepped.TheVariants.{Passed, Acted, Faulted, Stands}
use Rattle.pfc_machine_acts.specs.Performing.{acts_by, performs, silent, choices_for}
use Rattle.pfc_machines.specs.Quiet.{QuietEffect, goes, ends_in, acts, quiet_effect, CanGo}

-- an effect on the stacks, of an instruction that comes to this where it is not of the stacks alone
abbrev pub on_stacks : stacked.Effect → QuietEffect → Machine → QuietEffect
on_stacks (stacked.goes stacks) outward m = goes (record m { stacks = stacks })
on_stacks (stacked.acts stacks) outward m = acts
on_stacks (stacked.ends_in f) outward m = ends_in f
on_stacks stacked.outward outward m = outward

-- What an instruction of process p does. Calls and returns are actions, of more than the stacks.
abbrev pub quietly : PlainImage → Instr → ℕ → Machine → QuietEffect
quietly image (CALL k l) p m = acts
quietly image RET p m = acts
quietly image RETF p m = acts
quietly image i p m = on_stacks (stacked.effect image.blocks i p m.stacks) (quiet_effect image.scans i p m) m

-- the instruction of a process that comes next
abbrev pub next_instr : PlainImage → ℕ → Machine → Option Instr
next_instr image p m = slice_get image.code (stack_of m.stacks p).at

-- ## When it may be tried whether an instruction is quiet

pub record CanTry (image : PlainImage) (i : Instr) (p : ℕ) (m : Machine) : Type 0 where
  pub stack : p < length m.stacks
  pub performed : CanPerform image.blocks i p m.stacks
  pub goes : stacked.effect image.blocks i p m.stacks ≡ stacked.outward → CanGo i p m

-- Of calls and returns nothing is asked: that they act is told without a try.
abbrev pub CanStep : PlainImage → Instr → ℕ → Machine → Type 0
CanStep image (CALL k l) p m = Unit {0}
CanStep image RET p m = Unit {0}
CanStep image RETF p m = Unit {0}
CanStep image i p m = CanTry image i p m

-- ## What an answer tells

-- who performed the instruction
abbrev pub stepper : Stepped → Running
stepper (Passed r) = r
stepper (Acted r) = r
stepper (Faulted r f) = r
stepper (Stands r) = r

-- of an instruction that the stacks leave to others
abbrev pub IsOutward : QuietEffect → Machine → Stepped → Machine → Type 0
IsOutward e old (Passed r) new = e ≡ goes new
IsOutward e old (Acted r) new = ⊥
IsOutward e old (Faulted r f) new = (e ≡ ends_in f) × (new ≡ old)
IsOutward e old (Stands r) new = (e ≡ acts) × (new ≡ old)

-- of one that was tried, by its effect on the stacks, and what it comes to where it has none
abbrev pub IsTried : stacked.Effect → QuietEffect → Machine → Stepped → Machine → Type 0
IsTried e outward old (Passed r) new = on_stacks e outward old ≡ goes new
IsTried e outward old (Acted r) new = (e ≡ stacked.acts new.stacks) × (new ≡ record old { stacks = new.stacks })
IsTried e outward old (Faulted r f) new = (on_stacks e outward old ≡ ends_in f) × (new ≡ old)
IsTried e outward old (Stands r) new = (e ≡ stacked.outward) × (outward ≡ acts) × (new ≡ old)

-- Of any. An action of the stacks alone is done, and any other is left undone, as a fault is.
abbrev pub IsStepped : PlainImage → Instr → ℕ → Machine → Stepped → Machine → Type 0
IsStepped image i p old (Passed r) new = quietly image i p old ≡ goes new
IsStepped image i p old (Acted r) new =
    (quietly image i p old ≡ acts) × (new.world ≡ old.world) × ((choice : ℕ) → acts_by image i choice p old ≡ silent (Ok (at_rest new)))
    × (choices_for i p old ≡ 0)
IsStepped image i p old (Faulted r f) new = (quietly image i p old ≡ ends_in f) × (new ≡ old)
IsStepped image i p old (Stands r) new =
    (quietly image i p old ≡ acts) × (new ≡ old) × ((choice : ℕ) → acts_by image i choice p old ≡ performs image i choice p old)
