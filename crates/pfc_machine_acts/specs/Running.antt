-- The quiet instructions of a process, up to its next action.
use Rattle.std.specs.Prelude.{ℕ, zero, suc, ◌≡◌, ◌≤◌, length, Option, None, Some}
use Rattle.pfc_code.specs.declared.instructions.Instr.{Instr}
use Rattle.pfc_code.specs.Images.{PlainImage}
use Rattle.pfc_machines.specs.declared.machine.Machine.{Machine}
use Rattle.pfc_machines.specs.Quiet.{QuietEffect, goes, ends_in, acts}
use Rattle.pfc_machine_acts.specs.declared.stepping.Stepped.{Stepped}
use Rattle.pfc_machine_acts.specs.declared.stepping.Stepped.TheVariants.{Passed, Acted, Faulted, Stands}
use Rattle.pfc_machine_acts.specs.Quietly.{quietly, next_instr, CanStep}

-- one quiet instruction of process p leads from one machine to another
pub record QuietStep (image : PlainImage) (p : ℕ) (m m' : Machine) : Type 0 where
  pub instr : Instr
  pub is : next_instr image p m ≡ Some instr
  pub can : CanStep image instr p m
  pub goes_on : quietly image instr p m ≡ goes m'

-- so many do
abbrev pub QuietRun : PlainImage → ℕ → ℕ → Machine → Machine → Type 0
QuietRun image p zero m m' = m' ≡ m
QuietRun image p (suc n) m m' = (mid : Machine) × QuietStep image p m mid × QuietRun image p n mid m'

-- the instruction is an action, or ends in a fault, which is one
abbrev pub IsNoMove : QuietEffect → Type 0
IsNoMove (goes m) = ⊥
IsNoMove (ends_in f) = Unit {0}
IsNoMove acts = Unit {0}

-- Instruction i is the next action of process p, so many quiet instructions from one machine, at another; none of these comes twice.
pub record IsNext (image : PlainImage) (p : ℕ) (m : Machine) (n : ℕ) (m' : Machine) (i : Instr) : Type 0 where
  pub run : QuietRun image p n m m'
  pub few : n ≤ length image.code
  pub is : next_instr image p m' ≡ Some i
  pub can : CanStep image i p m'
  pub no_move : IsNoMove (quietly image i p m')

-- ## How many there are

abbrev pub effect_of_next : Option Instr → PlainImage → ℕ → Machine → QuietEffect
effect_of_next None image p m = acts
effect_of_next (Some i) image p m = quietly image i p m

abbrev pub counted_on : QuietEffect → (Machine → ℕ) → ℕ
counted_on (goes m) count = suc (count m)
counted_on (ends_in f) count = 0
counted_on acts count = 0

-- how many quiet instructions of process p come next, up to a number
abbrev pub quiet_ahead : PlainImage → ℕ → ℕ → Machine → ℕ
quiet_ahead image p zero m = 0
quiet_ahead image p (suc most) m = counted_on (effect_of_next (next_instr image p m) image p m) (quiet_ahead image p most)

-- ## What an answer tells

-- the next instruction of the process was an action, or a fault
abbrev pub IsStill : Stepped → Type 0
IsStill (Passed r) = ⊥
IsStill (Acted r) = Unit {0}
IsStill (Faulted r f) = Unit {0}
IsStill (Stands r) = Unit {0}
