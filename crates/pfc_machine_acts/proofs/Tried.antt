-- One instruction of a process.
use Rattle.std.proofs.Common.{◌≡◌, ℕ, ◌≤◌, List, [], Some, Option, Ok, refl, sym, ap, ◌∙◌, arith}
use Rattle.std.specs.Option.{unwrap_or}
use Rattle.pfc_code.specs.declared.images.Block.{Block}
use Rattle.pfc_code.specs.declared.counts.Count.{Count}
use Rattle.pfc_code.specs.declared.counts.Count.TheVariants.{Exactly, OfParameters, OneAndParameters, OfResult}
use Rattle.pfc_code.specs.declared.instructions.Instr.{Instr}
use Rattle.pfc_code.specs.declared.instructions.Instr.TheVariants.{CALL, RET, RETF, SEL}
use Rattle.pfc_code.specs.Images.{PlainImage}
use Rattle.pfc_code.specs.Operands as table
use Rattle.pfc_stacks.specs.Conditions.{count_in, CanPerformInside}
use Rattle.pfc_stacks.specs.Effects as stacked
use Rattle.pfc_stacks.specs.Stacks.{Stacks}
use Rattle.pfc_machines.specs.declared.machine.Machine.{Machine}
use Rattle.pfc_machines.specs.Actions.{at_rest}
use Rattle.pfc_machines.specs.Quiet.{QuietEffect, quiet_effect, CanGo}
use Rattle.pfc_machine_acts.specs.declared.stepping.Stepped.{Stepped}
use Rattle.pfc_machine_acts.specs.declared.stepping.Stepped.TheVariants.{Passed, Acted, Faulted, Stands}
use Rattle.pfc_machine_acts.specs.Performing.{acts_by, does_alone, performs, silent, choices_for}
use Rattle.pfc_machine_acts.specs.Quietly.{on_stacks, quietly, CanStep, IsTried, IsStepped}

pub same_instr : (i j : Instr) → Some i ≡ Some j → i ≡ j
same_instr i j e = ap (λ (o : Option Instr). unwrap_or o i) e

-- ## What is asked

-- neither a call nor a return
pub record IsOther (i : Instr) : Type 0 where
  pub call : (k l : ℕ) → i ≡ CALL k l → ⊥
  pub ret : i ≡ RET → ⊥
  pub retf : i ≡ RETF → ⊥

-- what is not of the stacks alone may be tried
pub can_go : (image : PlainImage) (i : Instr) (p : ℕ) (m : Machine) → IsOther i → CanStep image i p m →
    stacked.effect_inside i p m.stacks ≡ stacked.outward → CanGo i p m
can_go image (CALL k l) p m other h left = absurd (other.call k l refl)
can_go image RET p m other h left = absurd (other.ret refl)
can_go image RETF p m other h left = absurd (other.retf refl)
can_go image i p m other h left = h.goes left

least_count : (blocks : List Block) (c : Count) → count_in [] c ≤ count_in blocks c
least_count blocks (Exactly n) = omega arith
least_count blocks (OfParameters b) = omega arith
least_count blocks (OneAndParameters b) = omega arith
least_count blocks (OfResult b) = omega arith

pub asks : (image : PlainImage) (i : Instr) (p : ℕ) (m : Machine) → CanStep image i p m → CanPerformInside i p m.stacks
asks image (CALL k l) p m h = tt
asks image RET p m h = tt
asks image RETF p m h = tt
asks image i p m h = record {
  held = (let least = least_count image.blocks (table.operands_of i).reads in let all = h.performed.held in omega (arith, least, all));
  room = h.performed.room;
  reach = h.performed.reach;
}

-- ## What is told

quietly_inside : (image : PlainImage) (i : Instr) (p : ℕ) (m : Machine)
    → quietly image i p m ≡ on_stacks (stacked.effect_inside i p m.stacks) (quiet_effect image.scans i p m) m
quietly_inside image (CALL k l) p m = refl
quietly_inside image RET p m = refl
quietly_inside image RETF p m = refl
quietly_inside image i p m = refl

acts_inside : (image : PlainImage) (i : Instr) (choice p : ℕ) (m : Machine)
    → acts_by image i choice p m ≡ does_alone (stacked.effect_inside i p m.stacks) (performs image i choice p m) m
acts_inside image (CALL k l) choice p m = refl
acts_inside image RET choice p m = refl
acts_inside image RETF choice p m = refl
acts_inside image i choice p m = refl

-- what the stacks do alone chooses among nothing
chooses_not : (i : Instr) (p : ℕ) (m : Machine) (stacks : Stacks) → stacked.effect_inside i p m.stacks ≡ stacked.acts stacks → choices_for i p m ≡ 0
chooses_not (SEL mark x) p m stacks e = absurd cc
chooses_not i p m stacks e = refl

module _ (image : PlainImage) (i : Instr) (p : ℕ) (m new : Machine) where
  abbrev pub e : stacked.Effect
  e = stacked.effect_inside i p m.stacks

  abbrev pub outward : QuietEffect
  outward = quiet_effect image.scans i p m

  pub stepped_so : (result : Stepped) → IsTried e outward m result new → IsStepped image i p m result new
  stepped_so (Passed r) h = quietly_inside image i p m ∙ h
  stepped_so (Acted r) h = (
    quietly_inside image i p m ∙ ap (λ (x : stacked.Effect). on_stacks x outward m) h.0,
    ap (λ (x : Machine). x.world) h.1,
    λ choice.
        acts_inside image i choice p m ∙ ap (λ (x : stacked.Effect). does_alone x (performs image i choice p m) m) h.0
        ∙ ap (λ (x : Machine). silent (Ok (at_rest x))) (sym h.1),
    chooses_not i p m new.stacks h.0,
  )
  stepped_so (Faulted r f) h = (quietly_inside image i p m ∙ h.0, h.1)
  stepped_so (Stands r) h = (
    quietly_inside image i p m ∙ ap (λ (x : stacked.Effect). on_stacks x outward m) h.0 ∙ h.1,
    h.2,
    λ choice. acts_inside image i choice p m ∙ ap (λ (x : stacked.Effect). does_alone x (performs image i choice p m) m) h.0,
  )
