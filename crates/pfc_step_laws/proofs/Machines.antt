-- The quiet instructions of a process, one after the other: no more than are ahead of its address.
use Rattle.std.proofs.Common.{◌≡◌, ℕ, zero, suc, ◌+◌, ◌<◌, ◌≤◌, ℤ, pos, negsuc, Bool, true, false, List, length, drop, get_or, set, Option, Some, None}
use Rattle.std.proofs.Common.{refl, sym, ap, ◌∙◌, subst, arith}
use Rattle.std.proofs.lemmas.List.{get_or-set_same}
use Rattle.pfc_code.specs.declared.instructions.Instr.{Instr}
use Rattle.pfc_code.specs.declared.instructions.Instr.TheVariants.{ADDR, REF, LOAD, STORE, OBJ, FORW, CALL, RET, RETF, GRD, ARMS, ARMR, ARMA, ARMT, ARMX}
use Rattle.pfc_code.specs.Images.{PlainImage}
use Rattle.pfc_values.specs.Numbers.{is_true}
use Rattle.pfc_stacks.specs.Effects.{OwnEffect, quiet, action, fault, more, own_effect, within, moved, passed}
use Rattle.pfc_stacks.specs.Stacks.{Stack, no_stack, stack_of, operand, operands_of}
use Rattle.pfc_machines.specs.declared.machine.Machine.{Machine}
use Rattle.pfc_machines.specs.Quiet.{goes, acts, receiving, timing, tried_by, guarding}
use Rattle.pfc_machine_acts.specs.Quietly.{on_stacks, quietly, CanStep}
use Rattle.pfc_machine_acts.specs.Running.{QuietRun}
use Rattle.pfc_step_laws.proofs.Ahead.{on, way}
use Rattle.pfc_step_laws.proofs.Leading.{LeadsAhead}
use Rattle.pfc_step_laws.proofs.Falling.{StepsTo, next, back, ahead_of, falls}
use Rattle.pfc_step_laws.proofs.Moves.{QuietTo, own_leads}

module _ (image : PlainImage) (p : ℕ) (m m' : Machine) where
  abbrev Steps : Instr → Type 0
  Steps i = StepsTo image.scans i (stack_of m.stacks p).at (stack_of m'.stacks p).at

  -- the process has this stack in the machine that is left
  left_with : (x : Machine) (s : Stack) → p < length m.stacks → goes x ≡ goes m' → x.stacks ≡ set m.stacks p s → (stack_of m'.stacks p).at ≡ s.at
  left_with x s stack h is =
      let same : x ≡ m' = (cc) in
      ap (λ (y : Machine). (stack_of y.stacks p).at) (sym same) ∙ ap (λ l. (stack_of l p).at) is
      ∙ ap (λ (y : Stack). y.at) (get_or-set_same m.stacks p s no_stack stack)

  -- it has gone on to the next instruction
  goes_on : (i : Instr) (x : Machine) (ops : List ℤ) → way i ≡ on → p < length m.stacks → goes x ≡ goes m' → x.stacks ≡ passed m.stacks p ops → Steps i
  goes_on i x ops e stack h is =
      next e (left_with x (record (stack_of m.stacks p) { at = (stack_of m.stacks p).at + 1; operands = ops }) stack h is)

  -- an instruction that needs no more than its address and its operands, or is an action
  own : (i : Instr) → p < length m.stacks
      → on_stacks (within m.stacks p (own_effect i (stack_of m.stacks p).at (operands_of m.stacks p))) acts m ≡ goes m' → Steps i
  own i stack h =
      by (own_effect i (stack_of m.stacks p).at (operands_of m.stacks p)) (own_leads image.scans i (stack_of m.stacks p).at (operands_of m.stacks p)) h
    where
      by : (o : OwnEffect) → QuietTo (StepsTo image.scans i (stack_of m.stacks p).at) o → on_stacks (within m.stacks p o) acts m ≡ goes m' → Steps i
      by (quiet a ops) leads h =
          subst (λ n. StepsTo image.scans i (stack_of m.stacks p).at n)
          (sym (left_with (record m { stacks = moved m.stacks p a ops }) (record (stack_of m.stacks p) { at = a; operands = ops }) stack h refl)) leads
      by (action a ops) leads h = absurd (cc)
      by (fault f) leads h = absurd (cc)
      by more leads h = absurd (cc)

  times : (n : ℤ) (a : ℕ) → p < length m.stacks → timing n a p m ≡ goes m' → Steps (ARMT a)
  times (pos n) a stack h = goes_on (ARMT a) _ (drop 1 (operands_of m.stacks p)) refl stack h refl
  times (negsuc n) a stack h = absurd (cc)

  receives : (z a : ℕ) → p < length m.stacks → goes (receiving z a p m) ≡ goes m' → Steps (ARMR z a)
  receives zero a stack h = goes_on (ARMR zero a) _ (drop 1 (operands_of m.stacks p)) refl stack h refl
  receives (suc z) a stack h = goes_on (ARMR (suc z) a) _ (drop 2 (operands_of m.stacks p)) refl stack h refl

  guards : (tried : Option ℕ) (holds : Bool) (g : ℕ) → p < length m.stacks → guarding tried holds (get_or image.scans g 0) p m ≡ goes m' → Steps (GRD g)
  guards None true g stack h = goes_on (GRD g) _ (drop 1 (operands_of m.stacks p)) refl stack h refl
  guards None false g stack h = absurd (cc)
  guards (Some q) true g stack h = absurd (cc)
  guards (Some q) false g stack h =
      let s = stack_of m.stacks p in
      back g refl (left_with _ (record s { at = get_or image.scans g 0; operands = drop 1 s.operands; looks_from = None }) stack h refl)

  pub steps_to : (i : Instr) → CanStep image i p m → quietly image i p m ≡ goes m' → Steps i
  steps_to (ADDR l d) can h = goes_on (ADDR l d) _ _ refl can.stack h refl
  steps_to (REF l d) can h = goes_on (REF l d) _ _ refl can.stack h refl
  steps_to OBJ can h = goes_on OBJ _ _ refl can.stack h refl
  steps_to (LOAD z) can h = absurd (cc)
  steps_to (STORE z) can h = absurd (cc)
  steps_to FORW can h = absurd (cc)
  steps_to (CALL k l) can h = absurd (cc)
  steps_to RET can h = absurd (cc)
  steps_to RETF can h = absurd (cc)
  steps_to (GRD g) can h = guards (tried_by m p) (is_true (operand (operands_of m.stacks p) 0)) g can.stack h
  steps_to (ARMS z a) can h = goes_on (ARMS z a) _ (drop (z + 1) (operands_of m.stacks p)) refl can.stack h refl
  steps_to (ARMR z a) can h = receives z a can.stack h
  steps_to (ARMA e d z a) can h = goes_on (ARMA e d z a) _ (drop 0 (operands_of m.stacks p)) refl can.stack h refl
  steps_to (ARMT a) can h = times (operand (operands_of m.stacks p) 0) a can.stack h
  steps_to ARMX can h = goes_on ARMX _ (drop 0 (operands_of m.stacks p)) refl can.stack h refl
  steps_to i can h = own i can.stack h

pub short : (image : PlainImage) → LeadsAhead image → (p n : ℕ) (m m' : Machine) → QuietRun image p n m m' → n ≤ ahead_of image.code (stack_of m.stacks p).at
short image leads p zero m m' run = omega arith
short image leads p (suc n) m m' (mid, step, rest) =
    let fewer = short image leads p n mid m' rest in
    let leads_to = steps_to image p m mid step.instr step.can step.goes_on in
    let less = falls image step.instr (stack_of m.stacks p).at (stack_of mid.stacks p).at leads step.is leads_to in
    omega (arith, fewer, less)
