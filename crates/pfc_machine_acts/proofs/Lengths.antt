-- What is quiet leaves as many stacks as there were.
use Rattle.std.proofs.Common.{◌≡◌, ℕ, zero, suc, ◌+◌, ℤ, pos, negsuc, Bool, true, false, List, length, drop, get_or, set, Option, Some, None, refl, sym, ap}
use Rattle.std.proofs.Common.{◌∙◌}
use Rattle.std.proofs.lemmas.List.{length-set}
use Rattle.pfc_code.specs.declared.instructions.Instr.{Instr}
use Rattle.pfc_code.specs.declared.instructions.Instr.TheVariants.{ADDR, REF, LOAD, STORE, OBJ, FORW, CALL, RET, RETF, GRD, ARMS, ARMR, ARMA, ARMT, ARMX}
use Rattle.pfc_code.specs.Images.{PlainImage}
use Rattle.pfc_values.specs.Numbers.{is_true}
use Rattle.pfc_stacks.specs.Effects.{OwnEffect, quiet, action, fault, more, own_effect, within, moved, passed}
use Rattle.pfc_stacks.specs.Stacks.{Stack, stack_of, operand, operands_of}
use Rattle.pfc_machines.specs.declared.machine.Machine.{Machine}
use Rattle.pfc_machines.specs.Quiet.{goes, acts, receiving, timing, tried_by, guarding}
use Rattle.pfc_machine_acts.specs.Quietly.{on_stacks, quietly}
use Rattle.pfc_machine_acts.specs.Running.{QuietRun}

module _ (image : PlainImage) (p : ℕ) (m m' : Machine) where
  abbrev Keeps : Type 0
  Keeps = length m'.stacks ≡ length m.stacks

  left_with : (x : Machine) (s : Stack) → goes x ≡ goes m' → x.stacks ≡ set m.stacks p s → Keeps
  left_with x s h is =
      let same : x ≡ m' = (cc) in
      ap (λ (y : Machine). length y.stacks) (sym same) ∙ ap (λ (l : List Stack). length l) is ∙ length-set m.stacks p s

  goes_on : (x : Machine) (ops : List ℤ) → goes x ≡ goes m' → x.stacks ≡ passed m.stacks p ops → Keeps
  goes_on x ops h is = left_with x (record (stack_of m.stacks p) { at = (stack_of m.stacks p).at + 1; operands = ops }) h is

  own : (o : OwnEffect) → on_stacks (within m.stacks p o) acts m ≡ goes m' → Keeps
  own (quiet a ops) h = left_with (record m { stacks = moved m.stacks p a ops }) (record (stack_of m.stacks p) { at = a; operands = ops }) h refl
  own (action a ops) h = absurd (cc)
  own (fault f) h = absurd (cc)
  own more h = absurd (cc)

  times : (n : ℤ) (a : ℕ) → timing n a p m ≡ goes m' → Keeps
  times (pos n) a h = goes_on _ (drop 1 (operands_of m.stacks p)) h refl
  times (negsuc n) a h = absurd (cc)

  receives : (z a : ℕ) → goes (receiving z a p m) ≡ goes m' → Keeps
  receives zero a h = goes_on _ (drop 1 (operands_of m.stacks p)) h refl
  receives (suc z) a h = goes_on _ (drop 2 (operands_of m.stacks p)) h refl

  guards : (tried : Option ℕ) (holds : Bool) (scan : ℕ) → guarding tried holds scan p m ≡ goes m' → Keeps
  guards None true scan h = goes_on _ (drop 1 (operands_of m.stacks p)) h refl
  guards None false scan h = absurd (cc)
  guards (Some q) true scan h = absurd (cc)
  guards (Some q) false scan h =
      let s = stack_of m.stacks p in
      left_with _ (record s { at = scan; operands = drop 1 s.operands; looks_from = None }) h refl

  pub as_many : (i : Instr) → quietly image i p m ≡ goes m' → Keeps
  as_many (ADDR l d) h = goes_on _ _ h refl
  as_many (REF l d) h = goes_on _ _ h refl
  as_many OBJ h = goes_on _ _ h refl
  as_many (LOAD z) h = absurd (cc)
  as_many (STORE z) h = absurd (cc)
  as_many FORW h = absurd (cc)
  as_many (CALL k l) h = absurd (cc)
  as_many RET h = absurd (cc)
  as_many RETF h = absurd (cc)
  as_many (GRD g) h = guards (tried_by m p) (is_true (operand (operands_of m.stacks p) 0)) (get_or image.scans g 0) h
  as_many (ARMS z a) h = goes_on _ (drop (z + 1) (operands_of m.stacks p)) h refl
  as_many (ARMR z a) h = receives z a h
  as_many (ARMA e d z a) h = goes_on _ (drop 0 (operands_of m.stacks p)) h refl
  as_many (ARMT a) h = times (operand (operands_of m.stacks p) 0) a h
  as_many ARMX h = goes_on _ (drop 0 (operands_of m.stacks p)) h refl
  as_many i h = own (own_effect i (stack_of m.stacks p).at (operands_of m.stacks p)) h

pub as_many_ahead : (image : PlainImage) (p n : ℕ) (m m' : Machine) → QuietRun image p n m m' → length m'.stacks ≡ length m.stacks
as_many_ahead image p zero m m' run = ap (λ (x : Machine). length x.stacks) run
as_many_ahead image p (suc n) m m' (mid, step, rest) = as_many_ahead image p n mid m' rest ∙ as_many image p m mid step.instr step.goes_on
