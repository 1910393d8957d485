-- Where a quiet instruction leads: to the next one, or to the address that it names.
use Rattle.std.proofs.Common.{◌≡◌, ℕ, ◌+◌, ℤ, Bool, true, false, if◌then◌else◌, List, [], ◌∷◌, ◌++◌, drop, Option, Some, None, Ok, Err, refl, sym, ap, ◌∙◌, ◌⊎◌}
use Rattle.std.proofs.Common.{inl, inr}
use Rattle.std.specs.Prelude.{pos, int_lt, set}
use Rattle.std.specs.Ordering.{int_eq}
use Rattle.pfc_base.specs.declared.faults.RunFault.TheVariants.{Below}
use Rattle.pfc_code.specs.declared.instructions.Instr.{Instr}
use Rattle.pfc_code.specs.declared.instructions.Instr.TheVariants.{LIT, ADDR, REF, IDX, FLD, OBJ, NEG, ADD, SUB, MUL, DIV, MOD, ABS, SQR, ODD, CHR, SUCC, PRED}
use Rattle.pfc_code.specs.declared.instructions.Instr.TheVariants.{NOT, AND, OR, EQ, NE, LT, LE, GT, GE, JMP, JF, FORB, FORT, CEQ, GRD, ARMS, ARMR, ARMA, ARMT}
use Rattle.pfc_code.specs.declared.instructions.Instr.TheVariants.{ARMX, SEL}
use Rattle.pfc_code.specs.Operands.{receiving}
use Rattle.pfc_image_laws.specs.Operands.{address_ahead, is_end}
use Rattle.pfc_values.specs.Numbers.{Outcome, is_true}
use Rattle.pfc_stacks.specs.Stacks.{operand}
use Rattle.pfc_stacks.specs.Effects.{OwnEffect, quiet, action, fault, more, own_effect, with_outcome, is_past, is_before, value_behind}
use Rattle.pfc_standing_code.specs.Settings.{Trial, Attempt, Setting, of_own, of_turn, of_another}
use Rattle.pfc_standing_code.specs.Effects.{Arm, onward, refuses, otherwise, of_own_effect, arming, numbered, guarded, effect_of}
use Rattle.pfc_arrivals.proofs.Standing.{IsCalm}
use Rattle.pfc_arrivals.proofs.Evaluating.{may_evaluate}

-- ## Of effects

leads : (o : OwnEffect) (arms : List Arm) (to : ℕ) (left : List ℤ) (new : List Arm) → of_own_effect o arms ≡ onward to left new → (o ≡ quiet to left)
    × (new ≡ arms)
leads (quiet at ops) arms to left new h = (cc, cc)
leads (action at ops) arms to left new h = absurd (cc)
leads (fault f) arms to left new h = absurd (cc)
leads more arms to left new h = absurd (cc)

quiet_place : (at to : ℕ) (ops left : List ℤ) → quiet at ops ≡ quiet to left → to ≡ at
quiet_place at to ops left h = cc

outcome_place : (at to : ℕ) (below left : List ℤ) (r : Outcome) → with_outcome at below r ≡ quiet to left → to ≡ at + 1
outcome_place at to below left (Ok v) h = cc
outcome_place at to below left (Err f) h = absurd (cc)

onward_place : (at to : ℕ) (ops left : List ℤ) (arms new : List Arm) → onward at ops arms ≡ onward to left new → to ≡ at
onward_place at to ops left arms new h = cc

onward_arms : (at to : ℕ) (ops left : List ℤ) (arms new : List Arm) → onward at ops arms ≡ onward to left new → new ≡ arms
onward_arms at to ops left arms new h = cc

onward_left : (at to : ℕ) (ops left : List ℤ) (arms new : List Arm) → onward at ops arms ≡ onward to left new → left ≡ ops
onward_left at to ops left arms new h = cc

numbered_place : (at to : ℕ) (ops left : List ℤ) (arms new : List Arm) (o : Option ℤ) → numbered at ops arms o ≡ onward to left new → (to ≡ at + 1)
    × (new ≡ arms)
numbered_place at to ops left arms new None h = absurd (cc)
numbered_place at to ops left arms new (Some n) h = (cc, cc)

-- the own guard leads on where it is true
pub guard_true : (t : Trial) → IsCalm t → (at to : ℕ) (v : ℤ) (ops left : List ℤ) (arms new : List Arm) → guarded t at v ops arms ≡ onward to left new
    → (t ≡ of_own) × (is_true v ≡ true) × (to ≡ at + 1) × (left ≡ ops) × (new ≡ arms)
guard_true (of_turn scan back) calm at to v ops left arms new h = absurd (cc)
guard_true (of_another attempt) calm at to v ops left arms new h = absurd calm
guard_true of_own calm at to v ops left arms new h = by (is_true v) refl h
  where
    by : (r : Bool) → is_true v ≡ r → (if r then onward (at + 1) ops arms else otherwise) ≡ onward to left new → (of_own ≡ of_own) × (is_true v ≡ true)
        × (to ≡ at + 1) × (left ≡ ops) × (new ≡ arms)
    by true e k = (
      refl,
      e,
      onward_place (at + 1) to ops left arms new k,
      onward_left (at + 1) to ops left arms new k,
      onward_arms (at + 1) to ops left arms
          new k,
    )
    by false e k = absurd (cc)

-- a number of seconds that is none below 0
pub seconds_armed : (r : Bool) (at to : ℕ) (i : Instr) (n : ℕ) (ops left : List ℤ) (arms new : List Arm)
    → (if r then refuses Below else arming i n at ops arms) ≡ onward to left new
    → (r ≡ false) × (arming i n at ops arms ≡ onward to left new)
seconds_armed true at to i n ops left arms new h = absurd (cc)
seconds_armed false at to i n ops left arms new h = (refl, h)

-- it makes an alternative of a select
abbrev pub makes_one : Instr → Bool
makes_one (ARMS z a) = true
makes_one (ARMR z a) = true
makes_one (ARMA k d z a) = true
makes_one (ARMT a) = true
makes_one ARMX = true
makes_one i = false

-- ## Places

abbrev pub IsAhead : ℕ → ℕ → Instr → Type 0
IsAhead at to i = ((to ≡ at + 1) ⊎ (address_ahead i ≡ Some to)) × (is_end i ≡ false)

jumped : (at to a : ℕ) (i : Instr) (ops left : List ℤ) → address_ahead i ≡ Some a → is_end i ≡ false → quiet a ops ≡ quiet to left → IsAhead at to i
jumped at to a i ops left names no_end h = (inr (names ∙ ap Some (sym (quiet_place a to ops left h))), no_end)

either_way : (r : Bool) (at to a : ℕ) (i : Instr) (ops others left : List ℤ) → address_ahead i ≡ Some a → is_end i ≡ false
    → (if r then quiet a ops else quiet (at + 1) others) ≡ quiet to left → IsAhead at to i
either_way true at to a i ops others left names no_end h = jumped at to a i ops left names no_end h
either_way false at to a i ops others left names no_end h = (inl (quiet_place (at + 1) to others left h), no_end)

tested : (r : Bool) (at to a : ℕ) (ops left : List ℤ) → quiet (if r then at + 1 else a) ops ≡ quiet to left → IsAhead at to (JF a)
tested true at to a ops left h = (inl (quiet_place (at + 1) to ops left h), refl)
tested false at to a ops left h = jumped at to a (JF a) ops left refl refl h

counted : (r : Bool) (at to a : ℕ) (d b : ℕ) (ops others left : List ℤ) → (if r then action a ops else quiet (at + 1) others) ≡ quiet to left
    → IsAhead at to (FORT d b)
counted true at to a d b ops others left h = absurd (cc)
counted false at to a d b ops others left h = (inl (quiet_place (at + 1) to others left h), refl)

module _ (at to : ℕ) (ops left : List ℤ) where
  own_ahead : (i : Instr) → own_effect i at ops ≡ quiet to left → IsAhead at to i
  own_ahead (LIT n) h = (inl (quiet_place (at + 1) to _ left h), refl)
  own_ahead (IDX low high z) h = (inl (outcome_place at to _ left _ h), refl)
  own_ahead (FLD k) h = (inl (quiet_place (at + 1) to _ left h), refl)
  own_ahead (JMP a) h = jumped at to a (JMP a) ops left refl refl h
  own_ahead (JF a) h = tested (is_true (operand ops 0)) at to a (drop 1 ops) left h
  own_ahead (FORB d a) h = either_way (is_past d (operand ops 1) (operand ops 0)) at to a (FORB d a) (drop 3 ops) ops left refl refl h
  own_ahead (FORT d a) h = counted (is_before d (operand ops 1) (operand ops 0)) at to a d a (set ops 1 (value_behind d (operand ops 1))) (drop 3 ops) left h
  own_ahead (CEQ n a) h = either_way (int_eq (operand ops 0) n) at to a (CEQ n a) (drop 1 ops) ops left refl refl h
  own_ahead NEG h = (inl (outcome_place at to _ left _ h), refl)
  own_ahead ABS h = (inl (outcome_place at to _ left _ h), refl)
  own_ahead SQR h = (inl (outcome_place at to _ left _ h), refl)
  own_ahead ODD h = (inl (quiet_place (at + 1) to _ left h), refl)
  own_ahead CHR h = (inl (outcome_place at to _ left _ h), refl)
  own_ahead (SUCC k) h = (inl (outcome_place at to _ left _ h), refl)
  own_ahead (PRED k) h = (inl (outcome_place at to _ left _ h), refl)
  own_ahead NOT h = (inl (quiet_place (at + 1) to _ left h), refl)
  own_ahead ADD h = (inl (outcome_place at to _ left _ h), refl)
  own_ahead SUB h = (inl (outcome_place at to _ left _ h), refl)
  own_ahead MUL h = (inl (outcome_place at to _ left _ h), refl)
  own_ahead DIV h = (inl (outcome_place at to _ left _ h), refl)
  own_ahead MOD h = (inl (outcome_place at to _ left _ h), refl)
  own_ahead AND h = (inl (quiet_place (at + 1) to _ left h), refl)
  own_ahead OR h = (inl (quiet_place (at + 1) to _ left h), refl)
  own_ahead EQ h = (inl (quiet_place (at + 1) to _ left h), refl)
  own_ahead NE h = (inl (quiet_place (at + 1) to _ left h), refl)
  own_ahead LT h = (inl (quiet_place (at + 1) to _ left h), refl)
  own_ahead LE h = (inl (quiet_place (at + 1) to _ left h), refl)
  own_ahead GT h = (inl (quiet_place (at + 1) to _ left h), refl)
  own_ahead GE h = (inl (quiet_place (at + 1) to _ left h), refl)
  own_ahead i h = absurd (cc)

module _ (g : Setting) (calm : IsCalm g.trial) (at to : ℕ) (ops left : List ℤ) (arms new : List Arm) where
  armed_ahead : (i : Instr) (n : ℕ) → is_end i ≡ false → arming i n at ops arms ≡ onward to left new → IsAhead at to i
  armed_ahead i n no_end h = (inl (onward_place (at + 1) to _ left _ new h), no_end)

  pub is_ahead : (i : Instr) → effect_of g i at ops arms ≡ onward to left new → IsAhead at to i
  is_ahead (ADDR l d) h = (inl (onward_place (at + 1) to _ left _ new h), refl)
  is_ahead (REF l d) h = (inl (onward_place (at + 1) to _ left _ new h), refl)
  is_ahead OBJ h = (inl (numbered_place at to _ left arms new (g.number (operand ops 0)) h).0, refl)
  is_ahead (GRD r) h = (inl (guard_true g.trial calm at to (operand ops 0) (drop 1 ops) left arms new h).2, refl)
  is_ahead (ARMS z a) h = armed_ahead (ARMS z a) (z + 1) refl h
  is_ahead (ARMR z a) h = armed_ahead (ARMR z a) (receiving z) refl h
  is_ahead (ARMA e d z a) h = armed_ahead (ARMA e d z a) 0 refl h
  is_ahead (ARMT a) h = armed_ahead (ARMT a) 1 refl (seconds_armed (int_lt (operand ops 0) (pos 0)) at to (ARMT a) 1 ops left arms new h).1
  is_ahead ARMX h = armed_ahead ARMX 0 refl h
  is_ahead i h = own_ahead at to ops left i (leads (own_effect i at ops) arms to left new h).0

  -- ## Alternatives are only added

  some_armed : {A : Type 0} (i : Instr) (n : ℕ) → arming i n at ops arms ≡ onward to left new → new ≡ [] → A
  some_armed i n h none = absurd (nothing arms _ (sym (onward_arms (at + 1) to _ left _ new h) ∙ none))
    where
      nothing : (xs : List Arm) (x : Arm) → xs ++ x ∷ [] ≡ [] → ⊥
      nothing [] x e = cc
      nothing (y ∷ xs) x e = cc

  pub none_before : (i : Instr) → effect_of g i at ops arms ≡ onward to left new → new ≡ [] → arms ≡ []
  none_before (ADDR l d) h none = sym (onward_arms (at + 1) to _ left arms new h) ∙ none
  none_before (REF l d) h none = sym (onward_arms (at + 1) to _ left arms new h) ∙ none
  none_before OBJ h none = sym (numbered_place at to _ left arms new (g.number (operand ops 0)) h).1 ∙ none
  none_before (GRD r) h none = sym (guard_true g.trial calm at to (operand ops 0) (drop 1 ops) left arms new h).4 ∙ none
  none_before (ARMS z a) h none = some_armed (ARMS z a) (z + 1) h none
  none_before (ARMR z a) h none = some_armed (ARMR z a) (receiving z) h none
  none_before (ARMA e d z a) h none = some_armed (ARMA e d z a) 0 h none
  none_before (ARMT a) h none = some_armed (ARMT a) 1 (seconds_armed (int_lt (operand ops 0) (pos 0)) at to (ARMT a) 1 ops left arms new h).1 none
  none_before ARMX h none = some_armed ARMX 0 h none
  none_before i h none = sym (leads (own_effect i at ops) arms to left new h).1 ∙ none

  -- who makes an alternative has made one
  pub armed_some : (i : Instr) → makes_one i ≡ true → effect_of g i at ops arms ≡ onward to left new → new ≡ [] → ⊥
  armed_some (ARMS z a) e h none = some_armed (ARMS z a) (z + 1) h none
  armed_some (ARMR z a) e h none = some_armed (ARMR z a) (receiving z) h none
  armed_some (ARMA k d z a) e h none = some_armed (ARMA k d z a) 0 h none
  armed_some (ARMT a) e h none = some_armed (ARMT a) 1 (seconds_armed (int_lt (operand ops 0) (pos 0)) at to (ARMT a) 1 ops left arms new h).1 none
  armed_some ARMX e h none = some_armed ARMX 0 h none
  armed_some i e h none = (let both : false ≡ true = e in cc)

-- ## In an expression

names_none : (i : Instr) → may_evaluate i ≡ true → address_ahead i ≡ None
names_none (JMP a) e = absurd (cc)
names_none (JF a) e = absurd (cc)
names_none (FORB d a) e = absurd (cc)
names_none (CEQ n a) e = absurd (cc)
names_none (ARMS z a) e = absurd (cc)
names_none (ARMR z a) e = absurd (cc)
names_none (ARMA k d z a) e = absurd (cc)
names_none (ARMT a) e = absurd (cc)
names_none (SEL p a) e = absurd (cc)
names_none i e = refl

pub evaluates_alone : (i : Instr) → may_evaluate i ≡ true → (makes_one i ≡ false)
evaluates_alone (ARMS z a) e = absurd (cc)
evaluates_alone (ARMR z a) e = absurd (cc)
evaluates_alone (ARMA k d z a) e = absurd (cc)
evaluates_alone (ARMT a) e = absurd (cc)
evaluates_alone ARMX e = absurd (cc)
evaluates_alone i e = refl

module _ (g : Setting) (at to : ℕ) (ops left : List ℤ) (arms new : List Arm) where
  by_place : (i : Instr) → may_evaluate i ≡ true → (to ≡ at + 1) ⊎ (address_ahead i ≡ Some to) → to ≡ at + 1
  by_place i e (inl same) = same
  by_place i e (inr named) = absurd (let both : None ≡ Some to = sym (names_none i e) ∙ named in cc)

  -- an instruction of an expression leads to the next one
  pub evaluates_on : (i : Instr) → may_evaluate i ≡ true → effect_of g i at ops arms ≡ onward to left new → to ≡ at + 1
  evaluates_on (ADDR l d) e h = onward_place (at + 1) to _ left _ new h
  evaluates_on (REF l d) e h = onward_place (at + 1) to _ left _ new h
  evaluates_on OBJ e h = (numbered_place at to _ left arms new (g.number (operand ops 0)) h).0
  evaluates_on (GRD r) e h = absurd (cc)
  evaluates_on (ARMS z a) e h = absurd (cc)
  evaluates_on (ARMR z a) e h = absurd (cc)
  evaluates_on (ARMA k d z a) e h = absurd (cc)
  evaluates_on (ARMT a) e h = absurd (cc)
  evaluates_on ARMX e h = absurd (cc)
  evaluates_on i e h = by_place i e (own_ahead at to ops left i (leads (own_effect i at ops) arms to left new h).0).0

  pub jumps_on : (a : ℕ) → effect_of g (JMP a) at ops arms ≡ onward to left new → to ≡ a
  jumps_on a h = onward_place a to _ left _ new h

-- the false guard of another leads to the next turn
pub guard_false : (attempt : Attempt) (at to : ℕ) (v : ℤ) (ops left : List ℤ) (arms new : List Arm)
    → guarded (of_another attempt) at v ops arms ≡ onward to left new
    → (is_true v ≡ false) × (to ≡ attempt.turn) × (left ≡ ops) × (new ≡ arms)
guard_false attempt at to v ops left arms new h = by (is_true v) refl h
  where
    by : (r : Bool) → is_true v ≡ r → (if r then otherwise else onward attempt.turn ops arms) ≡ onward to left new → (is_true v ≡ false)
        × (to ≡ attempt.turn) × (left ≡ ops) × (new ≡ arms)
    by true e k = absurd (cc)
    by false e k = (
      e,
      onward_place attempt.turn to ops left arms new k,
      onward_left attempt.turn to ops left arms new k,
      onward_arms attempt.turn to ops
          left arms new k,
    )
