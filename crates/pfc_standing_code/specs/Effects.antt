-- What quiet instructions do: those of operands alone, addresses, objects, the alternatives of a select, and the end of a guard.
use Rattle.std.specs.Prelude.{ℕ, ◌+◌, ◌<◌, ◌≤◌, ◌≡◌, ◌⊎◌, ℤ, pos, int_lt, Bool, true, false, if◌then◌else◌, List, [], ◌∷◌, ◌++◌, length, take, drop}
use Rattle.std.specs.Prelude.{Option, Some, None}
use Rattle.pfc_base.specs.declared.faults.RunFault.{RunFault}
use Rattle.pfc_base.specs.declared.faults.RunFault.TheVariants.{Below}
use Rattle.pfc_code.specs.declared.instructions.Instr.{Instr}
use Rattle.pfc_code.specs.declared.instructions.Instr.TheVariants.{ADDR, REF, OBJ, GRD, ARMS, ARMR, ARMA, ARMT, ARMX}
use Rattle.pfc_code.specs.Operands.{receiving}
use Rattle.pfc_values.specs.Numbers.{is_true}
use Rattle.pfc_stacks.specs.Stacks.{operand}
use Rattle.pfc_stacks.specs.Conditions.{Reckons}
use Rattle.pfc_stacks.specs.Effects.{OwnEffect, quiet, action, fault, more, own_effect}
use Rattle.pfc_translation.specs.Operands.{reads}
use Rattle.pfc_standing_code.specs.Settings.{View, Trial, Setting, of_own, of_turn, of_another}

-- an alternative of a select: the instruction that made it, and the operands that it took, top first
pub record Arm : Type 0 where
  pub by : Instr
  pub operands : List ℤ

-- its branch stands behind this address
abbrev pub LeadsAhead : ℕ → Instr → Type 0
LeadsAhead at (ARMS z to) = at < to
LeadsAhead at (ARMR z to) = at < to
LeadsAhead at (ARMA e d z to) = at < to
LeadsAhead at (ARMT to) = at < to
LeadsAhead at i = Unit {0}

-- and so do the branches of them all
abbrev pub LeadAhead : ℕ → List Arm → Type 0
LeadAhead at [] = Unit {0}
LeadAhead at (arm ∷ arms) = LeadsAhead at arm.by × LeadAhead at arms

pub data Effect : Type 0 where
  -- on to this address, with these operands and these alternatives
  onward : ℕ → List ℤ → List Arm → Effect
  refuses : RunFault → Effect
  -- none of these: the instruction is an action, or needs more
  otherwise : Effect

abbrev pub of_own_effect : OwnEffect → List Arm → Effect
of_own_effect (quiet at ops) arms = onward at ops arms
of_own_effect (action at ops) arms = otherwise
of_own_effect (fault f) arms = refuses f
of_own_effect more arms = otherwise

-- the operands become one more alternative
abbrev pub arming : Instr → ℕ → ℕ → List ℤ → List Arm → Effect
arming i count at ops arms = onward (at + 1) (drop count ops) (arms ++ record { by = i; operands = take count ops } ∷ [])

abbrev pub numbered : ℕ → List ℤ → List Arm → Option ℤ → Effect
numbered at ops arms None = otherwise
numbered at ops arms (Some n) = onward (at + 1) (n ∷ ops) arms

-- the own guard goes on where it is true; that of a barred process goes to the next turn of the scan where it is false
abbrev pub guarded : Trial → ℕ → ℤ → List ℤ → List Arm → Effect
guarded of_own at v ops arms = if is_true v then onward (at + 1) ops arms else otherwise
guarded (of_turn scan back) at v ops arms = otherwise
guarded (of_another attempt) at v ops arms = if is_true v then otherwise else onward attempt.turn ops arms

abbrev pub effect_of : Setting → Instr → ℕ → List ℤ → List Arm → Effect
effect_of g (ADDR l d) at ops arms = onward (at + 1) (pos (g.view.first l + d) ∷ ops) arms
effect_of g (REF l d) at ops arms = onward (at + 1) (pos (g.view.held l d) ∷ ops) arms
effect_of g OBJ at ops arms = numbered at (drop 1 ops) arms (g.number (operand ops 0))
effect_of g (GRD r) at ops arms = guarded g.trial at (operand ops 0) (drop 1 ops) arms
effect_of g (ARMS z a) at ops arms = arming (ARMS z a) (z + 1) at ops arms
effect_of g (ARMR z a) at ops arms = arming (ARMR z a) (receiving z) at ops arms
effect_of g (ARMA e d z a) at ops arms = arming (ARMA e d z a) 0 at ops arms
effect_of g (ARMT a) at ops arms = if int_lt (operand ops 0) (pos 0) then refuses Below else arming (ARMT a) 1 at ops arms
effect_of g ARMX at ops arms = arming ARMX 0 at ops arms
effect_of g i at ops arms = of_own_effect (own_effect i at ops) arms

-- the cells that an address instruction names are in view
abbrev pub InSight : View → Instr → Type 0
InSight view (ADDR l d) = view.reaches l d ≡ true
InSight view (REF l d) = (view.reaches l d ≡ true) × (view.refers l d ≡ true)
InSight view i = Unit {0}

-- the operands that an instruction reads are there, what it reckons of an address is an address, and what it names is in view
pub record CanPerform (g : Setting) (i : Instr) (ops : List ℤ) : Type 0 where
  pub held : reads g.program i ≤ length ops
  pub reckons : Reckons i ops
  pub sight : InSight g.view i

-- the instruction makes an alternative that waits for some seconds
abbrev pub is_timeout : Instr → Bool
is_timeout (ARMT a) = true
is_timeout i = false

-- in a scan there is no select, so no such alternative is refused
abbrev pub MayRefuse : Setting → Instr → Type 0
MayRefuse g i = (g.trial ≡ of_own) ⊎ (is_timeout i ≡ false)
