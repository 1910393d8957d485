-- Instructions that are of the stacks alone.
use Rattle.std.specs.Prelude.{ℕ, ◌+◌, ◌≡◌, ℤ, List, ◌++◌, reverse, Some}
use Rattle.pfc_base.specs.declared.faults.RunFault.{RunFault}
use Rattle.pfc_code.specs.declared.images.Block.{Block as ImageBlock}
use Rattle.pfc_code.specs.declared.instructions.Instr.{Instr}
use Rattle.pfc_code.specs.declared.instructions.Instr.TheVariants.{GRD, ARMS, ARMR, ARMA, ARMT, ARMX}
use Rattle.pfc_types.specs.declared.types.TypeId.{TypeId}
use Rattle.pfc_semantics.specs.Values.{Value, Location}
use Rattle.pfc_semantics.specs.Store.{Store, stored}
use Rattle.pfc_stacks.specs.declared.refs.Ref.{Ref}
use Rattle.pfc_stacks.specs.Stacks.{Stacks, written}
use Rattle.pfc_stacks.specs.Conditions.{CanPerform as CanPerformOnStacks}
use Rattle.pfc_stacks.specs.Effects.{moved, goes, acts, ends_in, effect as effect_on_stacks}
use Rattle.pfc_cells.specs.Shapes.{words_of}
use Rattle.pfc_cells.specs.Homes.{Homes, Lies}
use Rattle.pfc_cells.specs.Memory.{Entries, Lives}
use Rattle.pfc_standing_code.specs.Shapes.{shape_of, IsShaped, IsOf}
use Rattle.pfc_standing_code.specs.Settings.{Setting}
use Rattle.pfc_stack_laws.specs.Standing.{HoldStore}

-- no alternative of a select is made, and no guard ends
abbrev pub IsOfStacks : Instr → Type 0
IsOfStacks (GRD r) = ⊥
IsOfStacks (ARMS z a) = ⊥
IsOfStacks (ARMR z a) = ⊥
IsOfStacks (ARMA e d z a) = ⊥
IsOfStacks (ARMT a) = ⊥
IsOfStacks ARMX = ⊥
IsOfStacks i = Unit {0}

-- the instruction may be performed, and leads process p quietly to an address with these operands
pub record Goes (blocks : List ImageBlock) (i : Instr) (p : ℕ) (stacks : Stacks) (to : ℕ) (left : List ℤ) : Type 0 where
  pub can : CanPerformOnStacks blocks i p stacks
  pub effect : effect_on_stacks blocks i p stacks ≡ goes (moved stacks p to left)

-- it may be performed, and ends in a fault
pub record EndsIn (blocks : List ImageBlock) (i : Instr) (p : ℕ) (stacks : Stacks) (f : RunFault) : Type 0 where
  pub can : CanPerformOnStacks blocks i p stacks
  pub effect : effect_on_stacks blocks i p stacks ≡ ends_in f

-- ## Reads and writes

-- The instruction may be performed by process p, which goes on at the next one with the value over the others: a value of this type.
pub record Reads (g : Setting) (blocks : List ImageBlock) (i : Instr) (p : ℕ) (stacks : Stacks) (at : ℕ) (below : List ℤ)
    (t : TypeId) (v : Value) : Type 0 where
  pub can : CanPerformOnStacks blocks i p stacks
  pub effect : effect_on_stacks blocks i p stacks ≡ acts (moved stacks p (at + 1) (reverse (words_of v) ++ below))
  pub shaped : IsShaped g.program.state.forms (shape_of t) v
  pub typed : IsOf g.program.state.forms t v

-- It may be performed, and leaves these operands. The value lies in the variable then, and the stacks of all processes hold the store in which it does.
pub record Writes (g : Setting) (homes : Homes) (entries : Entries) (store : Store) (blocks : List ImageBlock) (i : Instr) (p : ℕ) (stacks : Stacks) (at : ℕ)
    (left : List ℤ) (l : Location) (t : TypeId) (v : Value) : Type 0 where
  pub place : Ref
  pub lies : Lies g.program homes l (Some t) place
  pub lives : Lives entries l.activation
  pub can : CanPerformOnStacks blocks i p stacks
  pub effect : effect_on_stacks blocks i p stacks ≡ acts (moved (written stacks place (words_of v)) p (at + 1) left)
  pub holds : HoldStore g homes entries (stored store l v) (moved (written stacks place (words_of v)) p (at + 1) left)
