-- Calls and returns, by their kinds.
use Rattle.std.specs.Prelude.{ℕ, ◌<◌, ◌≡◌, true, false, length, Some}
use Rattle.std.specs.List.{slice_get}
use Rattle.pfc_code.specs.declared.images.Block.{Block as CodeBlock}
use Rattle.pfc_code.specs.declared.instructions.Instr.TheVariants.{RET, RETF}
use Rattle.pfc_types.specs.Types.{is_simple}
use Rattle.pfc_types.specs.declared.types.TypeId.{TypeId}
use Rattle.pfc_types.specs.declared.scope.Meaning.TheVariants.{Variable}
use Rattle.pfc_types.specs.declared.heads.SubHead.{SubHead}
use Rattle.pfc_semantics.specs.Layouts.{sub_with}
use Rattle.pfc_translation.specs.Images.{image_of}
use Rattle.pfc_cells.specs.Homes.{cells_before}
use Rattle.pfc_tree.specs.trees.Parts.{ProgramTree}
use Rattle.pfc_types.specs.Blocks.{sub_at}
use Rattle.pfc_semantics.specs.Programs.{Block, block_at, block_number, program_of, layout_cells}
use Rattle.pfc_semantics.specs.Remainders.{Action, Call, calls, to_procedure, to_function, finishes}
use Rattle.pfc_translation.specs.Sites.{links_from}
use Rattle.pfc_standing_code.specs.Settings.{IsBeside}
use Rattle.pfc_representation.specs.Levels.{LivingLevel, IsProgram, number_in}
use Rattle.pfc_kept_calls.specs.Callees.{IsCallable}

-- Where a process is at this level, the sub with this scope can be called, from its own block and those beside it. The cells of these are those of their
-- variables.
pub record MayCall (level : LivingLevel) (scope : ℕ) : Type 0 where
  pub callable : (t : ProgramTree) (b : Block) (i : ℕ) → level.setting.program ≡ program_of t → IsProgram t → IsBeside level.setting level.setting.block b
      → i < length (program_of t).state.blocks.subs → scope ≡ (sub_at (program_of t).state.blocks i).scope
      → IsCallable t b (block_at (program_of t) scope) (block_number (program_of t) scope)
      (links_from (program_of t).state.blocks b (block_at (program_of t) scope).outer) (sub_at (program_of t).state.blocks i).formals
  pub counted : (t : ProgramTree) (b : Block) → level.setting.program ≡ program_of t → IsProgram t → IsBeside level.setting level.setting.block b
      → b.cells ≡ layout_cells (program_of t).state.forms b.layout

abbrev pub IsCalledBy : LivingLevel → Call → Type 0
IsCalledBy level (to_procedure scope k) = MayCall level scope
IsCalledBy level call = ⊥

-- a call of a procedure from inside its module, as a statement
abbrev pub CallsProcedure : LivingLevel → Action → Type 0
CallsProcedure level (calls x call given) = IsCalledBy level call
CallsProcedure level n = ⊥

abbrev pub IsAppliedBy : LivingLevel → Call → Type 0
IsAppliedBy level (to_function scope u) = MayCall level scope
IsAppliedBy level call = ⊥

-- a call of a function, in an expression
abbrev pub CallsFunction : LivingLevel → Action → Type 0
CallsFunction level (calls x call given) = IsAppliedBy level call
CallsFunction level n = ⊥

-- The block is that of a function: its result is a variable of a simple type, which stands behind the parameters.
pub record HasResult (t : ProgramTree) (b : Block) : Type 0 where
  pub head : SubHead
  pub headed : sub_with (program_of t).state.blocks.subs b.scope ≡ Some head
  pub of_type : TypeId
  pub simple : is_simple of_type ≡ true
  pub laid : slice_get b.layout (length head.formals) ≡ Some (Variable of_type false)
  pub params : (k : ℕ) (code : CodeBlock) → slice_get (image_of t).blocks k ≡ Some code → k ≡ number_in (program_of t) b
      → code.params ≡ cells_before (program_of t).state.forms b.layout (length head.formals)

-- the end of a procedure
abbrev pub EndsProcedure : LivingLevel → Action → Type 0
EndsProcedure level (finishes line) = level.setting.last ≡ RET
EndsProcedure level n = ⊥

-- the end of a function
abbrev pub EndsFunction : LivingLevel → Action → Type 0
EndsFunction level (finishes line) =
    (level.setting.last ≡ RETF) × ((t : ProgramTree) → level.setting.program ≡ program_of t → IsProgram t → HasResult t level.setting.block)
EndsFunction level n = ⊥

-- ## By the action alone

-- a call of a procedure from inside its module
abbrev pub IsProcedureCall : LivingLevel → Action → Type 0
IsProcedureCall level (calls x (to_procedure scope k) given) = Unit {0}
IsProcedureCall level n = ⊥

-- a call of a function
abbrev pub IsFunctionCall : LivingLevel → Action → Type 0
IsFunctionCall level (calls x (to_function scope u) given) = Unit {0}
IsFunctionCall level n = ⊥

-- the end of a function
abbrev pub IsFunctionEnd : LivingLevel → Action → Type 0
IsFunctionEnd level (finishes line) = level.setting.last ≡ RETF
IsFunctionEnd level n = ⊥
