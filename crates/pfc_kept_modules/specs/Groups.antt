-- Calls of procedures of monitors and resources from outside, and the ends of these.
use Rattle.std.specs.Prelude.{ℕ, ◌<◌, ◌≡◌, length}
use Rattle.pfc_tree.specs.trees.Parts.{ProgramTree}
use Rattle.pfc_types.specs.Blocks.{sub_at}
use Rattle.pfc_semantics.specs.Programs.{Block, block_at, block_number, program_of, layout_cells}
use Rattle.pfc_semantics.specs.Remainders.{Action, Call, calls, to_module}
use Rattle.pfc_standing_code.specs.Settings.{IsBeside}
use Rattle.pfc_representation.specs.Levels.{LivingLevel, IsProgram}
use Rattle.pfc_kept_modules.specs.Exported.{IsExported}

-- Where a process is at this level, the procedure with this scope is one that the n-th module exports. The cells of its own block and of those beside it are
-- those of their variables. Both are told of every lawful program in which no rule is broken: the rules let a call behind a module's name be of an exported
-- procedure of this module only, which is a procedure that the module declares, and the cells of a block are counted by its layout.
pub record MayEnter (level : LivingLevel) (n scope : ℕ) : Type 0 where
  pub exported : (t : ProgramTree) (i : ℕ) → level.setting.program ≡ program_of t → IsProgram t → i < length (program_of t).state.blocks.subs
      → scope ≡ (sub_at (program_of t).state.blocks i).scope
      → IsExported t n (block_number (program_of t) scope) (block_at (program_of t) scope) (sub_at (program_of t).state.blocks i).formals
  pub counted : (t : ProgramTree) (b : Block) → level.setting.program ≡ program_of t → IsProgram t → IsBeside level.setting level.setting.block b
      → b.cells ≡ layout_cells (program_of t).state.forms b.layout

abbrev pub IsEnteredBy : LivingLevel → Call → Type 0
IsEnteredBy level (to_module n scope k) = MayEnter level n scope
IsEnteredBy level call = ⊥

-- a call of an exported procedure, from outside its module
abbrev pub EntersModule : LivingLevel → Action → Type 0
EntersModule level (calls x call given) = IsEnteredBy level call
EntersModule level n = ⊥

-- a call from outside a module, by the action alone
abbrev pub IsModuleEntry : LivingLevel → Action → Type 0
IsModuleEntry level (calls x (to_module n scope k) given) = Unit {0}
IsModuleEntry level n = ⊥
