-- Requeues.
use Rattle.std.specs.Prelude.{ℕ, ◌<◌, ◌≡◌, ◌∷◌, length, Some}
use Rattle.std.specs.List.{slice_get}
use Rattle.pfc_code.specs.declared.instructions.Instr.TheVariants.{RET}
use Rattle.pfc_tree.specs.trees.Parts.{ProgramTree}
use Rattle.pfc_types.specs.Blocks.{sub_at}
use Rattle.pfc_semantics.specs.Programs.{Block, Guard, block_at, block_number, program_of, layout_cells}
use Rattle.pfc_semantics.specs.Remainders.{Action, Call, calls, to_requeue}
use Rattle.pfc_translation.specs.Sites.{module_of}
use Rattle.pfc_representation.specs.Levels.{LivingLevel, IsProgram}
use Rattle.pfc_kept_modules.specs.Exported.{IsExported}

-- A process at this level is in the body of a guarded procedure, which is none of main's bodies, and the procedure with this scope is another of the same
-- resource, with a guard. The cells of each block are those of its variables. All this is told of every lawful program in which no rule is broken: the rules
-- let `requeue` stand only in the body of a guarded procedure, in which no accept stands, and name only one of the same resource.
pub record MayRequeue (level : LivingLevel) (scope : ℕ) : Type 0 where
  pub last : level.setting.last ≡ RET
  pub own : Guard
  pub guarded : level.setting.block.guard ≡ Some own
  pub apart : (t : ProgramTree) (i : ℕ) → level.setting.program ≡ program_of t → IsProgram t
      → slice_get ((program_of t).main ∷ (program_of t).modules) i ≡ Some level.setting.block → ⊥
  pub exported : (t : ProgramTree) (i : ℕ) → level.setting.program ≡ program_of t → IsProgram t → i < length (program_of t).state.blocks.subs
      → scope ≡ (sub_at (program_of t).state.blocks i).scope
      → (n : ℕ) × IsExported t n (block_number (program_of t) scope) (block_at (program_of t) scope) (sub_at (program_of t).state.blocks i).formals
      × (module_of (program_of t).state.blocks level.setting.block.outer ≡ Some n)
  pub guard : (t : ProgramTree) → level.setting.program ≡ program_of t → IsProgram t → (guard : Guard) × ((block_at (program_of t) scope).guard ≡ Some guard)
  pub counted : (t : ProgramTree) (k : ℕ) (b : Block) → level.setting.program ≡ program_of t → IsProgram t
      → slice_get ((program_of t).main ∷ (program_of t).blocks) k ≡ Some b → b.cells ≡ layout_cells (program_of t).state.forms b.layout
  pub alone : level.setting.block.accepts ≡ 0

abbrev pub IsRequeuedBy : LivingLevel → Call → Type 0
IsRequeuedBy level (to_requeue scope) = MayRequeue level scope
IsRequeuedBy level call = ⊥

-- a requeue
abbrev pub Requeues : LivingLevel → Action → Type 0
Requeues level (calls x call given) = IsRequeuedBy level call
Requeues level n = ⊥

-- a requeue, by the action alone
abbrev pub IsToRequeue : Call → Type 0
IsToRequeue (to_requeue scope) = Unit {0}
IsToRequeue call = ⊥

abbrev pub AsksRequeue : Action → Type 0
AsksRequeue (calls x call given) = IsToRequeue call
AsksRequeue n = ⊥
