-- Ends of processes, and creations.
use Rattle.std.specs.Prelude.{◌≡◌}
use Rattle.pfc_code.specs.declared.instructions.Instr.TheVariants.{END}
use Rattle.pfc_tree.specs.trees.Parts.{ProgramTree}
use Rattle.pfc_semantics.specs.Programs.{program_of}
use Rattle.pfc_semantics.specs.Remainders.{Action, Call, calls, to_process, finishes}
use Rattle.pfc_translation.specs.Objects.{objects_of}
use Rattle.pfc_object_laws.specs.Objects.{number_at}
use Rattle.pfc_representation.specs.Levels.{LivingLevel, IsProgram}
use Rattle.pfc_kept_lives.specs.Creatable.{AreCreatable}

-- the end of the body of a process, main's among them
abbrev pub EndsProcess : LivingLevel → Action → Type 0
EndsProcess level (finishes line) = level.setting.last ≡ END
EndsProcess level n = ⊥

-- Where a process is at this level, it can create others. The objects have the numbers that the image has for them.
pub record MayCreate (level : LivingLevel) : Type 0 where
  pub creatable : (t : ProgramTree) → level.setting.program ≡ program_of t → IsProgram t → AreCreatable t
  pub objects : level.setting.number ≡ number_at (objects_of level.setting.program)

abbrev pub IsCreatedBy : LivingLevel → Call → Type 0
IsCreatedBy level (to_process v k) = MayCreate level
IsCreatedBy level call = ⊥

-- the creation of a process
abbrev pub CreatesProcess : LivingLevel → Action → Type 0
CreatesProcess level (calls x call given) = IsCreatedBy level call
CreatesProcess level n = ⊥
