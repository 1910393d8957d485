-- The ends of procedures of monitors that were called from outside.
use Rattle.std.specs.Prelude.{ℕ, ◌≢◌, ◌<◌, ◌≡◌, ◌^◌, List, drop, All}
use Rattle.pfc_code.specs.declared.instructions.Instr.TheVariants.{RET}
use Rattle.pfc_tree.specs.trees.Parts.{ProgramTree}
use Rattle.pfc_semantics.specs.Configurations.{Mark, of_monitor, Activation}
use Rattle.pfc_semantics.specs.Programs.{program_of}
use Rattle.pfc_semantics.specs.Remainders.{Action, finishes}
use Rattle.pfc_translation.specs.Images.{image_of}
use Rattle.pfc_representation.specs.Levels.{LivingLevel, IsProgram}

-- The end of a procedure, where the image counts its monitors with 32 bits. So it is in each image that there is; of a program it is not told by any rule,
-- since a monitor without procedures and statements has no code.
abbrev pub EndsInMonitor : LivingLevel → Action → Type 0
EndsInMonitor level (finishes line) =
    (level.setting.last ≡ RET)
    × ((t : ProgramTree) → level.setting.program ≡ program_of t → IsProgram t → (image_of t).monitors < 2 ^ 32)
EndsInMonitor level n = ⊥

-- The callers of the activation at hand have not entered the monitor. So it is of whoever acts, at all times: who is in a monitor and calls one of its
-- procedures from outside waits for what it holds itself, and nobody else hands that over.
abbrev pub AreOutside : ℕ → List Activation → Type 0
AreOutside n activations = All (λ (a : Activation). a.mark ≢ of_monitor n) (drop 1 activations)

-- the same where the activation at hand has entered a monitor, and nothing where it has not
abbrev pub IsInOnce : Mark → List Activation → Type 0
IsInOnce (of_monitor n) activations = AreOutside n activations
IsInOnce mark activations = Unit {0}
