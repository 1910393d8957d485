-- The arms of a `case` as they are made: the tests and the jumps behind arms lead nowhere at first, and get their addresses when all
-- arms are put.
use Rattle.std.specs.Prelude.{◌≡◌, ℕ, ◌+◌, Bool, true, ◌&&◌, List, [], ◌∷◌, length}
use Rattle.pfc_code.specs.declared.instructions.Instr.TheVariants.{CEQ, JMP}
use Rattle.pfc_tree.specs.declared.tree.Constant.{Constant}
use Rattle.pfc_tree.specs.trees.Stmts.{ArmTrees, arm, no_arms, more_arms}
use Rattle.pfc_types.specs.rules.Constants.{constant_value}
use Rattle.pfc_types.specs.rules.Statements.{arm_scopes}
use Rattle.pfc_emit.specs.Patches.{Lined, has_address_at, patched}
use Rattle.pfc_translation.specs.Sites.{Site}
use Rattle.pfc_translation.specs.Codes.{Code, nothing, ◌⨾◌, one}
use Rattle.pfc_translation.specs.Statements.{label_of, stmt_code}
use Rattle.pfc_expression_code.specs.Putting.{Made, IsMade}

-- ## Code that leads nowhere yet

abbrev pub open_labels : Site → List Constant → Code
open_labels s [] = nothing
open_labels s (l ∷ ls) = one s (CEQ (label_of (constant_value s.env.state.blocks.scopes s.env.view l)) 0) ⨾ open_labels s ls

abbrev pub open_tests : Site → ArmTrees → Code
open_tests s no_arms = nothing
open_tests s (more_arms (arm ls t) arms) = open_labels s ls ⨾ open_tests s arms

-- ## Addresses

-- where arms begin of which the first stands at an address
abbrev pub starts_of : Site → ℕ → ArmTrees → ℕ → List ℕ
starts_of s n no_arms at = []
starts_of s n (more_arms (arm ls t) arms) at = at ∷ starts_of s (n + arm_scopes (arm ls t)) arms (at + (stmt_code s n t).size + 1)

-- the jumps behind them
abbrev pub ends_of : Site → ℕ → ArmTrees → ℕ → List ℕ
ends_of s n no_arms at = []
ends_of s n (more_arms (arm ls t) arms) at =
    (at + (stmt_code s n t).size) ∷ ends_of s (n + arm_scopes (arm ls t)) arms (at + (stmt_code s n t).size + 1)

-- ## Arms that are put

-- one behind the other, each with a jump behind it that leads nowhere yet
abbrev pub ArmsMade : Site → ℕ → ArmTrees → Made → Made → Type 0
ArmsMade s n no_arms x z = x ≡ z
ArmsMade s n (more_arms (arm ls t) arms) x z =
    (y : Made) × IsMade (stmt_code s n t ⨾ one s (JMP 0)) x y × ArmsMade s (n + arm_scopes (arm ls t)) arms y z

-- ## Tests that get an address

-- for each label an instruction with an address argument, from an address on
abbrev pub have_labels : Lined → ℕ → List Constant → Bool
have_labels code at [] = true
have_labels code at (l ∷ ls) = has_address_at code at && have_labels code (at + 1) ls

abbrev pub have_tests : Lined → ℕ → ArmTrees → Bool
have_tests code at no_arms = true
have_tests code at (more_arms (arm ls t) arms) = have_labels code at ls && have_tests code (at + length ls) arms

-- these get one address
abbrev pub labels_led : Lined → ℕ → List Constant → ℕ → Lined
labels_led code at [] target = code
labels_led code at (l ∷ ls) target = labels_led (patched code at target) (at + 1) ls target

-- and those of each arm get that of the arm
abbrev pub tests_led : Lined → ℕ → ArmTrees → List ℕ → Lined
tests_led code at no_arms starts = code
tests_led code at (more_arms (arm ls t) arms) [] = code
tests_led code at (more_arms (arm ls t) arms) (start ∷ starts) = tests_led (labels_led code at ls start) (at + length ls) arms starts
