-- The branches of a select as they are made: the jumps behind them lead nowhere until all are put.
use Rattle.std.specs.Prelude.{◌≡◌, Bool, true, false, ℕ, ◌+◌, List, [], ◌∷◌, ◌++◌, Option}
use Rattle.pfc_code.specs.declared.instructions.Instr.TheVariants.{JMP}
use Rattle.pfc_tree.specs.trees.Stmts.{StmtTrees, AltTree, AltTrees, CommTree, alt, no_alts, more_alts, terminate}
use Rattle.pfc_tree.specs.declared.tree.Spread.{Spread}
use Rattle.pfc_types.specs.rules.Statements.{comm_scopes, alt_scopes}
use Rattle.pfc_translation.specs.Sites.{Site}
use Rattle.pfc_translation.specs.Codes.{Code, ◌⨾◌, one, unseen}
use Rattle.pfc_translation.specs.Statements.{chosen_code, spread_replicas, met_code, stmts_code, branch_code, branches_from, spread_of}
use Rattle.pfc_expression_code.specs.Putting.{Made, IsMade}

abbrev pub is_terminate : CommTree → Bool
is_terminate (terminate p) = true
is_terminate comm = false

-- a branch without the jump behind it
abbrev pub branch_body : Site → ℕ → Option Spread → CommTree → StmtTrees → Code
branch_body s n spread comm ss = chosen_code s (spread_replicas s spread) ⨾ met_code s n comm ⨾ stmts_code s (n + comm_scopes comm) ss

abbrev pub open_branch : Site → ℕ → AltTree → Code
open_branch s n (alt spread guard (terminate p) ss) = unseen (stmts_code s n ss)
open_branch s n (alt spread guard comm ss) = branch_body s n spread comm ss ⨾ one s (JMP 0)

-- ## Addresses

-- where branches begin of which the first stands at an address, each value of a replicated alternative apart
abbrev pub branch_starts : Site → ℕ → AltTrees → ℕ → List ℕ
branch_starts s n no_alts at = []
branch_starts s n (more_alts a alts) at =
    branches_from s at (spread_of a) ++ branch_starts s (n + alt_scopes a) alts (at + (branch_code s n a 0).size)

-- the jump behind a branch that begins at an address
abbrev pub end_of : Site → ℕ → AltTree → ℕ → List ℕ
end_of s n (alt spread guard (terminate p) ss) at = []
end_of s n (alt spread guard comm ss) at = (at + (branch_body s n spread comm ss).size) ∷ []

abbrev pub branch_ends : Site → ℕ → AltTrees → ℕ → List ℕ
branch_ends s n no_alts at = []
branch_ends s n (more_alts a alts) at =
    end_of s n a at ++ branch_ends s (n + alt_scopes a) alts (at + (branch_code s n a 0).size)

-- ## Branches that are put

-- one behind the other, each with a jump behind it that leads nowhere yet
abbrev pub BranchesMade : Site → ℕ → AltTrees → Made → Made → Type 0
BranchesMade s n no_alts x z = x ≡ z
BranchesMade s n (more_alts a alts) x z = (y : Made) × IsMade (open_branch s n a) x y × BranchesMade s (n + alt_scopes a) alts y z
