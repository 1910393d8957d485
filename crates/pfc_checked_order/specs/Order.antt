-- The order of the parts of a program, by the scopes with which they begin.
use Rattle.std.specs.Prelude.{ℕ, ◌+◌, ◌-◌, ◌≤◌, ◌<◌, ◌≡◌, ◌==◌, ◌⊎◌, nat_lt, Bool, true, false, if◌then◌else◌, List, [], ◌∷◌}
use Rattle.pfc_tree.specs.trees.Parts.{PartTrees, ProgramTree, no_parts, more_parts}
use Rattle.pfc_types.specs.declared.heads.ModuleHead.{ModuleHead}
use Rattle.pfc_types.specs.rules.Bodies.{part_scopes, parts_scopes}
use Rattle.pfc_types.specs.rules.Whole.{finished}
use Rattle.pfc_state.specs.Waits.{same_truth}
use Rattle.pfc_semantics.specs.Programs.{Block}
use Rattle.pfc_semantics.specs.Configurations.{Mark, plain, of_monitor, of_resource}
use Rattle.pfc_guard_laws.specs.Tops.{Tops}

-- the first scope of the part in which a scope stands
abbrev pub start_of : ℕ → PartTrees → ℕ → ℕ
start_of next no_parts j = next
start_of next (more_parts q qs) j = if nat_lt j (next + part_scopes q) then next else start_of (next + part_scopes q) qs j

-- the scope of the k-th resource, or monitor
abbrev pub scope_of_kind : Bool → List ModuleHead → ℕ → ℕ
scope_of_kind r [] k = 0
scope_of_kind r (m ∷ ms) k =
    if same_truth m.resource r then (if k == 0 then m.scope else scope_of_kind r ms (k - 1)) else scope_of_kind r ms k

abbrev pub scope_of_mark : List ModuleHead → Mark → ℕ
scope_of_mark ms plain = 0
scope_of_mark ms (of_resource k) = scope_of_kind true ms k
scope_of_mark ms (of_monitor k) = scope_of_kind false ms k

-- main comes behind all parts
abbrev pub top_of : PartTrees → ℕ → ℕ
top_of qs j = if j == 0 then 1 + parts_scopes qs else start_of 1 qs j

abbrev pub tops_of : ProgramTree → Tops
tops_of t = record { of_scope = λ j. top_of t.parts j; of_mark = λ m. scope_of_mark (finished t).blocks.modules m }

-- A block has a scope of its own below the end, and stands in the program or in the part in which the block around it does.
pub record IsPlaced (top : ℕ → ℕ) (end : ℕ) (b : Block) : Type 0 where
  pub some : 1 ≤ b.scope
  pub few : b.scope < end
  pub outer : (b.outer ≡ 0) ⊎ (top b.outer ≡ top b.scope)
