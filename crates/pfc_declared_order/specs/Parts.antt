-- The blocks of each part of a program stand among its scopes, and see no more of the program's names than were passed there.
use Rattle.std.specs.Prelude.{ℕ, ◌+◌, ◌≤◌, ◌<◌, ◌≡◌, ◌⊎◌, false, []}
use Rattle.std.specs.List.{AllByRecursion}
use Rattle.pfc_tree.specs.trees.Parts.{PartTree, PartTrees, monitor, resource, no_parts, more_parts}
use Rattle.pfc_types.specs.Scopes.{Names, Level, scope_at}
use Rattle.pfc_types.specs.Blocks.{State}
use Rattle.pfc_types.specs.rules.Statements.{stmts_scopes}
use Rattle.pfc_types.specs.rules.Bodies.{passed_part, part_scopes}
use Rattle.pfc_semantics.specs.Programs.{Block, part_blocks, part_inits}

-- a scope in view at a part with the scopes from lo to below hi: one of these, or the program's, of which at most n names are in view
abbrev pub IsSeenAt : ℕ → ℕ → ℕ → Level → Type 0
IsSeenAt lo hi n l = ((l.scope ≡ 0) × (l.count ≤ n)) ⊎ ((lo ≤ l.scope) × (l.scope < hi))

-- what stands in the program, or in a scope of the part
abbrev pub IsInPart : ℕ → ℕ → ℕ → Type 0
IsInPart lo hi i = (i ≡ 0) ⊎ ((lo ≤ i) × (i < hi))

-- a block of the part, whose accepts have scopes of the part
pub record IsOfPart (s : State) (lo hi n : ℕ) (b : Block) : Type 0 where
  pub low : lo ≤ b.scope
  pub high : b.scope < hi
  pub outer : IsInPart lo hi b.outer
  pub state : b.env.state ≡ s
  pub view : AllByRecursion (IsSeenAt lo hi n) b.env.view
  pub next : lo ≤ b.next
  pub accepts : b.next + stmts_scopes b.stmts ≤ hi

-- an initialising body sees the module and what was passed before it
pub record IsInitOfPart (s : State) (lo hi n : ℕ) (b : Block) : Type 0 where
  pub state : b.env.state ≡ s
  pub view : AllByRecursion (IsSeenAt lo hi n) b.env.view
  pub next : lo ≤ b.next
  pub accepts : b.next + stmts_scopes b.stmts ≤ hi

-- Subs and processes see their own names; modules do not.
abbrev pub seen_in : Names → ℕ → PartTree → ℕ
seen_in names n (monitor m) = n
seen_in names n (resource m) = n
seen_in names n q = passed_part names n q

abbrev pub PartsStand : State → ℕ → ℕ → PartTrees → Type 0
PartsStand s n next no_parts = Unit {0}
PartsStand s n next (more_parts q qs) =
    let names = scope_at s.blocks.scopes 0 in
    AllByRecursion (IsOfPart s next (next + part_scopes q) (seen_in names n q)) (part_blocks s false 0 n [] next q)
    × AllByRecursion (IsInitOfPart s next (next + part_scopes q) (seen_in names n q)) (part_inits s n next q)
    × PartsStand s (passed_part names n q) (next + part_scopes q) qs
