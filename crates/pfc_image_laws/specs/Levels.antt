-- The static links of activations.
use Rattle.std.specs.Prelude.{◌≡◌, ℕ, zero, suc, ◌==◌, Bool, true, false, ◌||◌, if◌then◌else◌, List, [], ◌∷◌}
use Rattle.pfc_types.specs.Scopes.{Level}
use Rattle.pfc_types.specs.Blocks.{Blocks}
use Rattle.pfc_semantics.specs.Programs.{Block, Program, block_at}
use Rattle.pfc_translation.specs.Sites.{is_mains, links_from}

-- The scope of the block whose activation holds the variables of the scope i: those of the program and of its modules are main's, with 0.
abbrev pub held_with : Blocks → ℕ → ℕ
held_with b i = if is_mains b i then 0 else i

-- The static link of an activation leads to one of the block around its own: from the scope of the one to that of the other.
abbrev pub linked_to : Program → ℕ → ℕ
linked_to g i = held_with g.state.blocks (block_at g i).outer

-- so many static links up
abbrev pub links_up : Program → ℕ → ℕ → ℕ
links_up g zero i = held_with g.state.blocks i
links_up g (suc l) i = links_up g l (linked_to g i)

-- whether a scope is in view
abbrev pub sees : List Level → ℕ → Bool
sees [] i = false
sees (l ∷ view) i = l.scope == i || sees view i

-- As many static links as the image has lead from the block to the activation that holds the variables of a scope: of each that is in view in
-- its body, and of the program's and of each module's.
abbrev pub IsReached : Program → Block → Type 0
IsReached g b =
    (i : ℕ) → (is_mains g.state.blocks i || sees b.env.view i) ≡ true
    → links_up g (links_from g.state.blocks b i) b.scope ≡ held_with g.state.blocks i
