-- What stands among the first names of a program was declared before.
use Rattle.std.specs.Prelude.{ℕ, ◌+◌, ◌<◌, ◌≡◌, length, Some}
use Rattle.pfc_tree.specs.Symbols.{Text}
use Rattle.pfc_tree.specs.trees.Parts.{PartTrees, no_parts, more_parts}
use Rattle.pfc_types.specs.Scopes.{scope_at, found_at, meaning_of}
use Rattle.pfc_types.specs.Blocks.{State, sub_at, module_at}
use Rattle.pfc_types.specs.declared.scope.Meaning.TheVariants.{Sub, Module}
use Rattle.pfc_types.specs.rules.Bodies.{level, passed_part, part_scopes}

-- The first n names of the program's scope stand for no sub and no module whose scope was opened later: the next scope has this number.
pub record IsBefore (s : State) (n next : ℕ) : Type 0 where
  pub subs : (x : Text) (k : ℕ) → meaning_of (found_at s.blocks.scopes (level 0 n) x) ≡ Some (Sub k)
      → (k < length s.blocks.subs) × ((sub_at s.blocks k).scope < next)
  pub modules : (x : Text) (k : ℕ) → meaning_of (found_at s.blocks.scopes (level 0 n) x) ≡ Some (Module k)
      → (k < length s.blocks.modules) × ((module_at s.blocks k).scope < next)

-- at each part of the program, and behind the last
abbrev pub AreBefore : State → ℕ → ℕ → PartTrees → Type 0
AreBefore s n next no_parts = IsBefore s n next
AreBefore s n next (more_parts q qs) = IsBefore s n next × AreBefore s (passed_part (scope_at s.blocks.scopes 0) n q) (next + part_scopes q) qs
