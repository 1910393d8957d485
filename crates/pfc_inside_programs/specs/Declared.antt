-- Where subs are declared.
use Rattle.std.specs.Prelude.{◌≡◌, ℕ, Some}
use Rattle.pfc_tree.specs.Symbols.{Text}
use Rattle.pfc_types.specs.Scopes.{meaning_in, scope_at}
use Rattle.pfc_types.specs.Blocks.{sub_at}
use Rattle.pfc_types.specs.declared.scope.Meaning.TheVariants.{Sub}
use Rattle.pfc_semantics.specs.Programs.{Program, block_at}

-- A name stands for a sub in the scope alone in which the sub is declared, which is the one around its block. It is so of every lawful tree, by the walk over
-- its declarations: a heading takes the number of the next scope, and its name is noted in the scope at hand.
abbrev pub DeclaresSubs : Program → Type 0
DeclaresSubs g =
    (j k : ℕ) (x : Text) → meaning_in (scope_at g.state.blocks.scopes j) x ≡ Some (Sub k) → (block_at g (sub_at g.state.blocks k).scope).outer ≡ j
