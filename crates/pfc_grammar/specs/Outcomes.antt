-- What a reading of a whole program says.
use Rattle.std.specs.Prelude.{◌≡◌, ℕ, ◌≤◌, List, All, Ok, Err}
use Rattle.pfc_base.specs.declared.tokens.Token.{Token}
use Rattle.pfc_tree.specs.Symbols.{Symbol, symbols}
use Rattle.pfc_tree.specs.shapes.Parts.{ProgramShape}
use Rattle.pfc_tree.specs.trees.Parts.{ProgramTree}
use Rattle.pfc_tree.specs.forget.Parts.{forget_program}
use Rattle.pfc_tree.specs.tokens.Parts.{tokens_of}
use Rattle.pfc_tree.specs.lawful.Parts.{IsLawful}
use Rattle.pfc_tree.specs.depths.Parts.{depths_of}
use Rattle.pfc_tree.specs.kept.Parts.{ArePlacesOf}
use Rattle.pfc_grammar.specs.Reading.{Outcome}
use Rattle.pfc_grammar.specs.placed.Reading as placed

-- the tree is lawful, writes the kinds, and has no token that stands deeper than n
pub record IsRead (n : ℕ) (kinds : List Symbol) (tree : ProgramShape) : Type 0 where
  pub lawful : IsLawful tree
  pub written : kinds ≡ tokens_of tree
  pub within : All (λ d. d ≤ n) (depths_of tree)

-- what a reading of tokens comes to, without places
abbrev pub bare_outcome : placed.Outcome ProgramTree → Outcome ProgramShape
bare_outcome (Ok p) = Ok (forget_program p.0, symbols p.1)
bare_outcome (Err h) = Err h

-- the tree is lawful, writes the kinds of the tokens, and keeps their places
pub record IsTreeOf (tokens : List Token) (tree : ProgramTree) : Type 0 where
  pub lawful : IsLawful (forget_program tree)
  pub written : symbols tokens ≡ tokens_of (forget_program tree)
  pub kept : ArePlacesOf tree tokens
