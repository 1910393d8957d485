-- The grammar by writing: a list of kinds is a program where some lawful tree writes it. Nothing here reads kinds.
use Rattle.std.specs.Prelude.{◌≡◌, ℕ, ◌+◌, ◌<◌, ◌≤◌, ◌⊎◌, List, ◌++◌, length, take, slice_index}
use Rattle.pfc_tree.specs.Symbols.{Symbol}
use Rattle.pfc_tree.specs.shapes.Parts.{ProgramShape}
use Rattle.pfc_tree.specs.tokens.Parts.{tokens_of}
use Rattle.pfc_tree.specs.lawful.Parts.{IsLawful}
use Rattle.pfc_tree.specs.depths.Parts.{depths_of}

-- how many kinds a small tree writes at most
abbrev pub most_tokens : ℕ
most_tokens = 262144

-- how deep a token may stand
abbrev pub most_depth : ℕ
most_depth = 64

-- a tree is small
pub record IsSmall (tree : ProgramShape) : Type 0 where
  pub lawful : IsLawful tree
  pub short : length (tokens_of tree) ≤ most_tokens

-- the kinds are those of some lawful tree
pub record IsProgram (kinds : List Symbol) : Type 0 where
  pub tree : ProgramShape
  pub lawful : IsLawful tree
  pub written : kinds ≡ tokens_of tree

-- a tree continues the kinds: it is lawful, and they are the first of those that it writes
pub record Continues (tree : ProgramShape) (kinds : List Symbol) : Type 0 where
  pub lawful : IsLawful tree
  pub rest : List Symbol
  pub written : kinds ++ rest ≡ tokens_of tree

-- the kinds are the first of some program
pub record BeginsProgram (kinds : List Symbol) : Type 0 where
  pub tree : ProgramShape
  pub continued : Continues tree kinds

-- the first kinds up to place i and with it
abbrev pub up_to : ℕ → List Symbol → List Symbol
up_to i kinds = take (i + 1) kinds

-- the kind at place i is unexpected: with it the kinds do not begin a program
pub record StopsAt (kinds : List Symbol) (i : ℕ) : Type 0 where
  pub inside : i < length kinds
  pub none : BeginsProgram (up_to i kinds) → ⊥

-- the end, whose place is the length, is unexpected: all kinds begin a program and are none
pub record StopsAtEnd (kinds : List Symbol) (i : ℕ) : Type 0 where
  pub end : i ≡ length kinds
  pub begun : BeginsProgram kinds
  pub none : IsProgram kinds → ⊥

-- the first place, from 0, that is unexpected
pub record IsUnexpected (kinds : List Symbol) (i : ℕ) : Type 0 where
  pub before : (j : ℕ) → j < i → BeginsProgram (up_to j kinds)
  pub here : StopsAt kinds i ⊎ StopsAtEnd kinds i

-- the kind at place i is too deep: with it the kinds begin a program, and it is too deep in each tree that continues them
pub record IsTooDeep (kinds : List Symbol) (i : ℕ) : Type 0 where
  pub inside : i < length kinds
  pub begun : BeginsProgram (up_to i kinds)
  pub deep : (tree : ProgramShape) → Continues tree (up_to i kinds) → most_depth < slice_index (depths_of tree) i

-- the first place, from 0, that is too deep
pub record IsDeep (kinds : List Symbol) (i : ℕ) : Type 0 where
  pub here : IsTooDeep kinds i
  pub first : (j : ℕ) → j < i → IsTooDeep kinds j → ⊥

-- a syntax fault, with its code and place: the lesser of the two
pub data IsSyntaxFault (kinds : List Symbol) : ℕ → ℕ → Type 0 where
  unexpected : (i : ℕ) → IsUnexpected kinds i → ((j : ℕ) → IsDeep kinds j → i < j) → IsSyntaxFault kinds 201 i
  deep : (i : ℕ) → IsDeep kinds i → ((j : ℕ) → IsUnexpected kinds j → i < j) → IsSyntaxFault kinds 202 i
