-- What the way from a text to its image comes to.
use Rattle.std.specs.Prelude.{◌≡◌, ◌≤◌, ℕ, List, None}
use Rattle.pfc_base.specs.declared.places.Place.{Place}
use Rattle.pfc_base.specs.declared.tokens.Token.{Token}
use Rattle.pfc_code.specs.Images.{PlainImage}
use Rattle.pfc_scan.specs.Cutting.{IsCut, tokens}
use Rattle.pfc_tree.specs.Grammar.{IsSmall}
use Rattle.pfc_tree.specs.trees.Parts.{ProgramTree}
use Rattle.pfc_tree.specs.forget.Parts.{forget_program}
use Rattle.pfc_grammar.specs.Outcomes.{IsTreeOf}
use Rattle.pfc_types.specs.rules.Whole.{first_fault}
use Rattle.pfc_number_laws.specs.Written.{FitsTree}
use Rattle.pfc_translation.specs.Images.{image_of}
use Rattle.pfc_outcome.specs.Outcomes.{Outcome, IsLevel, IsOutcomeOfTokens, IsOutcomeOfTree, IsUnlisted, instruction_count, most_instructions, refused}
use Rattle.pfc_outcome.specs.Requests.{Request}
use Rattle.pfc_top.specs.Meanings.{source_meaning}
use Rattle.pfc_top.specs.declared.compiling.Uncompiled.{Uncompiled}
use Rattle.pfc_top.specs.declared.compiling.Uncompiled.TheVariants.{Refused, Memory}

-- ## An image

-- a program that is run: no rule is broken in it, each number that it writes has 32 bits, and it is not too large
pub record IsRunnable (tree : ProgramTree) : Type 0 where
  pub small : IsSmall (forget_program tree)
  pub whole : first_fault tree ≡ None
  pub fits : FitsTree tree
  pub few : instruction_count source_meaning tree ≤ most_instructions

-- the image of a tree
pub record IsImage (tree : ProgramTree) (image : PlainImage) : Type 0 where
  pub runnable : IsRunnable tree
  pub same : image ≡ image_of tree

-- the image of the tree that tokens write
pub record AreCompiled (ts : List Token) (image : PlainImage) : Type 0 where
  pub tree : ProgramTree
  pub written : IsTreeOf ts tree
  pub level : IsLevel tree
  pub is : IsImage tree image

-- the image of a text
pub record IsCompiled (text : List ℕ) (image : PlainImage) : Type 0 where
  pub ts : List Token
  pub end : Place
  pub cut : IsCut text (tokens ts end)
  pub compiled : AreCompiled ts image

-- ## No image

-- the text of these outcomes has no image, unless memory is wanting: it is refused by one line, whatever else is asked for
abbrev pub RefusedFor : (Request → Outcome → Type 0) → Uncompiled → Type 0
RefusedFor is (Refused r) = (request : Request) → is request (refused r)
RefusedFor is Memory = Unit {0}

abbrev pub IsUncompiled : List ℕ → Uncompiled → Type 0
IsUncompiled text why = RefusedFor (IsUnlisted source_meaning text) why

abbrev pub AreUncompiled : List Token → Place → Uncompiled → Type 0
AreUncompiled ts end why = RefusedFor (IsOutcomeOfTokens source_meaning ts end) why

abbrev pub IsWithout : ProgramTree → Uncompiled → Type 0
IsWithout tree why = RefusedFor (IsOutcomeOfTree source_meaning tree) why
