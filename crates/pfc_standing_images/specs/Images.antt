-- Settings of an image, and where the code of each block stands in it.
use Rattle.std.specs.Prelude.{ℕ, ◌+◌, ◌≤◌, ◌≡◌, List, [], ◌∷◌, length, map}
use Rattle.pfc_code.specs.declared.images.Block.{Block as CodeBlock}
use Rattle.pfc_tree.specs.trees.Parts.{ProgramTree}
use Rattle.pfc_semantics.specs.Layouts.{sub_with}
use Rattle.pfc_semantics.specs.Programs.{Block, program_of}
use Rattle.pfc_translation.specs.Sites.{level_of}
use Rattle.pfc_translation.specs.Codes.{Code}
use Rattle.pfc_translation.specs.Operands.{params_of, most_operands}
use Rattle.pfc_translation.specs.Images.{guard_code, statements_code, end_of, instructions, image_of}
use Rattle.pfc_standing_code.specs.Settings.{Setting, IsAt, HasCode, HasTexts}

-- ## Settings of an image

-- The program is that of the tree, code, lines and strings are those of its image, and there is room for the alternatives of any select in it.
pub record IsOfImage (t : ProgramTree) (g : Setting) : Type 0 where
  pub program : g.program ≡ program_of t
  pub code : instructions g.code ≡ (image_of t).code
  pub lines : map (λ c. c.1) g.code ≡ (image_of t).lines
  pub texts : g.texts ≡ (image_of t).texts
  pub arms : (image_of t).arms ≤ g.arms

-- The body at hand is that of the block b, which the image has as c: it ends as b does, and over the operands of the callers there is room for
-- those of the block.
pub record IsOfBlock (g : Setting) (b : Block) (c : CodeBlock) : Type 0 where
  pub last : g.last ≡ end_of (sub_with g.program.state.blocks.subs b.scope)
  pub room : length g.under + c.operands ≤ g.room

-- ## Blocks in the code

-- The code of a phrase of the block stands here, with its strings from the n-th on. With nothing held before it, it holds at most the operands of
-- the block, and there is room for the alternatives of its selects.
pub record HasPhrase (g : Setting) (c : CodeBlock) (at n : ℕ) (code : Code) : Type 0 where
  pub has : HasCode g at (code.put at n)
  pub texts : HasTexts g n code.texts
  pub operands : most_operands g.program 0 (instructions (code.put at n)) ≤ c.operands
  pub arms : code.arms ≤ g.arms

-- the statements of b, and behind them its end, with the line of the `end`
pub record HasBody (g : Setting) (c : CodeBlock) (b : Block) (at n : ℕ) : Type 0 where
  pub statements : HasPhrase g c at n (statements_code g.program b)
  pub end : IsAt g (at + (statements_code g.program b).size) (end_of (sub_with g.program.state.blocks.subs b.scope)) b.last_line

-- The block b, which the image has as c: from its entry on a guard with its `GRD`, where it has one, and from its body on the body. Its strings
-- are those from the n-th on.
pub record BlockStands (g : Setting) (b : Block) (c : CodeBlock) : Type 0 where
  pub n : ℕ
  pub guard : HasPhrase g c c.entry n (guard_code g.program b b.guard)
  pub behind_guard : c.body ≡ c.entry + (guard_code g.program b b.guard).size
  pub body : HasBody g c b c.body (n + length (guard_code g.program b b.guard).texts)
  pub params : c.params ≡ params_of g.program b
  pub cells : c.cells ≡ b.cells
  pub level : c.level ≡ level_of g.program.state.blocks b
  pub line : c.line ≡ b.first_line

-- the statements of one body stand behind those of the other, and behind the last all is as is said
abbrev pub StatementsThen : Setting → CodeBlock → ℕ → List Block → (ℕ → Type 0) → Type 0
StatementsThen g c at [] behind = behind at
StatementsThen g c at (b ∷ bs) behind =
    ((n : ℕ) × HasPhrase g c at n (statements_code g.program b)) × StatementsThen g c (at + (statements_code g.program b).size) bs behind

-- Main, which the image has as c: from its entry on the initialising bodies in the order of the text, and behind them the main body.
pub record MainStands (g : Setting) (c : CodeBlock) : Type 0 where
  pub bodies : StatementsThen g c c.entry g.program.modules (λ at. (n : ℕ) × HasBody g c g.program.main at n)
  pub body : c.body ≡ c.entry
  pub params : c.params ≡ 0
  pub cells : c.cells ≡ g.program.main.cells
  pub level : c.level ≡ 0
  pub line : c.line ≡ g.program.main.first_line
