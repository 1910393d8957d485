-- How the code of an image is laid out.
use Rattle.std.specs.Prelude.{ℕ, ◌+◌, ◌-◌, ◌<◌, ◌≤◌, List, [], ◌∷◌, ◌++◌, length}
use Rattle.pfc_code.specs.declared.instructions.Instr.{Instr}
use Rattle.pfc_code.specs.declared.instructions.Instr.TheVariants.{SCAN}
use Rattle.pfc_code.specs.declared.images.Block.{Block}
use Rattle.pfc_code.specs.Images.{PlainImage}
use Rattle.pfc_image_laws.specs.Instructions.{Each, Leads, NamesBlock, NamesText, StaysAbove, IsEnded}

-- The own instructions of a block, which stand from its entry on. Its body begins among them. Each of their jumps stays among them. The
-- last is its end, and no other ends a body. What they call or create is a block of the image, and what they write is one of its texts.
pub record IsOwn (image : PlainImage) (b : Block) (own : List Instr) : Type 0 where
  pub body : (b.entry ≤ b.body) × (b.body < b.entry + length own)
  pub jumps : Each (Leads b.entry (b.entry + length own - 1)) b.entry own
  pub ends : IsEnded own
  pub blocks : Each (NamesBlock (length image.blocks)) b.entry own
  pub texts : Each (NamesText 0 (length image.texts)) b.entry own

-- Code from an address on, before which so many resources stand: the blocks one behind the other, each with its own instructions; the turn
-- of each resource's scan at the address that the image has for it; and last main's.
pub data LaidOut (image : PlainImage) : ℕ → ℕ → List Block → List ℕ → List Instr → Type 0 where
  a_block :
      {number : ℕ} (b : Block) {blocks : List Block} {scans : List ℕ} (own : List Instr) {code : List Instr} → IsOwn image b own
      → Each (StaysAbove b.level) b.entry own → LaidOut image (b.entry + length own) number blocks scans code
      → LaidOut image b.entry number (b ∷ blocks) scans (own ++ code)
  a_scan :
      {at number : ℕ} {blocks : List Block} {scans : List ℕ} {code : List Instr} → LaidOut image (at + 1) (number + 1) blocks scans code
      → LaidOut image at number blocks (at ∷ scans) (SCAN number ∷ code)
  of_main : {number : ℕ} (b : Block) (own : List Instr) → IsOwn image b own → LaidOut image b.entry number (b ∷ []) [] own
