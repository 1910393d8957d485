-- Pieces that are made of blocks, one behind the other.
use Rattle.std.proofs.Common.{◌≡◌, ◌<◌, ℕ, suc, ◌+◌, ◌-◌, ◌++◌, Bool, true, List, [], ◌∷◌, length, map, take, drop, get_or, sym, ap, ap₂, ◌∙◌, arith}
use Rattle.std.proofs.lemmas.List.{append_assoc, map-append, length-map, drop_more, get_or-map}
use Rattle.pfc_semantics.specs.Programs.{Block}
use Rattle.pfc_translation.specs.Images.{Piece, a_body, an_initial}
use Rattle.pfc_program.specs.Views.{block_view, blocks_view}
use Rattle.pfc_program.specs.declared.tables.Tables.{Tables}
use Rattle.pfc_program.specs.declared.blocks.Block.{Block as HeldBlock}
use Rattle.pfc_generator.specs.Pieces.{initial_of, behind_initial}
use Rattle.pfc_generator.specs.Views.{piece_view, pieces_view}
use Rattle.pfc_generator.specs.declared.pieces.Piece.{Piece as HeldPiece}

module _ (tables : Tables) (blocks : List HeldBlock) (k : ℕ) (b : HeldBlock) (within : k < length blocks) (is : b ≡ get_or blocks k b) where
  -- the block at a place, and those behind it
  pub block_there : drop k (blocks_view tables blocks) ≡ block_view tables b ∷ drop (k + 1) (blocks_view tables blocks)
  block_there =
      drop_more (blocks_view tables blocks) k (block_view tables b) (omega (arith, within, length-map blocks (λ (x : HeldBlock). block_view tables x)))
      ∙ ap (λ (x : Block). x ∷ drop (k + 1) (blocks_view tables blocks))
      (get_or-map (λ (x : HeldBlock). block_view tables x) blocks k b (block_view tables b) within ∙ ap (λ (x : HeldBlock). block_view tables x) (sym is))

  -- its body, and those behind it
  pub bodies_next :
      (all : List HeldPiece) (p : HeldPiece) (n : ℕ) → k < n → piece_view tables p ≡ a_body (block_view tables b)
      → pieces_view tables (all ++ p ∷ []) ++ map a_body (take (n - (k + 1)) (drop (k + 1) (blocks_view tables blocks)))
      ≡ pieces_view tables all ++ map a_body (take (n - k) (drop k (blocks_view tables blocks)))
  bodies_next all p n below seen =
      let left : n - k ≡ suc (n - (k + 1)) = omega (arith, below) in
      let rest : List Block = drop (k + 1) (blocks_view tables blocks) in
      let behind : List Piece = map a_body (take (n - (k + 1)) rest) in
      ap (λ (l : List Piece). l ++ behind) (map-append (λ (x : HeldPiece). piece_view tables x) all (p ∷ []))
      ∙ append_assoc (pieces_view tables all) (piece_view tables p ∷ []) behind
      ∙ ap (λ (x : Piece). pieces_view tables all ++ x ∷ behind) seen
      ∙ ap (λ (l : List Piece). pieces_view tables all ++ l)
      (sym (ap₂ (λ (m : ℕ) (l : List Block). map a_body (take m l)) left block_there))

  -- an initialising body
  pub initial_there : (has : Bool) → has ≡ true → initial_of has (drop k (blocks_view tables blocks)) ≡ an_initial (block_view tables b) ∷ []
  initial_there has has_one = ap₂ (λ (h : Bool) (l : List Block). initial_of h l) has_one block_there

  pub behind_there : (has : Bool) → has ≡ true → behind_initial has (drop k (blocks_view tables blocks)) ≡ drop (k + 1) (blocks_view tables blocks)
  behind_there has has_one = ap₂ (λ (h : Bool) (l : List Block). behind_initial h l) has_one block_there
