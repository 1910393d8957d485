-- The bytes of output pieces.
use Rattle.std.specs.Prelude.{ℕ, List}
use Rattle.pfc_values.specs.Pieces.{shown}
use Rattle.pfc_pending.specs.declared.pending.Piece.{Piece}
use Rattle.pfc_pending.specs.declared.pending.Piece.TheVariants as piece

abbrev pub piece_bytes : Piece → List ℕ
piece_bytes (piece.Text text) = text.now
piece_bytes (piece.Shown t n) = shown t n
