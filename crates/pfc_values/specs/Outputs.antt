-- The bytes of an output.
use Rattle.std.specs.Prelude.{◌≡◌, ℕ, Bool, not, List, ◌++◌, Result, Ok, Err, IsOk}
use Rattle.pfc_base.specs.declared.faults.RunFault.{RunFault}
use Rattle.pfc_values.specs.declared.pieces.PieceFault.{PieceFault}
use Rattle.pfc_values.specs.declared.pieces.PieceFault.TheVariants.{Fault, Memory}
use Rattle.pfc_values.specs.Inputs.{ends_lines}

-- the piece is not refused, and it stands behind the old bytes
pub record Gains (old new : List ℕ) (piece : Result (List ℕ) RunFault) : Type 0 where
  pub added : List ℕ
  pub given : piece ≡ Ok added
  pub bytes : new ≡ old ++ added

-- why a piece is not put: its own fault, or want of memory where it has none
abbrev pub IsRefusedBy : Result (List ℕ) RunFault → PieceFault → Type 0
IsRefusedBy piece (Fault f) = piece ≡ Err f
IsRefusedBy piece Memory = IsOk piece

-- the bytes are not empty, and they do not end with byte 10
abbrev pub is_open_line : List ℕ → Bool
is_open_line bytes = not (ends_lines bytes)
