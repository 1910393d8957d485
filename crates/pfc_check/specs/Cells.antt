-- Cells, as far as they are counted.
use Rattle.std.specs.Prelude.{ℕ, min}

-- counted up to the greatest number of 64 bits
abbrev pub most : ℕ → ℕ
most n = min n 18446744073709551615
