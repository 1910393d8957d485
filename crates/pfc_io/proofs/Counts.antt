-- A count that rose in one of several calls rose in all of them together.
use Rattle.std.proofs.Common.{ℕ, ◌≤◌, arith}
use Rattle.pfc_io.specs.Counts.{Rose}

-- it rose, and later calls kept it
pub Rose-later : (a b c : ℕ) → Rose a b → b ≤ c → Rose a c
Rose-later a b c rose kept = omega arith

-- earlier calls kept it, and then it rose
pub Rose-earlier : (a b c : ℕ) → a ≤ b → Rose b c → Rose a c
Rose-earlier a b c kept rose = omega arith
