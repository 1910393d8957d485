-- Outputs that grow.
use Rattle.std.specs.Prelude.{◌≡◌, ℕ, List, ◌++◌}

-- the new bytes are the old ones, and further ones behind them
abbrev pub Extends : List ℕ → List ℕ → Type 0
Extends old new = (bytes : List ℕ) × (new ≡ old ++ bytes)
