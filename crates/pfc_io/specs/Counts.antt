-- What it means that a count rose in a call.
use Rattle.std.specs.Prelude.{ℕ, ◌+◌, ◌-◌, ◌^◌, ◌≤◌, min}

-- the greatest number of a count, at which it stands still
abbrev pub greatest : ℕ
greatest = 2 ^ 64 - 1

-- A count rose: it is above what it was before, or it stands at the greatest number.
abbrev pub Rose : ℕ → ℕ → Type 0
Rose before now = min (before + 1) greatest ≤ now
