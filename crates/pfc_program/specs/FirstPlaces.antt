-- The first place of a number in a list.
use Rattle.std.specs.Prelude.{ℕ, ◌==◌, if◌then◌else◌, Option, Some}
use Rattle.std.specs.Option.{option_or}

-- what is known of the number i, where the number `key` stands at the place n behind all others
abbrev pub noted : ℕ → ℕ → ℕ → Option ℕ → Option ℕ
noted key n i before = if key == i then option_or before (Some n) else before
