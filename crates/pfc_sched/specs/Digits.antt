-- The number of an item of which some digits were read.
use Rattle.std.specs.Prelude.{ℕ, nat_le, ◌&&◌, if◌then◌else◌, List, Option, Some, None}
use Rattle.std.specs.List.{list_all}
use Rattle.std.specs.Char.{is_ascii_digit}
use Rattle.std.specs.Str.Parse.{digits_value_after}

-- the number where these bytes follow digits of this value
abbrev pub number_behind : ℕ → List ℕ → Option ℕ
number_behind value bytes = if list_all is_ascii_digit bytes && nat_le (digits_value_after 10 value bytes) 4294967295 then
    Some (digits_value_after 10 value bytes) else None
