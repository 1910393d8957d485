-- What a new activation adds to the homes and to the living activations.
use Rattle.std.specs.Prelude.{ℕ, ◌==◌, if◌then◌else◌, List, Some}
use Rattle.pfc_cells.specs.Homes.{Home, Homes}
use Rattle.pfc_cells.specs.Memory.{Entry, Entries}

-- the homes with that of one more activation
abbrev pub with_home : Homes → ℕ → Home → Homes
with_home homes a home b = if b == a then Some home else homes b

-- other living activations of process p
abbrev pub with_entries : Entries → ℕ → List Entry → Entries
with_entries entries p es q = if q == p then es else entries q
