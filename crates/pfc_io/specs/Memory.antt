-- What the shelf and the sink in memory hold.
use Rattle.std.specs.Prelude.{ℕ, ◌≤◌, List, Vec, String, map, All}
use Rattle.std.specs.String.{string_bytes}
use Rattle.std.specs.declared.alloc.Global.{Global}
use Rattle.pfc_io.specs.Files.{File}

-- the file of a pair of a name and bytes
abbrev pub file_of : String Global × Vec ℕ Global → File
file_of pair = (string_bytes pair.0, pair.1.items)

-- the files of such pairs
abbrev pub files_of : List (String Global × Vec ℕ Global) → List File
files_of pairs = map file_of pairs

-- no call after the first `calls` has a number that is listed
abbrev pub NoneAbove : List ℕ → ℕ → Type 0
NoneAbove numbers calls = All (λ number. number ≤ calls) numbers
