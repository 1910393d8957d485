-- The files of a shelf, where it tells them.
use Rattle.std.specs.Prelude.{◌≡◌, ℕ, ◌<◌, List, length, Option, None, Some, IsSomeAnd, IfSome, bytes_eq}
use Rattle.std.specs.Map.{lookup}

-- a file: its name and its bytes
abbrev pub File : Type 0
File = List ℕ × List ℕ

-- the bytes of the first file of this name
abbrev pub bytes_of : List ℕ → List File → Option (List ℕ)
bytes_of name files = lookup (bytes_eq name) files

-- where the shelf tells its files, these are the bytes held under this name
abbrev pub AreHeld : Option (List File) → List ℕ → List ℕ → Type 0
AreHeld told name bytes = IfSome told (λ files. bytes_of name files ≡ Some bytes)

-- the shelf tells its files, and none has this name
abbrev pub IsMissing : Option (List File) → List ℕ → Type 0
IsMissing told name = IsSomeAnd told (λ files. bytes_of name files ≡ None)

-- the shelf tells its files, and more than `most` bytes are held under this name
abbrev pub IsLong : Option (List File) → List ℕ → ℕ → Type 0
IsLong told name most = IsSomeAnd told (λ files. IsSomeAnd (bytes_of name files) (λ bytes. most < length bytes))
