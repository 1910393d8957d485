-- The files of a run: what of them a shelf lacks, and what is loaded.
use Rattle.std.specs.Prelude.{◌≡◌, ℕ, List, [], length, Option, Some, None, IsSomeAnd, if◌then◌else◌, nat_lt}
use Rattle.std.specs.Option.{option_or}
use Rattle.pfc_io.specs.Files.{File, AreHeld, bytes_of}

-- the most bytes of a text, and of an input and a script
abbrev pub text_limit : ℕ
text_limit = 262144

abbrev pub stream_limit : ℕ
stream_limit = 1048576

-- the names of the text, the input and the script, as far as they are asked for
pub record Names : Type 0 where
  pub text : Option (List ℕ)
  pub input : Option (List ℕ)
  pub script : Option (List ℕ)

abbrev pub names_of : Option (List ℕ) → Option (List ℕ) → Option (List ℕ) → Names
names_of t i s = record { text = t; input = i; script = s }

-- what is wrong with a file that is asked for
pub data Lack : Type 0 where
  missing : Lack
  long : Lack

abbrev pub lack_of_bytes : ℕ → Option (List ℕ) → Option Lack
lack_of_bytes most None = Some missing
lack_of_bytes most (Some bytes) = if nat_lt most (length bytes) then Some long else None

-- what these files lack of the one of this name, which may have so many bytes
abbrev pub lack_of : List File → ℕ → Option (List ℕ) → Option Lack
lack_of files most None = None
lack_of files most (Some name) = lack_of_bytes most (bytes_of name files)

-- What is wrong with the first of text, input and script, in this order, with which something is.
abbrev pub first_lack : List File → Names → Option Lack
first_lack files names =
    option_or (lack_of files text_limit names.text) (option_or (lack_of files stream_limit names.input) (lack_of files stream_limit names.script))

-- where the shelf tells its files, this is wrong with the first of them with which something is
abbrev pub Lacks : Option (List File) → Names → Lack → Type 0
Lacks told names lack = IsSomeAnd told (λ files. first_lack files names ≡ Some lack)

-- the same of one file
abbrev pub LacksOne : Option (List File) → ℕ → Option (List ℕ) → Option Lack → Type 0
LacksOne told most name lack = IsSomeAnd told (λ files. lack_of files most name ≡ lack)

-- These are the bytes of the file that is asked for, where the shelf tells its files; none are asked for where there is no name.
abbrev pub IsGiven : Option (List File) → Option (List ℕ) → List ℕ → Type 0
IsGiven told None bytes = bytes ≡ []
IsGiven told (Some name) bytes = AreHeld told name bytes
