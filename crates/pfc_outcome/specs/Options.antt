-- What the words of the command line ask for.
use Rattle.std.specs.Prelude.{ℕ, Bool, false, List, [], ◌∷◌, Option, Some, None, codes, option_and_then, unwrap_or, if◌then◌else◌}
use Rattle.std.specs.Str.{bytes_eq}
use Rattle.std.specs.Str.Parse.{digits_value, without_leading_plus}
use Rattle.clap.specs.ValueTests.{accepts}
use Rattle.clap.specs.Words.{App, Row, Rule, Text, Kinds, fault_of, first_of, matches_of, new_app, new_rule, with_rule}
use Rattle.clap.specs.declared.builder.action.ArgAction.TheVariants.{Set, SetTrue}
use Rattle.clap.specs.declared.builder.value_parser.ValueParser.TheVariants as parser

-- the text to be run: that of a file, or a made one of this size
pub data Source : Type 0 where
  from_file : Text → Source
  made : ℕ → Source

-- all that the words ask for
pub record Asked : Type 0 where
  pub source : Source
  pub seed : ℕ
  pub unfair : Bool
  pub limit : ℕ
  pub input : Option Text
  pub script : Option Text
  pub list : Bool
  pub code : Bool

-- ---- the command

-- the greatest number of 64 bits
abbrev pub greatest : ℕ
greatest = 18446744073709551615

-- the greatest limit of actions, and the greatest size of a made text
abbrev pub most_actions : ℕ
most_actions = 100000000

abbrev pub most_made : ℕ
most_made = 31

-- an option that takes a word, and one that takes none
abbrev pub with_word : Text → Rule
with_word name = record (new_rule name) { long = Some name; action = Some Set }

abbrev pub flag : Text → Rule
flag name = record (new_rule name) { long = Some name; action = Some SetTrue }

-- an option that takes a number from the least to the greatest
abbrev pub with_number : Text → ℕ → ℕ → Rule
with_number name least greatest = record (with_word name) { parser = Some (parser.Unsigned least greatest) }

abbrev pub file_rule : Rule
file_rule = record (new_rule (codes "file")) { action = Some Set }

-- the command: FILE, and the options in the order of the usage line
abbrev pub pfc_command : App
pfc_command =
    with_rule (with_rule (with_rule (with_rule (with_rule (with_rule (with_rule (with_rule (with_rule (new_app (codes "pfc"))
    file_rule)
    (with_number (codes "seed") 0 greatest))
    (flag (codes "unfair")))
    (with_number (codes "limit") 1 most_actions))
    (with_word (codes "input")))
    (with_word (codes "script")))
    (flag (codes "list")))
    (flag (codes "code")))
    (with_number (codes "make") 1 most_made)

-- ---- the options of the words

-- the number that a word writes, as an option of this range takes it: decimal digits, where a plus may stand first
abbrev pub number_of : ℕ → ℕ → Text → Option ℕ
number_of least most word = if accepts false (parser.Unsigned least most) word then Some (digits_value 10 (without_leading_plus word)) else None

abbrev pub number_at : Text → ℕ → ℕ → List Row → Option ℕ
number_at name least most rows = option_and_then (number_of least most) (first_of name rows)

-- a flag is set where its value is the word `true`
abbrev pub is_true_word : Option Text → Bool
is_true_word None = false
is_true_word (Some word) = bytes_eq word (codes "true")

abbrev pub is_set : Text → List Row → Bool
is_set name rows = is_true_word (first_of name rows)

-- exactly one of FILE and the size of a made text
abbrev pub source_of : Option Text → Option ℕ → Option Source
source_of (Some file) None = Some (from_file file)
source_of None (Some size) = Some (made size)
source_of (Some file) (Some size) = None
source_of None None = None

-- the seed and the limit of actions where the words give none
abbrev pub usual_seed : ℕ
usual_seed = 1

abbrev pub usual_limit : ℕ
usual_limit = 1000000

abbrev pub asked_with : List Row → Option Source → Option Asked
asked_with rows None = None
asked_with rows (Some source) = Some (record {
  source = source;
  seed = unwrap_or (number_at (codes "seed") 0 greatest rows) usual_seed;
  unfair = is_set (codes "unfair") rows;
  limit = unwrap_or (number_at (codes "limit") 1 most_actions rows) usual_limit;
  input = first_of (codes "input") rows;
  script = first_of (codes "script") rows;
  list = is_set (codes "list") rows;
  code = is_set (codes "code") rows;
})

abbrev pub asked_by : List Row → Option Asked
asked_by rows = asked_with rows (source_of (first_of (codes "file") rows) (number_at (codes "make") 1 most_made rows))

-- where a command takes the words, what its rows ask for
abbrev pub taken : (List Row → Option Asked) → Kinds → List Row → Option Asked
taken by [] rows = by rows
taken by (fault ∷ faults) rows = None

-- what the words ask for by a command; nothing where it does not take them
abbrev pub options_by : App → (List Row → Option Asked) → List Text → Option Asked
options_by command by words = taken by (fault_of command words) (matches_of command words)

-- What the words of `pfc` ask for; nothing where the command does not take them, or where not exactly one of FILE and `--make` is given.
-- The first word is the program's name.
abbrev pub options_of : List Text → Option Asked
options_of words = options_by pfc_command (λ rows. asked_by rows) words
