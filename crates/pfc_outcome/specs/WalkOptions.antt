-- What the words of the walker's command line ask for.
use Rattle.std.specs.Prelude.{ℕ, min, Bool, true, false, List, Option, Some, None, codes, option_and_then, option_map, unwrap_or}
use Rattle.clap.specs.Words.{App, Row, Rule, Text, first_of, matches_of, new_app, with_rule}
use Rattle.pfc_outcome.specs.Options.{Asked, file_rule, flag, from_file, greatest, is_set, most_actions, number_at, options_by, usual_limit, usual_seed}
use Rattle.pfc_outcome.specs.Options.{with_number, with_word}
use Rattle.pfc_outcome.specs.declared.walk_options.Shown.{Shown}
use Rattle.pfc_outcome.specs.declared.walk_options.Shown.TheVariants.{Output, Trace, Races}

-- ---- the command

abbrev pub needed_file_rule : Rule
needed_file_rule = record file_rule { required = true }

-- the command: FILE, and the options in the order of the usage line
abbrev pub walk_command : App
walk_command =
    with_rule (with_rule (with_rule (with_rule (with_rule (with_rule (with_rule (with_rule (with_rule (new_app (codes "pfcwalk"))
    needed_file_rule)
    (with_number (codes "seed") 0 greatest))
    (flag (codes "unfair")))
    (with_number (codes "limit") 1 most_actions))
    (with_word (codes "input")))
    (with_word (codes "script")))
    (flag (codes "list")))
    (flag (codes "trace")))
    (flag (codes "races"))

-- ---- what is shown of the run

-- by whether its trace and its races are asked for: not both
abbrev pub shown_by : Bool → Bool → Option Shown
shown_by false false = Some Output
shown_by true false = Some Trace
shown_by false true = Some Races
shown_by true true = None

abbrev pub shown_in : List Row → Option Shown
shown_in rows = shown_by (is_set (codes "trace") rows) (is_set (codes "races") rows)

-- What is shown where the words are not refused: as a rule the output and the report.
abbrev pub shown_with : List Row → Shown
shown_with rows = unwrap_or (shown_in rows) Output

abbrev pub shown_of : List Text → Shown
shown_of words = shown_with (matches_of walk_command words)

-- the most actions of a run whose races are told
abbrev pub most_watched : ℕ
most_watched = 2000

-- A run whose races are told has no more actions than that, whatever limit the words give.
abbrev pub limit_for : Shown → ℕ → ℕ
limit_for Races limit = min limit most_watched
limit_for Output limit = limit
limit_for Trace limit = limit

-- ---- the options of the words

-- a text of a file, and no code text
abbrev pub walk_asked_with : List Row → Shown → Text → Asked
walk_asked_with rows shown file = record {
  source = from_file file;
  seed = unwrap_or (number_at (codes "seed") 0 greatest rows) usual_seed;
  unfair = is_set (codes "unfair") rows;
  limit = limit_for shown (unwrap_or (number_at (codes "limit") 1 most_actions rows) usual_limit);
  input = first_of (codes "input") rows;
  script = first_of (codes "script") rows;
  list = is_set (codes "list") rows;
  code = false;
}

abbrev pub walk_asked_by : List Row → Option Asked
walk_asked_by rows = option_and_then (λ shown. option_map (walk_asked_with rows shown) (first_of (codes "file") rows)) (shown_in rows)

-- What the words of `pfcwalk` ask for; nothing where the command does not take them, or where both the trace and the races are asked for. The first
-- word is the program's name.
abbrev pub walk_options_of : List Text → Option Asked
walk_options_of words = options_by walk_command (λ rows. walk_asked_by rows) words
