-- What the race report of the run of a text shows.
use Rattle.std.specs.Prelude.{ℕ, List, Option, None, option_map}
use Rattle.std.specs.Fmt.{digits}
use Rattle.pfc_sched.specs.Picks.{Picking}
use Rattle.pfc_sched.specs.Words.{stream, word, after_word}
use Rattle.pfc_samples.specs.Texts.{program_in}
use Rattle.pfc_races.specs.Ordered.{races_told}

-- The lines of the races of the run of a text over an input, a seed of `random`, a way of picking, and at most so many actions; None where
-- the text has a fault.
unfoldable pub races_in : List ℕ → List ℕ → ℕ → Picking → ℕ → Option (List ℕ)
unfolding program_in digits stream word after_word
races_in text input seed picking limit = option_map (λ tree. races_told tree input seed picking limit) (program_in text)
