-- The meaning of programs of the whole language, by their source text.
use Rattle.pfc_tree.specs.trees.Parts.{ProgramTree}
use Rattle.pfc_sched.specs.Picks.{first_picking}
use Rattle.pfc_semantics.specs.Runs as runs
use Rattle.pfc_semantics.specs.Runs.{run, standings}
use Rattle.pfc_translation.specs.Images.{image_of}
use Rattle.pfc_outcome.specs.Meanings.{Meaning, Run}
use Rattle.pfc_outcome.specs.Requests.{Settings}

-- the source text's own run
unfoldable pub run_of : ProgramTree → Settings → runs.Run
run_of t s = run t s.input s.seed (first_picking s.policy) s.limit

-- what is told of a run's end
abbrev pub told_of : runs.Run → Run
told_of f = record { ending = f.ending; output = f.config.output; standings = standings f.config }

unfoldable pub whole_meaning : Meaning
whole_meaning = record { image = λ t. image_of t; run = λ t s. told_of (run_of t s) }
