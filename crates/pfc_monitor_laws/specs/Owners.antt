-- Whose conditions are.
use Rattle.std.specs.Prelude.{ℕ, ◌<◌, ◌≡◌, ◌≢◌, pos, false, List, length, get_or, Some}
use Rattle.std.specs.List.{slice_get}
use Rattle.pfc_tree.specs.trees.Parts.{ProgramTree}
use Rattle.pfc_types.specs.Blocks.{module_at}
use Rattle.pfc_types.specs.declared.scope.Meaning.{Meaning}
use Rattle.pfc_types.specs.rules.Whole.{finished}
use Rattle.pfc_semantics.specs.Values.{Value, ordinal, part}
use Rattle.pfc_semantics.specs.Objects.{module_number}
use Rattle.pfc_semantics.specs.Programs.{program_of}

-- the scope i is that of a monitor, which is the n-th of the modules
pub record IsOfMonitor (t : ProgramTree) (i n : ℕ) : Type 0 where
  pub among : n < length (finished t).blocks.modules
  pub scope : (module_at (finished t).blocks n).scope ≡ i
  pub inner : i ≢ 0
  pub monitor : (module_at (finished t).blocks n).resource ≡ false

-- the value is the number of one of these conditions, which is of the monitor with this number
abbrev pub IsOneOf : List ℕ → ℕ → Value → Type 0
IsOneOf conditions monitor v = (n : ℕ) × (v ≡ ordinal (pos n)) × (slice_get conditions n ≡ Some monitor)

-- The scope i is that of a monitor; and where its variable with this place and meaning lies so among main's, the condition to which the path leads is one of
-- that monitor.
abbrev pub IsItsMonitors : ProgramTree → ℕ → ℕ → Meaning → List ℕ → Type 0
IsItsMonitors t i place m path =
    let g = program_of t in
    (n : ℕ) × IsOfMonitor t i n
    × (slice_get g.main.layout place ≡ Some m
    → IsOneOf g.objects.conditions (module_number (finished t).blocks n) (part path (get_or g.variables place (ordinal (pos 0)))))
