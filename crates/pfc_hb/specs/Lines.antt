-- The lines of races.
use Rattle.std.specs.Prelude.{ℕ, ◌-◌, ◌≤◌, Bool, true, false, List, [], ◌∷◌, ◌++◌, length, codes}
use Rattle.std.specs.List.{flat_map}
use Rattle.std.specs.Fmt.{decimal}
use Rattle.pfc_hb.specs.declared.events.Event.{Event}
use Rattle.pfc_hb.specs.declared.events.Race.{Race}
use Rattle.pfc_hb.specs.Order.{event_at}
use Rattle.pfc_hb.specs.Conflicts.{writes_against}

-- both are numbers of events
pub record IsPair (events : List Event) (race : Race) : Type 0 where
  pub first_from : 1 ≤ race.first
  pub first_to : race.first ≤ length events
  pub second_from : 1 ≤ race.second
  pub second_to : race.second ≤ length events

abbrev pub deed_text : Bool → List ℕ
deed_text true = codes " writes at line "
deed_text false = codes " reads at line "

-- an action by its number, with the part that it has in its conflict with another
abbrev pub action_text : ℕ → Event → Event → List ℕ
action_text number e other =
    codes "action " ++ decimal number ++ codes " process " ++ decimal e.process ++ deed_text (writes_against e other) ++ decimal e.line

abbrev pub pair_text : Race → Event → Event → List ℕ
pair_text race a b =
    codes "-- race: " ++ action_text race.first a b ++ codes ", " ++ action_text race.second b a ++ codes "\n"

abbrev pub race_text : List Event → Race → List ℕ
race_text events race = pair_text race (event_at events (race.first - 1)) (event_at events (race.second - 1))

-- a line for each race, or one line where there is none
abbrev pub race_lines_text : List Event → List Race → List ℕ
race_lines_text events [] = codes "-- no races\n"
race_lines_text events (race ∷ races) = flat_map (race_text events) (race ∷ races)
