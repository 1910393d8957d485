-- To whom the end of a body goes back.
use Rattle.std.specs.Prelude.{◌≡◌, ℕ, List, [], ◌∷◌, Option, Some, None}
use Rattle.pfc_program.specs.declared.tables.Tables.{Tables}
use Rattle.pfc_semantics.specs.Values.{Value}
use Rattle.pfc_semantics.specs.Rewriting.{Doing, going, holding}
use Rattle.pfc_semantics.specs.Configurations.{Mark, plain, of_monitor, of_resource, Caller, of_nobody, of_remainder, of_value, Activation}
use Rattle.pfc_activities.specs.declared.activities.Activity.{Activity}
use Rattle.pfc_activities.specs.declared.state.State.{State}
use Rattle.pfc_activities.specs.Relation.{IsIn}
use Rattle.pfc_activities.specs.Views.{activations_view}
use Rattle.pfc_returning.specs.declared.ways.Way.{Way}
use Rattle.pfc_returning.specs.declared.ways.Way.TheVariants as way

-- from the activation with this number and mark to a statement
abbrev pub way_marked : ℕ → Mark → Way
way_marked number plain = way.Statement number
way_marked number (of_monitor m) = way.Monitor number m
way_marked number (of_resource r) = way.Resource number r

-- from one with this number, scope and mark to whoever waits for its end
abbrev pub way_to : ℕ → ℕ → Mark → Caller → Way
way_to number scope mark of_nobody = way.Process
way_to number scope mark (of_remainder env k) = way_marked number mark
way_to number scope mark (of_value x u) = way.Value number scope

-- from the innermost of these; where there is none the process ends
abbrev pub way_from : List Activation → Way
way_from [] = way.Process
way_from (a ∷ below) = way_to a.number a.scope a.mark a.caller

-- that is the way back of process p
abbrev pub IsWay : State → ℕ → Way → Type 0
IsWay s p w = (t : Tables) (a : Activity) → IsIn s.activities.items p a → w ≡ way_from (activations_view t a.activations.items)

-- what the process is at there, with the value for an expression; nothing where nobody waits
abbrev pub doing_back : Caller → Value → Option Doing
doing_back of_nobody v = None
doing_back (of_remainder env k) v = Some (going env k)
doing_back (of_value x u) v = Some (holding x v u)
