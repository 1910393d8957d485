-- Main and the processes that were gone through are made.
use Rattle.std.proofs.Common.{◌≡◌, List, ◌∷◌, map, take}
use Rattle.pfc_semantics.specs.Values.{Value}
use Rattle.pfc_semantics.specs.Configurations.{main_activity, idle_activity}
use Rattle.pfc_activities.specs.Shown.{shown, activities_shown}
use Rattle.pfc_beginning.specs.Beginnings.{program_with}
use Rattle.pfc_beginning.proofs.processes.processes.Given as goal

abbrev pub invariant-loop-i : goal.invariant-loop-i
invariant-loop-i l =
    (variables : List Value)
    → map shown
    (main_activity (program_with l.source variables) ∷ map (idle_activity (program_with l.source variables)) (take l.i l.source.objects.processes.items))
    ≡ activities_shown l.source.program.tables l.made.items
