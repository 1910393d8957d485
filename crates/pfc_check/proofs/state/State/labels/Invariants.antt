use Rattle.std.proofs.Common.{◌≡◌, drop}
use Rattle.pfc_types.specs.Views.{levels}
use Rattle.pfc_types.specs.rules.Declarations.{labels_noted}
use Rattle.pfc_check.specs.States.{labels_of}
use Rattle.pfc_check.proofs.state.State.labels.Given as goal

-- what is still to come completes it
abbrev pub invariant-loop-c : goal.invariant-loop-c
invariant-loop-c l =
    labels_noted (levels l.view) (labels_of l.self l.labels) (drop l.c-index l.cs) ≡ labels_noted (levels l.view)
    (labels_of l.initial.self l.initial.labels) l.cs
