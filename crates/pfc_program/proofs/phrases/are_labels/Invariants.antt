-- The labels still to come decide.
use Rattle.std.proofs.Common.{◌≡◌, drop}
use Rattle.pfc_semantics.specs.Statements as statements
use Rattle.pfc_program.specs.Views.{names_view}
use Rattle.pfc_program.proofs.phrases.are_labels.Given as goal

abbrev pub invariant-loop-label : goal.invariant-loop-label
invariant-loop-label l =
    statements.are_labels (names_view l.tables l.names) l.n (drop l.label-index l.labels) ≡ statements.are_labels (names_view l.tables l.names) l.n l.labels
