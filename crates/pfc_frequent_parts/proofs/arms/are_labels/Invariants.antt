-- The labels still to come decide.
use Rattle.std.proofs.Common.{◌≡◌, drop}
use Rattle.pfc_semantics.specs.Statements.{are_labels}
use Rattle.pfc_phrases.specs.Views.{env_view}
use Rattle.pfc_frequent_parts.proofs.arms.are_labels.Given as goal

abbrev pub invariant-loop-label : goal.invariant-loop-label
invariant-loop-label l = are_labels (env_view l.env) l.v (drop l.label-index l.labels) ≡ are_labels (env_view l.env) l.v l.labels
