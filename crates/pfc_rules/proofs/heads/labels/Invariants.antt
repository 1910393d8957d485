-- The labels still to come complete what is found.
use Rattle.std.proofs.Common.{◌≡◌, drop}
use Rattle.pfc_types.specs.rules.Statements.{broken_labels}
use Rattle.pfc_phrases.specs.Found.{noted}
use Rattle.pfc_phrases.specs.Views.{env_view}
use Rattle.pfc_rules.proofs.heads.labels.Given as goal

abbrev pub invariant-loop-c : goal.invariant-loop-c
invariant-loop-c l =
    noted l.best (broken_labels (env_view l.env) l.t (drop l.c-index l.cs)) ≡ noted l.fn.best (broken_labels (env_view l.env) l.t l.cs)
