-- what is found, with what is still to come, is what is to be found
use Rattle.std.proofs.Common.{◌≡◌, drop}
use Rattle.pfc_tree.specs.views.Exprs.{actuals_view}
use Rattle.pfc_types.specs.rules.Calls.{broken_reads}
use Rattle.pfc_phrases.specs.Found.{noted}
use Rattle.pfc_phrases.specs.Views.{env_view}
use Rattle.pfc_phrases.proofs.items.reads.Given as goal

abbrev pub invariant-loop-a : goal.invariant-loop-a
invariant-loop-a l =
    noted l.best (broken_reads (env_view l.env) (actuals_view (drop l.a-index l.args))) ≡ noted l.initial.best
    (broken_reads (env_view l.env) (actuals_view l.args))
