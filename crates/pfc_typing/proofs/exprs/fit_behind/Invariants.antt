-- The arguments still to come decide, where those so far fit.
use Rattle.std.proofs.Common.{◌≡◌, ◌&&◌, drop}
use Rattle.pfc_tree.specs.views.Exprs.{actuals_view}
use Rattle.pfc_types.specs.rules.Expressions.{args_fit}
use Rattle.pfc_phrases.specs.Views.{env_view, wants_view}
use Rattle.pfc_typing.proofs.exprs.fit_behind.Given as goal

abbrev pub invariant-loop-a : goal.invariant-loop-a
invariant-loop-a l =
    (l.fit && args_fit (env_view l.env) (wants_view l.wants) (actuals_view (drop l.a-index l.args))) ≡ args_fit (env_view l.env)
    (wants_view l.initial.wants) (actuals_view l.args)
