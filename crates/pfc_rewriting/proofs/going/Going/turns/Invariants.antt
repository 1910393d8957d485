-- The same action comes next at each turn.
use Rattle.std.proofs.Common.{◌≡◌}
use Rattle.pfc_phrases.specs.Views.{env_view}
use Rattle.pfc_program.specs.declared.tables.Tables.{Tables}
use Rattle.pfc_rewriting.specs.Going.{going_ahead}
use Rattle.pfc_rewriting.proofs.going.Going.turns.Given as goal

abbrev pub invariant-loop-turn : goal.invariant-loop-turn
invariant-loop-turn l = (t : Tables) → going_ahead t (env_view l.site.env) l.self ≡ going_ahead t (env_view l.site.env) l.fn.self
