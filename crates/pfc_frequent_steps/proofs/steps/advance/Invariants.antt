-- The same action comes next behind each step.
use Rattle.std.proofs.Common.{◌≡◌}
use Rattle.pfc_phrases.specs.Views.{env_view}
use Rattle.pfc_program.specs.declared.tables.Tables.{Tables}
use Rattle.pfc_semantics.specs.Alternatives.{context}
use Rattle.pfc_pending.specs.Waiting.{waiting}
use Rattle.pfc_frequent_steps.specs.Near.{near_ahead}
use Rattle.pfc_frequent_steps.proofs.steps.advance.Given as goal

abbrev pub invariant-loop-step : goal.invariant-loop-step
invariant-loop-step l = (t : Tables) →
    near_ahead t (context (env_view l.site.env) l.line) (waiting t l.pending.items) l.near
    ≡ near_ahead t (context (env_view l.site.env) l.fn.line) (waiting t l.fn.pending.items) l.fn.near
