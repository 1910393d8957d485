-- The alternatives still to come fit where all fit.
use Rattle.std.proofs.Common.{◌≡◌, nat_le, drop}
use Rattle.pfc_tree.specs.views.Stmts.{alts_view}
use Rattle.pfc_types.specs.rules.Statements.{alts_count}
use Rattle.pfc_phrases.specs.Views.{env_view}
use Rattle.pfc_rules.proofs.spreads.are_few.Given as goal

abbrev pub invariant-loop-a : goal.invariant-loop-a
invariant-loop-a l = nat_le (alts_count (env_view l.env) (alts_view (drop l.a-index l.alts))) l.room ≡ nat_le
    (alts_count (env_view l.env) (alts_view l.alts)) 1024
