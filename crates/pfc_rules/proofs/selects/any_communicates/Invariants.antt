-- The alternatives still to come decide.
use Rattle.std.proofs.Common.{◌≡◌, drop}
use Rattle.pfc_tree.specs.views.Stmts.{alts_view}
use Rattle.pfc_types.specs.rules.Statements.{any_communicates}
use Rattle.pfc_rules.proofs.selects.any_communicates.Given as goal

abbrev pub invariant-loop-a : goal.invariant-loop-a
invariant-loop-a l = any_communicates (alts_view (drop l.a-index l.alts)) ≡ any_communicates (alts_view l.alts)
