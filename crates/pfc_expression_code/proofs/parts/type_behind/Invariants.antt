-- The indices still to come decide.
use Rattle.std.proofs.Common.{◌≡◌, drop}
use Rattle.pfc_tree.specs.views.Exprs.{exprs_view}
use Rattle.pfc_translation.specs.Addresses.{type_behind}
use Rattle.pfc_expression_code.proofs.parts.type_behind.Given as goal

abbrev pub invariant-loop-e : goal.invariant-loop-e
invariant-loop-e l = type_behind l.types l.behind (exprs_view (drop l.e-index l.es)) ≡ type_behind l.types l.fn.t (exprs_view l.es)
