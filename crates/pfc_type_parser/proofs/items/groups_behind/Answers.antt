use Rattle.std.proofs.Common.{rules, arith}
use Rattle.std.proofs.lemmas.Result.{err_from_is_err_and}
use Rattle.pfc_tree.specs.views.Types.{group_view}
use Rattle.pfc_token_parser.proofs.Branches.{viewed}
use Rattle.pfc_token_parser.proofs.Loops.{turning_begins, turning_goes, turning_ends, turning_halts}
use Rattle.pfc_type_parser.proofs.items.groups_behind.Goals as goal

pub loop-behind-init : goal.loop-behind-init
loop-behind-init c = search (rules, turning_begins)

pub returns-in_err-item-clause-gives : goal.returns-in_err-item-clause-gives
returns-in_err-item-clause-gives c = let p = err_from_is_err_and c.from_residual-in_err-item.result c.from_residual-in_err-item.ensures.1 in rw (p.1, p.2)
    (turning_halts _ _ _ _ _ _ _ _ c.loop-behind.invariant.turning c.in-Some.ensures.taken c.in_err-item.ensures.gives)

pub loop-behind-preserved : goal.loop-behind-preserved
loop-behind-preserved c = record {
  shorter = omega (arith, c.in-Some.ensures.kept, c.in_ok-item.ensures.kept);
  turning = turning_goes _ _ _ _ _ _ _ _ _ _ c.loop-behind.invariant.turning c.in-Some.ensures.taken c.in_ok-item.ensures.gives
      (omega (arith, c.in_ok-item.ensures.kept)) (viewed group_view _ _ c.in_ok-item.item (search rules));
}

pub returns-clause-gives : goal.returns-clause-gives
returns-clause-gives c = turning_ends _ _ _ _ _ c.loop-behind.invariant.turning (search (rules, c.in_default.ensures.taken))
