use Rattle.std.proofs.Common.{rules, arith}
use Rattle.std.proofs.lemmas.Result.{err_from_is_err_and}
use Rattle.pfc_tree.specs.views.Types.{var_view}
use Rattle.pfc_token_parser.proofs.Branches.{viewed}
use Rattle.pfc_token_parser.proofs.Loops.{turning_begins, turning_goes, turning_ends, turning_halts}
use Rattle.pfc_type_parser.proofs.items.var_items_behind.Goals as goal

pub loop-x-init : goal.loop-x-init
loop-x-init c = search (rules, turning_begins)

pub returns-in_err-item-clause-gives : goal.returns-in_err-item-clause-gives
returns-in_err-item-clause-gives c = let p = err_from_is_err_and c.from_residual-in_err-item.result c.from_residual-in_err-item.ensures.1 in rw (p.1, p.2)
    (turning_halts _ _ _ _ _ _ _ _ c.loop-x.invariant.turning c.in-Some.ensures.taken (rw (← c.in_ok-copy.ensures) c.in_err-item.ensures.gives))

pub loop-x-preserved : goal.loop-x-preserved
loop-x-preserved c = record {
  shorter = omega (arith, c.in-Some.ensures.kept, c.in_ok-item.ensures.kept);
  turning = turning_goes _ _ _ _ (var_view c.in_ok-item.item) _ _ c.in_ok-item.after.now _ _ c.loop-x.invariant.turning c.in-Some.ensures.taken
      (rw (← c.in_ok-copy.ensures) c.in_ok-item.ensures.gives) (omega (arith, c.in_ok-item.ensures.kept))
      (viewed var_view _ _ c.in_ok-item.item (search rules));
}

pub returns-clause-gives : goal.returns-clause-gives
returns-clause-gives c = turning_ends _ _ _ _ _ c.loop-x.invariant.turning (search (rules, c.in_default.ensures.taken))
