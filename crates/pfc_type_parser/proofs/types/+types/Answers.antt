use Rattle.std.proofs.Common.{rules, arith}
use Rattle.std.proofs.lemmas.Result.{err_from_is_err_and}
use Rattle.pfc_token_parser.proofs.Branches.{viewed}
use Rattle.pfc_token_parser.proofs.Ended.{ending_begins, ending_goes, ending_ends, ending_closes, ending_halts}
use Rattle.pfc_type_parser.proofs.Levels.{type_below}
use Rattle.pfc_type_parser.proofs.types.+types.Goals as goal

pub type_node-returns-in-Some-clause-gives : goal.type_node-returns-in-Some-clause-gives
type_node-returns-in-Some-clause-gives t c =
    rw (type_below c.args.levels c.in-Some.below c.args.tokens.now (omega (arith, c.in-Some.ensures))) c.type_form.ensures.gives

pub fields_behind-loop-behind-init : goal.fields_behind-loop-behind-init
fields_behind-loop-behind-init t c = search (rules, ending_begins)

pub fields_behind-returns-then-is_word-clause-gives : goal.fields_behind-returns-then-is_word-clause-gives
fields_behind-returns-then-is_word-clause-gives t c =
    ending_closes _ _ _ _ _ _ _ _ c.loop-behind.invariant.ending c.in-Some.ensures.taken (search (rules, c.if-is_word.ensures))

pub fields_behind-returns-in_err-item-clause-gives : goal.fields_behind-returns-in_err-item-clause-gives
fields_behind-returns-in_err-item-clause-gives t c = let p = err_from_is_err_and c.from_residual-in_err-item.result c.from_residual-in_err-item.ensures.1 in rw
    (p.1, p.2) (ending_halts _ _ _ _ _ _ _ _ _ c.loop-behind.invariant.ending c.in-Some.ensures.taken
    (search (rules, c.if-is_word.ensures)) c.in_err-item.ensures.gives)

pub fields_behind-loop-behind-preserved : goal.fields_behind-loop-behind-preserved
fields_behind-loop-behind-preserved t c = record {
  shorter = omega (arith, c.in-Some.ensures.kept, c.in_ok-item.ensures.kept);
  ending = ending_goes _ _ _ _ _ _ _ _ _ _ _ c.loop-behind.invariant.ending c.in-Some.ensures.taken
      (search (rules, c.if-is_word.ensures)) c.in_ok-item.ensures.gives (omega (arith, c.in_ok-item.ensures.kept)) (viewed _ _ _ _ (search rules));
}

pub fields_behind-returns-clause-gives : goal.fields_behind-returns-clause-gives
fields_behind-returns-clause-gives t c = ending_ends _ _ _ _ _ _ c.loop-behind.invariant.ending (search (rules, c.in_default.ensures.taken))
