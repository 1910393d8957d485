use Rattle.std.proofs.Common.{rules, arith, [], Ok, ap, refl}
use Rattle.pfc_base.specs.declared.sign.TheConstants.{SEMICOLON}
use Rattle.pfc_grammar.specs.Heads.{as_sign}
use Rattle.std.proofs.lemmas.Result.{err_from_is_err_and}
use Rattle.pfc_tree.specs.declared.tree.Comm.{the_lemmas}
use Rattle.pfc_grammar.specs.placed.Reading.{bind, pure, list_of, many, many_onto}
use Rattle.pfc_grammar.specs.placed.Stmts as reader
use Rattle.pfc_token_parser.proofs.Branches.{branch_taken, branch_not_taken, bind_halts, viewed}
use Rattle.pfc_token_parser.proofs.Ended.{ending_begins, ending_goes, ending_ends, ending_closes, ending_halts}
use Rattle.pfc_token_parser.proofs.Loops.{turning_begins, turning_goes, turning_ends, turning_halts}
use Rattle.pfc_tree.specs.trees.Stmts.{StmtTree}
use Rattle.pfc_statement_parser.proofs.Named.{stmt_named}
use Rattle.pfc_statement_parser.proofs.Seen.{seen_if_then, seen_if_else}
use Rattle.pfc_statement_parser.proofs.StmtLevels.{stmt_below}
use Rattle.pfc_statement_parser.proofs.stmts.+stmts.Goals as goal

pub stmt-returns-in-Some-name-clause-gives : goal.stmt-returns-in-Some-name-clause-gives
stmt-returns-in-Some-name-clause-gives t c =
    rw (
      stmt_below c.args.levels c.in-Some.below c.args.tokens.now
          (omega (arith, c.in-Some.ensures)),
      stmt_named _ _ _ _ _ c.in-Some-name.ensures.taken,
    ) c.action_behind.ensures.gives

pub stmt-returns-in-None-clause-gives : goal.stmt-returns-in-None-clause-gives
stmt-returns-in-None-clause-gives t c =
    rw (stmt_below c.args.levels c.in-Some.below c.args.tokens.now (omega (arith, c.in-Some.ensures))) c.stmt_form.ensures.gives

pub stmts_onto-loop-behind-init : goal.stmts_onto-loop-behind-init
stmts_onto-loop-behind-init t c = search (rules, turning_begins)

pub stmts_onto-returns-in_err-item-clause-gives : goal.stmts_onto-returns-in_err-item-clause-gives
stmts_onto-returns-in_err-item-clause-gives t c = let p = err_from_is_err_and c.from_residual.result c.from_residual.ensures.1 in rw (p.1, p.2)
    (turning_halts _ _ _ _ _ _ _ _ c.loop-behind.invariant.turning c.in-Some.ensures.taken c.in_err-item.ensures.gives)

pub stmts_onto-loop-behind-preserved : goal.stmts_onto-loop-behind-preserved
stmts_onto-loop-behind-preserved t c = record {
  shorter = omega (arith, c.in-Some.ensures.kept, c.in_ok-item.ensures.kept);
  turning = turning_goes _ _ _ _ _ _ _ _ _ _ c.loop-behind.invariant.turning c.in-Some.ensures.taken c.in_ok-item.ensures.gives
      (omega (arith, c.in_ok-item.ensures.kept)) (viewed _ _ _ _ (search rules));
}

pub stmts_onto-returns-clause-gives : goal.stmts_onto-returns-clause-gives
stmts_onto-returns-clause-gives t c = turning_ends _ _ _ _ _ c.loop-behind.invariant.turning (search (rules, c.in_default.ensures.taken))

pub alts_behind-loop-behind-init : goal.alts_behind-loop-behind-init
alts_behind-loop-behind-init t c = search (rules, turning_begins)

pub alts_behind-returns-in_err-item-clause-gives : goal.alts_behind-returns-in_err-item-clause-gives
alts_behind-returns-in_err-item-clause-gives t c = let p = err_from_is_err_and c.from_residual-in_err-item.result c.from_residual-in_err-item.ensures.1 in rw
    (p.1, p.2) (turning_halts _ _ _ _ _ _ _ _ c.loop-behind.invariant.turning c.in-Some.ensures.taken c.in_err-item.ensures.gives)

pub alts_behind-loop-behind-preserved : goal.alts_behind-loop-behind-preserved
alts_behind-loop-behind-preserved t c = record {
  shorter = omega (arith, c.in-Some.ensures.kept, c.in_ok-item.ensures.kept);
  turning = turning_goes _ _ _ _ _ _ _ _ _ _ c.loop-behind.invariant.turning c.in-Some.ensures.taken c.in_ok-item.ensures.gives
      (omega (arith, c.in_ok-item.ensures.kept)) (viewed _ _ _ _ (search rules));
}

pub alts_behind-returns-clause-gives : goal.alts_behind-returns-clause-gives
alts_behind-returns-clause-gives t c = turning_ends _ _ _ _ _ c.loop-behind.invariant.turning (search (rules, c.in_default.ensures.taken))

pub arms_behind-loop-behind-init : goal.arms_behind-loop-behind-init
arms_behind-loop-behind-init t c = search (rules, ending_begins)

pub arms_behind-returns-then-is_word-clause-gives : goal.arms_behind-returns-then-is_word-clause-gives
arms_behind-returns-then-is_word-clause-gives t c =
    ending_closes _ _ _ _ _ _ _ _ c.loop-behind.invariant.ending c.in-Some.ensures.taken (search (rules, c.if-is_word.ensures))

pub arms_behind-returns-in_err-item-clause-gives : goal.arms_behind-returns-in_err-item-clause-gives
arms_behind-returns-in_err-item-clause-gives t c = let p = err_from_is_err_and c.from_residual-in_err-item.result c.from_residual-in_err-item.ensures.1 in rw
    (p.1, p.2) (ending_halts _ _ _ _ _ _ _ _ _ c.loop-behind.invariant.ending c.in-Some.ensures.taken
    (search (rules, c.if-is_word.ensures)) c.in_err-item.ensures.gives)

pub arms_behind-loop-behind-preserved : goal.arms_behind-loop-behind-preserved
arms_behind-loop-behind-preserved t c = record {
  shorter = omega (arith, c.in-Some.ensures.kept, c.in_ok-item.ensures.kept);
  ending = ending_goes _ _ _ _ _ _ _ _ _ _ _ c.loop-behind.invariant.ending c.in-Some.ensures.taken
      (search (rules, c.if-is_word.ensures)) c.in_ok-item.ensures.gives (omega (arith, c.in_ok-item.ensures.kept)) (viewed _ _ _ _ (search rules));
}

pub arms_behind-returns-clause-gives : goal.arms_behind-returns-clause-gives
arms_behind-returns-clause-gives t c = ending_ends _ _ _ _ _ _ c.loop-behind.invariant.ending (search (rules, c.in_default.ensures.taken))

pub stmt_form-returns-in-Some-word-2-clause-gives : goal.stmt_form-returns-in-Some-word-2-clause-gives
unfolding reader.stmt_with
stmt_form-returns-in-Some-word-2-clause-gives t c =
    rw (
      branch_not_taken _ _ _ _ c.in_default.ensures.taken,
      branch_not_taken _ _ _ _ c.in_default-word.ensures.taken,
      branch_taken _ _ _ _ _ _
          c.in-Some-word-2.ensures.taken,
    ) c.if_behind.ensures.gives

pub stmt_form-returns-in-Some-word-3-clause-gives : goal.stmt_form-returns-in-Some-word-3-clause-gives
unfolding reader.stmt_with
stmt_form-returns-in-Some-word-3-clause-gives t c =
    rw (
      branch_not_taken _ _ _ _ c.in_default.ensures.taken,
      branch_not_taken _ _ _ _ c.in_default-word.ensures.taken,
      branch_not_taken _ _ _ _
          c.in_default-word-2.ensures.taken,
      branch_taken _ _ _ _ _ _ c.in-Some-word-3.ensures.taken,
    ) c.case_behind.ensures.gives

pub stmt_form-returns-in-Some-word-4-clause-gives : goal.stmt_form-returns-in-Some-word-4-clause-gives
unfolding reader.stmt_with
stmt_form-returns-in-Some-word-4-clause-gives t c =
    rw (
      branch_not_taken _ _ _ _ c.in_default.ensures.taken,
      branch_not_taken _ _ _ _ c.in_default-word.ensures.taken,
      branch_not_taken _ _ _ _
          c.in_default-word-2.ensures.taken,
      branch_not_taken _ _ _ _ c.in_default-word-3.ensures.taken,
      branch_taken _ _ _ _ _ _
          c.in-Some-word-4.ensures.taken,
    ) c.while_behind.ensures.gives

pub stmt_form-returns-in-Some-word-5-clause-gives : goal.stmt_form-returns-in-Some-word-5-clause-gives
unfolding reader.stmt_with
stmt_form-returns-in-Some-word-5-clause-gives t c =
    rw (
      branch_not_taken _ _ _ _ c.in_default.ensures.taken,
      branch_not_taken _ _ _ _ c.in_default-word.ensures.taken,
      branch_not_taken _ _ _ _
          c.in_default-word-2.ensures.taken,
      branch_not_taken _ _ _ _ c.in_default-word-3.ensures.taken,
      branch_not_taken _ _ _ _ c.in_default-word-4.ensures.taken,
      branch_taken _ _ _ _ _ _ c.in-Some-word-5.ensures.taken,
    ) c.repeat_behind.ensures.gives

pub stmt_form-returns-in-Some-word-6-clause-gives : goal.stmt_form-returns-in-Some-word-6-clause-gives
unfolding reader.stmt_with
stmt_form-returns-in-Some-word-6-clause-gives t c =
    rw (
      branch_not_taken _ _ _ _ c.in_default.ensures.taken,
      branch_not_taken _ _ _ _ c.in_default-word.ensures.taken,
      branch_not_taken _ _ _ _
          c.in_default-word-2.ensures.taken,
      branch_not_taken _ _ _ _ c.in_default-word-3.ensures.taken,
      branch_not_taken _ _ _ _ c.in_default-word-4.ensures.taken,
      branch_not_taken _ _ _ _ c.in_default-word-5.ensures.taken,
      branch_taken _ _ _ _ _ _ c.in-Some-word-6.ensures.taken,
    ) c.for_behind.ensures.gives

pub stmt_form-returns-clause-gives : goal.stmt_form-returns-clause-gives
unfolding reader.stmt_with
stmt_form-returns-clause-gives t c =
    rw (
      branch_not_taken _ _ _ _ c.in_default.ensures.taken,
      branch_not_taken _ _ _ _ c.in_default-word.ensures.taken,
      branch_not_taken _ _ _ _
          c.in_default-word-2.ensures.taken,
      branch_not_taken _ _ _ _ c.in_default-word-3.ensures.taken,
      branch_not_taken _ _ _ _ c.in_default-word-4.ensures.taken,
      branch_not_taken _ _ _ _ c.in_default-word-5.ensures.taken,
      branch_not_taken _ _ _ _ c.in_default-word-6.ensures.taken,
    ) c.other_stmt.ensures.gives

pub stmt_form-returns-in-Some-clause-gives : goal.stmt_form-returns-in-Some-clause-gives
unfolding reader.stmt_with pure
stmt_form-returns-in-Some-clause-gives t c = rw (branch_taken _ _ _ _ _ _ c.in-Some.ensures.taken) (search (rules, the_lemmas))

pub stmt_form-returns-in-Some-word-clause-gives : goal.stmt_form-returns-in-Some-word-clause-gives
unfolding reader.stmt_with
stmt_form-returns-in-Some-word-clause-gives t c =
    rw (branch_not_taken _ _ _ _ c.in_default.ensures.taken, branch_taken _ _ _ _ _ _ c.in-Some-word.ensures.taken) c.block_behind.ensures.gives

pub select_behind-returns-in-Some-clause-gives : goal.select_behind-returns-in-Some-clause-gives
unfolding reader.select_behind list_of bind pure
select_behind-returns-in-Some-clause-gives t c =
    rw (
      c.in_ok-head.ensures.gives,
      c.in_ok-alts.ensures.gives,
      branch_taken _ _ _ _ _ _ c.in-Some.ensures.taken,
      c.in_ok-stmts.ensures.gives,
      c.in_ok-rest.ensures.gives,
    ) (search (rules, the_lemmas))

pub select_behind-returns-clause-gives : goal.select_behind-returns-clause-gives
unfolding reader.select_behind list_of bind pure
select_behind-returns-clause-gives t c =
    rw (c.in_ok-head.ensures.gives, c.in_ok-alts.ensures.gives, branch_not_taken _ _ _ _ c.in_default.ensures.taken, c.in_ok-rest-2.ensures.gives)
    (search (rules, the_lemmas))

pub comm-returns-clause-gives : goal.comm-returns-clause-gives
unfolding reader.comm_with bind pure
comm-returns-clause-gives t c = rw (branch_taken _ _ _ _ _ _ c.in-Some.ensures.taken, c.in_ok-accept.ensures.gives) (search (rules, the_lemmas))

pub accept_behind-returns-in_default-clause-gives : goal.accept_behind-returns-in_default-clause-gives
unfolding reader.accept_behind bind pure
accept_behind-returns-in_default-clause-gives t c =
    rw (c.in_ok-head.ensures.gives, branch_not_taken _ _ _ _ c.in_default.ensures.taken) (search (rules, c.alone.ensures))

pub accept_behind-returns-clause-gives : goal.accept_behind-returns-clause-gives
unfolding reader.accept_behind bind pure
accept_behind-returns-clause-gives t c =
    rw (c.in_ok-head.ensures.gives, branch_taken _ _ _ _ _ _ c.in-Some.ensures.taken, c.in_ok-stmt.ensures.gives) (search (rules, c.doing.ensures))

pub repeat_behind-returns-in-Some-clause-gives : goal.repeat_behind-returns-in-Some-clause-gives
unfolding reader.repeat_behind bind pure
repeat_behind-returns-in-Some-clause-gives t c =
    rw (c.in_ok-stmts.ensures.gives, branch_taken _ _ _ _ _ _ c.in-Some.ensures.taken, c.in_ok-test.ensures.gives) (search (rules, the_lemmas))

pub repeat_behind-returns-clause-gives : goal.repeat_behind-returns-clause-gives
unfolding reader.repeat_behind bind pure
repeat_behind-returns-clause-gives t c =
    rw (c.in_ok-stmts.ensures.gives, branch_not_taken _ _ _ _ c.in_default.ensures.taken, c.in_ok-rest.ensures.gives) (search (rules, the_lemmas))

pub if_behind-returns-in_default-clause-gives : goal.if_behind-returns-in_default-clause-gives
unfolding reader.if_behind bind pure
if_behind-returns-in_default-clause-gives t c = rw (c.in_ok-test.ensures.gives, c.in_ok-then.ensures.gives, branch_not_taken _ _ _ _ c.in_default.ensures.taken)
    (ap (λ (w : StmtTree). Ok (w, c.in_ok-then.rest.now)) (seen_if_then c.in_ok-test.test c.in_ok-then.then c.in_ok-then.then.value c.args.place refl))

pub if_behind-returns-clause-gives : goal.if_behind-returns-clause-gives
unfolding reader.if_behind bind pure
if_behind-returns-clause-gives t c =
    rw (c.in_ok-test.ensures.gives, c.in_ok-then.ensures.gives, branch_taken _ _ _ _ _ _ c.in-Some.ensures.taken, c.in_ok-other.ensures.gives)
    (ap (λ (w : StmtTree). Ok (w, c.in_ok-other.rest.now))
    (seen_if_else c.in_ok-test.test c.in_ok-then.then c.in_ok-other.other c.in_ok-then.then.value c.in_ok-other.other.value c.args.place refl refl))

pub alt-returns-clause-gives : goal.alt-returns-clause-gives
unfolding reader.alt_with many bind pure
alt-returns-clause-gives t c =
    rw (c.in_ok-head.ensures.gives, rw c.is_some.ensures at c.in_ok-comm.ensures.gives, rw c.new.ensures.items at c.in_ok-stmts.ensures.gives)
    (search (rules, c.waiting_for.ensures))

pub alt-returns-in_err-stmts-clause-gives : goal.alt-returns-in_err-stmts-clause-gives
unfolding reader.alt_with many bind
alt-returns-in_err-stmts-clause-gives t c = let p = err_from_is_err_and c.from_residual-in_err-stmts.result c.from_residual-in_err-stmts.ensures.1 in rw
    (p.1, p.2, c.in_ok-head.ensures.gives, rw c.is_some.ensures at c.in_ok-comm.ensures.gives)
    (bind_halts (many_onto [] (as_sign SEMICOLON) (λ t. reader.stmt_at c.args.levels)) _ _ _ (rw c.new.ensures.items at c.in_err-stmts.ensures.gives))
