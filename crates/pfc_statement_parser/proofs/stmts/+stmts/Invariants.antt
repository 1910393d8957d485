-- The levels go down, and within a level the functions call in one order. What a list comes to from here.
use Rattle.std.proofs.Common.{◌+◌, ◌*◌, ◌≤◌, [], ◌∷◌, length, map}
use Rattle.pfc_base.specs.declared.word.TheConstants.{END, OR}
use Rattle.pfc_base.specs.declared.sign.TheConstants.{SEMICOLON}
use Rattle.pfc_tree.specs.views.Stmts.{stmt_view, arm_view, alt_view}
use Rattle.pfc_grammar.specs.Heads.{as_sign, as_word, is_word}
use Rattle.pfc_grammar.specs.placed.Reading.{many_onto, end_onto}
use Rattle.pfc_grammar.specs.placed.Exprs.{expr_at}
use Rattle.pfc_grammar.specs.placed.Stmts.{stmt_at, arm_with, alt_with}
use Rattle.pfc_token_parser.proofs.Ended.{Ending}
use Rattle.pfc_token_parser.proofs.Loops.{Turning}
use Rattle.pfc_statement_parser.proofs.stmts.+stmts.Given as goal

abbrev pub decreases-stmt : goal.decreases-stmt
decreases-stmt l = 30 * l.levels

abbrev pub decreases-inner_stmt : goal.decreases-inner_stmt
decreases-inner_stmt l = 30 * l.levels + 1

abbrev pub decreases-stmt_form : goal.decreases-stmt_form
decreases-stmt_form l = 30 * l.levels + 29

abbrev pub decreases-other_stmt : goal.decreases-other_stmt
decreases-other_stmt l = 30 * l.levels + 28

abbrev pub decreases-block_behind : goal.decreases-block_behind
decreases-block_behind l = 30 * l.levels + 6

abbrev pub decreases-accepting_behind : goal.decreases-accepting_behind
decreases-accepting_behind l = 30 * l.levels + 3

abbrev pub decreases-pri_behind : goal.decreases-pri_behind
decreases-pri_behind l = 30 * l.levels + 11

abbrev pub decreases-select_behind : goal.decreases-select_behind
decreases-select_behind l = 30 * l.levels + 10

abbrev pub decreases-alts_behind : goal.decreases-alts_behind
decreases-alts_behind l = 30 * l.levels + 9

abbrev pub decreases-alt : goal.decreases-alt
decreases-alt l = 30 * l.levels + 8

abbrev pub decreases-comm : goal.decreases-comm
decreases-comm l = 30 * l.levels + 7

abbrev pub decreases-accept_behind : goal.decreases-accept_behind
decreases-accept_behind l = 30 * l.levels + 2

abbrev pub decreases-case_behind : goal.decreases-case_behind
decreases-case_behind l = 30 * l.levels + 6

abbrev pub decreases-arms_behind : goal.decreases-arms_behind
decreases-arms_behind l = 30 * l.levels + 5

abbrev pub decreases-arm : goal.decreases-arm
decreases-arm l = 30 * l.levels + 2

abbrev pub decreases-body_behind : goal.decreases-body_behind
decreases-body_behind l = 30 * l.levels + 5

abbrev pub decreases-stmts : goal.decreases-stmts
decreases-stmts l = 30 * l.levels + 4

abbrev pub decreases-stmts_onto : goal.decreases-stmts_onto
decreases-stmts_onto l = 30 * l.levels + 3

abbrev pub decreases-if_behind : goal.decreases-if_behind
decreases-if_behind l = 30 * l.levels + 2

abbrev pub decreases-while_behind : goal.decreases-while_behind
decreases-while_behind l = 30 * l.levels + 2

abbrev pub decreases-for_behind : goal.decreases-for_behind
decreases-for_behind l = 30 * l.levels + 2

abbrev pub decreases-repeat_behind : goal.decreases-repeat_behind
decreases-repeat_behind l = 30 * l.levels + 5

abbrev pub decreases-cobegin_behind : goal.decreases-cobegin_behind
decreases-cobegin_behind l = 30 * l.levels + 5

abbrev pub invariant-stmts_onto-loop-behind : goal.invariant-stmts_onto-loop-behind
invariant-stmts_onto-loop-behind l = record {
  shorter : length l.rest ≤ length l.tokens;
  turning : Turning (as_sign SEMICOLON) (λ t. stmt_at l.levels) (map stmt_view l.stmts.items) l.rest (many_onto (map stmt_view l.fn.stmts.items)
      (as_sign SEMICOLON) (λ t. stmt_at l.levels) l.tokens);
}

abbrev pub decreases-stmts_onto-loop-behind : goal.decreases-stmts_onto-loop-behind
decreases-stmts_onto-loop-behind l = length l.rest

abbrev pub invariant-arms_behind-loop-behind : goal.invariant-arms_behind-loop-behind
invariant-arms_behind-loop-behind l = record {
  shorter : length l.rest ≤ length l.tokens;
  ending : Ending (as_sign SEMICOLON) (is_word END) (arm_with (stmt_at l.levels)) (map arm_view l.arms.items) l.rest
      (end_onto (arm_view l.fn.first ∷ []) (as_sign SEMICOLON) (is_word END) (arm_with (stmt_at l.levels)) l.tokens);
}

abbrev pub decreases-arms_behind-loop-behind : goal.decreases-arms_behind-loop-behind
decreases-arms_behind-loop-behind l = length l.rest

abbrev pub invariant-alts_behind-loop-behind : goal.invariant-alts_behind-loop-behind
invariant-alts_behind-loop-behind l = record {
  shorter : length l.rest ≤ length l.tokens;
  turning : Turning (as_word OR) (λ t. alt_with (expr_at l.levels) (stmt_at l.levels)) (map alt_view l.alts.items) l.rest
      (many_onto (alt_view l.fn.first ∷ []) (as_word OR) (λ t. alt_with (expr_at l.levels) (stmt_at l.levels)) l.tokens);
}

abbrev pub decreases-alts_behind-loop-behind : goal.decreases-alts_behind-loop-behind
decreases-alts_behind-loop-behind l = length l.rest
