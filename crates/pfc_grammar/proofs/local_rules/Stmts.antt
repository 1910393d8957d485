-- The readers of statements look no further than at the symbol on which they end.
use Rattle.std.proofs.Common.{ℕ, zero, suc, Bool, true, false}
use Rattle.pfc_tree.specs.Symbols.{Text}
use Rattle.pfc_grammar.proofs.Local.{Local, local_pure, local_stop_deep, local_bind, local_choose, local_take}
use Rattle.pfc_grammar.proofs.LocalLoops.{local_list, local_list_end}
use Rattle.pfc_grammar.specs.Reading.{Reader}
use Rattle.pfc_base.specs.declared.word.TheConstants.{END, OF}
use Rattle.pfc_base.specs.declared.sign.TheConstants.{SEMICOLON}
use Rattle.pfc_tree.specs.shapes.Exprs.{ExprShape}
use Rattle.pfc_tree.specs.shapes.Stmts.{StmtShape, empty}
use Rattle.pfc_grammar.specs.Heads.{as_word, as_sign, is_word, begins_stmt}
use Rattle.pfc_grammar.specs.grammar.Exprs.{desig_behind, desig_with, actuals_with, expr_at}
use Rattle.pfc_grammar.specs.grammar.Stmts.{test_before, for_head, accept_head, labels, spread_behind, replication, guard, alt_head, requeue_behind}
use Rattle.pfc_grammar.specs.grammar.Stmts.{action_behind, comm_behind, message, message_or_wait, comm_plain, stmts_with, body_behind, body_with, if_behind}
use Rattle.pfc_grammar.specs.grammar.Stmts.{arm_with, case_behind, while_behind, repeat_behind, for_behind, cobegin_behind, accept_behind, comm_with, alt_with}
use Rattle.pfc_grammar.specs.grammar.Stmts.{select_behind, stmt_second, stmt_with, stmt_at}
use Rattle.pfc_grammar.proofs.local_rules.Exprs.{localities, local_desig_behind, local_desig, local_actuals, local_expr_at}
use Rattle.pfc_grammar.proofs.local_rules.Types.{local_constant, local_formals}

local_accept_head : Local accept_head
unfolding accept_head
local_accept_head = search (localities, local_formals) depth 12

local_labels : Local labels
unfolding labels
local_labels = search (localities, local_constant) depth 12

local_spread : Local spread_behind
unfolding spread_behind
local_spread = search (localities, local_constant) depth 16

local_replication : Local replication
unfolding replication
local_replication = search (localities, local_spread) depth 12

module _ (e : Reader ExprShape) (he : Local e) where
  local_test : (w : ℕ) → Local (test_before e w)
  unfolding test_before
  local_test w = search localities depth 12

  local_for_head : Local (for_head e)
  unfolding for_head
  local_for_head = search localities depth 16

  local_guard : Local (guard e)
  unfolding guard
  local_guard = search localities depth 12

  local_alt_head : Local (alt_head e)
  unfolding alt_head
  local_alt_head = search (localities, local_replication, local_guard) depth 12

  local_requeue : Local (requeue_behind e)
  unfolding requeue_behind
  local_requeue = let a : Local (actuals_with e) = local_actuals e he in search localities depth 12

  local_action : (x : Text) → Local (action_behind e x)
  unfolding action_behind
  local_action x = let a : Local (actuals_with e) = local_actuals e he in let b : (y : Text) → Local (desig_behind e y) =
      local_desig_behind e he in let d : Local (desig_with e) = local_desig e he in search localities depth 14

  local_comm_behind : (x : Text) → Local (comm_behind e x)
  unfolding comm_behind
  local_comm_behind x = let b : (y : Text) → Local (desig_behind e y) = local_desig_behind e he in let d : Local (desig_with e) =
      local_desig e he in search localities depth 12

  local_message : Local (message e)
  unfolding message
  local_message = search (localities, local_comm_behind) depth 12

  local_message_or_wait : Local (message_or_wait e)
  unfolding message_or_wait
  local_message_or_wait = search (localities, local_message) depth 12

  local_comm_plain : (replicated : Bool) → Local (comm_plain e replicated)
  unfolding comm_plain
  local_comm_plain true = local_message
  local_comm_plain false = local_message_or_wait

  module _ (s : Reader StmtShape) (hs : Local s) where
    local_stmts : Local (stmts_with s)
    unfolding stmts_with
    local_stmts = local_list (as_sign SEMICOLON) hs

    local_body_behind : Local (body_behind s)
    unfolding body_behind
    local_body_behind = search (localities, local_stmts) depth 12

    pub local_body : Local (body_with s)
    unfolding body_with
    local_body = search (localities, local_body_behind) depth 12

    local_if : Local (if_behind e s)
    unfolding if_behind
    local_if = search (localities, local_test) depth 12

    local_arm : Local (arm_with s)
    unfolding arm_with
    local_arm = search (localities, local_labels) depth 12

    local_case : Local (case_behind e s)
    unfolding case_behind
    local_case = local_bind (local_test OF) (λ c. local_bind (local_list_end (as_sign SEMICOLON) (is_word END) local_arm)
        (λ a. local_bind (local_take (as_word END)) (λ u. local_pure _)))

    local_while_do : Local (while_behind e s)
    unfolding while_behind
    local_while_do = search (localities, local_test) depth 12

    local_repeat : Local (repeat_behind e s)
    unfolding repeat_behind
    local_repeat = search (localities, local_stmts) depth 12

    local_for : Local (for_behind e s)
    unfolding for_behind
    local_for = search (localities, local_for_head) depth 12

    local_cobegin : Local (cobegin_behind s)
    unfolding cobegin_behind
    local_cobegin = search (localities, local_stmts) depth 12

    local_accept : Local (accept_behind s)
    unfolding accept_behind
    local_accept = search (localities, local_accept_head) depth 12

    local_comm : (replicated : Bool) → Local (comm_with e s replicated)
    unfolding comm_with
    local_comm replicated = search (localities, local_accept, local_comm_plain) depth 14

    local_alt : Local (alt_with e s)
    unfolding alt_with
    local_alt = search (localities, local_alt_head, local_comm) depth 12

    local_select : (pri : Bool) → Local (select_behind e s pri)
    unfolding select_behind
    local_select pri = search (localities, local_alt, local_stmts) depth 12

    local_second : Local (stmt_second e s)
    unfolding stmt_second
    local_second = search (localities, local_cobegin, local_accept, local_requeue, local_select, local_action) depth 16

    pub local_stmt_with : Local (stmt_with e s)
    unfolding stmt_with
    local_stmt_with = search (localities, local_body_behind, local_if, local_case, local_while_do, local_repeat, local_for, local_second) depth 16

-- Whatever the number of levels.
pub local_stmt_at : (n : ℕ) → Local (stmt_at n)
unfolding stmt_at
local_stmt_at zero = local_choose begins_stmt local_stop_deep (local_pure empty)
local_stmt_at (suc n) = local_stmt_with (expr_at n) (local_expr_at n) (stmt_at n) (local_stmt_at n)
