-- What is kept of statements that give no code, behind what was made before: the strings that they write, in the order of the text, and
-- the most alternatives of one select. Beside each statement stands the number of the next scope of the text before it: in an accept its
-- parameters are in view, and may hide `write`.
use Rattle.std.specs.Prelude.{ℕ, ◌+◌}
use Rattle.pfc_tree.specs.trees.Stmts.{StmtTree, StmtTrees, ArmTrees, AcceptTree, AltTree, AltTrees, CommTree, empty, null, block, if_then, if_then_else}
use Rattle.pfc_tree.specs.trees.Stmts.{case_of, while_do, repeat_until, repeat_forever, for_do, cobegin, accepting, requeue, select, select_else, assign, send}
use Rattle.pfc_tree.specs.trees.Stmts.{receive, call, no_stmts, more_stmts, body, arm, no_arms, more_arms, accept, accept_do, alt, no_alts, more_alts}
use Rattle.pfc_tree.specs.trees.Stmts.{comm_accept, comm_send, comm_receive, timeout, terminate}
use Rattle.pfc_types.specs.rules.Expressions.{Env}
use Rattle.pfc_types.specs.rules.Statements.{scopes_in, arm_scopes, comm_scopes, alt_scopes, alts_scopes, within_accept}
use Rattle.pfc_expression_code.specs.Putting.{Made}
use Rattle.pfc_unseen_code.specs.Calls.{with_call}
use Rattle.pfc_unseen_code.specs.Counts.{with_select}

abbrev mutual
  pub with_stmt : Env → ℕ → StmtTree → Made → Made
  with_stmt c n empty m = m
  with_stmt c n (null p) m = m
  with_stmt c n (block (body ss first last) p) m = with_stmts c n ss m
  with_stmt c n (if_then e t p) m = with_stmt c n t m
  with_stmt c n (if_then_else e t u p) m = with_stmt c (n + scopes_in t) u (with_stmt c n t m)
  with_stmt c n (case_of e arms last p) m = with_case_arms c n arms m
  with_stmt c n (while_do e t p) m = with_stmt c n t m
  with_stmt c n (repeat_until ss e p) m = with_stmts c n ss m
  with_stmt c n (repeat_forever ss p) m = with_stmts c n ss m
  with_stmt c n (for_do x from down to t p q) m = with_stmt c n t m
  with_stmt c n (cobegin ss last p) m = with_stmts c n ss m
  with_stmt c n (accepting a p) m = with_accepted c n a m
  with_stmt c n (requeue x args p) m = m
  with_stmt c n (select pri alts p q) m = with_branches c n alts (with_select c alts m)
  with_stmt c n (select_else pri alts ss at p q) m = with_stmts c (n + alts_scopes alts) ss (with_branches c n alts (with_select c alts m))
  with_stmt c n (assign d e p q) m = m
  with_stmt c n (send d e p q) m = m
  with_stmt c n (receive d v p q) m = m
  with_stmt c n (call d args p) m = with_call c d args m

  pub with_stmts : Env → ℕ → StmtTrees → Made → Made
  with_stmts c n no_stmts m = m
  with_stmts c n (more_stmts t ts) m = with_stmts c (n + scopes_in t) ts (with_stmt c n t m)

  pub with_case_arms : Env → ℕ → ArmTrees → Made → Made
  with_case_arms c n no_arms m = m
  with_case_arms c n (more_arms (arm ls t) arms) m = with_case_arms c (n + arm_scopes (arm ls t)) arms (with_stmt c n t m)

  -- the statement of an accept
  pub with_accepted : Env → ℕ → AcceptTree → Made → Made
  with_accepted c n (accept x gs p) m = m
  with_accepted c n (accept_do x gs t p) m = with_stmt (within_accept c n) (n + 1) t m

  pub with_met : Env → ℕ → CommTree → Made → Made
  with_met c n (comm_accept a p) m = with_accepted c n a m
  with_met c n (comm_send d e p) m = m
  with_met c n (comm_receive d v p) m = m
  with_met c n (timeout e p) m = m
  with_met c n (terminate p) m = m

  pub with_branch : Env → ℕ → AltTree → Made → Made
  with_branch c n (alt spread guard comm ss) m = with_stmts c (n + comm_scopes comm) ss (with_met c n comm m)

  pub with_branches : Env → ℕ → AltTrees → Made → Made
  with_branches c n no_alts m = m
  with_branches c n (more_alts a alts) m = with_branches c (n + alt_scopes a) alts (with_branch c n a m)
