-- How many instructions statements have. The number of the next scope of the text is given with each: the names in view in an accept
-- depend on it.
use Rattle.std.specs.Prelude.{ℕ, ◌+◌, ◌*◌, ℤ, int_le, Bool, true, false, if◌then◌else◌, length, Option, Some, None}
use Rattle.pfc_tree.specs.declared.tree.Spread.{Spread}
use Rattle.pfc_tree.specs.trees.Exprs.{ExprTree, DesigTree}
use Rattle.pfc_tree.specs.trees.Stmts.{StmtTree, StmtTrees, ArmTrees, AcceptTree, AltTree, AltTrees, CommTree, empty, null, block, if_then, if_then_else}
use Rattle.pfc_tree.specs.trees.Stmts.{case_of, while_do, repeat_until, repeat_forever, for_do, cobegin, accepting, requeue, select, select_else, assign, send}
use Rattle.pfc_tree.specs.trees.Stmts.{receive, call, no_stmts, more_stmts, body, arm, no_arms, more_arms, accept, accept_do, alt, no_alts, more_alts}
use Rattle.pfc_tree.specs.trees.Stmts.{comm_accept, comm_send, comm_receive, timeout, terminate}
use Rattle.pfc_types.specs.Types.{extent}
use Rattle.pfc_types.specs.Blocks.{Blocks}
use Rattle.pfc_types.specs.Scopes.{meaning_of}
use Rattle.pfc_types.specs.rules.Expressions.{Env, find}
use Rattle.pfc_types.specs.rules.Statements.{scopes_in, arm_scopes, comm_scopes, alt_scopes, alts_scopes, within_accept}
use Rattle.pfc_semantics.specs.Alternatives.{context, replicas, message_of, receiver_of}
use Rattle.pfc_code_size.specs.Expressions.{expr_size, desig_size, object_size}
use Rattle.pfc_code_size.specs.Calls.{call_size, requeue_size}

-- ## Communication

-- the message, and the variable that receives one; none for `any`
abbrev pub message_size : Blocks → Env → Option ExprTree → ℕ
message_size b c None = 0
message_size b c (Some e) = expr_size b c e

abbrev pub receiver_size : Blocks → Env → Option DesigTree → ℕ
receiver_size b c None = 0
receiver_size b c (Some d) = desig_size b c d

abbrev pub send_size : Blocks → Env → DesigTree → ExprTree → ℕ
send_size b c d e = object_size b c d + (message_size b c (message_of (context c 0) e) + 1)

abbrev pub receive_size : Blocks → Env → DesigTree → DesigTree → ℕ
receive_size b c d v = object_size b c d + (receiver_size b c (receiver_of (context c 0) v) + 1)

-- ## Alternatives up to the decision

-- what an alternative waits for, with its `ARM`
abbrev pub comm_size : Blocks → Env → CommTree → ℕ
comm_size b c (comm_accept a p) = 1
comm_size b c (comm_send d e p) = send_size b c d e
comm_size b c (comm_receive d v p) = receive_size b c d v
comm_size b c (timeout e p) = expr_size b c e + 1
comm_size b c (terminate p) = 1

abbrev pub guarded_size : Blocks → Env → Option ExprTree → CommTree → ℕ
guarded_size b c None comm = comm_size b c comm
guarded_size b c (Some e) comm = expr_size b c e + (1 + comm_size b c comm)

-- how many values a spread has
abbrev pub values_in : Env → Spread → ℕ
values_in c s = length (replicas (context c 0) s)

-- of values from a low one to a high one, where they are known
abbrev pub values_between : Option (ℤ × ℤ) → ℕ
values_between None = 0
values_between (Some values) = if int_le values.0 values.1 then extent values.0 values.1 else 0

-- a replicated alternative stands once for each value, with three instructions more, which write the variable
abbrev pub spread_size : Env → Option Spread → ℕ → ℕ
spread_size c None inner = inner
spread_size c (Some s) inner = values_in c s * (3 + inner)

abbrev pub alternatives_size : Blocks → Env → AltTrees → ℕ
alternatives_size b c no_alts = 0
alternatives_size b c (more_alts (alt spread guard comm ss) alts) =
    spread_size c spread (guarded_size b c guard comm) + alternatives_size b c alts

-- where a value is chosen, four instructions write it again
abbrev pub chosen_size : Env → Option Spread → ℕ
chosen_size c None = 0
chosen_size c (Some s) = values_in c s * 4

abbrev pub is_terminate : CommTree → Bool
is_terminate (terminate p) = true
is_terminate comm = false

-- ## Statements

abbrev pub label_count : ArmTrees → ℕ
label_count no_arms = 0
label_count (more_arms (arm ls t) arms) = length ls + label_count arms

-- what stands behind the statements of a `repeat`: an expression and three instructions, or one for `forever`
abbrev pub until_size : Blocks → Env → Option ExprTree → ℕ
until_size b c None = 1
until_size b c (Some e) = expr_size b c e + 3

abbrev pub assign_size : Blocks → Env → DesigTree → ExprTree → ℕ
assign_size b c d e = desig_size b c d + (expr_size b c e + 1)

abbrev mutual
  pub stmt_size : Blocks → Env → ℕ → StmtTree → ℕ
  stmt_size b c n empty = 0
  stmt_size b c n (null p) = 0
  stmt_size b c n (block (body ss first last) p) = stmts_size b c n ss
  stmt_size b c n (if_then e t p) = expr_size b c e + (1 + stmt_size b c n t)
  stmt_size b c n (if_then_else e t u p) =
      expr_size b c e + (1 + (stmt_size b c n t + (1 + stmt_size b c (n + scopes_in t) u)))
  stmt_size b c n (case_of e arms last p) = expr_size b c e + (label_count arms + (1 + arms_size b c n arms))
  stmt_size b c n (while_do e t p) = expr_size b c e + (1 + (stmt_size b c n t + 1))
  stmt_size b c n (repeat_until ss e p) = stmts_size b c n ss + until_size b c (Some e)
  stmt_size b c n (repeat_forever ss p) = stmts_size b c n ss + until_size b c None
  stmt_size b c n (for_do x from down to t p q) = 1 + (expr_size b c from + (expr_size b c to + (1 + (1 + (stmt_size b c n t + 1)))))
  stmt_size b c n (cobegin ss last p) = stmts_size b c n ss + 1
  stmt_size b c n (accepting a p) = 1 + (accepted_size b c n a + 1)
  stmt_size b c n (requeue x args p) = requeue_size b c (meaning_of (find c x.0)) args
  stmt_size b c n (select pri alts p q) = alternatives_size b c alts + (1 + branches_size b c n alts)
  stmt_size b c n (select_else pri alts ss at p q) =
      alternatives_size b c alts + (1 + (branches_size b c n alts + stmts_size b c (n + alts_scopes alts) ss))
  stmt_size b c n (assign d e p q) = assign_size b c d e
  stmt_size b c n (send d e p q) = send_size b c d e
  stmt_size b c n (receive d v p q) = receive_size b c d v
  stmt_size b c n (call d args p) = call_size b c d args

  pub stmts_size : Blocks → Env → ℕ → StmtTrees → ℕ
  stmts_size b c n no_stmts = 0
  stmts_size b c n (more_stmts t ts) = stmt_size b c n t + stmts_size b c (n + scopes_in t) ts

  -- the arms, each with a jump behind it
  pub arms_size : Blocks → Env → ℕ → ArmTrees → ℕ
  arms_size b c n no_arms = 0
  arms_size b c n (more_arms (arm ls t) arms) = stmt_size b c n t + (1 + arms_size b c (n + arm_scopes (arm ls t)) arms)

  -- the statement of an accept, in which its parameters are in view
  pub accepted_size : Blocks → Env → ℕ → AcceptTree → ℕ
  accepted_size b c n (accept x gs p) = 0
  accepted_size b c n (accept_do x gs t p) = stmt_size b (within_accept c n) (n + 1) t

  pub met_size : Blocks → Env → ℕ → CommTree → ℕ
  met_size b c n (comm_accept a p) = accepted_size b c n a + 1
  met_size b c n (comm_send d e p) = 0
  met_size b c n (comm_receive d v p) = 0
  met_size b c n (timeout e p) = 0
  met_size b c n (terminate p) = 0

  -- the branch of an alternative with the jump behind it; statements behind `terminate` have no code
  pub branch_size : Blocks → Env → ℕ → AltTree → ℕ
  branch_size b c n (alt spread guard comm ss) =
      if is_terminate comm then 0 else chosen_size c spread + (met_size b c n comm + (stmts_size b c (n + comm_scopes comm) ss + 1))

  pub branches_size : Blocks → Env → ℕ → AltTrees → ℕ
  branches_size b c n no_alts = 0
  branches_size b c n (more_alts a alts) = branch_size b c n a + branches_size b c (n + alt_scopes a) alts
