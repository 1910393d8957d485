-- Where accepts are refused, statements in which no rule is broken have none.
use Rattle.std.proofs.Common.{◌≡◌, ℕ, ◌+◌, Bool, true, false, not, ◌&&◌, refl, arith}
use Rattle.pfc_base.specs.declared.places.Place.{Place}
use Rattle.pfc_tree.specs.trees.Stmts.{StmtTree, StmtTrees, BodyTree, ArmTrees, AcceptTree, AltTree, AltTrees, CommTree, empty, null, block, if_then}
use Rattle.pfc_tree.specs.trees.Stmts.{if_then_else, case_of, while_do, repeat_until, repeat_forever, for_do, cobegin, accepting, requeue, select, select_else}
use Rattle.pfc_tree.specs.trees.Stmts.{assign, send, receive, call, no_stmts, more_stmts, body, arm, no_arms, more_arms, accept, accept_do, alt, no_alts}
use Rattle.pfc_tree.specs.trees.Stmts.{more_alts, comm_accept, comm_send, comm_receive, timeout, terminate}
use Rattle.pfc_types.specs.Faults.{unless}
use Rattle.pfc_types.specs.declared.types.TypeId.{TypeId}
use Rattle.pfc_types.specs.rules.Expressions.{Env}
use Rattle.pfc_types.specs.rules.Statements.{scopes_in, stmts_scopes, body_scopes, arms_scopes, alts_scopes, alt_scopes, comm_scopes, within_cobegin}
use Rattle.pfc_types.specs.rules.Statements.{broken_stmt, broken_stmts, broken_body, broken_arms, broken_accept, broken_alts, broken_alt, broken_comm}
use Rattle.std.specs.Prelude.{Option}
use Rattle.pfc_image_numbers.proofs.Rules.{IsClean, held}

-- neither here, nor in anything within
abbrev pub Forbids : Env → Type 0
Forbids env = (env.around.process && not env.around.sub) ≡ false

both_none : (a b : ℕ) → a ≡ 0 → b ≡ 0 → a + b ≡ 0
both_none a b one other = omega (arith, one, other)

refused : (b : Bool) (p : Place) (n : ℕ) → b ≡ false → IsClean (unless b p n) → ⊥
refused b p n is clean = both (held b p n clean) is
  where
    both : b ≡ true → b ≡ false → ⊥
    both one other = cc

mutual
  stmt_none : (env : Env) (n : ℕ) (s : StmtTree) → Forbids env → IsClean (broken_stmt env n s) → scopes_in s ≡ 0
  stmt_none env n empty never clean = refl
  stmt_none env n (null p) never clean = refl
  stmt_none env n (block b p) never clean = body_none env n b never clean
  stmt_none env n (if_then e s p) never clean = stmt_none env n s never clean.1.1
  stmt_none env n (if_then_else e s t p) never clean =
      both_none (scopes_in s) (scopes_in t) (stmt_none env n s never clean.1.1.0) (stmt_none env (n + scopes_in s) t never clean.1.1.1)
  stmt_none env n (case_of e arms last p) never clean = arms_none env n _ arms never clean.1
  stmt_none env n (while_do e s p) never clean = stmt_none env n s never clean.1.1
  stmt_none env n (repeat_until ss e p) never clean = stmts_none env n ss never clean.0
  stmt_none env n (repeat_forever ss p) never clean = stmts_none env n ss never clean
  stmt_none env n (for_do x a down b s p q) never clean = stmt_none env n s never clean.1
  stmt_none env n (cobegin ss last p) never clean = stmts_none (within_cobegin env) n ss never clean.1
  stmt_none env n (accepting a p) never clean = absurd (accept_never env n a p never clean)
  stmt_none env n (requeue x args p) never clean = refl
  stmt_none env n (select pri alts p q) never clean = alts_none env n alts never clean.1.1.1
  stmt_none env n (select_else pri alts ss at p q) never clean =
      both_none (alts_scopes alts) (stmts_scopes ss) (alts_none env n alts never clean.1.1.1.0)
      (stmts_none env (n + alts_scopes alts) ss never clean.1.1.1.1.1)
  stmt_none env n (assign d e p q) never clean = refl
  stmt_none env n (send d e p q) never clean = refl
  stmt_none env n (receive d v p q) never clean = refl
  stmt_none env n (call d args p) never clean = refl

  pub stmts_none : (env : Env) (n : ℕ) (ss : StmtTrees) → Forbids env → IsClean (broken_stmts env n ss) → stmts_scopes ss ≡ 0
  stmts_none env n no_stmts never clean = refl
  stmts_none env n (more_stmts s ss) never clean =
      both_none (scopes_in s) (stmts_scopes ss) (stmt_none env n s never clean.0) (stmts_none env (n + scopes_in s) ss never clean.1)

  body_none : (env : Env) (n : ℕ) (b : BodyTree) → Forbids env → IsClean (broken_body env n b) → body_scopes b ≡ 0
  body_none env n (body ss first last) never clean = stmts_none env n ss never clean

  arms_none : (env : Env) (n : ℕ) (t : Option TypeId) (arms : ArmTrees) → Forbids env → IsClean (broken_arms env n t arms) → arms_scopes arms ≡ 0
  arms_none env n t no_arms never clean = refl
  arms_none env n t (more_arms (arm cs s) arms) never clean =
      both_none (scopes_in s) (arms_scopes arms) (stmt_none env n s never clean.0.1) (arms_none env (n + scopes_in s) t arms never clean.1)

  accept_never : (env : Env) (n : ℕ) (a : AcceptTree) (p : Place) → Forbids env → IsClean (broken_accept env n a p) → ⊥
  accept_never env n (accept x gs q) p never clean = refused (env.around.process && not env.around.sub) p 414 never clean.0
  accept_never env n (accept_do x gs s q) p never clean = refused (env.around.process && not env.around.sub) p 414 never clean.0.0

  alts_none : (env : Env) (n : ℕ) (alts : AltTrees) → Forbids env → IsClean (broken_alts env n alts) → alts_scopes alts ≡ 0
  alts_none env n no_alts never clean = refl
  alts_none env n (more_alts a alts) never clean =
      both_none (alt_scopes a) (alts_scopes alts) (alt_none env n a never clean.0) (alts_none env (n + alt_scopes a) alts never clean.1)

  alt_none : (env : Env) (n : ℕ) (a : AltTree) → Forbids env → IsClean (broken_alt env n a) → alt_scopes a ≡ 0
  alt_none env n (alt spread guard comm ss) never clean =
      both_none (comm_scopes comm) (stmts_scopes ss) (comm_none env n comm never clean.1.1.0)
      (stmts_none env (n + comm_scopes comm) ss never clean.1.1.1)

  comm_none : (env : Env) (n : ℕ) (comm : CommTree) → Forbids env → IsClean (broken_comm env n comm) → comm_scopes comm ≡ 0
  comm_none env n (comm_accept a p) never clean = absurd (accept_never env n a p never clean)
  comm_none env n (comm_send d e p) never clean = refl
  comm_none env n (comm_receive d v p) never clean = refl
  comm_none env n (timeout e p) never clean = refl
  comm_none env n (terminate p) never clean = refl
