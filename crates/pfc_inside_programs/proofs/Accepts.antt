-- What is asked of the scopes of accepts is so in statements where it is so of all numbers of their scopes.
use Rattle.std.proofs.Common.{ℕ, ◌+◌, ◌≤◌, ◌<◌, arith}
use Rattle.pfc_tree.specs.trees.Stmts.{StmtTree, StmtTrees, BodyTree, ArmTrees, AcceptTree, AltTree, AltTrees, CommTree, empty, null, block, if_then}
use Rattle.pfc_tree.specs.trees.Stmts.{if_then_else, case_of, while_do, repeat_until, repeat_forever, for_do, cobegin, accepting, requeue, select, select_else}
use Rattle.pfc_tree.specs.trees.Stmts.{assign, send, receive, call, no_stmts, more_stmts, body, arm, no_arms, more_arms, accept, accept_do, alt, no_alts}
use Rattle.pfc_tree.specs.trees.Stmts.{more_alts, comm_accept, comm_send, comm_receive, timeout, terminate}
use Rattle.pfc_types.specs.rules.Statements.{scopes_in, stmts_scopes, body_scopes, arms_scopes, accept_scopes, alts_scopes, alt_scopes, comm_scopes}
use Rattle.pfc_run_invariants.specs.Written.{FitsStmt, FitStmts, FitsBody, FitArms, FitsAccept, FitsAlt, FitAlts, FitsComm}
use Rattle.pfc_number_laws.specs.Written.{any}

module _ (P : ℕ → Type 0) where
  -- so it is of as many numbers from n on
  abbrev pub Along : ℕ → ℕ → Type 0
  Along n size = (i : ℕ) → n ≤ i → i < n + size → P i

  first : (n a b : ℕ) → Along n (a + b) → Along n a
  first n a b all = λ i low high. all i low (omega (arith, high))

  second : (n a b : ℕ) → Along n (a + b) → Along (n + a) b
  second n a b all = λ i low high. all i (omega (arith, low)) (omega (arith, high))

  mutual
    stmt_fits : (n : ℕ) (s : StmtTree) → FitsStmt any n s → Along n (scopes_in s) → FitsStmt P n s
    stmt_fits n empty fits all = tt
    stmt_fits n (null p) fits all = tt
    stmt_fits n (block b p) fits all = body_fits n b fits all
    stmt_fits n (if_then e s p) fits all = (fits.0, stmt_fits n s fits.1 all)
    stmt_fits n (if_then_else e s t p) fits all = (
      fits.0,
      stmt_fits n s fits.1 (first n (scopes_in s) (scopes_in t) all),
      stmt_fits (n + scopes_in s) t fits.2 (second n (scopes_in s) (scopes_in t) all),
    )
    stmt_fits n (case_of e arms last p) fits all = (fits.0, arms_fit n arms fits.1 all)
    stmt_fits n (while_do e s p) fits all = (fits.0, stmt_fits n s fits.1 all)
    stmt_fits n (repeat_until ss e p) fits all = (stmts_fit n ss fits.0 all, fits.1)
    stmt_fits n (repeat_forever ss p) fits all = stmts_fit n ss fits all
    stmt_fits n (for_do x a down b s p q) fits all = (fits.0, fits.1, stmt_fits n s fits.2 all)
    stmt_fits n (cobegin ss last p) fits all = stmts_fit n ss fits all
    stmt_fits n (accepting a p) fits all = accept_fits n a fits all
    stmt_fits n (requeue x args p) fits all = fits
    stmt_fits n (select pri alts p q) fits all = alts_fit n alts fits all
    stmt_fits n (select_else pri alts ss at p q) fits all = (
      alts_fit n alts fits.0 (first n (alts_scopes alts) (stmts_scopes ss) all),
      stmts_fit (n + alts_scopes alts) ss fits.1 (second n (alts_scopes alts) (stmts_scopes ss) all),
    )
    stmt_fits n (assign d e p q) fits all = fits
    stmt_fits n (send d e p q) fits all = fits
    stmt_fits n (receive d v p q) fits all = fits
    stmt_fits n (call d args p) fits all = fits

    pub stmts_fit : (n : ℕ) (ss : StmtTrees) → FitStmts any n ss → Along n (stmts_scopes ss) → FitStmts P n ss
    stmts_fit n no_stmts fits all = tt
    stmts_fit n (more_stmts s ss) fits all = (
      stmt_fits n s fits.0 (first n (scopes_in s) (stmts_scopes ss) all),
      stmts_fit (n + scopes_in s) ss fits.1 (second n (scopes_in s) (stmts_scopes ss) all),
    )

    body_fits : (n : ℕ) (b : BodyTree) → FitsBody any n b → Along n (body_scopes b) → FitsBody P n b
    body_fits n (body ss from to) fits all = stmts_fit n ss fits all

    arms_fit : (n : ℕ) (arms : ArmTrees) → FitArms any n arms → Along n (arms_scopes arms) → FitArms P n arms
    arms_fit n no_arms fits all = tt
    arms_fit n (more_arms (arm ls s) arms) fits all = (
      stmt_fits n s fits.0 (first n (scopes_in s) (arms_scopes arms) all),
      arms_fit (n + scopes_in s) arms fits.1 (second n (scopes_in s) (arms_scopes arms) all),
    )

    accept_fits : (n : ℕ) (a : AcceptTree) → FitsAccept any n a → Along n (accept_scopes a) → FitsAccept P n a
    accept_fits n (accept x gs p) fits all = all n (omega arith) (omega arith)
    accept_fits n (accept_do x gs s p) fits all =
        (all n (omega arith) (omega arith), stmt_fits (n + 1) s fits.1 (second n 1 (scopes_in s) all))

    alt_fits : (n : ℕ) (a : AltTree) → FitsAlt any n a → Along n (alt_scopes a) → FitsAlt P n a
    alt_fits n (alt spread guard comm ss) fits all = (
      fits.0,
      fits.1,
      comm_fits n comm fits.2 (first n (comm_scopes comm) (stmts_scopes ss) all),
      stmts_fit (n + comm_scopes comm) ss fits.3 (second n (comm_scopes comm) (stmts_scopes ss) all),
    )

    alts_fit : (n : ℕ) (alts : AltTrees) → FitAlts any n alts → Along n (alts_scopes alts) → FitAlts P n alts
    alts_fit n no_alts fits all = tt
    alts_fit n (more_alts a alts) fits all = (
      alt_fits n a fits.0 (first n (alt_scopes a) (alts_scopes alts) all),
      alts_fit (n + alt_scopes a) alts fits.1 (second n (alt_scopes a) (alts_scopes alts) all),
    )

    comm_fits : (n : ℕ) (comm : CommTree) → FitsComm any n comm → Along n (comm_scopes comm) → FitsComm P n comm
    comm_fits n (comm_accept a p) fits all = accept_fits n a fits all
    comm_fits n (comm_send d e p) fits all = fits
    comm_fits n (comm_receive d v p) fits all = fits
    comm_fits n (timeout e p) fits all = fits
    comm_fits n (terminate p) fits all = tt
