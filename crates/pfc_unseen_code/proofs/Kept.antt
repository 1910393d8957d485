-- What is kept of statements is the strings and the selects of their code: by induction over the statements.
use Rattle.std.proofs.Common.{◌≡◌, ◌+◌, ℕ, length, if◌then◌else◌, Option, Some, None, subst, arith}
use Rattle.pfc_code.specs.declared.instructions.Instr.TheVariants.{NOT, JMP, JF, TURN, FORB, FORW, FORT, CERR, COEND, EACC}
use Rattle.pfc_tree.specs.declared.tree.Spread.{Spread}
use Rattle.pfc_tree.specs.trees.Exprs.{ExprTree}
use Rattle.pfc_tree.specs.trees.Stmts.{StmtTree, StmtTrees, ArmTrees, AcceptTree, AltTree, AltTrees, empty, null, block, if_then, if_then_else, case_of}
use Rattle.pfc_tree.specs.trees.Stmts.{while_do, repeat_until, repeat_forever, for_do, cobegin, accepting, requeue, select, select_else, assign, send, receive}
use Rattle.pfc_tree.specs.trees.Stmts.{call, no_stmts, more_stmts, body, arm, no_arms, more_arms, accept, accept_do, alt, no_alts, more_alts, comm_accept}
use Rattle.pfc_tree.specs.trees.Stmts.{terminate}
use Rattle.pfc_types.specs.Scopes.{meaning_of}
use Rattle.pfc_types.specs.rules.Expressions.{find}
use Rattle.pfc_types.specs.rules.Statements.{scopes_in, arm_scopes, comm_scopes, alt_scopes, alts_scopes}
use Rattle.pfc_semantics.specs.Expressions.{spot_of}
use Rattle.pfc_semantics.specs.Alternatives.{alternatives}
use Rattle.pfc_translation.specs.Sites.{Site, at_line, in_accept, context_of}
use Rattle.pfc_translation.specs.Codes.{Code, nothing, ◌⨾◌, one, over, back, unseen, with_arms}
use Rattle.pfc_translation.specs.Addresses.{base_code}
use Rattle.pfc_translation.specs.Expressions.{expr_code}
use Rattle.pfc_translation.specs.Calls.{requeue_code}
use Rattle.pfc_translation.specs.Selects.{send_code, receive_code, accept_code, alternatives_code}
use Rattle.pfc_translation.specs.Statements.{assign_code, chosen_code, spread_replicas, sel_code, stmt_code, stmts_code, arms_code, tests_code, accepted_code}
use Rattle.pfc_translation.specs.Statements.{branch_code, branches_code, distances}
use Rattle.pfc_expression_code.specs.Putting.{Made, IsMade}
use Rattle.pfc_unseen_code.specs.Counts.{alternative_count, with_select}
use Rattle.pfc_unseen_code.specs.Statements.{with_stmt, with_stmts, with_case_arms, with_accepted, with_branch, with_branches}
use Rattle.pfc_unseen_code.proofs.Alternatives.{alternatives_length}
use Rattle.pfc_unseen_code.proofs.Keeping.{IsQuiet, quiet_both, kept_quiet, kept_both, kept_behind, kept_before, kept_counted}
use Rattle.pfc_unseen_code.proofs.KeptCalls.{call_kept}
use Rattle.pfc_unseen_code.proofs.Quiet.{quiet_nothing, quiet_one, quiet_over, quiet_back, quiet_base, quiet_expr, quiet_assign, quiet_send, quiet_receive}
use Rattle.pfc_unseen_code.proofs.Quiet.{quiet_requeue, quiet_tests, quiet_alternatives, quiet_sel, quiet_spread, quiet_three}

-- between what is quiet
around : (a c b : Code) (x y : Made) → IsQuiet a → IsMade (unseen c) x y → IsQuiet b → IsMade (unseen (a ⨾ c ⨾ b)) x y
around a c b x y before made behind = kept_behind a (c ⨾ b) x y before (kept_before c b x y made behind)

-- a condition, a jump, and a statement
tested : (s : Site) (e : ExprTree) (k : ℕ) (c : Code) (x y : Made) → IsMade (unseen c) x y → IsMade (unseen (expr_code s e ⨾ over s JF k ⨾ c)) x y
tested s e k c x y made =
    kept_behind (expr_code s e) (over s JF k ⨾ c) x y (quiet_expr s e) (kept_behind (over s JF k) c x y (quiet_over s JF k) made)

-- two statements, with a jump between them
passed : (s : Site) (k : ℕ) (a b : Code) (x y z : Made) → IsMade (unseen a) x y → IsMade (unseen b) y z → IsMade (unseen (a ⨾ over s JMP k ⨾ b)) x z
passed s k a b x y z first second =
    kept_both a (over s JMP k ⨾ b) x y z first (kept_behind (over s JMP k) b y z (quiet_over s JMP k) second)

-- a branch: the value that was chosen, the statement of an accept, and the statements behind it
branch_kept :
    (s : Site) (k : ℕ) (spread : Option Spread) (met ss : Code) (x y z : Made) → IsMade (unseen met) x y → IsMade (unseen ss) y z
    → IsMade (unseen (chosen_code s (spread_replicas s spread) ⨾ met ⨾ ss ⨾ over s JMP k)) x z
branch_kept s k spread met ss x y z first second =
    kept_behind (chosen_code s (spread_replicas s spread)) (met ⨾ ss ⨾ over s JMP k) x z (quiet_spread s spread)
    (kept_both met (ss ⨾ over s JMP k) x y z first (kept_before ss (over s JMP k) y z second (quiet_over s JMP k)))

-- a select: its alternatives, the decision, and what stands behind them
select_kept :
    (s : Site) (n : ℕ) (alts : AltTrees) (a d c : Code) (x y : Made) → IsQuiet a → IsQuiet d → IsMade (unseen c) (with_select s.env alts x) y
    → IsMade (unseen (with_arms (length (alternatives (context_of s) n alts)) (a ⨾ d ⨾ c))) x y
select_kept s n alts a d c x y quiet decided made =
    let counted = with_select s.env alts x in
    subst (λ k. IsMade (unseen (with_arms k (a ⨾ d ⨾ c))) x y) (alternatives_length s n alts)
    (kept_counted (alternative_count s.env alts) (a ⨾ d ⨾ c) x y
    (kept_behind a (d ⨾ c) counted y quiet (kept_behind d c counted y decided made)))

mutual
  stmt_kept : (s : Site) (n : ℕ) (t : StmtTree) (m : Made) → IsMade (unseen (stmt_code s n t)) m (with_stmt s.env n t m)
  stmt_kept s n empty m = kept_quiet nothing m quiet_nothing
  stmt_kept s n (null p) m = kept_quiet nothing m quiet_nothing
  stmt_kept s n (block (body ss first last) p) m = stmts_kept s n ss m
  stmt_kept s n (if_then e t p) m =
      let c = at_line s p.line in
      let yes = stmt_code c n t in
      tested c e yes.size yes m (with_stmt s.env n t m) (stmt_kept c n t m)
  stmt_kept s n (if_then_else e t u p) m =
      let c = at_line s p.line in
      let yes = stmt_code c n t in
      let no = stmt_code c (n + scopes_in t) u in
      let y = with_stmt s.env n t m in
      let z = with_stmt s.env (n + scopes_in t) u y in
      tested c e (yes.size + 1) (yes ⨾ over c JMP no.size ⨾ no) m z
      (passed c no.size yes no m y z (stmt_kept c n t m) (stmt_kept c (n + scopes_in t) u y))
  stmt_kept s n (case_of e arms last p) m =
      let c = at_line s p.line in
      let z = with_case_arms s.env n arms m in
      let all = arms_code c n arms in
      kept_behind (expr_code c e) (tests_code c n 0 arms ⨾ one c CERR ⨾ all) m z (quiet_expr c e)
      (kept_behind (tests_code c n 0 arms) (one c CERR ⨾ all) m z (quiet_tests c n 0 arms)
      (kept_behind (one c CERR) all m z (quiet_one c CERR) (arms_kept c n arms m)))
  stmt_kept s n (while_do e t p) m =
      let c = at_line s p.line in
      let test = expr_code c e in
      let inner = stmt_code c n t in
      let turn = back c TURN (test.size + 1 + inner.size) in
      let z = with_stmt s.env n t m in
      tested c e (inner.size + 1) (inner ⨾ turn) m z
      (kept_before inner turn m z (stmt_kept c n t m) (quiet_back c TURN (test.size + 1 + inner.size)))
  stmt_kept s n (repeat_until ss e p) m =
      let c = at_line s p.line in
      let test = expr_code c e in
      let inner = stmts_code c n ss in
      let turn = back c TURN (inner.size + test.size + 2) in
      let z = with_stmts s.env n ss m in
      kept_before inner (test ⨾ one c NOT ⨾ over c JF 1 ⨾ turn) m z (stmts_kept c n ss m)
      (quiet_both test (one c NOT ⨾ over c JF 1 ⨾ turn) (quiet_expr c e)
      (quiet_three (one c NOT) (over c JF 1) turn (quiet_one c NOT) (quiet_over c JF 1) (quiet_back c TURN (inner.size + test.size + 2))))
  stmt_kept s n (repeat_forever ss p) m =
      let c = at_line s p.line in
      let inner = stmts_code c n ss in
      kept_before inner (back c TURN inner.size) m (with_stmts s.env n ss m) (stmts_kept c n ss m) (quiet_back c TURN inner.size)
  stmt_kept s n (for_do x a down b t p q) m =
      let c = at_line s p.line in
      let inner = stmt_code c n t in
      let d = if down then 1 else 0 in
      let v = (spot_of c.env (find c.env x)).spot in
      let begin = over c (λ at. FORB d at) (inner.size + 2) in
      let turn = back c (λ at. FORT d at) (inner.size + 1) in
      let z = with_stmt s.env n t m in
      kept_behind (base_code c v) (expr_code c a ⨾ expr_code c b ⨾ begin ⨾ one c FORW ⨾ inner ⨾ turn) m z (quiet_base c v)
      (kept_behind (expr_code c a) (expr_code c b ⨾ begin ⨾ one c FORW ⨾ inner ⨾ turn) m z (quiet_expr c a)
      (kept_behind (expr_code c b) (begin ⨾ one c FORW ⨾ inner ⨾ turn) m z (quiet_expr c b)
      (kept_behind begin (one c FORW ⨾ inner ⨾ turn) m z (quiet_over c (λ at. FORB d at) (inner.size + 2))
      (around (one c FORW) inner turn m z (quiet_one c FORW) (stmt_kept c n t m) (quiet_back c (λ at. FORT d at) (inner.size + 1))))))
  stmt_kept s n (cobegin ss last p) m =
      kept_before (stmts_code s n ss) (one (at_line s last.line) COEND) m (with_stmts s.env n ss m) (stmts_kept s n ss m)
      (quiet_one (at_line s last.line) COEND)
  stmt_kept s n (accepting a p) m =
      let c = at_line s p.line in
      around (accept_code c n a) (accepted_code c n a) (one c EACC) m (with_accepted s.env n a m) (quiet_one c _) (accepted_kept c n a m)
      (quiet_one c EACC)
  stmt_kept s n (requeue x args p) m =
      let c = at_line s p.line in
      let to = meaning_of (find c.env x.0) in
      kept_quiet (requeue_code c to args) m (quiet_requeue c to args)
  stmt_kept s n (select pri alts p q) m =
      let c = at_line s p.line in
      let counted = with_select s.env alts m in
      let z = with_branches s.env n alts counted in
      let all = alternatives (context_of c) n alts in
      let far = distances c n 0 alts in
      let inner = branches_code c n alts 0 in
      select_kept c n alts (alternatives_code c all far) (sel_code c pri None) (inner ⨾ nothing) m z (quiet_alternatives c all far) (quiet_sel c pri None)
      (kept_before inner nothing counted z (branches_kept c n alts 0 counted) quiet_nothing)
  stmt_kept s n (select_else pri alts ss at p q) m =
      let c = at_line s p.line in
      let otherwise = stmts_code c (n + alts_scopes alts) ss in
      let inner = branches_code c n alts otherwise.size in
      let counted = with_select s.env alts m in
      let y = with_branches s.env n alts counted in
      let z = with_stmts s.env (n + alts_scopes alts) ss y in
      let all = alternatives (context_of c) n alts in
      let far = distances c n 0 alts in
      select_kept c n alts (alternatives_code c all far) (sel_code c pri (Some inner.size)) (inner ⨾ otherwise) m z (quiet_alternatives c all far)
      (quiet_sel c pri (Some inner.size))
      (kept_both inner otherwise counted y z (branches_kept c n alts otherwise.size counted) (stmts_kept c (n + alts_scopes alts) ss y))
  stmt_kept s n (assign d e p q) m = let c = at_line s p.line in kept_quiet (assign_code c d e) m (quiet_assign c d e)
  stmt_kept s n (send d e p q) m = let c = at_line s p.line in kept_quiet (send_code c d e) m (quiet_send c d e)
  stmt_kept s n (receive d v p q) m = let c = at_line s p.line in kept_quiet (receive_code c d v) m (quiet_receive c d v)
  stmt_kept s n (call d args p) m = call_kept (at_line s p.line) d args m

  pub stmts_kept : (s : Site) (n : ℕ) (ts : StmtTrees) (m : Made) → IsMade (unseen (stmts_code s n ts)) m (with_stmts s.env n ts m)
  stmts_kept s n no_stmts m = kept_quiet nothing m quiet_nothing
  stmts_kept s n (more_stmts t ts) m =
      let y = with_stmt s.env n t m in
      kept_both (stmt_code s n t) (stmts_code s (n + scopes_in t) ts) m y (with_stmts s.env (n + scopes_in t) ts y) (stmt_kept s n t m)
      (stmts_kept s (n + scopes_in t) ts y)

  arms_kept : (s : Site) (n : ℕ) (arms : ArmTrees) (m : Made) → IsMade (unseen (arms_code s n arms)) m (with_case_arms s.env n arms m)
  arms_kept s n no_arms m = kept_quiet nothing m quiet_nothing
  arms_kept s n (more_arms (arm ls t) arms) m =
      let next = n + arm_scopes (arm ls t) in
      let rest = arms_code s next arms in
      let y = with_stmt s.env n t m in
      passed s rest.size (stmt_code s n t) rest m y (with_case_arms s.env next arms y) (stmt_kept s n t m) (arms_kept s next arms y)

  accepted_kept : (s : Site) (n : ℕ) (a : AcceptTree) (m : Made) → IsMade (unseen (accepted_code s n a)) m (with_accepted s.env n a m)
  accepted_kept s n (accept x gs p) m = kept_quiet nothing m quiet_nothing
  accepted_kept s n (accept_do x gs t p) m = stmt_kept (in_accept s n) (n + 1) t m

  branch_has : (s : Site) (n : ℕ) (a : AltTree) (between : ℕ) (m : Made) → IsMade (unseen (branch_code s n a between)) m (with_branch s.env n a m)
  branch_has s n (alt spread guard (terminate p) ss) between m =
      let same : n ≡ n + 0 = omega arith in
      subst (λ k. IsMade (unseen (stmts_code s n ss)) m (with_stmts s.env k ss m)) same (stmts_kept s n ss m)
  branch_has s n (alt spread guard (comm_accept a p) ss) between m =
      let next = n + comm_scopes (comm_accept a p) in
      let y = with_accepted s.env n a m in
      let end = one (at_line s p.line) EACC in
      branch_kept s between spread (accepted_code s n a ⨾ end) (stmts_code s next ss) m y (with_stmts s.env next ss y)
      (kept_before (accepted_code s n a) end m y (accepted_kept s n a m) (quiet_one (at_line s p.line) EACC)) (stmts_kept s next ss y)
  branch_has s n (alt spread guard comm ss) between m =
      let next = n + comm_scopes comm in
      branch_kept s between spread nothing (stmts_code s next ss) m m (with_stmts s.env next ss m) (kept_quiet nothing m quiet_nothing)
      (stmts_kept s next ss m)

  branches_kept :
      (s : Site) (n : ℕ) (alts : AltTrees) (else_size : ℕ) (m : Made)
      → IsMade (unseen (branches_code s n alts else_size)) m (with_branches s.env n alts m)
  branches_kept s n no_alts else_size m = kept_quiet nothing m quiet_nothing
  branches_kept s n (more_alts a alts) else_size m =
      let next = n + alt_scopes a in
      let rest = branches_code s next alts else_size in
      let y = with_branch s.env n a m in
      kept_both (branch_code s n a (rest.size + else_size)) rest m y (with_branches s.env next alts y) (branch_has s n a (rest.size + else_size) m)
      (branches_kept s next alts else_size y)
