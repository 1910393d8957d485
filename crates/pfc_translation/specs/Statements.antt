-- The code of statements. The number of the next scope of the text is given with each: an accept knows the scope of its parameters by it.
use Rattle.std.specs.Prelude.{ℕ, ◌+◌, ℤ, pos, Bool, if◌then◌else◌, List, [], ◌∷◌, ◌++◌, length, Option, Some, None}
use Rattle.pfc_code.specs.declared.instructions.Instr.TheVariants.{STORE, NOT, JMP, JF, TURN, FORB, FORW, FORT, CEQ, CERR, COEND, EACC, SEL}
use Rattle.pfc_tree.specs.declared.tree.Constant.{Constant}
use Rattle.pfc_tree.specs.declared.tree.Spread.{Spread}
use Rattle.pfc_tree.specs.trees.Exprs.{ExprTree, DesigTree}
use Rattle.pfc_tree.specs.trees.Stmts.{StmtTree, StmtTrees, ArmTrees, AcceptTree, AltTree, AltTrees, CommTree, empty, null, block, if_then, if_then_else}
use Rattle.pfc_tree.specs.trees.Stmts.{case_of, while_do, repeat_until, repeat_forever, for_do, cobegin, accepting, requeue, select, select_else, assign, send}
use Rattle.pfc_tree.specs.trees.Stmts.{receive, call, no_stmts, more_stmts, body, arm, no_arms, more_arms, accept, accept_do, alt, no_alts, more_alts}
use Rattle.pfc_tree.specs.trees.Stmts.{comm_accept, comm_send, comm_receive, timeout, terminate}
use Rattle.pfc_types.specs.Scopes.{meaning_of}
use Rattle.pfc_types.specs.rules.Constants.{Ordinal, constant_value}
use Rattle.pfc_types.specs.rules.Expressions.{find, expr_type}
use Rattle.pfc_types.specs.rules.Statements.{scopes_in, arm_scopes, comm_scopes, alt_scopes, alts_scopes}
use Rattle.pfc_semantics.specs.Remainders.{Replica, Alternative}
use Rattle.pfc_semantics.specs.Expressions.{spot_of}
use Rattle.pfc_semantics.specs.Alternatives.{replicas, alternatives}
use Rattle.pfc_translation.specs.Sites.{Site, at_line, in_accept, context_of, forms_of, type_cells}
use Rattle.pfc_translation.specs.Codes.{Code, nothing, ◌⨾◌, one, over, back, unseen, with_arms}
use Rattle.pfc_translation.specs.Addresses.{base_code}
use Rattle.pfc_translation.specs.Expressions.{expr_code, desig_code}
use Rattle.pfc_translation.specs.Calls.{call_code, requeue_code}
use Rattle.pfc_translation.specs.Selects.{send_code, receive_code, accept_code, replica_code, alternatives_code}

-- `v := e`: address, e, STORE z
abbrev pub assign_code : Site → DesigTree → ExprTree → Code
assign_code s d e = desig_code s d ⨾ expr_code s e ⨾ one s (STORE (type_cells (forms_of s) (expr_type s.env e)))

-- ## Labels of a `case`

abbrev pub label_of : Option Ordinal → ℤ
label_of None = pos 0
label_of (Some o) = o.value

-- a test for each label, which leads to the arm: so many instructions stand between the last of these tests and it
abbrev pub labels_code : Site → ℕ → List Constant → Code
labels_code s between [] = nothing
labels_code s between (l ∷ ls) =
    over s (λ at. CEQ (label_of (constant_value s.env.state.blocks.scopes s.env.view l)) at) (length ls + between) ⨾ labels_code s between ls

abbrev pub label_count : ArmTrees → ℕ
label_count no_arms = 0
label_count (more_arms (arm ls t) arms) = length ls + label_count arms

-- ## Spreads

abbrev pub spread_of : AltTree → Option Spread
spread_of (alt spread guard comm ss) = spread

abbrev pub spread_replicas : Site → Option Spread → List Replica
spread_replicas s None = []
spread_replicas s (Some spread) = replicas (context_of s) spread

-- each value is written again where it is chosen: address, LIT v, STORE 1, JMP to what stands behind the last of these
abbrev pub chosen_code : Site → List Replica → Code
chosen_code s [] = nothing
chosen_code s (r ∷ rs) = let rest = chosen_code s rs in replica_code s (Some r) ⨾ over s JMP rest.size ⨾ rest

-- where the branches of an alternative begin that stands so far behind the first branch: one for each value, of four instructions each
abbrev pub replica_branches : ℕ → List Replica → List ℕ
replica_branches from [] = []
replica_branches from (r ∷ rs) = from ∷ replica_branches (from + 4) rs

abbrev pub branches_from : Site → ℕ → Option Spread → List ℕ
branches_from s from None = from ∷ []
branches_from s from (Some spread) = replica_branches from (replicas (context_of s) spread)

-- the else part, and what `SEL` says of it
abbrev pub sel_code : Site → Bool → Option ℕ → Code
sel_code s pri None = one s (SEL (if pri then 1 else 0) 0)
sel_code s pri (Some count) = over s (λ at. SEL (if pri then 1 else 0) at) count

-- a whole select: its alternatives, `SEL`, the branches, the else part. Each branch's distance from the first one is given.
abbrev pub select_code : Site → Bool → List Alternative → List ℕ → Code → Option ℕ → Code → Code
select_code s pri alts distances branches else_at otherwise =
    with_arms (length alts) (alternatives_code s alts distances ⨾ sel_code s pri else_at ⨾ branches ⨾ otherwise)

-- ## Statements

abbrev mutual
  pub stmt_code : Site → ℕ → StmtTree → Code
  -- `null` and the empty statement give nothing
  stmt_code s n empty = nothing
  stmt_code s n (null p) = nothing
  stmt_code s n (block (body ss first last) p) = stmts_code s n ss
  -- e, JF x, A, x:
  stmt_code s n (if_then e t p) =
      let c = at_line s p.line in
      let yes = stmt_code c n t in
      expr_code c e ⨾ over c JF yes.size ⨾ yes
  -- e, JF x, A, JMP y, x: B, y:
  stmt_code s n (if_then_else e t u p) =
      let c = at_line s p.line in
      let yes = stmt_code c n t in
      let no = stmt_code c (n + scopes_in t) u in
      expr_code c e ⨾ over c JF (yes.size + 1) ⨾ yes ⨾ over c JMP no.size ⨾ no
  -- e, CEQ n a for each label in order, CERR, then for each arm a: its statement, JMP y; y:
  stmt_code s n (case_of e arms last p) =
      let c = at_line s p.line in
      expr_code c e ⨾ tests_code c n 0 arms ⨾ one c CERR ⨾ arms_code c n arms
  -- w: e, JF y, S, TURN w, y:
  stmt_code s n (while_do e t p) =
      let c = at_line s p.line in
      let test = expr_code c e in
      let inner = stmt_code c n t in
      test ⨾ over c JF (inner.size + 1) ⨾ inner ⨾ back c TURN (test.size + 1 + inner.size)
  -- w: SS, e, NOT, JF y, TURN w, y:
  stmt_code s n (repeat_until ss e p) =
      let c = at_line s p.line in
      let inner = stmts_code c n ss in
      let test = expr_code c e in
      inner ⨾ test ⨾ one c NOT ⨾ over c JF 1 ⨾ back c TURN (inner.size + test.size + 2)
  -- w: SS, TURN w
  stmt_code s n (repeat_forever ss p) =
      let c = at_line s p.line in
      let inner = stmts_code c n ss in
      inner ⨾ back c TURN inner.size
  -- address, a, b, FORB d y, w: FORW, S, FORT d w, y:
  stmt_code s n (for_do x a down b t p q) =
      let c = at_line s p.line in
      let inner = stmt_code c n t in
      let d = if down then 1 else 0 in
      base_code c (spot_of c.env (find c.env x)).spot ⨾ expr_code c a ⨾ expr_code c b
      ⨾ over c (λ at. FORB d at) (inner.size + 2) ⨾ one c FORW ⨾ inner ⨾ back c (λ at. FORT d at) (inner.size + 1)
  -- SS, COEND, which has the line of `coend`
  stmt_code s n (cobegin ss last p) = stmts_code s n ss ⨾ one (at_line s last.line) COEND
  -- ACC e d z, S, EACC
  stmt_code s n (accepting a p) = let c = at_line s p.line in accept_code c n a ⨾ accepted_code c n a ⨾ one c EACC
  stmt_code s n (requeue x args p) = let c = at_line s p.line in requeue_code c (meaning_of (find c.env x.0)) args
  stmt_code s n (select pri alts p q) =
      let c = at_line s p.line in
      select_code c pri (alternatives (context_of c) n alts) (distances c n 0 alts) (branches_code c n alts 0) None nothing
  stmt_code s n (select_else pri alts ss at p q) =
      let c = at_line s p.line in
      let otherwise = stmts_code c (n + alts_scopes alts) ss in
      let branches = branches_code c n alts otherwise.size in
      select_code c pri (alternatives (context_of c) n alts) (distances c n 0 alts) branches (Some branches.size) otherwise
  stmt_code s n (assign d e p q) = assign_code (at_line s p.line) d e
  stmt_code s n (send d e p q) = send_code (at_line s p.line) d e
  stmt_code s n (receive d v p q) = receive_code (at_line s p.line) d v
  stmt_code s n (call d args p) = call_code (at_line s p.line) d args

  pub stmts_code : Site → ℕ → StmtTrees → Code
  stmts_code s n no_stmts = nothing
  stmts_code s n (more_stmts t ts) = stmt_code s n t ⨾ stmts_code s (n + scopes_in t) ts

  -- the tests of all labels, for arms of which the first begins so far behind the first arm of all
  pub tests_code : Site → ℕ → ℕ → ArmTrees → Code
  tests_code s n from no_arms = nothing
  tests_code s n from (more_arms (arm ls t) arms) =
      labels_code s (label_count arms + 1 + from) ls ⨾ tests_code s (n + arm_scopes (arm ls t)) (from + (stmt_code s n t).size + 1) arms

  -- the arms, each with a jump behind it to the end
  pub arms_code : Site → ℕ → ArmTrees → Code
  arms_code s n no_arms = nothing
  arms_code s n (more_arms (arm ls t) arms) =
      let rest = arms_code s (n + arm_scopes (arm ls t)) arms in
      stmt_code s n t ⨾ over s JMP rest.size ⨾ rest

  -- the statement of an accept, in which its parameters are in view
  pub accepted_code : Site → ℕ → AcceptTree → Code
  accepted_code s n (accept x gs p) = nothing
  accepted_code s n (accept_do x gs t p) = stmt_code (in_accept s n) (n + 1) t

  -- of an accept S, EACC, which has the line of `accept`
  pub met_code : Site → ℕ → CommTree → Code
  met_code s n (comm_accept a p) = accepted_code s n a ⨾ one (at_line s p.line) EACC
  met_code s n (comm_send d e p) = nothing
  met_code s n (comm_receive d v p) = nothing
  met_code s n (timeout e p) = nothing
  met_code s n (terminate p) = nothing

  -- The branch of an alternative, with the jump to the end, before which so many instructions stand. Statements behind `terminate` give no
  -- code.
  pub branch_code : Site → ℕ → AltTree → ℕ → Code
  branch_code s n (alt spread guard (terminate p) ss) between = unseen (stmts_code s n ss)
  branch_code s n (alt spread guard comm ss) between =
      chosen_code s (spread_replicas s spread) ⨾ met_code s n comm ⨾ stmts_code s (n + comm_scopes comm) ss ⨾ over s JMP between

  -- all branches; so many instructions have the else part
  pub branches_code : Site → ℕ → AltTrees → ℕ → Code
  branches_code s n no_alts else_size = nothing
  branches_code s n (more_alts a alts) else_size =
      let rest = branches_code s (n + alt_scopes a) alts else_size in
      branch_code s n a (rest.size + else_size) ⨾ rest

  -- for each alternative, each value of a replicated one apart, how far its branch stands behind the first branch
  pub distances : Site → ℕ → ℕ → AltTrees → List ℕ
  distances s n from no_alts = []
  distances s n from (more_alts a alts) =
      branches_from s from (spread_of a) ++ distances s (n + alt_scopes a) (from + (branch_code s n a 0).size) alts
