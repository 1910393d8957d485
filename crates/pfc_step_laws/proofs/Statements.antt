-- The code of a statement adds few numbers: by induction over it.
use Rattle.std.proofs.Common.{◌≡◌, ℕ, ◌+◌, ◌*◌, ◌≤◌, Bool, List, [], ◌∷◌, length, Option, Some, None, if◌then◌else◌, refl, arith}
use Rattle.std.specs.List.{sum_by}
use Rattle.std.proofs.lemmas.List.Sums.{sum_by-cons}
use Rattle.pfc_tree.specs.declared.tree.Constant.{Constant}
use Rattle.pfc_tree.specs.declared.tree.Constant.TheVariants.{Number, Named, Literal}
use Rattle.pfc_tree.specs.declared.tree.Spread.{Spread}
use Rattle.pfc_tree.specs.trees.Stmts.{StmtTree, StmtTrees, ArmTrees, AcceptTree, AltTree, AltTrees, CommTree, empty, null, block, if_then, if_then_else}
use Rattle.pfc_tree.specs.trees.Stmts.{case_of, while_do, repeat_until, repeat_forever, for_do, cobegin, accepting, requeue, select, select_else, assign, send}
use Rattle.pfc_tree.specs.trees.Stmts.{receive, call, no_stmts, more_stmts, body, arm, no_arms, more_arms, accept, accept_do, alt, no_alts, more_alts}
use Rattle.pfc_tree.specs.trees.Stmts.{comm_accept, comm_send, comm_receive, timeout, terminate}
use Rattle.pfc_types.specs.Scopes.{meaning_of}
use Rattle.pfc_types.specs.rules.Constants.{constant_value}
use Rattle.pfc_types.specs.rules.Expressions.{find}
use Rattle.pfc_types.specs.rules.Statements.{scopes_in, arm_scopes, comm_scopes, alt_scopes, alts_scopes}
use Rattle.pfc_semantics.specs.Expressions.{spot_of}
use Rattle.pfc_semantics.specs.Remainders.{Alternative}
use Rattle.pfc_semantics.specs.Alternatives.{replicas, alternatives}
use Rattle.pfc_code.specs.declared.instructions.Instr.{Instr}
use Rattle.pfc_code.specs.declared.instructions.Instr.TheVariants.{NOT, JMP, JF, TURN, FORB, FORW, FORT, CEQ, CERR, COEND, ACC, EACC}
use Rattle.pfc_translation.specs.Sites.{Site, at_line, in_accept, context_of}
use Rattle.pfc_translation.specs.Codes.{Code, nothing, ◌⨾◌, one, over, back}
use Rattle.pfc_translation.specs.Selects.{entry_of, accept_cell, accept_cells, alternatives_code}
use Rattle.pfc_translation.specs.Expressions.{expr_code}
use Rattle.pfc_translation.specs.Statements.{label_of, labels_code, label_count, spread_replicas, chosen_code, sel_code, select_code, stmt_code}
use Rattle.pfc_translation.specs.Statements.{stmts_code, tests_code, arms_code, accepted_code, met_code, branch_code, branches_code, distances}
use Rattle.pfc_step_laws.specs.Nodes.{constant_nodes, spread_nodes, stmt_nodes, stmts_nodes, arms_nodes, accept_nodes, alts_nodes}
use Rattle.pfc_step_laws.specs.Nodes.{comm_nodes}
use Rattle.pfc_step_laws.proofs.Short.{Within, Short, more, further, no_code, joined, leading, jumping, both, lone, turning, unseen_code, armed}
use Rattle.pfc_step_laws.proofs.Expressions.{inside_is, base, expr}
use Rattle.pfc_step_laws.proofs.Calls.{requeued, a_call, assigned, sent, received}
use Rattle.pfc_step_laws.proofs.Selects.{comm_before, comm_behind, spread_adds, alts_before, all_alternatives, a_decision, chosen}

-- ## Labels

constant_some : (l : Constant) → 1 ≤ constant_nodes l
constant_some (Number sign n p) = omega arith
constant_some (Named sign x p) = omega arith
constant_some (Literal x p) = omega arith

labels_few : (ls : List Constant) → length ls ≤ sum_by constant_nodes ls
labels_few [] = omega arith
labels_few (l ∷ ls) =
    let rest = labels_few ls in let some = constant_some l in let same = sum_by-cons constant_nodes l ls in omega (arith, rest, some, same)

labels_size : (s : Site) (between : ℕ) (ls : List Constant) → (labels_code s between ls).size ≡ length ls
labels_size s between [] = refl
labels_size s between (l ∷ ls) = let rest = labels_size s between ls in omega (arith, rest)

tests_size : (s : Site) (n from : ℕ) (arms : ArmTrees) → (tests_code s n from arms).size ≡ label_count arms
tests_size s n from no_arms = refl
tests_size s n from (more_arms (arm ls t) arms) =
    let first = labels_size s (label_count arms + 1 + from) ls in
    let rest = tests_size s (n + arm_scopes (arm ls t)) (from + (stmt_code s n t).size + 1) arms in
    omega (arith, first, rest)

-- a test leads to its arm, which is behind all tests
labels : (s : Site) (between : ℕ) (ls : List Constant) (m : ℕ) → between ≤ m → Within (labels_code s between ls) m (length ls)
labels s between [] m h = no_code
labels s between (l ∷ ls) m h =
    let rest = labels_code s between ls in
    let f : ℕ → Instr = λ at. CEQ (label_of (constant_value s.env.state.blocks.scopes s.env.view l)) at in
    let size : rest.size ≡ length ls = labels_size s between ls in
    more
    (joined (leading s f (length ls + between) (rest.size + m) (λ a at behind. omega arith) (omega (arith, h, size))) (labels s between ls m h))
    (omega arith)

tests :
    (s : Site) (n from : ℕ) (arms : ArmTrees) (m : ℕ) → 1 + from + (arms_code s n arms).size ≤ m → Within (tests_code s n from arms) m (label_count arms)
tests s n from no_arms m h = no_code
tests s n from (more_arms (arm ls t) arms) m h =
    let next = n + arm_scopes (arm ls t) in
    let behind = from + (stmt_code s n t).size + 1 in
    let h' : 1 + from + ((stmt_code s n t).size + (1 + (arms_code s next arms).size)) ≤ m = h in
    let size : (tests_code s next behind arms).size ≡ label_count arms = tests_size s next behind arms in
    joined (labels s (label_count arms + 1 + from) ls ((tests_code s next behind arms).size + m) (omega (arith, h', size)))
    (tests s next behind arms m (omega (arith, h')))

-- the arms without their tests
abbrev arms_behind : ArmTrees → ℕ
arms_behind no_arms = 0
arms_behind (more_arms (arm ls t) arms) = 2 * stmt_nodes t + 1 + arms_behind arms

arms_room : (arms : ArmTrees) → label_count arms + arms_behind arms ≤ 2 * arms_nodes arms
arms_room no_arms = omega arith
arms_room (more_arms (arm ls t) arms) = let rest = arms_room arms in let few = labels_few ls in omega (arith, rest, few)

-- ## Alternatives

spread_few : (spread : Option Spread) → spread_adds spread ≤ spread_nodes spread
spread_few None = omega arith
spread_few (Some s) = let low = constant_some s.low in let high = constant_some s.high in omega (arith, low, high)

comm_room : (c : CommTree) → comm_before c + comm_behind c ≤ 2 * comm_nodes c
comm_room (comm_accept a p) = omega arith
comm_room (comm_send d e p) = omega arith
comm_room (comm_receive d v p) = omega arith
comm_room (timeout e p) = omega arith
comm_room (terminate p) = omega arith

-- the branches of alternatives
abbrev alt_behind : AltTree → ℕ
alt_behind (alt spread guard c ss) = spread_adds spread + comm_behind c + 2 * stmts_nodes ss + 1

abbrev alts_behind : AltTrees → ℕ
alts_behind no_alts = 0
alts_behind (more_alts a alts) = alt_behind a + alts_behind alts

alts_room : (alts : AltTrees) → alts_before alts + alts_behind alts ≤ 2 * alts_nodes alts
alts_room no_alts = omega arith
alts_room (more_alts (alt spread guard c ss) alts) =
    let rest = alts_room alts in let few = spread_few spread in let room = comm_room c in omega (arith, rest, few, room)

chosen_value : (s : Site) (spread : Option Spread) → Short (chosen_code s (spread_replicas s spread)) (spread_adds spread)
chosen_value s None = no_code
chosen_value s (Some spread) = chosen s (replicas (context_of s) spread)

a_branch :
    (s : Site) (spread : Option Spread) (met last : Code) (between m j k : ℕ) → Short met j → Short last k → between ≤ m
    → Within (chosen_code s (spread_replicas s spread) ⨾ met ⨾ last ⨾ over s JMP between) m (spread_adds spread + (j + (k + 1)))
a_branch s spread met last between m j k p q h = both (chosen_value s spread) (both p (both q (jumping s between m h)))

a_select :
    (s : Site) (pri : Bool) (alts : List Alternative) (ds : List ℕ) (branches : Code) (else_at : Option ℕ) (otherwise : Code) (i j k : ℕ)
    → Short (alternatives_code s alts ds) i → Within branches (otherwise.size + 0) j → Short otherwise k
    → Short (select_code s pri alts ds branches else_at otherwise) (i + (1 + (j + k)))
a_select s pri alts ds branches else_at otherwise i j k p q r =
    armed (length alts) (alternatives_code s alts ds ⨾ sel_code s pri else_at ⨾ branches ⨾ otherwise) 0 (i + (1 + (j + k)))
    (both p (both (a_decision s pri else_at) (joined q r)))

-- ## Statements

-- the statement of an accept
abbrev accepted_adds : AcceptTree → ℕ
accepted_adds (accept x gs p) = 0
accepted_adds (accept_do x gs t p) = 2 * stmt_nodes t

accepted_room : (a : AcceptTree) → accepted_adds a + 2 ≤ 2 * accept_nodes a
accepted_room (accept x gs p) = omega arith
accepted_room (accept_do x gs t p) = omega arith

mutual
  pub stmt : (s : Site) (n : ℕ) (t : StmtTree) → Short (stmt_code s n t) (2 * stmt_nodes t)
  stmt s n empty = more no_code (omega arith)
  stmt s n (null p) = more no_code (omega arith)
  stmt s n (block (body ss first last) p) = more (stmts s n ss) (omega arith)
  stmt s n (if_then e t p) =
      let c = at_line s p.line in
      let yes = stmt_code c n t in
      let room = inside_is e in
      more (both (expr c e) (joined (leading c JF yes.size (yes.size + 0) (λ a at rest. omega arith) (omega arith)) (stmt c n t))) (omega (arith, room))
  stmt s n (if_then_else e t u p) =
      let c = at_line s p.line in
      let good = stmt_code c n t in
      let bad = stmt_code c (n + scopes_in t) u in
      let room = inside_is e in
      more
      (both (expr c e)
      (joined (leading c JF (good.size + 1) ((good ⨾ over c JMP bad.size ⨾ bad).size + 0) (λ a at rest. omega arith) (omega arith))
      (both (stmt c n t) (joined (jumping c bad.size (bad.size + 0) (omega arith)) (stmt c (n + scopes_in t) u)))))
      (omega (arith, room))
  stmt s n (case_of e arms last p) =
      let c = at_line s p.line in
      let room = inside_is e in
      let of_arms = arms_room arms in
      more
      (both (expr c e)
      (joined (tests c n 0 arms ((one c CERR ⨾ arms_code c n arms).size + 0) (omega arith)) (both (lone c CERR refl) (all_arms c n arms))))
      (omega (arith, room, of_arms))
  stmt s n (while_do e t p) =
      let c = at_line s p.line in
      let test = expr_code c e in
      let inner = stmt_code c n t in
      let turn = back c TURN (test.size + 1 + inner.size) in
      let room = inside_is e in
      more
      (both (expr c e)
      (joined (leading c JF (inner.size + 1) ((inner ⨾ turn).size + 0) (λ a at rest. omega arith) (omega arith))
      (both (stmt c n t) (turning c TURN (test.size + 1 + inner.size) (λ a. refl)))))
      (omega (arith, room))
  stmt s n (repeat_until ss e p) =
      let c = at_line s p.line in
      let inner = stmts_code c n ss in
      let test = expr_code c e in
      let room = inside_is e in
      more
      (both (stmts c n ss)
      (both (expr c e)
      (both (lone c NOT refl)
      (joined (leading c JF 1 (1 + 0) (λ a at rest. omega arith) (omega arith)) (turning c TURN (inner.size + test.size + 2) (λ a. refl))))))
      (omega (arith, room))
  stmt s n (repeat_forever ss p) =
      let c = at_line s p.line in
      let inner = stmts_code c n ss in
      more (both (stmts c n ss) (turning c TURN inner.size (λ a. refl))) (omega arith)
  stmt s n (for_do x a down b t p q) =
      let c = at_line s p.line in
      let inner = stmt_code c n t in
      let d : ℕ = if down then 1 else 0 in
      let turn = back c (λ at. FORT d at) (inner.size + 1) in
      let low = inside_is a in
      let high = inside_is b in
      more
      (both (base c (spot_of c.env (find c.env x)).spot)
      (both (expr c a)
      (both (expr c b)
      (joined (leading c (λ at. FORB d at) (inner.size + 2) ((one c FORW ⨾ inner ⨾ turn).size + 0) (λ a at rest. omega arith) (omega arith))
      (both (lone c FORW refl) (both (stmt c n t) (turning c (λ at. FORT d at) (inner.size + 1) (λ a. refl))))))))
      (omega (arith, low, high))
  stmt s n (cobegin ss last p) = more (both (stmts s n ss) (lone (at_line s last.line) COEND refl)) (omega arith)
  stmt s n (accepting a p) =
      let c = at_line s p.line in
      let room = accepted_room a in
      more
      (both (lone c (ACC (entry_of c a) (accept_cell c n) (accept_cells c n)) refl) (both (accepted c n a) (lone c EACC refl)))
      (omega (arith, room))
  stmt s n (requeue x args p) = let c = at_line s p.line in more (requeued c (meaning_of (find c.env x.0)) args) (omega arith)
  stmt s n (select pri alts p q) =
      let c = at_line s p.line in
      let room = alts_room alts in
      more
      (a_select c pri (alternatives (context_of c) n alts) (distances c n 0 alts) (branches_code c n alts 0) None nothing (alts_before alts)
      (alts_behind alts) 0 (all_alternatives c n alts (distances c n 0 alts)) (all_branches c n alts 0 0 (omega arith)) no_code)
      (omega (arith, room))
  stmt s n (select_else pri alts ss at p q) =
      let c = at_line s p.line in
      let otherwise = stmts_code c (n + alts_scopes alts) ss in
      let branches = branches_code c n alts otherwise.size in
      let room = alts_room alts in
      more
      (a_select c pri (alternatives (context_of c) n alts) (distances c n 0 alts) branches (Some branches.size) otherwise (alts_before alts)
      (alts_behind alts) (2 * stmts_nodes ss) (all_alternatives c n alts (distances c n 0 alts))
      (all_branches c n alts otherwise.size (otherwise.size + 0) (omega arith)) (stmts c (n + alts_scopes alts) ss))
      (omega (arith, room))
  stmt s n (assign d e p q) = more (assigned (at_line s p.line) d e) (omega arith)
  stmt s n (send d e p q) = more (sent (at_line s p.line) d e) (omega arith)
  stmt s n (receive d v p q) = more (received (at_line s p.line) d v) (omega arith)
  stmt s n (call d args p) = more (a_call (at_line s p.line) d args) (omega arith)

  pub stmts : (s : Site) (n : ℕ) (ts : StmtTrees) → Short (stmts_code s n ts) (2 * stmts_nodes ts)
  stmts s n no_stmts = no_code
  stmts s n (more_stmts t ts) = more (both (stmt s n t) (stmts s (n + scopes_in t) ts)) (omega arith)

  all_arms : (s : Site) (n : ℕ) (arms : ArmTrees) → Short (arms_code s n arms) (arms_behind arms)
  all_arms s n no_arms = no_code
  all_arms s n (more_arms (arm ls t) arms) =
      let next = n + arm_scopes (arm ls t) in
      let rest = arms_code s next arms in
      more (both (stmt s n t) (joined (jumping s rest.size (rest.size + 0) (omega arith)) (all_arms s next arms))) (omega arith)

  accepted : (s : Site) (n : ℕ) (a : AcceptTree) → Short (accepted_code s n a) (accepted_adds a)
  accepted s n (accept x gs p) = no_code
  accepted s n (accept_do x gs t p) = stmt (in_accept s n) (n + 1) t

  one_branch : (s : Site) (n : ℕ) (a : AltTree) (between m : ℕ) → between ≤ m → Within (branch_code s n a between) m (alt_behind a)
  one_branch s n (alt spread guard (comm_accept a p) ss) between m h =
      let c = comm_accept a p in
      let room = accepted_room a in
      more
      (a_branch s spread (met_code s n c) (stmts_code s (n + comm_scopes c) ss) between m (accepted_adds a + 1) (2 * stmts_nodes ss)
      (both (accepted s n a) (lone (at_line s p.line) EACC refl)) (stmts s (n + comm_scopes c) ss) h)
      (omega (arith, room))
  one_branch s n (alt spread guard (comm_send d e p) ss) between m h =
      let c = comm_send d e p in
      more
      (a_branch s spread nothing (stmts_code s (n + comm_scopes c) ss) between m 0 (2 * stmts_nodes ss) no_code (stmts s (n + comm_scopes c) ss) h)
      (omega arith)
  one_branch s n (alt spread guard (comm_receive d v p) ss) between m h =
      let c = comm_receive d v p in
      more
      (a_branch s spread nothing (stmts_code s (n + comm_scopes c) ss) between m 0 (2 * stmts_nodes ss) no_code (stmts s (n + comm_scopes c) ss) h)
      (omega arith)
  one_branch s n (alt spread guard (timeout e p) ss) between m h =
      let c = timeout e p in
      more
      (a_branch s spread nothing (stmts_code s (n + comm_scopes c) ss) between m 0 (2 * stmts_nodes ss) no_code (stmts s (n + comm_scopes c) ss) h)
      (omega arith)
  one_branch s n (alt spread guard (terminate p) ss) between m h = more (further (unseen_code (stmts_code s n ss))) (omega arith)

  all_branches :
      (s : Site) (n : ℕ) (alts : AltTrees) (else_size m : ℕ) → else_size ≤ m → Within (branches_code s n alts else_size) m (alts_behind alts)
  all_branches s n no_alts else_size m h = no_code
  all_branches s n (more_alts a alts) else_size m h =
      let next = n + alt_scopes a in
      let rest = branches_code s next alts else_size in
      joined (one_branch s n a (rest.size + else_size) (rest.size + m) (omega (arith, h))) (all_branches s next alts else_size m h)
