-- How many operands the code of a statement leaves: as many as before. And the alternatives of a select fit, one for each value of a
-- replicated one.
use Rattle.std.proofs.Common.{◌≡◌, ℕ, zero, suc, ◌+◌, ◌-◌, ℤ, pos, ◌+ℤ◌, Bool, true, false, if◌then◌else◌, List, [], ◌∷◌, ◌++◌, map, length, Option, Some, None}
use Rattle.std.proofs.Common.{refl}
use Rattle.std.specs.Prelude.{int_le}
use Rattle.pfc_code.specs.declared.instructions.Instr.{Instr}
use Rattle.pfc_code.specs.declared.instructions.Instr.TheVariants.{LIT, STORE, NOT, JMP, JF, TURN, FORB, FORW, FORT, CEQ, CERR, SEND, RECV, COEND, ACC, EACC}
use Rattle.pfc_code.specs.declared.instructions.Instr.TheVariants.{SEL}
use Rattle.pfc_tree.specs.declared.tree.Constant.{Constant}
use Rattle.pfc_tree.specs.declared.tree.Spread.{Spread}
use Rattle.pfc_tree.specs.trees.Exprs.{ExprTree}
use Rattle.pfc_tree.specs.trees.Stmts.{StmtTree, StmtTrees, ArmTrees, AcceptTree, AltTree, AltTrees, CommTree, empty, null, block, if_then, if_then_else}
use Rattle.pfc_tree.specs.trees.Stmts.{case_of, while_do, repeat_until, repeat_forever, for_do, cobegin, accepting, requeue, select, select_else, assign, send}
use Rattle.pfc_tree.specs.trees.Stmts.{receive, call, no_stmts, more_stmts, body, arm, no_arms, more_arms, accept, accept_do, alt, no_alts, more_alts}
use Rattle.pfc_tree.specs.trees.Stmts.{comm_accept, comm_send, comm_receive, timeout, terminate}
use Rattle.pfc_types.specs.Types.{extent}
use Rattle.pfc_types.specs.Scopes.{meaning_of}
use Rattle.pfc_types.specs.rules.Constants.{Ordinal, constant_value}
use Rattle.pfc_types.specs.rules.Expressions.{find}
use Rattle.pfc_types.specs.rules.Statements.{scopes_in, arm_scopes, comm_scopes, alt_scopes, alts_scopes}
use Rattle.pfc_semantics.specs.Displays.{Spot}
use Rattle.pfc_semantics.specs.Remainders.{Replica, Alternative}
use Rattle.pfc_semantics.specs.Expressions.{spot_of}
use Rattle.pfc_semantics.specs.Alternatives.{replicas_from, replicas_between, replicas_by, alternative, spread_out, alternatives, message_of, receiver_of}
use Rattle.pfc_translation.specs.Sites.{Site, at_line, in_accept, context_of, forms_of}
use Rattle.pfc_translation.specs.Codes.{Code, nothing, ◌⨾◌, instruction, one, over, back as to_back}
use Rattle.pfc_translation.specs.Addresses.{base_code}
use Rattle.pfc_translation.specs.Expressions.{expr_code}
use Rattle.pfc_translation.specs.Operands.{takes, leaves}
use Rattle.pfc_translation.specs.Selects.{message_cells, receiver_cells, entry_of, accept_cell, accept_cells, accept_code, replica_code, alternatives_code}
use Rattle.pfc_translation.specs.Statements.{label_of, labels_code, label_count, spread_replicas, chosen_code, sel_code, select_code, stmt_code, stmts_code}
use Rattle.pfc_translation.specs.Statements.{tests_code, arms_code, accepted_code, met_code, branch_code, branches_code, distances}
use Rattle.pfc_standing_code.specs.Shapes.{a_number, IsSound}
use Rattle.pfc_standing_code.specs.TypedStatements.{IsSimpleVariable, IsGuard, IsSpread, IsComm, AreAlternatives, IsTyped, AreTyped, AreArmsTyped}
use Rattle.pfc_standing_code.specs.TypedStatements.{IsAcceptTyped, IsMetTyped, IsAltTyped, AreAltsTyped}
use Rattle.pfc_following_expressions.proofs.Glue.{Changes, changes_both}
use Rattle.pfc_following_expressions.proofs.Held.{changes_one, changes_nothing, changes_as, base_changes, expr_changes}
use Rattle.pfc_following_statements.proofs.HeldCalls.{changes_instruction, number_over, assign_changes, requeue_changes, call_changes, send_changes}
use Rattle.pfc_following_statements.proofs.HeldCalls.{receive_changes, alternatives_change}

-- ## Alternatives

alternatives_joined : (s : Site) (xs ys : List Alternative) → AreAlternatives s xs → AreAlternatives s ys → AreAlternatives s (xs ++ ys)
alternatives_joined s [] ys h k = k
alternatives_joined s (a ∷ xs) ys h k = (h.0, alternatives_joined s xs ys h.1 k)

module _ (s : Site) (m : ℕ) (guard : Option ExprTree) (comm : CommTree) (ss : StmtTrees) (is : IsGuard s guard) (fits : IsComm s comm)
    (v : Spot) (simple : IsSimpleVariable s v) where
  values_from_fit : (line : ℕ) (low : ℤ) (n : ℕ) → AreAlternatives s (map (λ r. alternative m guard comm ss (Some r)) (replicas_from v line low n))
  values_from_fit line low zero = tt
  values_from_fit line low (suc n) = ((simple, is, fits), values_from_fit line (low +ℤ pos 1) n)

  values_between_fit : (line : ℕ) (low high : ℤ) → AreAlternatives s (map (λ r. alternative m guard comm ss (Some r)) (replicas_between v line low high))
  values_between_fit line low high = by (int_le low high)
    where
      by : (b : Bool) → AreAlternatives s (map (λ r. alternative m guard comm ss (Some r)) (if b then replicas_from v line low (extent low high) else []))
      by true = values_from_fit line low (extent low high)
      by false = tt

  values_fit : (line : ℕ) (low high : Option Ordinal) → AreAlternatives s (map (λ r. alternative m guard comm ss (Some r)) (replicas_by v line low high))
  values_fit line (Some low) (Some high) = values_between_fit line low.value high.value
  values_fit line None high = tt
  values_fit line (Some low) None = tt

spread_fits : (s : Site) (m : ℕ) (spread : Option Spread) (guard : Option ExprTree) (comm : CommTree) (ss : StmtTrees) → IsSpread s spread → IsGuard s guard →
    IsComm s comm → AreAlternatives s (spread_out (context_of s) m spread guard comm ss)
spread_fits s m None guard comm ss is g c = ((tt, g, c), tt)
spread_fits s m (Some r) guard comm ss is g c =
    values_fit s m guard comm ss g c (spot_of s.env (find s.env r.name)).spot is s.line
    (constant_value s.env.state.blocks.scopes s.env.view r.low) (constant_value s.env.state.blocks.scopes s.env.view r.high)

pub alternatives_fit : (s : Site) (m : ℕ) (alts : AltTrees) → AreAltsTyped s m alts → AreAlternatives s (alternatives (context_of s) m alts)
alternatives_fit s m no_alts is = tt
alternatives_fit s m (more_alts (alt spread guard comm ss) alts) is =
    alternatives_joined s (spread_out (context_of s) m spread guard comm ss) (alternatives (context_of s) (m + alt_scopes (alt spread guard comm ss)) alts)
    (spread_fits s m spread guard comm ss is.0.0 is.0.1 is.0.2) (alternatives_fit s (m + alt_scopes (alt spread guard comm ss)) alts is.1)

-- ## Statements

module _ (s : Site) where
  seq : (c d : Code) (i j k : ℕ) → Changes s.program c i j → Changes s.program d j k → Changes s.program (c ⨾ d) i k
  seq c d i j k h l = changes_both s.program c d i j k h l

  -- an instruction that takes and leaves nothing, and one that takes an operand
  idle : (i : ℕ → ℕ → Instr) → ((at n : ℕ) → takes s.program (i at n) ≡ 0) → ((at n : ℕ) → leaves s.program (i at n) ≡ 0) →
      Changes s.program (instruction s i) 0 0
  idle i t l = changes_instruction s.program s i 0 0 t l

  jump_changes : (count : ℕ) → Changes s.program (over s JMP count) 0 0
  jump_changes count = idle (λ at k. JMP (at + 1 + count)) (λ at k. refl) (λ at k. refl)

  test_changes : (count : ℕ) → Changes s.program (over s JF count) 1 0
  test_changes count = changes_instruction s.program s (λ at k. JF (at + 1 + count)) 1 0 (λ at k. refl) (λ at k. refl)

  turn_changes : (count : ℕ) → Changes s.program (to_back s TURN count) 0 0
  turn_changes count = idle (λ at k. TURN (at - count)) (λ at k. refl) (λ at k. refl)

  -- with an operand below
  over_one : (c : Code) → Changes s.program c 0 0 → Changes s.program c 1 1
  over_one c h = changes_as s.program c 0 0 1 1 1 h refl refl

  pub labels_change : (between : ℕ) (ls : List Constant) → Changes s.program (labels_code s between ls) 0 0
  labels_change between [] = changes_nothing s.program 0
  labels_change between (l ∷ ls) =
      let i = λ (at k : ℕ). CEQ (label_of (constant_value s.env.state.blocks.scopes s.env.view l)) (at + 1 + (length ls + between)) in
      seq (instruction s i) (labels_code s between ls) 0 0 0 (idle i (λ at k. refl) (λ at k. refl)) (labels_change between ls)

  -- the write of a value, and the jumps behind all of them
  written_changes : (r : Replica) → Changes s.program (replica_code s (Some r)) 0 0
  written_changes r =
      seq (base_code s r.at) (one s (LIT r.value) ⨾ one s (STORE 1)) 0 1 0 (base_changes s.program s r.at)
      (seq (one s (LIT r.value)) (one s (STORE 1)) 1 2 0 (changes_as s.program (one s (LIT r.value)) 0 1 1 1 2
      (changes_one s.program s (LIT r.value) 0 1 refl refl) refl refl) (changes_one s.program s (STORE 1) 2 0 refl refl))

  pub chosen_changes : (rs : List Replica) → Changes s.program (chosen_code s rs) 0 0
  chosen_changes [] = changes_nothing s.program 0
  chosen_changes (r ∷ rs) =
      let rest = chosen_code s rs in
      seq (replica_code s (Some r)) (over s JMP rest.size ⨾ rest) 0 0 0 (written_changes r)
      (seq (over s JMP rest.size) rest 0 0 0 (jump_changes rest.size) (chosen_changes rs))

  sel_changes : (pri : Bool) (count : Option ℕ) → Changes s.program (sel_code s pri count) 0 0
  sel_changes pri None = changes_one s.program s (SEL (if pri then 1 else 0) 0) 0 0 refl refl
  sel_changes pri (Some count) = idle (λ at k. SEL (if pri then 1 else 0) (at + 1 + count)) (λ at k. refl) (λ at k. refl)

select_changes :
    (s : Site) → IsSound (forms_of s) → (pri : Bool) (alts : List Alternative) (ds : List ℕ) (branches : Code) (else_at : Option ℕ) (otherwise : Code)
    → AreAlternatives s alts → Changes s.program branches 0 0 → Changes s.program otherwise 0 0 →
    Changes s.program (select_code s pri alts ds branches else_at otherwise) 0 0
select_changes s sound pri alts ds branches else_at otherwise are h k =
    seq s (alternatives_code s alts ds) (sel_code s pri else_at ⨾ branches ⨾ otherwise) 0 0 0 (alternatives_change s sound alts ds are)
    (seq s (sel_code s pri else_at) (branches ⨾ otherwise) 0 0 0 (sel_changes s pri else_at) (seq s branches otherwise 0 0 0 h k))

branch_changed :
    (s : Site) (n : ℕ) (spread : Option Spread) (comm : CommTree) (ss : StmtTrees) (between : ℕ) → Changes s.program (met_code s n comm) 0 0 →
    Changes s.program (stmts_code s (n + comm_scopes comm) ss) 0 0
    → Changes s.program (chosen_code s (spread_replicas s spread) ⨾ met_code s n comm ⨾ stmts_code s (n + comm_scopes comm) ss ⨾ over s JMP between) 0 0
branch_changed s n spread comm ss between met stmts =
    let last = stmts_code s (n + comm_scopes comm) ss ⨾ over s JMP between in
    seq s (chosen_code s (spread_replicas s spread)) (met_code s n comm ⨾ last) 0 0 0 (chosen_changes s (spread_replicas s spread))
    (seq s (met_code s n comm) last 0 0 0 met (seq s (stmts_code s (n + comm_scopes comm) ss) (over s JMP between) 0 0 0 stmts (jump_changes s between)))

mutual
  pub stmt_changes : (t : StmtTree) (s : Site) (n : ℕ) → IsSound (forms_of s) → IsTyped s n t → Changes s.program (stmt_code s n t) 0 0
  stmt_changes empty s n sound is = changes_nothing s.program 0
  stmt_changes (null p) s n sound is = changes_nothing s.program 0
  stmt_changes (block (body ss first last) p) s n sound is = stmts_change ss s n sound is
  stmt_changes (if_then e t p) s n sound is =
      let c = at_line s p.line in
      let yes = stmt_code c n t in
      seq c (expr_code c e) (over c JF yes.size ⨾ yes) 0 1 0 (expr_changes c sound e a_number is.0)
      (seq c (over c JF yes.size) yes 1 0 0 (test_changes c yes.size) (stmt_changes t c n sound is.1))
  stmt_changes (if_then_else e t u p) s n sound is =
      let c = at_line s p.line in
      let yes = stmt_code c n t in
      let no = stmt_code c (n + scopes_in t) u in
      let last = over c JMP no.size ⨾ no in
      seq c (expr_code c e) (over c JF (yes.size + 1) ⨾ yes ⨾ last) 0 1 0 (expr_changes c sound e a_number is.0)
      (seq c (over c JF (yes.size + 1)) (yes ⨾ last) 1 0 0 (test_changes c (yes.size + 1))
      (seq c yes last 0 0 0 (stmt_changes t c n sound is.1) (seq c (over c JMP no.size) no 0 0 0 (jump_changes c no.size)
      (stmt_changes u c (n + scopes_in t) sound is.2))))
  stmt_changes (case_of e arms last p) s n sound is =
      let c = at_line s p.line in
      seq c (expr_code c e) (tests_code c n 0 arms ⨾ one c CERR ⨾ arms_code c n arms) 0 1 0 (expr_changes c sound e a_number is.0)
      (seq c (tests_code c n 0 arms) (one c CERR ⨾ arms_code c n arms) 1 1 0 (over_one c (tests_code c n 0 arms) (tests_change arms c n 0))
      (seq c (one c CERR) (arms_code c n arms) 1 0 0 (changes_one c.program c CERR 1 0 refl refl) (arms_change arms c n sound is.1)))
  stmt_changes (while_do e t p) s n sound is =
      let c = at_line s p.line in
      let test = expr_code c e in
      let inner = stmt_code c n t in
      let turn = to_back c TURN (test.size + 1 + inner.size) in
      seq c test (over c JF (inner.size + 1) ⨾ inner ⨾ turn) 0 1 0 (expr_changes c sound e a_number is.0)
      (seq c (over c JF (inner.size + 1)) (inner ⨾ turn) 1 0 0 (test_changes c (inner.size + 1)) (seq c inner turn 0 0 0 (stmt_changes t c n sound is.1)
      (turn_changes c (test.size + 1 + inner.size))))
  stmt_changes (repeat_until ss e p) s n sound is =
      let c = at_line s p.line in
      let inner = stmts_code c n ss in
      let test = expr_code c e in
      let turn = to_back c TURN (inner.size + test.size + 2) in
      seq c inner (test ⨾ one c NOT ⨾ over c JF 1 ⨾ turn) 0 0 0 (stmts_change ss c n sound is.0)
      (seq c test (one c NOT ⨾ over c JF 1 ⨾ turn) 0 1 0 (expr_changes c sound e a_number is.1)
      (seq c (one c NOT) (over c JF 1 ⨾ turn) 1 1 0 (changes_one c.program c NOT 1 1 refl refl) (seq c (over c JF 1) turn 1 0 0 (test_changes c 1)
      (turn_changes c (inner.size + test.size + 2)))))
  stmt_changes (repeat_forever ss p) s n sound is =
      let c = at_line s p.line in
      let inner = stmts_code c n ss in
      seq c inner (to_back c TURN inner.size) 0 0 0 (stmts_change ss c n sound is) (turn_changes c inner.size)
  stmt_changes (for_do x a down b t p q) s n sound is =
      let c = at_line s p.line in
      let v = (spot_of c.env (find c.env x)).spot in
      let inner = stmt_code c n t in
      let d = if down then 1 else 0 in
      let i = λ (at k : ℕ). FORB d (at + 1 + (inner.size + 2)) in
      let j = λ (at k : ℕ). FORT d (at - (inner.size + 1)) in
      let last = inner ⨾ instruction c j in
      let pass = instruction c i ⨾ one c FORW ⨾ last in
      seq c (base_code c v) (expr_code c a ⨾ expr_code c b ⨾ pass) 0 1 0 (base_changes c.program c v)
      (seq c (expr_code c a) (expr_code c b ⨾ pass) 1 2 0 (number_over c sound a 1 is.1)
      (seq c (expr_code c b) pass 2 3 0 (number_over c sound b 2 is.2)
      (seq c (instruction c i) (one c FORW ⨾ last) 3 3 0 (changes_as c.program (instruction c i) 0 0 3 3 3 (idle c i (λ at k. refl) (λ at k. refl)) refl refl)
      (seq c (one c FORW) last 3 3 0 (changes_as c.program (one c FORW) 0 0 3 3 3 (changes_one c.program c FORW 0 0 refl refl) refl refl)
      (seq c inner (instruction c j) 3 3 0 (changes_as c.program inner 0 0 3 3 3 (stmt_changes t c n sound is.3) refl refl)
      (changes_instruction c.program c j 3 0 (λ at k. refl) (λ at k. refl)))))))
  stmt_changes (cobegin ss last p) s n sound is = seq s (stmts_code s n ss) (one (at_line s last.line) COEND) 0 0 0 (stmts_change ss s n sound is)
      (changes_one s.program (at_line s last.line) COEND 0 0 refl refl)
  stmt_changes (accepting a p) s n sound is =
      let c = at_line s p.line in
      seq c (accept_code c n a) (accepted_code c n a ⨾ one c EACC) 0 0 0
      (changes_one c.program c (ACC (entry_of c a) (accept_cell c n) (accept_cells c n)) 0 0 refl refl)
      (seq c (accepted_code c n a) (one c EACC) 0 0 0 (accepted_change a c n sound is) (changes_one c.program c EACC 0 0 refl refl))
  stmt_changes (requeue x args p) s n sound is = let c = at_line s p.line in requeue_changes c sound (meaning_of (find c.env x.0)) args is
  stmt_changes (select pri alts p q) s n sound is =
      let c = at_line s p.line in
      select_changes c sound pri (alternatives (context_of c) n alts) (distances c n 0 alts) (branches_code c n alts 0) None nothing
      (alternatives_fit c n alts is) (branches_change alts c n 0 sound is) (changes_nothing c.program 0)
  stmt_changes (select_else pri alts ss at p q) s n sound is =
      let c = at_line s p.line in
      let otherwise = stmts_code c (n + alts_scopes alts) ss in
      let branches = branches_code c n alts otherwise.size in
      select_changes c sound pri (alternatives (context_of c) n alts) (distances c n 0 alts) branches
      (Some branches.size) otherwise (alternatives_fit c n alts is.0)
      (branches_change alts c n otherwise.size sound is.0) (stmts_change ss c (n + alts_scopes alts) sound is.1)
  stmt_changes (assign d e p q) s n sound is = assign_changes (at_line s p.line) sound d e is
  stmt_changes (send d e p q) s n sound is =
      let c = at_line s p.line in let m =
      message_of (context_of c) e in send_changes c sound d m (λ at k. SEND (message_cells c m)) is (λ at k. refl) (λ at k. refl)
  stmt_changes (receive d v p q) s n sound is =
      let c = at_line s p.line in let r =
      receiver_of (context_of c) v in receive_changes c sound d r (λ at k. RECV (receiver_cells c r)) is (λ at k. refl) (λ at k. refl)
  stmt_changes (call d args p) s n sound is = call_changes (at_line s p.line) sound d args is

  pub stmts_change : (ts : StmtTrees) (s : Site) (n : ℕ) → IsSound (forms_of s) → AreTyped s n ts → Changes s.program (stmts_code s n ts) 0 0
  stmts_change no_stmts s n sound is = changes_nothing s.program 0
  stmts_change (more_stmts t ts) s n sound is =
      seq s (stmt_code s n t) (stmts_code s (n + scopes_in t) ts) 0 0 0 (stmt_changes t s n sound is.0) (stmts_change ts s (n + scopes_in t) sound is.1)

  pub tests_change : (arms : ArmTrees) (s : Site) (n from : ℕ) → Changes s.program (tests_code s n from arms) 0 0
  tests_change no_arms s n from = changes_nothing s.program 0
  tests_change (more_arms (arm ls t) arms) s n from =
      let between = label_count arms + 1 + from in
      let rest = tests_code s (n + arm_scopes (arm ls t)) (from + (stmt_code s n t).size + 1) arms in
      seq s (labels_code s between ls) rest 0 0 0 (labels_change s between ls)
      (tests_change arms s (n + arm_scopes (arm ls t)) (from + (stmt_code s n t).size + 1))

  pub arms_change : (arms : ArmTrees) (s : Site) (n : ℕ) → IsSound (forms_of s) → AreArmsTyped s n arms → Changes s.program (arms_code s n arms) 0 0
  arms_change no_arms s n sound is = changes_nothing s.program 0
  arms_change (more_arms (arm ls t) arms) s n sound is =
      let rest = arms_code s (n + arm_scopes (arm ls t)) arms in
      seq s (stmt_code s n t) (over s JMP rest.size ⨾ rest) 0 0 0 (stmt_changes t s n sound is.1)
      (seq s (over s JMP rest.size) rest 0 0 0 (jump_changes s rest.size) (arms_change arms s (n + arm_scopes (arm ls t)) sound is.2))

  pub accepted_change : (a : AcceptTree) (s : Site) (n : ℕ) → IsSound (forms_of s) → IsAcceptTyped s n a → Changes s.program (accepted_code s n a) 0 0
  accepted_change (accept x gs p) s n sound is = changes_nothing s.program 0
  accepted_change (accept_do x gs t p) s n sound is = stmt_changes t (in_accept s n) (n + 1) sound is.1

  pub met_change : (comm : CommTree) (s : Site) (n : ℕ) → IsSound (forms_of s) → IsMetTyped s n comm → Changes s.program (met_code s n comm) 0 0
  met_change (comm_accept a p) s n sound is = seq s (accepted_code s n a) (one (at_line s p.line) EACC) 0 0 0 (accepted_change a s n sound is)
      (changes_one s.program (at_line s p.line) EACC 0 0 refl refl)
  met_change (comm_send d e p) s n sound is = changes_nothing s.program 0
  met_change (comm_receive d v p) s n sound is = changes_nothing s.program 0
  met_change (timeout e p) s n sound is = changes_nothing s.program 0
  met_change (terminate p) s n sound is = changes_nothing s.program 0

  pub branch_changes : (a : AltTree) (s : Site) (n between : ℕ) → IsSound (forms_of s) → IsAltTyped s n a → Changes s.program (branch_code s n a between) 0 0
  branch_changes (alt spread guard (terminate p) ss) s n between sound is = λ at k held. refl
  branch_changes (alt spread guard (comm_accept a p) ss) s n between sound is =
      branch_changed s n spread (comm_accept a p) ss between (met_change (comm_accept a p) s n sound is.3)
      (stmts_change ss s (n + comm_scopes (comm_accept a p)) sound is.4)
  branch_changes (alt spread guard (comm_send d e p) ss) s n between sound is =
      branch_changed s n spread (comm_send d e p) ss between (changes_nothing s.program 0) (stmts_change ss s (n + comm_scopes (comm_send d e p)) sound is.4)
  branch_changes (alt spread guard (comm_receive d v p) ss) s n between sound is =
      branch_changed s n spread (comm_receive d v p) ss between (changes_nothing s.program 0)
      (stmts_change ss s (n + comm_scopes (comm_receive d v p)) sound is.4)
  branch_changes (alt spread guard (timeout e p) ss) s n between sound is = branch_changed s n spread (timeout e p) ss between (changes_nothing s.program 0)
      (stmts_change ss s (n + comm_scopes (timeout e p)) sound is.4)

  pub branches_change : (alts : AltTrees) (s : Site) (n else_size : ℕ) → IsSound (forms_of s) → AreAltsTyped s n alts →
      Changes s.program (branches_code s n alts else_size) 0 0
  branches_change no_alts s n else_size sound is = changes_nothing s.program 0
  branches_change (more_alts a alts) s n else_size sound is =
      let rest = branches_code s (n + alt_scopes a) alts else_size in
      seq s (branch_code s n a (rest.size + else_size)) rest 0 0 0 (branch_changes a s n (rest.size + else_size) sound is.0)
      (branches_change alts s (n + alt_scopes a) else_size sound is.1)
