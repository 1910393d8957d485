-- The alternatives of a select are gone through, up to its decision.
use Rattle.std.proofs.Common.{◌≡◌, ℕ, suc, ◌+◌, ◌<◌, ◌≤◌, ℤ, pos, Bool, if◌then◌else◌, List, [], ◌∷◌, length, drop, Option, Some, None, refl, sym, ap, ◌∙◌}
use Rattle.std.proofs.Common.{ap₂, subst, arith}
use Rattle.pfc_code.specs.declared.instructions.Instr.TheVariants.{LIT, STORE, JF, ARMS, ARMR, ARMA, ARMT, ARMX}
use Rattle.pfc_tree.specs.trees.Exprs.{ExprTree}
use Rattle.pfc_tree.specs.trees.Stmts.{StmtTrees, CommTree, accept, accept_do, comm_accept, comm_send, comm_receive, timeout, terminate}
use Rattle.pfc_types.specs.Types.{Forms}
use Rattle.pfc_types.specs.Scopes.{Level}
use Rattle.pfc_types.specs.rules.Statements.{comm_scopes}
use Rattle.pfc_types.specs.declared.view.Around.{Around}
use Rattle.pfc_semantics.specs.Values.{ordinal}
use Rattle.pfc_semantics.specs.Displays.{TypedSpot}
use Rattle.pfc_semantics.specs.Programs.{Block}
use Rattle.pfc_semantics.specs.Remainders.{Context, Replica, Accepting, Alternative, Selecting, Remainder, to_accept, to_end, offer_to, offer_from, offer_wait}
use Rattle.pfc_semantics.specs.Remainders.{open_if, go_through}
use Rattle.pfc_semantics.specs.Alternatives.{message_of, receiver_of, accepting_of, with_open, from_seconds, from_message, from_receiver, from_comm}
use Rattle.pfc_semantics.specs.Alternatives.{from_opened, from_guard, from_replica, from_alternatives}
use Rattle.pfc_translation.specs.Sites.{Site}
use Rattle.pfc_translation.specs.Codes.{Code, ◌⨾◌, one, over}
use Rattle.pfc_translation.specs.Addresses.{base_code}
use Rattle.pfc_translation.specs.Expressions.{expr_code, desig_code}
use Rattle.pfc_translation.specs.Selects.{message_code, message_cells, receiver_code, receiver_cells, accept_cell, accept_cells, entry_of, replica_code}
use Rattle.pfc_translation.specs.Selects.{comm_code, guarded_code, alternative_code, alternatives_code, first_of}
use Rattle.pfc_standing_code.specs.Shapes.{a_number, a_whole, shape_of, shape_cells, is_number}
use Rattle.pfc_standing_code.specs.Settings.{Setting, of_own, site_of, IsAt, Stands, arrived}
use Rattle.pfc_standing_code.specs.Effects.{Arm, LeadAhead}
use Rattle.pfc_standing_code.specs.TypedStatements.{IsReplica, IsGuard}
use Rattle.pfc_standing_code.specs.Words.{first_word, IsChecked}
use Rattle.pfc_standing_code.specs.Performs.{BranchAt, CommBranchAt, BranchesAt, DecidesAt, alternatives_size, SelectAt, CommAt, Performs}
use Rattle.pfc_standing_code.specs.Following.{of_value, Follows, arrives}
use Rattle.pfc_standing_code.proofs.Sizes.{sized_expr, sized_desig, sized_base, sized_replica, sized_alternative}
use Rattle.pfc_following_expressions.proofs.Glue.{Changes, changes_both, room_for, front, back, head, lone, tail, stands_moved}
use Rattle.pfc_following_expressions.proofs.Held.{held_grown, expr_changes, desig_changes, base_changes}
use Rattle.pfc_following_expressions.proofs.Moves.{fits, next_move, test_move}
use Rattle.pfc_following_expressions.proofs.Expressions.{env_in, whole_part, base_follows, object_follows}
use Rattle.pfc_following_expressions.proofs.Anywhere.{expression_follows, variable_follows}
use Rattle.pfc_following_statements.proofs.HeldCalls.{replica_changes, comm_changes, guarded_changes}
use Rattle.pfc_following_statements.proofs.Simple.{channel_is_object, object_parts}
use Rattle.pfc_following_source.specs.selects.Phrases.{Behind}
use Rattle.pfc_following_source.proofs.selects.Arms.{select_moved, OthersFollow, armed_follows, arm_at, seconds_armed, message_follows, receiver_follows}

-- how long the code of alternatives is does not hang on their branches
pub comm_size : (s : Site) (m : ℕ) (comm : CommTree) (i j : ℕ) → (comm_code s m comm i).size ≡ (comm_code s m comm j).size
comm_size s m (comm_accept a p) i j = refl
comm_size s m (comm_send d e p) i j = refl
comm_size s m (comm_receive d v p) i j = refl
comm_size s m (timeout e p) i j = refl
comm_size s m (terminate p) i j = refl

guarded_size : (s : Site) (guard : Option ExprTree) (one other : Code) → one.size ≡ other.size
    → (guarded_code s guard one).size ≡ (guarded_code s guard other).size
guarded_size s None one other e = e
guarded_size s (Some test) one other e = ap (λ (n : ℕ). (expr_code s test).size + (1 + n)) e

alternative_size : (s : Site) (a : Alternative) (i j : ℕ) → (alternative_code s a i).size ≡ (alternative_code s a j).size
alternative_size s a i j =
    ap (λ (n : ℕ). (replica_code s a.replica).size + n)
    (guarded_size s a.guard (comm_code s a.next a.comm i) (comm_code s a.next a.comm j) (comm_size s a.next a.comm i j))

alternatives_same : (s : Site) (alts : List Alternative) (ds es : List ℕ) → (alternatives_code s alts ds).size ≡ (alternatives_code s alts es).size
alternatives_same s [] ds es = refl
alternatives_same s (a ∷ rest) ds es =
    let one = (alternatives_code s rest (drop 1 ds)).size + 1 + first_of ds in
    let other = (alternatives_code s rest (drop 1 es)).size + 1 + first_of es in
    ap₂ (λ (m n : ℕ). m + n) (alternative_size s a one other) (alternatives_same s rest (drop 1 ds) (drop 1 es))

-- the same of what an alternative waits for, from another place on
comm_moved :
    (g : Setting) (s : Site) (x : Context) (at to above held : ℕ) (a : Alternative) (rest : List Alternative) (sel : Selecting) (arms : List Arm)
    (code : ℕ → Code) (P : ℕ → Type 0) → at ≡ to
    → CommAt g s x at above held a rest sel arms code P → CommAt g s x to above held a rest sel arms code P
comm_moved g s x at to above held a rest sel arms code P e h = subst (λ (y : ℕ). CommAt g s x y above held a rest sel arms code P) e h

abbrev alternative_of : Option Replica → Option ExprTree → CommTree → ℕ → StmtTrees → Alternative
alternative_of r guard comm m ts = record { replica = r; guard = guard; comm = comm; next = m; stmts = ts }

module _ (g : Setting) (b : Block) (names : List Level) (around : Around) (checked : IsChecked g b (env_in g names around)) (own : g.trial ≡ of_own)
    (line : ℕ) (k : Remainder) where
  abbrev x : Context
  x = record { env = env_in g names around; line = line }

  abbrev s : Site
  s = site_of g b x

  abbrev forms : Forms
  forms = g.program.state.forms

  abbrev Others : List Alternative → Type 0
  Others rest = OthersFollow g b names around checked own line k rest

  -- ## What an open alternative waits for

  accept_follows :
      (a : Alternative) (acc : Accepting) (rest : List Alternative) (sel : Selecting) (at to : ℕ) (ops : List ℤ) (arms : List Arm)
      → Others rest → IsAt g at (ARMA acc.entry (accept_cell s acc.scope) (accept_cells s acc.scope) to) line →
      length ops ≤ g.room → length arms + 1 + length rest ≤ g.arms → at + 1 + alternatives_size s rest < to
      → BranchAt g s to (length ops) a.replica (Some acc) (a.next + comm_scopes a.comm) a.stmts (Behind g b x ops k)
      → SelectAt g s x (at + 1) (length ops) rest sel arms (Behind g b x ops k)
      → Follows g (from_alternatives x rest (with_open a sel (to_accept acc)) k) at ops arms
  accept_follows a acc rest sel at to ops arms others is room few far branch there =
      let i = ARMA acc.entry (accept_cell s acc.scope) (accept_cells s acc.scope) to in
      armed_follows g b names around checked own line k a rest sel (to_accept acc) i at ops ops [] arms others is
      (fits g arms i ops (omega arith) tt tt) refl room few far (to, refl, refl, branch) there

  comm_follows :
      (r : Option Replica) (guard : Option ExprTree) (comm : CommTree) (m : ℕ) (ts : StmtTrees) (rest : List Alternative) (sel : Selecting)
      (at : ℕ) (ops : List ℤ) (arms : List Arm)
      → Others rest → CommAt g s x at (length ops) (length ops) (alternative_of r guard comm m ts) rest sel arms
      (λ between. comm_code s m comm between) (Behind g b x ops k)
      → Follows g (from_comm x comm (alternative_of r guard comm m ts) rest sel k (λ t. from_alternatives x rest t k)) at ops arms
  comm_follows r guard (comm_accept (accept y gs q) p) m ts rest sel at ops arms others c =
      accept_follows (alternative_of r guard (comm_accept (accept y gs q) p) m ts)
      (accepting_of x m (accept y gs q) p.line) rest sel at (at + 1 + c.between) ops arms others
      (lone g s (λ at n. ARMA (entry_of s (accept y gs q)) (accept_cell s m) (accept_cells s m) (at + 1 + c.between)) c.stands)
      (room_for g c.stands) c.room (let far = c.far in omega arith) c.branch c.others
  comm_follows r guard (comm_accept (accept_do y gs t q) p) m ts rest sel at ops arms others c =
      accept_follows (alternative_of r guard (comm_accept (accept_do y gs t q) p) m ts)
      (accepting_of x m (accept_do y gs t q) p.line) rest sel at (at + 1 + c.between) ops arms others
      (lone g s (λ at n. ARMA (entry_of s (accept_do y gs t q)) (accept_cell s m) (accept_cells s m) (at + 1 + c.between)) c.stands)
      (room_for g c.stands) c.room (let far = c.far in omega arith) c.branch c.others
  comm_follows r guard (comm_send d e p) m ts rest sel at ops arms others c =
      let a = alternative_of r guard (comm_send d e p) m ts in
      let few : length arms ≤ g.arms = (let all = c.room in omega arith) in
      let is = c.comm in
      let msg = message_of x e in
      let address = desig_code s d in
      let code = message_code s msg ⨾ over s (λ to. ARMS (message_cells s msg) to) c.between in
      let parts = object_parts g b names around checked (omega arith) own line address code at c.n (length ops) (sized_desig s d)
      (desig_changes s checked.sound d is.t is.channel) c.stands in
      let mid = at + address.size in
      let end : at + (address.size + 1 + ((message_code s msg).size + 1)) ≡ mid + 1 + ((message_code s msg).size + 1) = omega arith in
      let inner : CommAt g s x (mid + 1) (suc (length ops)) (length ops) a rest sel arms
      (λ between. message_code s msg ⨾ over s (λ to. ARMS (message_cells s msg) to) between) (Behind g b x ops k) =
      record {
        comm = c.comm;
        between = c.between;
        n = parts.i;
        stands = parts.behind;
        branch = subst (λ (y : ℕ). CommBranchAt g s x (y + c.between) (length ops) a a.comm (Behind g b x ops k)) end c.branch;
        others = select_moved g s x (at + (address.size + 1 + ((message_code s msg).size + 1))) (mid + 1 + ((message_code s msg).size + 1))
            (length ops) rest sel arms (Behind g b x ops k) end c.others;
        room = c.room;
        far = c.far;
      } in
      variable_follows g b x checked own arms few d is.t is.channel (offer_to msg a rest sel k) (λ v. tt)
      (λ channel. from_message x channel.spot msg a rest sel k
      (λ t. from_alternatives x rest t k)) at c.n ops parts.first
      (own, (is.u, is.carries, is.message, parts.obj, tt, inner))
      (λ l w lies.
      object_follows g b names around checked line arms few l.spot is.t w mid ops lies (channel_is_object forms is.t is.u is.carries) parts.obj parts.room
      (λ i object. message_follows g b names around checked own line k l.spot is.t is.u i msg a rest sel
      (mid + 1) ops arms others tt is.carries object is.message inner))
  comm_follows r guard (comm_receive d v p) m ts rest sel at ops arms others c =
      let a = alternative_of r guard (comm_receive d v p) m ts in
      let few : length arms ≤ g.arms = (let all = c.room in omega arith) in
      let is = c.comm in
      let target = receiver_of x v in
      let address = desig_code s d in
      let code = receiver_code s target ⨾ over s (λ to. ARMR (receiver_cells s target) to) c.between in
      let parts = object_parts g b names around checked (omega arith) own line address code at c.n (length ops) (sized_desig s d)
      (desig_changes s checked.sound d is.t is.channel) c.stands in
      let mid = at + address.size in
      let end : at + (address.size + 1 + ((receiver_code s target).size + 1)) ≡ mid + 1 + ((receiver_code s target).size + 1) = omega arith in
      let inner : CommAt g s x (mid + 1) (suc (length ops)) (length ops) a rest sel arms (λ between. receiver_code s target ⨾ over s
      (λ to. ARMR (receiver_cells s target) to) between) (Behind g b x ops k) =
      record {
        comm = c.comm;
        between = c.between;
        n = parts.i;
        stands = parts.behind;
        branch = subst (λ (y : ℕ). CommBranchAt g s x (y + c.between) (length ops) a a.comm (Behind g b x ops k)) end c.branch;
        others = select_moved g s x (at + (address.size + 1 + ((receiver_code s target).size + 1))) (mid + 1 + ((receiver_code s target).size + 1))
            (length ops) rest sel arms (Behind g b x ops k) end c.others;
        room = c.room;
        far = c.far;
      } in
      variable_follows g b x checked own arms few d is.t is.channel (offer_from target a rest sel k) (λ v. tt)
      (λ channel. from_receiver x channel.spot target a rest sel k
      (λ t. from_alternatives x rest t k)) at c.n ops parts.first
      (own, (is.u, is.carries, is.receiver, parts.obj, tt, inner))
      (λ l w lies.
      object_follows g b names around checked line arms few l.spot is.t w mid ops lies (channel_is_object forms is.t is.u is.carries) parts.obj parts.room
      (λ i object. receiver_follows g b names around checked own line k l.spot is.t is.u i target a rest sel
      (mid + 1) ops arms others tt is.carries object is.receiver inner))
  comm_follows r guard (timeout e p) m ts rest sel at ops arms others c =
      let a = alternative_of r guard (timeout e p) m ts in
      let few : length arms ≤ g.arms = (let all = c.room in omega arith) in
      let value = expr_code s e in
      let ar = arm_at g b names around checked own line k a rest sel arms (Behind g b x ops k) value ARMT at (length ops) (length ops) (suc (length ops))
      (λ to h. h) (sized_expr s e)
      (λ n. held_grown g.program value 1 (expr_changes s checked.sound e a_number c.comm) at n (length ops) ∙ omega arith) c in
      expression_follows g b x checked arms few e a_number c.comm (offer_wait a rest sel k)
      (from_seconds x a sel (λ t. from_alternatives x rest t k)) at c.n ops (front g value (over s ARMT c.between) c.stands)
      (own, (refl, ar))
      (λ v simple. seconds_armed g b names around checked own line k v a rest sel (at + value.size) ops arms others (room_for g c.stands) ar)
  comm_follows r guard (terminate p) m ts rest sel at ops arms others c =
      armed_follows g b names around checked own line k (alternative_of r guard (terminate p) m ts) rest sel to_end ARMX at ops ops [] arms others
      (lone g s (λ at n. ARMX) c.stands) (fits g arms ARMX ops (omega arith) tt tt) refl
      (room_for g c.stands) c.room tt (refl, refl) c.others

  -- ## Guards

  -- behind a guard's value: where it is false, on go the alternatives behind this one
  pub opened_follows :
      (v : ℤ) (a : Alternative) (rest : List Alternative) (sel : Selecting) (at to : ℕ) (ops : List ℤ) (arms : List Arm)
      → Others rest → IsAt g at (JF to) line → to ≡ at + 1 + (comm_code s a.next a.comm 0).size
      → CommAt g s x (at + 1) (length ops) (length ops) a rest sel arms (λ between. comm_code s a.next a.comm between) (Behind g b x ops k)
      → Follows g (from_opened x a rest sel k (λ t. from_alternatives x rest t k) (ordinal v)) at (v ∷ ops) arms
  opened_follows v a rest sel at to ops arms others is ends c =
      let few : length arms ≤ g.arms = (let all = c.room in omega arith) in
      let size = comm_size s a.next a.comm c.between 0 in
      let up : at < to = omega (arith, ends) in
      let end : at + 1 + (comm_code s a.next a.comm c.between).size ≡ to = omega (arith, ends, size) in
      test_move g arms few v (from_comm x a.comm a rest sel k (λ t. from_alternatives x rest t k))
      (from_alternatives x rest sel k) at ops to line is up (room_for g c.stands)
      (comm_follows a.replica a.guard a.comm a.next a.stmts rest sel (at + 1) ops arms others c)
      (others sel to ops arms few (select_moved g s x (at + 1 + (comm_code s a.next a.comm c.between).size) to
      (length ops) rest sel arms (Behind g b x ops k) end c.others))

  pub opening_follows :
      (guard : Option ExprTree) (a : Alternative) (rest : List Alternative) (sel : Selecting) (at : ℕ) (ops : List ℤ) (arms : List Arm)
      → Others rest → IsGuard s guard
      → CommAt g s x at (length ops) (length ops) a rest sel arms (λ between. guarded_code s guard (comm_code s a.next a.comm between)) (Behind g b x ops k)
      → Follows g (from_guard x guard a rest sel k (λ t. from_alternatives x rest t k)) at ops arms
  opening_follows None a rest sel at ops arms others is c = comm_follows a.replica a.guard a.comm a.next a.stmts rest sel at ops arms others c
  opening_follows (Some e) a rest sel at ops arms others is c =
      let few : length arms ≤ g.arms = (let all = c.room in omega arith) in
      let test = expr_code s e in
      let inner = comm_code s a.next a.comm c.between in
      let mid = at + test.size in
      let i = c.n + length test.texts in
      let out = mid + 1 + inner.size in
      let behind = back g test (over s JF inner.size ⨾ inner) (suc (length ops)) (sized_expr s e)
      (held_grown g.program test 1 (expr_changes s checked.sound e a_number is) at c.n (length ops) ∙ omega arith) c.stands in
      let third = tail g s (λ at n. JF (at + 1 + inner.size)) inner (length ops) (omega arith) behind in
      let is_test = head g s (λ at n. JF (at + 1 + inner.size)) inner behind in
      let end : at + (test.size + (1 + inner.size)) ≡ out = omega arith in
      let size = comm_size s a.next a.comm c.between 0 in
      let ends : out ≡ mid + 1 + (comm_code s a.next a.comm 0).size = omega (arith, size) in
      let open_at : CommAt g s x (mid + 1) (length ops) (length ops) a rest sel arms (λ between. comm_code s a.next a.comm between) (Behind g b x ops k) =
      record {
        comm = c.comm;
        between = c.between;
        n = i + 0;
        stands = third;
        branch = subst (λ (y : ℕ). CommBranchAt g s x (y + c.between) (length ops) a a.comm (Behind g b x ops k)) end c.branch;
        others = select_moved g s x (at + (test.size + (1 + inner.size))) out (length ops) rest sel arms (Behind g b x ops k) end c.others;
        room = c.room;
        far = c.far;
      } in
      expression_follows g b x checked arms few e a_number is (open_if a rest sel k) (from_opened x a rest sel k (λ t. from_alternatives x rest t k)) at c.n ops
      (front g test (over s JF inner.size ⨾ inner) c.stands)
      (own, (refl, out, is_test, ends, open_at))
      (λ v simple. opened_follows v a rest sel mid out ops arms others is_test ends open_at)

  -- ## Replicated ones

  -- the write of the variable comes before the guard
  replica_follows :
      (r : Option Replica) (a : Alternative) (rest : List Alternative) (sel : Selecting) (at n : ℕ) (ops : List ℤ) (arms : List Arm)
      → Others rest → length arms ≤ g.arms → IsReplica s r → IsGuard s a.guard → Stands g at n (length ops) (replica_code s r)
      → CommAt g s x (at + (replica_code s r).size) (length ops) (length ops) a rest sel arms
      (λ between. guarded_code s a.guard (comm_code s a.next a.comm between)) (Behind g b x ops k)
      → Follows g (from_replica x r a rest sel k (λ t. from_alternatives x rest t k)) at ops arms
  replica_follows None a rest sel at n ops arms others few is guard st c =
      opening_follows a.guard a rest sel at ops arms others guard
      (comm_moved g s x (at + 0) at (length ops) (length ops) a rest sel arms
      (λ between. guarded_code s a.guard (comm_code s a.next a.comm between)) (Behind g b x ops k) (omega arith) c)
  replica_follows (Some r) a rest sel at n ops arms others few is guard st c =
      let v : TypedSpot = record { spot = r.at; t = Some is.0 } in
      let base = base_code s v.spot in
      let w = pos (first_word g.view s v.spot) in
      let last = one s (LIT r.value) ⨾ one s (STORE 1) in
      let behind = back g base last (suc (length ops)) (sized_base s v.spot) (held_grown g.program base 1 (base_changes g.program s v.spot) at n (length ops) ∙
      omega arith) st in
      let third = tail g s (λ at n. LIT r.value) (one s (STORE 1)) (suc (suc (length ops))) (omega arith) behind in
      let stores = lone g s (λ at n. STORE 1) third in
      let cells : 1 ≡ shape_cells forms (shape_of is.0) = ap (λ (simple : Bool). shape_cells forms (if simple then a_number else a_whole is.0)) (sym is.1) in
      let store : IsAt g (at + 1 + 1) (STORE (shape_cells forms (shape_of is.0))) line = subst (λ (y : ℕ). IsAt g (at + 1 + 1) (STORE y) line) cells stores in
      let end : at + (1 + (1 + 1)) ≡ at + 1 + 1 + 1 = omega arith in
      let to = at + 1 + 1 + 1 in
      let left : Performs g b (env_in g names around) to ops arms (go_through line a rest sel k) = (
        own,
        (
          to,
          arrived to,
          (
            guard,
            comm_moved g s x (at + (1 + (1 + 1))) to (length ops) (length ops) a rest sel arms
                (λ between. guarded_code s a.guard (comm_code s a.next a.comm between)) (Behind g b x ops k) end c,
          ),
        ),
      ) in
      base_follows g b names around checked line arms few v at n ops is.2 (front g base last st)
      (next_move g arms few (at + 1) (w ∷ ops) (LIT r.value) line (r.value ∷ w ∷ ops) (head g s (λ at n. LIT r.value) (one s (STORE 1)) behind)
      (fits g arms (LIT r.value) (w ∷ ops) (omega arith) tt tt) refl (room_for g third)
      (arrives (at + 1 + 1) (r.value ∷ w ∷ ops) arms
      (b, checked, (own, of_value is.0 w ops refl (is_number is.0 r.value is.1) (whole_part g b names around checked line arms few v is.2) store left))))

  -- ## All of them

  pub all_follow : (alts : List Alternative) → Others alts
  all_follow [] sel at ops arms few h =
      let code = h.left in
      let at_decision : DecidesAt g s at (length ops) sel.pri sel.otherwise (Behind g b x ops k) =
      subst (λ (y : ℕ). DecidesAt g s y (length ops) sel.pri sel.otherwise (Behind g b x ops k)) (by at) code.decision in
      arrives at ops arms (b, checked, (own, (at_decision, h.open_ones, subst (λ (y : ℕ). LeadAhead y arms) (by at) h.ahead)))
    where
      by : (n : ℕ) → n + 0 ≡ n
      by n = omega arith
  all_follow (a ∷ rest) sel at ops arms few h =
      let left = h.left in
      let ds = left.distances in
      let behind = alternatives_code s rest (drop 1 ds) in
      let between = behind.size + 1 + first_of ds in
      let written = replica_code s a.replica in
      let inner = comm_code s a.next a.comm between in
      let guarded = guarded_code s a.guard inner in
      let one_code = alternative_code s a between in
      let is = left.typed.0 in
      let all = h.room in
      let P = Behind g b x ops k in
      let changes_guarded : Changes g.program guarded 0 0 =
      guarded_changes s checked.sound a.guard inner is.1 (comm_changes s checked.sound a.next a.comm between is.2) in
      let changes_one : Changes g.program one_code 0 0 =
      changes_both g.program written guarded 0 0 0 (replica_changes s checked.sound a.replica) changes_guarded in
      let first = front g one_code behind left.code in
      let last = back g one_code behind (length ops) (sized_alternative s a between) (held_grown g.program one_code 0 changes_one at left.n
      (length ops) ∙ omega arith) left.code in
      let mid = at + written.size in
      let opening = back g written guarded (length ops) (sized_replica s a.replica)
      (held_grown g.program written 0 (replica_changes s checked.sound a.replica) at left.n (length ops) ∙ omega arith) first in
      let next : at + one_code.size ≡ mid + guarded.size = omega arith in
      let decides : at + (one_code.size + behind.size) ≡ mid + guarded.size + behind.size = omega arith in
      let branch : at + (one_code.size + behind.size) + 1 + first_of ds ≡ mid + guarded.size + between = omega arith in
      let same_rest : behind.size ≡ alternatives_size s rest = alternatives_same s rest (drop 1 ds) [] in
      let same_one : one_code.size ≡ (alternative_code s a ((alternatives_code s rest []).size + 1 + 0)).size = alternative_size s a between _ in
      let ahead : at + alternatives_size s (a ∷ rest) ≡ mid + guarded.size + alternatives_size s rest = omega (arith, same_one) in
      let others : SelectAt g s x (mid + guarded.size) (length ops) rest sel arms P =
      record {
        left = record {
          typed = left.typed.1;
          distances = drop 1 ds;
          n = left.n + length one_code.texts;
          code = stands_moved g (mid + guarded.size) next last;
          decision = subst (λ (y : ℕ). DecidesAt g s y (length ops) sel.pri sel.otherwise P) decides left.decision;
          branches = subst (λ (y : ℕ). BranchesAt g s x (y + 1) (length ops) rest (drop 1 ds) P) decides left.branches.1;
        };
        open_ones = h.open_ones;
        room = omega arith;
        ahead = subst (λ (y : ℕ). LeadAhead y arms) ahead h.ahead;
        end = h.end;
        left_behind = h.left_behind;
      } in
      let c : CommAt g s x mid (length ops) (length ops) a rest sel arms (λ between. guarded_code s a.guard (comm_code s a.next a.comm between)) P =
      record {
        comm = is.2;
        between = between;
        n = left.n + length written.texts;
        stands = opening;
        branch = subst (λ (y : ℕ). CommBranchAt g s x y (length ops) a a.comm P) branch left.branches.0;
        others = others;
        room = omega arith;
        far = omega (arith, same_rest);
      } in
      replica_follows a.replica a rest sel at left.n ops arms (all_follow rest) few is.0 is.1 (front g written guarded first) c
