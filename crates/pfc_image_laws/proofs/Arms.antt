-- How many alternatives of a select are open in the code of a phrase, wherever it is put.
use Rattle.std.proofs.Common.{◌≡◌, ℕ, ◌+◌, ◌-◌, ◌≤◌, Bool, true, false, List, [], ◌∷◌, ◌++◌, length, drop, max, Option, Some, None, cond, refl, sym, subst}
use Rattle.std.proofs.Common.{arith}
use Rattle.std.proofs.Math.Nat.{le-max_left, le-max_right}
use Rattle.pfc_tree.specs.Symbols.{Text}
use Rattle.pfc_tree.specs.trees.Exprs.{ExprTree}
use Rattle.pfc_tree.specs.trees.Stmts.{StmtTree, StmtTrees, CommTree, comm_accept, comm_send, comm_receive, timeout, terminate}
use Rattle.pfc_tree.specs.trees.Parts.{ProgramTree}
use Rattle.pfc_types.specs.Blocks.{module_at}
use Rattle.pfc_types.specs.declared.heads.SubHead.{SubHead}
use Rattle.pfc_types.specs.declared.heads.SubSort.{SubSort}
use Rattle.pfc_types.specs.declared.heads.SubSort.TheVariants.{Procedure, Guarded, Function}
use Rattle.pfc_semantics.specs.Displays.{Spot}
use Rattle.pfc_semantics.specs.Layouts.{sub_with}
use Rattle.pfc_semantics.specs.Objects.{module_number}
use Rattle.pfc_semantics.specs.Programs.{Program, Block, Guard, block_number, program_of}
use Rattle.pfc_semantics.specs.Remainders.{Replica, Alternative}
use Rattle.pfc_semantics.specs.Alternatives.{message_of, receiver_of}
use Rattle.pfc_code.specs.declared.instructions.Instr.{Instr}
use Rattle.pfc_code.specs.declared.instructions.Instr.TheVariants.{REF, ADDR, JF, GRD, REQ, NEW, ARMS, ARMR, ARMT}
use Rattle.pfc_translation.specs.Sites.{Site, context_of, blocks_of, refers, links_to, cell_of}
use Rattle.pfc_translation.specs.Codes.{Code, Lined, nothing, ◌⨾◌, one, over, back, string, unseen}
use Rattle.pfc_translation.specs.Addresses.{base_code}
use Rattle.pfc_translation.specs.Expressions.{call_instr, expr_code, object_code}
use Rattle.pfc_translation.specs.Calls.{enter_instr, resource_of}
use Rattle.pfc_translation.specs.Selects.{message_code, message_cells, receiver_code, receiver_cells, replica_code, comm_code, guarded_code, alternative_code}
use Rattle.pfc_translation.specs.Selects.{first_of, alternatives_code}
use Rattle.pfc_translation.specs.Statements.{sel_code, select_code, stmt_code, stmts_code}
use Rattle.pfc_translation.specs.Images.{instructions, site_in, guard_code, end_of, statements_code, body_code, Piece, a_body, an_initial, a_resource, pieces}
use Rattle.pfc_translation.specs.Images.{Coded, piece_code, resources_in, coded, strings_in, most_arms, before_main, of_main, size_of, put_from, image_over}
use Rattle.pfc_translation.specs.Images.{image_of}
use Rattle.pfc_image_laws.specs.Operands.{open_behind}
use Rattle.pfc_image_laws.specs.Instructions.{Opens}
use Rattle.pfc_image_laws.proofs.Phrases.{IsAlone, LeadsOn, LeadsBack, Reached, ElseWithin, expr, a_replica, an_object, a_message, a_receiver, stmt, stmts}

opens_append :
    (most before between behind : ℕ) (a b : Lined) → Opens most before between (instructions a) → Opens most between behind (instructions b)
    → Opens most before behind (instructions (a ++ b))
opens_append most before between behind [] b p q = subst (λ n. Opens most n behind (instructions b)) (sym p) q
opens_append most before between behind (i ∷ a) b p q = (p.0, opens_append most (open_behind i.0 before) between behind a b p.1 q)

-- ## What makes and takes no alternative

Quiet : Program → Block → ℕ → ℕ → Code → Type 0
Quiet g b m k c = (at n most h : ℕ) → h ≤ most → Opens most h h (instructions (c.put at n))

quiet_nothing : (g : Program) (b : Block) (m k : ℕ) → Quiet g b m k nothing
unfolding Quiet
quiet_nothing g b m k at n most h within = refl

quiet_joined : (g : Program) (b : Block) (m k : ℕ) (c d : Code) → Quiet g b m (d.size + k) c → Quiet g b (m + c.size) k d → Quiet g b m k (c ⨾ d)
unfolding Quiet
quiet_joined g b m k c d p q at n most h within =
    opens_append most h h h (c.put at n) (d.put (at + c.size) (n + length c.texts)) (p at n most h within)
    (q (at + c.size) (n + length c.texts) most h within)

-- one instruction
stays : (most h : ℕ) (i : Instr) → open_behind i h ≡ h → h ≤ most → Opens most h h (i ∷ [])
stays most h i e within = (subst (λ n. n ≤ most) (sym e) within, e)

quiet_one : (s : Site) (m k : ℕ) (i : Instr) → ((n : ℕ) → open_behind i n ≡ n) → Quiet s.program s.block m k (one s i)
unfolding Quiet
quiet_one s m k i e at n most h within = stays most h i (e h) within

quiet_alone : (s : Site) (m k : ℕ) (i : Instr) → IsAlone i → Quiet s.program s.block m k (one s i)
quiet_alone s m k i h = quiet_one s m k i h.1

quiet_base : (s : Site) (m k : ℕ) (v : Spot) → Quiet s.program s.block m k (base_code s v)
quiet_base s m k v = by (refers s v)
  where
    by : (r : Bool) → Quiet s.program s.block m k (one s (cond r (REF (links_to s v.scope) (cell_of s v)) (ADDR (links_to s v.scope) (cell_of s v))))
    by true = quiet_one s m k (REF (links_to s v.scope) (cell_of s v)) (λ n. refl)
    by false = quiet_one s m k (ADDR (links_to s v.scope) (cell_of s v)) (λ n. refl)

quiet_call : (s : Site) (m k : ℕ) (head : SubHead) → Quiet s.program s.block m k (one s (call_instr s head))
quiet_call s m k head = quiet_one s m k (call_instr s head) (λ n. refl)

quiet_enter :
    (s : Site) (m k n i : ℕ)
    → Quiet s.program s.block m k (one s (enter_instr (module_at (blocks_of s) n).resource (module_number (blocks_of s) n) (block_number s.program i)))
quiet_enter s m k n i = by (module_at (blocks_of s) n).resource (module_number (blocks_of s) n)
  where
    by : (r : Bool) (j : ℕ) → Quiet s.program s.block m k (one s (enter_instr r j (block_number s.program i)))
    by true j = quiet_one s m k (enter_instr true j (block_number s.program i)) (λ n. refl)
    by false j = quiet_one s m k (enter_instr false j (block_number s.program i)) (λ n. refl)

quiet_requeue : (s : Site) (m k i : ℕ) → Quiet s.program s.block m k (one s (REQ (resource_of s) (block_number s.program i)))
quiet_requeue s m k i = quiet_one s m k (REQ (resource_of s) (block_number s.program i)) (λ n. refl)

quiet_new : (s : Site) (m k i : ℕ) → Quiet s.program s.block m k (one s (NEW (block_number s.program i)))
quiet_new s m k i = quiet_one s m k (NEW (block_number s.program i)) (λ n. refl)

quiet_string : (s : Site) (m k : ℕ) (x : Text) (w : ℕ) → Quiet s.program s.block m k (string s x w)
unfolding Quiet
quiet_string s m k x w at n most h within = (within, refl)

quiet_over : (s : Site) (m k : ℕ) (f : ℕ → Instr) (count : ℕ) → LeadsOn f → count ≤ k → Quiet s.program s.block m k (over s f count)
unfolding Quiet
quiet_over s m k f count p far at n most h within = stays most h (f (at + 1 + count)) (p.1 (at + 1 + count) h) within

quiet_back : (s : Site) (m k : ℕ) (f : ℕ → Instr) (count : ℕ) → LeadsBack f → count ≤ m → Quiet s.program s.block m k (back s f count)
unfolding Quiet
quiet_back s m k f count p far at n most h within = stays most h (f (at - count)) ((p (at - count)).1 h) within

quiet_unseen : (g : Program) (b : Block) (m k : ℕ) (c : Code) → Quiet g b 0 0 c → Quiet g b m k (unseen c)
unfolding Quiet
quiet_unseen g b m k c p at n most h within = refl

quiet_expr : (s : Site) (e : ExprTree) (m k : ℕ) → Quiet s.program s.block m k (expr_code s e)
quiet_expr s e =
    expr Quiet quiet_nothing quiet_joined quiet_alone quiet_base quiet_call quiet_enter quiet_requeue quiet_new quiet_string quiet_over quiet_back
    quiet_unseen s e

quiet_replica : (s : Site) (r : Option Replica) (m k : ℕ) → Quiet s.program s.block m k (replica_code s r)
quiet_replica s r =
    a_replica Quiet quiet_nothing quiet_joined quiet_alone quiet_base quiet_call quiet_enter quiet_requeue quiet_new quiet_string quiet_over quiet_back
    quiet_unseen s r

-- ## The alternatives of a select

-- each makes one more
opens_comm :
    (s : Site) (n : ℕ) (c : CommTree) (branch at strings most h : ℕ) → h + 1 ≤ most
    → Opens most h (h + 1) (instructions ((comm_code s n c branch).put at strings))
unfolding Quiet
opens_comm s n (comm_accept a p) branch at strings most h within = (within, refl)
opens_comm s n (comm_send d e p) branch at strings most h within =
    let x = message_of (context_of s) e in
    let channel = object_code s d in
    let arm = over s (λ j. ARMS (message_cells s x) j) branch in
    let behind = at + channel.size in
    let number = strings + length channel.texts in
    opens_append most h h (h + 1) (channel.put at strings) ((message_code s x ⨾ arm).put behind number)
    (an_object Quiet quiet_nothing quiet_joined quiet_alone quiet_base quiet_call quiet_enter quiet_requeue quiet_new quiet_string quiet_over quiet_back
    quiet_unseen s d 0 0 at strings most h (omega (arith, within)))
    (opens_append most h h (h + 1) ((message_code s x).put behind number)
    (arm.put (behind + (message_code s x).size) (number + length (message_code s x).texts))
    (a_message Quiet quiet_nothing quiet_joined quiet_alone quiet_base quiet_call quiet_enter quiet_requeue quiet_new quiet_string quiet_over quiet_back
    quiet_unseen s x 0 0 behind number most h (omega (arith, within))) (within, refl))
opens_comm s n (comm_receive d v p) branch at strings most h within =
    let r = receiver_of (context_of s) v in
    let channel = object_code s d in
    let arm = over s (λ j. ARMR (receiver_cells s r) j) branch in
    let behind = at + channel.size in
    let number = strings + length channel.texts in
    opens_append most h h (h + 1) (channel.put at strings) ((receiver_code s r ⨾ arm).put behind number)
    (an_object Quiet quiet_nothing quiet_joined quiet_alone quiet_base quiet_call quiet_enter quiet_requeue quiet_new quiet_string quiet_over quiet_back
    quiet_unseen s d 0 0 at strings most h (omega (arith, within)))
    (opens_append most h h (h + 1) ((receiver_code s r).put behind number)
    (arm.put (behind + (receiver_code s r).size) (number + length (receiver_code s r).texts))
    (a_receiver Quiet quiet_nothing quiet_joined quiet_alone quiet_base quiet_call quiet_enter quiet_requeue quiet_new quiet_string quiet_over quiet_back
    quiet_unseen s r 0 0 behind number most h (omega (arith, within))) (within, refl))
opens_comm s n (timeout e p) branch at strings most h within =
    opens_append most h h (h + 1) ((expr_code s e).put at strings)
    ((over s ARMT branch).put (at + (expr_code s e).size) (strings + length (expr_code s e).texts))
    (quiet_expr s e 0 0 at strings most h (omega (arith, within))) (within, refl)
opens_comm s n (terminate p) branch at strings most h within = (within, refl)

opens_guarded :
    (s : Site) (guard : Option ExprTree) (inner : Code) (at strings most h : ℕ) → h + 1 ≤ most
    → ((a n : ℕ) → Opens most h (h + 1) (instructions (inner.put a n))) → Opens most h (h + 1) (instructions ((guarded_code s guard inner).put at strings))
unfolding Quiet
opens_guarded s None inner at strings most h within p = p at strings
opens_guarded s (Some e) inner at strings most h within p =
    let test = expr_code s e in
    let at_jump = at + test.size in
    let number = strings + length test.texts in
    opens_append most h h (h + 1) (test.put at strings) ((over s JF inner.size ⨾ inner).put at_jump number)
    (quiet_expr s e 0 0 at strings most h (omega (arith, within)))
    (opens_append most h h (h + 1) ((over s JF inner.size).put at_jump number) (inner.put (at_jump + 1) (number + 0)) (omega (arith, within), refl)
    (p (at_jump + 1) (number + 0)))

opens_alternative :
    (s : Site) (a : Alternative) (branch at strings most h : ℕ) → h + 1 ≤ most
    → Opens most h (h + 1) (instructions ((alternative_code s a branch).put at strings))
unfolding Quiet
opens_alternative s a branch at strings most h within =
    let write = replica_code s a.replica in
    let inner = comm_code s a.next a.comm branch in
    opens_append most h h (h + 1) (write.put at strings) ((guarded_code s a.guard inner).put (at + write.size) (strings + length write.texts))
    (quiet_replica s a.replica 0 0 at strings most h (omega (arith, within)))
    (opens_guarded s a.guard inner (at + write.size) (strings + length write.texts) most h within (λ j n. opens_comm s a.next a.comm branch j n most h within))

opens_alternatives :
    (s : Site) (alts : List Alternative) (ds : List ℕ) (at strings most h : ℕ) → h + length alts ≤ most
    → Opens most h (h + length alts) (instructions ((alternatives_code s alts ds).put at strings))
opens_alternatives s [] ds at strings most h within = omega arith
opens_alternatives s (a ∷ alts) ds at strings most h within =
    let rest = alternatives_code s alts (drop 1 ds) in
    let code = alternative_code s a (rest.size + 1 + first_of ds) in
    let further = rest.put (at + code.size) (strings + length code.texts) in
    opens_append most h (h + 1) (h + length (a ∷ alts)) (code.put at strings) further
    (opens_alternative s a (rest.size + 1 + first_of ds) at strings most h (omega (arith, within)))
    (subst (λ n. Opens most (h + 1) n (instructions further)) (omega arith)
    (opens_alternatives s alts (drop 1 ds) (at + code.size) (strings + length code.texts) most (h + 1) (omega (arith, within))))

-- ## Statements

Steady : Program → Block → ℕ → ℕ → Code → Type 0
Steady g b m k c = (at n most : ℕ) → c.arms ≤ most → Opens most 0 0 (instructions (c.put at n))

steady_quiet : (g : Program) (b : Block) (m k : ℕ) (c : Code) → Quiet g b m k c → Steady g b m k c
unfolding Quiet Steady
steady_quiet g b m k c q at n most within = q at n most 0 (omega arith)

steady_nothing : (g : Program) (b : Block) (m k : ℕ) → Steady g b m k nothing
steady_nothing g b m k = steady_quiet g b m k nothing (quiet_nothing g b m k)

steady_joined : (g : Program) (b : Block) (m k : ℕ) (c d : Code) → Steady g b m (d.size + k) c → Steady g b (m + c.size) k d → Steady g b m k (c ⨾ d)
unfolding Steady
steady_joined g b m k c d p q at n most within =
    opens_append most 0 0 0 (c.put at n) (d.put (at + c.size) (n + length c.texts))
    (p at n most (omega (arith, within, le-max_left c.arms d.arms)))
    (q (at + c.size) (n + length c.texts) most (omega (arith, within, le-max_right c.arms d.arms)))

steady_unseen : (g : Program) (b : Block) (m k : ℕ) (c : Code) → Steady g b 0 0 c → Steady g b m k (unseen c)
unfolding Steady
steady_unseen g b m k c p at n most within = refl

opens_decision :
    (s : Site) (pri : Bool) (x : Option ℕ) (at n most h : ℕ) → Opens most h 0 (instructions ((sel_code s pri x).put at n))
opens_decision s pri None at n most h = (omega arith, refl)
opens_decision s pri (Some count) at n most h = (omega arith, refl)

steady_select :
    (s : Site) (pri : Bool) (alts : List Alternative) (ds : List ℕ) (branches : Code) (else_at : Option ℕ) (otherwise : Code) (m k : ℕ)
    → Reached branches.size alts ds → ElseWithin else_at (branches.size + (otherwise.size + k))
    → ((j : ℕ) → Steady s.program s.block j (otherwise.size + k) branches) → ((j : ℕ) → Steady s.program s.block j k otherwise)
    → Steady s.program s.block m k (select_code s pri alts ds branches else_at otherwise)
unfolding Steady
steady_select s pri alts ds branches else_at otherwise m k h e p q at n most within =
    let found = alternatives_code s alts ds in
    let sel = sel_code s pri else_at in
    let behind = at + found.size in
    let number = n + length found.texts in
    let inner = max found.arms (max sel.arms (max branches.arms otherwise.arms)) in
    let all : max (length alts) inner ≤ most = within in
    let few : length alts ≤ most = omega (arith, all, le-max_left (length alts) inner) in
    let some : inner ≤ most = omega (arith, all, le-max_right (length alts) inner) in
    let tail : max sel.arms (max branches.arms otherwise.arms) ≤ most = omega
    (arith, some, le-max_right found.arms (max sel.arms (max branches.arms otherwise.arms))) in
    let last : max branches.arms otherwise.arms ≤ most = omega (arith, tail, le-max_right sel.arms (max branches.arms otherwise.arms)) in
    opens_append most 0 (0 + length alts) 0 (found.put at n) ((sel ⨾ branches ⨾ otherwise).put behind number)
    (opens_alternatives s alts ds at n most 0 (omega (arith, few)))
    (opens_append most (0 + length alts) 0 0 (sel.put behind number) ((branches ⨾ otherwise).put (behind + sel.size) (number + length sel.texts))
    (opens_decision s pri else_at behind number most (0 + length alts))
    (opens_append most 0 0 0 (branches.put (behind + sel.size) (number + length sel.texts))
    (otherwise.put (behind + sel.size + branches.size) (number + length sel.texts + length branches.texts))
    (p 0 (behind + sel.size) (number + length sel.texts) most (omega (arith, last, le-max_left branches.arms otherwise.arms)))
    (q 0 (behind + sel.size + branches.size) (number + length sel.texts + length branches.texts) most
    (omega (arith, last, le-max_right branches.arms otherwise.arms)))))

steady_alone : (s : Site) (m k : ℕ) (i : Instr) → IsAlone i → Steady s.program s.block m k (one s i)
steady_alone s m k i h = steady_quiet s.program s.block m k (one s i) (quiet_alone s m k i h)

steady_base : (s : Site) (m k : ℕ) (v : Spot) → Steady s.program s.block m k (base_code s v)
steady_base s m k v = steady_quiet s.program s.block m k (base_code s v) (quiet_base s m k v)

steady_call : (s : Site) (m k : ℕ) (head : SubHead) → Steady s.program s.block m k (one s (call_instr s head))
steady_call s m k head = steady_quiet s.program s.block m k (one s (call_instr s head)) (quiet_call s m k head)

steady_enter :
    (s : Site) (m k n i : ℕ)
    → Steady s.program s.block m k (one s (enter_instr (module_at (blocks_of s) n).resource (module_number (blocks_of s) n) (block_number s.program i)))
steady_enter s m k n i =
    steady_quiet s.program s.block m k
    (one s (enter_instr (module_at (blocks_of s) n).resource (module_number (blocks_of s) n) (block_number s.program i))) (quiet_enter s m k n i)

steady_requeue : (s : Site) (m k i : ℕ) → Steady s.program s.block m k (one s (REQ (resource_of s) (block_number s.program i)))
steady_requeue s m k i = steady_quiet s.program s.block m k (one s (REQ (resource_of s) (block_number s.program i))) (quiet_requeue s m k i)

steady_new : (s : Site) (m k i : ℕ) → Steady s.program s.block m k (one s (NEW (block_number s.program i)))
steady_new s m k i = steady_quiet s.program s.block m k (one s (NEW (block_number s.program i))) (quiet_new s m k i)

steady_string : (s : Site) (m k : ℕ) (x : Text) (w : ℕ) → Steady s.program s.block m k (string s x w)
steady_string s m k x w = steady_quiet s.program s.block m k (string s x w) (quiet_string s m k x w)

steady_over : (s : Site) (m k : ℕ) (f : ℕ → Instr) (count : ℕ) → LeadsOn f → count ≤ k → Steady s.program s.block m k (over s f count)
steady_over s m k f count p h = steady_quiet s.program s.block m k (over s f count) (quiet_over s m k f count p h)

steady_back : (s : Site) (m k : ℕ) (f : ℕ → Instr) (count : ℕ) → LeadsBack f → count ≤ m → Steady s.program s.block m k (back s f count)
steady_back s m k f count p h = steady_quiet s.program s.block m k (back s f count) (quiet_back s m k f count p h)

stmt_steady : (s : Site) (n : ℕ) (t : StmtTree) (m k : ℕ) → Steady s.program s.block m k (stmt_code s n t)
stmt_steady s n t =
    stmt Steady steady_nothing steady_joined steady_alone steady_base steady_call steady_enter steady_requeue steady_new steady_string steady_over
    steady_back steady_unseen steady_select s n t

stmts_steady : (s : Site) (n : ℕ) (ts : StmtTrees) (m k : ℕ) → Steady s.program s.block m k (stmts_code s n ts)
stmts_steady s n ts =
    stmts Steady steady_nothing steady_joined steady_alone steady_base steady_call steady_enter steady_requeue steady_new steady_string steady_over
    steady_back steady_unseen steady_select s n ts

pub stmt_opens : (s : Site) (n : ℕ) (t : StmtTree) (at strings : ℕ) → Opens (stmt_code s n t).arms 0 0 (instructions ((stmt_code s n t).put at strings))
unfolding Steady
stmt_opens s n t at strings = stmt_steady s n t 0 0 at strings (stmt_code s n t).arms (omega arith)

-- ## The image

end_stays : (head : Option SubHead) (n : ℕ) → open_behind (end_of head) n ≡ n
end_stays None n = refl
end_stays (Some head) n = by head.sort
  where
    by : (sort : SubSort) → open_behind (end_of (Some (record head { sort = sort }))) n ≡ n
    by Procedure = refl
    by Guarded = refl
    by (Function t) = refl

guard_steady : (g : Program) (b : Block) (guard : Option Guard) (m k : ℕ) → Steady g b m k (guard_code g b guard)
guard_steady g b None m k = steady_nothing g b m k
guard_steady g b (Some guard) m k =
    let s : Site = record { program = g; block = b; env = guard.env; line = guard.line } in
    let code = expr_code s guard.test ⨾ one s (GRD (resource_of s)) in
    steady_quiet g b m k code
    (quiet_joined g b m k (expr_code s guard.test) (one s (GRD (resource_of s))) (quiet_expr s guard.test m (1 + k))
    (quiet_one s (m + (expr_code s guard.test).size) k (GRD (resource_of s)) (λ n. refl)))

body_steady : (g : Program) (b : Block) → Steady g b 0 0 (body_code g b)
body_steady g b =
    let guard = guard_code g b b.guard in
    let inner = statements_code g b in
    let end = one (site_in g b) (end_of (sub_with g.state.blocks.subs b.scope)) in
    steady_joined g b 0 0 guard (inner ⨾ end) (guard_steady g b b.guard 0 ((inner ⨾ end).size + 0))
    (steady_joined g b (0 + guard.size) 0 inner end (stmts_steady (site_in g b) b.next b.stmts (0 + guard.size) (1 + 0))
    (steady_quiet g b (0 + guard.size + inner.size) 0 end
    (quiet_one (site_in g b) (0 + guard.size + inner.size) 0 (end_of (sub_with g.state.blocks.subs b.scope))
    (end_stays (sub_with g.state.blocks.subs b.scope)))))

opens_piece :
    (g : Program) (number : ℕ) (p : Piece) (at n most : ℕ) → (piece_code g number p).arms ≤ most → Opens most 0 0
    (instructions ((piece_code g number p).put at n))
unfolding Steady
opens_piece g number (a_body b) at n most within = body_steady g b at n most within
opens_piece g number (an_initial b) at n most within = stmts_steady (site_in g b) b.next b.stmts 0 0 at n most within
opens_piece g number (a_resource line) at n most within = (omega arith, refl)

arms_first : (g : Program) (number strings most : ℕ) (p : Piece) (ps : List Piece) → most_arms (coded g number strings (p ∷ ps)) ≤ most →
    (piece_code g number p).arms ≤ most
arms_first g number strings most p ps h =
    let code = piece_code g number p in
    let rest = most_arms (coded g (number + resources_in p) (strings + length code.texts) ps) in
    let all : max code.arms rest ≤ most = h in
    omega (arith, all, le-max_left code.arms rest)

arms_behind :
    (g : Program) (number strings most : ℕ) (p : Piece) (ps : List Piece) → most_arms (coded g number strings (p ∷ ps)) ≤ most
    → most_arms (coded g (number + resources_in p) (strings + length (piece_code g number p).texts) ps) ≤ most
arms_behind g number strings most p ps h =
    let code = piece_code g number p in
    let rest = most_arms (coded g (number + resources_in p) (strings + length code.texts) ps) in
    let all : max code.arms rest ≤ most = h in
    omega (arith, all, le-max_right code.arms rest)

opens_outer :
    (g : Program) (most : ℕ) (ps : List Piece) (at number strings : ℕ) → most_arms (coded g number strings ps) ≤ most
    → Opens most 0 0 (instructions (put_from at (before_main (coded g number strings ps))))
opens_outer g most [] at number strings h = refl
opens_outer g most (a_body b ∷ ps) at number strings h =
    let code = body_code g b in
    let further = before_main (coded g (number + 0) (strings + length code.texts) ps) in
    opens_append most 0 0 0 (code.put at strings) (put_from (at + code.size) further)
    (opens_piece g number (a_body b) at strings most (arms_first g number strings most (a_body b) ps h))
    (opens_outer g most ps (at + code.size) (number + 0) (strings + length code.texts) (arms_behind g number strings most (a_body b) ps h))
opens_outer g most (an_initial b ∷ ps) at number strings h =
    opens_outer g most ps at (number + 0) (strings + length (statements_code g b).texts) (arms_behind g number strings most (an_initial b) ps h)
opens_outer g most (a_resource line ∷ ps) at number strings h = (
  omega arith,
  opens_outer g most ps (at + 1) (number + 1) (strings + 0) (arms_behind g number strings most (a_resource line) ps h),
)

opens_inner :
    (g : Program) (most : ℕ) (main : Coded) (ps : List Piece) (at number strings : ℕ) → most_arms (coded g number strings ps) ≤ most
    → ((a : ℕ) → Opens most 0 0 (instructions (put_from a (main ∷ []))))
    → Opens most 0 0 (instructions (put_from at (of_main (coded g number strings ps) ++ main ∷ [])))
opens_inner g most main [] at number strings h rest = rest at
opens_inner g most main (a_body b ∷ ps) at number strings h rest =
    opens_inner g most main ps at (number + 0) (strings + length (body_code g b).texts) (arms_behind g number strings most (a_body b) ps h) rest
opens_inner g most main (a_resource line ∷ ps) at number strings h rest =
    opens_inner g most main ps at (number + 1) (strings + 0) (arms_behind g number strings most (a_resource line) ps h) rest
opens_inner g most main (an_initial b ∷ ps) at number strings h rest =
    let code = statements_code g b in
    let further = of_main (coded g (number + 0) (strings + length code.texts) ps) in
    opens_append most 0 0 0 (code.put at strings) (put_from (at + code.size) (further ++ main ∷ []))
    (opens_piece g number (an_initial b) at strings most (arms_first g number strings most (an_initial b) ps h))
    (opens_inner g most main ps (at + code.size) (number + 0) (strings + length code.texts) (arms_behind g number strings most (an_initial b) ps h) rest)

over_opens : (g : Program) (t : ProgramTree) → Opens (image_over g t).arms 0 0 (image_over g t).code
unfolding Steady
over_opens g t =
    let ps = pieces g.state 0 1 t.parts in
    let parts = coded g 0 0 ps in
    let n = length (strings_in parts) in
    let main : Coded = record { piece = a_body g.main; code = body_code g g.main; strings = n } in
    let most = max (most_arms parts) (body_code g g.main).arms in
    let at = size_of (before_main parts) in
    opens_append most 0 0 0 (put_from 0 (before_main parts)) (put_from at (of_main parts ++ main ∷ []))
    (opens_outer g most ps 0 0 0 (le-max_left (most_arms parts) (body_code g g.main).arms))
    (opens_inner g most main ps at 0 0 (le-max_left (most_arms parts) (body_code g g.main).arms)
    (λ a. opens_append most 0 0 0 ((body_code g g.main).put a n) []
    (body_steady g g.main a n most (le-max_right (most_arms parts) (body_code g g.main).arms)) refl))

pub image_opens : (t : ProgramTree) → Opens (image_of t).arms 0 0 (image_of t).code
image_opens t = over_opens (program_of t) t
