-- The code of the alternatives of a select adds few numbers. A replicated alternative has a copy of its code for each value, but each copy
-- begins with an action, so behind it there are no more than in one copy.
use Rattle.std.proofs.Common.{◌≡◌, ℕ, suc, ◌+◌, ◌-◌, ◌*◌, ◌≤◌, Bool, true, false, List, [], ◌∷◌, ◌++◌, map, get_or, drop, Option, Some, None, cond, refl, sym}
use Rattle.std.proofs.Common.{◌∙◌, subst, arith, length, if◌then◌else◌}
use Rattle.pfc_tree.specs.declared.tree.Spread.{Spread}
use Rattle.pfc_tree.specs.trees.Exprs.{ExprTree}
use Rattle.pfc_tree.specs.trees.Stmts.{StmtTrees, AltTrees, CommTree, alt, no_alts, more_alts, comm_accept, comm_send, comm_receive, timeout}
use Rattle.pfc_tree.specs.trees.Stmts.{terminate}
use Rattle.pfc_types.specs.rules.Statements.{alt_scopes}
use Rattle.pfc_semantics.specs.Remainders.{Replica, Alternative}
use Rattle.pfc_semantics.specs.Alternatives.{message_of, receiver_of, replicas, alternative, alternatives}
use Rattle.pfc_code.specs.declared.instructions.Instr.TheVariants.{ADDR, REF, LIT, STORE, JMP, JF, ARMS, ARMR, ARMA, ARMT, ARMX, SEL}
use Rattle.pfc_translation.specs.Sites.{Site, context_of, refers, links_to, cell_of}
use Rattle.pfc_translation.specs.Codes.{Code, nothing, ◌⨾◌, one, over}
use Rattle.pfc_translation.specs.Images.{instructions}
use Rattle.pfc_translation.specs.Selects.{message_cells, receiver_cells, entry_of, accept_cell, accept_cells, replica_code, comm_code, guarded_code}
use Rattle.pfc_translation.specs.Selects.{first_of, alternatives_code}
use Rattle.pfc_translation.specs.Statements.{chosen_code, sel_code}
use Rattle.pfc_step_laws.specs.Nodes.{accept_nodes, guard_nodes, comm_nodes}
use Rattle.pfc_step_laws.proofs.Ahead.{ahead}
use Rattle.pfc_step_laws.proofs.Short.{Low, low_cons, ahead_append, ahead_keeps, Short, more, before, no_code, joined, counted, stopped, leading, jumping, both}
use Rattle.pfc_step_laws.proofs.Short.{lone}
use Rattle.pfc_step_laws.proofs.Expressions.{inside_is, base, expr, an_object}
use Rattle.pfc_step_laws.proofs.Calls.{a_message, a_receiver}

-- ## One alternative

-- what stands before the decision, and in the branch behind it, of what an alternative waits for
abbrev pub comm_before : CommTree → ℕ
comm_before (comm_accept a p) = 1
comm_before (comm_send d e p) = 2 * comm_nodes (comm_send d e p)
comm_before (comm_receive d v p) = 2 * comm_nodes (comm_receive d v p)
comm_before (timeout e p) = 2 * comm_nodes (timeout e p)
comm_before (terminate p) = 1

abbrev pub comm_behind : CommTree → ℕ
comm_behind (comm_accept a p) = 2 * accept_nodes a
comm_behind c = 0

communication : (s : Site) (n : ℕ) (c : CommTree) (branch : ℕ) → Short (comm_code s n c branch) (comm_before c)
communication s n (comm_accept a p) branch =
    counted s (λ at k. ARMA (entry_of s a) (accept_cell s n) (accept_cells s n) (at + 1 + branch)) 0 (λ at k. refl)
communication s n (comm_send d e p) branch =
    let room = inside_is e in
    more
    (both (an_object s d)
    (both (a_message s e) (counted s (λ at k. ARMS (message_cells s (message_of (context_of s) e)) (at + 1 + branch)) 0 (λ at k. refl))))
    (omega (arith, room))
communication s n (comm_receive d v p) branch =
    more
    (both (an_object s d)
    (both (a_receiver s v) (counted s (λ at k. ARMR (receiver_cells s (receiver_of (context_of s) v)) (at + 1 + branch)) 0 (λ at k. refl))))
    (omega arith)
communication s n (timeout e p) branch =
    let room = inside_is e in more (both (expr s e) (counted s (λ at k. ARMT (at + 1 + branch)) 0 (λ at k. refl))) (omega (arith, room))
communication s n (terminate p) branch = lone s ARMX refl

a_guard : (s : Site) (guard : Option ExprTree) (inner : Code) (k : ℕ) → Short inner k → Short (guarded_code s guard inner) (2 * guard_nodes guard + k)
a_guard s None inner k p = more p (omega arith)
a_guard s (Some e) inner k p =
    let room = inside_is e in
    more (both (expr s e) (joined (leading s JF inner.size (inner.size + 0) (λ a at rest. omega arith) (omega arith)) p)) (omega (arith, room))

-- the guard and what it waits for
opened : (s : Site) (n : ℕ) (guard : Option ExprTree) (c : CommTree) (branch : ℕ) → Short (guarded_code s guard (comm_code s n c branch))
    (2 * guard_nodes guard + comm_before c)
opened s n guard c branch = a_guard s guard (comm_code s n c branch) (comm_before c) (communication s n c branch)

-- ## Copies

-- a value is written by three instructions, of which the last is an action
written :
    (s : Site) (r : Replica) (at n : ℕ) (behind : List ℕ)
    → ahead at (instructions ((replica_code s (Some r)).put at n)) behind ≡ 2 ∷ (1 ∷ (0 ∷ behind))
written s r at n behind = by (refers s r.at)
  where
    by : (reference : Bool)
        → ahead at
        (instructions
        ((one s (cond reference (REF (links_to s r.at.scope) (cell_of s r.at)) (ADDR (links_to s r.at.scope) (cell_of s r.at)))
        ⨾ one s (LIT r.value) ⨾ one s (STORE 1)).put at n)) behind ≡ 2 ∷ (1 ∷ (0 ∷ behind))
    by true = refl
    by false = refl

written_low : (behind : List ℕ) (m most : ℕ) → 2 ≤ most → Low behind m most → Low (2 ∷ (1 ∷ (0 ∷ behind))) (3 + m) most
written_low behind m most h p i g =
    low_cons 2 (1 ∷ (0 ∷ behind)) (1 + (1 + m)) most h
    (low_cons 1 (0 ∷ behind) (1 + m) most (omega (arith, h)) (low_cons 0 behind m most (omega arith) p)) i (omega (arith, g))

-- copies of code, one behind the other: of the first instruction it is known better how many are ahead
record Copies (c : Code) (j k : ℕ) : Type 0 where
  own : Short c k
  first : (at n most : ℕ) (behind : List ℕ) → get_or behind 0 0 ≤ most → get_or (ahead at (instructions (c.put at n)) behind) 0 0 ≤ most + j

a_replica : (s : Site) (r : Replica) → Short (replica_code s (Some r)) 2
a_replica s r = both (base s r.at) (both (lone s (LIT r.value) refl) (stopped s (STORE 1) 0 refl))

one_more :
    (s : Site) (r : Replica) (inner d : Code) (j k : ℕ) → Short inner k → Copies d (2 + j) (2 + j + k)
    → Copies ((replica_code s (Some r) ⨾ inner) ⨾ d) (2 + j) (2 + j + k)
one_more s r inner d j k p q = record {
  own = record {
    sized = (both (both (a_replica s r) p) q.own).sized;
    low = λ at n most behind h.
        let next = rest at n behind in
        let last = q.first (last_at at) (last_number n) most behind (h 0 (omega arith)) in
        let low_behind = q.own.low (last_at at) (last_number n) most behind h in
        let low_inner = before p (at + write.size) (n + length write.texts) (most + (2 + j)) (most + (2 + j + k)) (d.size + 0) next last (omega arith)
        low_behind in
        subst (λ (xs : List ℕ). Low xs (write.size + inner.size + d.size + 0) (most + (2 + j + k))) (sym (found at n behind))
        (λ i g. written_low (inner_ahead at n behind) (inner.size + (d.size + 0)) (most + (2 + j + k)) (omega arith) low_inner i (omega (arith, g)));
  };
  first = λ at n most behind h. subst (λ (xs : List ℕ). get_or xs 0 0 ≤ most + (2 + j)) (sym (found at n behind)) (omega arith);
}
  where
    write : Code
    write = replica_code s (Some r)

    last_at : ℕ → ℕ
    last_at at = at + (write.size + inner.size)

    last_number : ℕ → ℕ
    last_number n = n + length (write ⨾ inner).texts

    rest : ℕ → ℕ → List ℕ → List ℕ
    rest at n behind = ahead (last_at at) (instructions (d.put (last_at at) (last_number n))) behind

    inner_ahead : ℕ → ℕ → List ℕ → List ℕ
    inner_ahead at n behind = ahead (at + write.size) (instructions (inner.put (at + write.size) (n + length write.texts))) (rest at n behind)

    found :
        (at n : ℕ) (behind : List ℕ)
        → ahead at (instructions (((write ⨾ inner) ⨾ d).put at n)) behind ≡ 2 ∷ (1 ∷ (0 ∷ inner_ahead at n behind))
    found at n behind =
        let w = write.put at n in
        let i = inner.put (at + write.size) (n + length write.texts) in
        let size = (both (a_replica s r) p).sized at n in
        let size_first = (a_replica s r).sized at n in
        ahead_append at (last_at at) (w ++ i) (d.put (last_at at) (last_number n)) behind (omega (arith, size))
        ∙ ahead_append at (at + write.size) w i (rest at n behind) (omega (arith, size_first))
        ∙ written s r at n (inner_ahead at n behind)

-- all copies of an alternative
copies :
    (s : Site) (n : ℕ) (guard : Option ExprTree) (c : CommTree) (ss : StmtTrees) (rs : List Replica) (alts : List Alternative) (ds : List ℕ) (j : ℕ)
    → ((es : List ℕ) → Short (alternatives_code s alts es) j)
    → Copies (alternatives_code s (map (λ r. alternative n guard c ss (Some r)) rs ++ alts) ds) (2 + j) (2 + j + (2 * guard_nodes guard + comm_before c))
copies s n guard c ss [] alts ds j h = record {
  own = more (h ds) (omega arith);
  first = λ at k most behind p.
      let it = (h ds).low at k most behind (λ i g. subst (λ (x : ℕ). get_or behind x 0 ≤ most) (omega (arith, g)) p) 0 (omega arith) in
      omega (arith, it);
}
copies s n guard c ss (r ∷ rs) alts ds j h =
    let rest = alternatives_code s (map (λ q. alternative n guard c ss (Some q)) rs ++ alts) (drop 1 ds) in
    let branch = rest.size + 1 + first_of ds in
    one_more s r (guarded_code s guard (comm_code s n c branch)) rest j (2 * guard_nodes guard + comm_before c) (opened s n guard c branch)
    (copies s n guard c ss rs alts (drop 1 ds) j h)

-- ## All alternatives

-- what a spread adds, to the alternatives and to the branches
abbrev pub spread_adds : Option Spread → ℕ
spread_adds None = 0
spread_adds (Some s) = 2

abbrev pub alts_before : AltTrees → ℕ
alts_before no_alts = 0
alts_before (more_alts (alt spread guard c ss) alts) = spread_adds spread + 2 * guard_nodes guard + comm_before c + alts_before alts

pub all_alternatives :
    (s : Site) (n : ℕ) (alts : AltTrees) (ds : List ℕ) → Short (alternatives_code s (alternatives (context_of s) n alts) ds) (alts_before alts)
all_alternatives s n no_alts ds = no_code
all_alternatives s n (more_alts (alt None guard c ss) alts) ds =
    let next = n + alt_scopes (alt None guard c ss) in
    let rest = alternatives_code s (alternatives (context_of s) next alts) (drop 1 ds) in
    let branch = rest.size + 1 + first_of ds in
    let here : Short (nothing ⨾ guarded_code s guard (comm_code s n c branch)) (0 + (2 * guard_nodes guard + comm_before c)) =
    both no_code (opened s n guard c branch) in
    more (both here (all_alternatives s next alts (drop 1 ds))) (omega arith)
all_alternatives s n (more_alts (alt (Some spread) guard c ss) alts) ds =
    let next = n + alt_scopes (alt (Some spread) guard c ss) in
    more
    (copies s n guard c ss (replicas (context_of s) spread) (alternatives (context_of s) next alts) ds (alts_before alts)
    (λ es. all_alternatives s next alts es)).own
    (omega arith)

pub a_decision : (s : Site) (pri : Bool) (x : Option ℕ) → Short (sel_code s pri x) 1
a_decision s pri None = counted s (λ at n. SEL (if pri then 1 else 0) 0) 0 (λ at n. refl)
a_decision s pri (Some count) = counted s (λ at n. SEL (if pri then 1 else 0) (at + 1 + count)) 0 (λ at n. refl)

-- ## The choice of a value in the branch

-- each jump leads behind the last of them
pub chosen : (s : Site) (rs : List Replica) → Short (chosen_code s rs) 2
chosen s [] = more no_code (omega arith)
chosen s (r ∷ rs) = one_choice (chosen_code s rs) (chosen s rs)
  where
    one_choice : (rest : Code) → Short rest 2 → Short (replica_code s (Some r) ⨾ over s JMP rest.size ⨾ rest) 2
    one_choice rest p = record {
      sized = (both (a_replica s r) (joined (jumping s rest.size (rest.size + 0) (omega arith)) p)).sized;
      low = λ at n most behind h.
          let write = replica_code s (Some r) in
          let jump = over s JMP rest.size in
          let jump_at = at + write.size in
          let number = n + length write.texts in
          let last = rest.put (jump_at + 1) (number + 0) in
          let next = ahead (jump_at + 1) (instructions last) behind in
          let size = p.sized (jump_at + 1) (number + 0) in
          let low_next = p.low (jump_at + 1) (number + 0) most behind h in
          let to_end : ℕ = jump_at + 1 + rest.size - (jump_at + 1) in
          let same : get_or next to_end 0 ≡ get_or behind 0 0 = ahead_keeps (jump_at + 1) last behind to_end 0 (omega (arith, size)) in
          let here : get_or behind 0 0 ≤ most = h 0 (omega arith) in
          let low_jump : Low (suc (get_or next to_end 0) ∷ next) (1 + (rest.size + 0)) (most + 2) =
          low_cons (suc (get_or next to_end 0)) next (rest.size + 0) (most + 2) (omega (arith, same, here)) low_next in
          subst (λ (xs : List ℕ). Low xs (write.size + (1 + rest.size) + 0) (most + 2))
          (sym
          (ahead_append at jump_at (write.put at n) ((jump ⨾ rest).put jump_at number) behind
          (let of_write = (a_replica s r).sized at n in omega (arith, of_write))
          ∙ written s r at n (suc (get_or next to_end 0) ∷ next)))
          (λ i g. written_low (suc (get_or next to_end 0) ∷ next) (1 + (rest.size + 0)) (most + 2) (omega arith) low_jump i (omega (arith, g)));
    }
