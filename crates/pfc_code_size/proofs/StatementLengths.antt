-- The same of statements.
use Rattle.std.proofs.Common.{◌≡◌, ◌+◌, ◌++◌, ◌*◌, int_le, ℕ, ℤ, Bool, true, false, List, [], ◌∷◌, length, map, drop, cond, Option, Some, None, refl, ap, ◌∙◌}
use Rattle.std.proofs.Common.{sym, arith, length-append, zero-add}
use Rattle.std.proofs.Math.Nat.{zero-mul, suc-mul}
use Rattle.pfc_tree.specs.declared.tree.Constant.{Constant}
use Rattle.pfc_tree.specs.declared.tree.Spread.{Spread}
use Rattle.pfc_tree.specs.trees.Exprs.{ExprTree, DesigTree}
use Rattle.pfc_tree.specs.trees.Stmts.{StmtTree, StmtTrees, ArmTrees, AcceptTree, AltTree, AltTrees, CommTree, empty, null, block, if_then, if_then_else}
use Rattle.pfc_tree.specs.trees.Stmts.{case_of, while_do, repeat_until, repeat_forever, for_do, cobegin, accepting, requeue, select, select_else, assign, send}
use Rattle.pfc_tree.specs.trees.Stmts.{receive, call, no_stmts, more_stmts, body, arm, no_arms, more_arms, accept, accept_do, alt, no_alts, more_alts}
use Rattle.pfc_tree.specs.trees.Stmts.{comm_accept, comm_send, comm_receive, timeout, terminate}
use Rattle.pfc_types.specs.Types.{extent}
use Rattle.pfc_types.specs.Scopes.{meaning_of}
use Rattle.pfc_types.specs.rules.Constants.{Ordinal, constant_value}
use Rattle.pfc_types.specs.rules.Expressions.{find}
use Rattle.pfc_types.specs.rules.Statements.{scopes_in, arm_scopes, comm_scopes, alt_scopes, alts_scopes}
use Rattle.pfc_semantics.specs.Displays.{Spot}
use Rattle.pfc_semantics.specs.Expressions.{spot_of}
use Rattle.pfc_semantics.specs.Remainders.{Replica, Alternative}
use Rattle.pfc_semantics.specs.Alternatives.{replicas, replicas_from, replicas_by, alternative, spread_out, alternatives, message_of, receiver_of}
use Rattle.pfc_translation.specs.Sites.{Site, at_line, in_accept, context_of, blocks_of}
use Rattle.pfc_translation.specs.Selects.{message_code, receiver_code, send_code, receive_code, replica_code, comm_code, guarded_code, alternatives_code}
use Rattle.pfc_translation.specs.Selects.{first_of}
use Rattle.pfc_translation.specs.Statements as code
use Rattle.pfc_code_size.specs.Statements.{message_size, receiver_size, send_size, receive_size, comm_size, guarded_size, values_in, spread_size}
use Rattle.pfc_code_size.specs.Statements.{alternatives_size, chosen_size, label_count, assign_size, stmt_size, stmts_size, arms_size, accepted_size}
use Rattle.pfc_code_size.specs.Statements.{branch_size, branches_size}
use Rattle.pfc_types.specs.Blocks.{Blocks}
use Rattle.pfc_types.specs.rules.Expressions.{Env}
use Rattle.pfc_code_size.proofs.Lengths.{expr_length, desig_length, object_length}
use Rattle.pfc_code_size.proofs.CallLengths.{call_length, requeue_length}
use Rattle.pfc_code_size.proofs.Values.{from_length}

-- ## Communication

message_length : (s : Site) (e : Option ExprTree) (at n : ℕ) → length ((message_code s e).put at n) ≡ message_size (blocks_of s) s.env e
message_length s None at n = refl
message_length s (Some e) at n = expr_length s e at n

receiver_length : (s : Site) (d : Option DesigTree) (at n : ℕ) → length ((receiver_code s d).put at n) ≡ receiver_size (blocks_of s) s.env d
receiver_length s None at n = refl
receiver_length s (Some d) at n = desig_length s d at n

send_length : (s : Site) (d : DesigTree) (e : ExprTree) (at n : ℕ) → length ((send_code s d e).put at n) ≡ send_size (blocks_of s) s.env d e
send_length s d e at n = grind (arith, length-append, object_length s d, message_length s (message_of (context_of s) e))

receive_length : (s : Site) (d v : DesigTree) (at n : ℕ) → length ((receive_code s d v).put at n) ≡ receive_size (blocks_of s) s.env d v
receive_length s d v at n = grind (arith, length-append, object_length s d, receiver_length s (receiver_of (context_of s) v))

-- ## Alternatives

comm_length :
    (s : Site) (i : ℕ) (c : CommTree) (branch : ℕ) (at n : ℕ) → length ((comm_code s i c branch).put at n) ≡ comm_size (blocks_of s) s.env c
comm_length s i (comm_accept a p) branch at n = refl
comm_length s i (comm_send d e p) branch at n =
    grind (arith, length-append, object_length s d, message_length s (message_of (context_of s) e))
comm_length s i (comm_receive d v p) branch at n =
    grind (arith, length-append, object_length s d, receiver_length s (receiver_of (context_of s) v))
comm_length s i (timeout e p) branch at n = grind (arith, length-append, expr_length s e)
comm_length s i (terminate p) branch at n = refl

guarded_length :
    (s : Site) (guard : Option ExprTree) (i : ℕ) (c : CommTree) (branch : ℕ) (at n : ℕ)
    → length ((guarded_code s guard (comm_code s i c branch)).put at n) ≡ guarded_size (blocks_of s) s.env guard c
guarded_length s None i c branch at n = comm_length s i c branch at n
guarded_length s (Some e) i c branch at n = grind (arith, length-append, expr_length s e, comm_length s i c branch)

-- three instructions write the variable of a replicated alternative
abbrev replica_size : Option Replica → ℕ
replica_size None = 0
replica_size (Some r) = 3

replica_length : (s : Site) (r : Option Replica) (at n : ℕ) → length ((replica_code s r).put at n) ≡ replica_size r
replica_length s None at n = refl
replica_length s (Some r) at n = refl

abbrev listed : Blocks → Env → List Alternative → ℕ
listed b c [] = 0
listed b c (a ∷ rest) = replica_size a.replica + guarded_size b c a.guard a.comm + listed b c rest

alternatives_length :
    (s : Site) (all : List Alternative) (branches : List ℕ) (at n : ℕ)
    → length ((alternatives_code s all branches).put at n) ≡ listed (blocks_of s) s.env all
alternatives_length s [] branches at n = refl
alternatives_length s (a ∷ rest) branches at n =
    let behind = alternatives_code s rest (drop 1 branches) in
    grind (
      arith,
      length-append,
      replica_length s a.replica,
      guarded_length s a.guard a.next a.comm
          (behind.size + 1 + first_of branches),
      alternatives_length s rest (drop 1 branches),
    )

listed_both : (b : Blocks) (c : Env) (xs ys : List Alternative) → listed b c (xs ++ ys) ≡ listed b c xs + listed b c ys
listed_both b c [] ys = sym (zero-add (listed b c ys))
listed_both b c (x ∷ xs) ys = let rest = listed_both b c xs ys in omega arith

listed_replicas :
    (b : Blocks) (c : Env) (n : ℕ) (guard : Option ExprTree) (comm : CommTree) (ss : StmtTrees) (rs : List Replica)
    → listed b c (map (λ r. alternative n guard comm ss (Some r)) rs) ≡ length rs * (3 + guarded_size b c guard comm)
listed_replicas b c n guard comm ss [] = sym (zero-mul (3 + guarded_size b c guard comm))
listed_replicas b c n guard comm ss (r ∷ rs) = let rest = listed_replicas b c n guard comm ss rs in
    let more = suc-mul (length rs) (3 + guarded_size b c guard comm) in omega arith

between_length :
    (between : Bool) (v : Spot) (j k : ℕ) (low : ℤ) (n : ℕ)
    → length (cond between (replicas_from v j low n) []) ≡ length (cond between (replicas_from v k low n) [])
between_length true v j k low n = from_length v j low n ∙ sym (from_length v k low n)
between_length false v j k low n = refl

by_length :
    (v : Spot) (j k : ℕ) (low high : Option Ordinal) → length (replicas_by v j low high) ≡ length (replicas_by v k low high)
by_length v j k None high = refl
by_length v j k (Some low) None = refl
by_length v j k (Some low) (Some high) = between_length (int_le low.value high.value) v j k low.value (extent low.value high.value)

replicas_length : (s : Site) (spread : Spread) → length (replicas (context_of s) spread) ≡ values_in s.env spread
replicas_length s spread =
    by_length (spot_of s.env (find s.env spread.name)).spot s.line 0
    (constant_value s.env.state.blocks.scopes s.env.view spread.low)
    (constant_value s.env.state.blocks.scopes s.env.view spread.high)

spread_out_listed :
    (s : Site) (n : ℕ) (spread : Option Spread) (guard : Option ExprTree) (comm : CommTree) (ss : StmtTrees)
    → listed (blocks_of s) s.env (spread_out (context_of s) n spread guard comm ss) ≡ spread_size s.env spread (guarded_size (blocks_of s) s.env guard comm)
spread_out_listed s n None guard comm ss = omega arith
spread_out_listed s n (Some spread) guard comm ss =
    listed_replicas (blocks_of s) s.env n guard comm ss (replicas (context_of s) spread)
    ∙ ap (λ k. k * (3 + guarded_size (blocks_of s) s.env guard comm)) (replicas_length s spread)

all_listed :
    (s : Site) (n : ℕ) (alts : AltTrees) → listed (blocks_of s) s.env (alternatives (context_of s) n alts) ≡ alternatives_size (blocks_of s) s.env alts
all_listed s n no_alts = refl
all_listed s n (more_alts (alt spread guard comm ss) alts) =
    let next = n + alt_scopes (alt spread guard comm ss) in
    let first = spread_out_listed s n spread guard comm ss in
    let rest = all_listed s next alts in
    let both = listed_both (blocks_of s) s.env (spread_out (context_of s) n spread guard comm ss) (alternatives (context_of s) next alts) in
    omega arith

select_length :
    (s : Site) (n : ℕ) (alts : AltTrees) (distances : List ℕ) (at k : ℕ)
    → length ((alternatives_code s (alternatives (context_of s) n alts) distances).put at k) ≡ alternatives_size (blocks_of s) s.env alts
select_length s n alts distances at k = alternatives_length s (alternatives (context_of s) n alts) distances at k ∙ all_listed s n alts

-- ## Where a value is chosen

chosen_list_length : (s : Site) (rs : List Replica) (at n : ℕ) → length ((code.chosen_code s rs).put at n) ≡ length rs * 4
chosen_list_length s [] at n = omega arith
chosen_list_length s (r ∷ rs) at n =
    let more = suc-mul (length rs) 4 in grind (arith, length-append, chosen_list_length s rs, more)

chosen_length :
    (s : Site) (spread : Option Spread) (at n : ℕ)
    → length ((code.chosen_code s (code.spread_replicas s spread)).put at n) ≡ chosen_size s.env spread
chosen_length s None at n = refl
chosen_length s (Some spread) at n =
    chosen_list_length s (replicas (context_of s) spread) at n ∙ ap (λ k. k * 4) (replicas_length s spread)

-- ## Labels

labels_length : (s : Site) (between : ℕ) (ls : List Constant) (at n : ℕ) → length ((code.labels_code s between ls).put at n) ≡ length ls
labels_length s between [] at n = refl
labels_length s between (l ∷ ls) at n = grind (arith, length-append, labels_length s between ls)

-- `SEL`
sel_length : (s : Site) (pri : Bool) (count : Option ℕ) (at n : ℕ) → length ((code.sel_code s pri count).put at n) ≡ 1
sel_length s pri None at n = refl
sel_length s pri (Some count) at n = refl

assign_length : (s : Site) (d : DesigTree) (e : ExprTree) (at n : ℕ) → length ((code.assign_code s d e).put at n) ≡ assign_size (blocks_of s) s.env d e
assign_length s d e at n = grind (arith, length-append, desig_length s d, expr_length s e)

-- ## Statements

tests_length :
    (s : Site) (i from : ℕ) (arms : ArmTrees) (at n : ℕ) → length ((code.tests_code s i from arms).put at n) ≡ label_count arms
tests_length s i from no_arms at n = refl
tests_length s i from (more_arms (arm ls t) arms) at n =
    grind (
      arith,
      length-append,
      labels_length s (code.label_count arms + 1 + from) ls,
      tests_length s (i + arm_scopes (arm ls t))
          (from + (code.stmt_code s i t).size + 1) arms,
    )

mutual
  pub stmt_length : (s : Site) (i : ℕ) (t : StmtTree) (at n : ℕ) → length ((code.stmt_code s i t).put at n) ≡ stmt_size (blocks_of s) s.env i t
  stmt_length s i empty at n = refl
  stmt_length s i (null p) at n = refl
  stmt_length s i (block (body ss first last) p) at n = stmts_length s i ss at n
  stmt_length s i (if_then e t p) at n =
      let c = at_line s p.line in grind (arith, length-append, expr_length c e, stmt_length c i t)
  stmt_length s i (if_then_else e t u p) at n =
      let c = at_line s p.line in grind (arith, length-append, expr_length c e, stmt_length c i t, stmt_length c (i + scopes_in t) u)
  stmt_length s i (case_of e arms last p) at n =
      let c = at_line s p.line in grind (arith, length-append, expr_length c e, tests_length c i 0 arms, arms_length c i arms)
  stmt_length s i (while_do e t p) at n =
      let c = at_line s p.line in grind (arith, length-append, expr_length c e, stmt_length c i t)
  stmt_length s i (repeat_until ss e p) at n =
      let c = at_line s p.line in grind (arith, length-append, stmts_length c i ss, expr_length c e)
  stmt_length s i (repeat_forever ss p) at n =
      let c = at_line s p.line in grind (arith, length-append, stmts_length c i ss)
  stmt_length s i (for_do x a down b t p q) at n =
      let c = at_line s p.line in grind (arith, length-append, expr_length c a, expr_length c b, stmt_length c i t)
  stmt_length s i (cobegin ss last p) at n = grind (arith, length-append, stmts_length s i ss)
  stmt_length s i (accepting a p) at n =
      let c = at_line s p.line in grind (arith, length-append, accepted_length c i a)
  stmt_length s i (requeue x args p) at n = let c = at_line s p.line in requeue_length c (meaning_of (find c.env x.0)) args at n
  stmt_length s i (select pri alts p q) at n =
      let c = at_line s p.line in
      grind (arith, length-append, select_length c i alts (code.distances c i 0 alts), sel_length c pri None, branches_length c i alts 0)
  stmt_length s i (select_else pri alts ss place p q) at n =
      let c = at_line s p.line in
      let otherwise = code.stmts_code c (i + alts_scopes alts) ss in
      let branches = code.branches_code c i alts otherwise.size in
      grind (
        arith,
        length-append,
        select_length c i alts (code.distances c i 0 alts),
        sel_length c pri
            (Some branches.size),
        branches_length c i alts otherwise.size,
        stmts_length c (i + alts_scopes alts) ss,
      )
  stmt_length s i (assign d e p q) at n = assign_length (at_line s p.line) d e at n
  stmt_length s i (send d e p q) at n = send_length (at_line s p.line) d e at n
  stmt_length s i (receive d v p q) at n = receive_length (at_line s p.line) d v at n
  stmt_length s i (call d args p) at n = call_length (at_line s p.line) d args at n

  pub stmts_length :
      (s : Site) (i : ℕ) (ts : StmtTrees) (at n : ℕ) → length ((code.stmts_code s i ts).put at n) ≡ stmts_size (blocks_of s) s.env i ts
  stmts_length s i no_stmts at n = refl
  stmts_length s i (more_stmts t ts) at n = grind (arith, length-append, stmt_length s i t, stmts_length s (i + scopes_in t) ts)

  arms_length : (s : Site) (i : ℕ) (arms : ArmTrees) (at n : ℕ) → length ((code.arms_code s i arms).put at n) ≡ arms_size (blocks_of s) s.env i arms
  arms_length s i no_arms at n = refl
  arms_length s i (more_arms (arm ls t) arms) at n =
      grind (arith, length-append, stmt_length s i t, arms_length s (i + arm_scopes (arm ls t)) arms)

  accepted_length :
      (s : Site) (i : ℕ) (a : AcceptTree) (at n : ℕ) → length ((code.accepted_code s i a).put at n) ≡ accepted_size (blocks_of s) s.env i a
  accepted_length s i (accept x gs p) at n = refl
  accepted_length s i (accept_do x gs t p) at n = stmt_length (in_accept s i) (i + 1) t at n

  branch_length :
      (s : Site) (i : ℕ) (a : AltTree) (between : ℕ) (at n : ℕ)
      → length ((code.branch_code s i a between).put at n) ≡ branch_size (blocks_of s) s.env i a
  branch_length s i (alt spread guard (terminate p) ss) between at n = refl
  branch_length s i (alt spread guard (comm_accept a p) ss) between at n =
      grind (arith, length-append, chosen_length s spread, accepted_length s i a, stmts_length s (i + comm_scopes (comm_accept a p)) ss)
  branch_length s i (alt spread guard (comm_send d e p) ss) between at n =
      grind (arith, length-append, chosen_length s spread, stmts_length s (i + comm_scopes (comm_send d e p)) ss)
  branch_length s i (alt spread guard (comm_receive d v p) ss) between at n =
      grind (arith, length-append, chosen_length s spread, stmts_length s (i + comm_scopes (comm_receive d v p)) ss)
  branch_length s i (alt spread guard (timeout e p) ss) between at n =
      grind (arith, length-append, chosen_length s spread, stmts_length s (i + comm_scopes (timeout e p)) ss)

  branches_length :
      (s : Site) (i : ℕ) (alts : AltTrees) (else_size : ℕ) (at n : ℕ)
      → length ((code.branches_code s i alts else_size).put at n) ≡ branches_size (blocks_of s) s.env i alts
  branches_length s i no_alts else_size at n = refl
  branches_length s i (more_alts a alts) else_size at n =
      let rest = code.branches_code s (i + alt_scopes a) alts else_size in
      grind (arith, length-append, branch_length s i a (rest.size + else_size), branches_length s (i + alt_scopes a) alts else_size)
