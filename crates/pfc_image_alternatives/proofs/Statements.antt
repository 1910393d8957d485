-- In a statement in which no rule is broken each select has few alternatives.
use Rattle.std.proofs.Common.{◌≡◌, ℕ, ◌+◌, ◌≤◌, Bool, true, List, [], ◌∷◌, length, drop, Option, Some, None, ap, ◌∙◌, subst, arith}
use Rattle.std.specs.Prelude.{nat_le}
use Rattle.std.proofs.lemmas.Bool.Decides.{nat_tests}
use Rattle.pfc_base.specs.declared.places.Place.{Place}
use Rattle.pfc_tree.specs.declared.tree.Constant.{Constant}
use Rattle.pfc_tree.specs.trees.Exprs.{ExprTree}
use Rattle.pfc_tree.specs.trees.Stmts.{StmtTree, StmtTrees, ArmTrees, AcceptTree, AltTree, AltTrees, CommTree, empty, null, block, if_then, if_then_else}
use Rattle.pfc_tree.specs.trees.Stmts.{case_of, while_do, repeat_until, repeat_forever, for_do, cobegin, accepting, requeue, select, select_else, assign, send}
use Rattle.pfc_tree.specs.trees.Stmts.{receive, call, no_stmts, more_stmts, body, arm, no_arms, more_arms, accept, accept_do, alt, no_alts, more_alts}
use Rattle.pfc_tree.specs.trees.Stmts.{comm_accept, comm_send, comm_receive, timeout, terminate}
use Rattle.pfc_types.specs.Blocks.{State}
use Rattle.pfc_types.specs.Scopes.{Level, here, meaning_of}
use Rattle.pfc_types.specs.rules.Expressions.{Env, find, expr_type}
use Rattle.pfc_types.specs.declared.types.TypeId.{TypeId}
use Rattle.pfc_types.specs.rules.Statements.{scopes_in, arm_scopes, comm_scopes, alt_scopes, alts_scopes, alts_count, number_rule, within_accept}
use Rattle.pfc_types.specs.rules.Statements.{within_cobegin, broken_stmt, broken_stmts, broken_arms, broken_accept, broken_alts, broken_alt}
use Rattle.pfc_semantics.specs.Remainders.{Replica, Alternative}
use Rattle.pfc_semantics.specs.Alternatives.{message_of, receiver_of, alternatives}
use Rattle.pfc_translation.specs.Sites.{Site, at_line, in_accept, context_of}
use Rattle.pfc_translation.specs.Codes.{Code, nothing}
use Rattle.pfc_translation.specs.Selects.{comm_code, guarded_code, first_of, alternatives_code}
use Rattle.pfc_translation.specs.Statements.{labels_code, label_count, spread_replicas, chosen_code, sel_code, select_code, stmt_code, stmts_code, tests_code}
use Rattle.pfc_translation.specs.Statements.{arms_code, accepted_code, branch_code, branches_code, distances}
use Rattle.pfc_image_numbers.proofs.Rules.{IsClean, held}
use Rattle.pfc_image_alternatives.proofs.Quiet as quiet
use Rattle.pfc_image_alternatives.proofs.Quiet.{Few, no_code, both, expr}
use Rattle.pfc_image_alternatives.proofs.Spreads.{AreSound, IsLike, all_few}

-- ## Alternatives

communication : (s : Site) (n : ℕ) (c : CommTree) (branch : ℕ) → Few (comm_code s n c branch)
communication s n (comm_accept a p) branch = no_code
communication s n (comm_send d e p) branch = both (quiet.object s d) (both (quiet.message s (message_of (context_of s) e)) no_code)
communication s n (comm_receive d v p) branch = both (quiet.object s d) (both (quiet.receiver s (receiver_of (context_of s) v)) no_code)
communication s n (timeout e p) branch = both (expr s e) no_code
communication s n (terminate p) branch = no_code

guarded : (s : Site) (guard : Option ExprTree) (inner : Code) → Few inner → Few (guarded_code s guard inner)
guarded s None inner p = p
guarded s (Some e) inner p = both (expr s e) (both no_code p)

all_alternatives : (s : Site) (alts : List Alternative) (ds : List ℕ) → Few (alternatives_code s alts ds)
all_alternatives s [] ds = no_code
all_alternatives s (a ∷ rest) ds =
    both (both (quiet.replica s a.replica)
    (guarded s a.guard (comm_code s a.next a.comm ((alternatives_code s rest (drop 1 ds)).size + 1 + first_of ds))
    (communication s a.next a.comm ((alternatives_code s rest (drop 1 ds)).size + 1 + first_of ds))))
    (all_alternatives s rest (drop 1 ds))

decision : (s : Site) (pri : Bool) (count : Option ℕ) → Few (sel_code s pri count)
decision s pri None = no_code
decision s pri (Some n) = no_code

selected : (s : Site) (pri : Bool) (alts : List Alternative) (ds : List ℕ) (branches : Code) (count : Option ℕ) (otherwise : Code) → length alts ≤ 1024
    → Few branches → Few otherwise → Few (select_code s pri alts ds branches count otherwise)
selected s pri alts ds branches count otherwise few p q = both few (both (all_alternatives s alts ds) (both (decision s pri count) (both p q)))

-- ## Labels and spreads

labels : (s : Site) (between : ℕ) (ls : List Constant) → Few (labels_code s between ls)
labels s between [] = no_code
labels s between (l ∷ ls) = both no_code (labels s between ls)

chosen : (s : Site) (rs : List Replica) → Few (chosen_code s rs)
chosen s [] = no_code
chosen s (r ∷ rs) = both (quiet.replica s (Some r)) (both no_code (chosen s rs))

-- ## Statements

no_scopes : (n : ℕ) → n + 0 ≡ n
no_scopes n = grind arith

counted : (n k : ℕ) → n ≤ k → nat_le k 1024 ≡ true → n ≤ 1024
counted n k less rule = (let within : k ≤ 1024 = grind (arith, nat_tests, rule) in omega (arith, less, within))

module _ (known : State) (sound : AreSound known) where
  -- what the rules know at a place is known in its code
  pub record Knows (e : Env) (s : Site) : Type 0 where
    pub state : e.state ≡ known
    pub like : IsLike s.env e

  accept_knows : (e : Env) (s : Site) (n : ℕ) → Knows e s → Knows (within_accept e n) (in_accept s n)
  accept_knows e s n k =
      record {
        state = k.state;
        like = record {
          state = k.like.state;
          view =
              ap (λ (y : State). here y.blocks.scopes n s.env.view) k.like.state
              ∙ ap (λ (v : List Level). here e.state.blocks.scopes n v) k.like.view;
        };
      }

  line_knows : (e : Env) (s : Site) (line : ℕ) → Knows e s → Knows e (at_line s line)
  line_knows e s line k = record { state = k.state; like = record { state = k.like.state; view = k.like.view } }

  cobegin_knows : (e : Env) (s : Site) → Knows e s → Knows (within_cobegin e) s
  cobegin_knows e s k = record { state = k.state; like = record { state = k.like.state; view = k.like.view } }

  alternatives_few : (e : Env) (s : Site) (n : ℕ) (alts : AltTrees) (q : Place) → Knows e s → IsClean (number_rule e alts q) → IsClean (broken_alts e n alts)
      → length (alternatives (context_of s) n alts) ≤ 1024
  alternatives_few e s n alts q k rule clean =
      counted (length (alternatives (context_of s) n alts)) (alts_count e alts) (all_few known sound e (context_of s) k.state k.like n alts clean)
      (held (nat_le (alts_count e alts) 1024) q 425 rule)

  mutual
    stmt : (t : StmtTree) (e : Env) (s : Site) → Knows e s → (n : ℕ) → IsClean (broken_stmt e n t) → Few (stmt_code s n t)
    stmt empty e s k n h = no_code
    stmt (null p) e s k n h = no_code
    stmt (block (body ss first last) p) e s k n h = stmts ss e s k n h
    stmt (if_then x t p) e s k n h =
        let c = at_line s p.line in both (expr c x) (both no_code (stmt t e c (line_knows e s p.line k) n h.1.1))
    stmt (if_then_else x t u p) e s k n h =
        let c = at_line s p.line in
        both (expr c x) (both no_code (both (stmt t e c (line_knows e s p.line k) n h.1.1.0)
        (both no_code (stmt u e c (line_knows e s p.line k) (n + scopes_in t) h.1.1.1))))
    stmt (case_of x arms last p) e s k n h =
        let c = at_line s p.line in
        both (expr c x) (both (tests arms c n 0) (both no_code (all_arms arms e c (line_knows e s p.line k) n (expr_type e x) h.1)))
    stmt (while_do x t p) e s k n h =
        let c = at_line s p.line in both (expr c x) (both no_code (both (stmt t e c (line_knows e s p.line k) n h.1.1) no_code))
    stmt (repeat_until ss x p) e s k n h =
        let c = at_line s p.line in
        both (stmts ss e c (line_knows e s p.line k) n h.0) (both (expr c x) (both no_code (both no_code no_code)))
    stmt (repeat_forever ss p) e s k n h = both (stmts ss e (at_line s p.line) (line_knows e s p.line k) n h) no_code
    stmt (for_do x a down b t p q) e s k n h =
        let c = at_line s p.line in
        both no_code (both (expr c a) (both (expr c b) (both no_code (both no_code (both (stmt t e c (line_knows e s p.line k) n h.1) no_code)))))
    stmt (cobegin ss last p) e s k n h = both (stmts ss (within_cobegin e) s (cobegin_knows e s k) n h.1) no_code
    stmt (accepting a p) e s k n h = both no_code (both (accepted a e (at_line s p.line) (line_knows e s p.line k) n p h) no_code)
    stmt (requeue x args p) e s k n h = quiet.requeued (at_line s p.line) (meaning_of (find s.env x.0)) args
    stmt (select pri alts p q) e s k n h =
        let c = at_line s p.line in
        let there = line_knows e s p.line k in
        selected c pri (alternatives (context_of c) n alts) (distances c n 0 alts) (branches_code c n alts 0) None nothing
        (alternatives_few e c n alts q there h.1.0 h.1.1.1) (all_branches alts e c there n 0 h.1.1.1) no_code
    stmt (select_else pri alts ss at p q) e s k n h =
        let c = at_line s p.line in
        let there = line_knows e s p.line k in
        let otherwise = stmts_code c (n + alts_scopes alts) ss in
        let branches = branches_code c n alts otherwise.size in
        selected c pri (alternatives (context_of c) n alts) (distances c n 0 alts) branches (Some branches.size) otherwise
        (alternatives_few e c n alts q there h.1.0 h.1.1.1.0) (all_branches alts e c there n otherwise.size h.1.1.1.0)
        (stmts ss e c there (n + alts_scopes alts) h.1.1.1.1.1)
    stmt (assign d x p q) e s k n h = quiet.assigned (at_line s p.line) d x
    stmt (send d x p q) e s k n h = quiet.sent (at_line s p.line) d x
    stmt (receive d v p q) e s k n h = quiet.received (at_line s p.line) d v
    stmt (call d args p) e s k n h = quiet.a_call (at_line s p.line) d args

    pub stmts : (ts : StmtTrees) (e : Env) (s : Site) → Knows e s → (n : ℕ) → IsClean (broken_stmts e n ts) → Few (stmts_code s n ts)
    stmts no_stmts e s k n h = no_code
    stmts (more_stmts t ts) e s k n h = both (stmt t e s k n h.0) (stmts ts e s k (n + scopes_in t) h.1)

    tests : (arms : ArmTrees) (s : Site) (n from : ℕ) → Few (tests_code s n from arms)
    tests no_arms s n from = no_code
    tests (more_arms (arm ls t) arms) s n from =
        both (labels s (label_count arms + 1 + from) ls) (tests arms s (n + arm_scopes (arm ls t)) (from + (stmt_code s n t).size + 1))

    all_arms : (arms : ArmTrees) (e : Env) (s : Site) → Knows e s → (n : ℕ) (t : Option TypeId) → IsClean (broken_arms e n t arms)
        → Few (arms_code s n arms)
    all_arms no_arms e s k n t h = no_code
    all_arms (more_arms (arm ls x) arms) e s k n t h =
        both (stmt x e s k n h.0.1) (both no_code (all_arms arms e s k (n + arm_scopes (arm ls x)) t h.1))

    accepted : (a : AcceptTree) (e : Env) (s : Site) → Knows e s → (n : ℕ) (q : Place) → IsClean (broken_accept e n a q) → Few (accepted_code s n a)
    accepted (accept x gs p) e s k n q h = no_code
    accepted (accept_do x gs t p) e s k n q h = stmt t (within_accept e n) (in_accept s n) (accept_knows e s n k) (n + 1) h.1

    -- statements behind `terminate` give no code, but their selects are counted
    one_branch : (a : AltTree) (e : Env) (s : Site) → Knows e s → (n between : ℕ) → IsClean (broken_alt e n a) → Few (branch_code s n a between)
    one_branch (alt spread guard (comm_accept a p) ss) e s k n between h =
        both (chosen s (spread_replicas s spread))
        (both (both (accepted a e s k n p h.1.1.0) no_code) (both (stmts ss e s k (n + comm_scopes (comm_accept a p)) h.1.1.1) no_code))
    one_branch (alt spread guard (comm_send d x p) ss) e s k n between h =
        both (chosen s (spread_replicas s spread)) (both no_code (both (stmts ss e s k (n + 0) h.1.1.1) no_code))
    one_branch (alt spread guard (comm_receive d v p) ss) e s k n between h =
        both (chosen s (spread_replicas s spread)) (both no_code (both (stmts ss e s k (n + 0) h.1.1.1) no_code))
    one_branch (alt spread guard (timeout x p) ss) e s k n between h =
        both (chosen s (spread_replicas s spread)) (both no_code (both (stmts ss e s k (n + 0) h.1.1.1) no_code))
    one_branch (alt spread guard (terminate p) ss) e s k n between h =
        stmts ss e s k n (subst (λ j. IsClean (broken_stmts e j ss)) (no_scopes n) h.1.1.1)

    all_branches : (alts : AltTrees) (e : Env) (s : Site) → Knows e s → (n size : ℕ) → IsClean (broken_alts e n alts)
        → Few (branches_code s n alts size)
    all_branches no_alts e s k n size h = no_code
    all_branches (more_alts a alts) e s k n size h =
        both (one_branch a e s k n ((branches_code s (n + alt_scopes a) alts size).size + size) h.0) (all_branches alts e s k (n + alt_scopes a) size h.1)
