-- The code of a whole select stands as its alternatives, its decision and its branches.
use Rattle.std.proofs.Common.{◌≡◌, ℕ, zero, suc, ◌+◌, ◌≤◌, ℤ, pos, ◌+ℤ◌, Bool, true, false, if◌then◌else◌, List, [], ◌∷◌, ◌++◌, map, length, Option, Some, None}
use Rattle.std.proofs.Common.{refl, sym, ap, ◌∙◌, subst, arith}
use Rattle.std.specs.Prelude.{int_le}
use Rattle.pfc_base.specs.declared.places.Place.{Place}
use Rattle.pfc_code.specs.declared.instructions.Instr.TheVariants.{JMP, EACC, SEL}
use Rattle.pfc_tree.specs.declared.tree.Spread.{Spread}
use Rattle.pfc_tree.specs.trees.Exprs.{ExprTree}
use Rattle.pfc_tree.specs.trees.Stmts.{StmtTrees, AltTree, AltTrees, CommTree, accept, accept_do, alt, no_alts, more_alts, comm_accept, comm_send, comm_receive}
use Rattle.pfc_tree.specs.trees.Stmts.{timeout, terminate}
use Rattle.pfc_types.specs.Types.{extent}
use Rattle.pfc_types.specs.Scopes.{Level}
use Rattle.pfc_types.specs.rules.Constants.{Ordinal, constant_value}
use Rattle.pfc_types.specs.rules.Expressions.{find}
use Rattle.pfc_types.specs.rules.Statements.{comm_scopes, alt_scopes, alts_scopes}
use Rattle.pfc_types.specs.declared.view.Around.{Around}
use Rattle.pfc_semantics.specs.Displays.{Spot}
use Rattle.pfc_semantics.specs.Programs.{Block}
use Rattle.pfc_semantics.specs.Remainders.{Context, Replica, Accepting, Alternative, Otherwise, Selecting, Remainder}
use Rattle.pfc_semantics.specs.Expressions.{spot_of}
use Rattle.pfc_semantics.specs.Alternatives.{replicas_from, replicas_between, replicas_by, replicas, alternative, spread_out, alternatives, accepting_of}
use Rattle.pfc_semantics.specs.Alternatives.{from_alternatives, select_begun}
use Rattle.pfc_translation.specs.Sites.{Site, at_line, in_accept, context_of, blocks_of}
use Rattle.pfc_translation.specs.Codes.{Code, nothing, ◌⨾◌, one, over, with_arms}
use Rattle.pfc_translation.specs.Selects.{replica_code, alternatives_code}
use Rattle.pfc_translation.specs.Statements.{spread_of, spread_replicas, chosen_code, replica_branches, branches_from, sel_code, select_code, stmt_code}
use Rattle.pfc_translation.specs.Statements.{stmts_code, met_code, branch_code, branches_code, distances}
use Rattle.pfc_standing_code.specs.Sizes.{IsSized}
use Rattle.pfc_standing_code.specs.Settings.{Setting, of_own, site_of, SeesAccepts, IsAt, Stands, arrived, jump}
use Rattle.pfc_standing_code.specs.TypedStatements.{IsSimpleVariable, IsReplica, IsSpread, AcceptsEntry, AreTyped, IsMetTyped, IsAltTyped, AreAltsTyped}
use Rattle.pfc_standing_code.specs.Words.{IsChecked}
use Rattle.pfc_standing_code.specs.Performs.{MetAt, BranchAt, accepted_in, CommBranchAt, BranchesAt, DecidesAt, SelectAt, StmtThen, StmtsThen}
use Rattle.pfc_standing_code.specs.Following.{Follows}
use Rattle.pfc_standing_code.proofs.Accepts.{see_accepts, sees_inside}
use Rattle.pfc_standing_code.proofs.Sizes.{sized_then, sized_nothing, sized_replica, sized_chosen, sized_alternatives, sized_stmt, sized_stmts, sized_met}
use Rattle.pfc_standing_code.proofs.Sizes.{sized_branch, sized_branches}
use Rattle.pfc_following_expressions.proofs.Glue.{Changes, changes_both, front, back, head, lone, tail, stands_moved}
use Rattle.pfc_following_expressions.proofs.Held.{held_grown, changes_one, changes_nothing}
use Rattle.pfc_following_expressions.proofs.Expressions.{env_in}
use Rattle.pfc_following_statements.proofs.HeldCalls.{replica_changes, alternatives_change}
use Rattle.pfc_following_statements.proofs.HeldStatements.{alternatives_fit, chosen_changes, met_change, stmt_changes, stmts_change, branch_changes}
use Rattle.pfc_following_statements.proofs.HeldStatements.{branches_change}
use Rattle.pfc_following_source.specs.selects.Phrases.{Behind}
use Rattle.pfc_following_source.proofs.selects.Jumps.{performs_jumped, performs_at}
use Rattle.pfc_following_source.proofs.selects.Alternatives.{all_follow}

-- ## Replicated alternatives

-- the values of a spread, each with the line of the select
abbrev AreReplicas : Site → List Replica → Type 0
AreReplicas s [] = Unit {0}
AreReplicas s (r ∷ rs) = (r.line ≡ s.line) × IsReplica s (Some r) × AreReplicas s rs

module _ (s : Site) (v : Spot) (simple : IsSimpleVariable s v) where
  values_from : (low : ℤ) (n : ℕ) → AreReplicas s (replicas_from v s.line low n)
  values_from low zero = tt
  values_from low (suc n) = (refl, simple, values_from (low +ℤ pos 1) n)

  values_between : (low high : ℤ) → AreReplicas s (replicas_between v s.line low high)
  values_between low high = by (int_le low high)
    where
      by : (b : Bool) → AreReplicas s (if b then replicas_from v s.line low (extent low high) else [])
      by true = values_from low (extent low high)
      by false = tt

  values_by : (low high : Option Ordinal) → AreReplicas s (replicas_by v s.line low high)
  values_by (Some low) (Some high) = values_between low.value high.value
  values_by None high = tt
  values_by (Some low) None = tt

spread_values : (s : Site) (r : Spread) → IsSpread s (Some r) → AreReplicas s (replicas (context_of s) r)
spread_values s r is =
    values_by s (spot_of s.env (find s.env r.name)).spot is
    (constant_value s.env.state.blocks.scopes s.env.view r.low) (constant_value s.env.state.blocks.scopes s.env.view r.high)

-- how long a branch is does not hang on what stands behind it
branch_size : (s : Site) (m : ℕ) (a : AltTree) (i j : ℕ) → (branch_code s m a i).size ≡ (branch_code s m a j).size
branch_size s m (alt spread guard (terminate p) ss) i j = refl
branch_size s m (alt spread guard (comm_accept a p) ss) i j = refl
branch_size s m (alt spread guard (comm_send d e p) ss) i j = refl
branch_size s m (alt spread guard (comm_receive d v p) ss) i j = refl
branch_size s m (alt spread guard (timeout e p) ss) i j = refl

module _ (g : Setting) (b : Block) (names : List Level) (around : Around) (checked : IsChecked g b (env_in g names around)) (own : g.trial ≡ of_own)
    (line : ℕ) (k : Remainder) (ops : List ℤ) (accepts : SeesAccepts g (site_of g b (record { env = env_in g names around; line = line }))) where
  abbrev x : Context
  x = record { env = env_in g names around; line = line }

  abbrev s : Site
  s = site_of g b x

  abbrev held : ℕ
  held = length ops

  abbrev P : ℕ → Type 0
  P end = Behind g b x ops k end

  -- ## Behind a communication

  -- the statement of an accept, its end, and what stands behind it
  record Meeting (inner rest : Code) (l at : ℕ) : Type 0 where
    first : (n : ℕ) × Stands g at n held inner
    ended : IsAt g (at + inner.size) EACC l
    left : (n : ℕ) × Stands g (at + inner.size + 1) n held rest

  meeting : (inner rest : Code) (l at n : ℕ) → IsSized inner → Changes g.program inner 0 0 →
      Stands g at n held ((inner ⨾ one (at_line s l) EACC) ⨾ rest) → Meeting inner rest l at
  meeting inner rest l at n sized changes st =
      let last = one (at_line s l) EACC in
      let both = inner ⨾ last in
      let whole : Changes g.program both 0 0 = changes_both g.program inner last 0 0 0 changes (changes_one g.program (at_line s l) EACC 0 0 refl refl) in
      let met = front g both rest st in
      let end = back g inner last held sized (held_grown g.program inner 0 changes at n held ∙ omega arith) met in
      let behind = back g both rest held (sized_then (at_line s l) inner (λ at n. EACC) sized) (held_grown g.program both 0 whole at n held ∙ omega arith) st in
      let same : at + both.size ≡ at + inner.size + 1 = omega arith in
      record {
        first = (n, front g inner last met);
        ended = lone g (at_line s l) (λ at n. EACC) end;
        left =
            (n + length both.texts, stands_moved g (at + inner.size + 1) same behind);
      }

  -- statements, and the jump behind them
  stmts_then : (m between at n : ℕ) (ss : StmtTrees) → AreTyped s m ss → Stands g at n held (stmts_code s m ss ⨾ over s JMP between) →
      P (at + (stmts_code s m ss).size) → StmtsThen g s at held m ss P
  stmts_then m between at n ss typed st end = (
    n,
    record { typed = typed; code = front g (stmts_code s m ss) (over s JMP between) st; accepts = see_accepts g s ss accepts },
    end,
  )

  plain_met :
      (m between at n : ℕ) (ss : StmtTrees) → AreTyped s m ss → Stands g at n held (nothing ⨾ stmts_code s m ss ⨾ over s JMP between) →
      P (at + (0 + (stmts_code s m ss).size)) → MetAt g s at held None m ss P
  plain_met m between at n ss typed st end =
      let code = stmts_code s m ss in
      let rest = code ⨾ over s JMP between in
      let behind = back g nothing rest held sized_nothing refl st in
      let start : at + 0 ≡ at = omega arith in
      stmts_then m between at (n + 0) ss typed (stands_moved g at start behind) (performs_at g b x.env k (at + (0 + code.size))
      (at + code.size) ops (omega arith) end)

  accept_met :
      (a : Accepting) (m between at n : ℕ) (inner : Code) (ss : StmtTrees) → inner ≡ stmt_code (in_accept s a.scope) (a.scope + 1) a.stmt →
      IsSized inner → Changes g.program inner 0 0
      → AcceptsEntry (blocks_of s) s.block.scope a.entry a.scope
      → ((n : ℕ) → Stands g at n held inner → StmtThen g (in_accept s a.scope) at held (a.scope + 1) a.stmt (λ to. to ≡ at + inner.size))
      → AreTyped s m ss → Stands g at n held ((inner ⨾ one (at_line s a.line) EACC) ⨾ stmts_code s m ss ⨾ over s JMP between) →
      P (at + ((inner.size + 1) + (stmts_code s m ss).size))
      → MetAt g s at held (Some a) m ss P
  accept_met a m between at n inner ss same sized changes entry stmt typed st end =
      let code = stmts_code s m ss in
      let parts = meeting inner (code ⨾ over s JMP between) a.line at n sized changes st in
      let first = stmt parts.first.0 parts.first.1 in
      let to = at + inner.size in
      let left : IsAt g to EACC a.line × StmtsThen g s (to + 1) held m ss P = (
        parts.ended,
        stmts_then m between (to + 1) parts.left.0 ss typed parts.left.1 (performs_at g b x.env k (at + ((inner.size + 1) + code.size))
            (to + 1 + code.size) ops (omega arith) end),
      ) in (
        entry,
        (first.0, first.1, subst (λ (y : ℕ). IsAt g y EACC a.line × StmtsThen g s (y + 1) held m ss P) (sym first.2) left),
        accepts,
      )

  met_stands :
      (comm : CommTree) (m between at n : ℕ) (ss : StmtTrees) → IsMetTyped s m comm → AreTyped s (m + comm_scopes comm) ss
      → Stands g at n held (met_code s m comm ⨾ stmts_code s (m + comm_scopes comm) ss ⨾ over s JMP between)
      → P (at + ((met_code s m comm).size + (stmts_code s (m + comm_scopes comm) ss).size))
      → MetAt g s at held (accepted_in x m comm) (m + comm_scopes comm) ss P
  met_stands (comm_accept (accept y gs q) p) m between at n ss is typed st end =
      let acc = comm_accept (accept y gs q) p in
      accept_met (accepting_of x m (accept y gs q) p.line) (m + comm_scopes acc) between at n nothing ss refl sized_nothing (changes_nothing g.program 0) is
      (λ n inner. (n, record { typed = tt; code = inner; accepts = sees_inside g s m accepts }, refl)) typed st end
  met_stands (comm_accept (accept_do y gs t q) p) m between at n ss is typed st end =
      let acc = comm_accept (accept_do y gs t q) p in
      let inner = stmt_code (in_accept s m) (m + 1) t in
      accept_met (accepting_of x m (accept_do y gs t q) p.line) (m + comm_scopes acc) between at n inner ss refl (sized_stmt (in_accept s m) (m + 1) t)
      (stmt_changes t (in_accept s m) (m + 1) checked.sound is.1) is.0
      (λ n inner_at. (n, record { typed = is.1; code = inner_at; accepts = sees_inside g s m accepts }, refl)) typed st end
  met_stands (comm_send d e p) m between at n ss is typed st end = plain_met (m + comm_scopes (comm_send d e p)) between at n ss typed st end
  met_stands (comm_receive d v p) m between at n ss is typed st end = plain_met (m + comm_scopes (comm_receive d v p)) between at n ss typed st end
  met_stands (timeout e p) m between at n ss is typed st end = plain_met (m + comm_scopes (timeout e p)) between at n ss typed st end
  met_stands (terminate p) m between at n ss is typed st end = plain_met (m + comm_scopes (terminate p)) between at n ss typed st end

  -- ## Branches

  as_branch :
      (comm : CommTree) (a : Alternative) (at : ℕ) → BranchAt g s at held a.replica (accepted_in x a.next comm) (a.next + comm_scopes comm) a.stmts P →
      CommBranchAt g s x at held a comm P
  as_branch (terminate p) a at h = tt
  as_branch (comm_accept c p) a at h = h
  as_branch (comm_send d e p) a at h = h
  as_branch (comm_receive d v p) a at h = h
  as_branch (timeout e p) a at h = h

  module _ (m : ℕ) (guard : Option ExprTree) (comm : CommTree) (ss : StmtTrees) (first : ℕ) (others : List Alternative) (ds : List ℕ) where
    abbrev chosen : Replica → Alternative
    chosen r = alternative m guard comm ss (Some r)

    -- each value is written again, and then a jump leads to what stands behind the communication
    chosen_branches :
        (rs : List Replica) (from at n end : ℕ) → AreReplicas s rs → Stands g at n held (chosen_code s rs) →
        at ≡ first + from → at + (chosen_code s rs).size ≡ end
        → MetAt g s end held (accepted_in x m comm) (m + comm_scopes comm) ss P → BranchesAt g s x first held others ds P
        → BranchesAt g s x first held (map chosen rs ++ others) (replica_branches from rs ++ ds) P
    chosen_branches [] from at n end are st place ends met rest = rest
    chosen_branches (r ∷ rs) from at n end are st place ends met rest =
        let written = replica_code s (Some r) in
        let behind = chosen_code s rs in
        let z = written.size in
        let jumps = back g written (over s JMP behind.size ⨾ behind) held (sized_replica s (Some r))
        (held_grown g.program written 0 (replica_changes s checked.sound (Some r)) at n held ∙ omega arith) st in
        let is = head g s (λ at n. JMP (at + 1 + behind.size)) behind jumps in
        let left = tail g s (λ at n. JMP (at + 1 + behind.size)) behind held (omega arith) jumps in
        let to = at + z + 1 + behind.size in
        let same : end ≡ to = omega arith in
        let met_at = subst (λ (y : ℕ). MetAt g s y held (accepted_in x m comm) (m + comm_scopes comm) ss P) same met in
        let branch : BranchAt g s at held (Some r) (accepted_in x m comm) (m + comm_scopes comm) ss P =
        (are.0, are.1, n, front g written (over s JMP behind.size ⨾ behind) st, (to, jump (at + z) to to line is (omega arith) (arrived to), met_at)) in
        let next : at + z + 1 ≡ first + (from + 4) = omega arith in (
          as_branch comm (chosen r) (first + from)
              (subst (λ (y : ℕ). BranchAt g s y held (Some r) (accepted_in x m comm) (m + comm_scopes comm) ss P) place branch),
          chosen_branches rs (from + 4) (at + z + 1) (n + length written.texts + 0) end are.2 left next (sym same) met rest,
        )

    -- behind the values, where the branch leads to the end
    behind_chosen :
        (spread : Option Spread) (between at n : ℕ) → IsMetTyped s m comm → AreTyped s (m + comm_scopes comm) ss
        → Stands g at n held (chosen_code s (spread_replicas s spread) ⨾ met_code s m comm ⨾ stmts_code s (m + comm_scopes comm) ss ⨾ over s JMP between)
        → P (at + ((chosen_code s (spread_replicas s spread)).size +
        ((met_code s m comm).size + ((stmts_code s (m + comm_scopes comm) ss).size + 1))) + between)
        → MetAt g s (at + (chosen_code s (spread_replicas s spread)).size) held (accepted_in x m comm) (m + comm_scopes comm) ss P
    behind_chosen spread between at n met typed st end =
        let values = chosen_code s (spread_replicas s spread) in
        let meets = met_code s m comm in
        let code = stmts_code s (m + comm_scopes comm) ss in
        let last = code ⨾ over s JMP between in
        let mid = at + values.size in
        let behind = back g values (meets ⨾ last) held (sized_chosen s (spread_replicas s spread))
        (held_grown g.program values 0 (chosen_changes s (spread_replicas s spread)) at n held ∙ omega arith) st in
        let i = n + length values.texts in
        let stmts = back g meets last held (sized_met s m comm) (held_grown g.program meets 0 (met_change comm s m checked.sound met) mid i held ∙
        omega arith) behind in
        let jumps = back g code (over s JMP between) held (sized_stmts s (m + comm_scopes comm) ss)
        (held_grown g.program code 0 (stmts_change ss s (m + comm_scopes comm) checked.sound typed) (mid + meets.size) (i + length meets.texts) held ∙
        omega arith) stmts in
        let j = mid + meets.size + code.size in
        let to = j + 1 + between in
        let there = performs_at g b x.env k (at + (values.size + (meets.size + (code.size + 1))) + between) to ops (omega arith) end in
        let here = performs_jumped g b x.env k j to ops [] line (lone g s (λ at n. JMP (at + 1 + between)) jumps) (omega arith) there in
        met_stands comm m between mid i ss met typed behind (performs_at g b x.env k j (mid + (meets.size + code.size)) ops (omega arith) here)

    -- all branches of an alternative of the text
    text_branches :
        (spread : Option Spread) (from between at n : ℕ) → IsSpread s spread → IsMetTyped s m comm → AreTyped s (m + comm_scopes comm) ss → at ≡ first + from
        → Stands g at n held (chosen_code s (spread_replicas s spread) ⨾ met_code s m comm ⨾ stmts_code s (m + comm_scopes comm) ss ⨾ over s JMP between)
        → P (at + ((chosen_code s (spread_replicas s spread)).size +
        ((met_code s m comm).size + ((stmts_code s (m + comm_scopes comm) ss).size + 1))) + between)
        → BranchesAt g s x first held others ds P
        → BranchesAt g s x first held (spread_out x m spread guard comm ss ++ others) (branches_from s from spread ++ ds) P
    text_branches None from between at n is met typed place st end rest =
        let start : at + 0 ≡ first + from = omega arith in (
          as_branch comm (alternative m guard comm ss None) (first + from)
              (subst (λ (y : ℕ). MetAt g s y held (accepted_in x m comm) (m + comm_scopes comm) ss P) start (behind_chosen None between at n met typed st end)),
          rest,
        )
    text_branches (Some r) from between at n is met typed place st end rest =
        let values = chosen_code s (replicas x r) in
        chosen_branches (replicas x r) from at n (at + values.size) (spread_values s r is)
        (front g values (met_code s m comm ⨾ stmts_code s (m + comm_scopes comm) ss ⨾ over s JMP between) st) place refl
        (behind_chosen (Some r) between at n met typed st end) rest

  -- `terminate` has none
  ended_branches :
      (m : ℕ) (guard : Option ExprTree) (p : Place) (ss : StmtTrees) (first from : ℕ) (others : List Alternative) (ds : List ℕ) (rs : List Replica)
      → BranchesAt g s x first held others ds P
      → BranchesAt g s x first held (map (λ r. alternative m guard (terminate p) ss (Some r)) rs ++ others) (replica_branches from rs ++ ds) P
  ended_branches m guard p ss first from others ds [] rest = rest
  ended_branches m guard p ss first from others ds (r ∷ rs) rest = (tt, ended_branches m guard p ss first (from + 4) others ds rs rest)

  -- the alternatives that one of the text stands for
  abbrev of_text : ℕ → AltTree → List Alternative
  of_text m (alt spread guard comm ss) = spread_out x m spread guard comm ss

  one_branch :
      (a : AltTree) (m first from between at n : ℕ) (others : List Alternative) (ds : List ℕ) → IsAltTyped s m a → at ≡ first + from →
      Stands g at n held (branch_code s m a between)
      → P (at + (branch_code s m a between).size + between) → BranchesAt g s x first held others ds P
      → BranchesAt g s x first held (of_text m a ++ others) (branches_from s from (spread_of a) ++ ds) P
  one_branch (alt None guard (terminate p) ss) m first from between at n others ds is place st end rest = (tt, rest)
  one_branch (alt (Some r) guard (terminate p) ss) m first from between at n others ds is place st end rest =
      ended_branches m guard p ss first from others ds (replicas x r) rest
  one_branch (alt spread guard (comm_accept a p) ss) m first from between at n others ds is place st end rest =
      text_branches m guard (comm_accept a p) ss first others ds spread from between at n is.0 is.3 is.4 place st end rest
  one_branch (alt spread guard (comm_send d e p) ss) m first from between at n others ds is place st end rest =
      text_branches m guard (comm_send d e p) ss first others ds spread from between at n is.0 is.3 is.4 place st end rest
  one_branch (alt spread guard (comm_receive d v p) ss) m first from between at n others ds is place st end rest =
      text_branches m guard (comm_receive d v p) ss first others ds spread from between at n is.0 is.3 is.4 place st end rest
  one_branch (alt spread guard (timeout e p) ss) m first from between at n others ds is place st end rest =
      text_branches m guard (timeout e p) ss first others ds spread from between at n is.0 is.3 is.4 place st end rest

  all_branches :
      (alts : AltTrees) (m first from else_size at n end : ℕ) → AreAltsTyped s m alts → at ≡ first + from →
      Stands g at n held (branches_code s m alts else_size)
      → at + (branches_code s m alts else_size).size + else_size ≡ end → P end → BranchesAt g s x first held (alternatives x m alts) (distances s m from alts) P
  all_branches no_alts m first from else_size at n end is place st ends left = tt
  all_branches (more_alts (alt spread guard comm ss) alts) m first from else_size at n end is place st ends left =
      let a = alt spread guard comm ss in
      let next = m + alt_scopes a in
      let rest = branches_code s next alts else_size in
      let between = rest.size + else_size in
      let one_code = branch_code s m a between in
      let size = branch_size s m a between 0 in
      let behind = back g one_code rest held (sized_branch s m a between)
      (held_grown g.program one_code 0 (branch_changes a s m between checked.sound is.0) at n held ∙ omega arith) st in
      let next_place : at + one_code.size ≡ first + (from + (branch_code s m a 0).size) = omega (arith, place, size) in
      let next_end : at + one_code.size + rest.size + else_size ≡ end = omega (arith, ends) in
      let here : end ≡ at + one_code.size + between = omega (arith, ends) in
      one_branch a m first from between at n (alternatives x next alts)
      (distances s next (from + (branch_code s m a 0).size) alts) is.0 place (front g one_code rest st)
      (performs_at g b x.env k end (at + one_code.size + between) ops here left)
      (all_branches alts next first (from + (branch_code s m a 0).size) else_size (at + one_code.size)
      (n + length one_code.texts) end is.1 next_place behind next_end left)

  -- ## Whole selects

  -- where the alternatives of a select stand, its decision and its branches, it follows
  select_stands :
      (pri : Bool) (m : ℕ) (alts : AltTrees) (otherwise : Option Otherwise) (at n end size : ℕ) → AreAltsTyped s m alts
      → Stands g at n held (alternatives_code s (alternatives x m alts) (distances s m 0 alts)) → length (alternatives x m alts) ≤ g.arms
      → DecidesAt g s (at + (alternatives_code s (alternatives x m alts) (distances s m 0 alts)).size) held pri otherwise P
      → ((n : ℕ) × Stands g (at + (alternatives_code s (alternatives x m alts) (distances s m 0 alts)).size + 1) n held (branches_code s m alts size))
      → at + (alternatives_code s (alternatives x m alts) (distances s m 0 alts)).size + 1 + (branches_code s m alts size).size + size ≡ end → P end
      → Follows g (from_alternatives x (alternatives x m alts) (record (select_begun pri) { otherwise = otherwise }) k) at ops []
  select_stands pri m alts otherwise at n end size is st few decides branches ends left =
      let all = alternatives x m alts in
      let ds = distances s m 0 alts in
      let code = alternatives_code s all ds in
      let sel : Selecting = record (select_begun pri) { otherwise = otherwise } in
      let first = at + code.size + 1 in
      let stands : SelectAt g s x at held all sel [] P =
      record {
        left = record {
          typed = alternatives_fit s m alts is;
          distances = ds;
          n = n;
          code = st;
          decision = decides;
          branches = all_branches alts m first 0 size first branches.0 end is (omega arith) branches.1 ends left;
        };
        open_ones = tt;
        room = omega arith;
        ahead = tt;
        end = end;
        left_behind = left;
      } in
      all_follow g b names around checked own line k all sel at ops [] (omega arith) stands

  -- the room for the alternatives is told beside the code
  unarmed : (n at i : ℕ) (code : Code) → Stands g at i held (with_arms n code) → Stands g at i held code
  unarmed n at i code st = let arms = st.arms in record { has = st.has; texts = st.texts; room = st.room; arms = omega arith }

  armed : (n at i : ℕ) (code : Code) → Stands g at i held (with_arms n code) → n ≤ g.arms
  armed n at i code st = let arms = st.arms in omega arith

  pub select_follows :
      (pri : Bool) (m : ℕ) (alts : AltTrees) (at n : ℕ) → AreAltsTyped s m alts
      → Stands g at n held (select_code s pri (alternatives x m alts) (distances s m 0 alts) (branches_code s m alts 0) None nothing)
      → P (at + (select_code s pri (alternatives x m alts) (distances s m 0 alts) (branches_code s m alts 0) None nothing).size)
      → Follows g (from_alternatives x (alternatives x m alts) (select_begun pri) k) at ops []
  select_follows pri m alts at n is st left =
      let all = alternatives x m alts in
      let ds = distances s m 0 alts in
      let code = alternatives_code s all ds in
      let branches = branches_code s m alts 0 in
      let last = sel_code s pri None ⨾ branches ⨾ nothing in
      let whole = unarmed (length all) at n (code ⨾ last) st in
      let behind = back g code last held (sized_alternatives s all ds)
      (held_grown g.program code 0 (alternatives_change s checked.sound all ds (alternatives_fit s m alts is)) at n held ∙ omega arith) whole in
      let decides = head g s (λ at n. SEL (if pri then 1 else 0) 0) (branches ⨾ nothing) behind in
      let there = tail g s (λ at n. SEL (if pri then 1 else 0) 0) (branches ⨾ nothing) held (omega arith) behind in
      select_stands pri m alts None at n (at + (code ⨾ last).size) 0 is (front g code last whole) (armed (length all) at n (code ⨾ last) st) decides
      (n + length code.texts + 0, front g branches nothing there) (omega arith) left

  pub select_else_follows :
      (pri : Bool) (m : ℕ) (alts : AltTrees) (ts : StmtTrees) (at n : ℕ) (other branches : Code) → AreAltsTyped s m alts → AreTyped s (m + alts_scopes alts) ts
      → other ≡ stmts_code s (m + alts_scopes alts) ts → branches ≡ branches_code s m alts other.size
      → Stands g at n held (select_code s pri (alternatives x m alts) (distances s m 0 alts) branches (Some branches.size) other)
      → P (at + (select_code s pri (alternatives x m alts) (distances s m 0 alts) branches (Some branches.size) other).size)
      → Follows g (from_alternatives x (alternatives x m alts) (record (select_begun pri) {
        otherwise =
            Some (record { next = m + alts_scopes alts; stmts = ts });
      }) k) at ops []
  select_else_follows pri m alts ts at n other branches is typed e f st left =
      let all = alternatives x m alts in
      let next = m + alts_scopes alts in
      let ds = distances s m 0 alts in
      let code = alternatives_code s all ds in
      let last = sel_code s pri (Some branches.size) ⨾ branches ⨾ other in
      let whole = unarmed (length all) at n (code ⨾ last) st in
      let mid = at + code.size in
      let i = n + length code.texts + 0 in
      let behind = back g code last held (sized_alternatives s all ds)
      (held_grown g.program code 0 (alternatives_change s checked.sound all ds (alternatives_fit s m alts is)) at n held ∙ omega arith) whole in
      let instr = λ (at n : ℕ). SEL (if pri then 1 else 0) (at + 1 + branches.size) in
      let there = tail g s instr (branches ⨾ other) held (omega arith) behind in
      let first = front g branches other there in
      let sized : IsSized branches = subst (λ (c : Code). IsSized c) (sym f) (sized_branches s m alts other.size) in
      let changes : Changes g.program branches 0 0 =
      subst (λ (c : Code). Changes g.program c 0 0) (sym f) (branches_change alts s m other.size checked.sound is) in
      let others = back g branches other held sized (held_grown g.program branches 0 changes (mid + 1) i held ∙ omega arith) there in
      let to = mid + 1 + branches.size in
      let size : other.size ≡ (stmts_code s next ts).size = ap (λ (c : Code). c.size) e in
      let end : at + (code ⨾ last).size ≡ to + (stmts_code s next ts).size = omega (arith, size) in
      let decides : DecidesAt g s mid held pri (Some (record { next = next; stmts = ts })) P = (
        to,
        head g s instr (branches ⨾ other) behind,
        omega arith,
        (
          i + length branches.texts,
          record {
            typed = typed;
            code = subst (λ (c : Code). Stands g to (i + length branches.texts) held c) e others;
            accepts = see_accepts g s ts accepts;
          },
          performs_at g b x.env k (at + (code ⨾ last).size) (to + (stmts_code s next ts).size) ops end left,
        ),
      ) in
      let all_of : branches.size ≡ (branches_code s m alts other.size).size = ap (λ (c : Code). c.size) f in
      let ends : mid + 1 + (branches_code s m alts other.size).size + other.size ≡ at + (code ⨾ last).size = omega (arith, all_of) in
      select_stands pri m alts (Some (record { next = next; stmts = ts })) at n (at + (code ⨾ last).size) other.size is (front g code last whole)
      (armed (length all) at n (code ⨾ last) st) decides
      (i, subst (λ (c : Code). Stands g (mid + 1) i held c) f first) ends left
