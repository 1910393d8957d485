-- The branch of an alternative performs what is left behind it.
use Rattle.std.proofs.Common.{◌≡◌, ℕ, ◌+◌, ℤ, List, [], ◌∷◌, length, Option, Some, None, refl, sym, subst, arith}
use Rattle.pfc_tree.specs.trees.Stmts.{StmtTrees, no_stmts, more_stmts}
use Rattle.pfc_types.specs.rules.Statements.{within_accept}
use Rattle.pfc_semantics.specs.Programs.{Block}
use Rattle.pfc_semantics.specs.Remainders.{Context, Replica, Accepting, Remainder, perform, in_names, part_from, write_again}
use Rattle.pfc_semantics.specs.Alternatives.{context}
use Rattle.pfc_semantics.specs.Channels.{behind_replica}
use Rattle.pfc_semantics.specs.Statements.{behind}
use Rattle.pfc_translation.specs.Codes.{nothing, ◌⨾◌}
use Rattle.pfc_translation.specs.Selects.{replica_code}
use Rattle.pfc_translation.specs.Statements.{stmt_code}
use Rattle.pfc_standing_code.specs.Settings.{Setting, of_own, site_of, with_accept, Stands, Leads, arrived, same_block}
use Rattle.pfc_standing_code.specs.TypedStatements.{IsReplica}
use Rattle.pfc_standing_code.specs.Words.{IsChecked}
use Rattle.pfc_standing_code.specs.Performs.{StmtsAt, MetAt, BranchAt, Performs}
use Rattle.pfc_standing_code.proofs.Accepts.{sees_met}
use Rattle.pfc_translation.specs.Sites.{in_accept}
use Rattle.pfc_kept_code.proofs.Seen.{stands_shown, leads_shown}
use Rattle.pfc_following_source.specs.selects.Phrases.{Behind, BranchPerforms, MeetingPerforms}
use Rattle.pfc_following_source.proofs.selects.Jumps.{performs_led, performs_at, stands_alone, behind_performs}

module _ (g : Setting) (b : Block) (x : Context) (own : g.trial ≡ of_own) where
  -- the write of a replicated alternative, before what is left then
  written_performs :
      (r : Replica) (n : ℕ) (k : Remainder) (at : ℕ) (ops : List ℤ)
      → r.line ≡ x.line → IsReplica (site_of g b x) (Some r) → Stands g at n (length ops) (replica_code (site_of g b x) (Some r))
      → Performs g b x.env (at + (replica_code (site_of g b x) (Some r)).size) ops [] k → Performs g b x.env at ops [] (write_again r k)
  written_performs r n k at ops same is st rest = (
    (own, refl),
    (
      at,
      arrived at,
      (
        subst (λ (l : ℕ). IsReplica (site_of g b (context x.env l)) (Some r)) (sym same) is,
        n,
        subst (λ (l : ℕ). Stands g at n (length ops) (replica_code (site_of g b (context x.env l)) (Some r))) (sym same) st,
        subst (λ (l : ℕ). Performs g b x.env (at + (replica_code (site_of g b (context x.env l)) (Some r)).size) ops [] k) (sym same) rest,
      ),
    ),
  )

  pub branch_leads :
      (r : Option Replica) (m : ℕ) (ts : StmtTrees) (k : Remainder) (at : ℕ) (ops : List ℤ)
      → BranchAt g (site_of g b x) at (length ops) r None m ts (Behind g b x ops k) → Performs g b x.env at ops [] (behind_replica r (behind m ts k))
  branch_leads None m ts k at ops h = behind_performs g b x.env x.line m ts k at ops own h
  branch_leads (Some r) m ts k at ops h =
      let end = at + (replica_code (site_of g b x) (Some r)).size in
      written_performs r h.2 (behind m ts k) at ops h.0 h.1 h.3
      (performs_led g b x.env (behind m ts k) end h.4.0 ops [] h.4.1 (behind_performs g b x.env x.line m ts k h.4.0 ops own h.4.2))

  -- ## Meetings

  -- behind the write
  abbrev met : Accepting → ℕ → StmtTrees → ℕ → Remainder → Remainder
  met a m ts caller k =
      in_names (within_accept x.env a.scope)
      (perform (a.scope + 1) (more_stmts a.stmt no_stmts) (part_from caller a.line (in_names x.env (behind m ts k))))

  met_performs :
      (a : Accepting) (m : ℕ) (ts : StmtTrees) (caller : ℕ) (k : Remainder) (at : ℕ) (ops : List ℤ)
      → IsChecked g b x.env → IsChecked (with_accept g a.scope caller) b (within_accept x.env a.scope)
      → MetAt g (site_of g b x) at (length ops) (Some a) m ts (Behind g b x ops k)
      → Performs (with_accept g a.scope caller) b x.env at ops [] (met a m ts caller k)
  met_performs a m ts caller k at ops outer inner h =
      let inside : Setting = with_accept g a.scope caller in
      let s = in_accept (site_of g b x) a.scope in
      let then = h.1 in
      let code = stmt_code s (a.scope + 1) a.stmt in
      let to = at + code.size in
      let all : StmtsAt inside s at then.0 (length ops) (a.scope + 1) (more_stmts a.stmt no_stmts) =
      record {
        typed = (then.1.typed, tt);
        code = stands_alone inside at then.0 (length ops) code (stands_shown g g.view (a.scope ∷ g.accepts)
            (caller ∷ g.meetings) at then.0 (length ops) code then.1.code);
        accepts = sees_met g (site_of g b x) a.scope caller h.2;
      } in
      let left = part_from caller a.line (in_names x.env (behind m ts k)) in
      let parts : Performs inside b (within_accept x.env a.scope) to ops [] left =
      ((own, refl), (to, arrived to, (then.2.0, refl, tt, (own, (b, same_block, outer, behind_performs g b x.env x.line m ts k (to + 1) ops own then.2.1))))) in
      let rest = performs_at inside b (within_accept x.env a.scope) left to (at + (code ⨾ nothing).size) ops (omega arith) parts in
      (own, (b, same_block, inner, ((own, refl), (at, arrived at, (x.line, (then.0, all, rest))))))

module _ (g : Setting) (b : Block) (x : Context) (own : g.trial ≡ of_own) where
  -- in a meeting, where one more accept is open
  led_inside : (n caller at to : ℕ) (k : Remainder) (ops : List ℤ) → Leads g at to → Performs (with_accept g n caller) b x.env to ops [] k
      → Performs (with_accept g n caller) b x.env at ops [] k
  led_inside n caller at to k ops leads h =
      performs_led (with_accept g n caller) b x.env k at to ops [] (leads_shown g g.view (n ∷ g.accepts) (caller ∷ g.meetings) at to leads) h

  meeting_by :
      (r : Option Replica) (a : Accepting) (m : ℕ) (ts : StmtTrees) (caller : ℕ) (k : Remainder) (at : ℕ) (ops : List ℤ)
      → IsChecked g b x.env → IsChecked (with_accept g a.scope caller) b (within_accept x.env a.scope)
      → BranchAt g (site_of g b x) at (length ops) r (Some a) m ts (Behind g b x ops k)
      → Performs (with_accept g a.scope caller) b x.env at ops [] (behind_replica r (met g b x own a m ts caller k))
  meeting_by None a m ts caller k at ops outer inner h = met_performs g b x own a m ts caller k at ops outer inner h
  meeting_by (Some r) a m ts caller k at ops outer inner h =
      let write = replica_code (site_of g b x) (Some r) in
      written_performs (with_accept g a.scope caller) b x own r h.2 (met g b x own a m ts caller k) at ops h.0 h.1
      (stands_shown g g.view (a.scope ∷ g.accepts) (caller ∷ g.meetings) at h.2 (length ops) write h.3)
      (led_inside a.scope caller (at + write.size) h.4.0 (met g b x own a m ts caller k) ops h.4.1
      (met_performs g b x own a m ts caller k h.4.0 ops outer inner h.4.2))

pub branch_performs : (g : Setting) (b : Block) (x : Context) → BranchPerforms g b x
branch_performs g b x own r m ts k at ops h = branch_leads g b x own r m ts k at ops h

pub meeting_performs : (g : Setting) (b : Block) (x : Context) → MeetingPerforms g b x
meeting_performs g b x own o a caller k at ops outer inner h = meeting_by g b x own o.replica a o.next o.stmts caller k at ops outer inner h
