-- What is left behind a statement follows its next action.
use Rattle.std.proofs.Common.{◌≡◌, ℕ, ◌+◌, ◌≤◌, ℤ, List, [], length, refl, sym, ap, subst, arith}
use Rattle.pfc_tree.specs.trees.Stmts.{StmtTree, repeat_until, no_stmts, more_stmts}
use Rattle.pfc_types.specs.rules.Expressions.{Env}
use Rattle.pfc_semantics.specs.Programs.{Block}
use Rattle.pfc_semantics.specs.Remainders.{Remainder, Action, ends, perform, in_names, turn, until, behind_pass, next_pass, write_on, read_on, at_coend}
use Rattle.pfc_semantics.specs.Remainders.{part_from, write_again, go_through, try_guard, scan_on, try_other}
use Rattle.pfc_semantics.specs.Alternatives.{context}
use Rattle.pfc_semantics.specs.Statements.{again}
use Rattle.pfc_semantics.specs.Rewriting.{from_remainder}
use Rattle.pfc_translation.specs.Codes.{◌⨾◌, nothing}
use Rattle.pfc_translation.specs.Calls.{writes_code, reads_code}
use Rattle.pfc_translation.specs.Statements.{stmt_code, stmts_code}
use Rattle.pfc_standing_code.specs.Settings.{Trial, Setting, of_own, site_of, arrived}
use Rattle.pfc_standing_code.specs.Effects.{Arm}
use Rattle.pfc_standing_code.specs.Performs.{StmtAt, StmtsAt, own_room, Performs}
use Rattle.pfc_standing_code.specs.Following.{IsTurnOf, of_loop, Follows, arrives}
use Rattle.pfc_standing_code.proofs.Checked.{checked_for}
use Rattle.pfc_following_expressions.proofs.Moves.{through, follows_moved}
use Rattle.pfc_following_statements.proofs.Anywhere.{write_follows, read_follows}
use Rattle.pfc_following_source.specs.structures.Left.{RemainderFollows}
use Rattle.pfc_following_source.proofs.selects.Jumps.{stands_alone}
use Rattle.pfc_following_source.proofs.selects.Anywhere.{opening_follows_anywhere}
use Rattle.pfc_following_source.proofs.structures.Guards.{guard_follows, other_follows}
use Rattle.pfc_following_source.proofs.structures.Anywhere.{every_list_anywhere, until_left_follows, pass_left_follows, pass_end_follows, replica_left_follows}

least : (n : ℕ) → 0 ≤ n
least n = omega arith

module _ (g : Setting) where
  moved : (b : Block) (env : Env) (at to : ℕ) (ops : List ℤ) (k : Remainder) → at ≡ to → Performs g b env at ops [] k → Performs g b env to ops [] k
  moved b env at to ops k e h = subst (λ (y : ℕ). Performs g b env y ops [] k) e h

  cleared : {n : Action} (at : ℕ) (ops : List ℤ) (arms : List Arm) → arms ≡ [] → Follows g n at ops [] → Follows g n at ops arms
  cleared {n} at ops arms e h = subst (λ (y : List Arm). Follows g n at ops y) (sym e) h

  -- a loop stands once more
  stands_again :
      (b : Block) (env : Env) (line m : ℕ) (t : StmtTree) (k : Remainder) (at n : ℕ) (ops : List ℤ)
      → g.trial ≡ of_own → StmtAt g (site_of g b (context env line)) at n (length ops) m t
      → Performs g b env (at + (stmt_code (site_of g b (context env line)) m t).size) ops [] k → Performs g b env at ops [] (again m t k)
  stands_again b env line m t k at n ops own is rest =
      let code = stmt_code (site_of g b (context env line)) m t in
      let all : StmtsAt g (site_of g b (context env line)) at n (length ops) m (more_stmts t no_stmts) =
      record { typed = (is.typed, tt); code = stands_alone g at n (length ops) code is.code; accepts = is.accepts } in
      ((own, refl), (at, arrived at, (line, (n, all, moved b env (at + code.size) (at + (code ⨾ nothing).size) ops k (omega arith) rest))))

pub remainder_follows : (g : Setting) → RemainderFollows g
remainder_follows g (ends line) b env at ops arms checked room h =
    cleared g at ops arms h.0.1 (through g [] (least g.arms) at h.1.0 ops h.1.1 room (arrives h.1.0 ops [] (b, tt, ((h.0.0, refl), h.1.2))))
remainder_follows g (perform m ts k) b env at ops arms checked room h =
    let to = h.1.0 in
    let line = h.1.2.0 in
    let end = to + (stmts_code (site_of g b (context env line)) m ts).size in
    cleared g at ops arms h.0.1 (through g [] (least g.arms) at to ops h.1.1 room
    (every_list_anywhere g b env checked h.0.0 ts line m k (from_remainder env k) to h.1.2.1.0 end ops h.1.2.1.1 refl h.1.2.1.2
    (remainder_follows g k b env end ops [] (checked_for g b env k checked) room h.1.2.1.2)))
remainder_follows g (in_names inner k) b env at ops arms checked room h =
    let p = h.1 in remainder_follows g k p.0 inner at ops arms (checked_for g p.0 inner k p.2) room p.3
remainder_follows g (turn m loop k) b env at ops arms checked room h =
    let p = h.1.2 in
    cleared g at ops arms h.0.1 (through g [] (least g.arms) at h.1.0 ops h.1.1 room
    (arrives h.1.0 ops [] (b, checked, ((h.0.0, refl), of_loop p.1 p.2 (stands_again g b env p.0 m loop k p.1 p.3.0 ops h.0.0 p.3.1 p.3.2)))))
remainder_follows g (until m ts e p k) b env at ops arms checked room h =
    let q = h.1.2 in
    let end = q.1 + (stmt_code (site_of g b (context env q.0)) m (repeat_until ts e p)).size in
    cleared g at ops arms h.0.1 (through g [] (least g.arms) at h.1.0 ops h.1.1 room
    (follows_moved g [] (least g.arms) (q.1 + (stmts_code (site_of g b (context env p.line)) m ts).size) h.1.0 (sym q.2)
    (until_left_follows g b env checked h.0.0 ts e p q.0 m k (from_remainder env k) q.1 q.3.0 ops q.3.1 q.3.2
    (remainder_follows g k b env end ops [] (checked_for g b env k checked) room q.3.2))))
remainder_follows g (behind_pass f k) b env at ops arms checked room h =
    let to = h.1.0 in
    let q = h.1.2 in
    let place = q.0 + 1 + (stmt_code (site_of g b (context env f.line)) f.next f.pass).size in
    let is : to ≡ place = q.5 in
    let next : to + 1 ≡ place + 1 = omega arith in
    let few : length q.2 ≤ g.room = (let held = ap (λ (y : List ℤ). length y) q.3.held in omega arith) in
    let rest = moved g b env (to + 1) (place + 1) q.2 k next q.6 in
    cleared g at ops arms h.0.1 (through g [] (least g.arms) at to ops h.1.1 room
    (follows_moved g [] (least g.arms) place to (sym is)
    (pass_end_follows g b env checked h.0.0 f k (from_remainder env k) q.0 q.1 ops q.2 q.3 q.4 rest
    (remainder_follows g k b env (place + 1) q.2 [] (checked_for g b env k checked) few rest))))
remainder_follows g (next_pass f k) b env at ops arms checked room h =
    let q = h.1.2 in
    cleared g at ops arms h.0.1 (through g [] (least g.arms) at h.1.0 ops h.1.1 room
    (pass_left_follows g b env checked h.0.0 f k h.1.0 q.0 ops q.1 q.2 q.3 q.4))
remainder_follows g (write_on line args newline k) b env at ops arms checked room h =
    let q = h.1.2 in
    let end = h.1.0 + (writes_code (site_of g b (context env line)) args newline).size in
    cleared g at ops arms h.0.1 (through g [] (least g.arms) at h.1.0 ops h.1.1 room
    (write_follows g b (context env line) checked h.0.0 args newline k q.0 (from_remainder env k) h.1.0 q.1 ops q.2 q.3
    (remainder_follows g k b env end ops [] (checked_for g b env k checked) room q.3)))
remainder_follows g (read_on line args skip k) b env at ops arms checked room h =
    let q = h.1.2 in
    let end = h.1.0 + (reads_code (site_of g b (context env line)) args skip).size in
    cleared g at ops arms h.0.1 (through g [] (least g.arms) at h.1.0 ops h.1.1 room
    (read_follows g b (context env line) checked h.0.0 args skip k q.0 (from_remainder env k) h.1.0 q.1 ops q.2 q.3
    (remainder_follows g k b env end ops [] (checked_for g b env k checked) room q.3)))
remainder_follows g (at_coend line k) b env at ops arms checked room h =
    cleared g at ops arms h.0.1 (through g [] (least g.arms) at h.1.0 ops h.1.1 room (arrives h.1.0 ops [] (b, checked, ((h.0.0, refl), h.1.2))))
remainder_follows g (part_from caller line k) b env at ops arms checked room h =
    cleared g at ops arms h.0.1 (through g [] (least g.arms) at h.1.0 ops h.1.1 room (arrives h.1.0 ops [] (b, checked, ((h.0.0, refl), h.1.2))))
remainder_follows g (write_again r k) b env at ops arms checked room h =
    let q = h.1.2 in
    cleared g at ops arms h.0.1 (through g [] (least g.arms) at h.1.0 ops h.1.1 room (replica_left_follows g b env checked h.0.0 r k h.1.0 q.1 ops q.0 q.2 q.3))
remainder_follows g (go_through line a rest sel k) b env at ops arms checked room h =
    let p = h.1.2 in
    let few : length arms ≤ g.arms = (let all = p.1.room in omega arith) in
    through g arms few at h.1.0 ops h.1.1 room (opening_follows_anywhere g b (context env line) checked h.0 a rest sel k h.1.0 ops arms few p.0 p.1)
remainder_follows g (try_guard bar k) b env at ops arms checked room h =
    cleared g at ops arms h.0.1 (through g [] (least g.arms) at h.1.0 ops h.1.1 room
    (guard_follows g b (least g.arms) env bar k h.1.0 ops h.0.0 h.1.2.0 h.1.2.1 (λ end known rest. remainder_follows g k b env end ops [] known room rest)))
remainder_follows g (scan_on scan k) b env at ops arms checked room h =
    let q = h.1.2 in
    let turn : IsTurnOf g.trial scan = subst (λ (trial : Trial). IsTurnOf trial scan) (sym q.0.1) refl in
    let fit : length ops ≤ own_room g.trial g.room = subst (λ (trial : Trial). length ops ≤ own_room trial g.room) (sym q.0.1) room in
    cleared g at ops arms h.0 (through g [] (least g.arms) at h.1.0 ops h.1.1 room (arrives h.1.0 ops [] (b, tt, (refl, (turn, fit, q.1, q.2)))))
remainder_follows g (try_other w scan k) b env at ops arms checked room h =
    let q = h.1.2 in
    cleared g at ops arms h.0 (through g [] (least g.arms) at h.1.0 ops h.1.1 room
    (other_follows g b (least g.arms) env w scan k h.1.0 ops q.0 q.1 q.2 q.3))
