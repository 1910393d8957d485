-- Each loop: the phrases still to come complete the count.
use Rattle.std.proofs.Common.{◌≡◌, ◌+◌, drop}
use Rattle.pfc_tree.specs.views.Stmts.{stmts_view, arms_view, alts_view}
use Rattle.pfc_types.specs.rules.Statements.{stmts_scopes, arms_scopes, alts_scopes}
use Rattle.pfc_program.proofs.counts.+stmts.Given as goal

abbrev pub invariant-behind_stmts-loop-s : goal.invariant-behind_stmts-loop-s
invariant-behind_stmts-loop-s l = l.after + stmts_scopes (stmts_view (drop l.s-index l.ss)) ≡ l.fn.next + stmts_scopes (stmts_view l.ss)

abbrev pub invariant-behind_arms-loop-a : goal.invariant-behind_arms-loop-a
invariant-behind_arms-loop-a l = l.after + arms_scopes (arms_view (drop l.a-index l.arms)) ≡ l.fn.next + arms_scopes (arms_view l.arms)

abbrev pub invariant-behind_alts-loop-a : goal.invariant-behind_alts-loop-a
invariant-behind_alts-loop-a l = l.after + alts_scopes (alts_view (drop l.a-index l.alts)) ≡ l.fn.next + alts_scopes (alts_view l.alts)
