-- Each loop: the statements still to come complete the count of the scopes, and what is found.
use Rattle.std.proofs.Common.{◌≡◌, ◌+◌, drop}
use Rattle.pfc_tree.specs.views.Stmts.{stmts_view, arms_view, alts_view}
use Rattle.pfc_types.specs.rules.Statements.{stmts_scopes, arms_scopes, alts_scopes, broken_stmts, broken_arms, broken_alts}
use Rattle.pfc_phrases.specs.Found.{noted}
use Rattle.pfc_phrases.specs.Views.{env_view}
use Rattle.pfc_rules.proofs.statements.+stmts.Given as goal

abbrev pub invariant-stmts-loop-s : goal.invariant-stmts-loop-s
invariant-stmts-loop-s l =
    (l.after + stmts_scopes (stmts_view (drop l.s-index l.ss)) ≡ l.fn.next + stmts_scopes (stmts_view l.ss))
    × (noted l.best (broken_stmts (env_view l.env) l.after (stmts_view (drop l.s-index l.ss))) ≡ noted l.fn.best
    (broken_stmts (env_view l.env) l.fn.next (stmts_view l.ss)))

abbrev pub invariant-arms-loop-a : goal.invariant-arms-loop-a
invariant-arms-loop-a l =
    (l.after + arms_scopes (arms_view (drop l.a-index l.all)) ≡ l.fn.next + arms_scopes (arms_view l.all))
    × (noted l.best (broken_arms (env_view l.env) l.after l.t (arms_view (drop l.a-index l.all))) ≡ noted l.fn.best
    (broken_arms (env_view l.env) l.fn.next l.t (arms_view l.all)))

abbrev pub invariant-alts-loop-a : goal.invariant-alts-loop-a
invariant-alts-loop-a l =
    (l.after + alts_scopes (alts_view (drop l.a-index l.all)) ≡ l.fn.next + alts_scopes (alts_view l.all))
    × (noted l.best (broken_alts (env_view l.env) l.after (alts_view (drop l.a-index l.all))) ≡ noted l.fn.best
    (broken_alts (env_view l.env) l.fn.next (alts_view l.all)))
