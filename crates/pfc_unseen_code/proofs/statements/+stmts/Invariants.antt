-- Each loop: what is kept so far, with what is still to come, is all.
use Rattle.std.proofs.Common.{◌≡◌, ◌+◌, drop}
use Rattle.pfc_tree.specs.views.Stmts.{stmts_view, arms_view, alts_view}
use Rattle.pfc_types.specs.rules.Statements.{stmts_scopes, arms_scopes, alts_scopes}
use Rattle.pfc_phrases.specs.Views.{env_view}
use Rattle.pfc_unseen_code.specs.Statements.{with_stmts, with_case_arms, with_branches}
use Rattle.pfc_unseen_code.proofs.statements.+stmts.Given as goal

abbrev pub invariant-stmts-loop-s : goal.invariant-stmts-loop-s
invariant-stmts-loop-s l = record {
  kept :
      with_stmts (env_view l.env) l.after (stmts_view (drop l.s-index l.ss)) l.code
      ≡ with_stmts (env_view l.env) l.next (stmts_view l.ss) l.initial.code;
  next : l.after + stmts_scopes (stmts_view (drop l.s-index l.ss)) ≡ l.next + stmts_scopes (stmts_view l.ss);
}

abbrev pub invariant-arms-loop-a : goal.invariant-arms-loop-a
invariant-arms-loop-a l = record {
  kept :
      with_case_arms (env_view l.env) l.after (arms_view (drop l.a-index l.all)) l.code
      ≡ with_case_arms (env_view l.env) l.next (arms_view l.all) l.initial.code;
  next : l.after + arms_scopes (arms_view (drop l.a-index l.all)) ≡ l.next + arms_scopes (arms_view l.all);
}

abbrev pub invariant-branches-loop-a : goal.invariant-branches-loop-a
invariant-branches-loop-a l = record {
  kept :
      with_branches (env_view l.env) l.after (alts_view (drop l.a-index l.alts)) l.code
      ≡ with_branches (env_view l.env) l.next (alts_view l.alts) l.initial.code;
  next : l.after + alts_scopes (alts_view (drop l.a-index l.alts)) ≡ l.next + alts_scopes (alts_view l.alts);
}
