-- Each loop: what was counted so far, with what is still to come, makes the whole.
use Rattle.std.proofs.Common.{◌≡◌, ◌+◌, drop}
use Rattle.pfc_tree.specs.views.Stmts.{stmts_view, arms_view, alts_view}
use Rattle.pfc_types.specs.rules.Statements.{stmts_scopes, arms_scopes, alts_scopes}
use Rattle.pfc_phrases.specs.Views.{env_view}
use Rattle.pfc_code_size.specs.Statements.{stmts_size, arms_size, branches_size}
use Rattle.pfc_code_size.proofs.statements.+stmts.Given as goal

abbrev pub invariant-stmts-loop-s : goal.invariant-stmts-loop-s
invariant-stmts-loop-s l = record {
  count : l.reached.count + stmts_size l.env.scopes.now (env_view l.env) l.reached.next (stmts_view (drop l.s-index l.ss)) ≡ l.fn.from.count +
      stmts_size l.env.scopes.now (env_view l.env) l.fn.from.next (stmts_view l.ss);
  next : l.reached.next + stmts_scopes (stmts_view (drop l.s-index l.ss)) ≡ l.fn.from.next + stmts_scopes (stmts_view l.ss);
}

abbrev pub invariant-arms-loop-a : goal.invariant-arms-loop-a
invariant-arms-loop-a l = record {
  count : l.reached.count + arms_size l.env.scopes.now (env_view l.env) l.reached.next (arms_view (drop l.a-index l.all)) ≡ l.fn.from.count +
      arms_size l.env.scopes.now (env_view l.env) l.fn.from.next (arms_view l.all);
  next : l.reached.next + arms_scopes (arms_view (drop l.a-index l.all)) ≡ l.fn.from.next + arms_scopes (arms_view l.all);
}

abbrev pub invariant-branches-loop-a : goal.invariant-branches-loop-a
invariant-branches-loop-a l = record {
  count : l.reached.count + branches_size l.env.scopes.now (env_view l.env) l.reached.next (alts_view (drop l.a-index l.alts)) ≡ l.fn.from.count +
      branches_size l.env.scopes.now (env_view l.env) l.fn.from.next (alts_view l.alts);
  next : l.reached.next + alts_scopes (alts_view (drop l.a-index l.alts)) ≡ l.fn.from.next + alts_scopes (alts_view l.alts);
}
