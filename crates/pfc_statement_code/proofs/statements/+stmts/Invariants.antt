-- Each loop: what is made with the code that is still to come is all.
use Rattle.std.proofs.Common.{◌≡◌, ◌+◌, drop}
use Rattle.pfc_tree.specs.views.Stmts.{stmts_view, arms_view, alts_view}
use Rattle.pfc_types.specs.rules.Statements.{stmts_scopes}
use Rattle.pfc_translation.specs.Statements.{stmts_code}
use Rattle.pfc_addresses.specs.Sites.{site_view}
use Rattle.pfc_statement_code.proofs.Loops.{IsOnTheWay, ArmsGo, BranchesGo}
use Rattle.pfc_statement_code.proofs.statements.+stmts.Given as goal

abbrev pub invariant-all-loop-s : goal.invariant-all-loop-s
invariant-all-loop-s l = record {
  way :
      IsOnTheWay (stmts_code (site_view l.from.site) l.next (stmts_view (drop l.s-index l.ss)))
      (stmts_code (site_view l.from.site) l.from.next (stmts_view l.ss)) l.initial.code l.code;
  next : l.next + stmts_scopes (stmts_view (drop l.s-index l.ss)) ≡ l.from.next + stmts_scopes (stmts_view l.ss);
}

abbrev pub invariant-arms-loop-a : goal.invariant-arms-loop-a
invariant-arms-loop-a l =
    ArmsGo (site_view l.from.site) l.next (arms_view (drop l.a-index l.all)) l.code l.marks.starts.items l.marks.ends.items
    l.from.next (arms_view l.all) l.initial.code l.initial.marks.starts.items l.initial.marks.ends.items

abbrev pub invariant-branches-loop-a : goal.invariant-branches-loop-a
invariant-branches-loop-a l =
    BranchesGo (site_view l.from.site) l.next (alts_view (drop l.a-index l.alts)) l.code l.marks.starts.items l.marks.ends.items
    l.from.next (alts_view l.alts) l.initial.code l.initial.marks.starts.items l.initial.marks.ends.items
