use Rattle.std.proofs.Common.{◌≡◌, subst, sym, ap, ◌∙◌}
use Rattle.std.proofs.lemmas.Result.{on_ok_weaker}
use Rattle.pfc_tree.specs.views.Stmts.{stmts_view}
use Rattle.pfc_phrases.specs.Views.{env_view}
use Rattle.pfc_translation.specs.Codes.{unseen}
use Rattle.pfc_translation.specs.Statements.{stmts_code}
use Rattle.pfc_addresses.specs.Sites.{site_view}
use Rattle.pfc_expression_code.specs.Putting.{Made, IsMade}
use Rattle.pfc_unseen_code.specs.Statements.{with_stmts}
use Rattle.pfc_unseen_code.proofs.Kept.{stmts_kept}
use Rattle.pfc_unseen_code.proofs.statements.keep_unseen.Goals as goal

pub returns-clause-code : goal.returns-clause-code
returns-clause-code c =
    let s = site_view c.args.site in
    let n = c.args.next in
    let ss = stmts_view c.args.ss.now in
    let x = c.args.code.now in
    let y = c.stmts.new.code in
    on_ok_weaker c.stmts.result
    (λ (kept : y ≡ with_stmts (env_view c.env.result) n ss x).
    subst (λ (m : Made). IsMade (unseen (stmts_code s n ss)) x m) (sym (kept ∙ ap (λ v. with_stmts v n ss x) c.env.ensures.site)) (stmts_kept s n ss x))
    c.stmts.ensures.code
