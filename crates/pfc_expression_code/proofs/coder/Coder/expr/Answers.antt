use Rattle.pfc_translation.specs.Expressions.{expr_code}
use Rattle.pfc_tree.specs.views.Exprs.{expr_view}
use Rattle.pfc_expression_code.specs.Lists.{ways_in, ways_of, expr_list}
use Rattle.pfc_addresses.specs.Sites.{site_view}
use Rattle.pfc_expression_code.specs.Putting.{Made}
use Rattle.pfc_expression_code.proofs.Putting.{ok_listed, err_listed, expr_listed}
use Rattle.pfc_expression_code.proofs.coder.Coder.expr.Goals as goal

pub returns-clause-code : goal.returns-clause-code
unfolding ways_in
returns-clause-code c =
    let s = site_view c.args.site in
    let inside : Made = record { code = c.self.inside.code; texts = c.self.inside.texts.items; arms = c.self.inside.arms } in
    ok_listed c.expr.result (expr_code s (expr_view c.args.e.now)) (expr_list (ways_of s) (expr_view c.args.e.now)) c.expr.new.code inside c.args.self.now
    c.self.view_is (expr_listed s (expr_view c.args.e.now)) c.expr.ensures.code

pub returns-clause-large : goal.returns-clause-large
unfolding ways_in
returns-clause-large c =
    let s = site_view c.args.site in
    let inside : Made = record { code = c.self.inside.code; texts = c.self.inside.texts.items; arms = c.self.inside.arms } in
    err_listed c.expr.result (expr_code s (expr_view c.args.e.now)) (expr_list (ways_of s) (expr_view c.args.e.now)) inside c.args.self.now c.self.view_is
    (expr_listed s (expr_view c.args.e.now)) c.expr.ensures.large
