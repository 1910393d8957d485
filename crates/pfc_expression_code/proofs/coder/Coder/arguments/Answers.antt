use Rattle.pfc_translation.specs.Expressions.{args_code}
use Rattle.pfc_tree.specs.views.Exprs.{actuals_view}
use Rattle.pfc_expression_code.specs.Lists.{ways_in, ways_of, args_list}
use Rattle.pfc_addresses.specs.Sites.{site_view}
use Rattle.pfc_expression_code.specs.Putting.{Made}
use Rattle.pfc_expression_code.proofs.Putting.{ok_listed, err_listed, args_listed}
use Rattle.pfc_expression_code.proofs.coder.Coder.arguments.Goals as goal

pub returns-clause-code : goal.returns-clause-code
unfolding ways_in
returns-clause-code c =
    let s = site_view c.args.site in
    let inside : Made = record { code = c.self.inside.code; texts = c.self.inside.texts.items; arms = c.self.inside.arms } in
    ok_listed c.pass.result (args_code s c.args.formals.now (actuals_view c.args.args.now))
    (args_list (ways_of s) c.args.formals.now (actuals_view c.args.args.now)) c.pass.new.code inside c.args.self.now c.self.view_is
    (args_listed s c.args.formals.now (actuals_view c.args.args.now)) c.pass.ensures.code

pub returns-clause-large : goal.returns-clause-large
unfolding ways_in
returns-clause-large c =
    let s = site_view c.args.site in
    let inside : Made = record { code = c.self.inside.code; texts = c.self.inside.texts.items; arms = c.self.inside.arms } in
    err_listed c.pass.result (args_code s c.args.formals.now (actuals_view c.args.args.now))
    (args_list (ways_of s) c.args.formals.now (actuals_view c.args.args.now)) inside c.args.self.now c.self.view_is
    (args_listed s c.args.formals.now (actuals_view c.args.args.now)) c.pass.ensures.large
