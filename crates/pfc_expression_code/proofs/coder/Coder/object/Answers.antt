use Rattle.pfc_translation.specs.Expressions.{object_code}
use Rattle.pfc_tree.specs.views.Exprs.{desig_view}
use Rattle.pfc_expression_code.specs.Lists.{ways_in, ways_of, object_list}
use Rattle.pfc_addresses.specs.Sites.{site_view}
use Rattle.pfc_expression_code.specs.Putting.{Made}
use Rattle.pfc_expression_code.proofs.Putting.{ok_listed, err_listed, object_listed}
use Rattle.pfc_expression_code.proofs.coder.Coder.object.Goals as goal

pub returns-clause-code : goal.returns-clause-code
unfolding ways_in
returns-clause-code c =
    let s = site_view c.args.site in
    let inside : Made = record { code = c.self.inside.code; texts = c.self.inside.texts.items; arms = c.self.inside.arms } in
    ok_listed c.object.result (object_code s (desig_view c.args.d.now)) (object_list (ways_of s) (desig_view c.args.d.now)) c.object.new.code inside
    c.args.self.now c.self.view_is (object_listed s (desig_view c.args.d.now)) c.object.ensures.code

pub returns-clause-large : goal.returns-clause-large
unfolding ways_in
returns-clause-large c =
    let s = site_view c.args.site in
    let inside : Made = record { code = c.self.inside.code; texts = c.self.inside.texts.items; arms = c.self.inside.arms } in
    err_listed c.object.result (object_code s (desig_view c.args.d.now)) (object_list (ways_of s) (desig_view c.args.d.now)) inside c.args.self.now
    c.self.view_is (object_listed s (desig_view c.args.d.now)) c.object.ensures.large
