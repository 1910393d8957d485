use Rattle.pfc_types.specs.rules.Expressions.{find}
use Rattle.pfc_semantics.specs.Expressions.{spot_of}
use Rattle.pfc_translation.specs.Expressions.{address_code}
use Rattle.pfc_tree.specs.views.Exprs.{selectors_view}
use Rattle.pfc_expression_code.specs.Lists.{ways_in, ways_of, part_list}
use Rattle.pfc_addresses.specs.Sites.{site_view}
use Rattle.pfc_expression_code.specs.Putting.{Made}
use Rattle.pfc_expression_code.proofs.Putting.{ok_listed, err_listed, address_listed}
use Rattle.pfc_expression_code.proofs.coder.Coder.address.Goals as goal

pub returns-clause-code : goal.returns-clause-code
unfolding ways_in
returns-clause-code c =
    let s = site_view c.args.site in
    let inside : Made = record { code = c.self.inside.code; texts = c.self.inside.texts.items; arms = c.self.inside.arms } in
    ok_listed c.address.result (address_code s (find s.env c.args.name.now) (selectors_view c.args.ss.now))
    (part_list (ways_of s) (spot_of s.env (find s.env c.args.name.now)) (selectors_view c.args.ss.now)) c.address.new.code inside c.args.self.now
    c.self.view_is (address_listed s (find s.env c.args.name.now) (selectors_view c.args.ss.now)) c.address.ensures.code

pub returns-clause-large : goal.returns-clause-large
unfolding ways_in
returns-clause-large c =
    let s = site_view c.args.site in
    let inside : Made = record { code = c.self.inside.code; texts = c.self.inside.texts.items; arms = c.self.inside.arms } in
    err_listed c.address.result (address_code s (find s.env c.args.name.now) (selectors_view c.args.ss.now))
    (part_list (ways_of s) (spot_of s.env (find s.env c.args.name.now)) (selectors_view c.args.ss.now)) inside c.args.self.now c.self.view_is
    (address_listed s (find s.env c.args.name.now) (selectors_view c.args.ss.now)) c.address.ensures.large
