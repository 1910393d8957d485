use Rattle.pfc_translation.specs.Codes.{one}
use Rattle.pfc_expression_code.specs.Lists.{ways_in, ways_of, single}
use Rattle.pfc_addresses.specs.Sites.{site_view}
use Rattle.pfc_expression_code.specs.Putting.{Made}
use Rattle.pfc_expression_code.proofs.Putting.{ok_listed, err_listed, one_listed}
use Rattle.pfc_expression_code.proofs.coder.Coder.put.Goals as goal

pub returns-clause-code : goal.returns-clause-code
unfolding ways_in
returns-clause-code c =
    let s = site_view c.args.site in
    let inside : Made = record { code = c.self.inside.code; texts = c.self.inside.texts.items; arms = c.self.inside.arms } in
    ok_listed c.put.result (one s c.args.instr) (single (ways_of s) c.args.instr) c.put.new.code inside c.args.self.now c.self.view_is
    (one_listed s c.args.instr) c.put.ensures.code

pub returns-clause-large : goal.returns-clause-large
unfolding ways_in
returns-clause-large c =
    let s = site_view c.args.site in
    let inside : Made = record { code = c.self.inside.code; texts = c.self.inside.texts.items; arms = c.self.inside.arms } in
    err_listed c.put.result (one s c.args.instr) (single (ways_of s) c.args.instr) inside c.args.self.now c.self.view_is (one_listed s c.args.instr)
    c.put.ensures.large
