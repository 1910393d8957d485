use Rattle.std.proofs.Common.{List, length, ap₂, ◌∙◌}
use Rattle.pfc_tree.specs.views.Stmts.{arms_view}
use Rattle.pfc_expression_code.specs.Putting.{Made}
use Rattle.pfc_statement_code.specs.Leading.{have_all, all_led}
use Rattle.pfc_statement_code.specs.Arms.{tests_led}
use Rattle.pfc_statement_code.proofs.Arms.{have_all-tests_led, length-tests_led}
use Rattle.pfc_statement_code.proofs.cases.lead_arms.Goals as goal

pub lead_all-requires : goal.lead_all-requires
lead_all-requires c =
    let code = c.args.code.now.code in
    let arms = arms_view c.args.all.now in
    ap₂ (λ (m : Made) (l : List _). have_all m.code l) c.lead_tests.ensures c.deref-2.ensures.value
    ∙ have_all-tests_led code c.args.first arms c.deref.result.now c.args.marks.now.ends.items ∙ c.requires.ends

pub returns : goal.returns
returns c =
    let m = c.args.code.now in
    let arms = arms_view c.args.all.now in
    let start = c.args.first in
    c.lead_all.ensures
    ∙ ap₂ (λ (x : Made) (l : List _). record x { code = all_led x.code l (length x.code) }) c.lead_tests.ensures c.deref-2.ensures.value
    ∙ ap₂ (λ (u : List _) k. record m { code = all_led (tests_led m.code start arms u) c.args.marks.now.ends.items k }) c.deref.ensures.value
    (length-tests_led m.code start arms c.deref.result.now)
