use Rattle.std.proofs.Common.{arith}
use Rattle.pfc_code.specs.declared.instructions.Instr.TheVariants.{CERR}
use Rattle.pfc_tree.specs.views.Exprs.{expr_view}
use Rattle.pfc_tree.specs.views.Stmts.{arms_view}
use Rattle.pfc_translation.specs.Codes.{◌⨾◌, one}
use Rattle.pfc_translation.specs.Expressions.{expr_code}
use Rattle.pfc_addresses.specs.Sites.{site_view}
use Rattle.pfc_expression_code.proofs.Joining.{made_both}
use Rattle.pfc_statement_code.specs.Arms.{open_tests}
use Rattle.pfc_statement_code.proofs.Arms.{open_tests_size}
use Rattle.pfc_statement_code.proofs.Loops.{refused}
use Rattle.pfc_statement_code.proofs.cases.tests.Goals as goal

pub returns-in_err-expr-clause-large : goal.returns-in_err-expr-clause-large
returns-in_err-expr-clause-large c =
    let s = site_view c.args.site in
    refused c.from_residual.result c.in_err-expr.field-0.0 (expr_code s (expr_view c.args.e.now) ⨾ open_tests s (arms_view c.args.all.now) ⨾ one s CERR)
    c.args.code.now c.from_residual.ensures.1 (λ full. omega (arith, c.in_err-expr.ensures.large full))

pub returns-in_err-all_labels-clause-large : goal.returns-in_err-all_labels-clause-large
returns-in_err-all_labels-clause-large c =
    let s = site_view c.args.site in
    refused c.from_residual-in_err-all_labels.result c.in_err-all_labels.field-0.0
    (expr_code s (expr_view c.args.e.now) ⨾ open_tests s (arms_view c.args.all.now) ⨾ one s CERR) c.args.code.now
    c.from_residual-in_err-all_labels.ensures.1 (λ full. omega (arith, c.in_err-all_labels.ensures.large full, c.in_ok-expr.ensures.code.size))

pub returns-in_err-put-clause-large : goal.returns-in_err-put-clause-large
returns-in_err-put-clause-large c =
    let s = site_view c.args.site in
    refused c.from_residual-in_err-put.result c.in_err-put.field-0.0
    (expr_code s (expr_view c.args.e.now) ⨾ open_tests s (arms_view c.args.all.now) ⨾ one s CERR) c.args.code.now
    c.from_residual-in_err-put.ensures.1
    (λ full. omega (arith, c.in_err-put.ensures.large full, c.in_ok-expr.ensures.code.size, c.in_ok-all_labels.ensures.code.size))

pub returns-clause-code : goal.returns-clause-code
returns-clause-code c =
    let s = site_view c.args.site in
    let e = expr_code s (expr_view c.args.e.now) in
    let tests = open_tests s (arms_view c.args.all.now) in
    made_both e (tests ⨾ one s CERR) c.args.code.now c.expr.new.self c.put.new.self c.in_ok-expr.ensures.code
    (made_both tests (one s CERR) c.expr.new.self c.all_labels.new.code c.put.new.self c.in_ok-all_labels.ensures.code c.in_ok-put.ensures.code)

pub returns-clause-address : goal.returns-clause-address
returns-clause-address c =
    omega (
      arith,
      c.here-first.ensures.address,
      c.in_ok-all_labels.ensures.code.size,
      c.in_ok-put.ensures.code.size,
      open_tests_size
          (site_view c.args.site) (arms_view c.args.all.now),
    )
