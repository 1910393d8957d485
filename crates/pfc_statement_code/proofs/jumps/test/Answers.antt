use Rattle.std.proofs.Common.{arith}
use Rattle.pfc_code.specs.declared.instructions.Instr.TheVariants.{JF}
use Rattle.pfc_tree.specs.views.Exprs.{expr_view}
use Rattle.pfc_translation.specs.Codes.{◌⨾◌, one}
use Rattle.pfc_translation.specs.Expressions.{expr_code}
use Rattle.pfc_addresses.specs.Sites.{site_view}
use Rattle.pfc_expression_code.proofs.Joining.{made_both}
use Rattle.pfc_statement_code.proofs.Loops.{refused}
use Rattle.pfc_statement_code.proofs.jumps.test.Goals as goal

pub returns-in_err-expr-clause-large : goal.returns-in_err-expr-clause-large
returns-in_err-expr-clause-large c =
    let s = site_view c.args.site in
    refused c.from_residual.result c.in_err-expr.field-0.0 (expr_code s (expr_view c.args.e.now) ⨾ one s (JF 0)) c.args.code.now c.from_residual.ensures.1
    (λ full. omega (arith, c.in_err-expr.ensures.large full))

pub returns-in_err-at-clause-large : goal.returns-in_err-at-clause-large
returns-in_err-at-clause-large c =
    let s = site_view c.args.site in
    refused c.from_residual-in_err-at.result c.in_err-at.field-0.0 (expr_code s (expr_view c.args.e.now) ⨾ one s (JF 0)) c.args.code.now
    c.from_residual-in_err-at.ensures.1
    (λ full. omega (arith, c.in_err-at.ensures.large full, c.in_ok-expr.ensures.code.size))

pub returns-clause-code : goal.returns-clause-code
returns-clause-code c =
    let s = site_view c.args.site in
    made_both (expr_code s (expr_view c.args.e.now)) (one s (JF 0)) c.args.code.now c.expr.new.self c.place.new.self c.in_ok-expr.ensures.code
    c.in_ok-at.ensures.code

pub returns-clause-address : goal.returns-clause-address
returns-clause-address c = omega (arith, c.in_ok-at.ensures.code.size, c.in_ok-at.ensures.address)
