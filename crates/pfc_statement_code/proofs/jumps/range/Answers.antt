use Rattle.std.proofs.Common.{arith, subst}
use Rattle.pfc_tree.specs.views.Exprs.{expr_view}
use Rattle.pfc_types.specs.rules.Expressions.{find}
use Rattle.pfc_semantics.specs.Expressions.{spot_of}
use Rattle.pfc_translation.specs.Codes.{◌⨾◌, one}
use Rattle.pfc_translation.specs.Addresses.{base_code}
use Rattle.pfc_translation.specs.Expressions.{expr_code}
use Rattle.pfc_addresses.specs.Sites.{site_view}
use Rattle.pfc_expression_code.specs.Putting.{IsMade}
use Rattle.pfc_expression_code.proofs.Joining.{made_both}
use Rattle.pfc_statement_code.specs.Forms as forms
use Rattle.pfc_statement_code.proofs.Loops.{refused}
use Rattle.pfc_statement_code.proofs.jumps.range.Goals as goal

pub returns-in_err-put-clause-large : goal.returns-in_err-put-clause-large
returns-in_err-put-clause-large c =
    let s = site_view c.args.site in
    refused c.from_residual.result c.in_err-put.field-0.0 (forms.range s c.args.name.now (expr_view c.args.low.now) (expr_view c.args.high.now)) c.args.code.now
    c.from_residual.ensures.1 (λ full. omega (arith, c.in_err-put.ensures.large full))

pub returns-in_err-expr-clause-large : goal.returns-in_err-expr-clause-large
returns-in_err-expr-clause-large c =
    let s = site_view c.args.site in
    refused c.from_residual-in_err-expr.result c.in_err-expr.field-0.0
    (forms.range s c.args.name.now (expr_view c.args.low.now) (expr_view c.args.high.now)) c.args.code.now c.from_residual-in_err-expr.ensures.1
    (λ full. omega (arith, c.in_err-expr.ensures.large full, c.in_ok-put.ensures.code.size))

pub returns-in_err-expr-2-clause-large : goal.returns-in_err-expr-2-clause-large
returns-in_err-expr-2-clause-large c =
    let s = site_view c.args.site in
    refused c.from_residual-in_err-expr-2.result c.in_err-expr-2.field-0.0
    (forms.range s c.args.name.now (expr_view c.args.low.now) (expr_view c.args.high.now)) c.args.code.now c.from_residual-in_err-expr-2.ensures.1
    (λ full. omega (arith, c.in_err-expr-2.ensures.large full, c.in_ok-put.ensures.code.size, c.in_ok-expr.ensures.code.size))

pub returns-clause-code : goal.returns-clause-code
returns-clause-code c =
    let s = site_view c.args.site in
    let a = expr_code s (expr_view c.args.low.now) in
    let b = expr_code s (expr_view c.args.high.now) in
    let address = base_code s (spot_of s.env (find s.env c.args.name.now)).spot in
    made_both address (a ⨾ b) c.args.code.now c.put.new.self c.expr-2.new.self
    (subst (λ i. IsMade (one s i) c.args.code.now c.put.new.self) c.base.ensures.instr c.in_ok-put.ensures.code)
    (made_both a b c.put.new.self c.expr.new.self c.expr-2.new.self c.in_ok-expr.ensures.code c.in_ok-expr-2.ensures.code)
