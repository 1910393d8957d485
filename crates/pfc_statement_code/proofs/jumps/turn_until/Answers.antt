use Rattle.std.proofs.Common.{◌+◌, arith}
use Rattle.pfc_code.specs.declared.instructions.Instr.TheVariants.{NOT, JF, TURN}
use Rattle.pfc_tree.specs.views.Exprs.{expr_view}
use Rattle.pfc_translation.specs.Codes.{nothing, ◌⨾◌, one, over}
use Rattle.pfc_translation.specs.Expressions.{expr_code}
use Rattle.pfc_addresses.specs.Sites.{site_view}
use Rattle.pfc_expression_code.proofs.Joining.{made_both}
use Rattle.pfc_statement_code.proofs.Making.{made_alone, made_behind_nothing, made_over}
use Rattle.pfc_statement_code.proofs.Loops.{refused}
use Rattle.pfc_statement_code.proofs.jumps.turn_until.Goals as goal

pub returns-in_err-expr-clause-large : goal.returns-in_err-expr-clause-large
returns-in_err-expr-clause-large c =
    let s = site_view c.args.site in
    refused c.from_residual.result c.in_err-expr.field-0.0 (expr_code s (expr_view c.args.e.now) ⨾ one s NOT ⨾ over s JF 1 ⨾ one s (TURN c.args.start))
    c.args.code.now c.from_residual.ensures.1 (λ full. omega (arith, c.in_err-expr.ensures.large full))

pub returns-in_err-put-clause-large : goal.returns-in_err-put-clause-large
returns-in_err-put-clause-large c =
    let s = site_view c.args.site in
    refused c.from_residual-in_err-put.result c.in_err-put.field-0.0
    (expr_code s (expr_view c.args.e.now) ⨾ one s NOT ⨾ over s JF 1 ⨾ one s (TURN c.args.start)) c.args.code.now c.from_residual-in_err-put.ensures.1
    (λ full. omega (arith, c.in_err-put.ensures.large full, c.in_ok-expr.ensures.code.size))

pub returns-in_err-put-2-clause-large : goal.returns-in_err-put-2-clause-large
returns-in_err-put-2-clause-large c =
    let s = site_view c.args.site in
    refused c.from_residual-in_err-put-2.result c.in_err-put-2.field-0.0
    (expr_code s (expr_view c.args.e.now) ⨾ one s NOT ⨾ over s JF 1 ⨾ one s (TURN c.args.start)) c.args.code.now c.from_residual-in_err-put-2.ensures.1
    (λ full. omega (arith, c.in_err-put-2.ensures.large full, c.in_ok-expr.ensures.code.size, c.in_ok-put.ensures.code.size))

pub returns-in_err-put-3-clause-large : goal.returns-in_err-put-3-clause-large
returns-in_err-put-3-clause-large c =
    let s = site_view c.args.site in
    refused c.from_residual-in_err-put-3.result c.in_err-put-3.field-0.0
    (expr_code s (expr_view c.args.e.now) ⨾ one s NOT ⨾ over s JF 1 ⨾ one s (TURN c.args.start)) c.args.code.now c.from_residual-in_err-put-3.ensures.1
    (λ full. omega (arith, c.in_err-put-3.ensures.large full, c.in_ok-expr.ensures.code.size, c.in_ok-put.ensures.code.size, c.in_ok-put-2.ensures.code.size))

pub returns-clause-code : goal.returns-clause-code
returns-clause-code c =
    let s = site_view c.args.site in
    let e = expr_code s (expr_view c.args.e.now) in
    let turn = one s (TURN c.args.start) in
    let x = c.args.code.now in
    let y = c.expr.new.self in
    let z = c.put.new.self in
    let u = c.put-2.new.self in
    let v = c.put-3.new.self in
    let behind = c.here-behind.result + 2 in
    made_both e (one s NOT ⨾ over s JF 1 ⨾ turn) x y v c.in_ok-expr.ensures.code
    (made_both (one s NOT) (over s JF 1 ⨾ turn) y z v c.in_ok-put.ensures.code
    (made_both (over s JF 1) turn z u v
    (made_behind_nothing (over s JF 1) z u
    (made_over s nothing JF behind 1 z u (made_alone (one s (JF behind)) z u c.in_ok-put-2.ensures.code)
    (omega (arith, c.here-behind.ensures.address, c.in_ok-put-2.ensures.code.size))))
    c.in_ok-put-3.ensures.code))
