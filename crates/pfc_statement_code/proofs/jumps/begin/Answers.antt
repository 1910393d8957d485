use Rattle.std.proofs.Common.{arith, subst}
use Rattle.pfc_code.specs.declared.instructions.Instr.TheVariants.{FORB}
use Rattle.pfc_tree.specs.views.Exprs.{expr_view}
use Rattle.pfc_translation.specs.Codes.{◌⨾◌, one}
use Rattle.pfc_addresses.specs.Sites.{site_view}
use Rattle.pfc_expression_code.specs.Putting.{IsMade}
use Rattle.pfc_expression_code.proofs.Joining.{made_both}
use Rattle.pfc_statement_code.specs.Forms as forms
use Rattle.pfc_statement_code.proofs.Loops.{refused}
use Rattle.pfc_statement_code.proofs.jumps.begin.Goals as goal

pub returns-in_err-range-clause-large : goal.returns-in_err-range-clause-large
returns-in_err-range-clause-large c =
    let s = site_view c.args.site in
    refused c.from_residual.result c.in_err-range.field-0.0
    (forms.range s c.args.name.now (expr_view c.args.low.now) (expr_view c.args.high.now) ⨾ one s (FORB (forms.direction c.args.down) 0)) c.args.code.now
    c.from_residual.ensures.1 (λ full. omega (arith, c.in_err-range.ensures.large full))

pub returns-in_err-at-clause-large : goal.returns-in_err-at-clause-large
returns-in_err-at-clause-large c =
    let s = site_view c.args.site in
    refused c.from_residual-in_err-at.result c.in_err-at.field-0.0
    (forms.range s c.args.name.now (expr_view c.args.low.now) (expr_view c.args.high.now) ⨾ one s (FORB (forms.direction c.args.down) 0)) c.args.code.now
    c.from_residual-in_err-at.ensures.1
    (λ full. omega (arith, c.in_err-at.ensures.large full, c.in_ok-range.ensures.code.size))

pub returns-clause-code : goal.returns-clause-code
returns-clause-code c =
    let s = site_view c.args.site in
    made_both (forms.range s c.args.name.now (expr_view c.args.low.now) (expr_view c.args.high.now)) (one s (FORB (forms.direction c.args.down) 0))
    c.args.code.now c.range.new.code c.place.new.self c.in_ok-range.ensures.code
    (subst (λ d. IsMade (one s (FORB d 0)) c.range.new.code c.place.new.self) c.direction.ensures c.in_ok-at.ensures.code)

pub returns-clause-address : goal.returns-clause-address
returns-clause-address c = omega (arith, c.in_ok-at.ensures.code.size, c.in_ok-at.ensures.address)
