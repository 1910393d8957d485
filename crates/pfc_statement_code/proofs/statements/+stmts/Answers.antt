-- Each statement is made part by part.
use Rattle.std.proofs.Common.{◌≡◌, ◌<◌, ◌≤◌, ◌+◌, ◌++◌, ℕ, List, [], ◌∷◌, length, drop, false, Option, Some, None, option_map, OnOk, IfOk, IfErr, refl, sym, ap}
use Rattle.std.proofs.Common.{ap₂, subst, ◌∙◌, arith, append-nil}
use Rattle.pfc_code.specs.declared.instructions.Instr.TheVariants.{JMP, JF, TURN, FORB, FORW, FORT, COEND, EACC}
use Rattle.pfc_tree.specs.declared.tree.Spread.{Spread}
use Rattle.pfc_tree.specs.trees.Stmts.{StmtTrees, ArmTrees, AltTrees, alt}
use Rattle.pfc_tree.specs.views.Exprs.{expr_view}
use Rattle.pfc_tree.specs.views.Stmts.{stmt_view, stmts_view, arms_view, accept_view, alts_view, alt_view, comm_view}
use Rattle.pfc_types.specs.rules.Expressions.{find}
use Rattle.pfc_types.specs.rules.Statements.{scopes_in, stmts_scopes, comm_scopes, alt_scopes, alts_scopes}
use Rattle.pfc_semantics.specs.Alternatives.{alternatives}
use Rattle.pfc_semantics.specs.Expressions.{spot_of}
use Rattle.pfc_translation.specs.Sites.{at_line, context_of}
use Rattle.pfc_translation.specs.Codes.{Code, nothing, ◌⨾◌, one, over, with_arms}
use Rattle.pfc_translation.specs.Addresses.{base_code}
use Rattle.pfc_translation.specs.Expressions.{expr_code}
use Rattle.pfc_translation.specs.Selects.{accept_code}
use Rattle.pfc_translation.specs.Statements.{stmt_code, stmts_code, arms_code, accepted_code, met_code, branches_code, branches_from, chosen_code}
use Rattle.pfc_translation.specs.Statements.{spread_replicas, spread_of, sel_code, select_code, distances}
use Rattle.pfc_emit.specs.Patches.{patched}
use Rattle.pfc_emit.specs.declared.emitter.EmitFault.TheVariants.{Full}
use Rattle.pfc_emit.proofs.Patches.{length-patched}
use Rattle.pfc_addresses.specs.Sites.{site_view}
use Rattle.pfc_expression_code.specs.Putting.{Made, IsMade, IsTooLarge}
use Rattle.pfc_expression_code.proofs.Joining.{made_both}
use Rattle.pfc_select_code.specs.Alternatives.{open_alternatives}
use Rattle.pfc_select_code.specs.Leading.{can_lead, first_branch}
use Rattle.pfc_select_code.proofs.Arms.{alternatives_can_lead}
use Rattle.pfc_statement_code.specs.Arms.{starts_of, ends_of, tests_led}
use Rattle.pfc_statement_code.specs.Branches.{is_terminate, branch_body, open_branch, branch_starts, end_of, branch_ends}
use Rattle.pfc_statement_code.specs.Forms as forms
use Rattle.pfc_statement_code.specs.Leading.{have_all, all_led}
use Rattle.pfc_statement_code.proofs.Arms.{arms_have, case_made, case_have_tests, tests_size, open_tests_size}
use Rattle.pfc_statement_code.proofs.Branches.{plain_branch, plain_end, branches_have, branches_length, branches_size, starts_far, distances_many}
use Rattle.pfc_statement_code.proofs.Forms.{if_then_made, first_choice_made, choice_refused, choice_made, choice_large, choice_next, otherwise_made, while_made}
use Rattle.pfc_statement_code.proofs.Forms.{forever_made, repeat_made, for_made, alone_has}
use Rattle.pfc_statement_code.proofs.Leading.{through, last_has, later_has}
use Rattle.pfc_statement_code.proofs.Loops.{IsOnTheWay, way_begins, way_goes, way_ends, way_large, ArmsGo, arms_begin, arms_next, arms_large, BranchesGo}
use Rattle.pfc_statement_code.proofs.Loops.{branches_begin, branches_next, branches_large, refused, then_made, then_large}
use Rattle.pfc_statement_code.proofs.Nodes.{alt_view-out, stmt_view-choice, stmt_view-for, stmt_view-accept, stmt_view-else, stmts_here, arm_here, alts_here}
use Rattle.pfc_statement_code.proofs.Nodes.{stmts_end, arms_end, alts_end}
use Rattle.pfc_statement_code.proofs.Selects.{alternatives_size, select_rest, sel_has, else_have, else_rest}
use Rattle.pfc_statement_code.proofs.statements.+stmts.Goals as goal

-- ## Conditions and loops

pub if_then-lead_here-requires : goal.if_then-lead_here-requires
if_then-lead_here-requires t c =
    let s = site_view c.args.from.site in
    later_has (stmt_code s c.args.from.next (stmt_view c.args.s.now)) c.test.new.code c.stmt.new.code c.in_ok-jump.jump c.in_ok-next.ensures.code
    (last_has s (expr_code s (expr_view c.args.e.now))
    (JF 0) c.args.code.now c.test.new.code c.in_ok-jump.jump c.in_ok-jump.ensures.code c.in_ok-jump.ensures.address refl)

pub if_then-returns-clause-code : goal.if_then-returns-clause-code
if_then-returns-clause-code t c =
    let s = site_view c.args.from.site in
    let inner = stmt_code s c.args.from.next (stmt_view c.args.s.now) in
    subst (λ (m : Made). IsMade (forms.if_then s (expr_view c.args.e.now) inner) c.args.code.now m) (sym c.lead_here.ensures)
    (if_then_made s (expr_code s (expr_view c.args.e.now)) inner c.in_ok-jump.jump c.args.code.now c.test.new.code c.stmt.new.code
    c.in_ok-jump.ensures.code c.in_ok-jump.ensures.address c.in_ok-next.ensures.code)

pub while_do-lead_past-requires : goal.while_do-lead_past-requires
while_do-lead_past-requires t c =
    let s = site_view c.args.from.site in
    later_has (stmt_code s c.args.from.next (stmt_view c.args.s.now)) c.test.new.code c.stmt.new.code c.in_ok-jump.jump c.in_ok-next.ensures.code
    (last_has s (expr_code s (expr_view c.args.e.now))
    (JF 0) c.args.code.now c.test.new.code c.in_ok-jump.jump c.in_ok-jump.ensures.code c.in_ok-jump.ensures.address refl)

pub while_do-returns-clause-code : goal.while_do-returns-clause-code
while_do-returns-clause-code t c =
    let s = site_view c.args.from.site in
    let inner = stmt_code s c.args.from.next (stmt_view c.args.s.now) in
    while_made s (expr_code s (expr_view c.args.e.now)) inner c.in_ok-jump.jump c.here-start.result c.args.code.now c.test.new.code c.stmt.new.code
    c.put.new.self c.here-start.ensures.address c.in_ok-jump.ensures.code c.in_ok-jump.ensures.address c.in_ok-next.ensures.code
    (subst (λ (m : Made). IsMade (one s (TURN c.here-start.result)) m c.put.new.self) c.lead_past.ensures c.in_ok-put.ensures.code)

pub repeat_forever-returns-clause-code : goal.repeat_forever-returns-clause-code
repeat_forever-returns-clause-code t c =
    let s = site_view c.args.from.site in
    forever_made s (stmts_code s c.args.from.next (stmts_view c.args.ss.now)) c.here-start.result c.args.code.now c.all.new.code c.put.new.self
    c.here-start.ensures.address c.in_ok-next.ensures.code c.in_ok-put.ensures.code

pub cobegin-returns-clause-code : goal.cobegin-returns-clause-code
cobegin-returns-clause-code t c =
    let s = site_view c.args.from.site in
    let ss = stmts_code s c.args.from.next (stmts_view c.args.ss.now) in
    made_both ss (one (at_line s c.args.last.line) COEND) c.args.code.now c.all.new.code c.put.new.self c.in_ok-next.ensures.code
    (subst (λ p. IsMade (one p COEND) c.all.new.code c.put.new.self) c.at.ensures c.in_ok-put.ensures.code)

pub if_then-returns-in_err-jump-clause-large : goal.if_then-returns-in_err-jump-clause-large
if_then-returns-in_err-jump-clause-large t c =
    let s = site_view c.args.from.site in
    let n = c.args.from.next in
    refused c.from_residual.result c.in_err-jump.field-0.0 (forms.if_then s (expr_view c.args.e.now) (stmt_code s n (stmt_view c.args.s.now)))
    c.args.code.now c.from_residual.ensures.1
    (λ full. omega (arith, c.in_err-jump.ensures.large full))

pub if_then-returns-in_err-next-clause-large : goal.if_then-returns-in_err-next-clause-large
if_then-returns-in_err-next-clause-large t c =
    let s = site_view c.args.from.site in
    let n = c.args.from.next in
    refused c.from_residual-in_err-next.result c.in_err-next.field-0.0 (forms.if_then s (expr_view c.args.e.now) (stmt_code s n (stmt_view c.args.s.now)))
    c.args.code.now c.from_residual-in_err-next.ensures.1
    (λ full. omega (arith, c.in_err-next.ensures.large full, c.in_ok-jump.ensures.code.size))

pub otherwise-returns-in_err-jump-clause-large : goal.otherwise-returns-in_err-jump-clause-large
otherwise-returns-in_err-jump-clause-large t c =
    let s = site_view c.args.from.site in
    let n = c.args.from.next in
    refused c.from_residual.result c.in_err-jump.field-0.0 (over s JMP (stmt_code s n (stmt_view c.args.s.now)).size ⨾ stmt_code s n
    (stmt_view c.args.s.now)) c.args.code.now c.from_residual.ensures.1
    (λ full. omega (arith, c.in_err-jump.ensures.large full))

pub otherwise-returns-in_err-next-clause-large : goal.otherwise-returns-in_err-next-clause-large
otherwise-returns-in_err-next-clause-large t c =
    let s = site_view c.args.from.site in
    let n = c.args.from.next in
    refused c.from_residual-in_err-next.result c.in_err-next.field-0.0 (over s JMP (stmt_code s n (stmt_view c.args.s.now)).size ⨾ stmt_code s n
    (stmt_view c.args.s.now)) c.args.code.now c.from_residual-in_err-next.ensures.1
    (λ full. omega (arith, c.in_err-next.ensures.large full, c.in_ok-jump.ensures.code.size))

pub otherwise-lead_here-requires : goal.otherwise-lead_here-requires
otherwise-lead_here-requires t c =
    let s = site_view c.args.from.site in
    later_has (stmt_code s c.args.from.next (stmt_view c.args.s.now)) c.place.new.self c.stmt.new.code c.in_ok-jump.jump c.in_ok-next.ensures.code
    (alone_has s (JMP 0) c.args.code.now c.place.new.self c.in_ok-jump.jump c.in_ok-jump.ensures.code c.in_ok-jump.ensures.address refl)

pub otherwise-returns-clause-code : goal.otherwise-returns-clause-code
otherwise-returns-clause-code t c =
    let s = site_view c.args.from.site in
    let inner = stmt_code s c.args.from.next (stmt_view c.args.s.now) in
    subst (λ (m : Made). IsMade (over s JMP inner.size ⨾ inner) c.args.code.now m) (sym c.lead_here.ensures)
    (otherwise_made s inner c.in_ok-jump.jump c.args.code.now c.place.new.self c.stmt.new.code c.in_ok-jump.ensures.code c.in_ok-jump.ensures.address
    c.in_ok-next.ensures.code)

pub while_do-returns-in_err-jump-clause-large : goal.while_do-returns-in_err-jump-clause-large
while_do-returns-in_err-jump-clause-large t c =
    let s = site_view c.args.from.site in
    let n = c.args.from.next in
    refused c.from_residual.result c.in_err-jump.field-0.0 (forms.while_do s (expr_view c.args.e.now) (stmt_code s n (stmt_view c.args.s.now)))
    c.args.code.now c.from_residual.ensures.1
    (λ full. omega (arith, c.in_err-jump.ensures.large full))

pub while_do-returns-in_err-next-clause-large : goal.while_do-returns-in_err-next-clause-large
while_do-returns-in_err-next-clause-large t c =
    let s = site_view c.args.from.site in
    let n = c.args.from.next in
    refused c.from_residual-in_err-next.result c.in_err-next.field-0.0 (forms.while_do s (expr_view c.args.e.now) (stmt_code s n (stmt_view c.args.s.now)))
    c.args.code.now c.from_residual-in_err-next.ensures.1
    (λ full. omega (arith, c.in_err-next.ensures.large full, c.in_ok-jump.ensures.code.size))

pub while_do-returns-in_err-put-clause-large : goal.while_do-returns-in_err-put-clause-large
while_do-returns-in_err-put-clause-large t c =
    let s = site_view c.args.from.site in
    let n = c.args.from.next in
    let size : length c.lead_past.new.code.code ≡ length c.stmt.new.code.code =
    ap (λ (m : Made). length m.code) c.lead_past.ensures ∙ length-patched c.stmt.new.code.code c.in_ok-jump.jump (length c.stmt.new.code.code + 1) in
    refused c.from_residual-in_err-put.result c.in_err-put.field-0.0 (forms.while_do s (expr_view c.args.e.now) (stmt_code s n (stmt_view c.args.s.now)))
    c.args.code.now c.from_residual-in_err-put.ensures.1
    (λ full. omega (arith, c.in_err-put.ensures.large full, size, c.in_ok-jump.ensures.code.size, c.in_ok-next.ensures.code.size))

pub repeat_forever-returns-in_err-next-clause-large : goal.repeat_forever-returns-in_err-next-clause-large
repeat_forever-returns-in_err-next-clause-large t c =
    let s = site_view c.args.from.site in
    let n = c.args.from.next in
    refused c.from_residual.result c.in_err-next.field-0.0
    (forms.repeat_forever s (stmts_code s n (stmts_view c.args.ss.now))) c.args.code.now c.from_residual.ensures.1
    (λ full. omega (arith, c.in_err-next.ensures.large full))

pub repeat_forever-returns-in_err-put-clause-large : goal.repeat_forever-returns-in_err-put-clause-large
repeat_forever-returns-in_err-put-clause-large t c =
    let s = site_view c.args.from.site in
    let n = c.args.from.next in
    refused c.from_residual-in_err-put.result c.in_err-put.field-0.0
    (forms.repeat_forever s (stmts_code s n (stmts_view c.args.ss.now))) c.args.code.now c.from_residual-in_err-put.ensures.1
    (λ full. omega (arith, c.in_err-put.ensures.large full, c.in_ok-next.ensures.code.size))

pub repeat_until-returns-in_err-next-clause-large : goal.repeat_until-returns-in_err-next-clause-large
repeat_until-returns-in_err-next-clause-large t c =
    let s = site_view c.args.from.site in
    let n = c.args.from.next in
    refused c.from_residual.result c.in_err-next.field-0.0 (forms.repeat_until s (stmts_code s n (stmts_view c.args.ss.now))
    (expr_view c.args.e.now)) c.args.code.now c.from_residual.ensures.1
    (λ full. omega (arith, c.in_err-next.ensures.large full))

pub repeat_until-returns-in_err-turn_until-clause-large : goal.repeat_until-returns-in_err-turn_until-clause-large
repeat_until-returns-in_err-turn_until-clause-large t c =
    let s = site_view c.args.from.site in
    let n = c.args.from.next in
    refused c.from_residual-in_err-turn_until.result c.in_err-turn_until.field-0.0 (forms.repeat_until s (stmts_code s n (stmts_view c.args.ss.now))
    (expr_view c.args.e.now)) c.args.code.now c.from_residual-in_err-turn_until.ensures.1
    (λ full. omega (arith, c.in_err-turn_until.ensures.large full, c.in_ok-next.ensures.code.size))

pub repeat_until-returns-clause-code : goal.repeat_until-returns-clause-code
repeat_until-returns-clause-code t c =
    let s = site_view c.args.from.site in
    let inner = stmts_code s c.args.from.next (stmts_view c.args.ss.now) in
    repeat_made s inner (expr_code s (expr_view c.args.e.now)) c.here-start.result c.args.code.now c.all.new.code c.turn_until.new.code
    c.here-start.ensures.address c.in_ok-next.ensures.code c.in_ok-turn_until.ensures.code

pub for_do-returns-in_err-begun-clause-large : goal.for_do-returns-in_err-begun-clause-large
for_do-returns-in_err-begun-clause-large t c =
    let s = site_view c.args.from.site in
    let n = c.args.from.next in
    refused c.from_residual.result c.in_err-begun.field-0.0 (forms.for_do s c.args.name.now (expr_view c.args.low.now) c.args.down (expr_view c.args.high.now)
    (stmt_code s n (stmt_view c.args.s.now))) c.args.code.now c.from_residual.ensures.1
    (λ full. omega (arith, c.in_err-begun.ensures.large full))

pub for_do-returns-in_err-put-clause-large : goal.for_do-returns-in_err-put-clause-large
for_do-returns-in_err-put-clause-large t c =
    let s = site_view c.args.from.site in
    let n = c.args.from.next in
    refused c.from_residual-in_err-put.result c.in_err-put.field-0.0 (forms.for_do s c.args.name.now (expr_view c.args.low.now) c.args.down
    (expr_view c.args.high.now) (stmt_code s n (stmt_view c.args.s.now))) c.args.code.now c.from_residual-in_err-put.ensures.1
    (λ full. omega (arith, c.in_err-put.ensures.large full, c.in_ok-begun.ensures.code.size))

pub for_do-returns-in_err-next-clause-large : goal.for_do-returns-in_err-next-clause-large
for_do-returns-in_err-next-clause-large t c =
    let s = site_view c.args.from.site in
    let n = c.args.from.next in
    refused c.from_residual-in_err-next.result c.in_err-next.field-0.0 (forms.for_do s c.args.name.now (expr_view c.args.low.now) c.args.down
    (expr_view c.args.high.now) (stmt_code s n (stmt_view c.args.s.now))) c.args.code.now c.from_residual-in_err-next.ensures.1
    (λ full. omega (arith, c.in_err-next.ensures.large full, c.in_ok-begun.ensures.code.size, c.in_ok-put.ensures.code.size))

pub for_do-returns-in_err-put-2-clause-large : goal.for_do-returns-in_err-put-2-clause-large
for_do-returns-in_err-put-2-clause-large t c =
    let s = site_view c.args.from.site in
    let n = c.args.from.next in
    let size : length c.lead_past.new.code.code ≡ length c.stmt.new.code.code =
    ap (λ (m : Made). length m.code) c.lead_past.ensures ∙ length-patched c.stmt.new.code.code c.in_ok-begun.begun (length c.stmt.new.code.code + 1) in
    refused c.from_residual-in_err-put-2.result c.in_err-put-2.field-0.0 (forms.for_do s c.args.name.now (expr_view c.args.low.now) c.args.down
    (expr_view c.args.high.now) (stmt_code s n (stmt_view c.args.s.now))) c.args.code.now c.from_residual-in_err-put-2.ensures.1
    (λ full. omega (
      arith,
      c.in_err-put-2.ensures.large full,
      size,
      c.in_ok-begun.ensures.code.size,
      c.in_ok-put.ensures.code.size,
      c.in_ok-next.ensures.code.size,
    ))

pub for_do-lead_past-requires : goal.for_do-lead_past-requires
for_do-lead_past-requires t c =
    let s = site_view c.args.from.site in
    later_has (stmt_code s c.args.from.next (stmt_view c.args.s.now)) c.put.new.self c.stmt.new.code c.in_ok-begun.begun c.in_ok-next.ensures.code
    (later_has (one s FORW) c.begin.new.code c.put.new.self c.in_ok-begun.begun c.in_ok-put.ensures.code
    (last_has s (forms.range s c.args.name.now (expr_view c.args.low.now) (expr_view c.args.high.now)) (FORB (forms.direction c.args.down) 0) c.args.code.now
    c.begin.new.code c.in_ok-begun.begun c.in_ok-begun.ensures.code c.in_ok-begun.ensures.address refl))

pub for_do-returns-clause-code : goal.for_do-returns-clause-code
for_do-returns-clause-code t c =
    let s = site_view c.args.from.site in
    let inner = stmt_code s c.args.from.next (stmt_view c.args.s.now) in
    let begun = c.in_ok-begun.begun in
    for_made s (forms.direction c.args.down) (base_code s (spot_of s.env (find s.env c.args.name.now)).spot) (expr_code s (expr_view c.args.low.now))
    (expr_code s (expr_view c.args.high.now)) inner begun c.args.code.now c.begin.new.code c.put.new.self c.stmt.new.code c.put-2.new.self
    c.in_ok-begun.ensures.code c.in_ok-begun.ensures.address c.in_ok-put.ensures.code c.in_ok-next.ensures.code
    (subst (λ d. IsMade (one s (FORT d (begun + 1))) (record c.stmt.new.code {
      code =
          patched c.stmt.new.code.code begun (length c.stmt.new.code.code + 1);
    }) c.put-2.new.self)
    c.direction.ensures
    (subst (λ (m : Made). IsMade (one s (FORT c.direction.result (begun + 1))) m c.put-2.new.self) c.lead_past.ensures c.in_ok-put-2.ensures.code))

pub cobegin-returns-in_err-next-clause-large : goal.cobegin-returns-in_err-next-clause-large
cobegin-returns-in_err-next-clause-large t c =
    let s = site_view c.args.from.site in
    let n = c.args.from.next in
    refused c.from_residual.result c.in_err-next.field-0.0 (stmts_code s n (stmts_view c.args.ss.now) ⨾ one (at_line s c.args.last.line) COEND)
    c.args.code.now c.from_residual.ensures.1
    (λ full. omega (arith, c.in_err-next.ensures.large full))

pub cobegin-returns-in_err-put-clause-large : goal.cobegin-returns-in_err-put-clause-large
cobegin-returns-in_err-put-clause-large t c =
    let s = site_view c.args.from.site in
    let n = c.args.from.next in
    refused c.from_residual-in_err-put.result c.in_err-put.field-0.0 (stmts_code s n (stmts_view c.args.ss.now) ⨾ one (at_line s c.args.last.line) COEND)
    c.args.code.now c.from_residual-in_err-put.ensures.1
    (λ full. omega (arith, c.in_err-put.ensures.large full, c.in_ok-next.ensures.code.size))

pub first_choice-returns-in_err-jump-clause-large : goal.first_choice-returns-in_err-jump-clause-large
first_choice-returns-in_err-jump-clause-large t c =
    let s = site_view c.args.from.site in
    let n = c.args.from.next in
    refused c.from_residual.result c.in_err-jump.field-0.0 (forms.first_choice s (expr_view c.args.e.now) (stmt_code s n (stmt_view c.args.s.now)))
    c.args.code.now c.from_residual.ensures.1 (λ full. omega (arith, c.in_err-jump.ensures.large full))

pub first_choice-returns-in_err-next-clause-large : goal.first_choice-returns-in_err-next-clause-large
first_choice-returns-in_err-next-clause-large t c =
    let s = site_view c.args.from.site in
    let n = c.args.from.next in
    refused c.from_residual-in_err-next.result c.in_err-next.field-0.0
    (forms.first_choice s (expr_view c.args.e.now) (stmt_code s n (stmt_view c.args.s.now))) c.args.code.now c.from_residual-in_err-next.ensures.1
    (λ full. omega (arith, c.in_err-next.ensures.large full, c.in_ok-jump.ensures.code.size))

pub first_choice-lead_past-requires : goal.first_choice-lead_past-requires
first_choice-lead_past-requires t c =
    let s = site_view c.args.from.site in
    later_has (stmt_code s c.args.from.next (stmt_view c.args.s.now)) c.test.new.code c.stmt.new.code c.in_ok-jump.jump c.in_ok-next.ensures.code
    (last_has s (expr_code s (expr_view c.args.e.now)) (JF 0) c.args.code.now c.test.new.code c.in_ok-jump.jump c.in_ok-jump.ensures.code
    c.in_ok-jump.ensures.address refl)

pub first_choice-returns-clause-code : goal.first_choice-returns-clause-code
first_choice-returns-clause-code t c =
    let s = site_view c.args.from.site in
    let inner = stmt_code s c.args.from.next (stmt_view c.args.s.now) in
    subst (λ (m : Made). IsMade (forms.first_choice s (expr_view c.args.e.now) inner) c.args.code.now m) (sym c.lead_past.ensures)
    (first_choice_made s (expr_code s (expr_view c.args.e.now)) inner c.in_ok-jump.jump c.args.code.now c.test.new.code c.stmt.new.code
    c.in_ok-jump.ensures.code c.in_ok-jump.ensures.address c.in_ok-next.ensures.code)

pub stmt-returns-in_err-next-in-Some-clause-large : goal.stmt-returns-in_err-next-in-Some-clause-large
stmt-returns-in_err-next-in-Some-clause-large t c =
    let s = site_view c.args.from.site in
    let n = c.args.from.next in
    let p = c.in-If.place in
    let e = expr_view c.deref-in-Some-2.result.now in
    let one = stmt_view c.deref-in-Some.result.now in
    let two = stmt_view c.in-Some.other.value in
    let seen = stmt_view-choice c.args.s.now c.in-If.e c.in-If.then c.in-If.other c.in-Some.other p c.deref-in-Some-2.result.now c.deref-in-Some.result.now
    c.in-Some.other.value c.in-If.is c.in-Some.is c.deref-in-Some-2.ensures c.deref-in-Some.ensures refl in
    refused c.from_residual.result c.in_err-next-in-Some.field-0.0 (stmt_code s n (stmt_view c.args.s.now)) c.args.code.now c.from_residual.ensures.1
    (λ full. subst (λ v. IsTooLarge (stmt_code s n v) c.args.code.now) (sym seen)
    (choice_refused (at_line s p.line) e one two n c.args.code.now
    (subst (λ k. IsTooLarge (forms.first_choice (at_line s p.line) e (stmt_code (at_line s p.line) k one)) c.args.code.now) c.at-from.ensures.next
    (subst (λ q. IsTooLarge (forms.first_choice q e (stmt_code q c.at-from.result.next one)) c.args.code.now) c.at-from.ensures.site
    (c.in_err-next-in-Some.ensures.large full)))))

pub stmt-returns-in_ok-next-in-Some-clause-code : goal.stmt-returns-in_ok-next-in-Some-clause-code
stmt-returns-in_ok-next-in-Some-clause-code t c =
    let s = site_view c.args.from.site in
    let n = c.args.from.next in
    let p = c.in-If.place in
    let q = at_line s p.line in
    let e = expr_view c.deref-in-Some-2.result.now in
    let one = stmt_view c.deref-in-Some.result.now in
    let two = stmt_view c.deref-in-Some-3.result.now in
    let seen = stmt_view-choice c.args.s.now c.in-If.e c.in-If.then c.in-If.other c.in-Some.other p c.deref-in-Some-2.result.now c.deref-in-Some.result.now
    c.deref-in-Some-3.result.now c.in-If.is c.in-Some.is c.deref-in-Some-2.ensures c.deref-in-Some.ensures c.deref-in-Some-3.ensures in
    let x = c.args.code.now in
    let y = c.first_choice.new.code in
    let z = c.otherwise.new.code in
    let first = subst (λ k. IsMade (forms.first_choice q e (stmt_code q k one)) x y) c.at-from.ensures.next
    (subst (λ o. IsMade (forms.first_choice o e (stmt_code o c.at-from.result.next one)) x y) c.at-from.ensures.site c.in_ok-next-in-Some.ensures.code) in
    let scope = c.in_ok-next-in-Some.ensures.next ∙ ap (λ k. k + scopes_in one) c.at-from.ensures.next in
    let second = subst (λ k. OnOk c.otherwise.result (IsMade (over q JMP (stmt_code q k two).size ⨾ stmt_code q k two) y z)) scope
    (subst (λ o. OnOk c.otherwise.result (IsMade (over o JMP (stmt_code o c.in_ok-next-in-Some.next two).size ⨾ stmt_code o c.in_ok-next-in-Some.next two) y z))
    c.at-from.ensures.site c.otherwise.ensures.code) in
    subst (λ v. OnOk c.otherwise.result (IsMade (stmt_code s n v) x z)) (sym seen) (choice_made c.otherwise.result q e one two n x y z first second)

pub stmt-returns-in_ok-next-in-Some-clause-large : goal.stmt-returns-in_ok-next-in-Some-clause-large
stmt-returns-in_ok-next-in-Some-clause-large t c =
    let s = site_view c.args.from.site in
    let n = c.args.from.next in
    let p = c.in-If.place in
    let q = at_line s p.line in
    let e = expr_view c.deref-in-Some-2.result.now in
    let one = stmt_view c.deref-in-Some.result.now in
    let two = stmt_view c.deref-in-Some-3.result.now in
    let seen = stmt_view-choice c.args.s.now c.in-If.e c.in-If.then c.in-If.other c.in-Some.other p c.deref-in-Some-2.result.now c.deref-in-Some.result.now
    c.deref-in-Some-3.result.now c.in-If.is c.in-Some.is c.deref-in-Some-2.ensures c.deref-in-Some.ensures c.deref-in-Some-3.ensures in
    let x = c.args.code.now in
    let y = c.first_choice.new.code in
    let first = subst (λ k. IsMade (forms.first_choice q e (stmt_code q k one)) x y) c.at-from.ensures.next
    (subst (λ o. IsMade (forms.first_choice o e (stmt_code o c.at-from.result.next one)) x y) c.at-from.ensures.site c.in_ok-next-in-Some.ensures.code) in
    let scope = c.in_ok-next-in-Some.ensures.next ∙ ap (λ k. k + scopes_in one) c.at-from.ensures.next in
    let second = subst (λ k. IfErr c.otherwise.result (λ fault. fault ≡ Full → IsTooLarge (over q JMP (stmt_code q k two).size ⨾ stmt_code q k two) y)) scope
    (subst (λ o. IfErr c.otherwise.result (λ fault. fault ≡ Full →
    IsTooLarge (over o JMP (stmt_code o c.in_ok-next-in-Some.next two).size ⨾ stmt_code o c.in_ok-next-in-Some.next two) y))
    c.at-from.ensures.site c.otherwise.ensures.large) in
    subst (λ v. IfErr c.otherwise.result (λ fault. fault ≡ Full → IsTooLarge (stmt_code s n v) x)) (sym seen)
    (choice_large c.otherwise.result q e one two n x y first second)

pub stmt-returns-in_ok-next-in-Some-clause-next : goal.stmt-returns-in_ok-next-in-Some-clause-next
stmt-returns-in_ok-next-in-Some-clause-next t c =
    let n = c.args.from.next in
    let one = stmt_view c.deref-in-Some.result.now in
    let two = stmt_view c.deref-in-Some-3.result.now in
    let seen = stmt_view-choice c.args.s.now c.in-If.e c.in-If.then c.in-If.other c.in-Some.other c.in-If.place c.deref-in-Some-2.result.now
    c.deref-in-Some.result.now c.deref-in-Some-3.result.now c.in-If.is c.in-Some.is c.deref-in-Some-2.ensures c.deref-in-Some.ensures
    c.deref-in-Some-3.ensures in
    let scope = c.in_ok-next-in-Some.ensures.next ∙ ap (λ k. k + scopes_in one) c.at-from.ensures.next in
    subst (λ v. IfOk c.otherwise.result (λ m. m ≡ n + scopes_in v)) (sym seen)
    (choice_next c.otherwise.result n (scopes_in one) (scopes_in two) c.in_ok-next-in-Some.next scope c.otherwise.ensures.next)

pub stmt-returns-in-For-clause-code : goal.stmt-returns-in-For-clause-code
stmt-returns-in-For-clause-code t c =
    let s = site_view c.args.from.site in
    let n = c.args.from.next in
    let p = c.in-For.place in
    let a = expr_view c.deref-in-For-2.result.now in
    let b = expr_view c.deref-in-For-3.result.now in
    let one = stmt_view c.deref-in-For.result.now in
    let x = c.args.code.now in
    let z = c.for_do.new.code in
    let seen = stmt_view-for c.args.s.now c.in-For.name c.in-For.low c.in-For.down c.in-For.high c.in-For.repeated p _ c.deref-in-For-2.result.now
    c.deref-in-For-3.result.now c.deref-in-For.result.now c.in-For.is c.deref-in-For-2.ensures c.deref-in-For-3.ensures c.deref-in-For.ensures in
    subst (λ v. OnOk c.for_do.result (IsMade (stmt_code s n v) x z)) (sym seen)
    (subst (λ k. OnOk c.for_do.result (IsMade (forms.for_do (at_line s p.line) c.in-For.name a c.in-For.down b (stmt_code (at_line s p.line) k one)) x z))
    c.at-in-For.ensures.next
    (subst (λ q. OnOk c.for_do.result
    (IsMade (forms.for_do q c.in-For.name a c.in-For.down b (stmt_code q c.at-in-For.result.next one)) x z)) c.at-in-For.ensures.site
    c.for_do.ensures.code))

pub stmt-returns-in-Accept-clause-code : goal.stmt-returns-in-Accept-clause-code
stmt-returns-in-Accept-clause-code t c =
    let s = site_view c.args.from.site in
    let n = c.args.from.next in
    let p = c.in-Accept.place in
    let a = accept_view c.in-Accept.a in
    let x = c.args.code.now in
    let z = c.accepting.new.code in
    let seen = stmt_view-accept c.args.s.now c.in-Accept.a p c.in-Accept.is in
    subst (λ v. OnOk c.accepting.result (IsMade (stmt_code s n v) x z)) (sym seen)
    (subst (λ k. OnOk c.accepting.result (IsMade (forms.accepting (at_line s p.line) k a) x z)) c.at-in-Accept.ensures.next
    (subst (λ q. OnOk c.accepting.result (IsMade (forms.accepting q c.at-in-Accept.result.next a) x z)) c.at-in-Accept.ensures.site c.accepting.ensures.code))

-- ## Lists of statements

pub all-loop-s-init : goal.all-loop-s-init
all-loop-s-init t c =
    record {
      way = way_begins (stmts_code (site_view c.args.from.site) c.args.from.next (stmts_view c.args.ss.now)) c.args.code.now;
      next = refl;
    }

pub all-loop-s-preserved : goal.all-loop-s-preserved
all-loop-s-preserved t c =
    let s = site_view c.args.from.site in
    let list = c.args.ss.now in
    let i = c.loop-s.s-index in
    let st = c.s-item.result in
    let n = c.loop-s.next in
    let inside : i < length list = omega arith in
    let here = stmts_here list i st inside c.s-item.is in
    let rest = stmts_view (drop (i + 1) list) in
    let all = stmts_code s c.args.from.next (stmts_view list) in
    let total = c.args.from.next + stmts_scopes (stmts_view list) in
    let left : n + (scopes_in (stmt_view st) + stmts_scopes rest) ≡ total =
    subst (λ (x : StmtTrees). n + stmts_scopes x ≡ total) here c.loop-s.invariant.next in
    record {
      way =
          subst (λ k. IsOnTheWay (stmts_code s k rest) all c.args.code.now c.stmt.new.code) (sym c.in_ok-next.ensures.next)
          (way_goes (stmt_code s n (stmt_view st)) (stmts_code s (n + scopes_in (stmt_view st)) rest) all c.args.code.now c.loop-s.code c.stmt.new.code
          (subst (λ (x : StmtTrees). IsOnTheWay (stmts_code s n x) all c.args.code.now c.loop-s.code) here c.loop-s.invariant.way)
          c.in_ok-next.ensures.code);
      next = omega (arith, left, c.in_ok-next.ensures.next);
    }

pub all-returns-in_err-next-clause-large : goal.all-returns-in_err-next-clause-large
all-returns-in_err-next-clause-large t c =
    let s = site_view c.args.from.site in
    let list = c.args.ss.now in
    let i = c.loop-s.s-index in
    let st = c.s-item.result in
    let n = c.loop-s.next in
    let inside : i < length list = omega arith in
    let here = stmts_here list i st inside c.s-item.is in
    let rest = stmts_view (drop (i + 1) list) in
    let all = stmts_code s c.args.from.next (stmts_view list) in
    refused c.from_residual.result c.in_err-next.field-0.0 all c.args.code.now c.from_residual.ensures.1
    (λ full. way_large (stmt_code s n (stmt_view st)) (stmts_code s (n + scopes_in (stmt_view st)) rest) all c.args.code.now c.loop-s.code
    (subst (λ (x : StmtTrees). IsOnTheWay (stmts_code s n x) all c.args.code.now c.loop-s.code) here c.loop-s.invariant.way)
    (c.in_err-next.ensures.large full))

pub all-returns-clause-code : goal.all-returns-clause-code
all-returns-clause-code t c =
    let s = site_view c.args.from.site in
    let list = c.args.ss.now in
    let past : length list ≤ c.loop-s.s-index = omega arith in
    let all = stmts_code s c.args.from.next (stmts_view list) in
    way_ends all c.args.code.now c.loop-s.code
    (subst (λ (x : StmtTrees). IsOnTheWay (stmts_code s c.loop-s.next x) all c.args.code.now c.loop-s.code) (stmts_end list c.loop-s.s-index past)
    c.loop-s.invariant.way)

pub all-returns-clause-next : goal.all-returns-clause-next
all-returns-clause-next t c =
    let list = c.args.ss.now in
    let past : length list ≤ c.loop-s.s-index = omega arith in
    let left : c.loop-s.next + 0 ≡ c.args.from.next + stmts_scopes (stmts_view list) =
    subst (λ (x : StmtTrees). c.loop-s.next + stmts_scopes x ≡ c.args.from.next + stmts_scopes (stmts_view list)) (stmts_end list c.loop-s.s-index past)
    c.loop-s.invariant.next in
    omega (arith, left)

-- ## Arms

pub arms-loop-a-init : goal.arms-loop-a-init
arms-loop-a-init t c =
    arms_begin (site_view c.args.from.site) c.args.from.next (arms_view c.args.all.now) c.args.code.now c.args.marks.now.starts.items
    c.args.marks.now.ends.items

pub arms-loop-a-preserved : goal.arms-loop-a-preserved
arms-loop-a-preserved t c =
    let s = site_view c.args.from.site in
    let list = c.args.all.now in
    let i = c.loop-a.a-index in
    let a = c.a-item.result in
    let o = c.deref.result.now in
    let n = c.loop-a.next in
    let inside : i < length list = omega arith in
    let here = arm_here list i a a.labels.items o inside c.a-item.is refl c.deref.ensures in
    let rest = arms_view (drop (i + 1) list) in
    let marks = c.loop-a.marks in
    let old = c.args.marks.now in
    let go = subst (λ (x : ArmTrees). ArmsGo s n x c.loop-a.code marks.starts.items marks.ends.items c.args.from.next
    (arms_view list) c.args.code.now old.starts.items old.ends.items) here c.loop-a.invariant in
    arms_next s n a.labels.items (stmt_view o) rest c.loop-a.code marks.starts.items marks.ends.items c.args.from.next (arms_view list) c.args.code.now
    old.starts.items old.ends.items c.arm.new.code c.arm.new.marks.starts.items c.arm.new.marks.ends.items _ go c.in_ok-next.ensures.code
    c.in_ok-next.ensures.starts c.in_ok-next.ensures.ends c.in_ok-next.ensures.next

pub arms-returns-in_err-next-clause-large : goal.arms-returns-in_err-next-clause-large
arms-returns-in_err-next-clause-large t c =
    let s = site_view c.args.from.site in
    let list = c.args.all.now in
    let i = c.loop-a.a-index in
    let a = c.a-item.result in
    let o = c.deref.result.now in
    let n = c.loop-a.next in
    let inside : i < length list = omega arith in
    let here = arm_here list i a a.labels.items o inside c.a-item.is refl c.deref.ensures in
    let rest = arms_view (drop (i + 1) list) in
    let marks = c.loop-a.marks in
    let old = c.args.marks.now in
    let go = subst (λ (x : ArmTrees). ArmsGo s n x c.loop-a.code marks.starts.items marks.ends.items c.args.from.next
    (arms_view list) c.args.code.now old.starts.items old.ends.items) here c.loop-a.invariant in
    refused c.from_residual.result c.in_err-next.field-0.0 (arms_code s c.args.from.next (arms_view list)) c.args.code.now c.from_residual.ensures.1
    (λ full. arms_large s n a.labels.items (stmt_view o) rest c.loop-a.code marks.starts.items marks.ends.items c.args.from.next (arms_view list)
    c.args.code.now old.starts.items old.ends.items go (c.in_err-next.ensures.large full))

pub arms-returns-clause-code : goal.arms-returns-clause-code
arms-returns-clause-code t c =
    let s = site_view c.args.from.site in
    let list = c.args.all.now in
    let past : length list ≤ c.loop-a.a-index = omega arith in
    let marks = c.loop-a.marks in
    let old = c.args.marks.now in
    let go = subst (λ (x : ArmTrees). ArmsGo s c.loop-a.next x c.loop-a.code marks.starts.items marks.ends.items c.args.from.next
    (arms_view list) c.args.code.now old.starts.items old.ends.items) (arms_end list c.loop-a.a-index past) c.loop-a.invariant in
    go.made c.loop-a.code refl

pub arms-returns-clause-starts : goal.arms-returns-clause-starts
arms-returns-clause-starts t c =
    let s = site_view c.args.from.site in
    let list = c.args.all.now in
    let past : length list ≤ c.loop-a.a-index = omega arith in
    let marks = c.loop-a.marks in
    let old = c.args.marks.now in
    let go = subst (λ (x : ArmTrees). ArmsGo s c.loop-a.next x c.loop-a.code marks.starts.items marks.ends.items c.args.from.next
    (arms_view list) c.args.code.now old.starts.items old.ends.items) (arms_end list c.loop-a.a-index past) c.loop-a.invariant in
    sym (append-nil marks.starts.items) ∙ go.starting

pub arms-returns-clause-ends : goal.arms-returns-clause-ends
arms-returns-clause-ends t c =
    let s = site_view c.args.from.site in
    let list = c.args.all.now in
    let past : length list ≤ c.loop-a.a-index = omega arith in
    let marks = c.loop-a.marks in
    let old = c.args.marks.now in
    let go = subst (λ (x : ArmTrees). ArmsGo s c.loop-a.next x c.loop-a.code marks.starts.items marks.ends.items c.args.from.next
    (arms_view list) c.args.code.now old.starts.items old.ends.items) (arms_end list c.loop-a.a-index past) c.loop-a.invariant in
    sym (append-nil marks.ends.items) ∙ go.ending

pub arms-returns-clause-next : goal.arms-returns-clause-next
arms-returns-clause-next t c =
    let s = site_view c.args.from.site in
    let list = c.args.all.now in
    let past : length list ≤ c.loop-a.a-index = omega arith in
    let marks = c.loop-a.marks in
    let old = c.args.marks.now in
    let go = subst (λ (x : ArmTrees). ArmsGo s c.loop-a.next x c.loop-a.code marks.starts.items marks.ends.items c.args.from.next
    (arms_view list) c.args.code.now old.starts.items old.ends.items) (arms_end list c.loop-a.a-index past) c.loop-a.invariant in
    omega (arith, go.next)

pub arm-returns-in_err-next-clause-large : goal.arm-returns-in_err-next-clause-large
arm-returns-in_err-next-clause-large t c =
    let s = site_view c.args.from.site in
    let n = c.args.from.next in
    refused c.from_residual-in_err-next.result c.in_err-next.field-0.0 (stmt_code s n (stmt_view c.args.s.now) ⨾ one s
    (JMP 0)) c.args.code.now c.from_residual-in_err-next.ensures.1
    (λ full. omega (arith, c.in_err-next.ensures.large full))

pub arm-returns-in_err-end-clause-large : goal.arm-returns-in_err-end-clause-large
arm-returns-in_err-end-clause-large t c =
    let s = site_view c.args.from.site in
    let n = c.args.from.next in
    refused c.from_residual-in_err-end.result c.in_err-end.field-0.0 (stmt_code s n (stmt_view c.args.s.now) ⨾ one s
    (JMP 0)) c.args.code.now c.from_residual-in_err-end.ensures.1
    (λ full. omega (arith, c.in_err-end.ensures.large full, c.in_ok-next.ensures.code.size))

pub arm-returns-clause-code : goal.arm-returns-clause-code
arm-returns-clause-code t c =
    let s = site_view c.args.from.site in
    made_both (stmt_code s c.args.from.next (stmt_view c.args.s.now)) (one s (JMP 0)) c.args.code.now c.stmt.new.code c.end.new.code
    c.in_ok-next.ensures.code c.in_ok-end.ensures.code

pub arm-returns-clause-starts : goal.arm-returns-clause-starts
arm-returns-clause-starts t c = c.in_ok-end.ensures.starts ∙ c.in_ok-begin.ensures.starts

pub arm-returns-clause-ends : goal.arm-returns-clause-ends
arm-returns-clause-ends t c =
    c.in_ok-end.ensures.ends ∙ ap₂ (λ (l : List ℕ) k. l ++ k ∷ []) c.in_ok-begin.ensures.ends c.in_ok-next.ensures.code.size

-- ## `case`

pub case_of-returns-in_err-first-clause-large : goal.case_of-returns-in_err-first-clause-large
case_of-returns-in_err-first-clause-large t c =
    let s = site_view c.args.from.site in
    let n = c.args.from.next in
    refused c.from_residual.result c.in_err-first.field-0.0 (forms.case_of s n (expr_view c.args.e.now)
    (arms_view c.args.all.now)) c.args.code.now c.from_residual.ensures.1
    (λ full. omega (arith, c.in_err-first.ensures.large full, open_tests_size s (arms_view c.args.all.now), tests_size s n 0 (arms_view c.args.all.now)))

pub case_of-returns-in_err-next-clause-large : goal.case_of-returns-in_err-next-clause-large
case_of-returns-in_err-next-clause-large t c =
    let s = site_view c.args.from.site in
    let n = c.args.from.next in
    refused c.from_residual-in_err-next.result c.in_err-next.field-0.0 (forms.case_of s n (expr_view c.args.e.now)
    (arms_view c.args.all.now)) c.args.code.now c.from_residual-in_err-next.ensures.1
    (λ full. omega (
      arith,
      c.in_err-next.ensures.large full,
      c.in_ok-first.ensures.code.size,
      open_tests_size s
          (arms_view c.args.all.now),
      tests_size s n 0 (arms_view c.args.all.now),
    ))

pub case_of-lead_arms-requires-clause-tests : goal.case_of-lead_arms-requires-clause-tests
case_of-lead_arms-requires-clause-tests t c =
    let s = site_view c.args.from.site in
    case_have_tests s c.args.from.next (expr_code s (expr_view c.args.e.now)) (arms_view c.args.all.now) c.args.code.now c.tests.new.code c.arms.new.code
    c.in_ok-first.first c.in_ok-first.ensures.code c.in_ok-first.ensures.address c.in_ok-next.ensures.code

pub case_of-lead_arms-requires-clause-ends : goal.case_of-lead_arms-requires-clause-ends
case_of-lead_arms-requires-clause-ends t c =
    let s = site_view c.args.from.site in
    let arms = arms_view c.args.all.now in
    let y = c.tests.new.code in
    let ends = ends_of s c.args.from.next arms (length y.code) in
    ap (λ (l : List ℕ). have_all c.arms.new.code.code l) (c.in_ok-next.ensures.ends ∙ ap (λ (l : List ℕ). l ++ ends) c.new-marks.ensures.ends)
    ∙ arms_have s c.args.from.next arms y c.arms.new.code c.in_ok-next.ensures.code

pub case_of-returns-clause-code : goal.case_of-returns-clause-code
case_of-returns-clause-code t c =
    let s = site_view c.args.from.site in
    let n = c.args.from.next in
    let arms = arms_view c.args.all.now in
    let y = c.tests.new.code in
    let z = c.arms.new.code in
    let starts = starts_of s n arms (length y.code) in
    let ends = ends_of s n arms (length y.code) in
    let begun : c.arms.new.marks.starts.items ≡ starts = c.in_ok-next.ensures.starts ∙ ap (λ (l : List ℕ). l ++ starts) c.new-marks.ensures.starts in
    let ended : c.arms.new.marks.ends.items ≡ ends = c.in_ok-next.ensures.ends ∙ ap (λ (l : List ℕ). l ++ ends) c.new-marks.ensures.ends in
    subst (λ (m : Made). IsMade (forms.case_of s n (expr_view c.args.e.now) arms) c.args.code.now m)
    (sym (c.lead_arms.ensures
    ∙ ap₂ (λ (u v : List ℕ). record z { code = all_led (tests_led z.code c.in_ok-first.first arms u) v (length z.code) }) begun ended))
    (case_made s n (expr_code s (expr_view c.args.e.now)) arms c.args.code.now y z c.in_ok-first.first c.in_ok-first.ensures.code
    c.in_ok-first.ensures.address c.in_ok-next.ensures.code)

-- ## Accepts

pub accepting-returns-in_err-accept-clause-large : goal.accepting-returns-in_err-accept-clause-large
accepting-returns-in_err-accept-clause-large t c =
    let s = site_view c.args.from.site in
    let n = c.args.from.next in
    refused c.from_residual.result c.in_err-accept.field-0.0 (forms.accepting s n (accept_view c.args.a.now)) c.args.code.now c.from_residual.ensures.1
    (λ full. omega (arith, c.in_err-accept.ensures.large full))

pub accepting-returns-clause-code : goal.accepting-returns-clause-code
accepting-returns-clause-code t c =
    let s = site_view c.args.from.site in
    let n = c.args.from.next in
    let a = accept_view c.args.a.now in
    then_made c.meeting.result (accept_code s n a) (accepted_code s n a ⨾ one s EACC) c.args.code.now c.accept.new.made c.meeting.new.code
    c.in_ok-accept.ensures.code c.meeting.ensures.code

pub accepting-returns-clause-large : goal.accepting-returns-clause-large
accepting-returns-clause-large t c =
    let s = site_view c.args.from.site in
    let n = c.args.from.next in
    let a = accept_view c.args.a.now in
    then_large c.meeting.result (accept_code s n a) (accepted_code s n a ⨾ one s EACC) c.args.code.now c.accept.new.made
    c.in_ok-accept.ensures.code c.meeting.ensures.large

pub meeting-returns-in_err-next-clause-large : goal.meeting-returns-in_err-next-clause-large
meeting-returns-in_err-next-clause-large t c =
    let s = site_view c.args.from.site in
    let n = c.args.from.next in
    refused c.from_residual.result c.in_err-next.field-0.0 (accepted_code s n (accept_view c.args.a.now) ⨾ one
    (site_view c.args.end) EACC) c.args.code.now c.from_residual.ensures.1
    (λ full. omega (arith, c.in_err-next.ensures.large full))

pub meeting-returns-in_err-put-clause-large : goal.meeting-returns-in_err-put-clause-large
meeting-returns-in_err-put-clause-large t c =
    let s = site_view c.args.from.site in
    let n = c.args.from.next in
    refused c.from_residual-in_err-put.result c.in_err-put.field-0.0 (accepted_code s n (accept_view c.args.a.now) ⨾ one
    (site_view c.args.end) EACC) c.args.code.now c.from_residual-in_err-put.ensures.1
    (λ full. omega (arith, c.in_err-put.ensures.large full, c.in_ok-next.ensures.code.size))

pub meeting-returns-clause-code : goal.meeting-returns-clause-code
meeting-returns-clause-code t c =
    let s = site_view c.args.from.site in
    made_both (accepted_code s c.args.from.next (accept_view c.args.a.now)) (one (site_view c.args.end) EACC) c.args.code.now c.accepted.new.code c.put.new.self
    c.in_ok-next.ensures.code c.in_ok-put.ensures.code

-- ## Branches

pub branches-loop-a-init : goal.branches-loop-a-init
branches-loop-a-init t c =
    branches_begin (site_view c.args.from.site) c.args.from.next (alts_view c.args.alts.now) c.args.code.now c.args.marks.now.starts.items
    c.args.marks.now.ends.items

pub branches-loop-a-preserved : goal.branches-loop-a-preserved
branches-loop-a-preserved t c =
    let s = site_view c.args.from.site in
    let list = c.args.alts.now in
    let i = c.loop-a.a-index in
    let a = c.a-item.result in
    let n = c.loop-a.next in
    let inside : i < length list = omega arith in
    let here = alts_here list i a inside c.a-item.is in
    let rest = alts_view (drop (i + 1) list) in
    let marks = c.loop-a.marks in
    let old = c.args.marks.now in
    let go = subst (λ (x : AltTrees). BranchesGo s n x c.loop-a.code marks.starts.items marks.ends.items c.args.from.next
    (alts_view list) c.args.code.now old.starts.items old.ends.items) here c.loop-a.invariant in
    branches_next s n (alt_view a) rest c.loop-a.code marks.starts.items marks.ends.items c.args.from.next (alts_view list) c.args.code.now
    old.starts.items old.ends.items c.branch-a.new.code c.branch-a.new.marks.starts.items c.branch-a.new.marks.ends.items _ go c.in_ok-next.ensures.code
    c.in_ok-next.ensures.starts c.in_ok-next.ensures.ends c.in_ok-next.ensures.next

pub branches-returns-in_err-next-clause-large : goal.branches-returns-in_err-next-clause-large
branches-returns-in_err-next-clause-large t c =
    let s = site_view c.args.from.site in
    let list = c.args.alts.now in
    let i = c.loop-a.a-index in
    let a = c.a-item.result in
    let n = c.loop-a.next in
    let inside : i < length list = omega arith in
    let here = alts_here list i a inside c.a-item.is in
    let rest = alts_view (drop (i + 1) list) in
    let marks = c.loop-a.marks in
    let old = c.args.marks.now in
    let go = subst (λ (x : AltTrees). BranchesGo s n x c.loop-a.code marks.starts.items marks.ends.items c.args.from.next
    (alts_view list) c.args.code.now old.starts.items old.ends.items) here c.loop-a.invariant in
    refused c.from_residual.result c.in_err-next.field-0.0 (branches_code s c.args.from.next (alts_view list) 0) c.args.code.now c.from_residual.ensures.1
    (λ full. branches_large s n (alt_view a) rest c.loop-a.code marks.starts.items marks.ends.items c.args.from.next (alts_view list)
    c.args.code.now old.starts.items old.ends.items go (c.in_err-next.ensures.large full))

pub branches-returns-clause-code : goal.branches-returns-clause-code
branches-returns-clause-code t c =
    let s = site_view c.args.from.site in
    let list = c.args.alts.now in
    let past : length list ≤ c.loop-a.a-index = omega arith in
    let marks = c.loop-a.marks in
    let old = c.args.marks.now in
    let go = subst (λ (x : AltTrees). BranchesGo s c.loop-a.next x c.loop-a.code marks.starts.items marks.ends.items c.args.from.next
    (alts_view list) c.args.code.now old.starts.items old.ends.items) (alts_end list c.loop-a.a-index past) c.loop-a.invariant in
    go.made c.loop-a.code refl

pub branches-returns-clause-starts : goal.branches-returns-clause-starts
branches-returns-clause-starts t c =
    let s = site_view c.args.from.site in
    let list = c.args.alts.now in
    let past : length list ≤ c.loop-a.a-index = omega arith in
    let marks = c.loop-a.marks in
    let old = c.args.marks.now in
    let go = subst (λ (x : AltTrees). BranchesGo s c.loop-a.next x c.loop-a.code marks.starts.items marks.ends.items c.args.from.next
    (alts_view list) c.args.code.now old.starts.items old.ends.items) (alts_end list c.loop-a.a-index past) c.loop-a.invariant in
    sym (append-nil marks.starts.items) ∙ go.starting

pub branches-returns-clause-ends : goal.branches-returns-clause-ends
branches-returns-clause-ends t c =
    let s = site_view c.args.from.site in
    let list = c.args.alts.now in
    let past : length list ≤ c.loop-a.a-index = omega arith in
    let marks = c.loop-a.marks in
    let old = c.args.marks.now in
    let go = subst (λ (x : AltTrees). BranchesGo s c.loop-a.next x c.loop-a.code marks.starts.items marks.ends.items c.args.from.next
    (alts_view list) c.args.code.now old.starts.items old.ends.items) (alts_end list c.loop-a.a-index past) c.loop-a.invariant in
    sym (append-nil marks.ends.items) ∙ go.ending

pub branches-returns-clause-next : goal.branches-returns-clause-next
branches-returns-clause-next t c =
    let s = site_view c.args.from.site in
    let list = c.args.alts.now in
    let past : length list ≤ c.loop-a.a-index = omega arith in
    let marks = c.loop-a.marks in
    let old = c.args.marks.now in
    let go = subst (λ (x : AltTrees). BranchesGo s c.loop-a.next x c.loop-a.code marks.starts.items marks.ends.items c.args.from.next
    (alts_view list) c.args.code.now old.starts.items old.ends.items) (alts_end list c.loop-a.a-index past) c.loop-a.invariant in
    omega (arith, go.next)

-- ## One branch

-- ## One branch

pub branch-returns-in_err-choose-clause-large : goal.branch-returns-in_err-choose-clause-large
branch-returns-in_err-choose-clause-large t c =
    let s = site_view c.args.from.site in
    let n = c.args.from.next in
    let a = c.args.a.now in
    let comm = comm_view a.comm in
    let ss = stmts_view a.rest.items in
    let guard = option_map expr_view a.guard in
    let view : alt_view a ≡ alt a.spread guard comm ss = alt_view-out a in
    let is : is_terminate comm ≡ false = sym c.is_terminate.ensures ∙ c.if-is_terminate.false in
    let same = ap (λ v. open_branch s n v) view ∙ plain_branch s n a.spread guard ss comm is in
    refused c.from_residual-in_err-choose.result c.in_err-choose.field-0.0
    (open_branch s n (alt_view a)) c.args.code.now c.from_residual-in_err-choose.ensures.1
    (λ full. subst (λ (o : Code). IsTooLarge o c.args.code.now) (sym same) (omega (arith, c.in_err-choose.ensures.large full)))

pub branch-returns-in_err-next-clause-large : goal.branch-returns-in_err-next-clause-large
branch-returns-in_err-next-clause-large t c =
    let s = site_view c.args.from.site in
    let n = c.args.from.next in
    let a = c.args.a.now in
    let comm = comm_view a.comm in
    let ss = stmts_view a.rest.items in
    let guard = option_map expr_view a.guard in
    let view : alt_view a ≡ alt a.spread guard comm ss = alt_view-out a in
    let is : is_terminate comm ≡ false = sym c.is_terminate.ensures ∙ c.if-is_terminate.false in
    let same = ap (λ v. open_branch s n v) view ∙ plain_branch s n a.spread guard ss comm is in
    refused c.from_residual-in_err-next.result c.in_err-next.field-0.0 (open_branch s n (alt_view a)) c.args.code.now c.from_residual-in_err-next.ensures.1
    (λ full. subst (λ (o : Code). IsTooLarge o c.args.code.now) (sym same)
    (omega (arith, c.in_err-next.ensures.large full, c.in_ok-choose.ensures.code.size)))

pub branch-returns-in_err-next-2-clause-large : goal.branch-returns-in_err-next-2-clause-large
branch-returns-in_err-next-2-clause-large t c =
    let s = site_view c.args.from.site in
    let n = c.args.from.next in
    let a = c.args.a.now in
    let comm = comm_view a.comm in
    let ss = stmts_view c.deref-2.result.now in
    let guard = option_map expr_view a.guard in
    let view : alt_view a ≡ alt a.spread guard comm ss =
    alt_view-out a ∙ ap (λ l. alt a.spread guard comm (stmts_view l)) (sym c.deref-2.ensures.value) in
    let is : is_terminate comm ≡ false = sym c.is_terminate.ensures ∙ c.if-is_terminate.false in
    let same = ap (λ v. open_branch s n v) view ∙ plain_branch s n a.spread guard ss comm is in
    refused c.from_residual-in_err-next-2.result c.in_err-next-2.field-0.0
    (open_branch s n (alt_view a)) c.args.code.now c.from_residual-in_err-next-2.ensures.1
    (λ full. subst (λ (o : Code). IsTooLarge o c.args.code.now) (sym same)
    (omega (
      arith,
      subst (λ k. IsTooLarge (stmts_code s k ss) c.met.new.code) c.in_ok-next.ensures.next
          (c.in_err-next-2.ensures.large full),
      c.in_ok-choose.ensures.code.size,
      c.in_ok-next.ensures.code.size,
    )))

pub branch-returns-in_err-end-clause-large : goal.branch-returns-in_err-end-clause-large
branch-returns-in_err-end-clause-large t c =
    let s = site_view c.args.from.site in
    let n = c.args.from.next in
    let a = c.args.a.now in
    let comm = comm_view a.comm in
    let ss = stmts_view c.deref-2.result.now in
    let guard = option_map expr_view a.guard in
    let view : alt_view a ≡ alt a.spread guard comm ss =
    alt_view-out a ∙ ap (λ l. alt a.spread guard comm (stmts_view l)) (sym c.deref-2.ensures.value) in
    let is : is_terminate comm ≡ false = sym c.is_terminate.ensures ∙ c.if-is_terminate.false in
    let same = ap (λ v. open_branch s n v) view ∙ plain_branch s n a.spread guard ss comm is in
    let rest = subst (λ k. IsMade (stmts_code s k ss) c.met.new.code c.all.new.code) c.in_ok-next.ensures.next c.in_ok-next-2.ensures.code in
    refused c.from_residual-in_err-end.result c.in_err-end.field-0.0 (open_branch s n (alt_view a)) c.args.code.now c.from_residual-in_err-end.ensures.1
    (λ full. subst (λ (o : Code). IsTooLarge o c.args.code.now) (sym same)
    (omega (arith, c.in_err-end.ensures.large full, c.in_ok-choose.ensures.code.size, c.in_ok-next.ensures.code.size, rest.size)))

pub branch-returns-clause-code : goal.branch-returns-clause-code
branch-returns-clause-code t c =
    let s = site_view c.args.from.site in
    let n = c.args.from.next in
    let a = c.args.a.now in
    let comm = comm_view a.comm in
    let ss = stmts_view c.deref-2.result.now in
    let guard = option_map expr_view a.guard in
    let view : alt_view a ≡ alt a.spread guard comm ss =
    alt_view-out a ∙ ap (λ l. alt a.spread guard comm (stmts_view l)) (sym c.deref-2.ensures.value) in
    let is : is_terminate comm ≡ false = sym c.is_terminate.ensures ∙ c.if-is_terminate.false in
    let same = ap (λ v. open_branch s n v) view ∙ plain_branch s n a.spread guard ss comm is in
    let chosen = chosen_code s (spread_replicas s a.spread) in
    let met = met_code s n comm in
    let behind = stmts_code s (n + comm_scopes comm) ss in
    let x = c.args.code.now in
    let rest = subst (λ k. IsMade (stmts_code s k ss) c.met.new.code c.all.new.code) c.in_ok-next.ensures.next c.in_ok-next-2.ensures.code in
    subst (λ (o : Code). IsMade o x c.end.new.code) (sym same)
    (made_both (branch_body s n a.spread comm ss) (one s (JMP 0)) x c.all.new.code c.end.new.code
    (made_both chosen (met ⨾ behind) x c.choose.new.made c.all.new.code c.in_ok-choose.ensures.code
    (made_both met behind c.choose.new.made c.met.new.code c.all.new.code c.in_ok-next.ensures.code rest))
    c.in_ok-end.ensures.code)

pub branch-returns-clause-starts : goal.branch-returns-clause-starts
branch-returns-clause-starts t c =
    let s = site_view c.args.from.site in
    let a = c.args.a.now in
    c.in_ok-end.ensures.starts ∙ c.in_ok-add_branches.ensures.branches
    ∙ ap₂ (λ k (v : Option Spread). c.args.marks.now.starts.items ++ branches_from s k v) c.here.ensures.address (sym (ap (λ v. spread_of v) (alt_view-out a)))

pub branch-returns-clause-ends : goal.branch-returns-clause-ends
branch-returns-clause-ends t c =
    let s = site_view c.args.from.site in
    let n = c.args.from.next in
    let a = c.args.a.now in
    let comm = comm_view a.comm in
    let ss = stmts_view c.deref-2.result.now in
    let guard = option_map expr_view a.guard in
    let view : alt_view a ≡ alt a.spread guard comm ss =
    alt_view-out a ∙ ap (λ l. alt a.spread guard comm (stmts_view l)) (sym c.deref-2.ensures.value) in
    let is : is_terminate comm ≡ false = sym c.is_terminate.ensures ∙ c.if-is_terminate.false in
    let same = ap (λ v. open_branch s n v) view ∙ plain_branch s n a.spread guard ss comm is in
    let at = length c.args.code.now.code in
    let rest = subst (λ k. IsMade (stmts_code s k ss) c.met.new.code c.all.new.code) c.in_ok-next.ensures.next c.in_ok-next-2.ensures.code in
    let here : length c.all.new.code.code ≡ at + (branch_body s n a.spread comm ss).size =
    omega (arith, c.in_ok-choose.ensures.code.size, c.in_ok-next.ensures.code.size, rest.size) in
    c.in_ok-end.ensures.ends ∙ ap (λ k. c.args.marks.now.ends.items ++ k ∷ []) here
    ∙ ap (λ (l : List ℕ). c.args.marks.now.ends.items ++ l) (sym (ap (λ v. end_of s n v at) view ∙ plain_end s n a.spread guard ss comm at is))

pub branch-returns-clause-next : goal.branch-returns-clause-next
branch-returns-clause-next t c =
    let s = site_view c.args.from.site in
    let n = c.args.from.next in
    let a = c.args.a.now in
    let comm = comm_view a.comm in
    let ss = stmts_view c.deref-2.result.now in
    let guard = option_map expr_view a.guard in
    let view : alt_view a ≡ alt a.spread guard comm ss =
    alt_view-out a ∙ ap (λ l. alt a.spread guard comm (stmts_view l)) (sym c.deref-2.ensures.value) in
    let is : is_terminate comm ≡ false = sym c.is_terminate.ensures ∙ c.if-is_terminate.false in
    let same = ap (λ v. open_branch s n v) view ∙ plain_branch s n a.spread guard ss comm is in
    omega (arith, c.in_ok-next.ensures.next, c.in_ok-next-2.ensures.next, ap (λ v. alt_scopes v) view)

-- ## `select`

pub select-returns-in_err-places-clause-large : goal.select-returns-in_err-places-clause-large
select-returns-in_err-places-clause-large t c =
    let s = site_view c.args.from.site in
    let n = c.args.from.next in
    let alts = alts_view c.args.alts.now in
    refused c.from_residual.result c.in_err-places.field-0.0 (forms.select s n c.args.pri alts) c.args.code.now c.from_residual.ensures.1
    (λ full. omega (arith, c.in_err-places.ensures.large full, alternatives_size s (alternatives (context_of s) n alts) (distances s n 0 alts)))

pub select-returns-in_err-decide-clause-large : goal.select-returns-in_err-decide-clause-large
select-returns-in_err-decide-clause-large t c =
    let s = site_view c.args.from.site in
    let n = c.args.from.next in
    let alts = alts_view c.args.alts.now in
    refused c.from_residual-in_err-decide.result c.in_err-decide.field-0.0 (forms.select s n c.args.pri alts) c.args.code.now
    c.from_residual-in_err-decide.ensures.1
    (λ full. omega (
      arith,
      c.in_err-decide.ensures.large full,
      c.in_ok-places.ensures.code.size,
      alternatives_size s
          (alternatives (context_of s) n alts) (distances s n 0 alts),
    ))

pub select-returns-in_err-next-clause-large : goal.select-returns-in_err-next-clause-large
select-returns-in_err-next-clause-large t c =
    let s = site_view c.args.from.site in
    let n = c.args.from.next in
    let alts = alts_view c.args.alts.now in
    refused c.from_residual-in_err-next.result c.in_err-next.field-0.0 (forms.select s n c.args.pri alts) c.args.code.now
    c.from_residual-in_err-next.ensures.1
    (λ full. omega (
      arith,
      c.in_err-next.ensures.large full,
      c.in_ok-places.ensures.code.size,
      c.in_ok-decide.ensures.code.size,
      alternatives_size s
          (alternatives (context_of s) n alts) (distances s n 0 alts),
    ))

pub select-lead_all-requires : goal.select-lead_all-requires
select-lead_all-requires t c =
    let s = site_view c.args.from.site in
    let n = c.args.from.next in
    let alts = alts_view c.args.alts.now in
    let y = c.decide.new.made in
    let ends = branch_ends s n alts (length y.code) in
    ap (λ (l : List ℕ). have_all c.branches.new.code.code l)
    (c.deref.ensures.value ∙ c.in_ok-next.ensures.ends ∙ ap (λ (l : List ℕ). l ++ ends) c.new-marks.ensures.ends)
    ∙ branches_have s n alts y c.branches.new.code c.in_ok-next.ensures.code

pub select-lead_alternatives-requires : goal.select-lead_alternatives-requires
select-lead_alternatives-requires t c =
    let s = site_view c.args.from.site in
    let n = c.args.from.next in
    let pri = c.args.pri in
    let alts = alts_view c.args.alts.now in
    let all = alternatives (context_of s) n alts in
    let x = c.args.code.now in
    let x1 = c.open_alternatives.new.made in
    let y = c.decide.new.made in
    let z = c.branches.new.code in
    let w = c.lead_all.new.code in
    let ends = branch_ends s n alts (length y.code) in
    let rest = sel_code s pri None ⨾ branches_code s n alts 0 ⨾ nothing in
    let whole : w ≡ through (λ l. all_led l ends (length z.code)) z =
    c.lead_all.ensures
    ∙ ap (λ (l : List ℕ). record z { code = all_led z.code l (length z.code) })
    (c.deref.ensures.value ∙ c.in_ok-next.ensures.ends ∙ ap (λ (l : List ℕ). l ++ ends) c.new-marks.ensures.ends) in
    let made : IsMade (with_arms (length all) (open_alternatives s all) ⨾ rest) x w =
    made_both (with_arms (length all) (open_alternatives s all)) rest x x1 w c.in_ok-places.ensures.code
    (subst (λ (m : Made). IsMade rest x1 m) (sym whole) (select_rest s n pri alts x1 y z c.in_ok-decide.ensures.code c.in_ok-next.ensures.code)) in
    ap (λ (l : List (Option ℕ)). can_lead w.code l) (c.deref-2.ensures.value ∙ c.in_ok-places.ensures.places)
    ∙ alternatives_can_lead s all (length all) rest x w made

pub select-returns-clause-code : goal.select-returns-clause-code
select-returns-clause-code t c =
    let s = site_view c.args.from.site in
    let n = c.args.from.next in
    let pri = c.args.pri in
    let alts = alts_view c.args.alts.now in
    let all = alternatives (context_of s) n alts in
    let x = c.args.code.now in
    let x1 = c.open_alternatives.new.made in
    let y = c.decide.new.made in
    let z = c.branches.new.code in
    let w = c.lead_all.new.code in
    let ends = branch_ends s n alts (length y.code) in
    let starts = branch_starts s n alts (length y.code) in
    let rest = sel_code s pri None ⨾ branches_code s n alts 0 ⨾ nothing in
    let whole : w ≡ through (λ l. all_led l ends (length z.code)) z =
    c.lead_all.ensures
    ∙ ap (λ (l : List ℕ). record z { code = all_led z.code l (length z.code) })
    (c.deref.ensures.value ∙ c.in_ok-next.ensures.ends ∙ ap (λ (l : List ℕ). l ++ ends) c.new-marks.ensures.ends) in
    let made : IsMade (with_arms (length all) (open_alternatives s all) ⨾ rest) x w =
    made_both (with_arms (length all) (open_alternatives s all)) rest x x1 w c.in_ok-places.ensures.code
    (subst (λ (m : Made). IsMade rest x1 m) (sym whole) (select_rest s n pri alts x1 y z c.in_ok-decide.ensures.code c.in_ok-next.ensures.code)) in
    let first = first_branch s (length x.code) all in
    let here : length y.code ≡ first + 0 = omega (arith, c.in_ok-places.ensures.code.size, c.in_ok-decide.ensures.code.size) in
    c.lead_alternatives.ensures.alternatives s all (distances s n 0 alts) rest x made (c.deref-2.ensures.value ∙ c.in_ok-places.ensures.places)
    (c.deref-3.ensures.value ∙ c.in_ok-next.ensures.starts ∙ ap (λ (l : List ℕ). l ++ starts) c.new-marks.ensures.starts
    ∙ ap (λ k. branch_starts s n alts k) here ∙ starts_far s n first 0 alts)
    (omega (arith, distances_many s n 0 alts))

-- ## `select` with an else part

pub select_else-returns-in_err-places-in-Some-clause-large : goal.select_else-returns-in_err-places-in-Some-clause-large
select_else-returns-in_err-places-in-Some-clause-large t c =
    let from = c.at-from.result in
    let s = site_view from.site in
    let n = from.next in
    let pri = c.in-Select.pri in
    let list = c.as_slice-alts.result.now in
    let alts = alts_view list in
    let all = alternatives (context_of s) n alts in
    let x = c.args.code.now in
    let seen = stmt_view-else c.args.s.now pri c.in-Select.alts c.in-Select.other c.in-Some.otherwise c.in-Select.place _ list
    c.in-Some.otherwise.0.items c.in-Select.is
    c.in-Some.is c.as_slice-alts.ensures.value refl in
    let lift : IsTooLarge (forms.select_else s n pri alts (stmts_view c.in-Some.otherwise.0.items)) x →
    IsTooLarge (stmt_code (site_view c.args.from.site) c.args.from.next (stmt_view c.args.s.now)) x =
    λ large. subst (λ v. IsTooLarge (stmt_code (site_view c.args.from.site) c.args.from.next v) x) (sym seen)
    (subst (λ k. IsTooLarge (forms.select_else (at_line (site_view c.args.from.site) c.in-Select.place.line) k pri alts
    (stmts_view c.in-Some.otherwise.0.items)) x) c.at-from.ensures.next
    (subst (λ q. IsTooLarge (forms.select_else q n pri alts (stmts_view c.in-Some.otherwise.0.items)) x) c.at-from.ensures.site large)) in
    let o = stmts_code s (n + alts_scopes alts) (stmts_view c.in-Some.otherwise.0.items) in
    refused c.from_residual.result c.in_err-places-in-Some.field-0.0 (stmt_code (site_view c.args.from.site) c.args.from.next
    (stmt_view c.args.s.now)) x c.from_residual.ensures.1
    (λ full. lift (omega (arith, c.in_err-places-in-Some.ensures.large full, branches_size s n alts 0 o.size, alternatives_size s all (distances s n 0 alts))))

pub select_else-returns-in_err-decided-in-Some-clause-large : goal.select_else-returns-in_err-decided-in-Some-clause-large
select_else-returns-in_err-decided-in-Some-clause-large t c =
    let from = c.at-from.result in
    let s = site_view from.site in
    let n = from.next in
    let pri = c.in-Select.pri in
    let list = c.as_slice-alts.result.now in
    let alts = alts_view list in
    let all = alternatives (context_of s) n alts in
    let x = c.args.code.now in
    let seen = stmt_view-else c.args.s.now pri c.in-Select.alts c.in-Select.other c.in-Some.otherwise c.in-Select.place _ list
    c.in-Some.otherwise.0.items c.in-Select.is
    c.in-Some.is c.as_slice-alts.ensures.value refl in
    let lift : IsTooLarge (forms.select_else s n pri alts (stmts_view c.in-Some.otherwise.0.items)) x →
    IsTooLarge (stmt_code (site_view c.args.from.site) c.args.from.next (stmt_view c.args.s.now)) x =
    λ large. subst (λ v. IsTooLarge (stmt_code (site_view c.args.from.site) c.args.from.next v) x) (sym seen)
    (subst (λ k. IsTooLarge (forms.select_else (at_line (site_view c.args.from.site) c.in-Select.place.line) k pri alts
    (stmts_view c.in-Some.otherwise.0.items)) x) c.at-from.ensures.next
    (subst (λ q. IsTooLarge (forms.select_else q n pri alts (stmts_view c.in-Some.otherwise.0.items)) x) c.at-from.ensures.site large)) in
    let o = stmts_code s (n + alts_scopes alts) (stmts_view c.in-Some.otherwise.0.items) in
    refused c.from_residual-in_err-decided-in-Some.result c.in_err-decided-in-Some.field-0.0 (stmt_code (site_view c.args.from.site) c.args.from.next
    (stmt_view c.args.s.now)) x c.from_residual-in_err-decided-in-Some.ensures.1
    (λ full. lift (omega (
      arith,
      c.in_err-decided-in-Some.ensures.large full,
      c.in_ok-places-in-Some.ensures.code.size,
      branches_size s n alts 0 o.size,
      alternatives_size s all (distances s n 0 alts),
    )))

pub select_else-returns-in_err-next-in-Some-clause-large : goal.select_else-returns-in_err-next-in-Some-clause-large
select_else-returns-in_err-next-in-Some-clause-large t c =
    let from = c.at-from.result in
    let s = site_view from.site in
    let n = from.next in
    let pri = c.in-Select.pri in
    let list = c.as_slice-alts.result.now in
    let alts = alts_view list in
    let all = alternatives (context_of s) n alts in
    let x = c.args.code.now in
    let seen = stmt_view-else c.args.s.now pri c.in-Select.alts c.in-Select.other c.in-Some.otherwise c.in-Select.place _ list
    c.in-Some.otherwise.0.items c.in-Select.is
    c.in-Some.is c.as_slice-alts.ensures.value refl in
    let lift : IsTooLarge (forms.select_else s n pri alts (stmts_view c.in-Some.otherwise.0.items)) x →
    IsTooLarge (stmt_code (site_view c.args.from.site) c.args.from.next (stmt_view c.args.s.now)) x =
    λ large. subst (λ v. IsTooLarge (stmt_code (site_view c.args.from.site) c.args.from.next v) x) (sym seen)
    (subst (λ k. IsTooLarge (forms.select_else (at_line (site_view c.args.from.site) c.in-Select.place.line) k pri alts
    (stmts_view c.in-Some.otherwise.0.items)) x) c.at-from.ensures.next
    (subst (λ q. IsTooLarge (forms.select_else q n pri alts (stmts_view c.in-Some.otherwise.0.items)) x) c.at-from.ensures.site large)) in
    let o = stmts_code s (n + alts_scopes alts) (stmts_view c.in-Some.otherwise.0.items) in
    refused c.from_residual-in_err-next-in-Some.result c.in_err-next-in-Some.field-0.0 (stmt_code (site_view c.args.from.site) c.args.from.next
    (stmt_view c.args.s.now)) x c.from_residual-in_err-next-in-Some.ensures.1
    (λ full. lift (omega (
      arith,
      c.in_err-next-in-Some.ensures.large full,
      c.in_ok-places-in-Some.ensures.code.size,
      c.in_ok-decided-in-Some.ensures.code.size,
      branches_size s n alts 0 o.size,
      alternatives_size s all (distances s n 0 alts),
    )))

pub select_else-returns-in_err-next-in-Some-2-clause-large : goal.select_else-returns-in_err-next-in-Some-2-clause-large
select_else-returns-in_err-next-in-Some-2-clause-large t c =
    let from = c.at-from.result in
    let s = site_view from.site in
    let n = from.next in
    let pri = c.in-Select.pri in
    let list = c.as_slice-alts.result.now in
    let alts = alts_view list in
    let all = alternatives (context_of s) n alts in
    let x = c.args.code.now in
    let seen = stmt_view-else c.args.s.now pri c.in-Select.alts c.in-Select.other c.in-Some.otherwise c.in-Select.place _ list c.deref.result.now c.in-Select.is
    c.in-Some.is c.as_slice-alts.ensures.value c.deref.ensures.value in
    let lift : IsTooLarge (forms.select_else s n pri alts (stmts_view c.deref.result.now)) x →
    IsTooLarge (stmt_code (site_view c.args.from.site) c.args.from.next (stmt_view c.args.s.now)) x =
    λ large. subst (λ v. IsTooLarge (stmt_code (site_view c.args.from.site) c.args.from.next v) x) (sym seen)
    (subst (λ k. IsTooLarge (forms.select_else (at_line (site_view c.args.from.site) c.in-Select.place.line) k pri alts
    (stmts_view c.deref.result.now)) x) c.at-from.ensures.next
    (subst (λ q. IsTooLarge (forms.select_else q n pri alts (stmts_view c.deref.result.now)) x) c.at-from.ensures.site large)) in
    let o = stmts_code s (n + alts_scopes alts) (stmts_view c.deref.result.now) in
    let z = c.branches.new.code in
    let size : length c.lead_here.new.code.code ≡ length z.code =
    ap (λ (m : Made). length m.code) c.lead_here.ensures ∙ length-patched z.code c.in_ok-decided-in-Some.decided (length z.code) in
    refused c.from_residual-in_err-next-in-Some-2.result c.in_err-next-in-Some-2.field-0.0 (stmt_code (site_view c.args.from.site) c.args.from.next
    (stmt_view c.args.s.now)) x c.from_residual-in_err-next-in-Some-2.ensures.1
    (λ full. lift (omega (
      arith,
      subst (λ k. IsTooLarge (stmts_code s k (stmts_view c.deref.result.now)) c.lead_here.new.code) c.in_ok-next-in-Some.ensures.next
          (c.in_err-next-in-Some-2.ensures.large full),
      size,
      c.in_ok-places-in-Some.ensures.code.size,
      c.in_ok-decided-in-Some.ensures.code.size,
      branches_length
          s n alts o.size c.decide.new.made c.branches.new.code c.in_ok-next-in-Some.ensures.code,
      branches_size s n alts 0 o.size,
      alternatives_size s all
          (distances s n 0 alts),
    )))

pub select_else-lead_here-requires : goal.select_else-lead_here-requires
select_else-lead_here-requires t c =
    let from = c.at-from.result in
    let s = site_view from.site in
    let n = from.next in
    let pri = c.in-Select.pri in
    let list = c.as_slice-alts.result.now in
    let alts = alts_view list in
    let all = alternatives (context_of s) n alts in
    let x = c.args.code.now in
    let at = c.in_ok-decided-in-Some.decided in
    let x1 = c.open_alternatives.new.made in
    let y = c.decide.new.made in
    let z = c.branches.new.code in
    let sel = c.in_ok-decided-in-Some.ensures.code in
    let here = c.in_ok-decided-in-Some.ensures.address in
    let put = c.in_ok-next-in-Some.ensures.code in
    sel_has s n pri alts nothing at x1 y z z sel here put

pub select_else-lead_all-requires : goal.select_else-lead_all-requires
select_else-lead_all-requires t c =
    let from = c.at-from.result in
    let s = site_view from.site in
    let n = from.next in
    let pri = c.in-Select.pri in
    let list = c.as_slice-alts.result.now in
    let alts = alts_view list in
    let all = alternatives (context_of s) n alts in
    let x = c.args.code.now in
    let at = c.in_ok-decided-in-Some.decided in
    let x1 = c.open_alternatives.new.made in
    let y = c.decide.new.made in
    let z = c.branches.new.code in
    let sel = c.in_ok-decided-in-Some.ensures.code in
    let here = c.in_ok-decided-in-Some.ensures.address in
    let put = c.in_ok-next-in-Some.ensures.code in
    let v = c.all.new.code in
    let o = stmts_code s c.in_ok-next-in-Some.next (stmts_view c.deref.result.now) in
    let ends = branch_ends s n alts (length y.code) in
    let other = subst (λ (m : Made). IsMade o m v) c.lead_here.ensures c.in_ok-next-in-Some-2.ensures.code in
    let listed : c.deref-in-Some.result.now ≡ ends =
    c.deref-in-Some.ensures.value ∙ c.in_ok-next-in-Some.ensures.ends ∙ ap (λ (l : List ℕ). l ++ ends) c.new-marks.ensures.ends in
    ap (λ (l : List ℕ). have_all v.code l) listed ∙ else_have s n pri alts o at x1 y z v sel here put other

pub select_else-lead_alternatives-requires : goal.select_else-lead_alternatives-requires
select_else-lead_alternatives-requires t c =
    let from = c.at-from.result in
    let s = site_view from.site in
    let n = from.next in
    let pri = c.in-Select.pri in
    let list = c.as_slice-alts.result.now in
    let alts = alts_view list in
    let all = alternatives (context_of s) n alts in
    let x = c.args.code.now in
    let at = c.in_ok-decided-in-Some.decided in
    let x1 = c.open_alternatives.new.made in
    let y = c.decide.new.made in
    let z = c.branches.new.code in
    let sel = c.in_ok-decided-in-Some.ensures.code in
    let here = c.in_ok-decided-in-Some.ensures.address in
    let put = c.in_ok-next-in-Some.ensures.code in
    let v = c.all.new.code in
    let o = stmts_code s c.in_ok-next-in-Some.next (stmts_view c.deref.result.now) in
    let ends = branch_ends s n alts (length y.code) in
    let other = subst (λ (m : Made). IsMade o m v) c.lead_here.ensures c.in_ok-next-in-Some-2.ensures.code in
    let listed : c.deref-in-Some.result.now ≡ ends =
    c.deref-in-Some.ensures.value ∙ c.in_ok-next-in-Some.ensures.ends ∙ ap (λ (l : List ℕ). l ++ ends) c.new-marks.ensures.ends in
    let w = c.lead_all.new.code in
    let branches = branches_code s n alts o.size in
    let rest = sel_code s pri (Some branches.size) ⨾ branches ⨾ o in
    let whole : w ≡ through (λ l. all_led l ends (length v.code)) v =
    c.lead_all.ensures ∙ ap (λ (l : List ℕ). record v { code = all_led v.code l (length v.code) }) listed in
    let made : IsMade (with_arms (length all) (open_alternatives s all) ⨾ rest) x w =
    made_both (with_arms (length all) (open_alternatives s all)) rest x x1 w c.in_ok-places-in-Some.ensures.code
    (subst (λ (m : Made). IsMade rest x1 m) (sym whole) (else_rest s n pri alts o at x1 y z v sel here put other)) in
    ap (λ (l : List (Option ℕ)). can_lead w.code l) (c.deref-in-Some-2.ensures.value ∙ c.in_ok-places-in-Some.ensures.places)
    ∙ alternatives_can_lead s all (length all) rest x w made

pub select_else-returns-in_ok-next-in-Some-2-clause-code : goal.select_else-returns-in_ok-next-in-Some-2-clause-code
select_else-returns-in_ok-next-in-Some-2-clause-code t c is =
    let from = c.at-from.result in
    let s = site_view from.site in
    let n = from.next in
    let pri = c.in-Select.pri in
    let list = c.as_slice-alts.result.now in
    let alts = alts_view list in
    let all = alternatives (context_of s) n alts in
    let x = c.args.code.now in
    let at = c.in_ok-decided-in-Some.decided in
    let x1 = c.open_alternatives.new.made in
    let y = c.decide.new.made in
    let z = c.branches.new.code in
    let sel = c.in_ok-decided-in-Some.ensures.code in
    let here = c.in_ok-decided-in-Some.ensures.address in
    let put = c.in_ok-next-in-Some.ensures.code in
    let v = c.all.new.code in
    let o = stmts_code s c.in_ok-next-in-Some.next (stmts_view c.deref.result.now) in
    let ends = branch_ends s n alts (length y.code) in
    let other = subst (λ (m : Made). IsMade o m v) c.lead_here.ensures c.in_ok-next-in-Some-2.ensures.code in
    let listed : c.deref-in-Some.result.now ≡ ends =
    c.deref-in-Some.ensures.value ∙ c.in_ok-next-in-Some.ensures.ends ∙ ap (λ (l : List ℕ). l ++ ends) c.new-marks.ensures.ends in
    let w = c.lead_all.new.code in
    let branches = branches_code s n alts o.size in
    let rest = sel_code s pri (Some branches.size) ⨾ branches ⨾ o in
    let whole : w ≡ through (λ l. all_led l ends (length v.code)) v =
    c.lead_all.ensures ∙ ap (λ (l : List ℕ). record v { code = all_led v.code l (length v.code) }) listed in
    let made : IsMade (with_arms (length all) (open_alternatives s all) ⨾ rest) x w =
    made_both (with_arms (length all) (open_alternatives s all)) rest x x1 w c.in_ok-places-in-Some.ensures.code
    (subst (λ (m : Made). IsMade rest x1 m) (sym whole) (else_rest s n pri alts o at x1 y z v sel here put other)) in
    let starts = branch_starts s n alts (length y.code) in
    let first = first_branch s (length x.code) all in
    let far : length y.code ≡ first + 0 = omega (arith, c.in_ok-places-in-Some.ensures.code.size, c.in_ok-decided-in-Some.ensures.code.size) in
    let end = c.lead_alternatives.new.made in
    let ss = stmts_view c.deref.result.now in
    let done = c.lead_alternatives.ensures.alternatives s all (distances s n 0 alts) rest x made
    (c.deref-in-Some-2.ensures.value ∙ c.in_ok-places-in-Some.ensures.places)
    (c.deref-in-Some-3.ensures.value ∙ c.in_ok-next-in-Some.ensures.starts ∙ ap (λ (l : List ℕ). l ++ starts) c.new-marks.ensures.starts
    ∙ ap (λ k. branch_starts s n alts k) far ∙ starts_far s n first 0 alts)
    (omega (arith, distances_many s n 0 alts)) in
    let told : IsMade (forms.select_else s n pri alts ss) x end =
    subst (λ k. IsMade (select_code s pri all (distances s n 0 alts) (branches_code s n alts (stmts_code s k ss).size)
    (Some (branches_code s n alts (stmts_code s k ss).size).size) (stmts_code s k ss)) x end)
    c.in_ok-next-in-Some.ensures.next done in
    let seen = stmt_view-else c.args.s.now pri c.in-Select.alts c.in-Select.other c.in-Some.otherwise c.in-Select.place _ list c.deref.result.now c.in-Select.is
    c.in-Some.is c.as_slice-alts.ensures.value c.deref.ensures.value in
    subst (λ v. IsMade (stmt_code (site_view c.args.from.site) c.args.from.next v) x end) (sym seen)
    (subst (λ k. IsMade (forms.select_else (at_line (site_view c.args.from.site) c.in-Select.place.line) k pri alts ss) x end) c.at-from.ensures.next
    (subst (λ q. IsMade (forms.select_else q n pri alts ss) x end) c.at-from.ensures.site told))

pub select_else-returns-in_ok-next-in-Some-2-clause-next : goal.select_else-returns-in_ok-next-in-Some-2-clause-next
select_else-returns-in_ok-next-in-Some-2-clause-next t c is =
    let list = c.as_slice-alts.result.now in
    let pri = c.in-Select.pri in
    let seen = stmt_view-else c.args.s.now pri c.in-Select.alts c.in-Select.other c.in-Some.otherwise c.in-Select.place _ list c.deref.result.now c.in-Select.is
    c.in-Some.is c.as_slice-alts.ensures.value c.deref.ensures.value in
    let scope : scopes_in (stmt_view c.args.s.now) ≡ alts_scopes (alts_view list) + stmts_scopes (stmts_view c.deref.result.now) =
    ap (λ v. scopes_in v) seen in
    omega (arith, c.in_ok-next-in-Some-2.ensures.next, c.in_ok-next-in-Some.ensures.next, c.at-from.ensures.next, scope)
