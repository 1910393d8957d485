use Rattle.std.proofs.Common.{◌≡◌, OnOk, IfErr, sym, subst}
use Rattle.pfc_tree.specs.views.Exprs.{selectors_view, actuals_view}
use Rattle.pfc_types.specs.rules.Expressions.{find}
use Rattle.pfc_emit.specs.declared.emitter.EmitFault.TheVariants.{Full}
use Rattle.pfc_translation.specs.Codes.{Code}
use Rattle.pfc_addresses.specs.Sites.{site_view}
use Rattle.pfc_expression_code.specs.Putting.{IsMade, IsTooLarge}
use Rattle.pfc_call_code.proofs.Called.{entry_of_single, entry_of_variable, whole_variable, part_variable}
use Rattle.pfc_call_code.proofs.calls.called.Goals as goal

pub returns-in-Some-clause-code : goal.returns-in-Some-clause-code
returns-in-Some-clause-code c =
    let s = site_view c.args.site in
    subst (λ (a : Code). OnOk c.call_entry.result (IsMade a c.args.coder.now c.call_entry.new.coder))
    (entry_of_single s c.args.found (find s.env c.args.name.now) c.in-Process.n c.entry_in.result (selectors_view c.args.ss.now)
    (c.in-Some.x.now, c.in-Some.field-0-1) (actuals_view c.args.args.now) c.in-Process.is c.requires.found (sym c.in-Some.ensures) c.entry_in.ensures)
    c.call_entry.ensures.code

pub returns-in-Some-process_in-clause-code : goal.returns-in-Some-process_in-clause-code
returns-in-Some-process_in-clause-code c =
    let s = site_view c.args.site in
    let split = c.in-Some-split_field.ensures in
    subst (λ (a : Code). OnOk c.call_entry-in-Some-process_in.result (IsMade a c.args.coder.now c.call_entry-in-Some-process_in.new.coder))
    (entry_of_variable s c.args.found (find s.env c.args.name.now) c.in-Variable.t c.in-Variable.reference c.in-Some-process_in.n
    c.entry_in-in-Some-process_in.result (selectors_view c.args.ss.now) (selectors_view c.in-Some-split_field.before.now)
    (c.in-Some-split_field.x.now, c.in-Some-split_field.field-0-1-1) (actuals_view c.args.args.now) c.in-Variable.is c.requires.found split.0 split.1
    c.in-Some-process_in.ensures c.entry_in-in-Some-process_in.ensures)
    c.call_entry-in-Some-process_in.ensures.code

pub returns-in-None-process_in-clause-code : goal.returns-in-None-process_in-clause-code
returns-in-None-process_in-clause-code c =
    let s = site_view c.args.site in
    let split = c.in-Some-split_field.ensures in
    subst (λ (a : Code). OnOk c.activate_variable.result (IsMade a c.args.coder.now c.activate_variable.new.coder))
    (part_variable s c.args.found (find s.env c.args.name.now) c.in-Variable.t c.in-Variable.reference (selectors_view c.args.ss.now)
    (selectors_view c.in-Some-split_field.before.now) (c.in-Some-split_field.x.now, c.in-Some-split_field.field-0-1-1) (actuals_view c.args.args.now)
    c.in-Variable.is c.requires.found split.0 split.1 c.in-None-process_in.ensures)
    c.activate_variable.ensures.code

pub returns-in-None-split_field-clause-code : goal.returns-in-None-split_field-clause-code
returns-in-None-split_field-clause-code c =
    let s = site_view c.args.site in
    subst (λ (a : Code). OnOk c.activate_variable-in-None-split_field.result
    (IsMade a c.args.coder.now c.activate_variable-in-None-split_field.new.coder))
    (whole_variable s c.args.found (find s.env c.args.name.now) c.in-Variable.t c.in-Variable.reference (selectors_view c.args.ss.now)
    (actuals_view c.args.args.now) c.in-Variable.is c.requires.found c.in-None-split_field.ensures)
    c.activate_variable-in-None-split_field.ensures.code

pub returns-in-None-split_field-clause-large : goal.returns-in-None-split_field-clause-large
returns-in-None-split_field-clause-large c =
    let s = site_view c.args.site in
    subst (λ (a : Code). IfErr c.activate_variable-in-None-split_field.result (λ fault. fault ≡ Full → IsTooLarge a c.args.coder.now))
    (whole_variable s c.args.found (find s.env c.args.name.now) c.in-Variable.t c.in-Variable.reference (selectors_view c.args.ss.now)
    (actuals_view c.args.args.now) c.in-Variable.is c.requires.found c.in-None-split_field.ensures)
    c.activate_variable-in-None-split_field.ensures.large
