use Rattle.std.proofs.Common.{rules, ◌≡◌, ◌∙◌, Some, None, Err, OnOk, IfErr, sym, ap, subst}
use Rattle.std.specs.Option.{option_copied}
use Rattle.pfc_semantics.specs.Expressions.{element_in}
use Rattle.pfc_store.specs.declared.spots.StepFault.TheVariants.{Index}
use Rattle.pfc_store.specs.Views.{spot_view, typed_spot_view}
use Rattle.pfc_store.specs.Bounds.{element_between}
use Rattle.pfc_store.proofs.spots.TypedSpot.element.Goals as goal

pub returns-in-Some-Array-clause-stepped : goal.returns-in-Some-Array-clause-stepped
returns-in-Some-Array-clause-stepped c =
    let made = sym (sym c.form_of.ensures ∙ ap option_copied c.in-Some-Array.is ∙ ap Some c.in-Some-Array.field-0-is) in
    let clause : OnOk c.element_in.result (element_between c.in-Some-Array.low c.in-Some-Array.high c.in-Some-Array.element
    (spot_view c.args.self.now.spot) c.args.i ≡ Some (typed_spot_view c.element_in.new.self)) = search rules in
    subst (λ f. OnOk c.element_in.result (element_in f (spot_view c.args.self.now.spot) c.args.i ≡ Some (typed_spot_view c.element_in.new.self))) made clause

pub returns-in-Some-Array-clause-outside : goal.returns-in-Some-Array-clause-outside
returns-in-Some-Array-clause-outside c =
    let made = sym (sym c.form_of.ensures ∙ ap option_copied c.in-Some-Array.is ∙ ap Some c.in-Some-Array.field-0-is) in
    let clause : IfErr c.element_in.result (λ fault. fault ≡ Index → element_between c.in-Some-Array.low c.in-Some-Array.high c.in-Some-Array.element
    (spot_view c.args.self.now.spot) c.args.i ≡ None) = search rules in
    subst (λ f. IfErr c.element_in.result (λ fault. fault ≡ Index → element_in f (spot_view c.args.self.now.spot) c.args.i ≡ None)) made clause

pub returns-in-Some-Array-clause-refused : goal.returns-in-Some-Array-clause-refused
returns-in-Some-Array-clause-refused c =
    let made = sym (sym c.form_of.ensures ∙ ap option_copied c.in-Some-Array.is ∙ ap Some c.in-Some-Array.field-0-is) in
    let clause : element_between c.in-Some-Array.low c.in-Some-Array.high c.in-Some-Array.element (spot_view c.args.self.now.spot) c.args.i ≡ None →
    c.element_in.result ≡ Err Index = search rules in
    subst (λ f. element_in f (spot_view c.args.self.now.spot) c.args.i ≡ None → c.element_in.result ≡ Err Index) made clause
