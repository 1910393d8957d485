use Rattle.std.proofs.Common.{◌≡◌, ◌∙◌, ℕ, ap, subst, option_map, Option, OnOk, IfErr}
use Rattle.std.proofs.lemmas.Result.{err_from_is_err_and}
use Rattle.pfc_tree.specs.trees.Exprs.{DesigTree}
use Rattle.pfc_tree.specs.views.Exprs.{desig_view}
use Rattle.pfc_types.specs.rules.Expressions.{Env}
use Rattle.pfc_code.specs.declared.instructions.Instr.TheVariants.{ARMR}
use Rattle.pfc_emit.specs.declared.emitter.EmitFault.TheVariants.{Full}
use Rattle.pfc_semantics.specs.Alternatives.{context, receiver_of}
use Rattle.pfc_translation.specs.Codes.{◌⨾◌, one}
use Rattle.pfc_translation.specs.Sites.{context_of}
use Rattle.pfc_translation.specs.Expressions.{object_code}
use Rattle.pfc_translation.specs.Selects.{receiver_code, receiver_cells}
use Rattle.pfc_addresses.specs.Sites.{site_view}
use Rattle.pfc_expression_code.specs.Putting.{IsMade, IsTooLarge}
use Rattle.pfc_select_code.proofs.Parts.{three_ok, three_err, two_large}
use Rattle.pfc_select_code.proofs.alternatives.put_receive.Goals as goal

pub returns-in_err-receiver-clause-large : goal.returns-in_err-receiver-clause-large
returns-in_err-receiver-clause-large c =
    let s = site_view c.args.site in
    let d = desig_view c.args.d.now in
    let m = option_map (λ d. desig_view d.now) c.receiver_of-r.result in
    let is : m ≡ receiver_of (context_of s) (desig_view c.args.v.now) =
    c.receiver_of-r.ensures s.line ∙ ap (λ (env : Env). receiver_of (context env s.line) (desig_view c.args.v.now)) c.env.ensures.site
    in
    let p = err_from_is_err_and c.from_residual-in_err-receiver.result c.from_residual-in_err-receiver.ensures.1 in
    rw (p.1, p.2)
    (λ full. subst (λ (n : Option DesigTree). IsTooLarge (object_code s d ⨾ (receiver_code s n ⨾ one s (ARMR (receiver_cells s n) 0))) c.args.made.now) is
    (two_large (object_code s d) (receiver_code s m) (one s (ARMR (receiver_cells s m) 0)) c.args.made.now c.object.new.self c.in_ok-object.ensures.code
    (c.in_err-receiver.ensures.large full)))

pub returns-clause-code : goal.returns-clause-code
returns-clause-code c =
    let s = site_view c.args.site in
    let d = desig_view c.args.d.now in
    let m = option_map (λ d. desig_view d.now) c.receiver_of-r.result in
    let is : m ≡ receiver_of (context_of s) (desig_view c.args.v.now) =
    c.receiver_of-r.ensures s.line ∙ ap (λ (env : Env). receiver_of (context env s.line) (desig_view c.args.v.now)) c.env.ensures.site
    in
    subst
    (λ (n : Option DesigTree).
    OnOk c.place.result (IsMade (object_code s d ⨾ (receiver_code s n ⨾ one s (ARMR (receiver_cells s n) 0))) c.args.made.now c.place.new.self))
    is
    (three_ok c.place.result (object_code s d) (receiver_code s m) (one s (ARMR (receiver_cells s m) 0)) c.args.made.now c.object.new.self c.receiver.new.coder
    c.place.new.self c.in_ok-object.ensures.code c.in_ok-receiver.ensures.code
    (subst (λ (k : ℕ). OnOk c.place.result (IsMade (one s (ARMR k 0)) c.receiver.new.coder c.place.new.self)) c.receiver_cells.ensures c.place.ensures.code))

pub returns-clause-large : goal.returns-clause-large
returns-clause-large c =
    let s = site_view c.args.site in
    let d = desig_view c.args.d.now in
    let m = option_map (λ d. desig_view d.now) c.receiver_of-r.result in
    let is : m ≡ receiver_of (context_of s) (desig_view c.args.v.now) =
    c.receiver_of-r.ensures s.line ∙ ap (λ (env : Env). receiver_of (context env s.line) (desig_view c.args.v.now)) c.env.ensures.site
    in
    subst
    (λ (n : Option DesigTree).
    IfErr c.place.result (λ fault. fault ≡ Full → IsTooLarge (object_code s d ⨾ (receiver_code s n ⨾ one s (ARMR (receiver_cells s n) 0))) c.args.made.now))
    is
    (three_err c.place.result (object_code s d) (receiver_code s m) (one s (ARMR (receiver_cells s m) 0)) c.args.made.now c.object.new.self c.receiver.new.coder
    c.in_ok-object.ensures.code c.in_ok-receiver.ensures.code c.place.ensures.large)
