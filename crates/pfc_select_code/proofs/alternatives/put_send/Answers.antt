use Rattle.std.proofs.Common.{◌≡◌, ◌∙◌, ℕ, ap, subst, option_map, Option, OnOk, IfErr}
use Rattle.std.proofs.lemmas.Result.{err_from_is_err_and}
use Rattle.pfc_tree.specs.trees.Exprs.{ExprTree}
use Rattle.pfc_tree.specs.views.Exprs.{expr_view, desig_view}
use Rattle.pfc_types.specs.rules.Expressions.{Env}
use Rattle.pfc_code.specs.declared.instructions.Instr.TheVariants.{ARMS}
use Rattle.pfc_emit.specs.declared.emitter.EmitFault.TheVariants.{Full}
use Rattle.pfc_semantics.specs.Alternatives.{context, message_of}
use Rattle.pfc_translation.specs.Codes.{◌⨾◌, one}
use Rattle.pfc_translation.specs.Sites.{context_of}
use Rattle.pfc_translation.specs.Expressions.{object_code}
use Rattle.pfc_translation.specs.Selects.{message_code, message_cells}
use Rattle.pfc_addresses.specs.Sites.{site_view}
use Rattle.pfc_expression_code.specs.Putting.{IsMade, IsTooLarge}
use Rattle.pfc_select_code.proofs.Parts.{three_ok, three_err, two_large}
use Rattle.pfc_select_code.proofs.alternatives.put_send.Goals as goal

pub returns-in_err-message-clause-large : goal.returns-in_err-message-clause-large
returns-in_err-message-clause-large c =
    let s = site_view c.args.site in
    let d = desig_view c.args.d.now in
    let m = option_map (λ e. expr_view e.now) c.message_of-m.result in
    let is : m ≡ message_of (context_of s) (expr_view c.args.e.now) =
    c.message_of-m.ensures s.line ∙ ap (λ (env : Env). message_of (context env s.line) (expr_view c.args.e.now)) c.env.ensures.site
    in
    let p = err_from_is_err_and c.from_residual-in_err-message.result c.from_residual-in_err-message.ensures.1 in
    rw (p.1, p.2)
    (λ full. subst (λ (n : Option ExprTree). IsTooLarge (object_code s d ⨾ (message_code s n ⨾ one s (ARMS (message_cells s n) 0))) c.args.made.now) is
    (two_large (object_code s d) (message_code s m) (one s (ARMS (message_cells s m) 0)) c.args.made.now c.object.new.self c.in_ok-object.ensures.code
    (c.in_err-message.ensures.large full)))

pub returns-clause-code : goal.returns-clause-code
returns-clause-code c =
    let s = site_view c.args.site in
    let d = desig_view c.args.d.now in
    let m = option_map (λ e. expr_view e.now) c.message_of-m.result in
    let is : m ≡ message_of (context_of s) (expr_view c.args.e.now) =
    c.message_of-m.ensures s.line ∙ ap (λ (env : Env). message_of (context env s.line) (expr_view c.args.e.now)) c.env.ensures.site
    in
    subst
    (λ (n : Option ExprTree).
    OnOk c.place.result (IsMade (object_code s d ⨾ (message_code s n ⨾ one s (ARMS (message_cells s n) 0))) c.args.made.now c.place.new.self))
    is
    (three_ok c.place.result (object_code s d) (message_code s m) (one s (ARMS (message_cells s m) 0)) c.args.made.now c.object.new.self c.message.new.coder
    c.place.new.self c.in_ok-object.ensures.code c.in_ok-message.ensures.code
    (subst (λ (k : ℕ). OnOk c.place.result (IsMade (one s (ARMS k 0)) c.message.new.coder c.place.new.self)) c.message_cells.ensures c.place.ensures.code))

pub returns-clause-large : goal.returns-clause-large
returns-clause-large c =
    let s = site_view c.args.site in
    let d = desig_view c.args.d.now in
    let m = option_map (λ e. expr_view e.now) c.message_of-m.result in
    let is : m ≡ message_of (context_of s) (expr_view c.args.e.now) =
    c.message_of-m.ensures s.line ∙ ap (λ (env : Env). message_of (context env s.line) (expr_view c.args.e.now)) c.env.ensures.site
    in
    subst
    (λ (n : Option ExprTree).
    IfErr c.place.result (λ fault. fault ≡ Full → IsTooLarge (object_code s d ⨾ (message_code s n ⨾ one s (ARMS (message_cells s n) 0))) c.args.made.now))
    is
    (three_err c.place.result (object_code s d) (message_code s m) (one s (ARMS (message_cells s m) 0)) c.args.made.now c.object.new.self c.message.new.coder
    c.in_ok-object.ensures.code c.in_ok-message.ensures.code c.place.ensures.large)
