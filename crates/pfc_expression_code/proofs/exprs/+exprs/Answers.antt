use Rattle.std.proofs.Common.{◌≡◌, ◌<◌, ◌++◌, ◌∙◌, length, OnOk, IfErr, sym, subst}
use Rattle.pfc_tree.specs.views.Exprs.{factor_view, term_view}
use Rattle.pfc_emit.specs.declared.emitter.EmitFault.TheVariants.{Full}
use Rattle.pfc_translation.specs.Codes.{Lined}
use Rattle.pfc_expression_code.specs.Lists.{ways_in}
use Rattle.pfc_expression_code.proofs.Lone.{lone_first, lone_unsigned, lone_code}
use Rattle.pfc_expression_code.proofs.exprs.+exprs.Goals as goal

pub lone_product-returns-in-empty-clause-code : goal.lone_product-returns-in-empty-clause-code
lone_product-returns-in-empty-clause-code t c =
    let w = ways_in c.args.site in
    subst (λ (l : Lined). OnOk c.lone_factor.result (c.lone_factor.new.code ≡ c.args.code.now ++ l))
    (sym (lone_first w (factor_view c.args.first.now) c.args.rest.now c.in-empty.len_below)) c.lone_factor.ensures.code

pub lone_product-returns-in-empty-clause-large : goal.lone_product-returns-in-empty-clause-large
lone_product-returns-in-empty-clause-large t c =
    let w = ways_in c.args.site in
    subst (λ (l : Lined). IfErr c.lone_factor.result (λ fault. fault ≡ Full → 200000 < length (c.args.code.now ++ l)))
    (sym (lone_first w (factor_view c.args.first.now) c.args.rest.now c.in-empty.len_below)) c.lone_factor.ensures.large

pub lone_sum-returns-in-empty-clause-code : goal.lone_sum-returns-in-empty-clause-code
lone_sum-returns-in-empty-clause-code t c =
    let w = ways_in c.args.site in
    subst (λ (l : Lined). OnOk c.lone_term.result (c.lone_term.new.code ≡ c.args.code.now ++ l))
    (sym (lone_unsigned w c.args.sign (term_view c.args.first.now) c.args.rest.now (sym c.is_some.ensures ∙ c.if-is_some.false) c.in-empty.len_below))
    c.lone_term.ensures.code

pub lone_sum-returns-in-empty-clause-large : goal.lone_sum-returns-in-empty-clause-large
lone_sum-returns-in-empty-clause-large t c =
    let w = ways_in c.args.site in
    subst (λ (l : Lined). IfErr c.lone_term.result (λ fault. fault ≡ Full → 200000 < length (c.args.code.now ++ l)))
    (sym (lone_unsigned w c.args.sign (term_view c.args.first.now) c.args.rest.now (sym c.is_some.ensures ∙ c.if-is_some.false) c.in-empty.len_below))
    c.lone_term.ensures.large

pub typed_lone-returns-clause-code : goal.typed_lone-returns-clause-code
typed_lone-returns-clause-code t c =
    subst (λ (l : Lined). OnOk c.typed_factor.result (c.typed_factor.new.code ≡ c.args.code.now ++ l))
    (sym (lone_code (ways_in c.args.site) c.args.s.now c.requires)) c.typed_factor.ensures.code

pub typed_lone-returns-clause-large : goal.typed_lone-returns-clause-large
typed_lone-returns-clause-large t c =
    subst (λ (l : Lined). IfErr c.typed_factor.result (λ fault. fault ≡ Full → 200000 < length (c.args.code.now ++ l)))
    (sym (lone_code (ways_in c.args.site) c.args.s.now c.requires)) c.typed_factor.ensures.large
