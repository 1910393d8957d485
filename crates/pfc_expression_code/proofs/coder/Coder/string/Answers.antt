use Rattle.std.proofs.Common.{◌≡◌, ◌++◌, ◌∙◌, [], ◌∷◌, ap, ap₂}
use Rattle.std.proofs.lemmas.Result.{on_ok_weaker}
use Rattle.pfc_code.specs.declared.instructions.Instr.TheVariants.{WRS}
use Rattle.pfc_translation.specs.Codes.{Lined}
use Rattle.pfc_addresses.specs.Sites.{site_view}
use Rattle.pfc_expression_code.specs.Lists.{ways_in}
use Rattle.pfc_expression_code.specs.Putting.{Made}
use Rattle.pfc_expression_code.proofs.Putting.{string_made}
use Rattle.pfc_expression_code.proofs.coder.Coder.string.Goals as goal

pub returns-clause-code : goal.returns-clause-code
unfolding ways_in
returns-clause-code c =
    let s = site_view c.args.site in
    let after : Made = record { code = c.put.new.code; texts = c.self.inside.texts.items; arms = c.self.inside.arms } in
    on_ok_weaker c.put.result
    (λ (e : c.put.new.code ≡ c.self.inside.code ++ (WRS c.in_ok-n.n c.args.w, s.line) ∷ []).
    string_made s c.args.text.now c.args.w c.args.self.now after
    (e ∙ ap₂ (λ (l : Lined) k. l ++ (WRS k c.args.w, s.line) ∷ []) (ap (λ (m : Made). m.code) c.self.view_is ∙ c.in_ok-n.ensures.code) c.in_ok-n.ensures.number)
    (ap (λ (m : Made). m.texts) c.self.view_is ∙ c.in_ok-n.ensures.texts)
    (ap (λ (m : Made). m.arms) c.self.view_is ∙ c.in_ok-n.ensures.arms))
    c.put.ensures.code
