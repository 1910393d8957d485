use Rattle.std.proofs.Common.{◌≡◌, ◌∙◌, ◌≤◌, ℕ, List, [], ◌∷◌, Option, None, get_or, refl, min, length, sym, ap, ap₂, arith}
use Rattle.pfc_expression_code.specs.Putting.{Made}
use Rattle.pfc_select_code.specs.Leading.{led}
use Rattle.pfc_select_code.proofs.Arms.{alternatives_led}
use Rattle.pfc_select_code.proofs.Leads.{rest_can, next_led, all_led, made_is}
use Rattle.pfc_select_code.proofs.leading.lead_alternatives.Goals as goal

pub loop-i-preserved : goal.loop-i-preserved
loop-i-preserved c =
    let i = c.loop-i.i in
    let places = c.args.places.now in
    let branches = c.args.branches.now in
    let count : c.shorter-i-end.result ≡ min (length places) (length branches) = c.shorter-i-end.ensures in
    let place = get_or places i None in
    let leads : c.lead_place.new.made.code ≡ led c.loop-i.made.code (place ∷ []) (get_or branches i 0 ∷ []) = ap (λ (m : Made). m.code) c.lead_place.ensures in
    record {
      code =
          next_led c.loop-i.made.code c.lead_place.new.made.code places branches i (get_or branches i 0) place (omega (arith, count))
          (omega (arith, count)) refl refl leads
          ∙ c.loop-i.invariant.code;
      can =
          rest_can c.loop-i.made.code c.lead_place.new.made.code places i (get_or branches i 0) place (omega (arith, count)) refl leads
          c.loop-i.invariant.can;
      texts = ap (λ (m : Made). m.texts) c.lead_place.ensures ∙ c.loop-i.invariant.texts;
      arms = ap (λ (m : Made). m.arms) c.lead_place.ensures ∙ c.loop-i.invariant.arms;
    }

pub returns-clause-led : goal.returns-clause-led
returns-clause-led c =
    let past : min (length c.args.places.now) (length c.args.branches.now) ≤ c.loop-i.i = omega (arith, c.shorter-i-end.ensures) in
    made_is c.loop-i.made _ _ _
    (sym (all_led c.loop-i.made.code c.args.places.now c.args.branches.now c.loop-i.i past) ∙ c.loop-i.invariant.code)
    c.loop-i.invariant.texts c.loop-i.invariant.arms

pub returns-clause-alternatives : goal.returns-clause-alternatives
returns-clause-alternatives c s alts distances rest before made places branches enough =
    let past : min (length c.args.places.now) (length c.args.branches.now) ≤ c.loop-i.i = omega (arith, c.shorter-i-end.ensures) in
    alternatives_led s alts distances (length alts) rest before c.args.made.now c.loop-i.made made
    (sym (all_led c.loop-i.made.code c.args.places.now c.args.branches.now c.loop-i.i past)
    ∙ c.loop-i.invariant.code
    ∙ ap₂ (λ (l : List (Option ℕ)) (m : List ℕ). led c.args.made.now.code l m) places branches)
    c.loop-i.invariant.texts c.loop-i.invariant.arms enough
