use Rattle.std.proofs.Common.{◌≡◌, ◌+◌, List, take, drop, Bool, Option, Some, sym, ap, ◌∙◌, arith}
use Rattle.std.specs.Prelude.{if◌then◌else◌}
use Rattle.std.specs.Option.{option_or}
use Rattle.pfc_machines.specs.declared.alternatives.Alternative.{Alternative}
use Rattle.pfc_machines.specs.declared.alternatives.KeptAlternative.{KeptAlternative}
use Rattle.pfc_machines.specs.Offers.{words_in, kept, kept_under, is_sought, first_sought}
use Rattle.pfc_machines.proofs.Walking.{next_of, first_step}
use Rattle.pfc_machines.proofs.communications.Communications.first.Goals as goal
use Rattle.pfc_machines.proofs.communications.Communications.first.Goals.{then-is, else-is}

pub loop-j-preserved : goal.loop-j-preserved
loop-j-preserved c =
    let made : List Alternative = c.args.self.now.alternatives in
    let last : List Alternative = take c.args.n made in
    let a : Alternative = c.alternative-alternative.result in
    let above = c.loop-j.above in
    let choice : Bool → Option KeptAlternative = λ b. if b then Some (kept a above) else c.loop-j.found in
    let chosen : choice (is_sought c.args.sought a.offer) ≡ c.if-is.found =
    elim c.if-is.branch [
      | then-is w ↦ ap choice (sym c.is.ensures ∙ w.if-is.true) ∙ sym w.found-is
      | else-is w ↦ ap choice (sym c.is.ensures ∙ w.if-is.false) ∙ sym w.found-is
    ] in
    let least = c.loop-j.invariant.few in
    let size = c.words.type_inv in
    record {
      few = omega (arith, least, size);
      first = c.loop-j.invariant.first
          ∙ ap (λ (xs : List Alternative). option_or (first_sought c.args.sought (kept_under above xs)) c.loop-j.found)
          (next_of made c.args.n c.loop-j.j a c.requires c.loop-j-test.true c.alternative-alternative.ensures)
          ∙ first_step c.args.sought above a (drop (c.loop-j.j + 1) last) c.loop-j.found
          ∙ ap (λ (o : Option KeptAlternative).
          option_or (first_sought c.args.sought (kept_under (above + words_in a.offer) (drop (c.loop-j.j + 1) last))) o) chosen
          ∙ ap (λ n. option_or (first_sought c.args.sought (kept_under (above + n) (drop (c.loop-j.j + 1) last))) c.if-is.found) (sym c.words.ensures);
    }
