use Rattle.std.proofs.Common.{◌≡◌, None, ap, sym, ◌∙◌}
use Rattle.pfc_world.specs.Partners.{caller}
use Rattle.pfc_world.specs.Rendezvous.{accepted_with}
use Rattle.pfc_meet.proofs.rendezvous.accept.Goals as goal

-- nobody calls the entry
nobody : (c : goal.After-block) → caller c.args.world.now.rows c.args.r.number c.args.entry ≡ None
nobody c = ap (λ p. caller c.args.world.now.rows p c.args.entry) (sym c.number-owner.ensures) ∙ sym c.first_at.ensures.first ∙ c.in-None.is

pub returns-in-None-clause-answer : goal.returns-in-None-clause-answer
returns-in-None-clause-answer c = nobody c

pub returns-in-None-clause-table : goal.returns-in-None-clause-table
returns-in-None-clause-table c = c.block.ensures ∙ ap (λ o. accepted_with o c.args.world.now c.args.r.number c.args.entry) (sym (nobody c))
