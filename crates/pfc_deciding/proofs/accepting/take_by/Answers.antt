use Rattle.std.proofs.Common.{ap, ◌∙◌}
use Rattle.pfc_world.specs.Rendezvous.{accepted_with}
use Rattle.pfc_accepting.proofs.Standings.{accepted_once}
use Rattle.pfc_deciding.proofs.accepting.take_by.Goals as goal

pub returns-in-Met-clause-rule : goal.returns-in-Met-clause-rule
returns-in-Met-clause-rule c =
    accepted_once c.args.world.now c.begin-r.new.self c.accept.new.world c.rest.new.self c.args.p c.begin-r.result.number c.args.entry c.requires.alone
    c.begin-r.ensures.number c.begin-r.ensures.world c.accept.ensures.table c.rest.ensures
    ∙ ap (λ o. accepted_with o c.args.world.now c.args.p c.args.entry) c.requires.first
