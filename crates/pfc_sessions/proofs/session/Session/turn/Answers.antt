use Rattle.pfc_code.specs.Images.{plain_image}
use Rattle.pfc_sessions.proofs.Turning.{may_act}
use Rattle.pfc_sessions.proofs.session.Session.turn.Goals as goal

pub act_out-requires-clause-may : goal.act_out-requires-clause-may
act_out-requires-clause-may c =
    may_act (plain_image c.args.image.now) c.args.left c.args.picker.now c.next_actor.new.picker c.args.self.now.machine c.next_actor.new.machine c.in-Ok.p
    c.in-Ok.ensures.some c.requires c.in-Ok.ensures.pick
