use Rattle.pfc_code.specs.Images.{plain_image}
use Rattle.pfc_machine_acts.specs.Acting.{IsActed}
use Rattle.pfc_sessions.proofs.Stepping.{answer_to, stepped, untried, wanting, unprinted, unpicked}
use Rattle.pfc_sessions.proofs.session.Session.act.Goals.{After-act}
use Rattle.pfc_sessions.proofs.session.Session.act.Goals as goal

answered : (c : After-act)
    → IsActed (plain_image c.args.image.now) c.args.p c.requires.may.before c.requires.may.instr c.args.picker.now c.act.new.picker c.args.out.now c.act.new.out
    c.act.result c.act.new.machine
answered c =
    answer_to (plain_image c.args.image.now) c.args.picker.now c.act.new.picker c.args.out.now c.act.new.out c.act.result c.act.new.machine c.args.p
    c.begin-r.result.number c.args.self.now.machine c.begin-r.new.self c.begin-r.ensures.number c.begin-r.ensures.world c.requires.may c.act.ensures

pub returns-clause-step : goal.returns-clause-step
returns-clause-step c =
    stepped (plain_image c.args.image.now) c.args.p c.args.picker.now c.act.new.picker c.args.self.now.machine c.requires.may.count c.requires.may.before
    c.requires.may.instr c.args.out.now c.act.new.out c.act.new.machine c.requires.may.next c.act.result (answered c)

pub returns-clause-untried : goal.returns-clause-untried
returns-clause-untried c =
    untried (plain_image c.args.image.now) c.args.p c.args.picker.now c.act.new.picker c.args.self.now.machine c.requires.may.count c.requires.may.before
    c.requires.may.instr c.args.out.now c.act.new.out c.act.new.machine c.requires.may.next c.act.result (answered c)

pub returns-clause-cause : goal.returns-clause-cause
returns-clause-cause c =
    wanting (plain_image c.args.image.now) c.args.p c.args.picker.now c.act.new.picker c.args.self.now.machine c.requires.may.count c.requires.may.before
    c.requires.may.instr c.args.out.now c.act.new.out c.act.new.machine c.requires.may.next c.act.result (answered c)

pub returns-clause-kept : goal.returns-clause-kept
returns-clause-kept c =
    unprinted (plain_image c.args.image.now) c.args.p c.args.picker.now c.act.new.picker c.args.self.now.machine c.requires.may.count c.requires.may.before
    c.requires.may.instr c.args.out.now c.act.new.out c.act.new.machine c.requires.may.next c.act.result (answered c)

pub returns-clause-unchosen : goal.returns-clause-unchosen
returns-clause-unchosen c =
    unpicked (plain_image c.args.image.now) c.args.p c.args.picker.now c.act.new.picker c.args.self.now.machine c.requires.may.count c.requires.may.before
    c.requires.may.instr c.args.out.now c.act.new.out c.act.new.machine c.requires.may.next c.act.result (answered c)
