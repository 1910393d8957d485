use Rattle.std.proofs.Common.{ap, length}
use Rattle.pfc_walker.proofs.Acted.{is_step, line_so, may_act_before}
use Rattle.pfc_walker.proofs.walker.Walker.act.Goals as goal

pub act_watched-requires : goal.act_watched-requires
act_watched-requires c =
    let (g, c', before, may) = c.requires in may_act_before c.args.self.now.source.now c.args.self.now.state c' c.args.p before.stands may

pub returns-clause-ok : goal.returns-clause-ok
returns-clause-ok c = λ g c' before.
    let action = c.in_ok-walked.ensures.ok g c' before.program before.stands in
    is_step c.args.self.now c.act_watched.new.state c.line_behind-self.result c.act_watched.new.waited g c' c.args.p c.args.picker.now c.act_watched.new.picker
    c.args.out.now c.act_watched.new.out c.in_ok-walked.walked before action (c.in_ok-walked.ensures.watched g c' before.program before.stands)
    (line_so c'.output c.args.out.now action.bytes c.act_watched.new.out c.args.self.now.in_line c.line_behind-self.result _ action.written
    (ap length c.bytes-before.ensures) before.line c.line_behind-self.ensures.more c.line_behind-self.ensures.none)
