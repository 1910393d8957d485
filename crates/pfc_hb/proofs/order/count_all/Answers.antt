use Rattle.std.proofs.Common.{◌-◌, arith}
use Rattle.pfc_hb.proofs.ClockLaws.{joins-before}
use Rattle.pfc_hb.proofs.order.count_all.Goals as goal

pub count_cause-requires-clause-before : goal.count_cause-requires-clause-before
count_cause-requires-clause-before c =
    let slots = c.args.slots.now in
    joins-before c.args.events.now slots.of_events.items slots.width (c.loop-earlier.earlier - 1) c.args.place (omega arith) c.requires.place c.requires.joins
