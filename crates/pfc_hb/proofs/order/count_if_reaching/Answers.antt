use Rattle.std.proofs.Common.{arith, sym, ◌∙◌}
use Rattle.pfc_hb.specs.Clocks.{reaches}
use Rattle.pfc_hb.proofs.ClockLaws.{reaches-before, test-read}
use Rattle.pfc_hb.proofs.order.count_if_reaching.Goals as goal

pub count_cause-requires-clause-before : goal.count_cause-requires-clause-before
count_cause-requires-clause-before c =
    let events = c.args.events.now in
    let slots = c.args.slots.now in
    let i = c.args.earlier in
    let j = c.args.place in
    let told = test-read reaches events i j c.index-events-earlier.result c.index-events-place.result c.reaches_process.result
    (omega arith) c.requires.place c.index-events-earlier.is c.index-events-place.is c.reaches_process.ensures in
    reaches-before events slots.of_events.items slots.width i j c.requires.earlier c.requires.place (sym told ∙ c.if-reaches_process.true)
