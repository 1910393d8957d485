use Rattle.std.proofs.Common.{◌<◌, [], length, arith, sym, subst}
use Rattle.std.proofs.lemmas.List.{get_or_read}
use Rattle.pfc_hb.specs.Clocks.{IsClock}
use Rattle.pfc_hb.proofs.ClockLaws.{joins-kept, joins-counted, gathers-joined}
use Rattle.pfc_hb.proofs.order.count_cause.Goals as goal

pub returns-then-count-earlier : goal.returns-then-count-earlier
returns-then-count-earlier c =
    let events = c.args.events.now in
    let slots = c.args.slots.now in
    let i = c.args.earlier in
    let clock = c.args.clock.now in
    let other = c.index-clocks-earlier.result in
    let joint = c.join.new.self in
    let there : i < length c.args.clocks.now = omega arith in
    let its = get_or_read c.args.clocks.now i other there c.index-clocks-earlier.is [] in
    let known = subst (λ v. IsClock events slots.of_events.items slots.width i v) (sym its) (c.requires.clocks i c.requires.earlier) in
    let greater = c.join.ensures.greater in
    record {
      gathered = gathers-joined events slots.of_events.items slots.width c.args.place i clock other joint c.requires.before
          c.requires.behind known c.join.ensures.wide greater;
      kept = joins-kept events slots.of_events.items slots.width clock other joint greater;
      counted = joins-counted events slots.of_events.items slots.width i clock other joint known greater;
    }
