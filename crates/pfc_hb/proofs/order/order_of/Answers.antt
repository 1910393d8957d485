use Rattle.std.proofs.Common.{◌≡◌, length, sym, subst}
use Rattle.std.specs.List.{All}
use Rattle.pfc_hb.specs.Clocks.{AreColumns}
use Rattle.pfc_hb.proofs.ClockLaws.{clocks-wide, tell_order}
use Rattle.pfc_hb.proofs.order.order_of.Goals as goal

pub columns_of-requires : goal.columns_of-requires
columns_of-requires c =
    let slots = c.in_ok-slots.slots in
    let made = c.in_ok-clocks.ensures in
    let wide = clocks-wide c.args.events.now slots.of_events.items slots.width c.in_ok-clocks.clocks.items made.each made.clocks in
    subst (All (λ clock. length clock ≡ slots.width)) (sym c.deref.ensures.value) wide

pub returns : goal.returns
returns c =
    let slots = c.in_ok-slots.slots in
    let clocks = c.in_ok-clocks.clocks.items in
    let columns = c.in_ok-columns.columns.items in
    let made = c.in_ok-clocks.ensures in
    let beside = subst (λ cs. AreColumns cs slots.width columns) c.deref.ensures.value c.in_ok-columns.ensures in
    tell_order c.args.events.now slots.of_events.items slots.width clocks columns c.in_ok-slots.ensures made.each made.clocks beside
