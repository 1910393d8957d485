use Rattle.std.proofs.Common.{arith, sym, subst, ◌∙◌}
use Rattle.pfc_hb.specs.Clocks.{TellsBehind}
use Rattle.pfc_hb.proofs.RaceLaws.{race-unordered}
use Rattle.pfc_hb.proofs.pairs.races_row_of.Goals as goal

pub returns : goal.returns
returns c =
    let events = c.args.rows.now.events.now in
    let i = c.args.first in
    let row = c.in_ok-row.row in
    let clashes = c.in_ok-row.ensures in
    let behind : TellsBehind events i c.column.result.now = subst (TellsBehind events i) (sym c.column.ensures) (c.requires.order.told i c.requires.first) in
    record {
      wide = c.keep_at_most.ensures.wide ∙ clashes.wide;
      told = λ j later lt.
          let clash = clashes.told j later lt in
          let order = behind.told j later lt in
          c.keep_at_most.ensures.kept j (omega (arith, later)) (omega (arith, lt, clashes.wide)) ∙ rw (clash, order) (sym (race-unordered events i j later lt));
    }
