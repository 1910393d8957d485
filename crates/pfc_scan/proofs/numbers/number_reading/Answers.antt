use Rattle.std.proofs.Common.{sym, arith}
use Rattle.pfc_scan.proofs.Values.{value_more, too_large}
use Rattle.pfc_scan.proofs.numbers.number_reading.Goals as goal

pub returns-then-value : goal.returns-then-value
returns-then-value c = sym (too_large c.args.digits.now c.loop-b.b-index c.loop-b.value c.loop-b-test.true c.requires c.loop-b.invariant.value c.if-value.true)

pub loop-b-preserved : goal.loop-b-preserved
loop-b-preserved c = record {
  value = value_more c.args.digits.now c.loop-b.b-index c.loop-b.value c.loop-b-test.true c.requires c.loop-b.invariant.value;
  small = omega arith;
}
