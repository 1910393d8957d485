use Rattle.std.proofs.Common.{◌∙◌, arith}
use Rattle.pfc_values.proofs.Saturated.{number_more}
use Rattle.pfc_values.proofs.digits.number.Goals as goal

pub loop-b-preserved : goal.loop-b-preserved
loop-b-preserved c = record {
  value = number_more c.args.digits.now c.loop-b.b-index c.loop-b.value c.min-value.result 4294967296 c.loop-b-test.true (cc) ∙ c.loop-b.invariant.value;
  small = omega arith;
}
