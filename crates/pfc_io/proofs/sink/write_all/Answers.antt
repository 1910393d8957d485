use Rattle.std.proofs.Common.{arith}
use Rattle.pfc_io.proofs.Written.{Appends-more, within}
use Rattle.pfc_io.proofs.sink.write_all.Goals as goal

pub loop-written-preserved : goal.loop-written-preserved
loop-written-preserved g c = record {
  within = within c.args.bytes.now c.loop-written.written c.in-Ok.n c.loop-written.invariant.within c.in-Ok.ensures.bound;
  appended = Appends-more _ _ _ c.args.bytes.now _ _ c.loop-written.invariant.appended c.in-Ok.ensures.bytes;
  later = omega arith;
}
