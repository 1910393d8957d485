use Rattle.std.proofs.Common.{arith, to_z, of_z, w32}
use Rattle.std.proofs.lemmas.Int.{ints}
use Rattle.pfc_program.specs.Views.{spot_view}
use Rattle.pfc_pending.specs.Selects.{alternative_view}
use Rattle.pfc_select_steps.specs.Gone.{alternatives_view}
use Rattle.pfc_select_steps.proofs.Lists.{repeated_more}
use Rattle.pfc_select_steps.proofs.alternatives.repeat.Goals as goal

pub loop-k-preserved : goal.loop-k-preserved
loop-k-preserved c =
    repeated_more _ _ (alternatives_view c.args.all.now.items) (alternative_view c.args.one) (spot_view c.args.at).spot c.args.line
    (to_z w32 (of_z w32 c.args.low)) _ c.loop-k.k c.loop-k.invariant c.in_ok-add.ensures (omega (arith, ints))
