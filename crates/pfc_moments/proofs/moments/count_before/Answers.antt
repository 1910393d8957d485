use Rattle.std.proofs.Common.{rules}
use Rattle.pfc_sorted.specs.Sorted.{passes}
use Rattle.pfc_sorted.proofs.Calls.{parted-from_clause}
use Rattle.pfc_moments.specs.Moments.{is_sooner}
use Rattle.pfc_moments.specs.Sorted.{due}
use Rattle.pfc_moments.proofs.First.{parted-before}
use Rattle.pfc_moments.proofs.moments.count_before.Goals as goal

pub returns : goal.returns
returns c =
    parted-from_clause (passes (λ p moment. is_sooner (due moment p) c.args.other) c.args.moments.now) _ _ c.count_passing.ensures
    (parted-before c.args.sorted.now.items c.args.moments.now c.args.other c.requires) (λ a r q k. search rules)
