use Rattle.std.proofs.Common.{rules}
use Rattle.pfc_sorted.specs.Sorted.{passes}
use Rattle.pfc_sorted.proofs.Calls.{parted-from_clause}
use Rattle.pfc_ranks.specs.Delays.{is_before}
use Rattle.pfc_ranks.proofs.Parts.{parted-before}
use Rattle.pfc_ranks.proofs.ranks.count_before.Goals as goal

pub returns : goal.returns
returns c =
    parted-from_clause (passes (λ p other. is_before other c.args.delay) c.args.delays.now) _ _ c.count_passing.ensures
    (parted-before c.args.sorted.now.items c.args.delays.now c.args.delay c.requires) (λ a r q k. search rules)
