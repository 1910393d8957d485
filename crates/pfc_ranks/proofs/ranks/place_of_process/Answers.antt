use Rattle.pfc_sorted.proofs.Takes.{place-is}
use Rattle.pfc_ranks.specs.Sorted.{comes_first}
use Rattle.pfc_ranks.proofs.Parts.{never-first}
use Rattle.pfc_ranks.proofs.ranks.place_of_process.Goals as goal

pub returns-in_default : goal.returns-in_default
returns-in_default c =
    place-is comes_first never-first c.args.sorted.now.items c.args.delays.now c.args.process c.args.delay
    c.count_before.result c.requires.sorted c.requires.own
    c.count_before.ensures
