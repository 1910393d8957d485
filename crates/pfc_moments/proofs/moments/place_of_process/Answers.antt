use Rattle.pfc_sorted.proofs.Takes.{place-is}
use Rattle.pfc_moments.specs.Sorted.{comes_first}
use Rattle.pfc_moments.proofs.First.{never-first}
use Rattle.pfc_moments.proofs.moments.place_of_process.Goals as goal

pub returns-in_default : goal.returns-in_default
returns-in_default c =
    place-is comes_first never-first c.args.sorted.now.items c.args.moments.now c.args.due.process c.args.due.moment
    c.count_before.result c.requires.sorted c.requires.own
    c.count_before.ensures
