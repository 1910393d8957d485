use Rattle.pfc_views.proofs.Checked.{names_checked}
use Rattle.pfc_views.proofs.laws.seen_names_are_checked.Goals as goal

pub returns : goal.returns
returns c = λ g homes entries store keeps display b w chain stacks env counted sound memory few objects sees known state beside tried.
    names_checked g homes entries store keeps display b w chain stacks counted sound memory few objects sees env known state beside tried
