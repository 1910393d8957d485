use Rattle.pfc_following_source.proofs.selects.Branches.{branch_performs, meeting_performs}
use Rattle.pfc_following_source.proofs.laws.branches_lead_on.Goals as goal

pub returns-clause-branch : goal.returns-clause-branch
returns-clause-branch c = λ g b x. branch_performs g b x

pub returns-clause-meeting : goal.returns-clause-meeting
returns-clause-meeting c = λ g b x. meeting_performs g b x
