use Rattle.pfc_kept_object_actions.proofs.Resuming.{holders_resume}
use Rattle.pfc_kept_object_actions.proofs.conditions.resumes_by_holders_are_kept.Goals as goal

pub returns : goal.returns
returns c = holders_resume
