use Rattle.pfc_run_agreement.proofs.Agreeing.{may_run, same_runs}
use Rattle.pfc_run_agreement.proofs.laws.runs_agree.Goals as goal

pub returns : goal.returns
returns c = record { may = may_run; same = same_runs }
