use Rattle.pfc_checked_runs.proofs.arrived.Resuming.{names_its_monitor}
use Rattle.pfc_checked_runs.proofs.laws.resumers_name_their_monitors.Goals as goal

pub returns : goal.returns
returns c = λ facts m d p level x v k numbered acting arrived next. names_its_monitor facts m d p level x v k numbered acting arrived next
