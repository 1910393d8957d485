use Rattle.pfc_settling_laws.proofs.Reported.{agreeing_reports}
use Rattle.pfc_settling_laws.proofs.endings.agreeing_machines_report.Goals as goal

pub returns : goal.returns
returns c = λ facts m config is. agreeing_reports facts m config is
