use Rattle.pfc_deeds.proofs.Performing.{faults_so}
use Rattle.pfc_deeds.proofs.plain.faults.Goals as goal

pub returns : goal.returns
returns c = faults_so c.args.state.now c.end_in_fault.new.self c.args.p c.args.fault c.end_in_fault.result c.end_in_fault.ensures
