use Rattle.pfc_deeds.proofs.Performing.{found_in, reads_so}
use Rattle.pfc_deeds.proofs.variables.reads.Goals as goal

pub returns-clause-ok : goal.returns-clause-ok
returns-clause-ok c =
    reads_so c.args.state.now c.go_on.new.self c.args.p c.args.spot c.in-Ok.value c.index.result.now.display c.go_on.result
    (found_in c.args.state.now c.args.p c.index.result.now c.index.ensures) c.in-Ok.ensures c.go_on.ensures
