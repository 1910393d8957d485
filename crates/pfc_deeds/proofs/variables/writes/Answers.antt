use Rattle.std.proofs.Common.{refl}
use Rattle.pfc_deeds.proofs.Performing.{found_in, writes_so}
use Rattle.pfc_deeds.proofs.variables.writes.Goals as goal

pub returns-clause-ok : goal.returns-clause-ok
returns-clause-ok c =
    writes_so c.args.state.now (record c.args.state.now { store = c.put.new.self }) c.go_on.new.self c.args.p c.args.spot c.args.value c.in-Ok.location
    c.index.result.now.display c.go_on.result refl refl refl (found_in c.args.state.now c.args.p c.index.result.now c.index.ensures)
    c.in-Ok.ensures c.put.ensures c.go_on.ensures
