use Rattle.pfc_deciding.proofs.Timing.{otherwise_so, no_otherwise}
use Rattle.pfc_deciding.proofs.waiting.go_otherwise.Goals as goal

pub returns-in-Some : goal.returns-in-Some
returns-in-Some c =
    otherwise_so c.args.state.now c.go_behind.new.state c.args.p c.args.select c.in-Some.other c.behind_else.result c.go_behind.result c.in-Some.is
    c.behind_else.ensures c.go_behind.ensures

pub returns-in-None : goal.returns-in-None
returns-in-None c =
    no_otherwise c.args.state.now c.time_out.new.state c.args.p c.args.select c.time_out.result c.in-None.is c.time_out.ensures
