use Rattle.pfc_deciding.proofs.Ways.{goes_so, may_alike}
use Rattle.pfc_deciding.proofs.own.go_behind.Goals as goal

pub go_on-requires : goal.go_on-requires
go_on-requires c = may_alike c.args.state.now c.take_way.new.state c.args.p c.requires.may c.take_way.ensures.alike

pub returns : goal.returns
returns c = goes_so c.args.state.now c.take_way.new.state c.go_on.new.self c.args.p c.args.way c.go_on.result c.take_way.ensures c.go_on.ensures
