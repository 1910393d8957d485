use Rattle.pfc_deeds.proofs.Performing.{turns_so}
use Rattle.pfc_deeds.proofs.plain.turns.Goals as goal

pub returns : goal.returns
returns c = turns_so c.args.state.now c.go_on.new.self c.args.p c.go_on.result c.go_on.ensures
