use Rattle.pfc_walker.proofs.Reported.{told_so}
use Rattle.pfc_walker.proofs.walker.Walker.standings.Goals as goal

pub returns : goal.returns
returns c = λ c' reports. told_so c.args.self.now.state c' c.in_ok-list.list.items reports c.in_ok-list.ensures
