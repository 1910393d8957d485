use Rattle.pfc_program.proofs.Firsts.{sub_there}
use Rattle.pfc_program.proofs.lookups.Lookups.sub_with.Goals as goal

pub returns : goal.returns
returns c =
    let s = c.args.self.now in sub_there c.args.i s.scopes.now.subs s.subs.firsts.items c.at.result s.subs_held c.at.ensures
