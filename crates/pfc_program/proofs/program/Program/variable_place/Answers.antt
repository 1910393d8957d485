use Rattle.std.proofs.Common.{◌∙◌}
use Rattle.pfc_program.proofs.program.Program.variable_place.Goals as goal

pub returns : goal.returns
returns c = c.place.ensures ∙ c.args.self.now.placed c.args.i c.args.k c.requires.scope c.requires.place
