use Rattle.std.proofs.Common.{ap, sym, ◌∙◌}
use Rattle.pfc_semantics.specs.Layouts.{before_scope}
use Rattle.pfc_program.proofs.Firsts.{module_there}
use Rattle.pfc_program.proofs.lookups.Lookups.before_scope.Goals as goal

pub returns-in-Some : goal.returns-in-Some
returns-in-Some c =
    let s = c.args.self.now in
    c.at-in-Some.ensures
    ∙ s.befores_held c.in-Some.n
    ∙ ap (before_scope s.scopes.now) (sym c.in-Some.is ∙
    module_there c.args.i s.scopes.now.modules s.modules.firsts.items c.at.result s.modules_held c.at.ensures)

pub returns-in-None : goal.returns-in-None
returns-in-None c =
    let s = c.args.self.now in
    ap (before_scope s.scopes.now) (sym c.in-None.is ∙
    module_there c.args.i s.scopes.now.modules s.modules.firsts.items c.at.result s.modules_held c.at.ensures)
