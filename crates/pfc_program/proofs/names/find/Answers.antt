use Rattle.std.proofs.Common.{sym, subst, IfSome}
use Rattle.pfc_program.specs.Held.{IsHeld}
use Rattle.pfc_program.proofs.Held.{held_predeclared}
use Rattle.pfc_program.proofs.names.find.Goals as goal

pub returns-clause-held : goal.returns-clause-held
returns-clause-held c =
    let scopes = c.args.tables.scopes.now.scopes in
    subst (λ r. IfSome r (λ f. IsHeld scopes f)) (sym c.find_predeclared.ensures) (held_predeclared scopes c.args.name.now)
