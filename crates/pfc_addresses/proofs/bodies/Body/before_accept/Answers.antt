use Rattle.std.proofs.Common.{◌∙◌, ◌-◌, arith}
use Rattle.pfc_types.specs.Scopes.{scope_at}
use Rattle.pfc_addresses.specs.Sites.{tables_of}
use Rattle.pfc_addresses.proofs.Sums.{accept_at}
use Rattle.pfc_addresses.proofs.bodies.Body.before_accept.Goals as goal

pub returns : goal.returns
returns c =
    let b = c.args.self.now in
    let scopes = (tables_of b).scopes.now.scopes in
    c.at.ensures ∙ accept_at scopes (scope_at scopes b.block.now.scope) b.accepts b.block.now.next b.block.now.accepts
    (c.args.i - b.block.now.next) b.accepts_held (omega (arith, c.requires.from, c.requires.to))
