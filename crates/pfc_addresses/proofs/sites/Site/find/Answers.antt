use Rattle.std.proofs.Common.{◌∙◌, ap, refl}
use Rattle.pfc_types.specs.rules.Expressions.{Env, find}
use Rattle.pfc_addresses.specs.Sites.{env_in, tables_in}
use Rattle.pfc_addresses.proofs.Held.{held_here}
use Rattle.pfc_addresses.proofs.sites.Site.find.Goals as goal

pub returns-clause-held : goal.returns-clause-held
returns-clause-held c =
    held_here (env_in c.args.self) (tables_in c.args.self).scopes.now c.args.name.now c.find_in.result (c.find_in.ensures ∙
    ap (λ (e : Env). find e c.args.name.now) c.env.ensures.value) refl
