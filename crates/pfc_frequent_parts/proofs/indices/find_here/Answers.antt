use Rattle.pfc_phrases.specs.Views.{env_view}
use Rattle.pfc_sites.proofs.Held.{held_here}
use Rattle.pfc_frequent_parts.proofs.indices.find_here.Goals as goal

pub returns-clause-held : goal.returns-clause-held
returns-clause-held c =
    let site = c.args.site in
    held_here (env_view site.env) site.program.now.tables.scopes.now c.args.name.now c.find_in.result c.find_in.ensures site.same
