-- What is known at a phrase, as the definitions know it.
use Rattle.pfc_types.specs.Views.{levels}
use Rattle.pfc_types.specs.rules.Expressions.{Env}
use Rattle.pfc_semantics.specs.Objects.{all_first, main_objects}
use Rattle.pfc_semantics.specs.Programs as programs
use Rattle.pfc_program.specs.Views.{tables_view, block_view, program_view}
use Rattle.pfc_program.specs.declared.tables.Tables.{Tables}
use Rattle.pfc_program.specs.declared.program.Program.{Program}
use Rattle.pfc_translation.specs.Sites as translation
use Rattle.pfc_addresses.specs.declared.bodies.Body.{Body}
use Rattle.pfc_addresses.specs.declared.sites.Site.{Site}

-- a program with the first values of its variables and all its objects, which its declarations give
abbrev pub whole_view : Program → programs.Program
whole_view g =
    let forms = g.tables.types.now in
    let main = main_objects forms g.tables.scopes.now in
    program_view g (all_first forms) main.is main.objects

abbrev pub program_of : Body → Program
program_of b = b.addresses.now.program.now

abbrev pub tables_of : Body → Tables
tables_of b = (program_of b).tables

abbrev pub tables_in : Site → Tables
tables_in site = tables_of site.body.now

abbrev pub env_in : Site → Env
env_in site = record { state = tables_view (tables_in site); view = levels site.view.now; around = site.around }

abbrev pub parts_of : Site → translation.Site
parts_of site =
    record {
      program = whole_view (program_of site.body.now);
      block = block_view (tables_in site) site.body.now.block.now;
      env = env_in site;
      line = site.line;
    }

-- The same as one thing: the crates above need not look into it.
unfoldable pub site_view : Site → translation.Site
site_view site = parts_of site
