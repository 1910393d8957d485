use Rattle.std.proofs.Common.{ℕ, Option, sym, ap, ◌∙◌}
use Rattle.pfc_semantics.specs.Objects.{module_number}
use Rattle.pfc_program.specs.declared.tables.Tables.{Tables}
use Rattle.pfc_translation.specs.Calls.{number_or_none}
use Rattle.pfc_addresses.specs.Sites.{site_view, tables_in}
use Rattle.pfc_call_code.proofs.ways.resource_of.Goals as goal

pub returns-in-Some : goal.returns-in-Some
unfolding site_view
returns-in-Some c =
    c.module_number.ensures
    ∙ ap (λ (t : Tables). module_number t.scopes.now c.in-Some.n) c.tables.ensures.value
    ∙ ap (λ (o : Option ℕ). number_or_none (tables_in c.args.site).scopes.now o) (sym c.in-Some.is ∙ c.module_of.ensures)

pub returns-in-None : goal.returns-in-None
unfolding site_view
returns-in-None c = ap (λ (o : Option ℕ). number_or_none (tables_in c.args.site).scopes.now o) (sym c.in-None.is ∙ c.module_of.ensures)
