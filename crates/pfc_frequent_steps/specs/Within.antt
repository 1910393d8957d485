-- What is known where some names are in view.
use Rattle.std.specs.Prelude.{List, [], Option, Some, None}
use Rattle.std.specs.Borrow.{Bor}
use Rattle.pfc_types.specs.Scopes.{Level}
use Rattle.pfc_types.specs.Views.{levels}
use Rattle.pfc_types.specs.declared.view.Around.{Around}
use Rattle.pfc_types.specs.declared.view.View.{View}
use Rattle.pfc_types.specs.rules.Expressions.{Env}
use Rattle.pfc_program.specs.declared.tables.Tables.{Tables}
use Rattle.pfc_program.specs.Views.{tables_view}

-- the levels of an outer view, innermost first; none where there is none
abbrev pub levels_of : Option (Bor View) → List Level
levels_of None = []
levels_of (Some outer) = levels outer.now

abbrev pub env_within : Tables → List Level → Around → Env
env_within tables levels around = record { state = tables_view tables; view = levels; around = around }
