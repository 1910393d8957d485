-- The phrases of a body, and what is known where some names are in view.
use Rattle.std.specs.Prelude.{ℕ, List, [], Option, Some, None}
use Rattle.std.specs.Borrow.{Bor}
use Rattle.pfc_tree.specs.views.Exprs.{expr_view}
use Rattle.pfc_tree.specs.views.Stmts.{stmts_view}
use Rattle.pfc_types.specs.Blocks.{Blocks}
use Rattle.pfc_types.specs.Scopes.{Level}
use Rattle.pfc_types.specs.Views.{levels}
use Rattle.pfc_types.specs.declared.view.Around.{Around}
use Rattle.pfc_types.specs.declared.view.View.{View}
use Rattle.pfc_types.specs.rules.Expressions.{Env}
use Rattle.pfc_program.specs.declared.tables.Tables.{Tables}
use Rattle.pfc_program.specs.Views.{tables_view}
use Rattle.pfc_code_size.specs.Expressions.{expr_size}
use Rattle.pfc_code_size.specs.Statements.{stmts_size}
use Rattle.pfc_code_size.specs.declared.phrases.Phrase.{Phrase}
use Rattle.pfc_code_size.specs.declared.phrases.Phrase.TheVariants.{Test, Statements}

-- the levels of an outer view, innermost first; none where there is none
abbrev pub levels_of : Option (Bor View) → List Level
levels_of None = []
levels_of (Some outer) = levels outer.now

abbrev pub env_within : Tables → List Level → Around → Env
env_within tables levels around = record { state = tables_view tables; view = levels; around = around }

abbrev pub phrase_size : Blocks → Env → Phrase → ℕ
phrase_size b c (Test e) = expr_size b c (expr_view e.now)
phrase_size b c (Statements next ss) = stmts_size b c next (stmts_view ss.now)
