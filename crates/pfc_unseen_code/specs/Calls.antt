-- What is kept of a call that gives no code: the strings that `write` and `writeln` write.
use Rattle.std.specs.Prelude.{[], ◌∷◌, ◌++◌, Option, Some, None}
use Rattle.pfc_tree.specs.Symbols.{Text}
use Rattle.pfc_tree.specs.trees.Exprs.{DesigTree, ActualTree, ActualTrees, desig, no_actuals, more_actuals}
use Rattle.pfc_types.specs.declared.scope.Meaning.{Meaning}
use Rattle.pfc_types.specs.declared.scope.Meaning.TheVariants.{Predeclared}
use Rattle.pfc_types.specs.Scopes.{meaning_of}
use Rattle.pfc_types.specs.rules.Expressions.{Env, find}
use Rattle.pfc_semantics.specs.Predeclared.{Procedure, writer, procedure_of}
use Rattle.pfc_semantics.specs.Statements.{as_string, item_of}
use Rattle.pfc_expression_code.specs.Putting.{Made}

abbrev pub with_string : Option Text → Made → Made
with_string None m = m
with_string (Some x) m = record m { texts = m.texts ++ x ∷ [] }

-- an item of a `write`; its width is no string
abbrev pub with_item : ActualTree → Made → Made
with_item a m = with_string (as_string (item_of a)) m

abbrev pub with_items : ActualTrees → Made → Made
with_items no_actuals m = m
with_items (more_actuals a rest) m = with_items rest (with_item a m)

abbrev pub with_procedure : Procedure → ActualTrees → Made → Made
with_procedure (writer newline) args m = with_items args m
with_procedure p args m = m

abbrev pub with_called : Option Meaning → ActualTrees → Made → Made
with_called (Some (Predeclared k)) args m = with_procedure (procedure_of k) args m
with_called x args m = m

abbrev pub with_call : Env → DesigTree → ActualTrees → Made → Made
with_call c (desig x ss p) args m = with_called (meaning_of (find c x)) args m
