-- What is kept of a call is the strings of its code.
use Rattle.std.proofs.Common.{ℕ, Bool, true, false, Option, Some, None, refl, sym, arith}
use Rattle.std.proofs.lemmas.List.{append-nil}
use Rattle.pfc_tree.specs.Symbols.{Text}
use Rattle.pfc_tree.specs.trees.Exprs.{ExprTree, DesigTree, SelectorTrees, ActualTree, ActualTrees, desig, actual, actual_width, no_actuals, more_actuals}
use Rattle.pfc_types.specs.Scopes.{meaning_of}
use Rattle.pfc_types.specs.rules.Expressions.{find}
use Rattle.pfc_types.specs.rules.Calls.{last_field}
use Rattle.pfc_types.specs.declared.scope.Meaning.{Meaning}
use Rattle.pfc_types.specs.declared.scope.Meaning.TheVariants.{Variable, Sub, Module, Process, Predeclared}
use Rattle.pfc_types.specs.declared.view.Found.{Found}
use Rattle.pfc_code.specs.declared.instructions.Instr.TheVariants.{WRNL}
use Rattle.pfc_semantics.specs.Predeclared.{Procedure, reader, writer, initial, wait, signal, delay, resume, sleep, no_procedure, procedure_of}
use Rattle.pfc_semantics.specs.Statements.{as_string, expr_of, behind_first}
use Rattle.pfc_translation.specs.Sites.{Site}
use Rattle.pfc_translation.specs.Codes.{nothing, one, string, unseen}
use Rattle.pfc_translation.specs.Expressions.{expr_code, first_value}
use Rattle.pfc_translation.specs.Calls.{plain_item, wide_item, item_code, writes_code, reads_code, given_code, rank_code, first_object, procedure_code}
use Rattle.pfc_translation.specs.Calls.{sub_code, module_code, called_variable, called_process, called_code, found_code, call_code}
use Rattle.pfc_expression_code.specs.Putting.{Made, IsMade}
use Rattle.pfc_unseen_code.specs.Calls.{with_string, with_item, with_items, with_procedure, with_called, with_call}
use Rattle.pfc_unseen_code.proofs.Keeping.{IsQuiet, kept_quiet, kept_both, kept_behind, quiet_both}
use Rattle.pfc_unseen_code.proofs.Quiet.{quiet_nothing, quiet_one, quiet_expr, quiet_reads, quiet_given, quiet_rank, quiet_first, quiet_first_object}
use Rattle.pfc_unseen_code.proofs.Quiet.{quiet_three, quiet_sub, quiet_module, quiet_variable, quiet_called_process}

-- ## Items

string_kept : (s : Site) (x : Text) (w : ℕ) (m : Made) → IsMade (unseen (string s x w)) m (with_string (Some x) m)
string_kept s x w m = record { code = sym (append-nil m.code); texts = refl; arms = omega arith; size = omega arith }

plain_kept : (s : Site) (o : Option Text) (e : ExprTree) (m : Made) → IsMade (unseen (plain_item s o e)) m (with_string o m)
plain_kept s None e m = kept_quiet (plain_item s None e) m (quiet_both (expr_code s e) _ (quiet_expr s e) (quiet_one s _))
plain_kept s (Some x) e m = string_kept s x 0 m

wide_kept : (s : Site) (o : Option Text) (e w : ExprTree) (m : Made) → IsMade (unseen (wide_item s o e w)) m (with_string o m)
wide_kept s None e w m =
    kept_quiet (wide_item s None e w) m (quiet_three (expr_code s e) (expr_code s w) _ (quiet_expr s e) (quiet_expr s w) (quiet_one s _))
wide_kept s (Some x) e w m = kept_behind (expr_code s w) (string s x 1) m (with_string (Some x) m) (quiet_expr s w) (string_kept s x 1 m)

item_kept : (s : Site) (a : ActualTree) (m : Made) → IsMade (unseen (item_code s a)) m (with_item a m)
item_kept s (actual e) m = plain_kept s (as_string e) e m
item_kept s (actual_width e w) m = wide_kept s (as_string e) e w m

items_kept : (s : Site) (args : ActualTrees) (newline : Bool) (m : Made) → IsMade (unseen (writes_code s args newline)) m (with_items args m)
items_kept s no_actuals true m = kept_quiet (one s WRNL) m (quiet_one s WRNL)
items_kept s no_actuals false m = kept_quiet nothing m quiet_nothing
items_kept s (more_actuals a rest) newline m =
    let next = with_item a m in
    kept_both (item_code s a) (writes_code s rest newline) m next (with_items rest next) (item_kept s a m) (items_kept s rest newline next)

-- ## Predeclared procedures

quiet_initial : (s : Site) (args : ActualTrees) → IsQuiet (procedure_code s initial args)
quiet_initial s args =
    quiet_three (first_object s args) (given_code s (expr_of (behind_first args))) _ (quiet_first_object s args)
    (quiet_given s (expr_of (behind_first args))) (quiet_one s _)

quiet_delay : (s : Site) (args : ActualTrees) → IsQuiet (procedure_code s delay args)
quiet_delay s args =
    quiet_three (first_object s args) (rank_code s (expr_of (behind_first args))) _ (quiet_first_object s args)
    (quiet_rank s (expr_of (behind_first args))) (quiet_one s _)

procedure_kept : (s : Site) (p : Procedure) (args : ActualTrees) (m : Made) → IsMade (unseen (procedure_code s p args)) m (with_procedure p args m)
procedure_kept s (reader skip) args m = kept_quiet (reads_code s args skip) m (quiet_reads s args skip)
procedure_kept s (writer newline) args m = items_kept s args newline m
procedure_kept s initial args m = kept_quiet (procedure_code s initial args) m (quiet_initial s args)
procedure_kept s wait args m =
    kept_quiet (procedure_code s wait args) m (quiet_both (first_object s args) _ (quiet_first_object s args) (quiet_one s _))
procedure_kept s signal args m =
    kept_quiet (procedure_code s signal args) m (quiet_both (first_object s args) _ (quiet_first_object s args) (quiet_one s _))
procedure_kept s delay args m = kept_quiet (procedure_code s delay args) m (quiet_delay s args)
procedure_kept s resume args m =
    kept_quiet (procedure_code s resume args) m (quiet_both (first_object s args) _ (quiet_first_object s args) (quiet_one s _))
procedure_kept s sleep args m =
    kept_quiet (procedure_code s sleep args) m (quiet_both (first_value s args) _ (quiet_first s args) (quiet_one s _))
procedure_kept s no_procedure args m = kept_quiet nothing m quiet_nothing

-- ## Calls

called_kept :
    (s : Site) (found : Found) (x : Meaning) (ss : SelectorTrees) (args : ActualTrees) (m : Made)
    → IsMade (unseen (called_code s found x ss args)) m (with_called (Some x) args m)
called_kept s found (Predeclared k) ss args m = procedure_kept s (procedure_of k) args m
called_kept s found (Sub k) ss args m = kept_quiet (sub_code s k args) m (quiet_sub s k args)
called_kept s found (Module k) ss args m = kept_quiet (module_code s k (last_field ss) args) m (quiet_module s k (last_field ss) args)
called_kept s found (Process k) ss args m =
    kept_quiet (called_process s found k (last_field ss) args) m (quiet_called_process s found k (last_field ss) args)
called_kept s found (Variable t reference) ss args m =
    kept_quiet (called_variable s found ss t (last_field ss) args) m (quiet_variable s found ss t (last_field ss) args)
called_kept s found x ss args m = kept_quiet nothing m quiet_nothing

found_kept :
    (s : Site) (found : Option Found) (ss : SelectorTrees) (args : ActualTrees) (m : Made)
    → IsMade (unseen (found_code s found ss args)) m (with_called (meaning_of found) args m)
found_kept s None ss args m = kept_quiet nothing m quiet_nothing
found_kept s (Some found) ss args m = called_kept s found found.meaning ss args m

pub call_kept : (s : Site) (d : DesigTree) (args : ActualTrees) (m : Made) → IsMade (unseen (call_code s d args)) m (with_call s.env d args m)
call_kept s (desig x ss p) args m = found_kept s (find s.env x) ss args m
