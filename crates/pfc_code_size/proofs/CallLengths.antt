-- The same of calls.
use Rattle.std.proofs.Common.{◌≡◌, ℕ, Bool, true, false, length, Option, Some, None, refl, arith, length-append}
use Rattle.pfc_tree.specs.Symbols.{Text}
use Rattle.pfc_base.specs.declared.places.Place.{Place}
use Rattle.pfc_tree.specs.trees.Exprs.{ExprTree, DesigTree, SelectorTrees, ActualTree, ActualTrees, desig, no_selectors, actual, actual_width, no_actuals}
use Rattle.pfc_tree.specs.trees.Exprs.{more_actuals}
use Rattle.pfc_types.specs.Scopes.{meaning_in, meaning_of, scope_at}
use Rattle.pfc_types.specs.Blocks.{sub_at, module_at, process_at, entry_at}
use Rattle.pfc_types.specs.rules.Expressions.{find, as_desig, selected}
use Rattle.pfc_types.specs.rules.Calls.{last_field, before_last}
use Rattle.pfc_types.specs.declared.types.TypeId.{TypeId}
use Rattle.pfc_types.specs.declared.scope.Meaning.{Meaning}
use Rattle.pfc_types.specs.declared.scope.Meaning.TheVariants.{Constant, Named, Variable, Sub, Module, Process, Entry, Predeclared, Faulty}
use Rattle.pfc_types.specs.declared.view.Found.{Found}
use Rattle.pfc_semantics.specs.Predeclared.{Procedure, reader, writer, initial, wait, signal, delay, resume, sleep, no_procedure, procedure_of}
use Rattle.pfc_semantics.specs.Expressions.{spot_of}
use Rattle.pfc_semantics.specs.Statements.{as_string, item_of, expr_of, behind_first, name_in_process, process_of_type}
use Rattle.pfc_translation.specs.Sites.{Site, blocks_of}
use Rattle.pfc_translation.specs.Codes.{Code}
use Rattle.pfc_translation.specs.Expressions.{address_code}
use Rattle.pfc_translation.specs.Calls.{plain_item, wide_item, item_code, writes_code, input_code, reads_code, given_code, rank_code, first_object}
use Rattle.pfc_translation.specs.Calls.{procedure_code, sub_code, exported_code, module_code, requeue_code, activation_code, entry_code, process_code}
use Rattle.pfc_translation.specs.Calls.{field_code, called_variable, called_process, called_code, found_code, call_code}
use Rattle.pfc_code_size.specs.Calls.{plain_item_size, wide_item_size, item_size, writes_size, input_size, reads_size, given_size, rank_size, first_object_size}
use Rattle.pfc_code_size.specs.Calls.{procedure_size, sub_size, exported_size, module_size, requeue_size, activation_size, entry_size, process_size, part_size}
use Rattle.pfc_code_size.specs.Calls.{field_size, called_variable_size, called_process_size, called_size, call_size}
use Rattle.pfc_code_size.proofs.Lengths.{expr_length, desig_length, args_length, part_length, first_value_length, first_address_length}

-- ## Output and input

plain_item_length :
    (s : Site) (x : Option Text) (e : ExprTree) (at n : ℕ) → length ((plain_item s x e).put at n) ≡ plain_item_size (blocks_of s) s.env x e
plain_item_length s None e at n = grind (arith, length-append, expr_length s e)
plain_item_length s (Some x) e at n = refl

wide_item_length :
    (s : Site) (x : Option Text) (e w : ExprTree) (at n : ℕ) → length ((wide_item s x e w).put at n) ≡ wide_item_size (blocks_of s) s.env x e w
wide_item_length s None e w at n = grind (arith, length-append, expr_length s e, expr_length s w)
wide_item_length s (Some x) e w at n = grind (arith, length-append, expr_length s w)

item_length : (s : Site) (a : ActualTree) (at n : ℕ) → length ((item_code s a).put at n) ≡ item_size (blocks_of s) s.env a
item_length s (actual e) at n = plain_item_length s (as_string e) e at n
item_length s (actual_width e w) at n = wide_item_length s (as_string e) e w at n

writes_length :
    (s : Site) (args : ActualTrees) (newline : Bool) (at n : ℕ)
    → length ((writes_code s args newline).put at n) ≡ writes_size (blocks_of s) s.env args newline
writes_length s no_actuals true at n = refl
writes_length s no_actuals false at n = refl
writes_length s (more_actuals a rest) newline at n = grind (arith, length-append, item_length s a, writes_length s rest newline)

input_length : (s : Site) (d : Option DesigTree) (at n : ℕ) → length ((input_code s d).put at n) ≡ input_size (blocks_of s) s.env d
input_length s None at n = refl
input_length s (Some d) at n = grind (arith, length-append, desig_length s d)

reads_length :
    (s : Site) (args : ActualTrees) (skip : Bool) (at n : ℕ)
    → length ((reads_code s args skip).put at n) ≡ reads_size (blocks_of s) s.env args skip
reads_length s no_actuals true at n = refl
reads_length s no_actuals false at n = refl
reads_length s (more_actuals a rest) skip at n =
    grind (arith, length-append, input_length s (as_desig (item_of a)), reads_length s rest skip)

-- ## Predeclared procedures

given_length : (s : Site) (e : Option ExprTree) (at n : ℕ) → length ((given_code s e).put at n) ≡ given_size (blocks_of s) s.env e
given_length s None at n = refl
given_length s (Some e) at n = expr_length s e at n

rank_length : (s : Site) (e : Option ExprTree) (at n : ℕ) → length ((rank_code s e).put at n) ≡ rank_size (blocks_of s) s.env e
rank_length s None at n = refl
rank_length s (Some e) at n = expr_length s e at n

first_object_length :
    (s : Site) (args : ActualTrees) (at n : ℕ) → length ((first_object s args).put at n) ≡ first_object_size (blocks_of s) s.env args
first_object_length s args at n = grind (arith, length-append, first_address_length s args)

procedure_length :
    (s : Site) (p : Procedure) (args : ActualTrees) (at n : ℕ)
    → length ((procedure_code s p args).put at n) ≡ procedure_size (blocks_of s) s.env p args
procedure_length s (reader skip) args at n = reads_length s args skip at n
procedure_length s (writer newline) args at n = writes_length s args newline at n
procedure_length s initial args at n =
    grind (arith, length-append, first_address_length s args, given_length s (expr_of (behind_first args)))
procedure_length s wait args at n = grind (arith, length-append, first_address_length s args)
procedure_length s signal args at n = grind (arith, length-append, first_address_length s args)
procedure_length s delay args at n =
    grind (arith, length-append, first_address_length s args, rank_length s (expr_of (behind_first args)))
procedure_length s resume args at n = grind (arith, length-append, first_address_length s args)
procedure_length s sleep args at n = grind (arith, length-append, first_value_length s args)
procedure_length s no_procedure args at n = refl

-- ## Subs and modules

sub_length : (s : Site) (i : ℕ) (args : ActualTrees) (at n : ℕ) → length ((sub_code s i args).put at n) ≡ sub_size (blocks_of s) s.env i args
sub_length s i args at n = grind (arith, length-append, args_length s (sub_at (blocks_of s) i).formals args)

exported_length :
    (s : Site) (i : ℕ) (m : Option Meaning) (args : ActualTrees) (at n : ℕ)
    → length ((exported_code s i m args).put at n) ≡ exported_size (blocks_of s) s.env m args
exported_length s i None args at n = refl
exported_length s i (Some (Constant t v)) args at n = refl
exported_length s i (Some (Named t)) args at n = refl
exported_length s i (Some (Variable t reference)) args at n = refl
exported_length s i (Some (Sub k)) args at n = grind (arith, length-append, args_length s (sub_at (blocks_of s) k).formals args)
exported_length s i (Some (Module k)) args at n = refl
exported_length s i (Some (Process k)) args at n = refl
exported_length s i (Some (Entry k)) args at n = refl
exported_length s i (Some (Predeclared k)) args at n = refl
exported_length s i (Some Faulty) args at n = refl

module_length :
    (s : Site) (i : ℕ) (x : Option (Text × Place)) (args : ActualTrees) (at n : ℕ)
    → length ((module_code s i x args).put at n) ≡ module_size (blocks_of s) s.env i x args
module_length s i None args at n = refl
module_length s i (Some x) args at n =
    exported_length s i (meaning_in (scope_at (blocks_of s).scopes (module_at (blocks_of s) i).scope) x.0) args at n

pub requeue_length :
    (s : Site) (m : Option Meaning) (args : ActualTrees) (at n : ℕ)
    → length ((requeue_code s m args).put at n) ≡ requeue_size (blocks_of s) s.env m args
requeue_length s None args at n = refl
requeue_length s (Some (Constant t v)) args at n = refl
requeue_length s (Some (Named t)) args at n = refl
requeue_length s (Some (Variable t reference)) args at n = refl
requeue_length s (Some (Sub k)) args at n = grind (arith, length-append, args_length s (sub_at (blocks_of s) k).formals args)
requeue_length s (Some (Module k)) args at n = refl
requeue_length s (Some (Process k)) args at n = refl
requeue_length s (Some (Entry k)) args at n = refl
requeue_length s (Some (Predeclared k)) args at n = refl
requeue_length s (Some Faulty) args at n = refl

-- ## Processes and entries

activation_length :
    (s : Site) (i : ℕ) (address : Code) (j : ℕ) (args : ActualTrees) → ((at n : ℕ) → length (address.put at n) ≡ j)
    → (at n : ℕ) → length ((activation_code s i address args).put at n) ≡ activation_size (blocks_of s) s.env i j args
activation_length s i address j args a at n = grind (arith, length-append, a, args_length s (process_at (blocks_of s) i).formals args)

entry_length :
    (s : Site) (i : ℕ) (m : Option Meaning) (address : Code) (j : ℕ) (args : ActualTrees) → ((at n : ℕ) → length (address.put at n) ≡ j)
    → (at n : ℕ) → length ((entry_code s i m address args).put at n) ≡ entry_size (blocks_of s) s.env i m j args
entry_length s i None address j args a at n = refl
entry_length s i (Some (Constant t v)) address j args a at n = refl
entry_length s i (Some (Named t)) address j args a at n = refl
entry_length s i (Some (Variable t reference)) address j args a at n = refl
entry_length s i (Some (Sub k)) address j args a at n = refl
entry_length s i (Some (Module k)) address j args a at n = refl
entry_length s i (Some (Process k)) address j args a at n = refl
entry_length s i (Some (Entry k)) address j args a at n = grind (arith, length-append, a, args_length s (entry_at (blocks_of s) i k) args)
entry_length s i (Some (Predeclared k)) address j args a at n = refl
entry_length s i (Some Faulty) address j args a at n = refl

process_length :
    (s : Site) (i : Option ℕ) (address : Code) (j : ℕ) (args : ActualTrees) → ((at n : ℕ) → length (address.put at n) ≡ j)
    → (at n : ℕ) → length ((process_code s i address args).put at n) ≡ process_size (blocks_of s) s.env i j args
process_length s None address j args a at n = refl
process_length s (Some i) address j args a at n = activation_length s i address j args a at n

address_length :
    (s : Site) (found : Found) (ss : SelectorTrees) (at n : ℕ)
    → length ((address_code s (Some found) ss).put at n) ≡ part_size (blocks_of s) s.env ss
address_length s found ss at n = let v = spot_of s.env (Some found) in part_length s v.spot v.t ss at n

field_length :
    (s : Site) (found : Found) (ss : SelectorTrees) (t : Option TypeId) (i : Option ℕ) (x : Text) (args : ActualTrees) (at n : ℕ)
    → length ((field_code s found ss t i x args).put at n) ≡ field_size (blocks_of s) s.env ss t i x args
field_length s found ss t None x args at n =
    process_length s (process_of_type s.env (selected s.env t ss)) (address_code s (Some found) ss) _ args (address_length s found ss) at n
field_length s found ss t (Some i) x args at n =
    entry_length s i (name_in_process (blocks_of s) i x) (address_code s (Some found) (before_last ss)) _ args
    (address_length s found (before_last ss)) at n

called_variable_length :
    (s : Site) (found : Found) (ss : SelectorTrees) (t : TypeId) (x : Option (Text × Place)) (args : ActualTrees) (at n : ℕ)
    → length ((called_variable s found ss t x args).put at n) ≡ called_variable_size (blocks_of s) s.env ss t x args
called_variable_length s found ss t None args at n =
    process_length s (process_of_type s.env (selected s.env (Some t) ss)) (address_code s (Some found) ss) _ args (address_length s found ss) at n
called_variable_length s found ss t (Some x) args at n =
    field_length s found ss (Some t) (process_of_type s.env (selected s.env (Some t) (before_last ss))) x.0 args at n

called_process_length :
    (s : Site) (found : Found) (i : ℕ) (x : Option (Text × Place)) (args : ActualTrees) (at n : ℕ)
    → length ((called_process s found i x args).put at n) ≡ called_process_size (blocks_of s) s.env i x args
called_process_length s found i None args at n =
    activation_length s i (address_code s (Some found) no_selectors) _ args (address_length s found no_selectors) at n
called_process_length s found i (Some x) args at n =
    entry_length s i (name_in_process (blocks_of s) i x.0) (address_code s (Some found) no_selectors) _ args
    (address_length s found no_selectors) at n

-- ## A name that is called as a statement

called_length :
    (s : Site) (found : Found) (m : Meaning) (ss : SelectorTrees) (args : ActualTrees) (at n : ℕ)
    → length ((called_code s found m ss args).put at n) ≡ called_size (blocks_of s) s.env (Some m) ss args
called_length s found (Constant t v) ss args at n = refl
called_length s found (Named t) ss args at n = refl
called_length s found (Variable t reference) ss args at n = called_variable_length s found ss t (last_field ss) args at n
called_length s found (Sub k) ss args at n = sub_length s k args at n
called_length s found (Module k) ss args at n = module_length s k (last_field ss) args at n
called_length s found (Process k) ss args at n = called_process_length s found k (last_field ss) args at n
called_length s found (Entry k) ss args at n = refl
called_length s found (Predeclared k) ss args at n = procedure_length s (procedure_of k) args at n
called_length s found Faulty ss args at n = refl

found_length :
    (s : Site) (found : Option Found) (ss : SelectorTrees) (args : ActualTrees) (at n : ℕ)
    → length ((found_code s found ss args).put at n) ≡ called_size (blocks_of s) s.env (meaning_of found) ss args
found_length s None ss args at n = refl
found_length s (Some found) ss args at n = called_length s found found.meaning ss args at n

pub call_length :
    (s : Site) (d : DesigTree) (args : ActualTrees) (at n : ℕ) → length ((call_code s d args).put at n) ≡ call_size (blocks_of s) s.env d args
call_length s (desig x ss p) args at n = found_length s (find s.env x) ss args at n
