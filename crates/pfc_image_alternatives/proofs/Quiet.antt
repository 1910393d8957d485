-- Code with few alternatives in each select: what expressions, calls and communications give has none.
use Rattle.std.proofs.Common.{ℕ, ◌≤◌, max, Bool, true, false, if◌then◌else◌, List, [], ◌∷◌, Option, Some, None, arith}
use Rattle.pfc_tree.specs.Symbols.{Text}
use Rattle.pfc_tree.specs.trees.Exprs.{ExprTree, DesigTree, SelectorTrees, ExprTrees, ActualTree, ActualTrees, plain, sum, no_summands, product, no_multipliers}
use Rattle.pfc_tree.specs.trees.Exprs.{applied, desig, index, field, no_selectors, more_selectors, no_exprs, more_exprs, actual, actual_width, no_actuals}
use Rattle.pfc_tree.specs.trees.Exprs.{more_actuals}
use Rattle.pfc_base.specs.declared.places.Place.{Place}
use Rattle.pfc_types.specs.declared.types.TypeId.{TypeId}
use Rattle.pfc_types.specs.declared.scope.Meaning.{Meaning}
use Rattle.pfc_types.specs.declared.scope.Meaning.TheVariants.{Variable, Sub, Module, Process, Entry, Predeclared}
use Rattle.pfc_types.specs.declared.heads.Formal.{Formal}
use Rattle.pfc_types.specs.declared.view.Found.{Found}
use Rattle.pfc_types.specs.Scopes.{meaning_in, scope_at}
use Rattle.pfc_types.specs.Blocks.{module_at, process_at, entry_at, sub_at}
use Rattle.pfc_types.specs.rules.Calls.{last_field, before_last}
use Rattle.pfc_types.specs.rules.Expressions.{find, field_type, selected, as_desig}
use Rattle.pfc_semantics.specs.Programs.{Block, Program}
use Rattle.pfc_semantics.specs.Predeclared.{Procedure, reader, writer, initial, wait, signal, delay, resume, sleep, no_procedure, procedure_of}
use Rattle.pfc_semantics.specs.Expressions.{spot_of}
use Rattle.pfc_semantics.specs.Statements.{as_string, item_of, expr_of, behind_first, name_in_process, process_of_type}
use Rattle.pfc_semantics.specs.Remainders.{Replica}
use Rattle.pfc_semantics.specs.Alternatives.{message_of, receiver_of}
use Rattle.pfc_translation.specs.Sites.{Site, blocks_of, forms_of, context_of}
use Rattle.pfc_translation.specs.Codes.{Code}
use Rattle.pfc_translation.specs.Addresses.{type_behind, element_in}
use Rattle.pfc_translation.specs.Expressions.{expr_code, first_value, first_address, actual_code, lent_code, variable_code, args_code, selectors_code}
use Rattle.pfc_translation.specs.Expressions.{indices_code, address_code, desig_code, object_code}
use Rattle.pfc_translation.specs.Calls.{plain_item, wide_item, item_code, writes_code, input_code, reads_code, given_code, rank_code, first_object}
use Rattle.pfc_translation.specs.Calls.{procedure_code, exported_code, module_code, requeue_code, activation_code, entry_code, process_code, field_code}
use Rattle.pfc_translation.specs.Calls.{called_variable, called_process, called_code, found_code, call_code}
use Rattle.pfc_translation.specs.Selects.{message_code, receiver_code, send_code, receive_code, replica_code}
use Rattle.pfc_translation.specs.Statements.{assign_code}
use Rattle.pfc_image_laws.proofs.Phrases as phrases

abbrev pub Few : Code → Type 0
Few c = c.arms ≤ 1024

pub no_code : 0 ≤ 1024
no_code = grind arith

pub both : {i j : ℕ} → i ≤ 1024 → j ≤ 1024 → max i j ≤ 1024
both {i} {j} h k = grind (arith, h, k)

either : (r : Bool) (c d : Code) → Few c → Few d → Few (if r then c else d)
either true c d p q = p
either false c d p q = q

-- ## Expressions

abbrev FewAt : Program → Block → ℕ → ℕ → Code → Type 0
FewAt g b m k c = Few c

pub expr : (s : Site) (e : ExprTree) → Few (expr_code s e)
expr s e =
    phrases.expr FewAt (λ g b m k. no_code) (λ g b m k c d p q. both p q) (λ s m k i alone. no_code) (λ s m k v. no_code) (λ s m k head. no_code)
    (λ s m k n i. no_code) (λ s m k i. no_code) (λ s m k i. no_code) (λ s m k x w. no_code) (λ s m k f count leads less. no_code)
    (λ s m k f count leads less. no_code) (λ g b m k c p. p) s e 0 0

mutual
  selectors : (s : Site) (t : Option TypeId) (ss : SelectorTrees) → Few (selectors_code s t ss)
  selectors s t no_selectors = no_code
  selectors s t (more_selectors (index es p) ss) = both (indices s t es) (selectors s (type_behind (forms_of s) t es) ss)
  selectors s t (more_selectors (field x p) ss) = both no_code (selectors s (field_type (forms_of s) t x) ss)

  indices : (s : Site) (t : Option TypeId) (es : ExprTrees) → Few (indices_code s t es)
  indices s t no_exprs = no_code
  indices s t (more_exprs e es) = both (expr s e) (both no_code (indices s (element_in (forms_of s) t) es))

address : (s : Site) (found : Option Found) (ss : SelectorTrees) → Few (address_code s found ss)
address s found ss = both no_code (selectors s (spot_of s.env found).t ss)

pub designated : (s : Site) (d : DesigTree) → Few (desig_code s d)
designated s (desig x ss p) = address s (find s.env x) ss

pub object : (s : Site) (d : DesigTree) → Few (object_code s d)
object s d = both (designated s d) no_code

variable : (s : Site) (e : ExprTree) → Few (variable_code s e)
variable s (plain (sum None (product (applied (desig x ss q) no_actuals p) no_multipliers) no_summands) r) = address s (find s.env x) ss
variable s e = no_code

lent : (s : Site) (a : ActualTree) → Few (lent_code s a)
lent s (actual e) = variable s e
lent s (actual_width e w) = variable s e

given : (s : Site) (a : ActualTree) → Few (actual_code s a)
given s (actual e) = expr s e
given s (actual_width e w) = expr s e

first_lent : (s : Site) (args : ActualTrees) → Few (first_address s args)
first_lent s no_actuals = no_code
first_lent s (more_actuals a rest) = lent s a

first_given : (s : Site) (args : ActualTrees) → Few (first_value s args)
first_given s no_actuals = no_code
first_given s (more_actuals a rest) = given s a

arguments : (s : Site) (formals : List Formal) (args : ActualTrees) → Few (args_code s formals args)
arguments s formals no_actuals = no_code
arguments s [] (more_actuals a rest) = no_code
arguments s (f ∷ formals) (more_actuals a rest) =
    both (either f.reference (lent_code s a) (actual_code s a) (lent s a) (given s a)) (arguments s formals rest)

-- ## Output and input

plain_few : (s : Site) (x : Option Text) (e : ExprTree) → Few (plain_item s x e)
plain_few s None e = both (expr s e) no_code
plain_few s (Some x) e = no_code

wide_few : (s : Site) (x : Option Text) (e w : ExprTree) → Few (wide_item s x e w)
wide_few s None e w = both (expr s e) (both (expr s w) no_code)
wide_few s (Some x) e w = both (expr s w) no_code

item : (s : Site) (a : ActualTree) → Few (item_code s a)
item s (actual e) = plain_few s (as_string e) e
item s (actual_width e w) = wide_few s (as_string e) e w

writes : (s : Site) (args : ActualTrees) (newline : Bool) → Few (writes_code s args newline)
writes s no_actuals true = no_code
writes s no_actuals false = no_code
writes s (more_actuals a rest) newline = both (item s a) (writes s rest newline)

an_input : (s : Site) (d : Option DesigTree) → Few (input_code s d)
an_input s None = no_code
an_input s (Some d) = both (designated s d) no_code

reads : (s : Site) (args : ActualTrees) (skip : Bool) → Few (reads_code s args skip)
reads s no_actuals true = no_code
reads s no_actuals false = no_code
reads s (more_actuals a rest) skip = both (an_input s (as_desig (item_of a))) (reads s rest skip)

-- ## Predeclared procedures

count : (s : Site) (e : Option ExprTree) → Few (given_code s e)
count s None = no_code
count s (Some e) = expr s e

rank : (s : Site) (e : Option ExprTree) → Few (rank_code s e)
rank s None = no_code
rank s (Some e) = expr s e

first_of : (s : Site) (args : ActualTrees) → Few (first_object s args)
first_of s args = both (first_lent s args) no_code

procedure : (s : Site) (p : Procedure) (args : ActualTrees) → Few (procedure_code s p args)
procedure s (reader skip) args = reads s args skip
procedure s (writer newline) args = writes s args newline
procedure s initial args = both (first_of s args) (both (count s (expr_of (behind_first args))) no_code)
procedure s wait args = both (first_of s args) no_code
procedure s signal args = both (first_of s args) no_code
procedure s delay args = both (first_of s args) (both (rank s (expr_of (behind_first args))) no_code)
procedure s resume args = both (first_of s args) no_code
procedure s sleep args = both (first_given s args) no_code
procedure s no_procedure args = no_code

-- ## Calls

exported : (s : Site) (n : ℕ) (m : Option Meaning) (args : ActualTrees) → Few (exported_code s n m args)
exported s n (Some (Sub p)) args = both (arguments s (sub_at (blocks_of s) p).formals args) no_code
exported s n m args = no_code

of_module : (s : Site) (n : ℕ) (x : Option (Text × Place)) (args : ActualTrees) → Few (module_code s n x args)
of_module s n None args = no_code
of_module s n (Some x) args = exported s n (meaning_in (scope_at (blocks_of s).scopes (module_at (blocks_of s) n).scope) x.0) args

pub requeued : (s : Site) (m : Option Meaning) (args : ActualTrees) → Few (requeue_code s m args)
requeued s (Some (Sub n)) args = both (arguments s (sub_at (blocks_of s) n).formals args) no_code
requeued s m args = no_code

activation : (s : Site) (n : ℕ) (c : Code) (args : ActualTrees) → Few c → Few (activation_code s n c args)
activation s n c args p = both p (both no_code (both (arguments s (process_at (blocks_of s) n).formals args) no_code))

entry_call : (s : Site) (n : ℕ) (m : Option Meaning) (c : Code) (args : ActualTrees) → Few c → Few (entry_code s n m c args)
entry_call s n (Some (Entry e)) c args p = both p (both no_code (both (arguments s (entry_at (blocks_of s) n e) args) no_code))
entry_call s n m c args p = no_code

process : (s : Site) (n : Option ℕ) (c : Code) (args : ActualTrees) → Few c → Few (process_code s n c args)
process s None c args p = no_code
process s (Some n) c args p = activation s n c args p

a_field : (s : Site) (found : Found) (ss : SelectorTrees) (t : Option TypeId) (n : Option ℕ) (x : Text) (args : ActualTrees)
    → Few (field_code s found ss t n x args)
a_field s found ss t None x args =
    process s (process_of_type s.env (selected s.env t ss)) (address_code s (Some found) ss) args (address s (Some found) ss)
a_field s found ss t (Some n) x args =
    entry_call s n (name_in_process (blocks_of s) n x) (address_code s (Some found) (before_last ss)) args (address s (Some found) (before_last ss))

called_at : (s : Site) (found : Found) (ss : SelectorTrees) (t : TypeId) (x : Option (Text × Place)) (args : ActualTrees)
    → Few (called_variable s found ss t x args)
called_at s found ss t None args =
    process s (process_of_type s.env (selected s.env (Some t) ss)) (address_code s (Some found) ss) args (address s (Some found) ss)
called_at s found ss t (Some x) args = a_field s found ss (Some t) (process_of_type s.env (selected s.env (Some t) (before_last ss))) x.0 args

called_single : (s : Site) (found : Found) (n : ℕ) (x : Option (Text × Place)) (args : ActualTrees) → Few (called_process s found n x args)
called_single s found n None args = activation s n (address_code s (Some found) no_selectors) args (address s (Some found) no_selectors)
called_single s found n (Some x) args =
    entry_call s n (name_in_process (blocks_of s) n x.0) (address_code s (Some found) no_selectors) args (address s (Some found) no_selectors)

called : (s : Site) (found : Found) (m : Meaning) (ss : SelectorTrees) (args : ActualTrees) → Few (called_code s found m ss args)
called s found (Predeclared n) ss args = procedure s (procedure_of n) args
called s found (Sub n) ss args = both (arguments s (sub_at (blocks_of s) n).formals args) no_code
called s found (Module n) ss args = of_module s n (last_field ss) args
called s found (Process n) ss args = called_single s found n (last_field ss) args
called s found (Variable t reference) ss args = called_at s found ss t (last_field ss) args
called s found m ss args = no_code

called_name : (s : Site) (found : Option Found) (ss : SelectorTrees) (args : ActualTrees) → Few (found_code s found ss args)
called_name s None ss args = no_code
called_name s (Some found) ss args = called s found found.meaning ss args

pub a_call : (s : Site) (d : DesigTree) (args : ActualTrees) → Few (call_code s d args)
a_call s (desig x ss p) args = called_name s (find s.env x) ss args

-- ## Assignments and communication

pub assigned : (s : Site) (d : DesigTree) (e : ExprTree) → Few (assign_code s d e)
assigned s d e = both (designated s d) (both (expr s e) no_code)

pub message : (s : Site) (e : Option ExprTree) → Few (message_code s e)
message s None = no_code
message s (Some e) = expr s e

pub receiver : (s : Site) (d : Option DesigTree) → Few (receiver_code s d)
receiver s None = no_code
receiver s (Some d) = designated s d

pub sent : (s : Site) (d : DesigTree) (e : ExprTree) → Few (send_code s d e)
sent s d e = both (object s d) (both (message s (message_of (context_of s) e)) no_code)

pub received : (s : Site) (d v : DesigTree) → Few (receive_code s d v)
received s d v = both (object s d) (both (receiver s (receiver_of (context_of s) v)) no_code)

pub replica : (s : Site) (r : Option Replica) → Few (replica_code s r)
replica s None = no_code
replica s (Some r) = both no_code (both no_code no_code)
