-- The code of a call as a statement, of an assignment and of communication adds few numbers.
use Rattle.std.proofs.Common.{◌≡◌, ℕ, pos, ◌+◌, ◌*◌, ◌≤◌, Bool, true, false, cond, Option, Some, None, refl, arith}
use Rattle.pfc_base.specs.declared.places.Place.{Place}
use Rattle.pfc_tree.specs.Symbols.{Text}
use Rattle.pfc_tree.specs.trees.Exprs.{ExprTree, DesigTree, SelectorTrees, ActualTree, ActualTrees, plain, related, sum, more_summands, no_summands, product}
use Rattle.pfc_tree.specs.trees.Exprs.{no_multipliers, more_multipliers, number, literal, negation, paren, applied, desig, no_selectors, more_selectors}
use Rattle.pfc_tree.specs.trees.Exprs.{actual, actual_width, no_actuals, more_actuals}
use Rattle.pfc_types.specs.declared.types.TypeId.{TypeId}
use Rattle.pfc_types.specs.declared.scope.Meaning.{Meaning}
use Rattle.pfc_types.specs.declared.scope.Meaning.TheVariants.{Constant, Named, Variable, Sub, Module, Process, Entry, Predeclared, Faulty}
use Rattle.pfc_types.specs.declared.view.Found.{Found}
use Rattle.pfc_types.specs.Scopes.{meaning_in, scope_at}
use Rattle.pfc_types.specs.Blocks.{sub_at, module_at, process_at, entry_at}
use Rattle.pfc_types.specs.rules.Calls.{last_field, before_last}
use Rattle.pfc_types.specs.rules.Expressions.{find, selected, as_desig, expr_type, desig_type}
use Rattle.pfc_types.specs.rules.Statements.{names_any}
use Rattle.pfc_values.specs.declared.simple.Simple.{Simple}
use Rattle.pfc_values.specs.declared.simple.Simple.TheVariants.{Integer, Boolean, Char}
use Rattle.pfc_semantics.specs.Operators.{simple_of}
use Rattle.pfc_semantics.specs.Objects.{module_number}
use Rattle.pfc_semantics.specs.Programs.{block_number}
use Rattle.pfc_semantics.specs.Predeclared.{Procedure, reader, writer, initial, wait, signal, delay, resume, sleep, no_procedure, procedure_of}
use Rattle.pfc_semantics.specs.Statements.{as_string, item_of, expr_of, behind_first, name_in_process, process_of_type}
use Rattle.pfc_semantics.specs.Alternatives.{message_of, receiver_of}
use Rattle.pfc_code.specs.declared.instructions.Instr.{Instr}
use Rattle.pfc_code.specs.declared.instructions.Instr.TheVariants.{LIT, STORE, OBJ, SINI, SWAIT, SSIG, SEND, RECV, ECALL, DELAY, RESUME, SLEEP, WRNL, RDNL}
use Rattle.pfc_code.specs.declared.instructions.Instr.TheVariants.{REQ, NEW}
use Rattle.pfc_translation.specs.Sites.{Site, context_of, forms_of, blocks_of, type_cells}
use Rattle.pfc_translation.specs.Codes.{Code, nothing, ◌⨾◌, one}
use Rattle.pfc_translation.specs.Expressions.{args_code, address_code}
use Rattle.pfc_translation.specs.Calls.{write_instr, plain_item, wide_item, item_code, writes_code, read_instr, input_code, reads_code, given_code, rank_code}
use Rattle.pfc_translation.specs.Calls.{first_object, procedure_code, sub_code, enter_instr, exported_code, module_code, resource_of, requeue_code}
use Rattle.pfc_translation.specs.Calls.{activation_code, formals_cells, entry_code, process_code, field_code, called_variable, called_process, called_code}
use Rattle.pfc_translation.specs.Calls.{found_code, call_code}
use Rattle.pfc_translation.specs.Selects.{message_code, message_cells, receiver_code, receiver_cells, send_code, receive_code}
use Rattle.pfc_translation.specs.Statements.{assign_code}
use Rattle.pfc_step_laws.specs.Nodes.{expr_nodes, desig_nodes, selectors_nodes, actual_nodes, actuals_nodes}
use Rattle.pfc_step_laws.proofs.Ahead.{way, on}
use Rattle.pfc_step_laws.proofs.Short.{Short, more, no_code, both, lone, stopped, a_string, one_of}
use Rattle.pfc_step_laws.proofs.Expressions.{a_sub_call, inside, inside_is, expr, a_value, an_address, arguments, address, designated, an_object}

-- ## Parts of a phrase

-- an expression where one is given, and a variable
abbrev pub given_nodes : Option ExprTree → ℕ
given_nodes None = 0
given_nodes (Some e) = expr_nodes e

abbrev pub named_nodes : Option DesigTree → ℕ
named_nodes None = 0
named_nodes (Some d) = desig_nodes d

named_few : (e : ExprTree) → named_nodes (as_desig e) ≤ expr_nodes e
named_few (related a r u p) = omega arith
named_few (plain (sum (Some sign) t us) p) = omega arith
named_few (plain (sum None (product (number k q) ms) us) p) = omega arith
named_few (plain (sum None (product (literal x q) ms) us) p) = omega arith
named_few (plain (sum None (product (negation f q) ms) us) p) = omega arith
named_few (plain (sum None (product (paren e q) ms) us) p) = omega arith
named_few (plain (sum None (product (applied d (more_actuals a args) q) ms) us) p) = omega arith
named_few (plain (sum None (product (applied d no_actuals q) (more_multipliers op f ms)) us) p) = omega arith
named_few (plain (sum None (product (applied d no_actuals q) no_multipliers) (more_summands op t us)) p) = omega arith
named_few (plain (sum None (product (applied d no_actuals q) no_multipliers) no_summands) p) = omega arith

item_few : (a : ActualTree) → expr_nodes (item_of a) + 1 ≤ actual_nodes a
item_few (actual e) = omega arith
item_few (actual_width e w) = omega arith

before_last_few : (ss : SelectorTrees) → selectors_nodes (before_last ss) ≤ selectors_nodes ss
before_last_few no_selectors = omega arith
before_last_few (more_selectors s no_selectors) = omega arith
before_last_few (more_selectors s (more_selectors t ss)) = let rest = before_last_few (more_selectors t ss) in omega (arith, rest)

-- ## Output and input

writing : (x : Simple) (w : ℕ) → way (write_instr x w) ≡ on
writing Integer w = refl
writing Boolean w = refl
writing Char w = refl

reading : (x : Simple) → way (read_instr x) ≡ on
reading Integer = refl
reading Boolean = refl
reading Char = refl

a_plain_item : (s : Site) (x : Option Text) (e : ExprTree) → Short (plain_item s x e) (2 * inside e + 1)
a_plain_item s None e =
    let t = simple_of (expr_type s.env e) in both (expr s e) (lone s (write_instr t 0) (writing t 0))
a_plain_item s (Some x) e = more (a_string s x 0) (omega arith)

a_wide_item : (s : Site) (x : Option Text) (e w : ExprTree) → Short (wide_item s x e w) (2 * inside e + 2 * inside w + 1)
a_wide_item s None e w =
    let t = simple_of (expr_type s.env e) in more (both (expr s e) (both (expr s w) (lone s (write_instr t 1) (writing t 1)))) (omega arith)
a_wide_item s (Some x) e w = more (both (expr s w) (a_string s x 1)) (omega arith)

an_item : (s : Site) (a : ActualTree) → Short (item_code s a) (2 * actual_nodes a)
an_item s (actual e) = let room = inside_is e in more (a_plain_item s (as_string e) e) (omega (arith, room))
an_item s (actual_width e w) =
    let room = inside_is e in let more_room = inside_is w in more (a_wide_item s (as_string e) e w) (omega (arith, room, more_room))

writes : (s : Site) (args : ActualTrees) (newline : Bool) → Short (writes_code s args newline) (2 * actuals_nodes args + 1)
writes s no_actuals newline = more (one_of newline (one s WRNL) nothing 0 1 (lone s WRNL refl) (more no_code (omega arith))) (omega arith)
writes s (more_actuals a rest) newline = more (both (an_item s a) (writes s rest newline)) (omega arith)

an_input : (s : Site) (d : Option DesigTree) → Short (input_code s d) (2 * named_nodes d + 1)
an_input s None = more no_code (omega arith)
an_input s (Some d) = let t = simple_of (desig_type s.env d) in both (designated s d) (lone s (read_instr t) (reading t))

reads : (s : Site) (args : ActualTrees) (skip : Bool) → Short (reads_code s args skip) (2 * actuals_nodes args + 1)
reads s no_actuals skip = more (one_of skip (one s RDNL) nothing 0 1 (lone s RDNL refl) (more no_code (omega arith))) (omega arith)
reads s (more_actuals a rest) skip =
    let few = named_few (item_of a) in
    let item = item_few a in
    more (both (an_input s (as_desig (item_of a))) (reads s rest skip)) (omega (arith, few, item))

-- ## Predeclared procedures

given : (s : Site) (e : Option ExprTree) → Short (given_code s e) (2 * given_nodes e)
given s None = no_code
given s (Some e) = let room = inside_is e in more (expr s e) (omega (arith, room))

a_rank : (s : Site) (e : Option ExprTree) → Short (rank_code s e) (1 + 2 * given_nodes e)
a_rank s None = lone s (LIT (pos 0)) refl
a_rank s (Some e) = let room = inside_is e in more (expr s e) (omega (arith, room))

-- the first argument as an object, and something of the second
with_second :
    (s : Site) (args : ActualTrees) (c : Code) (i : Instr) → way i ≡ on → Short c (1 + 2 * given_nodes (expr_of (behind_first args)))
    → Short (first_object s args ⨾ c ⨾ one s i) (2 * actuals_nodes args + 3)
with_second s no_actuals c i h p = more (both (both (an_address s no_actuals) (lone s OBJ refl)) (both p (lone s i h))) (omega arith)
with_second s (more_actuals a no_actuals) c i h p =
    more (both (both (an_address s (more_actuals a no_actuals)) (lone s OBJ refl)) (both p (lone s i h))) (omega arith)
with_second s (more_actuals a (more_actuals b rest)) c i h p =
    let item = item_few b in
    more
    (both (both (an_address s (more_actuals a no_actuals)) (lone s OBJ refl)) (both p (lone s i h)))
    (omega (arith, item))

of_object : (s : Site) (args : ActualTrees) (i : Instr) → way i ≡ on → Short (first_object s args ⨾ one s i) (2 * actuals_nodes args + 3)
of_object s args i h = more (both (both (an_address s args) (lone s OBJ refl)) (lone s i h)) (omega arith)

a_procedure : (s : Site) (p : Procedure) (args : ActualTrees) → Short (procedure_code s p args) (2 * actuals_nodes args + 3)
a_procedure s (reader skip) args = more (reads s args skip) (omega arith)
a_procedure s (writer newline) args = more (writes s args newline) (omega arith)
a_procedure s initial args =
    with_second s args (given_code s (expr_of (behind_first args))) SINI refl (more (given s (expr_of (behind_first args))) (omega arith))
a_procedure s wait args = of_object s args SWAIT refl
a_procedure s signal args = of_object s args SSIG refl
a_procedure s delay args = with_second s args (rank_code s (expr_of (behind_first args))) DELAY refl (a_rank s (expr_of (behind_first args)))
a_procedure s resume args = of_object s args RESUME refl
a_procedure s sleep args = more (both (a_value s args) (lone s SLEEP refl)) (omega arith)
a_procedure s no_procedure args = more no_code (omega arith)

-- ## Subs and modules

entering : (resource : Bool) (m b : ℕ) → way (enter_instr resource m b) ≡ on
entering true m b = refl
entering false m b = refl

a_sub : (s : Site) (n : ℕ) (args : ActualTrees) → Short (sub_code s n args) (2 * actuals_nodes args + 1)
a_sub s n args =
    let formals = (sub_at (blocks_of s) n).formals in a_sub_call s n (args_code s formals args) (2 * actuals_nodes args) (arguments s formals args)

exported : (s : Site) (n : ℕ) (x : Option Meaning) (args : ActualTrees) → Short (exported_code s n x args) (2 * actuals_nodes args + 1)
exported s n None args = more no_code (omega arith)
exported s n (Some (Constant t v)) args = more no_code (omega arith)
exported s n (Some (Named t)) args = more no_code (omega arith)
exported s n (Some (Variable t reference)) args = more no_code (omega arith)
exported s n (Some (Sub p)) args =
    let head = sub_at (blocks_of s) p in
    let resource = (module_at (blocks_of s) n).resource in
    let number = module_number (blocks_of s) n in
    both (arguments s head.formals args)
    (lone s (enter_instr resource number (block_number s.program head.scope)) (entering resource number (block_number s.program head.scope)))
exported s n (Some (Module p)) args = more no_code (omega arith)
exported s n (Some (Process p)) args = more no_code (omega arith)
exported s n (Some (Entry p)) args = more no_code (omega arith)
exported s n (Some (Predeclared p)) args = more no_code (omega arith)
exported s n (Some Faulty) args = more no_code (omega arith)

of_module : (s : Site) (n : ℕ) (x : Option (Text × Place)) (args : ActualTrees) → Short (module_code s n x args) (2 * actuals_nodes args + 1)
of_module s n None args = more no_code (omega arith)
of_module s n (Some x) args = exported s n (meaning_in (scope_at (blocks_of s).scopes (module_at (blocks_of s) n).scope) x.0) args

pub requeued : (s : Site) (x : Option Meaning) (args : ActualTrees) → Short (requeue_code s x args) (2 * actuals_nodes args + 1)
requeued s None args = more no_code (omega arith)
requeued s (Some (Constant t v)) args = more no_code (omega arith)
requeued s (Some (Named t)) args = more no_code (omega arith)
requeued s (Some (Variable t reference)) args = more no_code (omega arith)
requeued s (Some (Sub n)) args =
    let head = sub_at (blocks_of s) n in
    both (arguments s head.formals args) (lone s (REQ (resource_of s) (block_number s.program head.scope)) refl)
requeued s (Some (Module p)) args = more no_code (omega arith)
requeued s (Some (Process p)) args = more no_code (omega arith)
requeued s (Some (Entry p)) args = more no_code (omega arith)
requeued s (Some (Predeclared p)) args = more no_code (omega arith)
requeued s (Some Faulty) args = more no_code (omega arith)

-- ## Processes and entries

an_activation : (s : Site) (n : ℕ) (c : Code) (k : ℕ) (args : ActualTrees) → Short c k → Short (activation_code s n c args) (k + 2 * actuals_nodes args + 2)
an_activation s n c k args p =
    let head = process_at (blocks_of s) n in
    more (both p (both (lone s OBJ refl) (both (arguments s head.formals args) (lone s (NEW (block_number s.program head.scope)) refl)))) (omega arith)

an_entry :
    (s : Site) (n : ℕ) (x : Option Meaning) (c : Code) (k : ℕ) (args : ActualTrees) → Short c k
    → Short (entry_code s n x c args) (k + 2 * actuals_nodes args + 2)
an_entry s n None c k args p = more no_code (omega arith)
an_entry s n (Some (Constant t v)) c k args p = more no_code (omega arith)
an_entry s n (Some (Named t)) c k args p = more no_code (omega arith)
an_entry s n (Some (Variable t reference)) c k args p = more no_code (omega arith)
an_entry s n (Some (Sub q)) c k args p = more no_code (omega arith)
an_entry s n (Some (Module q)) c k args p = more no_code (omega arith)
an_entry s n (Some (Process q)) c k args p = more no_code (omega arith)
an_entry s n (Some (Entry e)) c k args p =
    let formals = entry_at (blocks_of s) n e in
    more (both p (both (lone s OBJ refl) (both (arguments s formals args) (lone s (ECALL e (formals_cells (forms_of s) formals)) refl)))) (omega arith)
an_entry s n (Some (Predeclared q)) c k args p = more no_code (omega arith)
an_entry s n (Some Faulty) c k args p = more no_code (omega arith)

a_process : (s : Site) (n : Option ℕ) (c : Code) (k : ℕ) (args : ActualTrees) → Short c k → Short (process_code s n c args) (k + 2 * actuals_nodes args + 2)
a_process s None c k args p = more no_code (omega arith)
a_process s (Some n) c k args p = an_activation s n c k args p

-- a call with selectors and arguments
abbrev Called : Code → SelectorTrees → ActualTrees → Type 0
Called c ss args = Short c (2 * selectors_nodes ss + 2 * actuals_nodes args + 3)

a_field :
    (s : Site) (found : Found) (ss : SelectorTrees) (t : Option TypeId) (n : Option ℕ) (x : Text) (args : ActualTrees)
    → Called (field_code s found ss t n x args) ss args
a_field s found ss t None x args =
    more
    (a_process s (process_of_type s.env (selected s.env t ss)) (address_code s (Some found) ss) (1 + 2 * selectors_nodes ss) args
    (address s (Some found) ss)) (omega arith)
a_field s found ss t (Some n) x args =
    let few = before_last_few ss in
    more
    (an_entry s n (name_in_process (blocks_of s) n x) (address_code s (Some found) (before_last ss)) (1 + 2 * selectors_nodes (before_last ss)) args
    (address s (Some found) (before_last ss))) (omega (arith, few))

called_at :
    (s : Site) (found : Found) (ss : SelectorTrees) (t : TypeId) (x : Option (Text × Place)) (args : ActualTrees)
    → Called (called_variable s found ss t x args) ss args
called_at s found ss t None args =
    more
    (a_process s (process_of_type s.env (selected s.env (Some t) ss)) (address_code s (Some found) ss) (1 + 2 * selectors_nodes ss) args
    (address s (Some found) ss)) (omega arith)
called_at s found ss t (Some x) args = a_field s found ss (Some t) (process_of_type s.env (selected s.env (Some t) (before_last ss))) x.0 args

called_single :
    (s : Site) (found : Found) (n : ℕ) (x : Option (Text × Place)) (ss : SelectorTrees) (args : ActualTrees)
    → Called (called_process s found n x args) ss args
called_single s found n None ss args =
    more (an_activation s n (address_code s (Some found) no_selectors) 1 args (address s (Some found) no_selectors)) (omega arith)
called_single s found n (Some x) ss args =
    more
    (an_entry s n (name_in_process (blocks_of s) n x.0) (address_code s (Some found) no_selectors) 1 args (address s (Some found) no_selectors))
    (omega arith)

-- ## A name that is called

called : (s : Site) (found : Found) (x : Meaning) (ss : SelectorTrees) (args : ActualTrees) → Called (called_code s found x ss args) ss args
called s found (Constant t v) ss args = more no_code (omega arith)
called s found (Named t) ss args = more no_code (omega arith)
called s found (Variable t reference) ss args = called_at s found ss t (last_field ss) args
called s found (Sub n) ss args = more (a_sub s n args) (omega arith)
called s found (Module n) ss args = more (of_module s n (last_field ss) args) (omega arith)
called s found (Process n) ss args = called_single s found n (last_field ss) ss args
called s found (Entry n) ss args = more no_code (omega arith)
called s found (Predeclared n) ss args = more (a_procedure s (procedure_of n) args) (omega arith)
called s found Faulty ss args = more no_code (omega arith)

called_name : (s : Site) (found : Option Found) (ss : SelectorTrees) (args : ActualTrees) → Called (found_code s found ss args) ss args
called_name s None ss args = more no_code (omega arith)
called_name s (Some found) ss args = called s found found.meaning ss args

pub a_call : (s : Site) (d : DesigTree) (args : ActualTrees) → Short (call_code s d args) (2 * desig_nodes d + 2 * actuals_nodes args + 1)
a_call s (desig x ss p) args = more (called_name s (find s.env x) ss args) (omega arith)

-- ## Assignment and communication

pub assigned : (s : Site) (d : DesigTree) (e : ExprTree) → Short (assign_code s d e) (2 * desig_nodes d + 2 * expr_nodes e)
assigned s d e =
    let room = inside_is e in
    more (both (designated s d) (both (expr s e) (stopped s (STORE (type_cells (forms_of s) (expr_type s.env e))) 0 refl))) (omega (arith, room))

-- of a message or a variable there is at most what is written
message_some : (r : Bool) (s : Site) (e : ExprTree) → Short (message_code s (cond r None (Some e))) (2 * inside e)
message_some true s e = more no_code (omega arith)
message_some false s e = expr s e

pub a_message : (s : Site) (e : ExprTree) → Short (message_code s (message_of (context_of s) e)) (2 * inside e)
a_message s e = message_some (names_any s.env (as_desig e)) s e

receiver_some : (r : Bool) (s : Site) (d : DesigTree) → Short (receiver_code s (cond r None (Some d))) (2 * desig_nodes d)
receiver_some true s d = more no_code (omega arith)
receiver_some false s d = designated s d

pub a_receiver : (s : Site) (d : DesigTree) → Short (receiver_code s (receiver_of (context_of s) d)) (2 * desig_nodes d)
a_receiver s d = receiver_some (names_any s.env (Some d)) s d

pub sent : (s : Site) (d : DesigTree) (e : ExprTree) → Short (send_code s d e) (2 * desig_nodes d + 2 * expr_nodes e)
sent s d e =
    let room = inside_is e in
    more
    (both (an_object s d) (both (a_message s e) (lone s (SEND (message_cells s (message_of (context_of s) e))) refl)))
    (omega (arith, room))

pub received : (s : Site) (d v : DesigTree) → Short (receive_code s d v) (2 * desig_nodes d + 2 * desig_nodes v + 1)
received s d v =
    more
    (both (an_object s d) (both (a_receiver s v) (lone s (RECV (receiver_cells s (receiver_of (context_of s) v))) refl)))
    (omega arith)
