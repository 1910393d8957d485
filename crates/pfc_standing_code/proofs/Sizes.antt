-- The code of every phrase has as many instructions as it says: by induction over the phrases.
use Rattle.std.proofs.Common.{ℕ, ◌+◌, ◌-◌, Bool, true, false, if◌then◌else◌, List, [], ◌∷◌, length, drop, Option, Some, None, refl, ap, ap₂, ◌∙◌, length-append}
use Rattle.pfc_base.specs.declared.places.Place.{Place}
use Rattle.pfc_code.specs.declared.instructions.Instr.{Instr}
use Rattle.pfc_code.specs.declared.instructions.Instr.TheVariants.{STORE, OBJ, NOT, JMP, JF, TURN, FORB, FORW, FORT, CEQ, CERR, NEW, SEND, RECV, ECALL, EACC}
use Rattle.pfc_code.specs.declared.instructions.Instr.TheVariants.{ARMS, ARMR, ARMT, COEND, SINI, SWAIT, SSIG, DELAY, RESUME, SLEEP, WRNL, RDNL, REQ}
use Rattle.pfc_tree.specs.Symbols.{Text}
use Rattle.pfc_tree.specs.declared.tree.Constant.{Constant}
use Rattle.pfc_tree.specs.declared.tree.Spread.{Spread}
use Rattle.pfc_tree.specs.trees.Exprs.{ExprTree, DesigTree, SelectorTrees, ActualTree, ActualTrees, desig, no_selectors, actual, actual_width, no_actuals}
use Rattle.pfc_tree.specs.trees.Exprs.{more_actuals}
use Rattle.pfc_tree.specs.trees.Stmts.{StmtTree, StmtTrees, ArmTrees, AcceptTree, AltTree, AltTrees, CommTree, empty, null, block, if_then, if_then_else}
use Rattle.pfc_tree.specs.trees.Stmts.{case_of, while_do, repeat_until, repeat_forever, for_do, cobegin, accepting, requeue, select, select_else, assign, send}
use Rattle.pfc_tree.specs.trees.Stmts.{receive, call, no_stmts, more_stmts, body, arm, no_arms, more_arms, accept, accept_do, alt, no_alts, more_alts}
use Rattle.pfc_tree.specs.trees.Stmts.{comm_accept, comm_send, comm_receive, timeout, terminate}
use Rattle.pfc_types.specs.Blocks.{sub_at, module_at, process_at, entry_at}
use Rattle.pfc_types.specs.Scopes.{meaning_of, meaning_in, scope_at}
use Rattle.pfc_types.specs.rules.Constants.{constant_value}
use Rattle.pfc_types.specs.rules.Expressions.{find, as_desig, expr_type, desig_type, selected}
use Rattle.pfc_types.specs.rules.Calls.{last_field, before_last}
use Rattle.pfc_types.specs.rules.Statements.{scopes_in, arm_scopes, comm_scopes, alt_scopes, alts_scopes}
use Rattle.pfc_types.specs.declared.types.TypeId.{TypeId}
use Rattle.pfc_types.specs.declared.scope.Meaning.{Meaning}
use Rattle.pfc_types.specs.declared.scope.Meaning.TheVariants.{Constant as AConstant, Named, Variable, Sub, Module, Process, Entry, Predeclared, Faulty}
use Rattle.pfc_types.specs.declared.heads.Formal.{Formal}
use Rattle.pfc_types.specs.declared.view.Found.{Found}
use Rattle.pfc_semantics.specs.Displays.{Spot}
use Rattle.pfc_semantics.specs.Objects.{module_number}
use Rattle.pfc_semantics.specs.Operators.{simple_of}
use Rattle.pfc_semantics.specs.Predeclared.{Procedure, reader, writer, initial, wait, signal, delay, resume, sleep, no_procedure, procedure_of}
use Rattle.pfc_semantics.specs.Programs.{block_number}
use Rattle.pfc_semantics.specs.Remainders.{Replica, Alternative}
use Rattle.pfc_semantics.specs.Alternatives.{alternatives, message_of, receiver_of}
use Rattle.pfc_semantics.specs.Expressions.{spot_of}
use Rattle.pfc_semantics.specs.Statements.{as_string, item_of, expr_of, behind_first, name_in_process, process_of_type}
use Rattle.pfc_translation.specs.Sites.{Site, at_line, in_accept, context_of, forms_of, blocks_of, type_cells}
use Rattle.pfc_translation.specs.Codes.{Code, nothing, ◌⨾◌, instruction, one, over, back as to_back, string}
use Rattle.pfc_translation.specs.Addresses.{base_code}
use Rattle.pfc_translation.specs.Expressions.{expr_code, args_code, address_code, desig_code, object_code, selectors_code, first_value, first_address}
use Rattle.pfc_translation.specs.Expressions.{call_instr}
use Rattle.pfc_translation.specs.Calls.{write_instr, plain_item, wide_item, item_code, writes_code, read_instr, input_code, reads_code, given_code, rank_code}
use Rattle.pfc_translation.specs.Calls.{first_object, procedure_code, enter_instr, exported_code, module_code, resource_of, requeue_code, activation_code}
use Rattle.pfc_translation.specs.Calls.{formals_cells, entry_code, process_code, field_code, called_variable, called_process, called_code, found_code}
use Rattle.pfc_translation.specs.Calls.{call_code}
use Rattle.pfc_translation.specs.Selects.{message_code, message_cells, receiver_code, receiver_cells, accept_code, replica_code, comm_code, guarded_code}
use Rattle.pfc_translation.specs.Selects.{alternative_code, first_of, alternatives_code}
use Rattle.pfc_translation.specs.Statements.{assign_code, label_of, labels_code, label_count, spread_replicas, chosen_code, sel_code, select_code, stmt_code}
use Rattle.pfc_translation.specs.Statements.{stmts_code, tests_code, arms_code, accepted_code, met_code, branch_code, branches_code, distances}
use Rattle.pfc_code_laws.specs.Plain.{IsPlain}
use Rattle.pfc_code_laws.proofs.Expressions.{plain_expr, plain_args, plain_selectors, plain_first, plain_first_address}
use Rattle.pfc_standing_code.specs.Sizes.{IsSized}

pub sized_plain : (c : Code) → IsPlain c → IsSized c
sized_plain c p at n = ap length (p.0 at n) ∙ p.1.0

pub sized_both : (a b : Code) → IsSized a → IsSized b → IsSized (a ⨾ b)
sized_both a b p q at n = length-append (a.put at n) (b.put (at + a.size) (n + length a.texts)) ∙
    ap₂ (λ x y. x + y) (p at n) (q (at + a.size) (n + length a.texts))

pub sized_instruction : (s : Site) (i : ℕ → ℕ → Instr) → IsSized (instruction s i)
sized_instruction s i at n = refl

pub sized_nothing : IsSized nothing
sized_nothing at n = refl

-- code and an instruction behind it
pub sized_then : (s : Site) (a : Code) (i : ℕ → ℕ → Instr) → IsSized a → IsSized (a ⨾ instruction s i)
sized_then s a i p = sized_both a (instruction s i) p (sized_instruction s i)

-- an instruction and code behind it
pub sized_first : (s : Site) (i : ℕ → ℕ → Instr) (a : Code) → IsSized a → IsSized (instruction s i ⨾ a)
sized_first s i a p = sized_both (instruction s i) a (sized_instruction s i) p

-- ## Expressions

pub sized_expr : (s : Site) (e : ExprTree) → IsSized (expr_code s e)
sized_expr s e = sized_plain (expr_code s e) (plain_expr s e)

pub sized_args : (s : Site) (formals : List Formal) (args : ActualTrees) → IsSized (args_code s formals args)
sized_args s formals args = sized_plain (args_code s formals args) (plain_args s formals args)

pub sized_base : (s : Site) (v : Spot) → IsSized (base_code s v)
sized_base s v at n = refl

pub sized_address : (s : Site) (found : Option Found) (ss : SelectorTrees) → IsSized (address_code s found ss)
sized_address s found ss =
    let v = spot_of s.env found in
    sized_both (base_code s v.spot) (selectors_code s v.t ss) (sized_base s v.spot) (sized_plain (selectors_code s v.t ss) (plain_selectors s v.t ss))

pub sized_desig : (s : Site) (d : DesigTree) → IsSized (desig_code s d)
sized_desig s (desig x ss p) = sized_address s (find s.env x) ss

pub sized_object : (s : Site) (d : DesigTree) → IsSized (object_code s d)
sized_object s d = sized_then s (desig_code s d) (λ at n. OBJ) (sized_desig s d)

pub sized_value : (s : Site) (args : ActualTrees) → IsSized (first_value s args)
sized_value s args = sized_plain (first_value s args) (plain_first s args)

pub sized_first_object : (s : Site) (args : ActualTrees) → IsSized (first_object s args)
sized_first_object s args = sized_then s (first_address s args) (λ at n. OBJ) (sized_plain (first_address s args) (plain_first_address s args))

-- ## Calls

sized_plain_item : (s : Site) (x : Option Text) (e : ExprTree) → IsSized (plain_item s x e)
sized_plain_item s None e = sized_then s (expr_code s e) (λ at n. write_instr (simple_of (expr_type s.env e)) 0) (sized_expr s e)
sized_plain_item s (Some x) e = λ at n. refl

sized_wide_item : (s : Site) (x : Option Text) (e w : ExprTree) → IsSized (wide_item s x e w)
sized_wide_item s None e w =
    let i = λ (at n : ℕ). write_instr (simple_of (expr_type s.env e)) 1 in
    sized_both (expr_code s e) (expr_code s w ⨾ instruction s i) (sized_expr s e) (sized_then s (expr_code s w) i (sized_expr s w))
sized_wide_item s (Some x) e w = sized_both (expr_code s w) (string s x 1) (sized_expr s w) (λ at n. refl)

pub sized_item : (s : Site) (a : ActualTree) → IsSized (item_code s a)
sized_item s (actual e) = sized_plain_item s (as_string e) e
sized_item s (actual_width e w) = sized_wide_item s (as_string e) e w

if_so : (b : Bool) (s : Site) (i : Instr) → IsSized (if b then one s i else nothing)
if_so true s i at n = refl
if_so false s i at n = refl

pub sized_writes : (s : Site) (args : ActualTrees) (newline : Bool) → IsSized (writes_code s args newline)
sized_writes s no_actuals newline = if_so newline s WRNL
sized_writes s (more_actuals a rest) newline = sized_both (item_code s a) (writes_code s rest newline) (sized_item s a) (sized_writes s rest newline)

pub sized_input : (s : Site) (d : Option DesigTree) → IsSized (input_code s d)
sized_input s None = sized_nothing
sized_input s (Some d) = sized_then s (desig_code s d) (λ at n. read_instr (simple_of (desig_type s.env d))) (sized_desig s d)

pub sized_reads : (s : Site) (args : ActualTrees) (skip : Bool) → IsSized (reads_code s args skip)
sized_reads s no_actuals skip = if_so skip s RDNL
sized_reads s (more_actuals a rest) skip =
    sized_both (input_code s (as_desig (item_of a))) (reads_code s rest skip) (sized_input s (as_desig (item_of a))) (sized_reads s rest skip)

sized_given : (s : Site) (e : Option ExprTree) → IsSized (given_code s e)
sized_given s None = sized_nothing
sized_given s (Some e) = sized_expr s e

pub sized_rank : (s : Site) (e : Option ExprTree) → IsSized (rank_code s e)
sized_rank s None = λ at n. refl
sized_rank s (Some e) = sized_expr s e

-- an object, something behind it, and an instruction
object_with : (s : Site) (args : ActualTrees) (a : Code) (i : Instr) → IsSized a → IsSized (first_object s args ⨾ a ⨾ one s i)
object_with s args a i p = sized_both (first_object s args) (a ⨾ one s i) (sized_first_object s args) (sized_then s a (λ at n. i) p)

pub sized_procedure : (s : Site) (p : Procedure) (args : ActualTrees) → IsSized (procedure_code s p args)
sized_procedure s (reader skip) args = sized_reads s args skip
sized_procedure s (writer newline) args = sized_writes s args newline
sized_procedure s initial args = object_with s args (given_code s (expr_of (behind_first args))) SINI (sized_given s (expr_of (behind_first args)))
sized_procedure s wait args = sized_then s (first_object s args) (λ at n. SWAIT) (sized_first_object s args)
sized_procedure s signal args = sized_then s (first_object s args) (λ at n. SSIG) (sized_first_object s args)
sized_procedure s delay args = object_with s args (rank_code s (expr_of (behind_first args))) DELAY (sized_rank s (expr_of (behind_first args)))
sized_procedure s resume args = sized_then s (first_object s args) (λ at n. RESUME) (sized_first_object s args)
sized_procedure s sleep args = sized_then s (first_value s args) (λ at n. SLEEP) (sized_value s args)
sized_procedure s no_procedure args = sized_nothing

args_then : (s : Site) (formals : List Formal) (args : ActualTrees) (i : Instr) → IsSized (args_code s formals args ⨾ one s i)
args_then s formals args i = sized_then s (args_code s formals args) (λ at n. i) (sized_args s formals args)

sized_exported : (s : Site) (n : ℕ) (m : Option Meaning) (args : ActualTrees) → IsSized (exported_code s n m args)
sized_exported s n None args = sized_nothing
sized_exported s n (Some (Sub p)) args =
    args_then s (sub_at (blocks_of s) p).formals args (enter_instr (module_at (blocks_of s) n).resource (module_number (blocks_of s) n)
    (block_number s.program (sub_at (blocks_of s) p).scope))
sized_exported s n (Some (AConstant t v)) args = sized_nothing
sized_exported s n (Some (Named t)) args = sized_nothing
sized_exported s n (Some (Variable t r)) args = sized_nothing
sized_exported s n (Some (Module k)) args = sized_nothing
sized_exported s n (Some (Process k)) args = sized_nothing
sized_exported s n (Some (Entry k)) args = sized_nothing
sized_exported s n (Some (Predeclared k)) args = sized_nothing
sized_exported s n (Some Faulty) args = sized_nothing

sized_module : (s : Site) (n : ℕ) (x : Option (Text × Place)) (args : ActualTrees) → IsSized (module_code s n x args)
sized_module s n None args = sized_nothing
sized_module s n (Some x) args = sized_exported s n (meaning_in (scope_at (blocks_of s).scopes (module_at (blocks_of s) n).scope) x.0) args

pub sized_requeue : (s : Site) (m : Option Meaning) (args : ActualTrees) → IsSized (requeue_code s m args)
sized_requeue s None args = sized_nothing
sized_requeue s (Some (Sub n)) args =
    args_then s (sub_at (blocks_of s) n).formals args (REQ (resource_of s) (block_number s.program (sub_at (blocks_of s) n).scope))
sized_requeue s (Some (AConstant t v)) args = sized_nothing
sized_requeue s (Some (Named t)) args = sized_nothing
sized_requeue s (Some (Variable t r)) args = sized_nothing
sized_requeue s (Some (Module k)) args = sized_nothing
sized_requeue s (Some (Process k)) args = sized_nothing
sized_requeue s (Some (Entry k)) args = sized_nothing
sized_requeue s (Some (Predeclared k)) args = sized_nothing
sized_requeue s (Some Faulty) args = sized_nothing

-- a process, arguments, and an instruction
process_with : (s : Site) (address : Code) (formals : List Formal) (args : ActualTrees) (i : Instr) → IsSized address →
    IsSized (address ⨾ one s OBJ ⨾ args_code s formals args ⨾ one s i)
process_with s address formals args i p =
    sized_both address (one s OBJ ⨾ args_code s formals args ⨾ one s i) p
    (sized_first s (λ at n. OBJ) (args_code s formals args ⨾ one s i) (args_then s formals args i))

sized_activation : (s : Site) (n : ℕ) (address : Code) (args : ActualTrees) → IsSized address → IsSized (activation_code s n address args)
sized_activation s n address args p =
    process_with s address (process_at (blocks_of s) n).formals args (NEW (block_number s.program (process_at (blocks_of s) n).scope)) p

sized_entry : (s : Site) (n : ℕ) (m : Option Meaning) (address : Code) (args : ActualTrees) → IsSized address → IsSized (entry_code s n m address args)
sized_entry s n None address args p = sized_nothing
sized_entry s n (Some (Entry e)) address args p =
    process_with s address (entry_at (blocks_of s) n e) args (ECALL e (formals_cells (forms_of s) (entry_at (blocks_of s) n e))) p
sized_entry s n (Some (AConstant t v)) address args p = sized_nothing
sized_entry s n (Some (Named t)) address args p = sized_nothing
sized_entry s n (Some (Variable t r)) address args p = sized_nothing
sized_entry s n (Some (Sub k)) address args p = sized_nothing
sized_entry s n (Some (Module k)) address args p = sized_nothing
sized_entry s n (Some (Process k)) address args p = sized_nothing
sized_entry s n (Some (Predeclared k)) address args p = sized_nothing
sized_entry s n (Some Faulty) address args p = sized_nothing

sized_process : (s : Site) (n : Option ℕ) (address : Code) (args : ActualTrees) → IsSized address → IsSized (process_code s n address args)
sized_process s None address args p = sized_nothing
sized_process s (Some n) address args p = sized_activation s n address args p

sized_field : (s : Site) (found : Found) (ss : SelectorTrees) (t : Option TypeId) (n : Option ℕ) (x : Text) (args : ActualTrees) →
    IsSized (field_code s found ss t n x args)
sized_field s found ss t None x args =
    sized_process s (process_of_type s.env (selected s.env t ss)) (address_code s (Some found) ss) args (sized_address s (Some found) ss)
sized_field s found ss t (Some n) x args =
    sized_entry s n (name_in_process (blocks_of s) n x) (address_code s (Some found) (before_last ss)) args (sized_address s (Some found) (before_last ss))

sized_variable : (s : Site) (found : Found) (ss : SelectorTrees) (t : TypeId) (x : Option (Text × Place)) (args : ActualTrees) →
    IsSized (called_variable s found ss t x args)
sized_variable s found ss t None args =
    sized_process s (process_of_type s.env (selected s.env (Some t) ss)) (address_code s (Some found) ss) args (sized_address s (Some found) ss)
sized_variable s found ss t (Some x) args = sized_field s found ss (Some t) (process_of_type s.env (selected s.env (Some t) (before_last ss))) x.0 args

sized_single : (s : Site) (found : Found) (n : ℕ) (x : Option (Text × Place)) (args : ActualTrees) → IsSized (called_process s found n x args)
sized_single s found n None args = sized_activation s n (address_code s (Some found) no_selectors) args (sized_address s (Some found) no_selectors)
sized_single s found n (Some x) args =
    sized_entry s n (name_in_process (blocks_of s) n x.0) (address_code s (Some found) no_selectors) args (sized_address s (Some found) no_selectors)

sized_called : (s : Site) (found : Found) (m : Meaning) (ss : SelectorTrees) (args : ActualTrees) → IsSized (called_code s found m ss args)
sized_called s found (Predeclared n) ss args = sized_procedure s (procedure_of n) args
sized_called s found (Sub n) ss args = args_then s (sub_at (blocks_of s) n).formals args (call_instr s (sub_at (blocks_of s) n))
sized_called s found (Module n) ss args = sized_module s n (last_field ss) args
sized_called s found (Process n) ss args = sized_single s found n (last_field ss) args
sized_called s found (Variable t r) ss args = sized_variable s found ss t (last_field ss) args
sized_called s found (AConstant t v) ss args = sized_nothing
sized_called s found (Named t) ss args = sized_nothing
sized_called s found (Entry k) ss args = sized_nothing
sized_called s found Faulty ss args = sized_nothing

sized_found : (s : Site) (found : Option Found) (ss : SelectorTrees) (args : ActualTrees) → IsSized (found_code s found ss args)
sized_found s None ss args = sized_nothing
sized_found s (Some found) ss args = sized_called s found found.meaning ss args

pub sized_call : (s : Site) (d : DesigTree) (args : ActualTrees) → IsSized (call_code s d args)
sized_call s (desig x ss p) args = sized_found s (find s.env x) ss args

-- ## Communication

pub sized_message : (s : Site) (m : Option ExprTree) → IsSized (message_code s m)
sized_message s None = sized_nothing
sized_message s (Some e) = sized_expr s e

pub sized_receiver : (s : Site) (d : Option DesigTree) → IsSized (receiver_code s d)
sized_receiver s None = sized_nothing
sized_receiver s (Some d) = sized_desig s d

sized_send : (s : Site) (d : DesigTree) (m : Option ExprTree) (i : ℕ → ℕ → Instr) → IsSized (object_code s d ⨾ message_code s m ⨾ instruction s i)
sized_send s d m i = sized_both (object_code s d) (message_code s m ⨾ instruction s i) (sized_object s d)
    (sized_then s (message_code s m) i (sized_message s m))

sized_receive : (s : Site) (d : DesigTree) (r : Option DesigTree) (i : ℕ → ℕ → Instr) → IsSized (object_code s d ⨾ receiver_code s r ⨾ instruction s i)
sized_receive s d r i = sized_both (object_code s d) (receiver_code s r ⨾ instruction s i) (sized_object s d)
    (sized_then s (receiver_code s r) i (sized_receiver s r))

-- ## Alternatives

pub sized_replica : (s : Site) (r : Option Replica) → IsSized (replica_code s r)
sized_replica s None = sized_nothing
sized_replica s (Some r) = λ at n. refl

pub sized_comm : (s : Site) (n : ℕ) (comm : CommTree) (branch : ℕ) → IsSized (comm_code s n comm branch)
sized_comm s n (comm_accept a p) branch = λ at k. refl
sized_comm s n (comm_send d e p) branch = let m = message_of (context_of s) e in sized_send s d m (λ at k. ARMS (message_cells s m) (at + 1 + branch))
sized_comm s n (comm_receive d v p) branch = let r = receiver_of (context_of s) v in sized_receive s d r (λ at k. ARMR (receiver_cells s r) (at + 1 + branch))
sized_comm s n (timeout e p) branch = sized_then s (expr_code s e) (λ at k. ARMT (at + 1 + branch)) (sized_expr s e)
sized_comm s n (terminate p) branch = λ at k. refl

pub sized_guarded : (s : Site) (guard : Option ExprTree) (inner : Code) → IsSized inner → IsSized (guarded_code s guard inner)
sized_guarded s None inner p = p
sized_guarded s (Some e) inner p =
    sized_both (expr_code s e) (over s JF inner.size ⨾ inner) (sized_expr s e) (sized_first s (λ at n. JF (at + 1 + inner.size)) inner p)

pub sized_alternative : (s : Site) (a : Alternative) (branch : ℕ) → IsSized (alternative_code s a branch)
sized_alternative s a branch =
    let inner = comm_code s a.next a.comm branch in
    sized_both (replica_code s a.replica) (guarded_code s a.guard inner) (sized_replica s a.replica)
    (sized_guarded s a.guard inner (sized_comm s a.next a.comm branch))

pub sized_alternatives : (s : Site) (alts : List Alternative) (branches : List ℕ) → IsSized (alternatives_code s alts branches)
sized_alternatives s [] branches = sized_nothing
sized_alternatives s (a ∷ rest) branches =
    let behind = alternatives_code s rest (drop 1 branches) in
    let branch = behind.size + 1 + first_of branches in
    sized_both (alternative_code s a branch) behind (sized_alternative s a branch) (sized_alternatives s rest (drop 1 branches))

pub sized_chosen : (s : Site) (rs : List Replica) → IsSized (chosen_code s rs)
sized_chosen s [] = sized_nothing
sized_chosen s (r ∷ rs) =
    let rest = chosen_code s rs in
    sized_both (replica_code s (Some r)) (over s JMP rest.size ⨾ rest) (sized_replica s (Some r))
    (sized_first s (λ at n. JMP (at + 1 + rest.size)) rest (sized_chosen s rs))

pub sized_sel : (s : Site) (pri : Bool) (count : Option ℕ) → IsSized (sel_code s pri count)
sized_sel s pri None at n = refl
sized_sel s pri (Some count) at n = refl

sized_select :
    (s : Site) (pri : Bool) (alts : List Alternative) (ds : List ℕ) (branches : Code) (else_at : Option ℕ) (otherwise : Code)
    → IsSized branches → IsSized otherwise → IsSized (select_code s pri alts ds branches else_at otherwise)
sized_select s pri alts ds branches else_at otherwise p q =
    sized_both (alternatives_code s alts ds) (sel_code s pri else_at ⨾ branches ⨾ otherwise) (sized_alternatives s alts ds)
    (sized_both (sel_code s pri else_at) (branches ⨾ otherwise) (sized_sel s pri else_at) (sized_both branches otherwise p q))

-- ## Statements

pub sized_labels : (s : Site) (between : ℕ) (ls : List Constant) → IsSized (labels_code s between ls)
sized_labels s between [] = sized_nothing
sized_labels s between (l ∷ ls) =
    sized_first s (λ at n. CEQ (label_of (constant_value s.env.state.blocks.scopes s.env.view l)) (at + 1 + (length ls + between)))
    (labels_code s between ls) (sized_labels s between ls)

pub sized_assign : (s : Site) (d : DesigTree) (e : ExprTree) → IsSized (assign_code s d e)
sized_assign s d e =
    let i = λ (at n : ℕ). STORE (type_cells (forms_of s) (expr_type s.env e)) in
    sized_both (desig_code s d) (expr_code s e ⨾ instruction s i) (sized_desig s d) (sized_then s (expr_code s e) i (sized_expr s e))

branch_sized :
    (s : Site) (n : ℕ) (spread : Option Spread) (comm : CommTree) (ss : StmtTrees) (between : ℕ)
    → IsSized (met_code s n comm) → IsSized (stmts_code s (n + comm_scopes comm) ss)
    → IsSized (chosen_code s (spread_replicas s spread) ⨾ met_code s n comm ⨾ stmts_code s (n + comm_scopes comm) ss ⨾ over s JMP between)
branch_sized s n spread comm ss between met stmts =
    let i = λ (at k : ℕ). JMP (at + 1 + between) in
    let last = stmts_code s (n + comm_scopes comm) ss ⨾ instruction s i in
    sized_both (chosen_code s (spread_replicas s spread)) (met_code s n comm ⨾ last) (sized_chosen s (spread_replicas s spread))
    (sized_both (met_code s n comm) last met (sized_then s (stmts_code s (n + comm_scopes comm) ss) i stmts))

mutual
  pub sized_stmt : (s : Site) (n : ℕ) (t : StmtTree) → IsSized (stmt_code s n t)
  sized_stmt s n empty = sized_nothing
  sized_stmt s n (null p) = sized_nothing
  sized_stmt s n (block (body ss first last) p) = sized_stmts s n ss
  sized_stmt s n (if_then e t p) =
      let c = at_line s p.line in
      let yes = stmt_code c n t in
      sized_both (expr_code c e) (over c JF yes.size ⨾ yes) (sized_expr c e) (sized_first c (λ at k. JF (at + 1 + yes.size)) yes (sized_stmt c n t))
  sized_stmt s n (if_then_else e t u p) =
      let c = at_line s p.line in
      let yes = stmt_code c n t in
      let no = stmt_code c (n + scopes_in t) u in
      let last = over c JMP no.size ⨾ no in
      sized_both (expr_code c e) (over c JF (yes.size + 1) ⨾ yes ⨾ last) (sized_expr c e)
      (sized_first c (λ at k. JF (at + 1 + (yes.size + 1))) (yes ⨾ last)
      (sized_both yes last (sized_stmt c n t) (sized_first c (λ at k. JMP (at + 1 + no.size)) no (sized_stmt c (n + scopes_in t) u))))
  sized_stmt s n (case_of e arms last p) =
      let c = at_line s p.line in
      sized_both (expr_code c e) (tests_code c n 0 arms ⨾ one c CERR ⨾ arms_code c n arms) (sized_expr c e)
      (sized_both (tests_code c n 0 arms) (one c CERR ⨾ arms_code c n arms) (sized_tests c n 0 arms)
      (sized_first c (λ at k. CERR) (arms_code c n arms) (sized_arms c n arms)))
  sized_stmt s n (while_do e t p) =
      let c = at_line s p.line in
      let test = expr_code c e in
      let inner = stmt_code c n t in
      let i = λ (at k : ℕ). TURN (at - (test.size + 1 + inner.size)) in
      sized_both test (over c JF (inner.size + 1) ⨾ inner ⨾ instruction c i) (sized_expr c e)
      (sized_first c (λ at k. JF (at + 1 + (inner.size + 1))) (inner ⨾ instruction c i) (sized_then c inner i (sized_stmt c n t)))
  sized_stmt s n (repeat_until ss e p) =
      let c = at_line s p.line in
      let inner = stmts_code c n ss in
      let test = expr_code c e in
      let last = one c NOT ⨾ over c JF 1 ⨾ to_back c TURN (inner.size + test.size + 2) in
      sized_both inner (test ⨾ last) (sized_stmts c n ss) (sized_both test last (sized_expr c e) (λ at k. refl))
  sized_stmt s n (repeat_forever ss p) =
      let c = at_line s p.line in
      let inner = stmts_code c n ss in
      sized_both inner (to_back c TURN inner.size) (sized_stmts c n ss) (λ at k. refl)
  sized_stmt s n (for_do x a down b t p q) =
      let c = at_line s p.line in
      let v = (spot_of c.env (find c.env x)).spot in
      let inner = stmt_code c n t in
      let d = if down then 1 else 0 in
      let last = inner ⨾ to_back c (λ at. FORT d at) (inner.size + 1) in
      let pass = over c (λ at. FORB d at) (inner.size + 2) ⨾ one c FORW ⨾ last in
      sized_both (base_code c v) (expr_code c a ⨾ expr_code c b ⨾ pass) (sized_base c v)
      (sized_both (expr_code c a) (expr_code c b ⨾ pass) (sized_expr c a)
      (sized_both (expr_code c b) pass (sized_expr c b)
      (sized_first c (λ at k. FORB d (at + 1 + (inner.size + 2))) (one c FORW ⨾ last) (sized_first c (λ at k. FORW) last
      (sized_both inner (to_back c (λ at. FORT d at) (inner.size + 1)) (sized_stmt c n t) (λ at k. refl))))))
  sized_stmt s n (cobegin ss last p) = sized_then (at_line s last.line) (stmts_code s n ss) (λ at k. COEND) (sized_stmts s n ss)
  sized_stmt s n (accepting a p) =
      let c = at_line s p.line in
      sized_both (accept_code c n a) (accepted_code c n a ⨾ one c EACC) (λ at k. refl)
      (sized_then c (accepted_code c n a) (λ at k. EACC) (sized_accepted c n a))
  sized_stmt s n (requeue x args p) = let c = at_line s p.line in sized_requeue c (meaning_of (find c.env x.0)) args
  sized_stmt s n (select pri alts p q) =
      let c = at_line s p.line in
      sized_select c pri (alternatives (context_of c) n alts) (distances c n 0 alts) (branches_code c n alts 0) None nothing
      (sized_branches c n alts 0) sized_nothing
  sized_stmt s n (select_else pri alts ss at p q) =
      let c = at_line s p.line in
      let otherwise = stmts_code c (n + alts_scopes alts) ss in
      let branches = branches_code c n alts otherwise.size in
      sized_select c pri (alternatives (context_of c) n alts) (distances c n 0 alts) branches (Some branches.size) otherwise
      (sized_branches c n alts otherwise.size) (sized_stmts c (n + alts_scopes alts) ss)
  sized_stmt s n (assign d e p q) = sized_assign (at_line s p.line) d e
  sized_stmt s n (send d e p q) =
      let c = at_line s p.line in let m = message_of (context_of c) e in sized_send c d m (λ at k. SEND (message_cells c m))
  sized_stmt s n (receive d v p q) =
      let c = at_line s p.line in let r = receiver_of (context_of c) v in sized_receive c d r (λ at k. RECV (receiver_cells c r))
  sized_stmt s n (call d args p) = sized_call (at_line s p.line) d args

  pub sized_stmts : (s : Site) (n : ℕ) (ts : StmtTrees) → IsSized (stmts_code s n ts)
  sized_stmts s n no_stmts = sized_nothing
  sized_stmts s n (more_stmts t ts) =
      sized_both (stmt_code s n t) (stmts_code s (n + scopes_in t) ts) (sized_stmt s n t) (sized_stmts s (n + scopes_in t) ts)

  pub sized_tests : (s : Site) (n from : ℕ) (arms : ArmTrees) → IsSized (tests_code s n from arms)
  sized_tests s n from no_arms = sized_nothing
  sized_tests s n from (more_arms (arm ls t) arms) =
      let between = label_count arms + 1 + from in
      let rest = tests_code s (n + arm_scopes (arm ls t)) (from + (stmt_code s n t).size + 1) arms in
      sized_both (labels_code s between ls) rest (sized_labels s between ls) (sized_tests s (n + arm_scopes (arm ls t))
      (from + (stmt_code s n t).size + 1) arms)

  pub sized_arms : (s : Site) (n : ℕ) (arms : ArmTrees) → IsSized (arms_code s n arms)
  sized_arms s n no_arms = sized_nothing
  sized_arms s n (more_arms (arm ls t) arms) =
      let rest = arms_code s (n + arm_scopes (arm ls t)) arms in
      sized_both (stmt_code s n t) (over s JMP rest.size ⨾ rest) (sized_stmt s n t)
      (sized_first s (λ at k. JMP (at + 1 + rest.size)) rest (sized_arms s (n + arm_scopes (arm ls t)) arms))

  pub sized_accepted : (s : Site) (n : ℕ) (a : AcceptTree) → IsSized (accepted_code s n a)
  sized_accepted s n (accept x gs p) = sized_nothing
  sized_accepted s n (accept_do x gs t p) = sized_stmt (in_accept s n) (n + 1) t

  pub sized_met : (s : Site) (n : ℕ) (comm : CommTree) → IsSized (met_code s n comm)
  sized_met s n (comm_accept a p) = sized_then (at_line s p.line) (accepted_code s n a) (λ at k. EACC) (sized_accepted s n a)
  sized_met s n (comm_send d e p) = sized_nothing
  sized_met s n (comm_receive d v p) = sized_nothing
  sized_met s n (timeout e p) = sized_nothing
  sized_met s n (terminate p) = sized_nothing

  pub sized_branch : (s : Site) (n : ℕ) (a : AltTree) (between : ℕ) → IsSized (branch_code s n a between)
  sized_branch s n (alt spread guard (terminate p) ss) between = λ at k. refl
  sized_branch s n (alt spread guard (comm_accept a p) ss) between = branch_sized s n spread (comm_accept a p) ss between (sized_met s n (comm_accept a p))
      (sized_stmts s (n + comm_scopes (comm_accept a p)) ss)
  sized_branch s n (alt spread guard (comm_send d e p) ss) between =
      branch_sized s n spread (comm_send d e p) ss between sized_nothing (sized_stmts s (n + comm_scopes (comm_send d e p)) ss)
  sized_branch s n (alt spread guard (comm_receive d v p) ss) between =
      branch_sized s n spread (comm_receive d v p) ss between sized_nothing (sized_stmts s (n + comm_scopes (comm_receive d v p)) ss)
  sized_branch s n (alt spread guard (timeout e p) ss) between =
      branch_sized s n spread (timeout e p) ss between sized_nothing (sized_stmts s (n + comm_scopes (timeout e p)) ss)

  pub sized_branches : (s : Site) (n : ℕ) (alts : AltTrees) (else_size : ℕ) → IsSized (branches_code s n alts else_size)
  sized_branches s n no_alts else_size = sized_nothing
  sized_branches s n (more_alts a alts) else_size =
      let rest = branches_code s (n + alt_scopes a) alts else_size in
      sized_both (branch_code s n a (rest.size + else_size)) rest (sized_branch s n a (rest.size + else_size))
      (sized_branches s (n + alt_scopes a) alts else_size)
