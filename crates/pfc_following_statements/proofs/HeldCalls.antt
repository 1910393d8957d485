-- How many operands the code of an assignment, a call or a communication leaves: as many as before.
use Rattle.std.proofs.Common.{◌≡◌, ℕ, zero, suc, ◌+◌, ◌<◌, pos, Bool, true, false, if◌then◌else◌, List, [], ◌∷◌, drop, Option, Some, None, refl, sym, ap, ◌∙◌}
use Rattle.std.proofs.Common.{subst, arith}
use Rattle.std.proofs.lemmas.Bool.Decides.{nat_tests}
use Rattle.pfc_base.specs.declared.places.Place.{Place}
use Rattle.pfc_code.specs.declared.instructions.Instr.{Instr}
use Rattle.pfc_code.specs.declared.instructions.Instr.TheVariants.{LIT, STORE, OBJ, REQ, NEW, SINI, SWAIT, SSIG, ECALL, ARMS, ARMR, ARMA, ARMT, ARMX, JF, DELAY}
use Rattle.pfc_code.specs.declared.instructions.Instr.TheVariants.{RESUME, SLEEP, WRI, WRB, WRC, WRNL, RDI, RDC, RDNL}
use Rattle.pfc_tree.specs.Symbols.{Text}
use Rattle.pfc_tree.specs.trees.Exprs.{ExprTree, DesigTree, SelectorTrees, ActualTree, ActualTrees, desig, no_selectors, actual, actual_width, no_actuals}
use Rattle.pfc_tree.specs.trees.Exprs.{more_actuals}
use Rattle.pfc_tree.specs.trees.Stmts.{CommTree, comm_accept, comm_send, comm_receive, timeout, terminate}
use Rattle.pfc_types.specs.Types.{semaphore, condition}
use Rattle.pfc_types.specs.Scopes.{meaning_of, meaning_in, scope_at}
use Rattle.pfc_types.specs.Blocks.{sub_at, module_at, process_at, entry_at}
use Rattle.pfc_types.specs.rules.Expressions.{find, as_desig, expr_type, desig_type, selected}
use Rattle.pfc_types.specs.rules.Calls.{last_field, before_last}
use Rattle.pfc_types.specs.declared.types.TypeId.{TypeId}
use Rattle.pfc_types.specs.declared.scope.Meaning.{Meaning}
use Rattle.pfc_types.specs.declared.scope.Meaning.TheVariants.{Constant as AConstant, Named, Variable, Sub, Module, Process, Entry, Predeclared, Faulty}
use Rattle.pfc_types.specs.declared.heads.Formal.{Formal}
use Rattle.pfc_types.specs.declared.view.Found.{Found}
use Rattle.pfc_values.specs.declared.simple.Simple.{Simple}
use Rattle.pfc_values.specs.declared.simple.Simple.TheVariants.{Integer, Boolean, Char}
use Rattle.pfc_semantics.specs.Displays.{TypedSpot}
use Rattle.pfc_semantics.specs.Objects.{module_number}
use Rattle.pfc_semantics.specs.Operators.{simple_of}
use Rattle.pfc_semantics.specs.Predeclared.{Procedure, reader, writer, initial, wait, signal, delay, resume, sleep, no_procedure, procedure_of}
use Rattle.pfc_semantics.specs.Programs.{Program, block_number}
use Rattle.pfc_semantics.specs.Remainders.{Replica, Alternative}
use Rattle.pfc_semantics.specs.Expressions.{spot_of}
use Rattle.pfc_semantics.specs.Alternatives.{message_of, receiver_of}
use Rattle.pfc_semantics.specs.Statements.{as_string, item_of, expr_of, behind_first, name_in_process, process_of_type}
use Rattle.pfc_translation.specs.Sites.{Site, context_of, forms_of, blocks_of, type_cells}
use Rattle.pfc_translation.specs.Codes.{Code, nothing, ◌⨾◌, instruction, one, string}
use Rattle.pfc_translation.specs.Addresses.{base_code}
use Rattle.pfc_translation.specs.Expressions.{expr_code, args_code, address_code, desig_code, object_code, first_value, first_address, call_instr}
use Rattle.pfc_translation.specs.Calls.{write_instr, plain_item, wide_item, item_code, writes_code, read_instr, input_code, reads_code, given_code, rank_code}
use Rattle.pfc_translation.specs.Calls.{first_object, procedure_code, enter_instr, exported_code, module_code, resource_of, requeue_code, activation_code}
use Rattle.pfc_translation.specs.Calls.{formals_cells, entry_code, process_code, field_code, called_variable, called_process, called_code, found_code}
use Rattle.pfc_translation.specs.Calls.{call_code}
use Rattle.pfc_code.specs.Operands.{receiving}
use Rattle.pfc_translation.specs.Operands.{takes, leaves, arguments}
use Rattle.pfc_translation.specs.Selects.{message_code, message_cells, receiver_code, receiver_cells, entry_of, accept_cell, accept_cells, replica_code}
use Rattle.pfc_translation.specs.Selects.{comm_code, guarded_code, alternative_code, first_of, alternatives_code}
use Rattle.pfc_translation.specs.Statements.{assign_code}
use Rattle.pfc_standing_code.specs.Shapes.{a_number, shape_of, shape_cells, IsSound}
use Rattle.pfc_standing_code.specs.Typed.{HasShape, IsLentFirst, AreArguments, AreSelectors, IsDesig}
use Rattle.pfc_standing_code.specs.TypedStatements.{IsAssignment, IsMessage, IsReceiver, IsSend, IsReceive, IsItem, IsWritten, AreWritten, IsRead, AreRead}
use Rattle.pfc_standing_code.specs.TypedStatements.{IsNumber, IsRank, IsProcedure, IsActivation, IsEntry, IsProcess, IsField, IsCalledVariable, IsCalledProcess}
use Rattle.pfc_standing_code.specs.TypedStatements.{IsExported, IsModuleCall, IsCalled, IsCall, IsRequeue, IsGuard, IsComm, IsAlternative, AreAlternatives}
use Rattle.pfc_following_expressions.proofs.Glue.{Changes, changes_both}
use Rattle.pfc_following_expressions.proofs.Held.{changes_one, changes_nothing, changes_as, base_changes, expr_changes, first_changes, first_address_changes}
use Rattle.pfc_following_expressions.proofs.Held.{args_change, part_changes, desig_changes}

pub changes_instruction : (p : Program) (s : Site) (i : ℕ → ℕ → Instr) (a b : ℕ) → ((at n : ℕ) → takes p (i at n) ≡ a) →
    ((at n : ℕ) → leaves p (i at n) ≡ b) → Changes p (instruction s i) a b
changes_instruction p s i a b t l at n held = let before = t at n in let after = l at n in omega (arith, before, after)

module _ (s : Site) (sound : IsSound (forms_of s)) where
  abbrev p : Program
  p = s.program

  seq : (c d : Code) (i j k : ℕ) → Changes s.program c i j → Changes s.program d j k → Changes s.program (c ⨾ d) i k
  seq c d i j k h l = changes_both s.program c d i j k h l

  -- a number, over so many operands
  pub number_over : (e : ExprTree) (k : ℕ) → HasShape s e a_number → Changes s.program (expr_code s e) k (k + 1)
  number_over e k is = changes_as s.program (expr_code s e) 0 1 k k (k + 1) (expr_changes s sound e a_number is) (omega arith) (omega arith)

  pub assign_changes : (d : DesigTree) (e : ExprTree) → IsAssignment s d e → Changes s.program (assign_code s d e) 0 0
  assign_changes d e is =
      let z = type_cells (forms_of s) (expr_type s.env e) in
      let w = shape_cells (forms_of s) (shape_of is.t) in
      seq (desig_code s d) (expr_code s e ⨾ one s (STORE z)) 0 1 0 (desig_changes s sound d (Some is.t) is.target)
      (seq (expr_code s e) (one s (STORE z)) 1 (z + 1) 0
      (changes_as s.program (expr_code s e) 0 w 1 1 (z + 1) (expr_changes s sound e (shape_of is.t) is.value) refl (ap (λ k. k + 1) is.cells))
      (changes_one s.program s (STORE z) (z + 1) 0 refl refl))

  -- ## Output and input

  write_changes : (t : Simple) (w : ℕ) → Changes s.program (one s (write_instr t w)) (1 + w) 0
  write_changes Integer w = changes_one s.program s (WRI w) (1 + w) 0 refl refl
  write_changes Boolean w = changes_one s.program s (WRB w) (1 + w) 0 refl refl
  write_changes Char w = changes_one s.program s (WRC w) (1 + w) 0 refl refl

  read_changes : (t : Simple) → Changes s.program (one s (read_instr t)) 1 0
  read_changes Integer = changes_one s.program s RDI 1 0 refl refl
  read_changes Boolean = changes_one s.program s RDC 1 0 refl refl
  read_changes Char = changes_one s.program s RDC 1 0 refl refl

  string_changes : (x : Text) (w : ℕ) → Changes s.program (string s x w) w 0
  string_changes x w at n held = omega arith

  plain_changes : (x : Option Text) (e : ExprTree) → IsItem s x e → Changes s.program (plain_item s x e) 0 0
  plain_changes None e is = seq (expr_code s e) (one s (write_instr (simple_of (expr_type s.env e)) 0)) 0 1 0 (expr_changes s sound e a_number is)
      (write_changes (simple_of (expr_type s.env e)) 0)
  plain_changes (Some x) e is = string_changes x 0

  wide_changes : (x : Option Text) (e w : ExprTree) → IsItem s x e → HasShape s w a_number → Changes s.program (wide_item s x e w) 0 0
  wide_changes None e w is num =
      let i = one s (write_instr (simple_of (expr_type s.env e)) 1) in
      seq (expr_code s e) (expr_code s w ⨾ i) 0 1 0 (expr_changes s sound e a_number is) (seq (expr_code s w) i 1 2 0 (number_over w 1 num)
      (write_changes (simple_of (expr_type s.env e)) 1))
  wide_changes (Some x) e w is num = seq (expr_code s w) (string s x 1) 0 1 0 (expr_changes s sound w a_number num) (string_changes x 1)

  pub item_changes : (a : ActualTree) → IsWritten s a → Changes s.program (item_code s a) 0 0
  item_changes (actual e) is = plain_changes (as_string e) e is
  item_changes (actual_width e w) is = wide_changes (as_string e) e w is.0 is.1

  if_so : (r : Bool) (i : Instr) → takes s.program i ≡ 0 → leaves s.program i ≡ 0 → Changes s.program (if r then one s i else nothing) 0 0
  if_so true i t l = changes_one s.program s i 0 0 t l
  if_so false i t l = changes_nothing s.program 0

  pub writes_change : (args : ActualTrees) (newline : Bool) → AreWritten s args → Changes s.program (writes_code s args newline) 0 0
  writes_change no_actuals newline is = if_so newline WRNL refl refl
  writes_change (more_actuals a rest) newline is =
      seq (item_code s a) (writes_code s rest newline) 0 0 0 (item_changes a is.0) (writes_change rest newline is.1)

  pub input_changes : (d : Option DesigTree) → IsRead s d → Changes s.program (input_code s d) 0 0
  input_changes None is = absurd is
  input_changes (Some d) is = seq (desig_code s d) (one s (read_instr (simple_of (desig_type s.env d)))) 0 1 0 (desig_changes s sound d (Some is.0) is.2)
      (read_changes (simple_of (desig_type s.env d)))

  pub reads_change : (args : ActualTrees) (skip : Bool) → AreRead s args → Changes s.program (reads_code s args skip) 0 0
  reads_change no_actuals skip is = if_so skip RDNL refl refl
  reads_change (more_actuals a rest) skip is = seq (input_code s (as_desig (item_of a))) (reads_code s rest skip) 0 0 0
      (input_changes (as_desig (item_of a)) is.0) (reads_change rest skip is.1)

  -- ## Predeclared procedures

  first_object_changes : (args : ActualTrees) (t : Option TypeId) → IsLentFirst s args t → Changes s.program (first_object s args) 0 1
  first_object_changes args t is = seq (first_address s args) (one s OBJ) 0 1 1 (first_address_changes s sound args t is)
      (changes_one s.program s OBJ 1 1 refl refl)

  given_changes : (e : Option ExprTree) (k : ℕ) → IsNumber s e → Changes s.program (given_code s e) k (k + 1)
  given_changes None k is = absurd is
  given_changes (Some e) k is = number_over e k is

  pub rank_changes : (e : Option ExprTree) (k : ℕ) → IsRank s e → Changes s.program (rank_code s e) k (k + 1)
  rank_changes None k is =
      changes_as s.program (one s (LIT (pos 0))) 0 1 k k (k + 1) (changes_one s.program s (LIT (pos 0)) 0 1 refl refl) (omega arith) (omega arith)
  rank_changes (Some e) k is = number_over e k is

  pub procedure_changes : (q : Procedure) (args : ActualTrees) → IsProcedure s q args → Changes s.program (procedure_code s q args) 0 0
  procedure_changes (reader skip) args is = reads_change args skip is
  procedure_changes (writer newline) args is = writes_change args newline is
  procedure_changes initial args is =
      let e = expr_of (behind_first args) in
      seq (first_object s args) (given_code s e ⨾ one s SINI) 0 1 0 (first_object_changes args (Some semaphore) is.0) (seq (given_code s e) (one s SINI) 1 2 0
      (given_changes e 1 is.1) (changes_one s.program s SINI 2 0 refl refl))
  procedure_changes wait args is = seq (first_object s args) (one s SWAIT) 0 1 0 (first_object_changes args (Some semaphore) is)
      (changes_one s.program s SWAIT 1 0 refl refl)
  procedure_changes signal args is = seq (first_object s args) (one s SSIG) 0 1 0 (first_object_changes args (Some semaphore) is)
      (changes_one s.program s SSIG 1 0 refl refl)
  procedure_changes delay args is =
      let e = expr_of (behind_first args) in
      seq (first_object s args) (rank_code s e ⨾ one s DELAY) 0 1 0 (first_object_changes args (Some condition) is.0) (seq (rank_code s e) (one s DELAY) 1 2 0
      (rank_changes e 1 is.1) (changes_one s.program s DELAY 2 0 refl refl))
  procedure_changes resume args is = seq (first_object s args) (one s RESUME) 0 1 0 (first_object_changes args (Some condition) is)
      (changes_one s.program s RESUME 1 0 refl refl)
  procedure_changes sleep args is = seq (first_value s args) (one s SLEEP) 0 1 0 (first_changes s sound args is) (changes_one s.program s SLEEP 1 0 refl refl)
  procedure_changes no_procedure args is = changes_nothing s.program 0

  -- ## Calls

  -- arguments, and an instruction that takes them
  args_then : (formals : List Formal) (args : ActualTrees) (i : Instr) → AreArguments s formals args → takes s.program i ≡ formals_cells (forms_of s) formals →
      leaves s.program i ≡ 0 → Changes s.program (args_code s formals args ⨾ one s i) 0 0
  args_then formals args i are t l =
      let w = formals_cells (forms_of s) formals in
      seq (args_code s formals args) (one s i) 0 w 0 (args_change s sound formals args are) (changes_one s.program s i w 0 t l)

  -- a process, arguments, and an instruction that takes both
  process_then :
      (address : Code) (formals : List Formal) (args : ActualTrees) (i : Instr) → Changes s.program address 0 1 → AreArguments s formals args
      → takes s.program i ≡ formals_cells (forms_of s) formals + 1 → leaves s.program i ≡ 0 →
      Changes s.program (address ⨾ one s OBJ ⨾ args_code s formals args ⨾ one s i) 0 0
  process_then address formals args i a are t l =
      let w = formals_cells (forms_of s) formals in
      seq address (one s OBJ ⨾ args_code s formals args ⨾ one s i) 0 1 0 a
      (seq (one s OBJ) (args_code s formals args ⨾ one s i) 1 1 0 (changes_one s.program s OBJ 1 1 refl refl)
      (seq (args_code s formals args) (one s i) 1 (w + 1) 0 (changes_as s.program (args_code s formals args) 0 w 1 1 (w + 1)
      (args_change s sound formals args are) refl refl) (changes_one s.program s i (w + 1) 0 t l)))

  enter_takes : (r : Bool) (m k : ℕ) → takes s.program (enter_instr r m k) ≡ arguments s.program k
  enter_takes true m k = refl
  enter_takes false m k = refl

  enter_leaves : (r : Bool) (m k : ℕ) → leaves s.program (enter_instr r m k) ≡ 0
  enter_leaves true m k = refl
  enter_leaves false m k = refl

  exported_changes : (n : ℕ) (m : Option Meaning) (args : ActualTrees) → IsExported s n m args → Changes s.program (exported_code s n m args) 0 0
  exported_changes n (Some (Sub k)) args is =
      let sub = sub_at (blocks_of s) k in
      let r = (module_at (blocks_of s) n).resource in
      let m = module_number (blocks_of s) n in
      let c = block_number s.program sub.scope in
      args_then sub.formals args (enter_instr r m c) is.1 (enter_takes r m c ∙ is.0.taken) (enter_leaves r m c)
  exported_changes n None args is = absurd is
  exported_changes n (Some (AConstant t v)) args is = absurd is
  exported_changes n (Some (Named t)) args is = absurd is
  exported_changes n (Some (Variable t r)) args is = absurd is
  exported_changes n (Some (Module k)) args is = absurd is
  exported_changes n (Some (Process k)) args is = absurd is
  exported_changes n (Some (Entry k)) args is = absurd is
  exported_changes n (Some (Predeclared k)) args is = absurd is
  exported_changes n (Some Faulty) args is = absurd is

  module_changes : (n : ℕ) (x : Option (Text × Place)) (args : ActualTrees) → IsModuleCall s n x args → Changes s.program (module_code s n x args) 0 0
  module_changes n None args is = absurd is
  module_changes n (Some x) args is = exported_changes n (meaning_in (scope_at (blocks_of s).scopes (module_at (blocks_of s) n).scope) x.0) args is

  pub requeue_changes : (m : Option Meaning) (args : ActualTrees) → IsRequeue s m args → Changes s.program (requeue_code s m args) 0 0
  requeue_changes (Some (Sub k)) args is =
      let sub = sub_at (blocks_of s) k in args_then sub.formals args (REQ (resource_of s) (block_number s.program sub.scope)) is.1 is.0.taken refl
  requeue_changes None args is = absurd is
  requeue_changes (Some (AConstant t v)) args is = absurd is
  requeue_changes (Some (Named t)) args is = absurd is
  requeue_changes (Some (Variable t r)) args is = absurd is
  requeue_changes (Some (Module k)) args is = absurd is
  requeue_changes (Some (Process k)) args is = absurd is
  requeue_changes (Some (Entry k)) args is = absurd is
  requeue_changes (Some (Predeclared k)) args is = absurd is
  requeue_changes (Some Faulty) args is = absurd is

  activation_changes : (n : ℕ) (v : TypedSpot) (found : Found) (ss : SelectorTrees) (args : ActualTrees) → spot_of s.env (Some found) ≡ v →
      IsActivation s n v ss args → Changes s.program (activation_code s n (address_code s (Some found) ss) args) 0 0
  activation_changes n v found ss args e is =
      let head = process_at (blocks_of s) n in
      let c = block_number s.program head.scope in
      let taken = is.taken in
      process_then (address_code s (Some found) ss) head.formals args (NEW c)
      (part_changes s sound (spot_of s.env (Some found)) ss is.t (subst (λ (y : TypedSpot). AreSelectors s y.t ss is.t) (sym e) is.called.1))
      is.arguments (omega (arith, taken)) refl

  entry_changes : (n : ℕ) (m : Option Meaning) (v : TypedSpot) (found : Found) (ss : SelectorTrees) (args : ActualTrees) → spot_of s.env (Some found) ≡ v →
      IsEntry s n v ss m args → Changes s.program (entry_code s n m (address_code s (Some found) ss) args) 0 0
  entry_changes n (Some (Entry k)) v found ss args e is =
      process_then (address_code s (Some found) ss) (entry_at (blocks_of s) n k) args (ECALL k (formals_cells (forms_of s) (entry_at (blocks_of s) n k)))
      (part_changes s sound (spot_of s.env (Some found)) ss is.t (subst (λ (y : TypedSpot). AreSelectors s y.t ss is.t)
      (sym e) is.called.1)) is.arguments refl refl
  entry_changes n None v found ss args e is = absurd is
  entry_changes n (Some (AConstant t k)) v found ss args e is = absurd is
  entry_changes n (Some (Named t)) v found ss args e is = absurd is
  entry_changes n (Some (Variable t r)) v found ss args e is = absurd is
  entry_changes n (Some (Sub k)) v found ss args e is = absurd is
  entry_changes n (Some (Module k)) v found ss args e is = absurd is
  entry_changes n (Some (Process k)) v found ss args e is = absurd is
  entry_changes n (Some (Predeclared k)) v found ss args e is = absurd is
  entry_changes n (Some Faulty) v found ss args e is = absurd is

  process_changes : (n : Option ℕ) (v : TypedSpot) (found : Found) (ss : SelectorTrees) (args : ActualTrees) → spot_of s.env (Some found) ≡ v →
      IsProcess s n v ss args → Changes s.program (process_code s n (address_code s (Some found) ss) args) 0 0
  process_changes None v found ss args e is = absurd is
  process_changes (Some n) v found ss args e is = activation_changes n v found ss args e is

  field_changes :
      (v : TypedSpot) (found : Found) (ss : SelectorTrees) (t : Option TypeId) (n : Option ℕ) (x : Text) (args : ActualTrees) → spot_of s.env (Some found) ≡ v →
      v.t ≡ t → IsField s v ss n x args → Changes s.program (field_code s found ss t n x args) 0 0
  field_changes v found ss t None x args e k is =
      process_changes (process_of_type s.env (selected s.env t ss)) v found ss args e
      (subst (λ (y : Option TypeId). IsProcess s (process_of_type s.env (selected s.env y ss)) v ss args) k is)
  field_changes v found ss t (Some n) x args e k is = entry_changes n (name_in_process (blocks_of s) n x) v found (before_last ss) args e is

  variable_changes :
      (v : TypedSpot) (found : Found) (ss : SelectorTrees) (t : TypeId) (x : Option (Text × Place)) (args : ActualTrees) → spot_of s.env (Some found) ≡ v →
      v.t ≡ Some t → IsCalledVariable s v ss x args → Changes s.program (called_variable s found ss t x args) 0 0
  variable_changes v found ss t None args e k is =
      process_changes (process_of_type s.env (selected s.env (Some t) ss)) v found ss args e
      (subst (λ (y : Option TypeId). IsProcess s (process_of_type s.env (selected s.env y ss)) v ss args) k is)
  variable_changes v found ss t (Some x) args e k is =
      field_changes v found ss (Some t) (process_of_type s.env (selected s.env (Some t) (before_last ss))) x.0 args e k
      (subst (λ (y : Option TypeId). IsField s v ss (process_of_type s.env (selected s.env y (before_last ss))) x.0 args) k is)

  single_changes : (v : TypedSpot) (found : Found) (n : ℕ) (x : Option (Text × Place)) (args : ActualTrees) → spot_of s.env (Some found) ≡ v →
      IsCalledProcess s n v x args → Changes s.program (called_process s found n x args) 0 0
  single_changes v found n None args e is = activation_changes n v found no_selectors args e is
  single_changes v found n (Some x) args e is = entry_changes n (name_in_process (blocks_of s) n x.0) v found no_selectors args e is

  called_changes : (v : TypedSpot) (found : Found) (m : Meaning) (ss : SelectorTrees) (args : ActualTrees) → spot_of s.env (Some found) ≡ v →
      IsCalled s (Some m) v ss args → Changes s.program (called_code s found m ss args) 0 0
  called_changes v found (Predeclared k) ss args e is = procedure_changes (procedure_of k) args is
  called_changes v found (Sub k) ss args e is = let sub = sub_at (blocks_of s) k in args_then sub.formals args (call_instr s sub) is.1 is.0.taken is.0.leaves
  called_changes v found (Module k) ss args e is = module_changes k (last_field ss) args is
  called_changes v found (Process k) ss args e is = single_changes v found k (last_field ss) args e is
  called_changes v found (Variable t r) ss args e is = variable_changes v found ss t (last_field ss) args e is.0 is.1
  called_changes v found (AConstant t k) ss args e is = absurd is
  called_changes v found (Named t) ss args e is = absurd is
  called_changes v found (Entry k) ss args e is = absurd is
  called_changes v found Faulty ss args e is = absurd is

  found_changes : (found : Option Found) (ss : SelectorTrees) (args : ActualTrees) → IsCalled s (meaning_of found) (spot_of s.env found) ss args →
      Changes s.program (found_code s found ss args) 0 0
  found_changes None ss args is = absurd is
  found_changes (Some found) ss args is = called_changes (spot_of s.env (Some found)) found found.meaning ss args refl is

  pub call_changes : (d : DesigTree) (args : ActualTrees) → IsCall s d args → Changes s.program (call_code s d args) 0 0
  call_changes (desig x ss q) args is = found_changes (find s.env x) ss args is

  -- ## Communication

  object_changes : (d : DesigTree) (t : Option TypeId) → IsDesig s d t → Changes s.program (object_code s d) 0 1
  object_changes d t is = seq (desig_code s d) (one s OBJ) 0 1 1 (desig_changes s sound d t is) (changes_one s.program s OBJ 1 1 refl refl)

  pub message_changes : (m : Option ExprTree) (u : TypeId) → IsMessage s m u → Changes s.program (message_code s m) 1 (message_cells s m + 1)
  message_changes None u is = changes_nothing s.program 1
  message_changes (Some e) u is =
      changes_as s.program (expr_code s e) 0 (shape_cells (forms_of s) (shape_of u)) 1 1 (message_cells s (Some e) + 1)
      (expr_changes s sound e (shape_of u) is.0) refl (ap (λ k. k + 1) is.1)

  receives_two : (z : ℕ) → 0 < z → receiving z ≡ 2
  receives_two zero h = absurd (omega arith)
  receives_two (suc z) h = grind (arith, nat_tests)

  pub receiver_changes : (d : Option DesigTree) (u : TypeId) → IsReceiver s d u → Changes s.program (receiver_code s d) 1 (receiving (receiver_cells s d))
  receiver_changes None u is = changes_nothing s.program 1
  receiver_changes (Some d) u is = changes_as s.program (desig_code s d) 0 1 1 1 (receiving (receiver_cells s (Some d)))
      (desig_changes s sound d (Some u) is.0) refl (receives_two (receiver_cells s (Some d)) (subst (λ (n : ℕ). 0 < n) (sym is.1) is.2.0))

  pub send_changes : (d : DesigTree) (m : Option ExprTree) (i : ℕ → ℕ → Instr) → IsSend s d m →
      ((at n : ℕ) → takes s.program (i at n) ≡ message_cells s m + 1) → ((at n : ℕ) → leaves s.program (i at n) ≡ 0) →
      Changes s.program (object_code s d ⨾ message_code s m ⨾ instruction s i) 0 0
  send_changes d m i is t l =
      let z = message_cells s m in
      seq (object_code s d) (message_code s m ⨾ instruction s i) 0 1 0 (object_changes d is.t is.channel)
      (seq (message_code s m) (instruction s i) 1 (z + 1) 0 (message_changes m is.u is.message) (changes_instruction s.program s i (z + 1) 0 t l))

  pub receive_changes : (d : DesigTree) (r : Option DesigTree) (i : ℕ → ℕ → Instr) → IsReceive s d r →
      ((at n : ℕ) → takes s.program (i at n) ≡ receiving (receiver_cells s r)) → ((at n : ℕ) → leaves s.program (i at n) ≡ 0) →
      Changes s.program (object_code s d ⨾ receiver_code s r ⨾ instruction s i) 0 0
  receive_changes d r i is t l =
      let z = receiving (receiver_cells s r) in
      seq (object_code s d) (receiver_code s r ⨾ instruction s i) 0 1 0 (object_changes d is.t is.channel)
      (seq (receiver_code s r) (instruction s i) 1 z 0 (receiver_changes r is.u is.receiver) (changes_instruction s.program s i z 0 t l))

  -- ## Alternatives

  pub replica_changes : (r : Option Replica) → Changes s.program (replica_code s r) 0 0
  replica_changes None = changes_nothing s.program 0
  replica_changes (Some r) =
      seq (base_code s r.at) (one s (LIT r.value) ⨾ one s (STORE 1)) 0 1 0 (base_changes s.program s r.at)
      (seq (one s (LIT r.value)) (one s (STORE 1)) 1 2 0 (changes_as s.program (one s (LIT r.value)) 0 1 1 1 2
      (changes_one s.program s (LIT r.value) 0 1 refl refl) refl refl) (changes_one s.program s (STORE 1) 2 0 refl refl))

  pub comm_changes : (n : ℕ) (comm : CommTree) (branch : ℕ) → IsComm s comm → Changes s.program (comm_code s n comm branch) 0 0
  comm_changes n (comm_accept a q) branch is =
      changes_instruction s.program s (λ at k. ARMA (entry_of s a) (accept_cell s n) (accept_cells s n) (at + 1 + branch)) 0 0 (λ at k. refl) (λ at k. refl)
  comm_changes n (comm_send d e q) branch is =
      let m = message_of (context_of s) e in send_changes d m (λ at k. ARMS (message_cells s m) (at + 1 + branch)) is (λ at k. refl) (λ at k. refl)
  comm_changes n (comm_receive d v q) branch is =
      let r = receiver_of (context_of s) v in receive_changes d r (λ at k. ARMR (receiver_cells s r) (at + 1 + branch)) is (λ at k. refl) (λ at k. refl)
  comm_changes n (timeout e q) branch is =
      let i = λ (at k : ℕ). ARMT (at + 1 + branch) in
      seq (expr_code s e) (instruction s i) 0 1 0 (expr_changes s sound e a_number is) (changes_instruction s.program s i 1 0 (λ at k. refl) (λ at k. refl))
  comm_changes n (terminate q) branch is = changes_one s.program s ARMX 0 0 refl refl

  pub guarded_changes : (guard : Option ExprTree) (inner : Code) → IsGuard s guard → Changes s.program inner 0 0 →
      Changes s.program (guarded_code s guard inner) 0 0
  guarded_changes None inner is h = h
  guarded_changes (Some e) inner is h =
      let i = λ (at k : ℕ). JF (at + 1 + inner.size) in
      seq (expr_code s e) (instruction s i ⨾ inner) 0 1 0 (expr_changes s sound e a_number is)
      (seq (instruction s i) inner 1 0 0 (changes_instruction s.program s i 1 0 (λ at k. refl) (λ at k. refl)) h)

  alternative_changes : (a : Alternative) (branch : ℕ) → IsAlternative s a → Changes s.program (alternative_code s a branch) 0 0
  alternative_changes a branch is =
      let inner = comm_code s a.next a.comm branch in
      seq (replica_code s a.replica) (guarded_code s a.guard inner) 0 0 0 (replica_changes a.replica)
      (guarded_changes a.guard inner is.1 (comm_changes a.next a.comm branch is.2))

  pub alternatives_change : (alts : List Alternative) (branches : List ℕ) → AreAlternatives s alts → Changes s.program (alternatives_code s alts branches) 0 0
  alternatives_change [] branches is = changes_nothing s.program 0
  alternatives_change (a ∷ rest) branches is =
      let behind = alternatives_code s rest (drop 1 branches) in
      let branch = behind.size + 1 + first_of branches in
      seq (alternative_code s a branch) behind 0 0 0 (alternative_changes a branch is.0) (alternatives_change rest (drop 1 branches) is.1)
