-- What comes next in a statement is placed.
use Rattle.std.proofs.Common.{ℕ, ◌+◌, ℤ, Bool, if◌then◌else◌, List, [], ◌∷◌, Option, Some, None, Result, Ok, Err, ◌≡◌, subst, arith}
use Rattle.std.specs.Ordering.{int_eq}
use Rattle.pfc_base.specs.declared.places.Place.{Place}
use Rattle.pfc_base.specs.declared.faults.RunFault.{RunFault}
use Rattle.pfc_tree.specs.Symbols.{Text}
use Rattle.pfc_tree.specs.trees.Exprs.{ExprTree, DesigTree, SelectorTrees, ActualTree, ActualTrees, desig, no_selectors, actual, actual_width, no_actuals}
use Rattle.pfc_tree.specs.trees.Exprs.{more_actuals}
use Rattle.pfc_tree.specs.trees.Stmts.{StmtTree, StmtTrees, ArmTrees, empty, null, block, if_then, if_then_else, case_of, while_do, repeat_until}
use Rattle.pfc_tree.specs.trees.Stmts.{repeat_forever, for_do, cobegin, accepting, requeue, select, select_else, assign, send, receive, call, no_stmts}
use Rattle.pfc_tree.specs.trees.Stmts.{more_stmts, body, arm, no_arms, more_arms}
use Rattle.pfc_types.specs.Scopes.{meaning_of, meaning_in, scope_at}
use Rattle.pfc_types.specs.Blocks.{sub_at, module_at, process_at, entry_at}
use Rattle.pfc_types.specs.rules.Expressions.{Env, find, as_desig, expr_type, desig_type, selected}
use Rattle.pfc_types.specs.rules.Calls.{last_field, before_last}
use Rattle.pfc_types.specs.rules.Statements.{scopes_in, arm_scopes, alts_scopes}
use Rattle.pfc_types.specs.declared.scope.Meaning.{Meaning}
use Rattle.pfc_types.specs.declared.scope.Meaning.TheVariants.{Variable, Sub, Module, Process, Entry, Predeclared}
use Rattle.pfc_types.specs.declared.heads.Formal.{Formal}
use Rattle.pfc_types.specs.declared.heads.SubHead.{SubHead}
use Rattle.pfc_values.specs.Numbers.{is_true}
use Rattle.pfc_values.specs.Pieces.{padded}
use Rattle.pfc_semantics.specs.Values.{Value, ordinal_of}
use Rattle.pfc_semantics.specs.Displays.{Spot, TypedSpot}
use Rattle.pfc_semantics.specs.Predeclared.{Procedure, reader, writer, initial, wait, signal, delay, resume, sleep, no_procedure, procedure_of}
use Rattle.pfc_semantics.specs.Programs.{Block}
use Rattle.pfc_semantics.specs.Remainders.{Context, Count, Otherwise, Remainder, Action, to_send, to_receive, turn, until, next_pass, write_on, read_on}
use Rattle.pfc_semantics.specs.Remainders.{at_coend, store_at, choose, choose_arm, while_true, until_true, count_from, count_to, show, show_wide, pad}
use Rattle.pfc_semantics.specs.Remainders.{set_count, delay_with, sleep_for, send_on, assign_to, input_to, activate_with, enter_with, initial_to, wait_at}
use Rattle.pfc_semantics.specs.Remainders.{signal_at, delay_at, resume_at, send_to, receive_from, receive_into, to_procedure, to_module, to_requeue, to_process}
use Rattle.pfc_semantics.specs.Remainders.{to_entry, writes, turns, prints, inputs, skips, joins, initials, waits, signals, delays, resumes, sleeps, meets}
use Rattle.pfc_semantics.specs.Expressions.{spot_of, from_expr, from_args}
use Rattle.pfc_semantics.specs.Alternatives.{context, alternatives, select_begun, message_of, receiver_of}
use Rattle.pfc_semantics.specs.Statements.{behind, from_assign, as_string, from_piece, from_width, shown_as, from_string, from_wide_string, from_item}
use Rattle.pfc_semantics.specs.Statements.{from_writes, item_of, from_input, from_reads, expr_of, behind_first, from_initial, from_delay, from_procedure}
use Rattle.pfc_semantics.specs.Statements.{from_activation, from_entry_call, from_entry, name_in_process, process_of_type, from_process, from_field}
use Rattle.pfc_semantics.specs.Statements.{from_called_variable, from_called_process, from_exported, from_module, from_called, from_call, from_requeue}
use Rattle.pfc_semantics.specs.Statements.{plain_open, from_sent, from_send, from_received, from_receive, is_past, counting, next_count, begin_pass}
use Rattle.pfc_semantics.specs.Statements.{from_bounds, from_pass, again, from_until, are_labels, from_stmt, from_stmts, from_arms}
use Rattle.pfc_types.specs.rules.Statements.{stmts_scopes, arms_scopes}
use Rattle.pfc_accept_laws.specs.Places.{IsPlaced, PlacesStmts, PlacesCount, PlacesRemainder, PlacesAction}
use Rattle.pfc_accept_laws.proofs.Numbers.{front, back, before_others, placed_stmts}
use Rattle.pfc_accept_laws.proofs.ExpressionPlaces.{either, expr_places, desig_places, args_place, selectors_place, argument_places, reference_places}
use Rattle.pfc_accept_laws.proofs.AlternativePlaces.{begun_places, accepted_places, all_places, alternatives_place}

pub behind_places :
    (b : Block) (env : Env) (n : ℕ) (ss : StmtTrees) (k : Remainder) → PlacesStmts b env k n ss → PlacesRemainder b env k
    → PlacesRemainder b env (behind n ss k)
behind_places b env n no_stmts k placed left = left
behind_places b env n (more_stmts s ss) k placed left = (placed, left)

module _ (b : Block) (c : Context) where
  -- what is left, and what comes next
  abbrev Left : Remainder → Type 0
  Left k = PlacesRemainder b c.env k

  abbrev Comes : Action → Type 0
  Comes n = PlacesAction b n

  -- ## Assignments and output

  assign_places : (d : DesigTree) (e : ExprTree) (k : Remainder) → Left k → Comes (from_assign c d e k)
  assign_places d e k left =
      desig_places b c d (assign_to e k) (λ s. from_expr c e (store_at s.spot k) (λ v. writes c s.spot v k)) left
      (λ s. expr_places b c e (store_at s.spot k) (λ v. writes c s.spot v k) left (λ v. left))

  piece_places : (k : Remainder) (o : Result (List ℕ) RunFault) → Left k → Comes (from_piece c k o)
  piece_places k (Ok bytes) left = left
  piece_places k (Err f) left = tt

  pub width_places : (bytes : List ℕ) (k : Remainder) (w : Value) → Left k → Comes (from_width c bytes k w)
  width_places bytes k w left = piece_places k (padded (ordinal_of w) bytes) left

  string_places : (x : Option Text) (e : ExprTree) (k : Remainder) → Left k → Comes (from_string c x e k)
  string_places None e k left = let t = expr_type c.env e in expr_places b c e (show t k) (λ v. prints c (shown_as t v) k) left (λ v. left)
  string_places (Some x) e k left = left

  wide_places : (x : Option Text) (e w : ExprTree) (k : Remainder) → Left k → Comes (from_wide_string c x e w k)
  wide_places None e w k left =
      let t = expr_type c.env e in
      expr_places b c e (show_wide t w k) (λ v. from_expr c w (pad (shown_as t v) k) (from_width c (shown_as t v) k)) left
      (λ v. expr_places b c w (pad (shown_as t v) k) (from_width c (shown_as t v) k) left (λ n. width_places (shown_as t v) k n left))
  wide_places (Some x) e w k left = expr_places b c w (pad x k) (from_width c x k) left (λ n. width_places x k n left)

  written_places : (a : ActualTree) (k : Remainder) → Left k → Comes (from_item c a k)
  written_places (actual e) k left = string_places (as_string e) e k left
  written_places (actual_width e w) k left = wide_places (as_string e) e w k left

  pub writes_place : (args : ActualTrees) (newline : Bool) (k : Remainder) (go : Action) → Left k → Comes go → Comes (from_writes c args newline k go)
  writes_place no_actuals newline k go left on = either b newline (prints c (10 ∷ []) k) go left on
  writes_place (more_actuals a rest) newline k go left on = written_places a (write_on c.line rest newline k) left

  -- ## Input

  input_places : (d : Option DesigTree) (k : Remainder) (go : Action) → Left k → Comes go → Comes (from_input c d k go)
  input_places None k go left on = on
  input_places (Some d) k go left on = let t = desig_type c.env d in desig_places b c d (input_to t k) (λ s. inputs c t s.spot k) left (λ s. left)

  pub reads_place : (args : ActualTrees) (skip : Bool) (k : Remainder) (go : Action) → Left k → Comes go → Comes (from_reads c args skip k go)
  reads_place no_actuals skip k go left on = either b skip (skips c k) go left on
  reads_place (more_actuals a rest) skip k go left on =
      input_places (as_desig (item_of a)) (read_on c.line rest skip k) (from_reads c rest skip k go) left (reads_place rest skip k go left on)

  -- ## Predeclared procedures

  initial_places : (args : ActualTrees) (k : Remainder) (e : Option ExprTree) (go : Action) → Left k → Comes go → Comes (from_initial c args k e go)
  initial_places args k None go left on = on
  initial_places args k (Some e) go left on =
      reference_places b c args (initial_to e k) (λ s. from_expr c e (set_count s.spot k) (λ n. initials c s.spot (ordinal_of n) k)) left
      (λ s. expr_places b c e (set_count s.spot k) (λ n. initials c s.spot (ordinal_of n) k) left (λ n. left))

  pub delay_places : (s : Spot) (e : Option ExprTree) (k : Remainder) → Left k → Comes (from_delay c s e k)
  delay_places s None k left = left
  delay_places s (Some e) k left = expr_places b c e (delay_with s k) (λ n. delays c s (ordinal_of n) k) left (λ n. left)

  procedure_places : (f : Procedure) (args : ActualTrees) (k : Remainder) (go : Action) → Left k → Comes go → Comes (from_procedure c f args k go)
  procedure_places (reader skip) args k go left on = reads_place args skip k go left on
  procedure_places (writer newline) args k go left on = writes_place args newline k go left on
  procedure_places initial args k go left on = initial_places args k (expr_of (behind_first args)) go left on
  procedure_places wait args k go left on = reference_places b c args (wait_at k) (λ s. waits c s.spot k) left (λ s. left)
  procedure_places signal args k go left on = reference_places b c args (signal_at k) (λ s. signals c s.spot k) left (λ s. left)
  procedure_places delay args k go left on =
      let rank = expr_of (behind_first args) in
      reference_places b c args (delay_at rank k) (λ s. from_delay c s.spot rank k) left (λ s. delay_places s.spot rank k left)
  procedure_places resume args k go left on = reference_places b c args (resume_at k) (λ s. resumes c s.spot k) left (λ s. left)
  procedure_places sleep args k go left on = argument_places b c args (sleep_for k) (λ n. sleeps c (ordinal_of n) k) left (λ n. left)
  procedure_places no_procedure args k go left on = on

  -- ## Calls

  activation_places :
      (s : TypedSpot) (ss : SelectorTrees) (formals : List Formal) (args : ActualTrees) (k : Remainder) → Left k
      → Comes (from_activation c s ss formals args k)
  activation_places s ss formals args k left =
      selectors_place b c ss s (activate_with formals args k) (λ p. from_args c formals args [] (to_process p.spot k)) left
      (λ p. args_place b c formals args [] (to_process p.spot k) left)

  entry_call_places :
      (s : TypedSpot) (ss : SelectorTrees) (entry : ℕ) (formals : List Formal) (args : ActualTrees) (k : Remainder) → Left k
      → Comes (from_entry_call c s ss entry formals args k)
  entry_call_places s ss entry formals args k left =
      selectors_place b c ss s (enter_with entry formals args k) (λ p. from_args c formals args [] (to_entry p.spot entry k)) left
      (λ p. args_place b c formals args [] (to_entry p.spot entry k) left)

  module _ (args : ActualTrees) (k : Remainder) (left : Left k) (go : Action) (on : Comes go) where
    entry_places : (n : ℕ) (s : TypedSpot) (ss : SelectorTrees) (m : Option Meaning) → Comes (from_entry c n s ss m args k go)
    entry_places n s ss (Some (Entry entry)) = entry_call_places s ss entry (entry_at c.env.state.blocks n entry) args k left
    entry_places n s ss m = on

    process_places : (s : TypedSpot) (ss : SelectorTrees) (n : Option ℕ) → Comes (from_process c s ss n args k go)
    process_places s ss None = on
    process_places s ss (Some n) = activation_places s ss (process_at c.env.state.blocks n).formals args k left

    field_places : (s : TypedSpot) (ss : SelectorTrees) (n : Option ℕ) (x : Text) → Comes (from_field c s ss n x args k go)
    field_places s ss None x = process_places s ss (process_of_type c.env (selected c.env s.t ss))
    field_places s ss (Some n) x = entry_places n s (before_last ss) (name_in_process c.env.state.blocks n x)

    variable_call_places : (s : TypedSpot) (ss : SelectorTrees) (x : Option (Text × Place)) → Comes (from_called_variable c s ss x args k go)
    variable_call_places s ss None = process_places s ss (process_of_type c.env (selected c.env s.t ss))
    variable_call_places s ss (Some x) = field_places s ss (process_of_type c.env (selected c.env s.t (before_last ss))) x.0

    single_places : (n : ℕ) (s : TypedSpot) (x : Option (Text × Place)) → Comes (from_called_process c n s x args k go)
    single_places n s None = activation_places s no_selectors (process_at c.env.state.blocks n).formals args k left
    single_places n s (Some x) = entry_places n s no_selectors (name_in_process c.env.state.blocks n x.0)

    exported_places : (n : ℕ) (m : Option Meaning) → Comes (from_exported c n m args k go)
    exported_places n (Some (Sub p)) =
        let head : SubHead = sub_at c.env.state.blocks p in args_place b c head.formals args [] (to_module n head.scope k) left
    exported_places n m = on

    module_places : (n : ℕ) (x : Option (Text × Place)) → Comes (from_module c n x args k go)
    module_places n None = on
    module_places n (Some x) = let s = c.env.state.blocks in exported_places n (meaning_in (scope_at s.scopes (module_at s n).scope) x.0)

    called_places : (m : Option Meaning) (s : TypedSpot) (ss : SelectorTrees) → Comes (from_called c m s ss args k go)
    called_places (Some (Predeclared n)) s ss = procedure_places (procedure_of n) args k go left on
    called_places (Some (Sub n)) s ss =
        let head : SubHead = sub_at c.env.state.blocks n in args_place b c head.formals args [] (to_procedure head.scope k) left
    called_places (Some (Module n)) s ss = module_places n (last_field ss)
    called_places (Some (Process n)) s ss = single_places n s (last_field ss)
    called_places (Some (Variable t reference)) s ss = variable_call_places s ss (last_field ss)
    called_places m s ss = on

    requeue_places : (m : Option Meaning) → Comes (from_requeue c m args go)
    requeue_places (Some (Sub n)) =
        let head : SubHead = sub_at c.env.state.blocks n in args_place b c head.formals args [] (to_requeue head.scope) tt
    requeue_places m = on

  call_places : (d : DesigTree) (args : ActualTrees) (k : Remainder) (go : Action) → Left k → Comes go → Comes (from_call c d args k go)
  call_places (desig x ss p) args k go left on =
      let found = find c.env x in called_places args k left go on (meaning_of found) (spot_of c.env found) ss

  -- ## Communication

  pub sent_places : (channel : Spot) (e : Option ExprTree) (k : Remainder) → Left k → Comes (from_sent c channel e k)
  sent_places channel None k left = ((tt, tt), left)
  sent_places channel (Some e) k left =
      expr_places b c e (send_on channel k) (λ v. meets c (plain_open (to_send channel v)) k) left (λ v. ((tt, tt), left))

  send_places : (d : DesigTree) (e : ExprTree) (k : Remainder) → Left k → Comes (from_send c d e k)
  send_places d e k left =
      desig_places b c d (send_to (message_of c e) k) (λ channel. from_sent c channel.spot (message_of c e) k) left
      (λ channel. sent_places channel.spot (message_of c e) k left)

  pub received_places : (channel : Spot) (d : Option DesigTree) (k : Remainder) → Left k → Comes (from_received c channel d k)
  received_places channel None k left = ((tt, tt), left)
  received_places channel (Some d) k left =
      desig_places b c d (receive_into channel k) (λ v. meets c (plain_open (to_receive channel (Some v.spot))) k) left (λ v. ((tt, tt), left))

  receive_places : (d v : DesigTree) (k : Remainder) → Left k → Comes (from_receive c d v k)
  receive_places d v k left =
      desig_places b c d (receive_from (receiver_of c v) k) (λ channel. from_received c channel.spot (receiver_of c v) k) left
      (λ channel. received_places channel.spot (receiver_of c v) k left)

  -- ## Loops

  alone : (n : ℕ) (s : StmtTree) (k : Remainder) → IsPlaced b c.env n (scopes_in s) k → IsPlaced b c.env n (stmts_scopes (more_stmts s no_stmts)) k
  alone n s k placed = subst (λ (x : ℕ). IsPlaced b c.env n x k) (none (scopes_in s)) placed
    where
      none : (x : ℕ) → x ≡ x + 0
      none x = omega arith

  pub pass_begins : (f : Count) (k : Remainder) → PlacesCount b c.env k f → Left k → Comes (begin_pass c f k)
  pass_begins f k placed left = (alone f.next f.pass k placed, (placed, left))

  pub bounds_place : (f : Count) (k : Remainder) (go : Action) → PlacesCount b c.env k f → Left k → Comes go → Comes (from_bounds c f k go)
  bounds_place f k go placed left on = either b (is_past f.down f.kept f.last) go (begin_pass c f k) on (pass_begins f k placed left)

  pub pass_places : (f : Count) (k : Remainder) (go : Action) → PlacesCount b c.env k f → Left k → Comes go → Comes (from_pass c f k go)
  pass_places f k go placed left on = either b (int_eq f.kept f.last) go (turns c (next_pass (next_count f) k)) on (placed, left)

  pub again_places : (n : ℕ) (loop : StmtTree) (k : Remainder) → IsPlaced b c.env n (scopes_in loop) k → Left k → Left (again n loop k)
  again_places n loop k placed left = (alone n loop k placed, left)

  pub until_places :
      (n : ℕ) (loop : StmtTree) (k : Remainder) (go : Action) (v : Value) → IsPlaced b c.env n (scopes_in loop) k → Left k → Comes go
      → Comes (from_until c n loop k go v)
  until_places n loop k go v placed left on = either b (is_true (ordinal_of v)) go (turns c (again n loop k)) on (again_places n loop k placed left)

-- ## Statements

module _ (b : Block) where
  -- behind the one branch of an `if`
  nothing_placed : (env : Env) (n : ℕ) (s : StmtTree) (k : Remainder) → IsPlaced b env n (scopes_in s) k → IsPlaced b env (n + scopes_in s) 0 k
  nothing_placed env n s k placed =
      back b env n k (scopes_in s) 0 (subst (λ (x : ℕ). IsPlaced b env n x k) (none (scopes_in s)) placed)
    where
      none : (x : ℕ) → x ≡ x + 0
      none x = omega arith

  mutual
    pub stmt_places :
        (env : Env) (n : ℕ) (s : StmtTree) (k : Remainder) → IsPlaced b env n (scopes_in s) k → PlacesRemainder b env k → (go : Action)
        → PlacesAction b go → PlacesAction b (from_stmt env n s k go)
    stmt_places env n empty k placed left go on = on
    stmt_places env n (null p) k placed left go on = on
    stmt_places env n (block (body ss first last) p) k placed left go on = stmts_place env n ss k placed left go on
    stmt_places env n (if_then e s p) k placed left go on =
        let c = context env p.line in
        expr_places b c e (choose n s empty k) (λ v. if is_true (ordinal_of v) then from_stmt env n s k go else go)
        (placed, nothing_placed env n s k placed, left)
        (λ v. either b (is_true (ordinal_of v)) (from_stmt env n s k go) go (stmt_places env n s k placed left go on) on)
    stmt_places env n (if_then_else e s t p) k placed left go on =
        let first = front b env n k (scopes_in s) (scopes_in t) placed in
        let second = back b env n k (scopes_in s) (scopes_in t) placed in
        expr_places b (context env p.line) e (choose n s t k)
        (λ v. if is_true (ordinal_of v) then from_stmt env n s k go else from_stmt env (n + scopes_in s) t k go) (first, second, left)
        (λ v. either b (is_true (ordinal_of v)) (from_stmt env n s k go) (from_stmt env (n + scopes_in s) t k go)
        (stmt_places env n s k first left go on) (stmt_places env (n + scopes_in s) t k second left go on))
    stmt_places env n (case_of e arms last p) k placed left go on =
        expr_places b (context env p.line) e (choose_arm n arms k) (λ v. from_arms (context env p.line) n (ordinal_of v) arms k go) (placed, left)
        (λ v. arms_place (context env p.line) n (ordinal_of v) arms k placed left go on)
    stmt_places env n (while_do e s p) k placed left go on =
        let c = context env p.line in
        let way = turns c (again n (while_do e s p) k) in
        expr_places b c e (while_true n e s p k) (λ v. if is_true (ordinal_of v) then from_stmt env n s (turn n (while_do e s p) k) way else go)
        (placed, left)
        (λ v. either b (is_true (ordinal_of v)) (from_stmt env n s (turn n (while_do e s p) k) way) go
        (stmt_places env n s (turn n (while_do e s p) k) placed (placed, left) way (again_places b c n (while_do e s p) k placed left)) on)
    stmt_places env n (repeat_until ss e p) k placed left go on =
        let c = context env p.line in
        let test = from_until c n (repeat_until ss e p) k go in
        stmts_place env n ss (until n ss e p k) placed (placed, left) (from_expr c e (until_true n ss e p k) test)
        (expr_places b c e (until_true n ss e p k) test (placed, left) (λ v. until_places b c n (repeat_until ss e p) k go v placed left on))
    stmt_places env n (repeat_forever ss p) k placed left go on =
        stmts_place env n ss (turn n (repeat_forever ss p) k) placed (placed, left) (turns (context env p.line) (again n (repeat_forever ss p) k))
        (again_places b (context env p.line) n (repeat_forever ss p) k placed left)
    stmt_places env n (for_do x a down e s p q) k placed left go on =
        let c = context env p.line in
        let v = (spot_of env (find env x)).spot in
        expr_places b c a (count_from n v down e s k)
        (λ from. from_expr c e (count_to n v (ordinal_of from) down s k) (λ last. from_bounds c (counting c n v from last down s) k go)) (placed, left)
        (λ from. expr_places b c e (count_to n v (ordinal_of from) down s k) (λ last. from_bounds c (counting c n v from last down s) k go) (placed, left)
        (λ last. bounds_place b c (counting c n v from last down s) k go placed left on))
    stmt_places env n (cobegin ss last p) k placed left go on =
        stmts_place env n ss (at_coend last.line k) placed left (joins (context env last.line) k) left
    stmt_places env n (accepting a p) k placed left go on =
        let c = context env p.line in ((accepted_places b c n a p.line k placed, tt), left)
    stmt_places env n (requeue x args p) k placed left go on =
        requeue_places b (context env p.line) args k left go on (meaning_of (find env x.0))
    stmt_places env n (select pri alts p q) k placed left go on =
        let c = context env p.line in
        alternatives_place b c (alternatives c n alts) (select_begun pri) k (all_places b c n alts k placed) (begun_places b c pri k) left
    stmt_places env n (select_else pri alts ss at p q) k placed left go on =
        let c = context env p.line in
        let otherwise : Otherwise = record { next = n + alts_scopes alts; stmts = ss } in
        alternatives_place b c (alternatives c n alts) (record (select_begun pri) { otherwise = Some otherwise }) k
        (all_places b c n alts k (front b env n k (alts_scopes alts) (stmts_scopes ss) placed))
        (tt, back b env n k (alts_scopes alts) (stmts_scopes ss) placed) left
    stmt_places env n (assign d e p q) k placed left go on = assign_places b (context env p.line) d e k left
    stmt_places env n (send d e p q) k placed left go on = send_places b (context env p.line) d e k left
    stmt_places env n (receive d v p q) k placed left go on = receive_places b (context env p.line) d v k left
    stmt_places env n (call d args p) k placed left go on = call_places b (context env p.line) d args k go left on

    pub stmts_place :
        (env : Env) (n : ℕ) (ss : StmtTrees) (k : Remainder) → IsPlaced b env n (stmts_scopes ss) k → PlacesRemainder b env k → (go : Action)
        → PlacesAction b go → PlacesAction b (from_stmts env n ss k go)
    stmts_place env n no_stmts k placed left go on = on
    stmts_place env n (more_stmts s ss) k placed left go on =
        let first = front b env n k (scopes_in s) (stmts_scopes ss) placed in
        let later = back b env n k (scopes_in s) (stmts_scopes ss) placed in
        stmt_places env n s (behind (n + scopes_in s) ss k) (before_others b env n k (n + scopes_in s) ss (scopes_in s) first)
        (behind_places b env (n + scopes_in s) ss k (placed_stmts b env (n + scopes_in s) k ss later) left) (from_stmts env (n + scopes_in s) ss k go)
        (stmts_place env (n + scopes_in s) ss k later left go on)

    pub arms_place :
        (c : Context) (n : ℕ) (v : ℤ) (arms : ArmTrees) (k : Remainder) → IsPlaced b c.env n (arms_scopes arms) k → PlacesRemainder b c.env k
        → (go : Action) → PlacesAction b go → PlacesAction b (from_arms c n v arms k go)
    arms_place c n v no_arms k placed left go on = tt
    arms_place c n v (more_arms (arm ls s) arms) k placed left go on =
        either b (are_labels c.env v ls) (from_stmt c.env n s k go) (from_arms c (n + arm_scopes (arm ls s)) v arms k go)
        (stmt_places c.env n s k (front b c.env n k (scopes_in s) (arms_scopes arms) placed) left go on)
        (arms_place c (n + arm_scopes (arm ls s)) v arms k (back b c.env n k (scopes_in s) (arms_scopes arms) placed) left go on)
