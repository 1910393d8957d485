-- What comes next in a statement calls what the rules ask.
use Rattle.std.proofs.Common.{ℕ, ◌+◌, ℤ, Bool, if◌then◌else◌, List, [], ◌∷◌, Option, Some, None, Result, Ok, Err}
use Rattle.std.specs.Ordering.{int_eq}
use Rattle.pfc_base.specs.declared.places.Place.{Place}
use Rattle.pfc_base.specs.declared.faults.RunFault.{RunFault}
use Rattle.pfc_tree.specs.Symbols.{Text}
use Rattle.pfc_tree.specs.trees.Exprs.{ExprTree, DesigTree, SelectorTrees, ActualTree, ActualTrees, plain, sum, no_summands, product, no_multipliers}
use Rattle.pfc_tree.specs.trees.Exprs.{applied as used, desig, no_selectors, more_selectors, actual, actual_width, no_actuals, more_actuals}
use Rattle.pfc_tree.specs.trees.Stmts.{StmtTree, StmtTrees, ArmTrees, empty, null, block, if_then, if_then_else, case_of, while_do, repeat_until}
use Rattle.pfc_tree.specs.trees.Stmts.{repeat_forever, for_do, cobegin, accepting, requeue, select, select_else, assign, send, receive, call, no_stmts}
use Rattle.pfc_tree.specs.trees.Stmts.{more_stmts, body, arm, no_arms, more_arms}
use Rattle.pfc_types.specs.Scopes.{meaning_of, meaning_in, scope_at}
use Rattle.pfc_types.specs.Blocks.{sub_at, module_at, process_at, entry_at}
use Rattle.pfc_types.specs.rules.Expressions.{Env, find, as_desig, expr_type, desig_type, selected}
use Rattle.pfc_types.specs.rules.Calls.{last_field, before_last}
use Rattle.pfc_types.specs.rules.Statements.{scopes_in, arm_scopes, alts_scopes, names_any}
use Rattle.pfc_types.specs.declared.scope.Meaning.{Meaning}
use Rattle.pfc_types.specs.declared.scope.Meaning.TheVariants.{Variable, Sub, Module, Process, Entry, Predeclared}
use Rattle.pfc_types.specs.declared.heads.Formal.{Formal}
use Rattle.pfc_types.specs.declared.heads.SubHead.{SubHead}
use Rattle.pfc_values.specs.Numbers.{is_true}
use Rattle.pfc_values.specs.Pieces.{padded}
use Rattle.pfc_semantics.specs.Values.{Value, ordinal_of}
use Rattle.pfc_semantics.specs.Displays.{Spot, TypedSpot}
use Rattle.pfc_semantics.specs.Predeclared.{Procedure, reader, writer, initial, wait, signal, delay, resume, sleep, no_procedure, procedure_of}
use Rattle.pfc_semantics.specs.Programs.{Program}
use Rattle.pfc_guard_laws.specs.Tops.{Standing}
use Rattle.pfc_semantics.specs.Remainders.{Context, Count, Otherwise, Scan, Remainder, Action, to_send, to_receive, turn, until, next_pass, write_on, read_on}
use Rattle.pfc_semantics.specs.Remainders.{at_coend, store_at, choose, choose_arm, while_true, until_true, count_from, count_to, show, show_wide, pad}
use Rattle.pfc_semantics.specs.Remainders.{set_count, delay_with, sleep_for, send_on, assign_to, input_to, activate_with, enter_with, initial_to, wait_at}
use Rattle.pfc_semantics.specs.Remainders.{signal_at, delay_at, resume_at, send_to, receive_from, receive_into, to_procedure, to_module, to_requeue, to_process}
use Rattle.pfc_semantics.specs.Remainders.{to_entry, writes, turns, prints, inputs, skips, joins, initials, waits, signals, delays, resumes, sleeps, meets}
use Rattle.pfc_semantics.specs.Expressions.{spot_of, from_expr, from_args}
use Rattle.pfc_semantics.specs.Alternatives.{context, alternatives, select_begun, message_of, receiver_of}
use Rattle.pfc_semantics.specs.Statements.{behind, from_assign, as_string, from_piece, from_width, shown_as, from_string, from_wide_string, from_item}
use Rattle.pfc_semantics.specs.Statements.{from_writes, item_of, from_input, from_reads, expr_of, behind_first, from_initial, from_delay, from_procedure}
use Rattle.pfc_semantics.specs.Statements.{from_activation, from_entry_call, from_entry, name_in_process, process_of_type, from_process, from_field}
use Rattle.pfc_semantics.specs.Statements.{from_called_variable, from_called_process, from_exported, from_module, from_called, from_call, from_requeue}
use Rattle.pfc_semantics.specs.Statements.{plain_open, from_sent, from_send, from_received, from_receive, is_past, counting, next_count, begin_pass}
use Rattle.pfc_semantics.specs.Statements.{from_bounds, from_pass, again, from_until, are_labels, from_stmt, from_stmts, from_arms}
use Rattle.pfc_guard_laws.specs.Written.{SuitsExport, SuitsModule, SuitsCalled, SuitsRequeue, SuitsExpr, SuitsDesig, SuitSelectors, SuitsActual, SuitActuals}
use Rattle.pfc_guard_laws.specs.Written.{SuitsPerhaps, SuitsTarget, SuitsCall, SuitsStmt, SuitStmts, SuitArms}
use Rattle.pfc_guard_laws.specs.Remainders.{SuitsCount, SuitsRemainder, SuitsAction}
use Rattle.pfc_guard_laws.proofs.Expressions.{either, expr_suits, desig_suits, args_suit, selectors_suit, argument_suits, reference_suits}
use Rattle.pfc_guard_laws.proofs.Alternatives.{perhaps_unless, target_unless, begun_suits, accepted_suits, all_suit, alternatives_suit}

pub behind_suits :
    (g : Program) (standing : Standing) (scanned : Scan → Type 0) (env : Env) (n : ℕ) (ss : StmtTrees) (k : Remainder) → SuitStmts g standing env n ss
    → SuitsRemainder g standing scanned env k → SuitsRemainder g standing scanned env (behind n ss k)
behind_suits g standing scanned env n no_stmts k suits left = left
behind_suits g standing scanned env n (more_stmts s ss) k suits left = (suits, left)

-- what is in an argument
module _ (g : Program) (standing : Standing) (env : Env) where
  item_suits : (a : ActualTree) → SuitsActual g standing env a → SuitsExpr g standing env (item_of a)
  item_suits (actual e) suits = suits
  item_suits (actual_width e w) suits = suits.0

  first_suits : (args : ActualTrees) → SuitActuals g standing env args → SuitsPerhaps g standing env (expr_of args)
  first_suits no_actuals suits = tt
  first_suits (more_actuals a rest) suits = item_suits a suits.0

  others_suit : (args : ActualTrees) → SuitActuals g standing env args → SuitActuals g standing env (behind_first args)
  others_suit no_actuals suits = tt
  others_suit (more_actuals a rest) suits = suits.1

  -- the variable that an expression is
  named_suits : (e : ExprTree) → SuitsExpr g standing env e → SuitsTarget g standing env (as_desig e)
  named_suits (plain (sum None (product (used (desig x ss p) no_actuals r) no_multipliers) no_summands) q) suits = suits.0.0.1
  named_suits e suits = tt

  before_suits : (ss : SelectorTrees) → SuitSelectors g standing env ss → SuitSelectors g standing env (before_last ss)
  before_suits no_selectors suits = tt
  before_suits (more_selectors s no_selectors) suits = tt
  before_suits (more_selectors s (more_selectors t ss)) suits = (suits.0, before_suits (more_selectors t ss) suits.1)

module _ (g : Program) (standing : Standing) (scanned : Scan → Type 0) (c : Context) where
  -- what is left, and what comes next
  abbrev Left : Remainder → Type 0
  Left k = SuitsRemainder g standing scanned c.env k

  abbrev Comes : Action → Type 0
  Comes n = SuitsAction g standing scanned n

  -- ## Assignments and output

  assign_suits : (d : DesigTree) (e : ExprTree) (k : Remainder) → SuitsDesig g standing c.env d →
      SuitsExpr g standing c.env e → Left k → Comes (from_assign c d e k)
  assign_suits d e k target value left =
      desig_suits g standing scanned c d target (assign_to e k) (λ s. from_expr c e (store_at s.spot k) (λ v. writes c s.spot v k)) (value, left)
      (λ s. expr_suits g standing scanned c e value (store_at s.spot k) (λ v. writes c s.spot v k) left (λ v. left))

  piece_suits : (k : Remainder) (o : Result (List ℕ) RunFault) → Left k → Comes (from_piece c k o)
  piece_suits k (Ok bytes) left = left
  piece_suits k (Err f) left = tt

  pub width_suits : (bytes : List ℕ) (k : Remainder) (w : Value) → Left k → Comes (from_width c bytes k w)
  width_suits bytes k w left = piece_suits k (padded (ordinal_of w) bytes) left

  string_suits : (x : Option Text) (e : ExprTree) (k : Remainder) → SuitsExpr g standing c.env e → Left k → Comes (from_string c x e k)
  string_suits None e k suits left =
      let t = expr_type c.env e in expr_suits g standing scanned c e suits (show t k) (λ v. prints c (shown_as t v) k) left (λ v. left)
  string_suits (Some x) e k suits left = left

  wide_suits :
      (x : Option Text) (e w : ExprTree) (k : Remainder) → SuitsExpr g standing c.env e → SuitsExpr g standing c.env w →
      Left k → Comes (from_wide_string c x e w k)
  wide_suits None e w k suits width left =
      let t = expr_type c.env e in
      expr_suits g standing scanned c e suits (show_wide t w k) (λ v. from_expr c w (pad (shown_as t v) k) (from_width c (shown_as t v) k)) (width, left)
      (λ v. expr_suits g standing scanned c w width (pad (shown_as t v) k) (from_width c (shown_as t v) k) left (λ n. width_suits (shown_as t v) k n left))
  wide_suits (Some x) e w k suits width left = expr_suits g standing scanned c w width (pad x k) (from_width c x k) left (λ n. width_suits x k n left)

  written_suits : (a : ActualTree) (k : Remainder) → SuitsActual g standing c.env a → Left k → Comes (from_item c a k)
  written_suits (actual e) k suits left = string_suits (as_string e) e k suits left
  written_suits (actual_width e w) k suits left = wide_suits (as_string e) e w k suits.0 suits.1 left

  pub writes_suit :
      (args : ActualTrees) (newline : Bool) (k : Remainder) (go : Action) → SuitActuals g standing c.env args → Left k → Comes go
      → Comes (from_writes c args newline k go)
  writes_suit no_actuals newline k go suits left on = either g standing scanned newline (prints c (10 ∷ []) k) go left on
  writes_suit (more_actuals a rest) newline k go suits left on = written_suits a (write_on c.line rest newline k) suits.0 (suits.1, left)

  -- ## Input

  input_suits : (d : Option DesigTree) (k : Remainder) (go : Action) → SuitsTarget g standing c.env d → Left k → Comes go → Comes (from_input c d k go)
  input_suits None k go suits left on = on
  input_suits (Some d) k go suits left on =
      let t = desig_type c.env d in desig_suits g standing scanned c d suits (input_to t k) (λ s. inputs c t s.spot k) left (λ s. left)

  pub reads_suit :
      (args : ActualTrees) (skip : Bool) (k : Remainder) (go : Action) → SuitActuals g standing c.env args → Left k →
      Comes go → Comes (from_reads c args skip k go)
  reads_suit no_actuals skip k go suits left on = either g standing scanned skip (skips c k) go left on
  reads_suit (more_actuals a rest) skip k go suits left on =
      input_suits (as_desig (item_of a)) (read_on c.line rest skip k) (from_reads c rest skip k go)
      (named_suits g standing c.env (item_of a) (item_suits g standing c.env a suits.0)) (suits.1, left) (reads_suit rest skip k go suits.1 left on)

  -- ## Predeclared procedures

  initial_suits :
      (args : ActualTrees) (k : Remainder) (e : Option ExprTree) (go : Action) → SuitActuals g standing c.env args → Left k →
      SuitsPerhaps g standing c.env e → Comes go
      → Comes (from_initial c args k e go)
  initial_suits args k None go suits left count on = on
  initial_suits args k (Some e) go suits left count on =
      reference_suits g standing scanned c args suits (initial_to e k)
      (λ s. from_expr c e (set_count s.spot k) (λ n. initials c s.spot (ordinal_of n) k)) (count, left)
      (λ s. expr_suits g standing scanned c e count (set_count s.spot k) (λ n. initials c s.spot (ordinal_of n) k) left (λ n. left))

  pub delay_suits : (s : Spot) (e : Option ExprTree) (k : Remainder) → SuitsPerhaps g standing c.env e → Left k → Comes (from_delay c s e k)
  delay_suits s None k suits left = left
  delay_suits s (Some e) k suits left =
      expr_suits g standing scanned c e suits (delay_with s k) (λ n. delays c s (ordinal_of n) k) left (λ n. left)

  procedure_suits :
      (f : Procedure) (args : ActualTrees) (k : Remainder) (go : Action) → SuitActuals g standing c.env args → Left k → Comes go
      → Comes (from_procedure c f args k go)
  procedure_suits (reader skip) args k go suits left on = reads_suit args skip k go suits left on
  procedure_suits (writer newline) args k go suits left on = writes_suit args newline k go suits left on
  procedure_suits initial args k go suits left on =
      initial_suits args k (expr_of (behind_first args)) go suits left (first_suits g standing c.env (behind_first args)
      (others_suit g standing c.env args suits)) on
  procedure_suits wait args k go suits left on =
      reference_suits g standing scanned c args suits (wait_at k) (λ s. waits c s.spot k) left (λ s. left)
  procedure_suits signal args k go suits left on =
      reference_suits g standing scanned c args suits (signal_at k) (λ s. signals c s.spot k) left (λ s. left)
  procedure_suits delay args k go suits left on =
      let rank = expr_of (behind_first args) in
      let given = first_suits g standing c.env (behind_first args) (others_suit g standing c.env args suits) in
      reference_suits g standing scanned c args suits (delay_at rank k) (λ s. from_delay c s.spot rank k) (given, left)
      (λ s. delay_suits s.spot rank k given left)
  procedure_suits resume args k go suits left on =
      reference_suits g standing scanned c args suits (resume_at k) (λ s. resumes c s.spot k) left (λ s. left)
  procedure_suits sleep args k go suits left on =
      argument_suits g standing scanned c args suits (sleep_for k) (λ n. sleeps c (ordinal_of n) k) left (λ n. left)
  procedure_suits no_procedure args k go suits left on = on

  -- ## Calls

  activation_suits :
      (s : TypedSpot) (ss : SelectorTrees) (formals : List Formal) (args : ActualTrees) (k : Remainder) → SuitSelectors g standing c.env ss
      → SuitActuals g standing c.env args → Left k → Comes (from_activation c s ss formals args k)
  activation_suits s ss formals args k reached suits left =
      selectors_suit g standing scanned c ss reached s (activate_with formals args k) (λ p. from_args c formals args [] (to_process p.spot k)) (suits, left)
      (λ p. args_suit g standing scanned c formals args suits [] (to_process p.spot k) left)

  entry_call_suits :
      (s : TypedSpot) (ss : SelectorTrees) (entry : ℕ) (formals : List Formal) (args : ActualTrees) (k : Remainder) → SuitSelectors g standing c.env ss
      → SuitActuals g standing c.env args → Left k → Comes (from_entry_call c s ss entry formals args k)
  entry_call_suits s ss entry formals args k reached suits left =
      selectors_suit g standing scanned c ss reached s (enter_with entry formals args k) (λ p. from_args c formals args [] (to_entry p.spot entry k))
      (suits, left) (λ p. args_suit g standing scanned c formals args suits [] (to_entry p.spot entry k) left)

  module _ (args : ActualTrees) (suits : SuitActuals g standing c.env args) (k : Remainder) (left : Left k) (go : Action) (on : Comes go) where
    entry_suits : (n : ℕ) (s : TypedSpot) (ss : SelectorTrees) (m : Option Meaning) → SuitSelectors g standing c.env ss →
        Comes (from_entry c n s ss m args k go)
    entry_suits n s ss (Some (Entry entry)) reached = entry_call_suits s ss entry (entry_at c.env.state.blocks n entry) args k reached suits left
    entry_suits n s ss m reached = on

    process_suits : (s : TypedSpot) (ss : SelectorTrees) (n : Option ℕ) → SuitSelectors g standing c.env ss → Comes (from_process c s ss n args k go)
    process_suits s ss None reached = on
    process_suits s ss (Some n) reached = activation_suits s ss (process_at c.env.state.blocks n).formals args k reached suits left

    field_suits : (s : TypedSpot) (ss : SelectorTrees) (n : Option ℕ) (x : Text) → SuitSelectors g standing c.env ss → Comes (from_field c s ss n x args k go)
    field_suits s ss None x reached = process_suits s ss (process_of_type c.env (selected c.env s.t ss)) reached
    field_suits s ss (Some n) x reached =
        entry_suits n s (before_last ss) (name_in_process c.env.state.blocks n x) (before_suits g standing c.env ss reached)

    variable_call_suits :
        (s : TypedSpot) (ss : SelectorTrees) (x : Option (Text × Place)) → SuitSelectors g standing c.env ss → Comes (from_called_variable c s ss x args k go)
    variable_call_suits s ss None reached = process_suits s ss (process_of_type c.env (selected c.env s.t ss)) reached
    variable_call_suits s ss (Some x) reached = field_suits s ss (process_of_type c.env (selected c.env s.t (before_last ss))) x.0 reached

    single_suits : (n : ℕ) (s : TypedSpot) (x : Option (Text × Place)) → Comes (from_called_process c n s x args k go)
    single_suits n s None = activation_suits s no_selectors (process_at c.env.state.blocks n).formals args k tt suits left
    single_suits n s (Some x) = entry_suits n s no_selectors (name_in_process c.env.state.blocks n x.0) tt

    exported_suits : (n : ℕ) (m : Option Meaning) → SuitsExport g standing c.env n m → Comes (from_exported c n m args k go)
    exported_suits n (Some (Sub p)) entered =
        let head : SubHead = sub_at c.env.state.blocks p in
        args_suit g standing scanned c head.formals args suits [] (to_module n head.scope k) (entered, left)
    exported_suits n m entered = on

    module_suits : (n : ℕ) (x : Option (Text × Place)) → SuitsModule g standing c.env n x → Comes (from_module c n x args k go)
    module_suits n None named = on
    module_suits n (Some x) named =
        let b = c.env.state.blocks in exported_suits n (meaning_in (scope_at b.scopes (module_at b n).scope) x.0) named

    called_suits :
        (m : Option Meaning) (s : TypedSpot) (ss : SelectorTrees) → SuitsCalled g standing c.env m ss → SuitSelectors g standing c.env ss
        → Comes (from_called c m s ss args k go)
    called_suits (Some (Predeclared n)) s ss named reached = procedure_suits (procedure_of n) args k go suits left on
    called_suits (Some (Sub n)) s ss named reached =
        let head : SubHead = sub_at c.env.state.blocks n in
        args_suit g standing scanned c head.formals args suits [] (to_procedure head.scope k) (named, left)
    called_suits (Some (Module n)) s ss named reached = module_suits n (last_field ss) named
    called_suits (Some (Process n)) s ss named reached = single_suits n s (last_field ss)
    called_suits (Some (Variable t reference)) s ss named reached = variable_call_suits s ss (last_field ss) reached
    called_suits m s ss named reached = on

    requeue_suits : (m : Option Meaning) → SuitsRequeue g standing c.env m → Comes (from_requeue c m args go)
    requeue_suits (Some (Sub n)) named =
        let head : SubHead = sub_at c.env.state.blocks n in args_suit g standing scanned c head.formals args suits [] (to_requeue head.scope) named
    requeue_suits m named = on

  call_suits :
      (d : DesigTree) (args : ActualTrees) (k : Remainder) (go : Action) → SuitsCall g standing c.env d args → Left k →
      Comes go → Comes (from_call c d args k go)
  call_suits (desig x ss p) args k go suits left on =
      let found = find c.env x in called_suits args suits.2 k left go on (meaning_of found) (spot_of c.env found) ss suits.0 suits.1

  -- ## Communication

  pub sent_suits : (channel : Spot) (e : Option ExprTree) (k : Remainder) → SuitsPerhaps g standing c.env e → Left k → Comes (from_sent c channel e k)
  sent_suits channel None k suits left = ((tt, tt), left)
  sent_suits channel (Some e) k suits left =
      expr_suits g standing scanned c e suits (send_on channel k) (λ v. meets c (plain_open (to_send channel v)) k) left (λ v. ((tt, tt), left))

  send_suits : (d : DesigTree) (e : ExprTree) (k : Remainder) → SuitsDesig g standing c.env d →
      SuitsExpr g standing c.env e → Left k → Comes (from_send c d e k)
  send_suits d e k reached suits left =
      let message = perhaps_unless g standing c (names_any c.env (as_desig e)) e suits in
      desig_suits g standing scanned c d reached (send_to (message_of c e) k) (λ channel. from_sent c channel.spot (message_of c e) k) (message, left)
      (λ channel. sent_suits channel.spot (message_of c e) k message left)

  pub received_suits : (channel : Spot) (d : Option DesigTree) (k : Remainder) → SuitsTarget g standing c.env d → Left k → Comes (from_received c channel d k)
  received_suits channel None k suits left = ((tt, tt), left)
  received_suits channel (Some d) k suits left =
      desig_suits g standing scanned c d suits (receive_into channel k) (λ v. meets c (plain_open (to_receive channel (Some v.spot))) k) left
      (λ v. ((tt, tt), left))

  receive_suits : (d v : DesigTree) (k : Remainder) → SuitsDesig g standing c.env d → SuitsDesig g standing c.env v → Left k → Comes (from_receive c d v k)
  receive_suits d v k reached suits left =
      let target = target_unless g standing c (names_any c.env (Some v)) v suits in
      desig_suits g standing scanned c d reached (receive_from (receiver_of c v) k) (λ channel. from_received c channel.spot (receiver_of c v) k) (target, left)
      (λ channel. received_suits channel.spot (receiver_of c v) k target left)

  -- ## Loops

  pub pass_begins : (f : Count) (k : Remainder) → SuitsCount g standing c.env f → Left k → Comes (begin_pass c f k)
  pass_begins f k suits left = ((suits, tt), (suits, left))

  pub bounds_suit :
      (f : Count) (k : Remainder) (go : Action) → SuitsCount g standing c.env f → Left k → Comes go → Comes (from_bounds c f k go)
  bounds_suit f k go suits left on = either g standing scanned (is_past f.down f.kept f.last) go (begin_pass c f k) on (pass_begins f k suits left)

  pub pass_suits : (f : Count) (k : Remainder) (go : Action) → SuitsCount g standing c.env f → Left k → Comes go → Comes (from_pass c f k go)
  pass_suits f k go suits left on = either g standing scanned (int_eq f.kept f.last) go (turns c (next_pass (next_count f) k)) on (suits, left)

  pub until_suits :
      (n : ℕ) (loop : StmtTree) (k : Remainder) (go : Action) (v : Value) → SuitsStmt g standing c.env n loop → Left k → Comes go
      → Comes (from_until c n loop k go v)
  until_suits n loop k go v suits left on = either g standing scanned (is_true (ordinal_of v)) go (turns c (again n loop k)) on ((suits, tt), left)

-- ## Statements

module _ (g : Program) (standing : Standing) (scanned : Scan → Type 0) where
  mutual
    pub stmt_suits :
        (env : Env) (n : ℕ) (s : StmtTree) → SuitsStmt g standing env n s → (k : Remainder) → SuitsRemainder g standing scanned env k → (go : Action)
        → SuitsAction g standing scanned go → SuitsAction g standing scanned (from_stmt env n s k go)
    stmt_suits env n empty suits k left go on = on
    stmt_suits env n (null p) suits k left go on = on
    stmt_suits env n (block (body ss first last) p) suits k left go on = stmts_suit env n ss suits k left go on
    stmt_suits env n (if_then e s p) suits k left go on =
        expr_suits g standing scanned (context env p.line) e suits.0 (choose n s empty k) (λ v. if is_true (ordinal_of v) then from_stmt env n s k go else go)
        (suits.1, tt, left)
        (λ v. either g standing scanned (is_true (ordinal_of v)) (from_stmt env n s k go) go (stmt_suits env n s suits.1 k left go on) on)
    stmt_suits env n (if_then_else e s t p) suits k left go on =
        expr_suits g standing scanned (context env p.line) e suits.0 (choose n s t k)
        (λ v. if is_true (ordinal_of v) then from_stmt env n s k go else from_stmt env (n + scopes_in s) t k go) (suits.1, suits.2, left)
        (λ v. either g standing scanned (is_true (ordinal_of v)) (from_stmt env n s k go) (from_stmt env (n + scopes_in s) t k go)
        (stmt_suits env n s suits.1 k left go on) (stmt_suits env (n + scopes_in s) t suits.2 k left go on))
    stmt_suits env n (case_of e arms last p) suits k left go on =
        expr_suits g standing scanned (context env p.line) e suits.0 (choose_arm n arms k) (λ v. from_arms (context env p.line) n (ordinal_of v) arms k go)
        (suits.1, left) (λ v. arms_suit (context env p.line) n (ordinal_of v) arms suits.1 k left go on)
    stmt_suits env n (while_do e s p) suits k left go on =
        let c = context env p.line in
        let way = turns c (again n (while_do e s p) k) in
        expr_suits g standing scanned c e suits.0 (while_true n e s p k)
        (λ v. if is_true (ordinal_of v) then from_stmt env n s (turn n (while_do e s p) k) way else go) (suits.0, suits.1, left)
        (λ v. either g standing scanned (is_true (ordinal_of v)) (from_stmt env n s (turn n (while_do e s p) k) way) go
        (stmt_suits env n s suits.1 (turn n (while_do e s p) k) (suits, left) way ((suits, tt), left)) on)
    stmt_suits env n (repeat_until ss e p) suits k left go on =
        let c = context env p.line in
        let test = from_until c n (repeat_until ss e p) k go in
        stmts_suit env n ss suits.0 (until n ss e p k) (suits.0, suits.1, left) (from_expr c e (until_true n ss e p k) test)
        (expr_suits g standing scanned c e suits.1 (until_true n ss e p k) test (suits.0, suits.1, left)
        (λ v. until_suits g standing scanned c n (repeat_until ss e p) k go v suits left on))
    stmt_suits env n (repeat_forever ss p) suits k left go on =
        stmts_suit env n ss suits (turn n (repeat_forever ss p) k) (suits, left) (turns (context env p.line) (again n (repeat_forever ss p) k))
        ((suits, tt), left)
    stmt_suits env n (for_do x a down b s p q) suits k left go on =
        let c = context env p.line in
        let v = (spot_of env (find env x)).spot in
        expr_suits g standing scanned c a suits.0 (count_from n v down b s k)
        (λ from. from_expr c b (count_to n v (ordinal_of from) down s k) (λ last. from_bounds c (counting c n v from last down s) k go))
        (suits.1, suits.2, left)
        (λ from. expr_suits g standing scanned c b suits.1 (count_to n v (ordinal_of from) down s k)
        (λ last. from_bounds c (counting c n v from last down s) k go) (suits.2, left)
        (λ last. bounds_suit g standing scanned c (counting c n v from last down s) k go suits.2 left on))
    stmt_suits env n (cobegin ss last p) suits k left go on =
        stmts_suit env n ss suits (at_coend last.line k) left (joins (context env last.line) k) left
    stmt_suits env n (accepting a p) suits k left go on =
        let c = context env p.line in ((accepted_suits g standing c n a p.line suits, tt), left)
    stmt_suits env n (requeue x args p) suits k left go on =
        requeue_suits g standing scanned (context env p.line) args suits.1 k left go on (meaning_of (find env x.0)) suits.0
    stmt_suits env n (select pri alts p q) suits k left go on =
        let c = context env p.line in
        alternatives_suit g standing scanned c (alternatives c n alts) (all_suit g standing c n alts suits)
        (select_begun pri) (begun_suits g standing c pri) k left
    stmt_suits env n (select_else pri alts ss at p q) suits k left go on =
        let c = context env p.line in
        let otherwise : Otherwise = record { next = n + alts_scopes alts; stmts = ss } in
        alternatives_suit g standing scanned c (alternatives c n alts) (all_suit g standing c n alts suits.0)
        (record (select_begun pri) { otherwise = Some otherwise }) (tt, suits.1) k left
    stmt_suits env n (assign d e p q) suits k left go on = assign_suits g standing scanned (context env p.line) d e k suits.0 suits.1 left
    stmt_suits env n (send d e p q) suits k left go on = send_suits g standing scanned (context env p.line) d e k suits.0 suits.1 left
    stmt_suits env n (receive d v p q) suits k left go on = receive_suits g standing scanned (context env p.line) d v k suits.0 suits.1 left
    stmt_suits env n (call d args p) suits k left go on = call_suits g standing scanned (context env p.line) d args k go suits left on

    pub stmts_suit :
        (env : Env) (n : ℕ) (ss : StmtTrees) → SuitStmts g standing env n ss → (k : Remainder) → SuitsRemainder g standing scanned env k → (go : Action)
        → SuitsAction g standing scanned go → SuitsAction g standing scanned (from_stmts env n ss k go)
    stmts_suit env n no_stmts suits k left go on = on
    stmts_suit env n (more_stmts s ss) suits k left go on =
        stmt_suits env n s suits.0 (behind (n + scopes_in s) ss k) (behind_suits g standing scanned env (n + scopes_in s) ss k suits.1 left)
        (from_stmts env (n + scopes_in s) ss k go) (stmts_suit env (n + scopes_in s) ss suits.1 k left go on)

    pub arms_suit :
        (c : Context) (n : ℕ) (v : ℤ) (arms : ArmTrees) → SuitArms g standing c.env n arms → (k : Remainder) → SuitsRemainder g standing scanned c.env k
        → (go : Action) → SuitsAction g standing scanned go → SuitsAction g standing scanned (from_arms c n v arms k go)
    arms_suit c n v no_arms suits k left go on = tt
    arms_suit c n v (more_arms (arm ls s) arms) suits k left go on =
        either g standing scanned (are_labels c.env v ls) (from_stmt c.env n s k go) (from_arms c (n + arm_scopes (arm ls s)) v arms k go)
        (stmt_suits c.env n s suits.0 k left go on) (arms_suit c (n + arm_scopes (arm ls s)) v arms suits.1 k left go on)
