-- What comes next in a statement has only numbers of 32 bits.
use Rattle.std.proofs.Common.{◌≡◌, ℕ, ◌+◌, ℤ, Bool, true, false, if◌then◌else◌, List, [], ◌∷◌, Option, Some, None, Result, Ok, Err, refl, arith}
use Rattle.std.proofs.lemmas.Bool.Decides.{nat_tests}
use Rattle.std.specs.Ordering.{int_eq}
use Rattle.pfc_base.specs.declared.places.Place.{Place}
use Rattle.pfc_base.specs.declared.faults.RunFault.{RunFault}
use Rattle.pfc_tree.specs.Symbols.{Text}
use Rattle.pfc_tree.specs.trees.Exprs.{ExprTree, DesigTree, SelectorTrees, ActualTree, ActualTrees, plain, sum, no_summands, product, no_multipliers}
use Rattle.pfc_tree.specs.trees.Exprs.{applied as used, desig, no_selectors, more_selectors, actual, actual_width, no_actuals, more_actuals}
use Rattle.pfc_tree.specs.trees.Stmts.{StmtTree, StmtTrees, ArmTrees, empty, null, block, if_then, if_then_else, case_of, while_do, repeat_until}
use Rattle.pfc_tree.specs.trees.Stmts.{repeat_forever, for_do, cobegin, accepting, requeue, select, select_else, assign, send, receive, call, no_stmts}
use Rattle.pfc_tree.specs.trees.Stmts.{more_stmts, body, arm, no_arms, more_arms}
use Rattle.pfc_types.specs.Scopes.{meaning_of, meaning_in, scope_at}
use Rattle.pfc_types.specs.Blocks.{sub_at, module_at, process_at, entry_at}
use Rattle.pfc_types.specs.rules.Expressions.{Env, find, as_desig, expr_type, desig_type, selected}
use Rattle.pfc_types.specs.rules.Calls.{last_field, before_last}
use Rattle.pfc_types.specs.rules.Statements.{scopes_in, arm_scopes, alts_scopes, names_any}
use Rattle.pfc_types.specs.declared.scope.Meaning.{Meaning}
use Rattle.pfc_types.specs.declared.scope.Meaning.TheVariants.{Variable, Sub, Module, Process, Entry, Predeclared}
use Rattle.pfc_types.specs.declared.heads.Formal.{Formal}
use Rattle.pfc_types.specs.declared.heads.SubHead.{SubHead}
use Rattle.pfc_values.specs.Numbers.{is_true}
use Rattle.pfc_values.specs.Pieces.{padded}
use Rattle.pfc_semantics.specs.Values.{Value, ordinal_of}
use Rattle.pfc_semantics.specs.Displays.{Spot, TypedSpot}
use Rattle.pfc_semantics.specs.Predeclared.{Procedure, reader, writer, initial, wait, signal, delay, resume, sleep, no_procedure, procedure_of}
use Rattle.pfc_semantics.specs.Remainders.{Context, Count, Otherwise, Remainder, Action, to_send, to_receive, turn, until, next_pass, write_on, read_on}
use Rattle.pfc_semantics.specs.Remainders.{at_coend, store_at, choose, choose_arm, while_true, until_true, count_from, count_to, show, show_wide, pad}
use Rattle.pfc_semantics.specs.Remainders.{set_count, delay_with, sleep_for, send_on, assign_to, input_to, activate_with, enter_with, initial_to, wait_at}
use Rattle.pfc_semantics.specs.Remainders.{signal_at, delay_at, resume_at, send_to, receive_from, receive_into, to_procedure, to_module, to_requeue, to_process}
use Rattle.pfc_semantics.specs.Remainders.{to_entry, writes, turns, prints, inputs, skips, joins, initials, waits, signals, delays, resumes, sleeps, meets}
use Rattle.pfc_semantics.specs.Expressions.{spot_of, from_expr, from_args}
use Rattle.pfc_semantics.specs.Alternatives.{context, alternatives, select_begun, message_of, receiver_of}
use Rattle.pfc_semantics.specs.Statements.{behind, from_assign, as_string, from_piece, from_width, shown_as, from_string, from_wide_string, from_item}
use Rattle.pfc_semantics.specs.Statements.{from_writes, item_of, from_input, from_reads, expr_of, behind_first, from_initial, from_delay, from_procedure}
use Rattle.pfc_semantics.specs.Statements.{from_activation, from_entry_call, from_entry, name_in_process, process_of_type, from_process, from_field}
use Rattle.pfc_semantics.specs.Statements.{from_called_variable, from_called_process, from_exported, from_module, from_called, from_call, from_requeue}
use Rattle.pfc_semantics.specs.Statements.{plain_open, from_sent, from_send, from_received, from_receive, is_past, next_kept, counting, next_count, begin_pass}
use Rattle.pfc_semantics.specs.Statements.{from_bounds, from_pass, again, from_until, are_labels, from_stmt, from_stmts, from_arms}
use Rattle.pfc_run_invariants.specs.Fitting.{Fits}
use Rattle.pfc_run_invariants.specs.Written.{FitsExpr, FitsDesig, FitSelectors, FitsActual, FitActuals, FitsPerhaps, FitsTarget, FitsStmt, FitStmts, FitArms}
use Rattle.pfc_run_invariants.specs.Remainders.{FitsEnv, FitsCount, FitsRemainder, FitsAction}
use Rattle.pfc_run_invariants.proofs.Expressions.{either, ordinal_fits, expr_fits, desig_fits, args_fit, selectors_fit, argument_fits, reference_fits}
use Rattle.pfc_run_invariants.proofs.Alternatives.{perhaps_unless, target_unless, begun_fits, accepted_fits, all_fit, alternatives_fit}
use Rattle.pfc_semantics.specs.Configurations.{Mark, plain}
use Rattle.pfc_run_invariants.specs.Asked.{Asked, IsClosed}

-- what is in an argument
item_fits : (a : ActualTree) → FitsActual a → FitsExpr (item_of a)
item_fits (actual e) fits = fits
item_fits (actual_width e w) fits = fits.0

first_fits : (args : ActualTrees) → FitActuals args → FitsPerhaps (expr_of args)
first_fits no_actuals fits = tt
first_fits (more_actuals a rest) fits = item_fits a fits.0

others_fit : (args : ActualTrees) → FitActuals args → FitActuals (behind_first args)
others_fit no_actuals fits = tt
others_fit (more_actuals a rest) fits = fits.1

-- the variable that an expression is
named_fits : (e : ExprTree) → FitsExpr e → FitsTarget (as_desig e)
named_fits (plain (sum None (product (used d no_actuals p) no_multipliers) no_summands) q) fits = fits.0.0.0
named_fits e fits = tt

before_fits : (ss : SelectorTrees) → FitSelectors ss → FitSelectors (before_last ss)
before_fits no_selectors fits = tt
before_fits (more_selectors s no_selectors) fits = tt
before_fits (more_selectors s (more_selectors t ss)) fits = (fits.0, before_fits (more_selectors t ss) fits.1)

-- a kept value that is not the last has a next one
next_fits :
    (down : Bool) (kept last : ℤ) → Fits kept → Fits last → is_past down kept last ≡ false → int_eq kept last ≡ false
    → Fits (next_kept down kept) × (is_past down (next_kept down kept) last ≡ false)
next_fits true kept last first second before other = (grind (arith, nat_tests), grind (arith, nat_tests))
next_fits false kept last first second before other = (grind (arith, nat_tests), grind (arith, nat_tests))

module _ (law : Asked) (who : ℕ) (ms : List Mark) (closed : IsClosed law) where
  pub behind_fits : (n : ℕ) (ss : StmtTrees) (k : Remainder) → FitStmts law.accept n ss → FitsRemainder law who ms k → FitsRemainder law who ms (behind n ss k)
  behind_fits n no_stmts k fits left = left
  behind_fits n (more_stmts s ss) k fits left = (fits, left)

  module _ (c : Context) (known : FitsEnv law who ms c.env) where
    -- ## Assignments and output

    assign_fits : (d : DesigTree) (e : ExprTree) (k : Remainder) → FitsDesig d → FitsExpr e → FitsRemainder law who ms k →
        FitsAction law who ms (from_assign c d e k)
    assign_fits d e k target value left =
        desig_fits law who ms closed c known d target (assign_to e k) (λ s. from_expr c e (store_at s.spot k) (λ v. writes c s.spot v k)) (value, left)
        (λ s there. expr_fits law who ms closed c known e value (store_at s.spot k) (λ v. writes c s.spot v k) left (λ v given. (known, given, left)))

    piece_fits : (k : Remainder) (o : Result (List ℕ) RunFault) → FitsRemainder law who ms k → FitsAction law who ms (from_piece c k o)
    piece_fits k (Ok bytes) left = (known, left)
    piece_fits k (Err f) left = tt

    pub width_fits : (bytes : List ℕ) (k : Remainder) (w : Value) → FitsRemainder law who ms k → FitsAction law who ms (from_width c bytes k w)
    width_fits bytes k w left = piece_fits k (padded (ordinal_of w) bytes) left

    string_fits : (x : Option Text) (e : ExprTree) (k : Remainder) → FitsExpr e → FitsRemainder law who ms k → FitsAction law who ms (from_string c x e k)
    string_fits None e k fits left =
        let t = expr_type c.env e in
        expr_fits law who ms closed c known e fits (show t k) (λ v. prints c (shown_as t v) k) left (λ v given. (known, left))
    string_fits (Some x) e k fits left = (known, left)

    wide_fits : (x : Option Text) (e w : ExprTree) (k : Remainder) → FitsExpr e → FitsExpr w → FitsRemainder law who ms k →
        FitsAction law who ms (from_wide_string c x e w k)
    wide_fits None e w k fits width left =
        let t = expr_type c.env e in
        expr_fits law who ms closed c known e fits (show_wide t w k) (λ v. from_expr c w (pad (shown_as t v) k) (from_width c (shown_as t v) k)) (width, left)
        (λ v given. expr_fits law who ms closed c known w width (pad (shown_as t v) k) (from_width c (shown_as t v) k) left
        (λ n wide. width_fits (shown_as t v) k n left))
    wide_fits (Some x) e w k fits width left = expr_fits law who ms closed c known w width (pad x k) (from_width c x k) left (λ n wide. width_fits x k n left)

    written_fits : (a : ActualTree) (k : Remainder) → FitsActual a → FitsRemainder law who ms k → FitsAction law who ms (from_item c a k)
    written_fits (actual e) k fits left = string_fits (as_string e) e k fits left
    written_fits (actual_width e w) k fits left = wide_fits (as_string e) e w k fits.0 fits.1 left

    pub writes_fit :
        (args : ActualTrees) (newline : Bool) (k : Remainder) (go : Action) → FitActuals args → FitsRemainder law who ms k → FitsAction law who ms go
        → FitsAction law who ms (from_writes c args newline k go)
    writes_fit no_actuals newline k go fits left on = either law who ms closed newline (prints c (10 ∷ []) k) go (known, left) on
    writes_fit (more_actuals a rest) newline k go fits left on = written_fits a (write_on c.line rest newline k) fits.0 (fits.1, left)

    -- ## Input

    input_fits : (d : Option DesigTree) (k : Remainder) (go : Action) → FitsTarget d → FitsRemainder law who ms k → FitsAction law who ms go →
        FitsAction law who ms (from_input c d k go)
    input_fits None k go fits left on = on
    input_fits (Some d) k go fits left on =
        let t = desig_type c.env d in desig_fits law who ms closed c known d fits (input_to t k) (λ s. inputs c t s.spot k) left (λ s there. (known, left))

    pub reads_fit :
        (args : ActualTrees) (skip : Bool) (k : Remainder) (go : Action) → FitActuals args → FitsRemainder law who ms k → FitsAction law who ms go
        → FitsAction law who ms (from_reads c args skip k go)
    reads_fit no_actuals skip k go fits left on = either law who ms closed skip (skips c k) go (known, left) on
    reads_fit (more_actuals a rest) skip k go fits left on =
        input_fits (as_desig (item_of a)) (read_on c.line rest skip k) (from_reads c rest skip k go)
        (named_fits (item_of a) (item_fits a fits.0)) (fits.1, left)
        (reads_fit rest skip k go fits.1 left on)

    -- ## Predeclared procedures

    initial_fits :
        (args : ActualTrees) (k : Remainder) (e : Option ExprTree) (go : Action) → FitActuals args → FitsRemainder law who ms k →
        FitsPerhaps e → FitsAction law who ms go
        → FitsAction law who ms (from_initial c args k e go)
    initial_fits args k None go fits left count on = on
    initial_fits args k (Some e) go fits left count on =
        reference_fits law who ms closed c known args fits (initial_to e k) (λ s. from_expr c e (set_count s.spot k)
        (λ n. initials c s.spot (ordinal_of n) k)) (count, left)
        (λ s there. expr_fits law who ms closed c known e count (set_count s.spot k) (λ n. initials c s.spot (ordinal_of n) k) left
        (λ n given. (known, ordinal_fits n given, left)))

    pub delay_fits : (s : Spot) (e : Option ExprTree) (k : Remainder) → FitsPerhaps e → FitsRemainder law who ms k → FitsAction law who ms (from_delay c s e k)
    delay_fits s None k fits left = (known, refl, left)
    delay_fits s (Some e) k fits left =
        expr_fits law who ms closed c known e fits (delay_with s k) (λ n. delays c s (ordinal_of n) k) left (λ n given. (known, ordinal_fits n given, left))

    procedure_fits :
        (f : Procedure) (args : ActualTrees) (k : Remainder) (go : Action) → FitActuals args → FitsRemainder law who ms k → FitsAction law who ms go
        → FitsAction law who ms (from_procedure c f args k go)
    procedure_fits (reader skip) args k go fits left on = reads_fit args skip k go fits left on
    procedure_fits (writer newline) args k go fits left on = writes_fit args newline k go fits left on
    procedure_fits initial args k go fits left on =
        initial_fits args k (expr_of (behind_first args)) go fits left (first_fits (behind_first args) (others_fit args fits)) on
    procedure_fits wait args k go fits left on =
        reference_fits law who ms closed c known args fits (wait_at k) (λ s. waits c s.spot k) left (λ s there. (known, left))
    procedure_fits signal args k go fits left on =
        reference_fits law who ms closed c known args fits (signal_at k) (λ s. signals c s.spot k) left (λ s there. (known, left))
    procedure_fits delay args k go fits left on =
        let rank = expr_of (behind_first args) in
        let given = first_fits (behind_first args) (others_fit args fits) in
        reference_fits law who ms closed c known args fits (delay_at rank k) (λ s. from_delay c s.spot rank k) (given, left)
        (λ s there. delay_fits s.spot rank k given left)
    procedure_fits resume args k go fits left on =
        reference_fits law who ms closed c known args fits (resume_at k) (λ s. resumes c s.spot k) left (λ s there. (known, there, left))
    procedure_fits sleep args k go fits left on =
        argument_fits law who ms closed c known args fits (sleep_for k) (λ n. sleeps c (ordinal_of n) k) left (λ n given. (known, left))
    procedure_fits no_procedure args k go fits left on = on

    -- ## Calls

    activation_fits :
        (s : TypedSpot) (ss : SelectorTrees) (formals : List Formal) (args : ActualTrees) (k : Remainder) → FitSelectors ss ×
        law.spot who ms s.spot.scope → FitActuals args
        → FitsRemainder law who ms k → FitsAction law who ms (from_activation c s ss formals args k)
    activation_fits s ss formals args k reached fits left =
        selectors_fit law who ms closed c known ss reached.0 s reached.1 (activate_with formals args k)
        (λ p. from_args c formals args [] (to_process p.spot k)) (fits, left)
        (λ p there. args_fit law who ms closed c known formals args fits [] tt (to_process p.spot k) left)

    entry_call_fits :
        (s : TypedSpot) (ss : SelectorTrees) (entry : ℕ) (formals : List Formal) (args : ActualTrees) (k : Remainder) → FitSelectors ss ×
        law.spot who ms s.spot.scope → FitActuals args
        → FitsRemainder law who ms k → FitsAction law who ms (from_entry_call c s ss entry formals args k)
    entry_call_fits s ss entry formals args k reached fits left =
        selectors_fit law who ms closed c known ss reached.0 s reached.1 (enter_with entry formals args k)
        (λ p. from_args c formals args [] (to_entry p.spot entry k)) (fits, left)
        (λ p there. args_fit law who ms closed c known formals args fits [] tt (to_entry p.spot entry k) left)

    module _ (args : ActualTrees) (fits : FitActuals args) (k : Remainder) (left : FitsRemainder law who ms k)
        (go : Action) (on : FitsAction law who ms go) where
      entry_fits : (n : ℕ) (s : TypedSpot) (ss : SelectorTrees) (m : Option Meaning) → FitSelectors ss × law.spot who ms s.spot.scope →
          FitsAction law who ms (from_entry c n s ss m args k go)
      entry_fits n s ss (Some (Entry entry)) reached = entry_call_fits s ss entry (entry_at c.env.state.blocks n entry) args k reached fits left
      entry_fits n s ss m reached = on

      process_fits : (s : TypedSpot) (ss : SelectorTrees) (n : Option ℕ) → FitSelectors ss × law.spot who ms s.spot.scope →
          FitsAction law who ms (from_process c s ss n args k go)
      process_fits s ss None reached = on
      process_fits s ss (Some n) reached = activation_fits s ss (process_at c.env.state.blocks n).formals args k reached fits left

      field_fits : (s : TypedSpot) (ss : SelectorTrees) (n : Option ℕ) (x : Text) → FitSelectors ss × law.spot who ms s.spot.scope →
          FitsAction law who ms (from_field c s ss n x args k go)
      field_fits s ss None x reached = process_fits s ss (process_of_type c.env (selected c.env s.t ss)) reached
      field_fits s ss (Some n) x reached = entry_fits n s (before_last ss) (name_in_process c.env.state.blocks n x) (before_fits ss reached.0, reached.1)

      variable_call_fits :
          (s : TypedSpot) (ss : SelectorTrees) (x : Option (Text × Place)) → FitSelectors ss × law.spot who ms s.spot.scope →
          FitsAction law who ms (from_called_variable c s ss x args k go)
      variable_call_fits s ss None reached = process_fits s ss (process_of_type c.env (selected c.env s.t ss)) reached
      variable_call_fits s ss (Some x) reached = field_fits s ss (process_of_type c.env (selected c.env s.t (before_last ss))) x.0 reached

      single_fits : (n : ℕ) (s : TypedSpot) (x : Option (Text × Place)) → law.spot who ms s.spot.scope →
          FitsAction law who ms (from_called_process c n s x args k go)
      single_fits n s None there = activation_fits s no_selectors (process_at c.env.state.blocks n).formals args k (tt, there) fits left
      single_fits n s (Some x) there = entry_fits n s no_selectors (name_in_process c.env.state.blocks n x.0) (tt, there)

      exported_fits : (x y : Text) (n : ℕ) → meaning_of (find c.env x) ≡ Some (Module n) → (m : Option Meaning)
          → meaning_in (scope_at c.env.state.blocks.scopes (module_at c.env.state.blocks n).scope) y ≡ m → FitsAction law who ms (from_exported c n m args k go)
      exported_fits x y n is (Some (Sub p)) named =
          let head : SubHead = sub_at c.env.state.blocks p in args_fit law who ms closed c known head.formals args fits [] tt (to_module n head.scope k)
          (closed.enters who ms c.env x y n p known is named, left)
      exported_fits x y n is m named = on

      module_fits : (z : Text) (n : ℕ) (x : Option (Text × Place)) → meaning_of (find c.env z) ≡ Some (Module n) →
          FitsAction law who ms (from_module c n x args k go)
      module_fits z n None is = on
      module_fits z n (Some x) is = let b = c.env.state.blocks in exported_fits z x.0 n is (meaning_in (scope_at b.scopes (module_at b n).scope) x.0) refl

      called_fits : (x : Text) (m : Option Meaning) → meaning_of (find c.env x) ≡ m → (s : TypedSpot) (ss : SelectorTrees) → FitSelectors ss ×
          law.spot who ms s.spot.scope → FitsAction law who ms (from_called c m s ss args k go)
      called_fits x (Some (Predeclared n)) is s ss reached = procedure_fits (procedure_of n) args k go fits left on
      called_fits x (Some (Sub n)) is s ss reached =
          let head : SubHead = sub_at c.env.state.blocks n in args_fit law who ms closed c known head.formals args fits [] tt (to_procedure head.scope k)
          (closed.calls who ms c.env x n known is, left)
      called_fits x (Some (Module n)) is s ss reached = module_fits x n (last_field ss) is
      called_fits x (Some (Process n)) is s ss reached = single_fits n s (last_field ss) reached.1
      called_fits x (Some (Variable t reference)) is s ss reached = variable_call_fits s ss (last_field ss) reached
      called_fits x m is s ss reached = on

      call_fits : (d : DesigTree) → FitsDesig d → FitsAction law who ms (from_call c d args k go)
      call_fits (desig x ss p) reached =
          let found = find c.env x in called_fits x (meaning_of found) refl (spot_of c.env found) ss (reached, closed.spots who ms c.env x known)

      requeue_fits : (x : Text) (m : Option Meaning) → meaning_of (find c.env x) ≡ m → FitsAction law who ms (from_requeue c m args go)
      requeue_fits x (Some (Sub n)) is =
          let head : SubHead = sub_at c.env.state.blocks n in args_fit law who ms closed c known head.formals args fits [] tt (to_requeue head.scope)
          (closed.requeues who ms c.env x n known is)
      requeue_fits x m is = on

    -- ## Communication

    pub sent_fits : (channel : Spot) (e : Option ExprTree) (k : Remainder) → FitsPerhaps e → FitsRemainder law who ms k →
        FitsAction law who ms (from_sent c channel e k)
    sent_fits channel None k fits left = (known, (refl, tt, tt), left)
    sent_fits channel (Some e) k fits left =
        expr_fits law who ms closed c known e fits (send_on channel k) (λ v. meets c (plain_open (to_send channel v)) k) left
        (λ v given. (known, (given, tt, tt), left))

    send_fits : (d : DesigTree) (e : ExprTree) (k : Remainder) → FitsDesig d → FitsExpr e → FitsRemainder law who ms k →
        FitsAction law who ms (from_send c d e k)
    send_fits d e k reached fits left =
        let message = perhaps_unless (names_any c.env (as_desig e)) e fits in
        desig_fits law who ms closed c known d reached (send_to (message_of c e) k) (λ channel. from_sent c channel.spot (message_of c e) k) (message, left)
        (λ channel there. sent_fits channel.spot (message_of c e) k message left)

    pub received_fits : (channel : Spot) (d : Option DesigTree) (k : Remainder) → FitsTarget d → FitsRemainder law who ms k →
        FitsAction law who ms (from_received c channel d k)
    received_fits channel None k fits left = (known, (tt, tt, tt), left)
    received_fits channel (Some d) k fits left =
        desig_fits law who ms closed c known d fits (receive_into channel k) (λ v. meets c (plain_open (to_receive channel (Some v.spot))) k) left
        (λ v there. (known, (tt, tt, tt), left))

    receive_fits : (d v : DesigTree) (k : Remainder) → FitsDesig d → FitsDesig v → FitsRemainder law who ms k → FitsAction law who ms (from_receive c d v k)
    receive_fits d v k reached fits left =
        let target = target_unless (names_any c.env (Some v)) v fits in
        desig_fits law who ms closed c known d reached (receive_from (receiver_of c v) k)
        (λ channel. from_received c channel.spot (receiver_of c v) k) (target, left)
        (λ channel there. received_fits channel.spot (receiver_of c v) k target left)

    -- ## Loops

    pub pass_begins : (f : Count) (k : Remainder) → FitsCount law who ms f → FitsRemainder law who ms k → FitsAction law who ms (begin_pass c f k)
    pass_begins f k fits left = (known, fits.0, ((fits.3, tt), (fits, left)))

    pub bounds_fit :
        (f : Count) (k : Remainder) (go : Action) → Fits f.kept → Fits f.last → FitsStmt law.accept f.next f.pass →
        FitsRemainder law who ms k → FitsAction law who ms go
        → FitsAction law who ms (from_bounds c f k go)
    bounds_fit f k go kept last pass left on = by (is_past f.down f.kept f.last) refl
      where
        by : (b : Bool) → is_past f.down f.kept f.last ≡ b → FitsAction law who ms (if b then go else begin_pass c f k)
        by true e = on
        by false e = pass_begins f k (kept, last, e, pass) left

    pub pass_fits : (f : Count) (k : Remainder) (go : Action) → FitsCount law who ms f → FitsRemainder law who ms k → FitsAction law who ms go →
        FitsAction law who ms (from_pass c f k go)
    pass_fits f k go fits left on = by (int_eq f.kept f.last) refl
      where
        by : (b : Bool) → int_eq f.kept f.last ≡ b → FitsAction law who ms (if b then go else turns c (next_pass (next_count f) k))
        by true e = on
        by false e = let next = next_fits f.down f.kept f.last fits.0 fits.1 fits.2 e in (known, ((next.0, fits.1, next.1, fits.3), left))

    pub until_fits :
        (n : ℕ) (loop : StmtTree) (k : Remainder) (go : Action) (v : Value) → FitsStmt law.accept n loop → FitsRemainder law who ms k → FitsAction law who ms go
        → FitsAction law who ms (from_until c n loop k go v)
    until_fits n loop k go v fits left on = either law who ms closed (is_true (ordinal_of v)) go (turns c (again n loop k)) on (known, ((fits, tt), left))

  -- ## Statements

  mutual
    pub stmt_fits :
        (env : Env) → FitsEnv law who ms env → (n : ℕ) (s : StmtTree) → FitsStmt law.accept n s → (k : Remainder) → FitsRemainder law who ms k →
        (go : Action) → FitsAction law who ms go
        → FitsAction law who ms (from_stmt env n s k go)
    stmt_fits env known n empty fits k left go on = on
    stmt_fits env known n (null p) fits k left go on = on
    stmt_fits env known n (block (body ss first last) p) fits k left go on = stmts_fit env known n ss fits k left go on
    stmt_fits env known n (if_then e s p) fits k left go on =
        expr_fits law who ms closed (context env p.line) known e fits.0 (choose n s empty k)
        (λ v. if is_true (ordinal_of v) then from_stmt env n s k go else go)
        (fits.1, tt, left)
        (λ v given. either law who ms closed (is_true (ordinal_of v)) (from_stmt env n s k go) go (stmt_fits env known n s fits.1 k left go on) on)
    stmt_fits env known n (if_then_else e s t p) fits k left go on =
        expr_fits law who ms closed (context env p.line) known e fits.0 (choose n s t k)
        (λ v. if is_true (ordinal_of v) then from_stmt env n s k go else from_stmt env (n + scopes_in s) t k go) (fits.1, fits.2, left)
        (λ v given. either law who ms closed (is_true (ordinal_of v)) (from_stmt env n s k go) (from_stmt env (n + scopes_in s) t k go)
        (stmt_fits env known n s fits.1 k left go on) (stmt_fits env known (n + scopes_in s) t fits.2 k left go on))
    stmt_fits env known n (case_of e arms last p) fits k left go on =
        expr_fits law who ms closed (context env p.line) known e fits.0 (choose_arm n arms k)
        (λ v. from_arms (context env p.line) n (ordinal_of v) arms k go) (fits.1, left)
        (λ v given. arms_fit (context env p.line) known n (ordinal_of v) arms fits.1 k left go on)
    stmt_fits env known n (while_do e s p) fits k left go on =
        let c = context env p.line in
        let way = turns c (again n (while_do e s p) k) in
        expr_fits law who ms closed c known e fits.0 (while_true n e s p k)
        (λ v. if is_true (ordinal_of v) then from_stmt env n s (turn n (while_do e s p) k) way else go) (fits.0, fits.1, left)
        (λ v given. either law who ms closed (is_true (ordinal_of v)) (from_stmt env n s (turn n (while_do e s p) k) way) go
        (stmt_fits env known n s fits.1 (turn n (while_do e s p) k) (fits, left) way (known, ((fits, tt), left))) on)
    stmt_fits env known n (repeat_until ss e p) fits k left go on =
        let c = context env p.line in
        let test = from_until c n (repeat_until ss e p) k go in
        stmts_fit env known n ss fits.0 (until n ss e p k) (fits.0, fits.1, left) (from_expr c e (until_true n ss e p k) test)
        (expr_fits law who ms closed c known e fits.1 (until_true n ss e p k) test (fits.0, fits.1, left)
        (λ v given. until_fits c known n (repeat_until ss e p) k go v fits left on))
    stmt_fits env known n (repeat_forever ss p) fits k left go on =
        stmts_fit env known n ss fits (turn n (repeat_forever ss p) k) (fits, left) (turns (context env p.line) (again n (repeat_forever ss p) k))
        (known, ((fits, tt), left))
    stmt_fits env known n (for_do x a down b s p q) fits k left go on =
        let c = context env p.line in
        let v = (spot_of env (find env x)).spot in
        expr_fits law who ms closed c known a fits.0 (count_from n v down b s k)
        (λ from. from_expr c b (count_to n v (ordinal_of from) down s k) (λ last. from_bounds c (counting c n v from last down s) k go))
        (fits.1, fits.2, left)
        (λ from first. expr_fits law who ms closed c known b fits.1 (count_to n v (ordinal_of from) down s k)
        (λ last. from_bounds c (counting c n v from last down s) k go)
        (ordinal_fits from first, fits.2, left)
        (λ last second. bounds_fit c known (counting c n v from last down s) k go (ordinal_fits from first) (ordinal_fits last second) fits.2 left on))
    stmt_fits env known n (cobegin ss last p) fits k left go on =
        stmts_fit env known n ss fits (at_coend last.line k) left (joins (context env last.line) k) (known, left)
    stmt_fits env known n (accepting a p) fits k left go on =
        let c = context env p.line in (known, (accepted_fits law who ms closed c known n a p.line fits, tt, tt), left)
    stmt_fits env known n (requeue x args p) fits k left go on =
        requeue_fits (context env p.line) known args fits k left go on x.0 (meaning_of (find env x.0)) refl
    stmt_fits env known n (select pri alts p q) fits k left go on =
        let c = context env p.line in alternatives_fit law who ms closed c known (alternatives c n alts) (all_fit law who ms closed c known n alts fits)
        (select_begun pri) (begun_fits law who ms closed pri) k left
    stmt_fits env known n (select_else pri alts ss at p q) fits k left go on =
        let c = context env p.line in
        let otherwise : Otherwise = record { next = n + alts_scopes alts; stmts = ss } in
        alternatives_fit law who ms closed c known (alternatives c n alts) (all_fit law who ms closed c known n alts fits.0)
        (record (select_begun pri) { otherwise = Some otherwise })
        (tt, fits.1) k left
    stmt_fits env known n (assign d e p q) fits k left go on = assign_fits (context env p.line) known d e k fits.0 fits.1 left
    stmt_fits env known n (send d e p q) fits k left go on = send_fits (context env p.line) known d e k fits.0 fits.1 left
    stmt_fits env known n (receive d v p q) fits k left go on = receive_fits (context env p.line) known d v k fits.0 fits.1 left
    stmt_fits env known n (call d args p) fits k left go on = call_fits (context env p.line) known args fits.1 k left go on d fits.0

    pub stmts_fit :
        (env : Env) → FitsEnv law who ms env → (n : ℕ) (ss : StmtTrees) → FitStmts law.accept n ss → (k : Remainder) → FitsRemainder law who ms k →
        (go : Action) → FitsAction law who ms go
        → FitsAction law who ms (from_stmts env n ss k go)
    stmts_fit env known n no_stmts fits k left go on = on
    stmts_fit env known n (more_stmts s ss) fits k left go on =
        stmt_fits env known n s fits.0 (behind (n + scopes_in s) ss k) (behind_fits (n + scopes_in s) ss k fits.1 left)
        (from_stmts env (n + scopes_in s) ss k go) (stmts_fit env known (n + scopes_in s) ss fits.1 k left go on)

    pub arms_fit :
        (c : Context) → FitsEnv law who ms c.env → (n : ℕ) (v : ℤ) (arms : ArmTrees) → FitArms law.accept n arms → (k : Remainder) →
        FitsRemainder law who ms k → (go : Action)
        → FitsAction law who ms go → FitsAction law who ms (from_arms c n v arms k go)
    arms_fit c known n v no_arms fits k left go on = tt
    arms_fit c known n v (more_arms (arm ls s) arms) fits k left go on =
        either law who ms closed (are_labels c.env v ls) (from_stmt c.env n s k go) (from_arms c (n + arm_scopes (arm ls s)) v arms k go)
        (stmt_fits c.env known n s fits.0 k left go on) (arms_fit c known (n + arm_scopes (arm ls s)) v arms fits.1 k left go on)
