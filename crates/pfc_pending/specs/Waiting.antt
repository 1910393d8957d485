-- What is pending, as the definitions know it: what is left behind a statement, or what waits for a value.
--
-- The parts that are pending stand one on another, the innermost last. A part that stands on one of the other sort stands on nothing: that never
-- comes.
use Rattle.std.specs.Prelude.{ℕ, ℤ, List, [], map, fold, Option, Some, None, option_map}
use Rattle.std.specs.Borrow.{Bor}
use Rattle.pfc_tree.specs.declared.tree.Desig.{Desig}
use Rattle.pfc_tree.specs.declared.tree.Expr.{Expr}
use Rattle.pfc_tree.specs.trees.Exprs.{ExprTree, DesigTree}
use Rattle.pfc_tree.specs.trees.Stmts.{StmtTree, empty, no_stmts, more_stmts, if_then, if_then_else, case_of, while_do, repeat_until, for_do}
use Rattle.pfc_tree.specs.views.Exprs.{expr_view, desig_view, simple_view, summands_view, multipliers_view, selectors_view, exprs_view}
use Rattle.pfc_program.specs.declared.tables.Tables.{Tables}
use Rattle.pfc_program.specs.Views.{names_view}
use Rattle.pfc_store.specs.Views.{spot_view, typed_spot_view, value_view}
use Rattle.pfc_semantics.specs.Remainders.{Remainder, AwaitsValue, AwaitsLocation, ends, perform, in_names, turn, until, behind_pass, next_pass, write_on}
use Rattle.pfc_semantics.specs.Remainders.{read_on, at_coend, part_from, write_again, go_through, try_guard, scan_on, try_other, begin_sum, add_to}
use Rattle.pfc_semantics.specs.Remainders.{begin_product, multiply_by, compare_with, compare_to, invert, apply, index_into, pass_value, store_at, choose}
use Rattle.pfc_semantics.specs.Remainders.{choose_arm, while_true, until_true, count_from, count_to, show, show_wide, pad, set_count, delay_with, sleep_for}
use Rattle.pfc_semantics.specs.Remainders.{send_on, open_if, offer_value, offer_wait, pass_own, pass_other, read_for, assign_to, input_to, pass_variable}
use Rattle.pfc_semantics.specs.Remainders.{ask_empty, activate_with, enter_with, initial_to, wait_at, signal_at, delay_at, resume_at, send_to, receive_from}
use Rattle.pfc_semantics.specs.Remainders.{receive_into, offer_to, offer_from, offer_into, by_value, by_reference, to_procedure, to_function, to_module}
use Rattle.pfc_semantics.specs.Remainders.{to_requeue, to_process, to_entry, leave, own}
use Rattle.pfc_semantics.specs.Displays.{Spot}
use Rattle.pfc_semantics.specs.Remainders as remainders
use Rattle.pfc_facts.specs.Views.{function_view}
use Rattle.pfc_pending.specs.Pieces.{piece_bytes}
use Rattle.pfc_pending.specs.Texts.{stmts_left, stmt_at, actuals_left}
use Rattle.pfc_pending.specs.Selects.{replica_view, alternative_view, select_view, rest_view}
use Rattle.pfc_pending.specs.declared.pending.Argument.{Argument}
use Rattle.pfc_pending.specs.declared.pending.Argument.TheVariants as argument
use Rattle.pfc_pending.specs.declared.pending.Bar.{Bar}
use Rattle.pfc_pending.specs.declared.pending.Callee.{Callee}
use Rattle.pfc_pending.specs.declared.pending.Callee.TheVariants as callee
use Rattle.pfc_pending.specs.declared.pending.Count.{Count}
use Rattle.pfc_pending.specs.declared.pending.Counter.{Counter}
use Rattle.pfc_pending.specs.declared.pending.Goal.{Goal}
use Rattle.pfc_pending.specs.declared.pending.Goal.TheVariants as goal
use Rattle.pfc_pending.specs.declared.pending.Pending.{Pending}
use Rattle.pfc_pending.specs.declared.pending.Pending.TheVariants as pending
use Rattle.pfc_pending.specs.declared.pending.Point.{Point}
use Rattle.pfc_pending.specs.declared.pending.Point.TheVariants as point
use Rattle.pfc_pending.specs.declared.pending.Scan.{Scan}
use Rattle.pfc_pending.specs.declared.pending.Tried.{Tried}

-- what waits: for a statement to end, or for a value
pub data Waiting : Type 0 where
  behind : Remainder → Waiting
  value : AwaitsValue → Waiting

abbrev pub remainder_of : Waiting → Remainder
remainder_of (behind k) = k
remainder_of (value u) = ends 0

abbrev pub awaits_of : Waiting → AwaitsValue
awaits_of (value u) = u
awaits_of (behind k) = choose 0 empty empty (ends 0)

-- ## Arguments and calls

abbrev pub argument_view : Argument → remainders.Argument
argument_view (argument.Value v) = by_value (value_view v)
argument_view (argument.Reference s) = by_reference (spot_view s)

abbrev pub given_view : List Argument → List remainders.Argument
given_view args = map argument_view args

abbrev pub callee_view : Waiting → Callee → remainders.Call
callee_view w (callee.Procedure i) = to_procedure i (remainder_of w)
callee_view w (callee.Function i) = to_function i (awaits_of w)
callee_view w (callee.Module n i) = to_module n i (remainder_of w)
callee_view w (callee.Requeue i) = to_requeue i
callee_view w (callee.Process s) = to_process (spot_view s) (remainder_of w)
callee_view w (callee.Entry s entry) = to_entry (spot_view s) entry (remainder_of w)

-- ## Guards and scans

abbrev pub bar_view : Tables → Bar → remainders.Bar
bar_view s b =
    let guard = b.guard.now in
    record {
      resource = b.resource;
      procedure = b.procedure;
      context = record { env = names_view s guard.names; line = guard.line };
      test = expr_view guard.test.now;
    }

abbrev pub way_view : Tables → Option Bar → remainders.Way
way_view s None = leave
way_view s (Some b) = own (bar_view s b)

abbrev pub scan_view : Tables → Scan → remainders.Scan
scan_view s scan = record { resource = scan.resource; line = scan.line; after = scan.after; way = way_view s scan.own }

abbrev pub tried_view : Tables → Tried → remainders.Tried
tried_view s w = record { process = w.process; ticket = w.ticket; bar = bar_view s w.bar }

-- ## What waits for a variable

abbrev pub expr_given : Option (Bor Expr) → Option ExprTree
expr_given e = option_map (λ x. expr_view x.now) e

abbrev pub desig_given : Option (Bor Desig) → Option DesigTree
desig_given d = option_map (λ x. desig_view x.now) d

abbrev pub goal_over : Waiting → Goal → AwaitsLocation
goal_over w goal.Read = read_for (awaits_of w)
goal_over w goal.AskEmpty = ask_empty (awaits_of w)
goal_over w (goal.Pass p) = pass_variable p.formals.now (actuals_left p.rest) (given_view p.given.items) (callee_view w p.callee)
goal_over w (goal.AssignTo e) = assign_to (expr_view e.now) (remainder_of w)
goal_over w (goal.InputTo t) = input_to t (remainder_of w)
goal_over w (goal.ActivateWith formals args) = activate_with formals.now (actuals_left args) (remainder_of w)
goal_over w (goal.EnterWith entry formals args) = enter_with entry formals.now (actuals_left args) (remainder_of w)
goal_over w (goal.InitialTo e) = initial_to (expr_view e.now) (remainder_of w)
goal_over w goal.WaitAt = wait_at (remainder_of w)
goal_over w goal.SignalAt = signal_at (remainder_of w)
goal_over w (goal.DelayAt rank) = delay_at (expr_given rank) (remainder_of w)
goal_over w goal.ResumeAt = resume_at (remainder_of w)
goal_over w (goal.SendTo e) = send_to (expr_given e) (remainder_of w)
goal_over w (goal.ReceiveFrom d) = receive_from (desig_given d) (remainder_of w)
goal_over w (goal.ReceiveInto channel) = receive_into (spot_view channel) (remainder_of w)
goal_over w (goal.OfferTo e c) = offer_to (expr_given e) (alternative_view c.value.current) (rest_view c.value) (select_view c.value.select) (remainder_of w)
goal_over w (goal.OfferFrom d c) = offer_from (desig_given d) (alternative_view c.value.current) (rest_view c.value)
    (select_view c.value.select) (remainder_of w)
goal_over w (goal.OfferInto channel c) =
    offer_into (spot_view channel) (alternative_view c.value.current) (rest_view c.value) (select_view c.value.select) (remainder_of w)

-- ## Statements that are under way

-- the variable of a `for`
abbrev pub counter_view : Counter → Spot
counter_view c = record { scope = c.scope; variable = c.variable; selectors = [] }

-- its statement, and behind that the running `for`
abbrev pub pass_over : remainders.Count → Remainder → Remainder
pass_over f k = perform f.next (more_stmts f.pass no_stmts) (behind_pass f k)

-- a running `for`; of another statement there is none
abbrev pub counting_of : ℕ → StmtTree → Count → (remainders.Count → Remainder → Remainder) → Remainder → Remainder
counting_of n (for_do x a down b s p q) count go k =
    go (record { line = p.line; next = n; at = counter_view count.at; kept = count.kept; last = count.last; down = down; pass = s }) k
counting_of n s count go k = k

abbrev pub until_of : ℕ → StmtTree → Remainder → Remainder
until_of n (repeat_until ss e p) k = until n ss e p k
until_of n s k = k

abbrev pub nothing_chosen : Remainder → AwaitsValue
nothing_chosen k = choose 0 empty empty k

abbrev pub choose_of : ℕ → StmtTree → Remainder → AwaitsValue
choose_of n (if_then e s p) k = choose n s empty k
choose_of n (if_then_else e s t p) k = choose n s t k
choose_of n s k = nothing_chosen k

abbrev pub choose_arm_of : ℕ → StmtTree → Remainder → AwaitsValue
choose_arm_of n (case_of e arms last p) k = choose_arm n arms k
choose_arm_of n s k = nothing_chosen k

abbrev pub while_true_of : ℕ → StmtTree → Remainder → AwaitsValue
while_true_of n (while_do e s p) k = while_true n e s p k
while_true_of n s k = nothing_chosen k

abbrev pub until_true_of : ℕ → StmtTree → Remainder → AwaitsValue
until_true_of n (repeat_until ss e p) k = until_true n ss e p k
until_true_of n s k = nothing_chosen k

abbrev pub count_from_of : ℕ → StmtTree → remainders.Argument → Remainder → AwaitsValue
count_from_of n (for_do x a down b s p q) (by_reference at) k = count_from n at down b s k
count_from_of n s at k = nothing_chosen k

abbrev pub count_to_of : ℕ → StmtTree → remainders.Argument → ℤ → Remainder → AwaitsValue
count_to_of n (for_do x a down b s p q) (by_reference at) from k = count_to n at from down s k
count_to_of n s at from k = nothing_chosen k

abbrev pub point_over : ℕ → StmtTree → Waiting → Point → Waiting
point_over n s w point.Turn = behind (turn n s (remainder_of w))
point_over n s w point.Again = behind (perform n (more_stmts s no_stmts) (remainder_of w))
point_over n s w point.Until = behind (until_of n s (remainder_of w))
point_over n s w (point.Pass count) = behind (counting_of n s count pass_over (remainder_of w))
point_over n s w (point.BehindPass count) = behind (counting_of n s count behind_pass (remainder_of w))
point_over n s w (point.NextPass count) = behind (counting_of n s count next_pass (remainder_of w))
point_over n s w point.Choose = value (choose_of n s (remainder_of w))
point_over n s w point.ChooseArm = value (choose_arm_of n s (remainder_of w))
point_over n s w point.WhileTrue = value (while_true_of n s (remainder_of w))
point_over n s w point.UntilTrue = value (until_true_of n s (remainder_of w))
point_over n s w (point.CountFrom at) = value (count_from_of n s (by_reference (counter_view at)) (remainder_of w))
point_over n s w (point.CountTo at from) = value (count_to_of n s (by_reference (counter_view at)) from (remainder_of w))

-- ## What is pending

abbrev pub over : Tables → Waiting → Pending → Waiting
over s w (pending.Ends line) = behind (ends line)
over s w (pending.Perform n ss) = behind (perform n (stmts_left ss) (remainder_of w))
over s w (pending.InNames names) = behind (in_names (names_view s names) (remainder_of w))
over s w (pending.WriteOn line items newline) = behind (write_on line (actuals_left items) newline (remainder_of w))
over s w (pending.ReadOn line items skip) = behind (read_on line (actuals_left items) skip (remainder_of w))
over s w (pending.AtCoend line) = behind (at_coend line (remainder_of w))
over s w (pending.PartFrom caller line) = behind (part_from caller line (remainder_of w))
over s w (pending.WriteAgain r) = behind (write_again (replica_view r) (remainder_of w))
over s w (pending.GoThrough line c) =
    behind (go_through line (alternative_view c.value.current) (rest_view c.value) (select_view c.value.select) (remainder_of w))
over s w (pending.TryGuard b) = behind (try_guard (bar_view s b) (remainder_of w))
over s w (pending.ScanOn scan) = behind (scan_on (scan_view s scan) (remainder_of w))
over s w (pending.TryOther tried scan) = behind (try_other (tried_view s tried) (scan_view s scan) (remainder_of w))
over s w (pending.Within n stmt point) = point_over n (stmt_at stmt) w point
over s w (pending.BeginSum sign rest) = value (begin_sum sign (summands_view rest.now) (awaits_of w))
over s w (pending.AddTo n op rest) = value (add_to n op (summands_view rest.now) (awaits_of w))
over s w (pending.BeginProduct rest) = value (begin_product (multipliers_view rest.now) (awaits_of w))
over s w (pending.MultiplyBy n op rest) = value (multiply_by n op (multipliers_view rest.now) (awaits_of w))
over s w (pending.CompareWith r t) = value (compare_with r (simple_view t.now) (awaits_of w))
over s w (pending.CompareTo n r) = value (compare_to n r (awaits_of w))
over s w pending.Invert = value (invert (awaits_of w))
over s w (pending.Apply f t) = value (apply (function_view f) t (awaits_of w))
over s w (pending.IndexInto at es ss goal) = value (index_into (typed_spot_view at) (exprs_view es.now) (selectors_view ss.now) (goal_over w goal))
over s w (pending.PassValue p) = value (pass_value p.formals.now (actuals_left p.rest) (given_view p.given.items) (callee_view w p.callee))
over s w (pending.StoreAt at) = value (store_at (spot_view at) (remainder_of w))
over s w (pending.Show t) = value (show t (remainder_of w))
over s w (pending.ShowWide t width) = value (show_wide t (expr_view width.now) (remainder_of w))
over s w (pending.Pad piece) = value (pad (piece_bytes piece) (remainder_of w))
over s w (pending.SetCount at) = value (set_count (spot_view at) (remainder_of w))
over s w (pending.DelayWith at) = value (delay_with (spot_view at) (remainder_of w))
over s w pending.SleepFor = value (sleep_for (remainder_of w))
over s w (pending.SendOn channel) = value (send_on (spot_view channel) (remainder_of w))
over s w (pending.OpenIf c) = value (open_if (alternative_view c.value.current) (rest_view c.value) (select_view c.value.select) (remainder_of w))
over s w (pending.OfferValue channel c) =
    value (offer_value (spot_view channel) (alternative_view c.value.current) (rest_view c.value) (select_view c.value.select) (remainder_of w))
over s w (pending.OfferWait c) = value (offer_wait (alternative_view c.value.current) (rest_view c.value) (select_view c.value.select) (remainder_of w))
over s w (pending.PassOwn b) = value (pass_own (bar_view s b) (remainder_of w))
over s w (pending.PassOther tried scan) = value (pass_other (tried_view s tried) (scan_view s scan) (remainder_of w))

-- all that is pending, the innermost last; behind all stands nothing
abbrev pub waiting : Tables → List Pending → Waiting
waiting s parts = fold (over s) (behind (ends 0)) parts
