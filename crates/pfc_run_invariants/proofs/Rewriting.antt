-- The action that comes next has only numbers of 32 bits.
use Rattle.std.proofs.Common.{List, ℕ, ◌+◌, if◌then◌else◌, [], ◌∷◌, ◌++◌, Some}
use Rattle.pfc_tree.specs.trees.Stmts.{while_do, repeat_until}
use Rattle.pfc_types.specs.rules.Expressions.{Env}
use Rattle.pfc_types.specs.rules.Statements.{scopes_in}
use Rattle.pfc_values.specs.Numbers.{inverse_of, is_true}
use Rattle.std.specs.Prelude.{not}
use Rattle.pfc_semantics.specs.Values.{Value, ordinal, ordinal_of}
use Rattle.pfc_semantics.specs.Displays.{TypedSpot}
use Rattle.pfc_semantics.specs.Operators.{signed, added, multiplied, compared, holds}
use Rattle.pfc_semantics.specs.Remainders.{Context, Tried, Scan, Remainder, AwaitsValue, AwaitsLocation, ends, perform, in_names, turn, until, behind_pass}
use Rattle.pfc_semantics.specs.Remainders.{next_pass, write_on, read_on, at_coend, part_from, write_again, go_through, try_guard, scan_on, try_other, begin_sum}
use Rattle.pfc_semantics.specs.Remainders.{add_to, begin_product, multiply_by, compare_with, compare_to, invert, apply, index_into, pass_value, store_at}
use Rattle.pfc_semantics.specs.Remainders.{choose, choose_arm, while_true, until_true, count_from, count_to, show, show_wide, pad, set_count, delay_with}
use Rattle.pfc_semantics.specs.Remainders.{sleep_for, send_on, open_if, offer_value, offer_wait, pass_own, pass_other, read_for, assign_to, input_to}
use Rattle.pfc_semantics.specs.Remainders.{pass_variable, ask_empty, activate_with, enter_with, initial_to, wait_at, signal_at, delay_at, resume_at, send_to}
use Rattle.pfc_semantics.specs.Remainders.{receive_from, receive_into, offer_to, offer_from, offer_into, by_value, by_reference, to_process, to_entry, to_send}
use Rattle.pfc_semantics.specs.Remainders.{to_receive, writes, turns, initials, bars, scans, passes}
use Rattle.pfc_semantics.specs.Expressions.{from_summands, from_multipliers, from_selectors, from_indices}
use Rattle.pfc_semantics.specs.Alternatives.{context, with_open, from_alternatives}
use Rattle.pfc_semantics.specs.Statements.{from_stmt, from_until, from_bounds, from_width, shown_as, counting, again}
use Rattle.pfc_semantics.specs.Rewriting.{from_other, from_remainder, from_location, from_value, Doing, going, holding, next}
use Rattle.pfc_run_invariants.specs.Fitting.{FitsValue}
use Rattle.pfc_run_invariants.specs.Remainders.{FitsEnv, FitsArgument, FitsBar, FitsWay, FitsRemainder, FitsAwaiting, FitsGoal, FitsAction, FitsDoing}
use Rattle.pfc_run_invariants.proofs.Lists.{all_push}
use Rattle.pfc_run_invariants.proofs.Numbers.{truth_fits, signed_fits, added_fits, multiplied_fits}
use Rattle.pfc_run_invariants.proofs.Expressions.{either, ordinal_fits, number_on, element_on, call_fits, expr_fits, simple_fits, summands_fit, multipliers_fit}
use Rattle.pfc_run_invariants.proofs.Expressions.{args_fit, selectors_fit, indices_fit}
use Rattle.pfc_run_invariants.proofs.Alternatives.{open_fits, seconds_fit, message_fits, receiver_fits, opened_fits, guard_fits, alternatives_fit}
use Rattle.pfc_run_invariants.proofs.Statements.{width_fits, writes_fit, reads_fit, delay_fits, sent_fits, received_fits, pass_begins, bounds_fit, pass_fits}
use Rattle.pfc_run_invariants.proofs.Statements.{until_fits, stmt_fits, stmts_fit, arms_fit}
use Rattle.pfc_semantics.specs.Configurations.{Mark}
use Rattle.pfc_run_invariants.specs.Asked.{Asked, IsClosed}

module _ (law : Asked) (who : ℕ) (ms : List Mark) (closed : IsClosed law) where
  other_fits :
      (c : Context) → FitsEnv law who ms c.env → (w : Tried) → FitsBar law who ms w.bar → (s : Scan) → FitsWay law who ms s.way → (k : Remainder) →
      FitsRemainder law who ms k → (v : Value)
      → FitsAction law who ms (from_other c w s k v)
  other_fits c known w bar s way k left v =
      either law who ms closed (is_true (ordinal_of v)) (passes c w s k)
      (scans (context c.env s.line) (record s { after = Some w.ticket }) k) (known, bar, way, left)
      (known, way, left)

  pub remainder_fits : (env : Env) → FitsEnv law who ms env → (k : Remainder) → FitsRemainder law who ms k → FitsAction law who ms (from_remainder env k)
  remainder_fits env known (ends line) left = tt
  remainder_fits env known (perform n ss k) left =
      stmts_fit law who ms closed env known n ss left.0 k left.1 (from_remainder env k) (remainder_fits env known k left.1)
  remainder_fits env known (in_names inner k) left = remainder_fits inner left.0 k left.1
  remainder_fits env known (turn n loop k) left = (known, ((left.0, tt), left.1))
  remainder_fits env known (until n ss e p k) left =
      let c = context env p.line in
      expr_fits law who ms closed c known e left.1 (until_true n ss e p k) (from_until c n (repeat_until ss e p) k (from_remainder env k)) left
      (λ v given. until_fits law who ms closed c known n (repeat_until ss e p) k (from_remainder env k) v
      (left.0, left.1) left.2 (remainder_fits env known k left.2))
  remainder_fits env known (behind_pass f k) left =
      pass_fits law who ms closed (context env f.line) known f k (from_remainder env k) left.0 left.1 (remainder_fits env known k left.1)
  remainder_fits env known (next_pass f k) left = pass_begins law who ms closed (context env f.line) known f k left.0 left.1
  remainder_fits env known (write_on line args newline k) left =
      writes_fit law who ms closed (context env line) known args newline k (from_remainder env k) left.0 left.1 (remainder_fits env known k left.1)
  remainder_fits env known (read_on line args skip k) left =
      reads_fit law who ms closed (context env line) known args skip k (from_remainder env k) left.0 left.1 (remainder_fits env known k left.1)
  remainder_fits env known (at_coend line k) left = (known, left)
  remainder_fits env known (part_from caller line k) left = (known, left)
  remainder_fits env known (write_again r k) left = (known, left.0, left.1)
  remainder_fits env known (go_through line a rest s k) left =
      let c = context env line in
      guard_fits law who ms closed c known a left.0 rest left.1 s left.2 k left.3 (λ t. from_alternatives c rest t k)
      (λ t found. alternatives_fit law who ms closed c known rest left.1 t found k left.3)
      a.guard left.0.1
  remainder_fits env known (try_guard b k) left =
      expr_fits law who ms closed b.context (closed.guards who ms b.context.env left.0.0) b.test left.0.1 (pass_own b k) (λ v. if is_true (ordinal_of v) then
      from_remainder env k else bars b.context b k) left
      (λ v given. either law who ms closed (is_true (ordinal_of v)) (from_remainder env k) (bars b.context b k) (remainder_fits env known k left.1)
      (closed.guards who ms b.context.env left.0.0, left.0, left.1))
  remainder_fits env known (scan_on s k) left = (known, left.0, left.1)
  remainder_fits env known (try_other w s k) left =
      expr_fits law who ms closed w.bar.context (closed.guards who ms w.bar.context.env left.0.0) w.bar.test left.0.1
      (pass_other w s k) (from_other w.bar.context w s k) left
      (λ v given. other_fits w.bar.context (closed.guards who ms w.bar.context.env left.0.0) w left.0 s left.1 k left.2 v)

  module _ (c : Context) (known : FitsEnv law who ms c.env) where
    pub location_fits : (goal : AwaitsLocation) → FitsGoal law who ms goal → (s : TypedSpot) → law.spot who ms s.spot.scope
        → FitsAction law who ms (from_location c goal s)
    location_fits (read_for u) fits s there = (known, fits)
    location_fits (assign_to e k) fits s there =
        expr_fits law who ms closed c known e fits.0 (store_at s.spot k) (λ v. writes c s.spot v k) fits.1 (λ v given. (known, given, fits.1))
    location_fits (input_to t k) fits s there = (known, fits)
    location_fits (pass_variable formals rest given call) fits s there =
        args_fit law who ms closed c known formals rest fits.0 (given ++ by_reference s.spot ∷ []) (all_push (FitsArgument law who ms) given
        (by_reference s.spot) fits.1 tt) call fits.2
    location_fits (ask_empty u) fits s there = (known, fits)
    location_fits (activate_with formals args k) fits s there = args_fit law who ms closed c known formals args fits.0 [] tt (to_process s.spot k) fits.1
    location_fits (enter_with entry formals args k) fits s there = args_fit law who ms closed c known formals args fits.0 [] tt (to_entry s.spot entry k) fits.1
    location_fits (initial_to e k) fits s there =
        expr_fits law who ms closed c known e fits.0 (set_count s.spot k) (λ n. initials c s.spot (ordinal_of n) k) fits.1
        (λ n given. (known, ordinal_fits n given, fits.1))
    location_fits (wait_at k) fits s there = (known, fits)
    location_fits (signal_at k) fits s there = (known, fits)
    location_fits (delay_at rank k) fits s there = delay_fits law who ms closed c known s.spot rank k fits.0 fits.1
    location_fits (resume_at k) fits s there = (known, there, fits)
    location_fits (send_to e k) fits s there = sent_fits law who ms closed c known s.spot e k fits.0 fits.1
    location_fits (receive_from d k) fits s there = received_fits law who ms closed c known s.spot d k fits.0 fits.1
    location_fits (receive_into channel k) fits s there = (known, (tt, tt, tt), fits)
    location_fits (offer_to e a rest sel k) fits s there =
        message_fits law who ms closed c known a fits.1 rest fits.2 sel fits.3 k fits.4 (λ t. from_alternatives c rest t k)
        (λ t found. alternatives_fit law who ms closed c known rest fits.2 t found k fits.4) s.spot e fits.0
    location_fits (offer_from d a rest sel k) fits s there =
        receiver_fits law who ms closed c known a fits.1 rest fits.2 sel fits.3 k fits.4 (λ t. from_alternatives c rest t k)
        (λ t found. alternatives_fit law who ms closed c known rest fits.2 t found k fits.4) s.spot d fits.0
    location_fits (offer_into channel a rest sel k) fits s there =
        alternatives_fit law who ms closed c known rest fits.1 (with_open a sel (to_receive channel (Some s.spot)))
        (open_fits law who ms closed a sel (to_receive channel (Some s.spot)) fits.0 fits.2 tt) k fits.3

    pub value_fits : (u : AwaitsValue) → FitsAwaiting law who ms u → (v : Value) → FitsValue v → FitsAction law who ms (from_value c u v)
    value_fits (begin_sum sign rest u) fits a given =
        number_on law who ms closed c known (signed sign (ordinal_of a)) (λ n. from_summands c n rest u (from_value c u))
        (signed_fits sign (ordinal_of a) (ordinal_fits a given))
        (λ n so_far. summands_fit law who ms closed c known rest fits.0 n so_far u (from_value c u) fits.1 (λ v held. value_fits u fits.1 v held))
    value_fits (add_to n op rest u) fits b given =
        number_on law who ms closed c known (added op n (ordinal_of b)) (λ m. from_summands c m rest u (from_value c u)) (added_fits op n (ordinal_of b))
        (λ m so_far. summands_fit law who ms closed c known rest fits.0 m so_far u (from_value c u) fits.1 (λ v held. value_fits u fits.1 v held))
    value_fits (begin_product rest u) fits a given =
        multipliers_fit law who ms closed c known rest fits.0 a given u (from_value c u) fits.1 (λ v held. value_fits u fits.1 v held)
    value_fits (multiply_by n op rest u) fits b given =
        number_on law who ms closed c known (multiplied op n (ordinal_of b)) (λ m. from_multipliers c m rest u (from_value c u))
        (multiplied_fits op n (ordinal_of b) (ordinal_fits b given))
        (λ m so_far. multipliers_fit law who ms closed c known rest fits.0 m so_far u (from_value c u) fits.1 (λ v held. value_fits u fits.1 v held))
    value_fits (compare_with r t u) fits a given =
        simple_fits law who ms closed c known t fits.0 (compare_to (ordinal_of a) r u)
        (λ b. from_value c u (ordinal (compared r (ordinal_of a) (ordinal_of b)))) fits.1
        (λ b second. value_fits u fits.1 (ordinal (compared r (ordinal_of a) (ordinal_of b))) (truth_fits (holds r (ordinal_of a) (ordinal_of b))))
    value_fits (compare_to a r u) fits b given = value_fits u fits (ordinal (compared r a (ordinal_of b))) (truth_fits (holds r a (ordinal_of b)))
    value_fits (invert u) fits a given = value_fits u fits (ordinal (inverse_of (ordinal_of a))) (truth_fits (not (is_true (ordinal_of a))))
    value_fits (apply f t u) fits v given = call_fits law who ms closed c known f t u (from_value c u) v given fits (λ w held. value_fits u fits w held)
    value_fits (index_into s es ss goal) fits i given =
        element_on law who ms closed c known s (ordinal_of i)
        (λ t. from_indices c t es ss goal (λ last. from_selectors c last ss goal (from_location c goal))) fits.0
        (λ t there. indices_fit law who ms closed c known es fits.1 ss fits.2 t there goal (λ last. from_selectors c last ss goal (from_location c goal)) fits.3
        (λ last still. selectors_fit law who ms closed c known ss fits.2 last still goal (from_location c goal) fits.3
        (λ l end. location_fits goal fits.3 l end)))
    value_fits (pass_value formals rest given call) fits v passed =
        args_fit law who ms closed c known formals rest fits.0 (given ++ by_value v ∷ []) (all_push (FitsArgument law who ms) given
        (by_value v) fits.1 passed) call fits.2
    value_fits (store_at s k) fits v given = (known, given, fits)
    value_fits (choose n s t k) fits v given =
        either law who ms closed (is_true (ordinal_of v)) (from_stmt c.env n s k (from_remainder c.env k))
        (from_stmt c.env (n + scopes_in s) t k (from_remainder c.env k))
        (stmt_fits law who ms closed c.env known n s fits.0 k fits.2 (from_remainder c.env k) (remainder_fits c.env known k fits.2))
        (stmt_fits law who ms closed c.env known (n + scopes_in s) t fits.1 k fits.2 (from_remainder c.env k) (remainder_fits c.env known k fits.2))
    value_fits (choose_arm n arms k) fits v given =
        arms_fit law who ms closed c known n (ordinal_of v) arms fits.0 k fits.1 (from_remainder c.env k) (remainder_fits c.env known k fits.1)
    value_fits (while_true n e s p k) fits v given =
        let way = turns c (again n (while_do e s p) k) in
        either law who ms closed (is_true (ordinal_of v)) (from_stmt c.env n s (turn n (while_do e s p) k) way) (from_remainder c.env k)
        (stmt_fits law who ms closed c.env known n s fits.1 (turn n (while_do e s p) k) ((fits.0, fits.1), fits.2) way
        (known, (((fits.0, fits.1), tt), fits.2)))
        (remainder_fits c.env known k fits.2)
    value_fits (until_true n ss e p k) fits v given =
        until_fits law who ms closed c known n (repeat_until ss e p) k (from_remainder c.env k) v (fits.0, fits.1) fits.2 (remainder_fits c.env known k fits.2)
    value_fits (count_from n at down b s k) fits a given =
        expr_fits law who ms closed c known b fits.0 (count_to n at (ordinal_of a) down s k)
        (λ last. from_bounds c (counting c n at a last down s) k (from_remainder c.env k)) (ordinal_fits a given, fits.1, fits.2)
        (λ last second. bounds_fit law who ms closed c known (counting c n at a last down s) k (from_remainder c.env k)
        (ordinal_fits a given) (ordinal_fits last second) fits.1
        fits.2 (remainder_fits c.env known k fits.2))
    value_fits (count_to n at a down s k) fits last given =
        bounds_fit law who ms closed c known (counting c n at (ordinal a) last down s) k (from_remainder c.env k) fits.0 (ordinal_fits last given) fits.1 fits.2
        (remainder_fits c.env known k fits.2)
    value_fits (show t k) fits v given = (known, fits)
    value_fits (show_wide t w k) fits v given =
        expr_fits law who ms closed c known w fits.0 (pad (shown_as t v) k) (from_width c (shown_as t v) k) fits.1
        (λ n wide. width_fits law who ms closed c known (shown_as t v) k n fits.1)
    value_fits (pad bytes k) fits w given = width_fits law who ms closed c known bytes k w fits
    value_fits (set_count s k) fits n given = (known, ordinal_fits n given, fits)
    value_fits (delay_with s k) fits n given = (known, ordinal_fits n given, fits)
    value_fits (sleep_for k) fits n given = (known, fits)
    value_fits (send_on channel k) fits v given = (known, (given, tt, tt), fits)
    value_fits (open_if a rest s k) fits v given =
        opened_fits law who ms closed c known a fits.0 rest fits.1 s fits.2 k fits.3 (λ t. from_alternatives c rest t k)
        (λ t found. alternatives_fit law who ms closed c known rest fits.1 t found k fits.3) v
    value_fits (offer_value channel a rest s k) fits v given =
        alternatives_fit law who ms closed c known rest fits.1 (with_open a s (to_send channel v))
        (open_fits law who ms closed a s (to_send channel v) fits.0 fits.2 given) k fits.3
    value_fits (offer_wait a rest s k) fits v given =
        seconds_fit law who ms closed c known a s (λ t. from_alternatives c rest t k) v fits.0 fits.2
        (λ t found. alternatives_fit law who ms closed c known rest fits.1 t found k fits.3)
    value_fits (pass_own b k) fits v given =
        either law who ms closed (is_true (ordinal_of v)) (from_remainder c.env k) (bars c b k) (remainder_fits c.env known k fits.1) (known, fits.0, fits.1)
    value_fits (pass_other w s k) fits v given = other_fits c known w fits.0 s fits.1 k fits.2 v

  pub next_fits : (doing : Doing) → FitsDoing law who ms doing → FitsAction law who ms (next doing)
  next_fits (going env k) fits = remainder_fits env fits.0 k fits.1
  next_fits (holding c v u) fits = value_fits c fits.0 u fits.2 v fits.1
