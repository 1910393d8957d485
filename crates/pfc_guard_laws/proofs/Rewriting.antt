-- The action that comes next calls what the rules ask, and its guards are of their own resources.
use Rattle.std.proofs.Common.{ℕ, refl, ◌+◌, if◌then◌else◌, [], ◌∷◌, ◌++◌, Option, Some}
use Rattle.pfc_tree.specs.trees.Stmts.{while_do, repeat_until}
use Rattle.pfc_types.specs.rules.Expressions.{Env}
use Rattle.pfc_types.specs.rules.Statements.{scopes_in}
use Rattle.pfc_values.specs.Numbers.{inverse_of, is_true}
use Rattle.pfc_semantics.specs.Values.{Value, ordinal, ordinal_of}
use Rattle.pfc_semantics.specs.Displays.{TypedSpot}
use Rattle.pfc_semantics.specs.Operators.{signed, added, multiplied, compared}
use Rattle.pfc_semantics.specs.Programs.{Program}
use Rattle.pfc_guard_laws.specs.Tops.{Standing}
use Rattle.pfc_semantics.specs.Remainders.{Context, Tried, Scan, Remainder, AwaitsValue, AwaitsLocation, ends, perform, in_names, turn, until, behind_pass}
use Rattle.pfc_semantics.specs.Remainders.{next_pass, write_on, read_on, at_coend, part_from, write_again, go_through, try_guard, scan_on, try_other, begin_sum}
use Rattle.pfc_semantics.specs.Remainders.{add_to, begin_product, multiply_by, compare_with, compare_to, invert, apply, index_into, pass_value, store_at}
use Rattle.pfc_semantics.specs.Remainders.{choose, choose_arm, while_true, until_true, count_from, count_to, show, show_wide, pad, set_count, delay_with}
use Rattle.pfc_semantics.specs.Remainders.{sleep_for, send_on, open_if, offer_value, offer_wait, pass_own, pass_other, read_for, assign_to, input_to}
use Rattle.pfc_semantics.specs.Remainders.{pass_variable, ask_empty, activate_with, enter_with, initial_to, wait_at, signal_at, delay_at, resume_at, send_to}
use Rattle.pfc_semantics.specs.Remainders.{receive_from, receive_into, offer_to, offer_from, offer_into, by_value, by_reference, to_process, to_entry, to_send}
use Rattle.pfc_semantics.specs.Remainders.{to_receive, writes, turns, initials, bars, scans, passes}
use Rattle.pfc_semantics.specs.Expressions.{element_spot, from_summands, from_multipliers, from_selectors, from_indices}
use Rattle.pfc_semantics.specs.Alternatives.{context, with_open, from_alternatives}
use Rattle.pfc_semantics.specs.Statements.{from_stmt, from_until, from_bounds, from_width, shown_as, counting, again}
use Rattle.pfc_semantics.specs.Rewriting.{from_other, from_remainder, from_location, from_value, Doing, going, holding, next}
use Rattle.pfc_guard_laws.specs.Remainders.{SuitsBar, SuitsScan, SuitsRemainder, SuitsAwaiting, SuitsGoal, SuitsAction, SuitsDoing}
use Rattle.pfc_guard_laws.proofs.Expressions.{either, number_on, element_on, function_ends, expr_suits, simple_suits, summands_suit, multipliers_suit}
use Rattle.pfc_guard_laws.proofs.Expressions.{args_suit, selectors_suit, indices_suit}
use Rattle.pfc_guard_laws.proofs.Alternatives.{open_suits, seconds_suit, message_suits, receiver_suits, opened_suits, guard_suits, alternatives_suit}
use Rattle.pfc_guard_laws.proofs.Statements.{width_suits, writes_suit, reads_suit, delay_suits, sent_suits, received_suits, pass_begins, bounds_suit}
use Rattle.pfc_guard_laws.proofs.Statements.{pass_suits, until_suits, stmt_suits, stmts_suit, arms_suit}

-- what is so of a scan does not tell past which ticket it goes
abbrev pub GoesPast : (Scan → Type 0) → Type 0
GoesPast scanned = (s : Scan) (ticket : Option ℕ) → scanned s → scanned (record s { after = ticket })

module _ (g : Program) (standing : Standing) (scanned : Scan → Type 0) (past : GoesPast scanned) where
  other_suits :
      (c : Context) (w : Tried) → SuitsBar g standing.tops w.bar → (s : Scan) → SuitsScan g standing.tops scanned s → (k : Remainder)
      → ((e : Env) → SuitsRemainder g standing scanned e k) → (v : Value) → SuitsAction g standing scanned (from_other c w s k v)
  other_suits c w bar s scan k left v =
      either g standing scanned (is_true (ordinal_of v)) (passes c w s k)
      (scans (context c.env s.line) (record s { after = Some w.ticket }) k) (bar, scan, left)
      (refl, (past s (Some w.ticket) scan.0, scan.1), left)

  pub remainder_suits : (env : Env) (k : Remainder) → SuitsRemainder g standing scanned env k → SuitsAction g standing scanned (from_remainder env k)
  remainder_suits env (ends line) left = tt
  remainder_suits env (perform n ss k) left =
      stmts_suit g standing scanned env n ss left.0 k left.1 (from_remainder env k) (remainder_suits env k left.1)
  remainder_suits env (in_names inner k) left = remainder_suits inner k left
  remainder_suits env (turn n loop k) left = ((left.0, tt), left.1)
  remainder_suits env (until n ss e p k) left =
      let c = context env p.line in
      expr_suits g standing scanned c e left.1 (until_true n ss e p k) (from_until c n (repeat_until ss e p) k (from_remainder env k)) left
      (λ v. until_suits g standing scanned c n (repeat_until ss e p) k (from_remainder env k) v (left.0, left.1) left.2 (remainder_suits env k left.2))
  remainder_suits env (behind_pass f k) left =
      pass_suits g standing scanned (context env f.line) f k (from_remainder env k) left.0 left.1 (remainder_suits env k left.1)
  remainder_suits env (next_pass f k) left = pass_begins g standing scanned (context env f.line) f k left.0 left.1
  remainder_suits env (write_on line args newline k) left =
      writes_suit g standing scanned (context env line) args newline k (from_remainder env k) left.0 left.1 (remainder_suits env k left.1)
  remainder_suits env (read_on line args skip k) left =
      reads_suit g standing scanned (context env line) args skip k (from_remainder env k) left.0 left.1 (remainder_suits env k left.1)
  remainder_suits env (at_coend line k) left = left
  remainder_suits env (part_from caller line k) left = left
  remainder_suits env (write_again r k) left = left
  remainder_suits env (go_through line a rest s k) left =
      let c = context env line in
      guard_suits g standing scanned c a left.0 rest left.1 s left.2 k left.3 (λ t. from_alternatives c rest t k)
      (λ t found. alternatives_suit g standing scanned c rest left.1 t found k left.3) a.guard left.0.0
  remainder_suits env (try_guard b k) left =
      expr_suits g standing scanned b.context b.test (left.0.1 standing refl) (pass_own b k)
      (λ v. if is_true (ordinal_of v) then from_remainder env k else bars b.context b k) (refl, left.0, left.1)
      (λ v. either g standing scanned (is_true (ordinal_of v)) (from_remainder env k) (bars b.context b k) (remainder_suits env k (left.1 env))
      (refl, left.0, left.1))
  remainder_suits env (scan_on s k) left = (refl, left.0, left.1)
  remainder_suits env (try_other w s k) left =
      expr_suits g standing scanned w.bar.context w.bar.test (left.0.1 standing refl) (pass_other w s k) (from_other w.bar.context w s k) left
      (λ v. other_suits w.bar.context w left.0 s left.1 k left.2 v)

  module _ (c : Context) where
    pub location_suits : (goal : AwaitsLocation) → SuitsGoal g standing scanned c.env goal → (s : TypedSpot) →
        SuitsAction g standing scanned (from_location c goal s)
    location_suits (read_for u) suits s = suits
    location_suits (assign_to e k) suits s =
        expr_suits g standing scanned c e suits.0 (store_at s.spot k) (λ v. writes c s.spot v k) suits.1 (λ v. suits.1)
    location_suits (input_to t k) suits s = suits
    location_suits (pass_variable formals rest given call) suits s =
        args_suit g standing scanned c formals rest suits.0 (given ++ by_reference s.spot ∷ []) call suits.1
    location_suits (ask_empty u) suits s = suits
    location_suits (activate_with formals args k) suits s = args_suit g standing scanned c formals args suits.0 [] (to_process s.spot k) suits.1
    location_suits (enter_with entry formals args k) suits s = args_suit g standing scanned c formals args suits.0 [] (to_entry s.spot entry k) suits.1
    location_suits (initial_to e k) suits s =
        expr_suits g standing scanned c e suits.0 (set_count s.spot k) (λ n. initials c s.spot (ordinal_of n) k) suits.1 (λ n. suits.1)
    location_suits (wait_at k) suits s = suits
    location_suits (signal_at k) suits s = suits
    location_suits (delay_at rank k) suits s = delay_suits g standing scanned c s.spot rank k suits.0 suits.1
    location_suits (resume_at k) suits s = suits
    location_suits (send_to e k) suits s = sent_suits g standing scanned c s.spot e k suits.0 suits.1
    location_suits (receive_from d k) suits s = received_suits g standing scanned c s.spot d k suits.0 suits.1
    location_suits (receive_into channel k) suits s = ((tt, tt), suits)
    location_suits (offer_to e a rest sel k) suits s =
        message_suits g standing scanned c a suits.1 rest suits.2 sel suits.3 k suits.4 (λ t. from_alternatives c rest t k)
        (λ t found. alternatives_suit g standing scanned c rest suits.2 t found k suits.4) s.spot e suits.0
    location_suits (offer_from d a rest sel k) suits s =
        receiver_suits g standing scanned c a suits.1 rest suits.2 sel suits.3 k suits.4 (λ t. from_alternatives c rest t k)
        (λ t found. alternatives_suit g standing scanned c rest suits.2 t found k suits.4) s.spot d suits.0
    location_suits (offer_into channel a rest sel k) suits s =
        alternatives_suit g standing scanned c rest suits.1 (with_open a sel (to_receive channel (Some s.spot)))
        (open_suits g standing c a sel (to_receive channel (Some s.spot)) suits.0 suits.2 tt) k suits.3

    pub value_suits : (u : AwaitsValue) → SuitsAwaiting g standing scanned c.env u → (v : Value) → SuitsAction g standing scanned (from_value c u v)
    value_suits (begin_sum sign rest u) suits a =
        number_on g standing scanned c (signed sign (ordinal_of a)) (λ n. from_summands c n rest u (from_value c u))
        (λ n. summands_suit g standing scanned c rest suits.0 n u (from_value c u) suits.1 (λ v. value_suits u suits.1 v))
    value_suits (add_to n op rest u) suits b =
        number_on g standing scanned c (added op n (ordinal_of b)) (λ m. from_summands c m rest u (from_value c u))
        (λ m. summands_suit g standing scanned c rest suits.0 m u (from_value c u) suits.1 (λ v. value_suits u suits.1 v))
    value_suits (begin_product rest u) suits a =
        multipliers_suit g standing scanned c rest suits.0 a u (from_value c u) suits.1 (λ v. value_suits u suits.1 v)
    value_suits (multiply_by n op rest u) suits b =
        number_on g standing scanned c (multiplied op n (ordinal_of b)) (λ m. from_multipliers c m rest u (from_value c u))
        (λ m. multipliers_suit g standing scanned c rest suits.0 m u (from_value c u) suits.1 (λ v. value_suits u suits.1 v))
    value_suits (compare_with r t u) suits a =
        simple_suits g standing scanned c t suits.0 (compare_to (ordinal_of a) r u)
        (λ b. from_value c u (ordinal (compared r (ordinal_of a) (ordinal_of b)))) suits.1
        (λ b. value_suits u suits.1 (ordinal (compared r (ordinal_of a) (ordinal_of b))))
    value_suits (compare_to a r u) suits b = value_suits u suits (ordinal (compared r a (ordinal_of b)))
    value_suits (invert u) suits a = value_suits u suits (ordinal (inverse_of (ordinal_of a)))
    value_suits (apply f t u) suits v = function_ends g standing scanned c f t u (from_value c u) v suits (λ w. value_suits u suits w)
    value_suits (index_into s es ss goal) suits i =
        element_on g standing scanned c (element_spot c.env.state.forms s (ordinal_of i))
        (λ t. from_indices c t es ss goal (λ last. from_selectors c last ss goal (from_location c goal)))
        (λ t. indices_suit g standing scanned c es suits.0 ss suits.1 t goal (λ last. from_selectors c last ss goal (from_location c goal)) suits.2
        (λ last. selectors_suit g standing scanned c ss suits.1 last goal (from_location c goal) suits.2 (λ l. location_suits goal suits.2 l)))
    value_suits (pass_value formals rest given call) suits v =
        args_suit g standing scanned c formals rest suits.0 (given ++ by_value v ∷ []) call suits.1
    value_suits (store_at s k) suits v = suits
    value_suits (choose n s t k) suits v =
        either g standing scanned (is_true (ordinal_of v)) (from_stmt c.env n s k (from_remainder c.env k))
        (from_stmt c.env (n + scopes_in s) t k (from_remainder c.env k))
        (stmt_suits g standing scanned c.env n s suits.0 k suits.2 (from_remainder c.env k) (remainder_suits c.env k suits.2))
        (stmt_suits g standing scanned c.env (n + scopes_in s) t suits.1 k suits.2 (from_remainder c.env k) (remainder_suits c.env k suits.2))
    value_suits (choose_arm n arms k) suits v =
        arms_suit g standing scanned c n (ordinal_of v) arms suits.0 k suits.1 (from_remainder c.env k) (remainder_suits c.env k suits.1)
    value_suits (while_true n e s p k) suits v =
        let way = turns c (again n (while_do e s p) k) in
        either g standing scanned (is_true (ordinal_of v)) (from_stmt c.env n s (turn n (while_do e s p) k) way) (from_remainder c.env k)
        (stmt_suits g standing scanned c.env n s suits.1 (turn n (while_do e s p) k) ((suits.0, suits.1), suits.2) way (((suits.0, suits.1), tt), suits.2))
        (remainder_suits c.env k suits.2)
    value_suits (until_true n ss e p k) suits v =
        until_suits g standing scanned c n (repeat_until ss e p) k (from_remainder c.env k) v (suits.0, suits.1) suits.2 (remainder_suits c.env k suits.2)
    value_suits (count_from n at down b s k) suits a =
        expr_suits g standing scanned c b suits.0 (count_to n at (ordinal_of a) down s k)
        (λ last. from_bounds c (counting c n at a last down s) k (from_remainder c.env k)) (suits.1, suits.2)
        (λ last. bounds_suit g standing scanned c (counting c n at a last down s) k (from_remainder c.env k) suits.1 suits.2 (remainder_suits c.env k suits.2))
    value_suits (count_to n at a down s k) suits last =
        bounds_suit g standing scanned c (counting c n at (ordinal a) last down s) k (from_remainder c.env k) suits.0 suits.1 (remainder_suits c.env k suits.1)
    value_suits (show t k) suits v = suits
    value_suits (show_wide t w k) suits v =
        expr_suits g standing scanned c w suits.0 (pad (shown_as t v) k) (from_width c (shown_as t v) k) suits.1
        (λ n. width_suits g standing scanned c (shown_as t v) k n suits.1)
    value_suits (pad bytes k) suits w = width_suits g standing scanned c bytes k w suits
    value_suits (set_count s k) suits n = suits
    value_suits (delay_with s k) suits n = suits
    value_suits (sleep_for k) suits n = suits
    value_suits (send_on channel k) suits v = ((tt, tt), suits)
    value_suits (open_if a rest s k) suits v =
        opened_suits g standing scanned c a suits.0 rest suits.1 s suits.2 k suits.3 (λ t. from_alternatives c rest t k)
        (λ t found. alternatives_suit g standing scanned c rest suits.1 t found k suits.3) v
    value_suits (offer_value channel a rest s k) suits v =
        alternatives_suit g standing scanned c rest suits.1 (with_open a s (to_send channel v))
        (open_suits g standing c a s (to_send channel v) suits.0 suits.2 tt) k
        suits.3
    value_suits (offer_wait a rest s k) suits v =
        seconds_suit g standing scanned c a s (λ t. from_alternatives c rest t k) v suits.0 suits.2
        (λ t found. alternatives_suit g standing scanned c rest suits.1 t found k suits.3)
    value_suits (pass_own b k) suits v =
        either g standing scanned (is_true (ordinal_of v)) (from_remainder c.env k) (bars c b k) (remainder_suits c.env k (suits.2 c.env)) suits
    value_suits (pass_other w s k) suits v = other_suits c w suits.0 s suits.1 k suits.2 v

  pub next_suits : (doing : Doing) → SuitsDoing g standing scanned doing → SuitsAction g standing scanned (next doing)
  next_suits (going env k) suits = remainder_suits env k suits
  next_suits (holding c v u) suits = value_suits c u suits v
