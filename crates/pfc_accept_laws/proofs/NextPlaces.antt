-- The action that comes next is placed.
use Rattle.std.proofs.Common.{◌+◌, if◌then◌else◌, [], ◌∷◌, ◌++◌, Some}
use Rattle.pfc_tree.specs.trees.Stmts.{while_do, repeat_until}
use Rattle.pfc_types.specs.rules.Expressions.{Env}
use Rattle.pfc_types.specs.rules.Statements.{scopes_in}
use Rattle.pfc_values.specs.Numbers.{inverse_of, is_true}
use Rattle.pfc_semantics.specs.Values.{Value, ordinal, ordinal_of}
use Rattle.pfc_semantics.specs.Displays.{TypedSpot}
use Rattle.pfc_semantics.specs.Operators.{signed, added, multiplied, compared}
use Rattle.pfc_semantics.specs.Programs.{Block}
use Rattle.pfc_semantics.specs.Remainders.{Context, Tried, Scan, Remainder, AwaitsValue, AwaitsLocation, ends, perform, in_names, turn, until, behind_pass}
use Rattle.pfc_semantics.specs.Remainders.{next_pass, write_on, read_on, at_coend, part_from, write_again, go_through, try_guard, scan_on, try_other, begin_sum}
use Rattle.pfc_semantics.specs.Remainders.{add_to, begin_product, multiply_by, compare_with, compare_to, invert, apply, index_into, pass_value, store_at}
use Rattle.pfc_semantics.specs.Remainders.{choose, choose_arm, while_true, until_true, count_from, count_to, show, show_wide, pad, set_count, delay_with}
use Rattle.pfc_semantics.specs.Remainders.{sleep_for, send_on, open_if, offer_value, offer_wait, pass_own, pass_other, read_for, assign_to, input_to}
use Rattle.pfc_semantics.specs.Remainders.{pass_variable, ask_empty, activate_with, enter_with, initial_to, wait_at, signal_at, delay_at, resume_at, send_to}
use Rattle.pfc_semantics.specs.Remainders.{receive_from, receive_into, offer_to, offer_from, offer_into, by_value, by_reference, to_process, to_entry, to_send}
use Rattle.pfc_semantics.specs.Remainders.{to_receive, writes, turns, initials, bars, scans, passes}
use Rattle.pfc_semantics.specs.Expressions.{element_spot, from_summands, from_multipliers, from_selectors, from_indices}
use Rattle.pfc_semantics.specs.Alternatives.{context, with_open, from_alternatives}
use Rattle.pfc_semantics.specs.Statements.{from_stmt, from_until, from_bounds, from_width, shown_as, counting, again}
use Rattle.pfc_semantics.specs.Rewriting.{from_other, from_remainder, from_location, from_value, Doing, going, holding, next}
use Rattle.pfc_accept_laws.specs.Places.{PlacesRemainder, PlacesAwaiting, PlacesGoal, PlacesAction, PlacesDoing}
use Rattle.pfc_accept_laws.proofs.ExpressionPlaces.{either, number_on, element_on, function_ends, expr_places, simple_places, summands_place, multipliers_place}
use Rattle.pfc_accept_laws.proofs.ExpressionPlaces.{args_place, selectors_place, indices_place}
use Rattle.pfc_accept_laws.proofs.AlternativePlaces.{open_places, seconds_place, message_places, receiver_places, opened_places, guard_places}
use Rattle.pfc_accept_laws.proofs.AlternativePlaces.{alternatives_place}
use Rattle.pfc_accept_laws.proofs.StatementPlaces.{width_places, writes_place, reads_place, delay_places, sent_places, received_places, pass_begins}
use Rattle.pfc_accept_laws.proofs.StatementPlaces.{bounds_place, pass_places, again_places, until_places, stmt_places, stmts_place, arms_place}

module _ (b : Block) where
  other_places : (c : Context) (w : Tried) (s : Scan) (k : Remainder) → ((e : Env) → PlacesRemainder b e k) →
      (v : Value) → PlacesAction b (from_other c w s k v)
  other_places c w s k left v =
      either b (is_true (ordinal_of v)) (passes c w s k) (scans (context c.env s.line) (record s { after = Some w.ticket }) k) left left

  pub remainder_places : (env : Env) (k : Remainder) → PlacesRemainder b env k → PlacesAction b (from_remainder env k)
  remainder_places env (ends line) left = tt
  remainder_places env (perform n ss k) left = stmts_place b env n ss k left.0 left.1 (from_remainder env k) (remainder_places env k left.1)
  remainder_places env (in_names inner k) left = remainder_places inner k left
  remainder_places env (turn n loop k) left = again_places b (context env 0) n loop k left.0 left.1
  remainder_places env (until n ss e p k) left =
      let c = context env p.line in
      expr_places b c e (until_true n ss e p k) (from_until c n (repeat_until ss e p) k (from_remainder env k)) left
      (λ v. until_places b c n (repeat_until ss e p) k (from_remainder env k) v left.0 left.1 (remainder_places env k left.1))
  remainder_places env (behind_pass f k) left =
      pass_places b (context env f.line) f k (from_remainder env k) left.0 left.1 (remainder_places env k left.1)
  remainder_places env (next_pass f k) left = pass_begins b (context env f.line) f k left.0 left.1
  remainder_places env (write_on line args newline k) left =
      writes_place b (context env line) args newline k (from_remainder env k) left (remainder_places env k left)
  remainder_places env (read_on line args skip k) left =
      reads_place b (context env line) args skip k (from_remainder env k) left (remainder_places env k left)
  remainder_places env (at_coend line k) left = left
  remainder_places env (part_from caller line k) left = left
  remainder_places env (write_again r k) left = left
  remainder_places env (go_through line a rest s k) left =
      let c = context env line in
      guard_places b c a rest s k left.0 left.1 (λ t. from_alternatives c rest t k)
      (λ t found. alternatives_place b c rest t k left.0.others found left.1) a.guard
  remainder_places env (try_guard bar k) left =
      expr_places b bar.context bar.test (pass_own bar k) (λ v. if is_true (ordinal_of v) then from_remainder env k else bars bar.context bar k) left
      (λ v. either b (is_true (ordinal_of v)) (from_remainder env k) (bars bar.context bar k) (remainder_places env k (left env)) left)
  remainder_places env (scan_on s k) left = left
  remainder_places env (try_other w s k) left =
      expr_places b w.bar.context w.bar.test (pass_other w s k) (from_other w.bar.context w s k) left (λ v. other_places w.bar.context w s k left v)

  module _ (c : Context) where
    pub location_places : (goal : AwaitsLocation) → PlacesGoal b c.env goal → (s : TypedSpot) → PlacesAction b (from_location c goal s)
    location_places (read_for u) left s = left
    location_places (assign_to e k) left s = expr_places b c e (store_at s.spot k) (λ v. writes c s.spot v k) left (λ v. left)
    location_places (input_to t k) left s = left
    location_places (pass_variable formals rest given call) left s = args_place b c formals rest (given ++ by_reference s.spot ∷ []) call left
    location_places (ask_empty u) left s = left
    location_places (activate_with formals args k) left s = args_place b c formals args [] (to_process s.spot k) left
    location_places (enter_with entry formals args k) left s = args_place b c formals args [] (to_entry s.spot entry k) left
    location_places (initial_to e k) left s =
        expr_places b c e (set_count s.spot k) (λ n. initials c s.spot (ordinal_of n) k) left (λ n. left)
    location_places (wait_at k) left s = left
    location_places (signal_at k) left s = left
    location_places (delay_at rank k) left s = delay_places b c s.spot rank k left
    location_places (resume_at k) left s = left
    location_places (send_to e k) left s = sent_places b c s.spot e k left
    location_places (receive_from d k) left s = received_places b c s.spot d k left
    location_places (receive_into channel k) left s = ((tt, tt), left)
    location_places (offer_to e a rest sel k) left s =
        message_places b c a rest sel k left.0 left.1 (λ t. from_alternatives c rest t k)
        (λ t found. alternatives_place b c rest t k left.0.others found left.1) s.spot e
    location_places (offer_from d a rest sel k) left s =
        receiver_places b c a rest sel k left.0 left.1 (λ t. from_alternatives c rest t k)
        (λ t found. alternatives_place b c rest t k left.0.others found left.1) s.spot d
    location_places (offer_into channel a rest sel k) left s =
        alternatives_place b c rest (with_open a sel (to_receive channel (Some s.spot))) k left.0.others
        (open_places b c a sel (to_receive channel (Some s.spot)) k left.0.one left.0.all tt) left.1

    pub value_places : (u : AwaitsValue) → PlacesAwaiting b c.env u → (v : Value) → PlacesAction b (from_value c u v)
    value_places (begin_sum sign rest u) left a =
        number_on b c (signed sign (ordinal_of a)) (λ n. from_summands c n rest u (from_value c u))
        (λ n. summands_place b c rest n u (from_value c u) left (λ v. value_places u left v))
    value_places (add_to n op rest u) left a =
        number_on b c (added op n (ordinal_of a)) (λ m. from_summands c m rest u (from_value c u))
        (λ m. summands_place b c rest m u (from_value c u) left (λ v. value_places u left v))
    value_places (begin_product rest u) left a = multipliers_place b c rest a u (from_value c u) left (λ v. value_places u left v)
    value_places (multiply_by n op rest u) left a =
        number_on b c (multiplied op n (ordinal_of a)) (λ m. from_multipliers c m rest u (from_value c u))
        (λ m. multipliers_place b c rest m u (from_value c u) left (λ v. value_places u left v))
    value_places (compare_with r t u) left a =
        simple_places b c t (compare_to (ordinal_of a) r u) (λ d. from_value c u (ordinal (compared r (ordinal_of a) (ordinal_of d)))) left
        (λ d. value_places u left (ordinal (compared r (ordinal_of a) (ordinal_of d))))
    value_places (compare_to a r u) left d = value_places u left (ordinal (compared r a (ordinal_of d)))
    value_places (invert u) left a = value_places u left (ordinal (inverse_of (ordinal_of a)))
    value_places (apply f t u) left v = function_ends b c f t u (from_value c u) v left (λ w. value_places u left w)
    value_places (index_into s es ss goal) left i =
        element_on b c (element_spot c.env.state.forms s (ordinal_of i))
        (λ t. from_indices c t es ss goal (λ last. from_selectors c last ss goal (from_location c goal)))
        (λ t. indices_place b c es ss t goal (λ last. from_selectors c last ss goal (from_location c goal)) left
        (λ last. selectors_place b c ss last goal (from_location c goal) left (λ l. location_places goal left l)))
    value_places (pass_value formals rest given call) left v = args_place b c formals rest (given ++ by_value v ∷ []) call left
    value_places (store_at s k) left v = left
    value_places (choose n s t k) left v =
        either b (is_true (ordinal_of v)) (from_stmt c.env n s k (from_remainder c.env k)) (from_stmt c.env (n + scopes_in s) t k (from_remainder c.env k))
        (stmt_places b c.env n s k left.0 left.2 (from_remainder c.env k) (remainder_places c.env k left.2))
        (stmt_places b c.env (n + scopes_in s) t k left.1 left.2 (from_remainder c.env k) (remainder_places c.env k left.2))
    value_places (choose_arm n arms k) left v =
        arms_place b c n (ordinal_of v) arms k left.0 left.1 (from_remainder c.env k) (remainder_places c.env k left.1)
    value_places (while_true n e s p k) left v =
        let way = turns c (again n (while_do e s p) k) in
        either b (is_true (ordinal_of v)) (from_stmt c.env n s (turn n (while_do e s p) k) way) (from_remainder c.env k)
        (stmt_places b c.env n s (turn n (while_do e s p) k) left.0 (left.0, left.1) way (again_places b c n (while_do e s p) k left.0 left.1))
        (remainder_places c.env k left.1)
    value_places (until_true n ss e p k) left v =
        until_places b c n (repeat_until ss e p) k (from_remainder c.env k) v left.0 left.1 (remainder_places c.env k left.1)
    value_places (count_from n at down e s k) left a =
        expr_places b c e (count_to n at (ordinal_of a) down s k) (λ last. from_bounds c (counting c n at a last down s) k (from_remainder c.env k)) left
        (λ last. bounds_place b c (counting c n at a last down s) k (from_remainder c.env k) left.0 left.1 (remainder_places c.env k left.1))
    value_places (count_to n at a down s k) left last =
        bounds_place b c (counting c n at (ordinal a) last down s) k (from_remainder c.env k) left.0 left.1 (remainder_places c.env k left.1)
    value_places (show t k) left v = left
    value_places (show_wide t w k) left v =
        expr_places b c w (pad (shown_as t v) k) (from_width c (shown_as t v) k) left (λ n. width_places b c (shown_as t v) k n left)
    value_places (pad bytes k) left w = width_places b c bytes k w left
    value_places (set_count s k) left n = left
    value_places (delay_with s k) left n = left
    value_places (sleep_for k) left n = left
    value_places (send_on channel k) left v = ((tt, tt), left)
    value_places (open_if a rest s k) left v =
        opened_places b c a rest s k left.0 left.1 (λ t. from_alternatives c rest t k)
        (λ t found. alternatives_place b c rest t k left.0.others found left.1) v
    value_places (offer_value channel a rest s k) left v =
        alternatives_place b c rest (with_open a s (to_send channel v)) k left.0.others
        (open_places b c a s (to_send channel v) k left.0.one left.0.all tt) left.1
    value_places (offer_wait a rest s k) left v =
        seconds_place b c a s (λ t. from_alternatives c rest t k) v k left.0.one left.0.all
        (λ t found. alternatives_place b c rest t k left.0.others found left.1)
    value_places (pass_own bar k) left v =
        either b (is_true (ordinal_of v)) (from_remainder c.env k) (bars c bar k) (remainder_places c.env k (left c.env)) left
    value_places (pass_other w s k) left v = other_places c w s k left v

  pub next_places : (doing : Doing) → PlacesDoing b doing → PlacesAction b (next doing)
  next_places (going env k) left = remainder_places env k left
  next_places (holding c v u) left = value_places c u left v
