-- Quiet rewriting: the one action that comes next, by what a process has still to do.
--
-- All that is quiet before that action is left behind. It has no store and no other process, so it changes nothing but what is left of this
-- one; and it is a function, so exactly one action comes next.
use Rattle.std.specs.Prelude.{ℕ, ◌+◌, if◌then◌else◌, [], ◌∷◌, ◌++◌, Some}
use Rattle.pfc_tree.specs.trees.Stmts.{StmtTree, while_do, repeat_until, repeat_forever}
use Rattle.pfc_types.specs.rules.Expressions.{Env}
use Rattle.pfc_types.specs.rules.Statements.{scopes_in}
use Rattle.pfc_values.specs.Numbers.{inverse_of, is_true}
use Rattle.pfc_semantics.specs.Values.{Value, ordinal, ordinal_of}
use Rattle.pfc_semantics.specs.Displays.{TypedSpot}
use Rattle.pfc_semantics.specs.Operators.{signed, added, multiplied, compared}
use Rattle.pfc_semantics.specs.Remainders.{Context, Tried, Scan, Remainder, AwaitsValue, AwaitsLocation, Action, ends, perform, in_names, turn, until}
use Rattle.pfc_semantics.specs.Remainders.{behind_pass, next_pass, write_on, read_on, at_coend, part_from, write_again, go_through, try_guard, scan_on}
use Rattle.pfc_semantics.specs.Remainders.{try_other, begin_sum, add_to, begin_product, multiply_by, compare_with, compare_to, invert, apply, index_into}
use Rattle.pfc_semantics.specs.Remainders.{pass_value, store_at, choose, choose_arm, while_true, until_true, count_from, count_to, show, show_wide, pad}
use Rattle.pfc_semantics.specs.Remainders.{set_count, delay_with, sleep_for, send_on, open_if, offer_value, offer_wait, pass_own, pass_other, read_for}
use Rattle.pfc_semantics.specs.Remainders.{assign_to, input_to, pass_variable, ask_empty, activate_with, enter_with, initial_to, wait_at, signal_at, delay_at}
use Rattle.pfc_semantics.specs.Remainders.{resume_at, send_to, receive_from, receive_into, offer_to, offer_from, offer_into, by_value, by_reference, to_process}
use Rattle.pfc_semantics.specs.Remainders.{to_entry, to_send, to_receive, reads, writes, turns, finishes, prints, inputs, asks_empty, joins, initials, waits}
use Rattle.pfc_semantics.specs.Remainders.{signals, delays, resumes, sleeps, meets, parts, scans, bars, passes}
use Rattle.pfc_semantics.specs.Expressions.{with_number, with_element, element_spot, finish_call, from_expr, from_simple, from_summands, from_multipliers}
use Rattle.pfc_semantics.specs.Expressions.{from_selectors, from_indices, from_args}
use Rattle.pfc_semantics.specs.Alternatives.{context, with_open, from_seconds, from_message, from_receiver, from_opened, from_guard, from_alternatives}
use Rattle.pfc_semantics.specs.Statements.{from_stmt, from_stmts, from_arms, from_until, from_bounds, begin_pass, from_pass, from_writes, from_reads}
use Rattle.pfc_semantics.specs.Statements.{from_width, shown_as, from_delay, from_sent, from_received, plain_open, counting, again}

-- the line of a loop
abbrev pub loop_line : StmtTree → ℕ
loop_line (while_do e s p) = p.line
loop_line (repeat_until ss e p) = p.line
loop_line (repeat_forever ss p) = p.line
loop_line s = 0

-- ## Behind a guard of a resource

-- Behind the guard of a barred process: where it is true the resource passes to that one; else the next turn comes, past its ticket.
abbrev pub from_other : Context → Tried → Scan → Remainder → Value → Action
from_other c w s k v =
    if is_true (ordinal_of v)
    then passes c w s k
    else scans (context c.env s.line) (record s { after = Some w.ticket }) k

-- ## Remainders

-- behind a statement
abbrev pub from_remainder : Env → Remainder → Action
from_remainder env (ends line) = finishes line
from_remainder env (perform n ss k) = from_stmts env n ss k (from_remainder env k)
from_remainder env (in_names inner k) = from_remainder inner k
from_remainder env (turn n loop k) = turns (context env (loop_line loop)) (again n loop k)
from_remainder env (until n ss e p k) =
    from_expr (context env p.line) e (until_true n ss e p k) (from_until (context env p.line) n (repeat_until ss e p) k (from_remainder env k))
from_remainder env (behind_pass f k) = from_pass (context env f.line) f k (from_remainder env k)
from_remainder env (next_pass f k) = begin_pass (context env f.line) f k
from_remainder env (write_on line args newline k) = from_writes (context env line) args newline k (from_remainder env k)
from_remainder env (read_on line args skip k) = from_reads (context env line) args skip k (from_remainder env k)
from_remainder env (at_coend line k) = joins (context env line) k
from_remainder env (part_from caller line k) = parts (context env line) caller k
from_remainder env (write_again r k) = writes (context env r.line) r.at (ordinal r.value) k
from_remainder env (go_through line a rest s k) =
    let c = context env line in from_guard c a.guard a rest s k (λ t. from_alternatives c rest t k)
from_remainder env (try_guard b k) =
    from_expr b.context b.test (pass_own b k) (λ v. if is_true (ordinal_of v) then from_remainder env k else bars b.context b k)
from_remainder env (scan_on s k) = scans (context env s.line) s k
from_remainder env (try_other w s k) = from_expr w.bar.context w.bar.test (pass_other w s k) (from_other w.bar.context w s k)

-- a variable meets what waits for it
abbrev pub from_location : Context → AwaitsLocation → TypedSpot → Action
from_location c (read_for u) s = reads c s.spot u
from_location c (assign_to e k) s = from_expr c e (store_at s.spot k) (λ v. writes c s.spot v k)
from_location c (input_to t k) s = inputs c t s.spot k
from_location c (pass_variable formals rest given call) s = from_args c formals rest (given ++ by_reference s.spot ∷ []) call
from_location c (ask_empty u) s = asks_empty c s.spot u
from_location c (activate_with formals args k) s = from_args c formals args [] (to_process s.spot k)
from_location c (enter_with entry formals args k) s = from_args c formals args [] (to_entry s.spot entry k)
from_location c (initial_to e k) s = from_expr c e (set_count s.spot k) (λ n. initials c s.spot (ordinal_of n) k)
from_location c (wait_at k) s = waits c s.spot k
from_location c (signal_at k) s = signals c s.spot k
from_location c (delay_at rank k) s = from_delay c s.spot rank k
from_location c (resume_at k) s = resumes c s.spot k
from_location c (send_to e k) s = from_sent c s.spot e k
from_location c (receive_from d k) s = from_received c s.spot d k
from_location c (receive_into channel k) s = meets c (plain_open (to_receive channel (Some s.spot))) k
from_location c (offer_to e a rest sel k) s = from_message c s.spot e a rest sel k (λ t. from_alternatives c rest t k)
from_location c (offer_from d a rest sel k) s = from_receiver c s.spot d a rest sel k (λ t. from_alternatives c rest t k)
from_location c (offer_into channel a rest sel k) s = from_alternatives c rest (with_open a sel (to_receive channel (Some s.spot))) k

-- a value meets what waits for it
abbrev pub from_value : Context → AwaitsValue → Value → Action
from_value c (begin_sum sign rest u) a = with_number c (signed sign (ordinal_of a)) (λ n. from_summands c n rest u (from_value c u))
from_value c (add_to n op rest u) b = with_number c (added op n (ordinal_of b)) (λ m. from_summands c m rest u (from_value c u))
from_value c (begin_product rest u) a = from_multipliers c a rest u (from_value c u)
from_value c (multiply_by n op rest u) b = with_number c (multiplied op n (ordinal_of b)) (λ m. from_multipliers c m rest u (from_value c u))
from_value c (compare_with r t u) a =
    from_simple c t (compare_to (ordinal_of a) r u) (λ b. from_value c u (ordinal (compared r (ordinal_of a) (ordinal_of b))))
from_value c (compare_to a r u) b = from_value c u (ordinal (compared r a (ordinal_of b)))
from_value c (invert u) a = from_value c u (ordinal (inverse_of (ordinal_of a)))
from_value c (apply f t u) v = finish_call c f t u (from_value c u) v
from_value c (index_into s es ss goal) i =
    with_element c (element_spot c.env.state.forms s (ordinal_of i))
    (λ t. from_indices c t es ss goal (λ last. from_selectors c last ss goal (from_location c goal)))
from_value c (pass_value formals rest given call) v = from_args c formals rest (given ++ by_value v ∷ []) call
from_value c (store_at s k) v = writes c s v k
from_value c (choose n s t k) v =
    if is_true (ordinal_of v) then from_stmt c.env n s k (from_remainder c.env k) else from_stmt c.env (n + scopes_in s) t k (from_remainder c.env k)
from_value c (choose_arm n arms k) v = from_arms c n (ordinal_of v) arms k (from_remainder c.env k)
from_value c (while_true n e s p k) v =
    if is_true (ordinal_of v)
    then from_stmt c.env n s (turn n (while_do e s p) k) (turns c (again n (while_do e s p) k))
    else from_remainder c.env k
from_value c (until_true n ss e p k) v = from_until c n (repeat_until ss e p) k (from_remainder c.env k) v
from_value c (count_from n at down b s k) a =
    from_expr c b (count_to n at (ordinal_of a) down s k) (λ last. from_bounds c (counting c n at a last down s) k (from_remainder c.env k))
from_value c (count_to n at a down s k) last = from_bounds c (counting c n at (ordinal a) last down s) k (from_remainder c.env k)
from_value c (show t k) v = prints c (shown_as t v) k
from_value c (show_wide t w k) v = from_expr c w (pad (shown_as t v) k) (from_width c (shown_as t v) k)
from_value c (pad bytes k) w = from_width c bytes k w
from_value c (set_count s k) n = initials c s (ordinal_of n) k
from_value c (delay_with s k) n = delays c s (ordinal_of n) k
from_value c (sleep_for k) n = sleeps c (ordinal_of n) k
from_value c (send_on channel k) v = meets c (plain_open (to_send channel v)) k
from_value c (open_if a rest s k) v = from_opened c a rest s k (λ t. from_alternatives c rest t k) v
from_value c (offer_value channel a rest s k) v = from_alternatives c rest (with_open a s (to_send channel v)) k
from_value c (offer_wait a rest s k) v = from_seconds c a s (λ t. from_alternatives c rest t k) v
from_value c (pass_own b k) v = if is_true (ordinal_of v) then from_remainder c.env k else bars c b k
from_value c (pass_other w s k) v = from_other c w s k v

-- what a process is at: before a statement, or with a value for an expression
pub data Doing : Type 0 where
  going : Env → Remainder → Doing
  holding : Context → Value → AwaitsValue → Doing

-- the one action that comes next
abbrev pub next : Doing → Action
next (going env k) = from_remainder env k
next (holding c v u) = from_value c u v
