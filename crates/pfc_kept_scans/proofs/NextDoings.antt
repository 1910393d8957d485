-- What is true of the action that comes next, whatever is left to be done; and a turn of a scan has the line of its scan.
use Rattle.std.proofs.Common.{◌≡◌, refl, subst, ◌+◌, [], Some}
use Rattle.pfc_tree.specs.trees.Stmts.{while_do, repeat_until}
use Rattle.pfc_types.specs.rules.Expressions.{Env}
use Rattle.pfc_types.specs.rules.Statements.{scopes_in}
use Rattle.pfc_semantics.specs.Values.{Value, ordinal, ordinal_of}
use Rattle.pfc_semantics.specs.Displays.{TypedSpot}
use Rattle.pfc_semantics.specs.Remainders.{Context, Tried, Scan, Bar, Remainder, AwaitsValue, AwaitsLocation, Action, ends, perform, in_names, turn, until}
use Rattle.pfc_semantics.specs.Remainders.{behind_pass, next_pass, write_on, read_on, at_coend, part_from, write_again, go_through, try_guard, scan_on}
use Rattle.pfc_semantics.specs.Remainders.{try_other, begin_sum, add_to, begin_product, multiply_by, compare_with, compare_to, invert, apply, index_into}
use Rattle.pfc_semantics.specs.Remainders.{pass_value, store_at, choose, choose_arm, while_true, until_true, count_from, count_to, show, show_wide, pad}
use Rattle.pfc_semantics.specs.Remainders.{set_count, delay_with, sleep_for, send_on, open_if, offer_value, offer_wait, pass_own, pass_other, read_for}
use Rattle.pfc_semantics.specs.Remainders.{assign_to, input_to, pass_variable, ask_empty, activate_with, enter_with, initial_to, wait_at, signal_at, delay_at}
use Rattle.pfc_semantics.specs.Remainders.{resume_at, send_to, receive_from, receive_into, offer_to, offer_from, offer_into, reads, writes, turns, finishes}
use Rattle.pfc_semantics.specs.Remainders.{prints, inputs, asks_empty, joins, initials, waits, signals, delays, resumes, sleeps, meets, parts, scans, bars}
use Rattle.pfc_semantics.specs.Remainders.{passes}
use Rattle.pfc_semantics.specs.Rewriting.{Doing, going, holding, from_other, from_remainder, from_location, from_value, next}
use Rattle.pfc_semantics.specs.Alternatives.{context}
use Rattle.pfc_semantics.specs.Statements.{counting, again}
use Rattle.pfc_kept_scans.proofs.Nexts.{IsOther}
use Rattle.pfc_kept_scans.proofs.Nexts as phrase
use Rattle.pfc_kept_scans.proofs.NextStatements as statement

module _ (P : Action → Type 0) (other : (n : Action) → IsOther n → P n) (turned : (env : Env) (s : Scan) (k : Remainder) → P (scans (context env s.line) s k))
    (barred : (c : Context) (b : Bar) (k : Remainder) → P (bars c b k)) (let_on : (c : Context) (w : Tried) (s : Scan) (k : Remainder) → P (passes c w s k))
  where
    tried : (c : Context) (w : Tried) (s : Scan) (k : Remainder) (v : Value) → P (from_other c w s k v)
    tried c w s k v = phrase.either P other _ _ _ (let_on c w s k) (turned c.env (record s { after = Some w.ticket }) k)

    remainder : (env : Env) (k : Remainder) → P (from_remainder env k)
    remainder env (ends line) = other (finishes line) tt
    remainder env (perform n ss k) = statement.stmts P other env n ss k _ (remainder env k)
    remainder env (in_names inner k) = remainder inner k
    remainder env (turn n loop k) = other (turns _ _) tt
    remainder env (until n ss e p k) =
        phrase.expr P other _ e _ _ (statement.tested P other (context env p.line) n (repeat_until ss e p) k _ (remainder env k))
    remainder env (behind_pass f k) = statement.passed P other _ f k _ (remainder env k)
    remainder env (next_pass f k) = other (writes _ f.at _ _) tt
    remainder env (write_on line args newline k) = statement.written P other _ args newline k _ (remainder env k)
    remainder env (read_on line args skip k) = statement.read P other _ args skip k _ (remainder env k)
    remainder env (at_coend line k) = other (joins _ k) tt
    remainder env (part_from caller line k) = other (parts _ caller k) tt
    remainder env (write_again r k) = other (writes _ r.at _ k) tt
    remainder env (go_through line a rest s k) =
        statement.guarded P other (context env line) a.guard a rest s k _ (λ t. statement.all_alternatives P other (context env line) rest t k)
    remainder env (try_guard b k) = phrase.expr P other _ b.test _ _ (λ v. phrase.either P other _ _ _ (remainder env k) (barred b.context b k))
    remainder env (scan_on s k) = turned env s k
    remainder env (try_other w s k) = phrase.expr P other _ w.bar.test _ _ (tried w.bar.context w s k)

    location : (c : Context) (goal : AwaitsLocation) (s : TypedSpot) → P (from_location c goal s)
    location c (read_for u) s = other (reads c s.spot u) tt
    location c (assign_to e k) s = phrase.expr P other c e _ _ (λ v. other (writes c s.spot v k) tt)
    location c (input_to t k) s = other (inputs c t s.spot k) tt
    location c (pass_variable formals rest given call) s = phrase.arguments P other c formals rest _ call
    location c (ask_empty u) s = other (asks_empty c s.spot u) tt
    location c (activate_with formals args k) s = phrase.arguments P other c formals args [] _
    location c (enter_with entry formals args k) s = phrase.arguments P other c formals args [] _
    location c (initial_to e k) s = phrase.expr P other c e _ _ (λ n. other (initials c s.spot _ k) tt)
    location c (wait_at k) s = other (waits c s.spot k) tt
    location c (signal_at k) s = other (signals c s.spot k) tt
    location c (delay_at rank k) s = statement.delayed P other c s.spot rank k
    location c (resume_at k) s = other (resumes c s.spot k) tt
    location c (send_to e k) s = statement.sent P other c s.spot e k
    location c (receive_from d k) s = statement.received P other c s.spot d k
    location c (receive_into channel k) s = other (meets c _ k) tt
    location c (offer_to e a rest sel k) s =
        statement.message P other c s.spot e a rest sel k _ (λ t. statement.all_alternatives P other c rest t k)
    location c (offer_from d a rest sel k) s =
        statement.receiver P other c s.spot d a rest sel k _ (λ t. statement.all_alternatives P other c rest t k)
    location c (offer_into channel a rest sel k) s = statement.all_alternatives P other c rest _ k

    value : (c : Context) (u : AwaitsValue) (v : Value) → P (from_value c u v)
    value c (begin_sum sign rest u) a = phrase.numbered P other c _ _ (λ n. phrase.summands P other c n rest u _ (value c u))
    value c (add_to n op rest u) b = phrase.numbered P other c _ _ (λ m. phrase.summands P other c m rest u _ (value c u))
    value c (begin_product rest u) a = phrase.multipliers P other c a rest u _ (value c u)
    value c (multiply_by n op rest u) b = phrase.numbered P other c _ _ (λ m. phrase.multipliers P other c m rest u _ (value c u))
    value c (compare_with r t u) a = phrase.simple P other c t _ _ (λ b. value c u _)
    value c (compare_to a r u) b = value c u _
    value c (invert u) a = value c u _
    value c (apply f t u) v = phrase.finished P other c f t u _ (value c u) v
    value c (index_into s es ss goal) i =
        phrase.element P other c _ _ (λ t. phrase.indices P other c t es ss goal _ (λ last. phrase.selectors P other c last ss goal _ (location c goal)))
    value c (pass_value formals rest given call) v = phrase.arguments P other c formals rest _ call
    value c (store_at s k) v = other (writes c s v k) tt
    value c (choose n s t k) v =
        phrase.either P other _ _ _ (statement.stmt P other c.env n s k _ (remainder c.env k))
        (statement.stmt P other c.env (n + scopes_in s) t k _ (remainder c.env k))
    value c (choose_arm n arms k) v = statement.all_arms P other c n (ordinal_of v) arms k _ (remainder c.env k)
    value c (while_true n e s p k) v =
        phrase.either P other _ _ _ (statement.stmt P other c.env n s _ _ (other (turns c (again n (while_do e s p) k)) tt)) (remainder c.env k)
    value c (until_true n ss e p k) v = statement.tested P other c n (repeat_until ss e p) k _ (remainder c.env k) v
    value c (count_from n at down b s k) a =
        phrase.expr P other c b _ _ (λ last. statement.bounded P other c (counting c n at a last down s) k _ (remainder c.env k))
    value c (count_to n at a down s k) last = statement.bounded P other c (counting c n at (ordinal a) last down s) k _ (remainder c.env k)
    value c (show t k) v = other (prints c _ k) tt
    value c (show_wide t w k) v = phrase.expr P other c w _ _ (statement.width P other c _ k)
    value c (pad bytes k) w = statement.width P other c bytes k w
    value c (set_count s k) n = other (initials c s _ k) tt
    value c (delay_with s k) n = other (delays c s _ k) tt
    value c (sleep_for k) n = other (sleeps c _ k) tt
    value c (send_on channel k) v = other (meets c _ k) tt
    value c (open_if a rest s k) v = statement.opened P other c a rest s k _ (λ t. statement.all_alternatives P other c rest t k) v
    value c (offer_value channel a rest s k) v = statement.all_alternatives P other c rest _ k
    value c (offer_wait a rest s k) v = statement.seconds P other c a s _ (λ t. statement.all_alternatives P other c rest t k) v
    value c (pass_own b k) v = phrase.either P other _ _ _ (remainder c.env k) (barred c b k)
    value c (pass_other w s k) v = tried c w s k v

    pub each_next : (d : Doing) → P (next d)
    each_next (going env k) = remainder env k
    each_next (holding c v u) = value c u v

-- ## Turns

abbrev IsInLine : Action → Type 0
IsInLine (scans x s k) = x.line ≡ s.line
IsInLine n = Unit {0}

others_in_line : (n : Action) → IsOther n → IsInLine n
others_in_line (scans x s k) is = absurd is
others_in_line n is = tt

pub in_line : (d : Doing) (x : Context) (s : Scan) (k : Remainder) → next d ≡ scans x s k → x.line ≡ s.line
in_line d x s k is =
    subst IsInLine is (each_next IsInLine others_in_line (λ env t l. refl) (λ c b l. tt) (λ c w t l. tt) d)
