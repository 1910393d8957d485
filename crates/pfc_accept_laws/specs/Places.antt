-- Where accepts stand in a process: each is one of its block, and nothing that is in view where it stands, or is left behind it, has its parameters in view.
--
-- Scopes are numbered in the order of the text. So wherever statements stand, whose next scope has some number, all
-- names in view are of scopes before that, and
-- so are those in view in what is left behind them.
use Rattle.std.specs.Prelude.{ℕ, ◌≡◌, ◌≤◌, ◌<◌, ◌+◌, ◌==◌, true, List, Option, Some, None}
use Rattle.std.specs.List.{list_any, AllByRecursion}
use Rattle.pfc_tree.specs.trees.Stmts.{StmtTrees, no_stmts, more_stmts}
use Rattle.pfc_types.specs.Scopes.{Level}
use Rattle.pfc_types.specs.rules.Expressions.{Env}
use Rattle.pfc_types.specs.rules.Statements.{scopes_in, stmts_scopes, arms_scopes, comm_scopes}
use Rattle.pfc_semantics.specs.Programs.{Block}
use Rattle.pfc_semantics.specs.Remainders.{Count, Offer, Open, Alternative, Otherwise, Selecting, Remainder, AwaitsValue, AwaitsLocation, Call, Action}
use Rattle.pfc_semantics.specs.Remainders.{to_accept, ends, perform, in_names, turn, until, behind_pass, next_pass, write_on, read_on, at_coend, part_from}
use Rattle.pfc_semantics.specs.Remainders.{write_again, go_through, try_guard, scan_on, try_other, begin_sum, add_to, begin_product, multiply_by, compare_with}
use Rattle.pfc_semantics.specs.Remainders.{compare_to, invert, apply, index_into, pass_value, store_at, choose, choose_arm, while_true, until_true, count_from}
use Rattle.pfc_semantics.specs.Remainders.{count_to, show, show_wide, pad, set_count, delay_with, sleep_for, send_on, open_if, offer_value, offer_wait}
use Rattle.pfc_semantics.specs.Remainders.{pass_own, pass_other, read_for, assign_to, input_to, pass_variable, ask_empty, activate_with, enter_with, initial_to}
use Rattle.pfc_semantics.specs.Remainders.{wait_at, signal_at, delay_at, resume_at, send_to, receive_from, receive_into, offer_to, offer_from, offer_into}
use Rattle.pfc_semantics.specs.Remainders.{to_procedure, to_function, to_module, to_requeue, to_process, to_entry, reads, writes, turns, calls, finishes}
use Rattle.pfc_semantics.specs.Remainders.{prints, inputs, skips, asks_eof, asks_eoln, asks_clock, asks_empty, draws, joins, initials, waits, signals, delays}
use Rattle.pfc_semantics.specs.Remainders.{resumes, sleeps, meets, decides, parts, scans, bars, passes, faults}
use Rattle.pfc_semantics.specs.Rewriting.{Doing, going, holding}

-- ## Numbers of scopes

-- all names in view are of scopes before this one
abbrev pub IsBefore : ℕ → Env → Type 0
IsBefore n env = (i : ℕ) → list_any (λ (level : Level). level.scope == i) env.view ≡ true → i < n

-- so it is in all that is left, which is in no guard and no scan
abbrev pub IsLow : ℕ → Remainder → Type 0
IsLow n (ends line) = Unit {0}
IsLow n (perform m ss k) = IsLow n k
IsLow n (in_names inner k) = IsBefore n inner × IsLow n k
IsLow n (turn m loop k) = IsLow n k
IsLow n (until m ss e p k) = IsLow n k
IsLow n (behind_pass f k) = IsLow n k
IsLow n (next_pass f k) = IsLow n k
IsLow n (write_on line args newline k) = IsLow n k
IsLow n (read_on line args skip k) = IsLow n k
IsLow n (at_coend line k) = IsLow n k
IsLow n (part_from caller line k) = IsLow n k
IsLow n (write_again r k) = IsLow n k
IsLow n (go_through line a rest s k) = IsLow n k
IsLow n (try_guard bar k) = ⊥
IsLow n (scan_on s k) = ⊥
IsLow n (try_other w s k) = ⊥

-- the scope is that of an accept of the block
abbrev pub IsOfBlock : Block → ℕ → Type 0
IsOfBlock b i = (b.next ≤ i) × (i < b.next + b.accepts)

-- so many scopes from this number on are such
abbrev pub AreOfBlock : Block → ℕ → ℕ → Type 0
AreOfBlock b n size = (i : ℕ) → n ≤ i → i < n + size → IsOfBlock b i

-- statements with so many scopes, the first of which has this number, may stand here before what is left
abbrev pub IsPlaced : Block → Env → ℕ → ℕ → Remainder → Type 0
IsPlaced b env n size k = IsBefore n env × IsLow n k × AreOfBlock b n size

module _ (b : Block) where
  -- ## Pieces, before what is left

  abbrev pub PlacesOffer : Env → Remainder → Offer → Type 0
  PlacesOffer env k (to_accept a) = IsPlaced b env a.scope (1 + scopes_in a.stmt) k
  PlacesOffer env k offer = Unit {0}

  -- a plain communication has no statements behind it
  abbrev pub PlacesStmts : Env → Remainder → ℕ → StmtTrees → Type 0
  PlacesStmts env k n no_stmts = Unit {0}
  PlacesStmts env k n (more_stmts s ss) = IsPlaced b env n (stmts_scopes (more_stmts s ss)) k

  abbrev pub PlacesOpen : Env → Remainder → Open → Type 0
  PlacesOpen env k o = PlacesOffer env k o.offer × PlacesStmts env k o.next o.stmts

  abbrev pub PlacesAlternative : Env → Remainder → Alternative → Type 0
  PlacesAlternative env k a = IsPlaced b env a.next (comm_scopes a.comm + stmts_scopes a.stmts) k

  abbrev pub PlacesOtherwise : Env → Remainder → Option Otherwise → Type 0
  PlacesOtherwise env k None = Unit {0}
  PlacesOtherwise env k (Some other) = IsPlaced b env other.next (stmts_scopes other.stmts) k

  abbrev pub PlacesSelecting : Env → Remainder → Selecting → Type 0
  PlacesSelecting env k s = AllByRecursion (PlacesOpen env k) s.offered × PlacesOtherwise env k s.otherwise

  abbrev pub PlacesCount : Env → Remainder → Count → Type 0
  PlacesCount env k f = IsPlaced b env f.next (scopes_in f.pass) k

  -- a select with what is left of its alternatives
  pub record PlacesSelect (env : Env) (a : Alternative) (rest : List Alternative) (s : Selecting) (k : Remainder) : Type 0 where
    pub one : PlacesAlternative env k a
    pub others : AllByRecursion (PlacesAlternative env k) rest
    pub all : PlacesSelecting env k s

  -- ## Remainders

  abbrev mutual
    pub PlacesRemainder : Env → Remainder → Type 0
    PlacesRemainder env (ends line) = Unit {0}
    PlacesRemainder env (perform n ss k) = IsPlaced b env n (stmts_scopes ss) k × PlacesRemainder env k
    PlacesRemainder env (in_names inner k) = PlacesRemainder inner k
    PlacesRemainder env (turn n loop k) = IsPlaced b env n (scopes_in loop) k × PlacesRemainder env k
    PlacesRemainder env (until n ss e p k) = IsPlaced b env n (stmts_scopes ss) k × PlacesRemainder env k
    PlacesRemainder env (behind_pass f k) = PlacesCount env k f × PlacesRemainder env k
    PlacesRemainder env (next_pass f k) = PlacesCount env k f × PlacesRemainder env k
    PlacesRemainder env (write_on line args newline k) = PlacesRemainder env k
    PlacesRemainder env (read_on line args skip k) = PlacesRemainder env k
    PlacesRemainder env (at_coend line k) = PlacesRemainder env k
    PlacesRemainder env (part_from caller line k) = PlacesRemainder env k
    PlacesRemainder env (write_again r k) = PlacesRemainder env k
    PlacesRemainder env (go_through line a rest s k) = PlacesSelect env a rest s k × PlacesRemainder env k
    PlacesRemainder env (try_guard bar k) = (e : Env) → PlacesRemainder e k
    PlacesRemainder env (scan_on s k) = (e : Env) → PlacesRemainder e k
    PlacesRemainder env (try_other w s k) = (e : Env) → PlacesRemainder e k

    pub PlacesAwaiting : Env → AwaitsValue → Type 0
    PlacesAwaiting env (begin_sum sign rest u) = PlacesAwaiting env u
    PlacesAwaiting env (add_to n op rest u) = PlacesAwaiting env u
    PlacesAwaiting env (begin_product rest u) = PlacesAwaiting env u
    PlacesAwaiting env (multiply_by n op rest u) = PlacesAwaiting env u
    PlacesAwaiting env (compare_with r t u) = PlacesAwaiting env u
    PlacesAwaiting env (compare_to n r u) = PlacesAwaiting env u
    PlacesAwaiting env (invert u) = PlacesAwaiting env u
    PlacesAwaiting env (apply f t u) = PlacesAwaiting env u
    PlacesAwaiting env (index_into s es ss goal) = PlacesGoal env goal
    PlacesAwaiting env (pass_value formals rest given call) = PlacesCalling env call
    PlacesAwaiting env (store_at s k) = PlacesRemainder env k
    PlacesAwaiting env (choose n s t k) =
        IsPlaced b env n (scopes_in s) k × IsPlaced b env (n + scopes_in s) (scopes_in t) k × PlacesRemainder env k
    PlacesAwaiting env (choose_arm n arms k) = IsPlaced b env n (arms_scopes arms) k × PlacesRemainder env k
    PlacesAwaiting env (while_true n e s p k) = IsPlaced b env n (scopes_in s) k × PlacesRemainder env k
    PlacesAwaiting env (until_true n ss e p k) = IsPlaced b env n (stmts_scopes ss) k × PlacesRemainder env k
    PlacesAwaiting env (count_from n at down e s k) = IsPlaced b env n (scopes_in s) k × PlacesRemainder env k
    PlacesAwaiting env (count_to n at a down s k) = IsPlaced b env n (scopes_in s) k × PlacesRemainder env k
    PlacesAwaiting env (show t k) = PlacesRemainder env k
    PlacesAwaiting env (show_wide t w k) = PlacesRemainder env k
    PlacesAwaiting env (pad bytes k) = PlacesRemainder env k
    PlacesAwaiting env (set_count s k) = PlacesRemainder env k
    PlacesAwaiting env (delay_with s k) = PlacesRemainder env k
    PlacesAwaiting env (sleep_for k) = PlacesRemainder env k
    PlacesAwaiting env (send_on channel k) = PlacesRemainder env k
    PlacesAwaiting env (open_if a rest s k) = PlacesSelect env a rest s k × PlacesRemainder env k
    PlacesAwaiting env (offer_value channel a rest s k) = PlacesSelect env a rest s k × PlacesRemainder env k
    PlacesAwaiting env (offer_wait a rest s k) = PlacesSelect env a rest s k × PlacesRemainder env k
    PlacesAwaiting env (pass_own bar k) = (e : Env) → PlacesRemainder e k
    PlacesAwaiting env (pass_other w s k) = (e : Env) → PlacesRemainder e k

    pub PlacesGoal : Env → AwaitsLocation → Type 0
    PlacesGoal env (read_for u) = PlacesAwaiting env u
    PlacesGoal env (assign_to e k) = PlacesRemainder env k
    PlacesGoal env (input_to t k) = PlacesRemainder env k
    PlacesGoal env (pass_variable formals rest given call) = PlacesCalling env call
    PlacesGoal env (ask_empty u) = PlacesAwaiting env u
    PlacesGoal env (activate_with formals args k) = PlacesRemainder env k
    PlacesGoal env (enter_with entry formals args k) = PlacesRemainder env k
    PlacesGoal env (initial_to e k) = PlacesRemainder env k
    PlacesGoal env (wait_at k) = PlacesRemainder env k
    PlacesGoal env (signal_at k) = PlacesRemainder env k
    PlacesGoal env (delay_at rank k) = PlacesRemainder env k
    PlacesGoal env (resume_at k) = PlacesRemainder env k
    PlacesGoal env (send_to e k) = PlacesRemainder env k
    PlacesGoal env (receive_from d k) = PlacesRemainder env k
    PlacesGoal env (receive_into channel k) = PlacesRemainder env k
    PlacesGoal env (offer_to e a rest s k) = PlacesSelect env a rest s k × PlacesRemainder env k
    PlacesGoal env (offer_from d a rest s k) = PlacesSelect env a rest s k × PlacesRemainder env k
    PlacesGoal env (offer_into channel a rest s k) = PlacesSelect env a rest s k × PlacesRemainder env k

    pub PlacesCalling : Env → Call → Type 0
    PlacesCalling env (to_procedure scope k) = PlacesRemainder env k
    PlacesCalling env (to_function scope u) = PlacesAwaiting env u
    PlacesCalling env (to_module n scope k) = PlacesRemainder env k
    PlacesCalling env (to_requeue scope) = Unit {0}
    PlacesCalling env (to_process s k) = PlacesRemainder env k
    PlacesCalling env (to_entry s entry k) = PlacesRemainder env k

  -- ## Actions

  abbrev pub PlacesAction : Action → Type 0
  PlacesAction (reads x s u) = PlacesAwaiting x.env u
  PlacesAction (writes x s v k) = PlacesRemainder x.env k
  PlacesAction (turns x k) = PlacesRemainder x.env k
  PlacesAction (calls x call given) = PlacesCalling x.env call
  PlacesAction (finishes line) = Unit {0}
  PlacesAction (prints x bytes k) = PlacesRemainder x.env k
  PlacesAction (inputs x t s k) = PlacesRemainder x.env k
  PlacesAction (skips x k) = PlacesRemainder x.env k
  PlacesAction (asks_eof x u) = PlacesAwaiting x.env u
  PlacesAction (asks_eoln x u) = PlacesAwaiting x.env u
  PlacesAction (asks_clock x u) = PlacesAwaiting x.env u
  PlacesAction (asks_empty x s u) = PlacesAwaiting x.env u
  PlacesAction (draws x n u) = PlacesAwaiting x.env u
  PlacesAction (joins x k) = PlacesRemainder x.env k
  PlacesAction (initials x s n k) = PlacesRemainder x.env k
  PlacesAction (waits x s k) = PlacesRemainder x.env k
  PlacesAction (signals x s k) = PlacesRemainder x.env k
  PlacesAction (delays x s n k) = PlacesRemainder x.env k
  PlacesAction (resumes x s k) = PlacesRemainder x.env k
  PlacesAction (sleeps x n k) = PlacesRemainder x.env k
  PlacesAction (meets x o k) = PlacesOpen x.env k o × PlacesRemainder x.env k
  PlacesAction (decides x s k) = PlacesSelecting x.env k s × PlacesRemainder x.env k
  PlacesAction (parts x caller k) = PlacesRemainder x.env k
  PlacesAction (scans x s k) = (e : Env) → PlacesRemainder e k
  PlacesAction (bars x bar k) = (e : Env) → PlacesRemainder e k
  PlacesAction (passes x w s k) = (e : Env) → PlacesRemainder e k
  PlacesAction (faults x f) = Unit {0}

  -- what a process is at
  abbrev pub PlacesDoing : Doing → Type 0
  PlacesDoing (going env k) = PlacesRemainder env k
  PlacesDoing (holding x v u) = PlacesAwaiting x.env u
