-- What is left of a text, in an activation with this standing: what is called is as the rules ask, each guard is of the resource in which its procedure stands,
-- and of each scan something is so. The names in view are told, since what is called depends on them.
use Rattle.std.specs.Prelude.{◌+◌, ◌≡◌, List, Option, Some, None}
use Rattle.std.specs.List.{AllByRecursion}
use Rattle.pfc_types.specs.rules.Expressions.{Env}
use Rattle.pfc_types.specs.rules.Statements.{within_accept, scopes_in, comm_scopes}
use Rattle.pfc_semantics.specs.Programs.{Program}
use Rattle.pfc_guard_laws.specs.Tops.{Tops, Standing}
use Rattle.pfc_semantics.specs.Remainders.{Count, Offer, Open, Alternative, Otherwise, Selecting, Bar, Way, Scan, Remainder, AwaitsValue, AwaitsLocation, Call}
use Rattle.pfc_semantics.specs.Remainders.{Action, to_send, to_receive, to_accept, to_wait, to_end, leave, own, ends, perform, in_names, turn, until}
use Rattle.pfc_semantics.specs.Remainders.{behind_pass, next_pass, write_on, read_on, at_coend, part_from, write_again, go_through, try_guard, scan_on}
use Rattle.pfc_semantics.specs.Remainders.{try_other, begin_sum, add_to, begin_product, multiply_by, compare_with, compare_to, invert, apply, index_into}
use Rattle.pfc_semantics.specs.Remainders.{pass_value, store_at, choose, choose_arm, while_true, until_true, count_from, count_to, show, show_wide, pad}
use Rattle.pfc_semantics.specs.Remainders.{set_count, delay_with, sleep_for, send_on, open_if, offer_value, offer_wait, pass_own, pass_other, read_for}
use Rattle.pfc_semantics.specs.Remainders.{assign_to, input_to, pass_variable, ask_empty, activate_with, enter_with, initial_to, wait_at, signal_at, delay_at}
use Rattle.pfc_semantics.specs.Remainders.{resume_at, send_to, receive_from, receive_into, offer_to, offer_from, offer_into, to_procedure, to_function}
use Rattle.pfc_semantics.specs.Remainders.{to_module, to_requeue, to_process, to_entry, reads, writes, turns, calls, finishes, prints, inputs, skips, asks_eof}
use Rattle.pfc_semantics.specs.Remainders.{asks_eoln, asks_clock, asks_empty, draws, joins, initials, waits, signals, delays, resumes, sleeps, meets, decides}
use Rattle.pfc_semantics.specs.Remainders.{parts, scans, bars, passes, faults}
use Rattle.pfc_semantics.specs.Rewriting.{Doing, going, holding}
use Rattle.pfc_run_rules.specs.Rules.{IsOfItsBlock}
use Rattle.pfc_guard_laws.specs.Written.{IsCalled, IsEntered, MayRequeue, SuitsExpr, SuitsSimple, SuitSummands, SuitMultipliers, SuitSelectors, SuitExprs}
use Rattle.pfc_guard_laws.specs.Written.{SuitActuals, SuitsPerhaps, SuitsTarget, SuitsStmt, SuitStmts, SuitArms, SuitsComm}

-- ## Guards and scans; a guard is tried wherever a process stands

abbrev pub SuitsBar : Program → Option Tops → Bar → Type 0
SuitsBar g tops b = IsOfItsBlock g b × ((standing : Standing) → standing.tops ≡ tops → SuitsExpr g standing b.context.env b.test)

abbrev pub SuitsWay : Program → Option Tops → Way → Type 0
SuitsWay g tops leave = Unit {0}
SuitsWay g tops (own b) = SuitsBar g tops b

abbrev pub SuitsScan : Program → Option Tops → (Scan → Type 0) → Scan → Type 0
SuitsScan g tops scanned s = scanned s × SuitsWay g tops s.way

-- ## Pieces

module _ (g : Program) (standing : Standing) where
  abbrev pub SuitsOffer : Env → Offer → Type 0
  SuitsOffer env (to_send channel v) = Unit {0}
  SuitsOffer env (to_receive channel target) = Unit {0}
  SuitsOffer env (to_accept a) = SuitsStmt g standing (within_accept env a.scope) (a.scope + 1) a.stmt
  SuitsOffer env (to_wait n) = Unit {0}
  SuitsOffer env to_end = Unit {0}

  abbrev pub SuitsOpen : Env → Open → Type 0
  SuitsOpen env o = SuitsOffer env o.offer × SuitStmts g standing env o.next o.stmts

  abbrev pub SuitOpens : Env → List Open → Type 0
  SuitOpens env os = AllByRecursion (SuitsOpen env) os

  abbrev pub SuitsAlternative : Env → Alternative → Type 0
  SuitsAlternative env a = SuitsPerhaps g standing env a.guard × SuitsComm g standing env a.next a.comm ×
      SuitStmts g standing env (a.next + comm_scopes a.comm) a.stmts

  abbrev pub SuitAlternatives : Env → List Alternative → Type 0
  SuitAlternatives env alts = AllByRecursion (SuitsAlternative env) alts

  abbrev pub SuitsOtherwise : Env → Option Otherwise → Type 0
  SuitsOtherwise env None = Unit {0}
  SuitsOtherwise env (Some other) = SuitStmts g standing env other.next other.stmts

  abbrev pub SuitsSelecting : Env → Selecting → Type 0
  SuitsSelecting env s = SuitOpens env s.offered × SuitsOtherwise env s.otherwise

  abbrev pub SuitsCount : Env → Count → Type 0
  SuitsCount env f = SuitsStmt g standing env f.next f.pass

-- ## Remainders

module _ (g : Program) (standing : Standing) (scanned : Scan → Type 0) where
  -- Behind a guard and a scan whatever is in view: what is left there begins with names of its own.
  abbrev mutual
    pub SuitsRemainder : Env → Remainder → Type 0
    SuitsRemainder env (ends line) = Unit {0}
    SuitsRemainder env (perform n ss k) = SuitStmts g standing env n ss × SuitsRemainder env k
    SuitsRemainder env (in_names inner k) = SuitsRemainder inner k
    SuitsRemainder env (turn n loop k) = SuitsStmt g standing env n loop × SuitsRemainder env k
    SuitsRemainder env (until n ss e p k) = SuitStmts g standing env n ss × SuitsExpr g standing env e × SuitsRemainder env k
    SuitsRemainder env (behind_pass f k) = SuitsCount g standing env f × SuitsRemainder env k
    SuitsRemainder env (next_pass f k) = SuitsCount g standing env f × SuitsRemainder env k
    SuitsRemainder env (write_on line args newline k) = SuitActuals g standing env args × SuitsRemainder env k
    SuitsRemainder env (read_on line args skip k) = SuitActuals g standing env args × SuitsRemainder env k
    SuitsRemainder env (at_coend line k) = SuitsRemainder env k
    SuitsRemainder env (part_from caller line k) = SuitsRemainder env k
    SuitsRemainder env (write_again r k) = SuitsRemainder env k
    SuitsRemainder env (go_through line a rest s k) =
        SuitsAlternative g standing env a × SuitAlternatives g standing env rest × SuitsSelecting g standing env s × SuitsRemainder env k
    SuitsRemainder env (try_guard b k) = SuitsBar g standing.tops b × ((e : Env) → SuitsRemainder e k)
    SuitsRemainder env (scan_on s k) = SuitsScan g standing.tops scanned s × ((e : Env) → SuitsRemainder e k)
    SuitsRemainder env (try_other w s k) = SuitsBar g standing.tops w.bar × SuitsScan g standing.tops scanned s × ((e : Env) → SuitsRemainder e k)

    pub SuitsAwaiting : Env → AwaitsValue → Type 0
    SuitsAwaiting env (begin_sum sign rest u) = SuitSummands g standing env rest × SuitsAwaiting env u
    SuitsAwaiting env (add_to n op rest u) = SuitSummands g standing env rest × SuitsAwaiting env u
    SuitsAwaiting env (begin_product rest u) = SuitMultipliers g standing env rest × SuitsAwaiting env u
    SuitsAwaiting env (multiply_by n op rest u) = SuitMultipliers g standing env rest × SuitsAwaiting env u
    SuitsAwaiting env (compare_with r t u) = SuitsSimple g standing env t × SuitsAwaiting env u
    SuitsAwaiting env (compare_to n r u) = SuitsAwaiting env u
    SuitsAwaiting env (invert u) = SuitsAwaiting env u
    SuitsAwaiting env (apply f t u) = SuitsAwaiting env u
    SuitsAwaiting env (index_into s es ss goal) = SuitExprs g standing env es × SuitSelectors g standing env ss × SuitsGoal env goal
    SuitsAwaiting env (pass_value formals rest given call) = SuitActuals g standing env rest × SuitsCalling env call
    SuitsAwaiting env (store_at s k) = SuitsRemainder env k
    SuitsAwaiting env (choose n s t k) = SuitsStmt g standing env n s × SuitsStmt g standing env (n + scopes_in s) t × SuitsRemainder env k
    SuitsAwaiting env (choose_arm n arms k) = SuitArms g standing env n arms × SuitsRemainder env k
    SuitsAwaiting env (while_true n e s p k) = SuitsExpr g standing env e × SuitsStmt g standing env n s × SuitsRemainder env k
    SuitsAwaiting env (until_true n ss e p k) = SuitStmts g standing env n ss × SuitsExpr g standing env e × SuitsRemainder env k
    SuitsAwaiting env (count_from n at down b s k) = SuitsExpr g standing env b × SuitsStmt g standing env n s × SuitsRemainder env k
    SuitsAwaiting env (count_to n at a down s k) = SuitsStmt g standing env n s × SuitsRemainder env k
    SuitsAwaiting env (show t k) = SuitsRemainder env k
    SuitsAwaiting env (show_wide t w k) = SuitsExpr g standing env w × SuitsRemainder env k
    SuitsAwaiting env (pad bytes k) = SuitsRemainder env k
    SuitsAwaiting env (set_count s k) = SuitsRemainder env k
    SuitsAwaiting env (delay_with s k) = SuitsRemainder env k
    SuitsAwaiting env (sleep_for k) = SuitsRemainder env k
    SuitsAwaiting env (send_on channel k) = SuitsRemainder env k
    SuitsAwaiting env (open_if a rest s k) =
        SuitsAlternative g standing env a × SuitAlternatives g standing env rest × SuitsSelecting g standing env s × SuitsRemainder env k
    SuitsAwaiting env (offer_value channel a rest s k) =
        SuitsAlternative g standing env a × SuitAlternatives g standing env rest × SuitsSelecting g standing env s × SuitsRemainder env k
    SuitsAwaiting env (offer_wait a rest s k) =
        SuitsAlternative g standing env a × SuitAlternatives g standing env rest × SuitsSelecting g standing env s × SuitsRemainder env k
    SuitsAwaiting env (pass_own b k) = (env ≡ b.context.env) × SuitsBar g standing.tops b × ((e : Env) → SuitsRemainder e k)
    SuitsAwaiting env (pass_other w s k) = SuitsBar g standing.tops w.bar × SuitsScan g standing.tops scanned s × ((e : Env) → SuitsRemainder e k)

    pub SuitsGoal : Env → AwaitsLocation → Type 0
    SuitsGoal env (read_for u) = SuitsAwaiting env u
    SuitsGoal env (assign_to e k) = SuitsExpr g standing env e × SuitsRemainder env k
    SuitsGoal env (input_to t k) = SuitsRemainder env k
    SuitsGoal env (pass_variable formals rest given call) = SuitActuals g standing env rest × SuitsCalling env call
    SuitsGoal env (ask_empty u) = SuitsAwaiting env u
    SuitsGoal env (activate_with formals args k) = SuitActuals g standing env args × SuitsRemainder env k
    SuitsGoal env (enter_with entry formals args k) = SuitActuals g standing env args × SuitsRemainder env k
    SuitsGoal env (initial_to e k) = SuitsExpr g standing env e × SuitsRemainder env k
    SuitsGoal env (wait_at k) = SuitsRemainder env k
    SuitsGoal env (signal_at k) = SuitsRemainder env k
    SuitsGoal env (delay_at rank k) = SuitsPerhaps g standing env rank × SuitsRemainder env k
    SuitsGoal env (resume_at k) = SuitsRemainder env k
    SuitsGoal env (send_to e k) = SuitsPerhaps g standing env e × SuitsRemainder env k
    SuitsGoal env (receive_from d k) = SuitsTarget g standing env d × SuitsRemainder env k
    SuitsGoal env (receive_into channel k) = SuitsRemainder env k
    SuitsGoal env (offer_to e a rest s k) =
        SuitsPerhaps g standing env e × SuitsAlternative g standing env a × SuitAlternatives g standing env rest ×
        SuitsSelecting g standing env s × SuitsRemainder env k
    SuitsGoal env (offer_from d a rest s k) =
        SuitsTarget g standing env d × SuitsAlternative g standing env a × SuitAlternatives g standing env rest ×
        SuitsSelecting g standing env s × SuitsRemainder env k
    SuitsGoal env (offer_into channel a rest s k) =
        SuitsAlternative g standing env a × SuitAlternatives g standing env rest × SuitsSelecting g standing env s × SuitsRemainder env k

    pub SuitsCalling : Env → Call → Type 0
    SuitsCalling env (to_procedure scope k) = IsCalled g standing scope × SuitsRemainder env k
    SuitsCalling env (to_function scope u) = IsCalled g standing scope × SuitsAwaiting env u
    SuitsCalling env (to_module n scope k) = IsEntered g standing n scope × SuitsRemainder env k
    SuitsCalling env (to_requeue scope) = MayRequeue g standing scope
    SuitsCalling env (to_process s k) = SuitsRemainder env k
    SuitsCalling env (to_entry s entry k) = SuitsRemainder env k

  -- ## Actions

  abbrev pub SuitsAction : Action → Type 0
  SuitsAction (reads x s u) = SuitsAwaiting x.env u
  SuitsAction (writes x s v k) = SuitsRemainder x.env k
  SuitsAction (turns x k) = SuitsRemainder x.env k
  SuitsAction (calls x call given) = SuitsCalling x.env call
  SuitsAction (finishes line) = Unit {0}
  SuitsAction (prints x bytes k) = SuitsRemainder x.env k
  SuitsAction (inputs x t s k) = SuitsRemainder x.env k
  SuitsAction (skips x k) = SuitsRemainder x.env k
  SuitsAction (asks_eof x u) = SuitsAwaiting x.env u
  SuitsAction (asks_eoln x u) = SuitsAwaiting x.env u
  SuitsAction (asks_clock x u) = SuitsAwaiting x.env u
  SuitsAction (asks_empty x s u) = SuitsAwaiting x.env u
  SuitsAction (draws x n u) = SuitsAwaiting x.env u
  SuitsAction (joins x k) = SuitsRemainder x.env k
  SuitsAction (initials x s n k) = SuitsRemainder x.env k
  SuitsAction (waits x s k) = SuitsRemainder x.env k
  SuitsAction (signals x s k) = SuitsRemainder x.env k
  SuitsAction (delays x s n k) = SuitsRemainder x.env k
  SuitsAction (resumes x s k) = SuitsRemainder x.env k
  SuitsAction (sleeps x n k) = SuitsRemainder x.env k
  SuitsAction (meets x o k) = SuitsOpen g standing x.env o × SuitsRemainder x.env k
  SuitsAction (decides x s k) = SuitsSelecting g standing x.env s × SuitsRemainder x.env k
  SuitsAction (parts x caller k) = SuitsRemainder x.env k
  SuitsAction (scans x s k) = (x.line ≡ s.line) × SuitsScan g standing.tops scanned s × ((e : Env) → SuitsRemainder e k)
  SuitsAction (bars x b k) = (x.env ≡ b.context.env) × SuitsBar g standing.tops b × ((e : Env) → SuitsRemainder e k)
  SuitsAction (passes x w s k) = SuitsBar g standing.tops w.bar × SuitsScan g standing.tops scanned s × ((e : Env) → SuitsRemainder e k)
  SuitsAction (faults x f) = Unit {0}

  -- what a process is at
  abbrev pub SuitsDoing : Doing → Type 0
  SuitsDoing (going env k) = SuitsRemainder env k
  SuitsDoing (holding x v u) = SuitsAwaiting x.env u

-- ## Guards of an action

-- what the rules of runs say of the guards of an action, but for who has left a resource
abbrev pub GuardsByRules : Program → Action → Type 0
GuardsByRules g (scans x s k) = x.line ≡ s.line
GuardsByRules g (bars x b k) = (x.env ≡ b.context.env) × IsOfItsBlock g b
GuardsByRules g n = Unit {0}
