-- What is left of a text, with the numbers that were computed so far: all have 32 bits.
use Rattle.std.specs.Prelude.{◌≡◌, ℕ, ◌+◌, false, List, ◌∷◌, Option, Some, None}
use Rattle.std.specs.List.{AllByRecursion}
use Rattle.pfc_semantics.specs.Remainders.{Count, Replica, Offer, Open, Alternative, Otherwise, Selecting, Bar, Way, Argument, Remainder, AwaitsValue}
use Rattle.pfc_semantics.specs.Remainders.{AwaitsLocation, Call, Action, to_send, to_receive, to_accept, to_wait, to_end, leave, own, by_value, by_reference}
use Rattle.pfc_semantics.specs.Remainders.{ends, perform, in_names, turn, until, behind_pass, next_pass, write_on, read_on, at_coend, part_from, write_again}
use Rattle.pfc_semantics.specs.Remainders.{go_through, try_guard, scan_on, try_other, begin_sum, add_to, begin_product, multiply_by, compare_with, compare_to}
use Rattle.pfc_semantics.specs.Remainders.{invert, apply, index_into, pass_value, store_at, choose, choose_arm, while_true, until_true, count_from, count_to}
use Rattle.pfc_semantics.specs.Remainders.{show, show_wide, pad, set_count, delay_with, sleep_for, send_on, open_if, offer_value, offer_wait, pass_own}
use Rattle.pfc_semantics.specs.Remainders.{pass_other, read_for, assign_to, input_to, pass_variable, ask_empty, activate_with, enter_with, initial_to, wait_at}
use Rattle.pfc_semantics.specs.Remainders.{signal_at, delay_at, resume_at, send_to, receive_from, receive_into, offer_to, offer_from, offer_into, to_procedure}
use Rattle.pfc_semantics.specs.Remainders.{to_function, to_module, to_requeue, to_process, to_entry, reads, writes, turns, calls, finishes, prints, inputs}
use Rattle.pfc_semantics.specs.Remainders.{skips, asks_eof, asks_eoln, asks_clock, asks_empty, draws, joins, initials, waits, signals, delays, resumes, sleeps}
use Rattle.pfc_semantics.specs.Remainders.{meets, decides, parts, scans, bars, passes, faults}
use Rattle.pfc_semantics.specs.Statements.{is_past}
use Rattle.pfc_semantics.specs.Rewriting.{Doing, going, holding}
use Rattle.pfc_run_invariants.specs.Fitting.{Fits, FitsValue}
use Rattle.pfc_run_invariants.specs.Written.{FitsExpr, FitsSimple, FitSummands, FitMultipliers, FitSelectors, FitExprs, FitActuals, FitsPerhaps, FitsTarget}
use Rattle.pfc_run_invariants.specs.Written.{FitsStmt, FitStmts, FitArms, FitsComm}
use Rattle.pfc_types.specs.rules.Expressions.{Env}
use Rattle.pfc_types.specs.rules.Statements.{scopes_in, comm_scopes}
use Rattle.pfc_semantics.specs.Programs.{block_at}
use Rattle.pfc_semantics.specs.Configurations.{Mark, plain}
use Rattle.pfc_run_invariants.specs.Asked.{Asked, module_mark}

module _ (r : Asked) (p : ℕ) (ms : List Mark) where
  abbrev pub FitsEnv : Env → Type 0
  FitsEnv env = r.env p ms env

  -- ## Pieces

  abbrev pub FitsReplica : Option Replica → Type 0
  FitsReplica None = Unit {0}
  FitsReplica (Some r) = Fits r.value

  abbrev pub FitsOffer : Offer → Type 0
  FitsOffer (to_send channel v) = FitsValue v
  FitsOffer (to_receive channel target) = Unit {0}
  FitsOffer (to_accept a) = r.accept a.scope × FitsStmt r.accept (a.scope + 1) a.stmt
  FitsOffer (to_wait n) = Unit {0}
  FitsOffer to_end = Unit {0}

  abbrev pub FitsOpen : Open → Type 0
  FitsOpen o = FitsOffer o.offer × FitsReplica o.replica × FitStmts r.accept o.next o.stmts

  abbrev pub FitOpens : List Open → Type 0
  FitOpens os = AllByRecursion FitsOpen os

  abbrev pub FitsAlternative : Alternative → Type 0
  FitsAlternative a =
      FitsReplica a.replica × FitsPerhaps a.guard × FitsComm r.accept a.next a.comm × FitStmts r.accept (a.next + comm_scopes a.comm) a.stmts

  abbrev pub FitAlternatives : List Alternative → Type 0
  FitAlternatives alts = AllByRecursion FitsAlternative alts

  abbrev pub FitsOtherwise : Option Otherwise → Type 0
  FitsOtherwise None = Unit {0}
  FitsOtherwise (Some other) = FitStmts r.accept other.next other.stmts

  abbrev pub FitsSelecting : Selecting → Type 0
  FitsSelecting s = FitOpens s.offered × FitsOtherwise s.otherwise

  -- the kept value is not past the last
  abbrev pub FitsCount : Count → Type 0
  FitsCount f = Fits f.kept × Fits f.last × (is_past f.down f.kept f.last ≡ false) × FitsStmt r.accept f.next f.pass

  abbrev pub FitsBar : Bar → Type 0
  FitsBar b = r.guard b.context.env × FitsExpr b.test

  abbrev pub FitsWay : Way → Type 0
  FitsWay leave = Unit {0}
  FitsWay (own b) = FitsBar b

  abbrev pub FitsArgument : Argument → Type 0
  FitsArgument (by_value v) = FitsValue v
  FitsArgument (by_reference s) = Unit {0}

  abbrev pub FitArguments : List Argument → Type 0
  FitArguments given = AllByRecursion FitsArgument given

  -- ## Remainders

  -- Numbers that an operator has on its left need not be told of: what it gives has 32 bits whatever they are.
  abbrev mutual
    pub FitsRemainder : Remainder → Type 0
    FitsRemainder (ends line) = Unit {0}
    FitsRemainder (perform n ss k) = FitStmts r.accept n ss × FitsRemainder k
    FitsRemainder (in_names env k) = FitsEnv env × FitsRemainder k
    FitsRemainder (turn n loop k) = FitsStmt r.accept n loop × FitsRemainder k
    FitsRemainder (until n ss e p k) = FitStmts r.accept n ss × FitsExpr e × FitsRemainder k
    FitsRemainder (behind_pass f k) = FitsCount f × FitsRemainder k
    FitsRemainder (next_pass f k) = FitsCount f × FitsRemainder k
    FitsRemainder (write_on line args newline k) = FitActuals args × FitsRemainder k
    FitsRemainder (read_on line args skip k) = FitActuals args × FitsRemainder k
    FitsRemainder (at_coend line k) = FitsRemainder k
    FitsRemainder (part_from caller line k) = FitsRemainder k
    FitsRemainder (write_again r k) = Fits r.value × FitsRemainder k
    FitsRemainder (go_through line a rest s k) = FitsAlternative a × FitAlternatives rest × FitsSelecting s × FitsRemainder k
    FitsRemainder (try_guard b k) = FitsBar b × FitsRemainder k
    FitsRemainder (scan_on s k) = FitsWay s.way × FitsRemainder k
    FitsRemainder (try_other w s k) = FitsBar w.bar × FitsWay s.way × FitsRemainder k

    pub FitsAwaiting : AwaitsValue → Type 0
    FitsAwaiting (begin_sum sign rest u) = FitSummands rest × FitsAwaiting u
    FitsAwaiting (add_to n op rest u) = FitSummands rest × FitsAwaiting u
    FitsAwaiting (begin_product rest u) = FitMultipliers rest × FitsAwaiting u
    FitsAwaiting (multiply_by n op rest u) = FitMultipliers rest × FitsAwaiting u
    FitsAwaiting (compare_with r t u) = FitsSimple t × FitsAwaiting u
    FitsAwaiting (compare_to n r u) = FitsAwaiting u
    FitsAwaiting (invert u) = FitsAwaiting u
    FitsAwaiting (apply f t u) = FitsAwaiting u
    FitsAwaiting (index_into s es ss goal) = r.spot p ms s.spot.scope × FitExprs es × FitSelectors ss × FitsGoal goal
    FitsAwaiting (pass_value formals rest given call) = FitActuals rest × FitArguments given × FitsCall call
    FitsAwaiting (store_at s k) = FitsRemainder k
    FitsAwaiting (choose n s t k) = FitsStmt r.accept n s × FitsStmt r.accept (n + scopes_in s) t × FitsRemainder k
    FitsAwaiting (choose_arm n arms k) = FitArms r.accept n arms × FitsRemainder k
    FitsAwaiting (while_true n e s p k) = FitsExpr e × FitsStmt r.accept n s × FitsRemainder k
    FitsAwaiting (until_true n ss e p k) = FitStmts r.accept n ss × FitsExpr e × FitsRemainder k
    FitsAwaiting (count_from n at down b s k) = FitsExpr b × FitsStmt r.accept n s × FitsRemainder k
    FitsAwaiting (count_to n at a down s k) = Fits a × FitsStmt r.accept n s × FitsRemainder k
    FitsAwaiting (show t k) = FitsRemainder k
    FitsAwaiting (show_wide t w k) = FitsExpr w × FitsRemainder k
    FitsAwaiting (pad bytes k) = FitsRemainder k
    FitsAwaiting (set_count s k) = FitsRemainder k
    FitsAwaiting (delay_with s k) = FitsRemainder k
    FitsAwaiting (sleep_for k) = FitsRemainder k
    FitsAwaiting (send_on channel k) = FitsRemainder k
    FitsAwaiting (open_if a rest s k) = FitsAlternative a × FitAlternatives rest × FitsSelecting s × FitsRemainder k
    FitsAwaiting (offer_value channel a rest s k) = FitsAlternative a × FitAlternatives rest × FitsSelecting s × FitsRemainder k
    FitsAwaiting (offer_wait a rest s k) = FitsAlternative a × FitAlternatives rest × FitsSelecting s × FitsRemainder k
    FitsAwaiting (pass_own b k) = FitsBar b × FitsRemainder k
    FitsAwaiting (pass_other w s k) = FitsBar w.bar × FitsWay s.way × FitsRemainder k

    pub FitsGoal : AwaitsLocation → Type 0
    FitsGoal (read_for u) = FitsAwaiting u
    FitsGoal (assign_to e k) = FitsExpr e × FitsRemainder k
    FitsGoal (input_to t k) = FitsRemainder k
    FitsGoal (pass_variable formals rest given call) = FitActuals rest × FitArguments given × FitsCall call
    FitsGoal (ask_empty u) = FitsAwaiting u
    FitsGoal (activate_with formals args k) = FitActuals args × FitsRemainder k
    FitsGoal (enter_with entry formals args k) = FitActuals args × FitsRemainder k
    FitsGoal (initial_to e k) = FitsExpr e × FitsRemainder k
    FitsGoal (wait_at k) = FitsRemainder k
    FitsGoal (signal_at k) = FitsRemainder k
    FitsGoal (delay_at rank k) = FitsPerhaps rank × FitsRemainder k
    FitsGoal (resume_at k) = FitsRemainder k
    FitsGoal (send_to e k) = FitsPerhaps e × FitsRemainder k
    FitsGoal (receive_from d k) = FitsTarget d × FitsRemainder k
    FitsGoal (receive_into channel k) = FitsRemainder k
    FitsGoal (offer_to e a rest s k) = FitsPerhaps e × FitsAlternative a × FitAlternatives rest × FitsSelecting s × FitsRemainder k
    FitsGoal (offer_from d a rest s k) = FitsTarget d × FitsAlternative a × FitAlternatives rest × FitsSelecting s × FitsRemainder k
    FitsGoal (offer_into channel a rest s k) = FitsAlternative a × FitAlternatives rest × FitsSelecting s × FitsRemainder k

    pub FitsCall : Call → Type 0
    FitsCall (to_procedure scope k) = r.env p (plain ∷ ms) (block_at r.program scope).env × FitsRemainder k
    FitsCall (to_function scope u) = r.env p (plain ∷ ms) (block_at r.program scope).env × FitsAwaiting u
    FitsCall (to_module n scope k) = r.env p (module_mark r.program n ∷ ms) (block_at r.program scope).env × FitsRemainder k
    FitsCall (to_requeue scope) = FitsEnv (block_at r.program scope).env
    FitsCall (to_process s k) = FitsRemainder k
    FitsCall (to_entry s entry k) = FitsRemainder k

  -- ## Actions

  abbrev pub FitsAction : Action → Type 0
  FitsAction (reads x s u) = FitsEnv x.env × FitsAwaiting u
  FitsAction (writes x s v k) = FitsEnv x.env × FitsValue v × FitsRemainder k
  FitsAction (turns x k) = FitsEnv x.env × FitsRemainder k
  FitsAction (calls x call given) = FitsEnv x.env × FitsCall call × FitArguments given
  FitsAction (finishes line) = Unit {0}
  FitsAction (prints x bytes k) = FitsEnv x.env × FitsRemainder k
  FitsAction (inputs x t s k) = FitsEnv x.env × FitsRemainder k
  FitsAction (skips x k) = FitsEnv x.env × FitsRemainder k
  FitsAction (asks_eof x u) = FitsEnv x.env × FitsAwaiting u
  FitsAction (asks_eoln x u) = FitsEnv x.env × FitsAwaiting u
  FitsAction (asks_clock x u) = FitsEnv x.env × FitsAwaiting u
  FitsAction (asks_empty x s u) = FitsEnv x.env × FitsAwaiting u
  FitsAction (draws x n u) = FitsEnv x.env × Fits n × FitsAwaiting u
  FitsAction (joins x k) = FitsEnv x.env × FitsRemainder k
  FitsAction (initials x s n k) = FitsEnv x.env × Fits n × FitsRemainder k
  FitsAction (waits x s k) = FitsEnv x.env × FitsRemainder k
  FitsAction (signals x s k) = FitsEnv x.env × FitsRemainder k
  FitsAction (delays x s n k) = FitsEnv x.env × Fits n × FitsRemainder k
  FitsAction (resumes x s k) = FitsEnv x.env × r.spot p ms s.scope × FitsRemainder k
  FitsAction (sleeps x n k) = FitsEnv x.env × FitsRemainder k
  FitsAction (meets x o k) = FitsEnv x.env × FitsOpen o × FitsRemainder k
  FitsAction (decides x s k) = FitsEnv x.env × FitsSelecting s × FitsRemainder k
  FitsAction (parts x caller k) = FitsEnv x.env × FitsRemainder k
  FitsAction (scans x s k) = FitsEnv x.env × FitsWay s.way × FitsRemainder k
  FitsAction (bars x b k) = FitsEnv x.env × FitsBar b × FitsRemainder k
  FitsAction (passes x w s k) = FitsEnv x.env × FitsBar w.bar × FitsWay s.way × FitsRemainder k
  FitsAction (faults x f) = Unit {0}

  -- what a process is at
  abbrev pub FitsDoing : Doing → Type 0
  FitsDoing (going env k) = FitsEnv env × FitsRemainder k
  FitsDoing (holding x v u) = FitsEnv x.env × FitsValue v × FitsAwaiting u
