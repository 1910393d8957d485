-- What stands behind the instruction of an action, in the same block: at which address, and over which operands.
--
-- It is said of the code alone: which process an action wakes, what is written and which value is read, the meaning says. Of a value that an
-- action gives only the type is asked, and of what a meeting or a trial makes seen nothing.
use Rattle.std.specs.Prelude.{ℕ, ◌+◌, ◌≤◌, ◌≡◌, ℤ, Bool, List, [], ◌∷◌, ◌++◌, length, reverse, drop, set, Option, Some, None}
use Rattle.pfc_code.specs.declared.instructions.Instr.{Instr}
use Rattle.pfc_code.specs.declared.instructions.Instr.TheVariants.{TURN, FORT, ARMS, ARMR, ARMA, ARMT, SEL}
use Rattle.pfc_types.specs.rules.Expressions.{Env}
use Rattle.pfc_types.specs.rules.Statements.{within_accept}
use Rattle.pfc_types.specs.declared.types.TypeId.{TypeId}
use Rattle.pfc_stacks.specs.Stacks.{operand}
use Rattle.pfc_stacks.specs.Effects.{value_behind}
use Rattle.pfc_semantics.specs.Values.{Value, ordinal}
use Rattle.pfc_semantics.specs.Displays.{Spot}
use Rattle.pfc_semantics.specs.Programs.{Block}
use Rattle.pfc_semantics.specs.Remainders.{Context, Accepting, Offer, Open, Otherwise, Way, Scan, Tried, Remainder, AwaitsValue, Call, Action, to_send}
use Rattle.pfc_semantics.specs.Remainders.{to_receive, to_accept, to_wait, to_end, leave, own, try_guard, try_other, to_procedure, to_function, to_module}
use Rattle.pfc_semantics.specs.Remainders.{to_requeue, to_process, to_entry, reads, writes, turns, calls, finishes, prints, inputs, skips, asks_eof, asks_eoln}
use Rattle.pfc_semantics.specs.Remainders.{asks_clock, asks_empty, draws, joins, initials, waits, signals, delays, resumes, sleeps, meets, decides, parts}
use Rattle.pfc_semantics.specs.Remainders.{scans, bars, passes, faults}
use Rattle.pfc_semantics.specs.Statements.{behind}
use Rattle.pfc_semantics.specs.Channels.{behind_open}
use Rattle.pfc_semantics.specs.Rendezvous.{meeting_of}
use Rattle.pfc_semantics.specs.Rewriting.{Doing, going, holding}
use Rattle.pfc_translation.specs.Operands.{takes}
use Rattle.pfc_cells.specs.Shapes.{words_of}
use Rattle.pfc_standing_code.specs.Shapes.{IsOf}
use Rattle.pfc_standing_code.specs.Settings.{View, Sight, Setting, of_own, of_another, site_of, with_accept, parted, IsAt}
use Rattle.pfc_standing_code.specs.Effects.{Arm}
use Rattle.pfc_standing_code.specs.Words.{IsWord, IsChecked}
use Rattle.pfc_standing_code.specs.Performs.{GuardAt, IsOwnBar, own_view, own_accepts, own_block, own_room, behind_scan, own_again, Performs}
use Rattle.pfc_standing_code.specs.Following.{ArrivedBy, names_of, AreChecked, DoesIn}
use Rattle.pfc_kept_code.specs.Kept.{Among, Agree, InRemainder, with_view}

-- a process in this block does this here, and its operands fit, so that its code leads on from here
abbrev pub GoesOnAt : Setting → Block → ℕ → List ℤ → List Arm → Doing → Type 0
GoesOnAt g b at ops arms d = (length ops ≤ g.room) × DoesIn g b at ops arms d

-- of the operands below those that the instruction at this address takes this is true
abbrev pub Over : Setting → ℕ → List ℤ → (List ℤ → Type 0) → Type 0
Over g at ops P = (i : Instr) (line : ℕ) → IsAt g at i line → P (drop (takes g.program i) ops)

-- a process goes on with a statement at the next instruction, or with a number, whichever it is
abbrev pub GoesOn : Setting → Block → ℕ → List ℤ → List Arm → Context → Remainder → Type 0
GoesOn g b at ops arms x k = Over g at ops (λ below. GoesOnAt g b (at + 1) below arms (going x.env k))

abbrev pub GivesNumber : Setting → Block → ℕ → List ℤ → List Arm → Context → AwaitsValue → Type 0
GivesNumber g b at ops arms x u = Over g at ops (λ below. (n : ℤ) → GoesOnAt g b (at + 1) (n ∷ below) arms (holding x (ordinal n) u))

-- a variable's value, of the type of its part
abbrev pub GivesValue : Setting → Block → ℕ → List ℤ → List Arm → Context → Spot → AwaitsValue → Type 0
GivesValue g b at ops arms x v u =
    (t : TypeId) (w : ℤ) (new : Value) → IsWord g.view (site_of g b x) v (Some t) w → IsOf g.program.state.forms t new
    → Over g at ops (λ below. GoesOnAt g b (at + 1) (reverse (words_of new) ++ below) arms (holding x new u))

-- the way back leads to the address that the instruction names; that of a `for` puts the next value in the place of the kept one
abbrev pub BehindWayBack : Setting → Block → ℕ → List ℤ → Context → Remainder → Type 0
BehindWayBack g b at ops x k =
    ((a line : ℕ) → IsAt g at (TURN a) line → GoesOnAt g b a ops [] (going x.env k))
    × ((d a line : ℕ) → IsAt g at (FORT d a) line → GoesOnAt g b a (set ops 1 (value_behind d (operand ops 1))) [] (going x.env k))

-- a call: behind its return, or at once
abbrev pub BehindCall : Setting → Block → ℕ → List ℤ → List Arm → Context → Call → Type 0
BehindCall g b at ops arms x (to_procedure scope k) = GoesOn g b at ops [] x k
BehindCall g b at ops arms x (to_function scope u) = GivesNumber g b at ops arms x u
BehindCall g b at ops arms x (to_module n scope k) = GoesOn g b at ops [] x k
BehindCall g b at ops arms x (to_requeue scope) = Unit {0}
BehindCall g b at ops arms x (to_process v k) = GoesOn g b at ops [] x k
BehindCall g b at ops arms x (to_entry v entry k) = GoesOn g b at ops [] x k

-- A meeting with any caller, in which its accept is open: whatever it makes seen, where the names in view are known then, also those of the accept, and what is
-- left behind the accept is performed as before.
abbrev pub BehindAccept : Setting → Block → ℕ → List ℤ → Context → Accepting → Open → Remainder → Type 0
BehindAccept g b to ops x a o k =
    (view : View) (caller : ℕ) → (let later = record g { view = view } in
    IsChecked later b x.env → IsChecked (with_accept later a.scope caller) b (within_accept x.env a.scope)
    → ((end : ℕ) → Performs g b x.env end ops [] k → Performs later b x.env end ops [] k)
    → GoesOnAt (with_accept later a.scope caller) b to ops [] (going x.env (meeting_of x a o caller k)))

abbrev pub BehindMeeting : Setting → Block → ℕ → List ℤ → Context → Open → Offer → Remainder → Type 0
BehindMeeting g b at ops x o (to_send channel v) k = GoesOn g b at ops [] x k
BehindMeeting g b at ops x o (to_receive channel target) k = GoesOn g b at ops [] x k
BehindMeeting g b at ops x o (to_accept a) k = BehindAccept g b (at + 1) ops x a o k
BehindMeeting g b at ops x o (to_wait n) k = ⊥
BehindMeeting g b at ops x o to_end k = ⊥

-- the branch to which an alternative of the machine leads
abbrev pub branch_of : Instr → ℕ
branch_of (ARMS z a) = a
branch_of (ARMR z a) = a
branch_of (ARMA e d z a) = a
branch_of (ARMT a) = a
branch_of i = 0

-- a decision: at the branch of each open alternative, and at the `else` part, which the instruction names
abbrev pub BehindOpen : Setting → Block → List ℤ → Context → Open → Offer → ℕ → Remainder → Type 0
BehindOpen g b ops x o (to_accept a) to k = BehindAccept g b to ops x a o k
BehindOpen g b ops x o to_end to k = Unit {0}
BehindOpen g b ops x o offer to k = GoesOnAt g b to ops [] (going x.env (behind_open o k))

-- as many alternatives of the machine as are open, in the same order
abbrev pub BehindAll : Setting → Block → List ℤ → Context → List Open → List Arm → Remainder → Type 0
BehindAll g b ops x [] [] k = Unit {0}
BehindAll g b ops x [] (arm ∷ arms) k = ⊥
BehindAll g b ops x (o ∷ os) [] k = ⊥
BehindAll g b ops x (o ∷ os) (arm ∷ arms) k = BehindOpen g b ops x o o.offer (branch_of arm.by) k × BehindAll g b ops x os arms k

abbrev pub BehindElse : Setting → Block → ℕ → List ℤ → Context → Option Otherwise → Remainder → Type 0
BehindElse g b at ops x None k = Unit {0}
BehindElse g b at ops x (Some other) k =
    (pri to line : ℕ) → IsAt g at (SEL pri to) line → GoesOnAt g b to ops [] (going x.env (behind other.next other.stmts k))

-- a scan that is over: the process sees what is its own again, in its own block, and does what is left, or tries its own guard first
abbrev pub BehindScan : Setting → List ℤ → Context → Way → Remainder → Type 0
BehindScan g below x leave k = GoesOnAt (own_again g) (own_block g.trial g.block) (behind_scan g.trial) below [] (going x.env k)
BehindScan g below x (own bar) k = GoesOnAt (own_again g) (own_block g.trial g.block) (behind_scan g.trial) below [] (going x.env (try_guard bar k))

-- The resource passes to another: what is left; behind a requeue the process is barred, its guard stands behind the scan, and behind that what
-- is left.
abbrev pub BehindPass : Setting → List ℤ → Context → Way → Remainder → Type 0
BehindPass g below x leave k = GoesOnAt (own_again g) (own_block g.trial g.block) (behind_scan g.trial) below [] (going x.env k)
BehindPass g below x (own bar) k =
    IsOwnBar (own_again g) (own_block g.trial g.block) bar
    × GuardAt (own_again g) (own_block g.trial g.block) bar (behind_scan g.trial) (length below)
    (λ end. GoesOnAt (own_again g) (own_block g.trial g.block) end below [] (going x.env k))

-- In the trial of a barred process in a scan, the next turn of which stands at this address: what that one sees is seen, in the block of its guard and with
-- the room of that, and what the process itself has is kept.
abbrev pub in_trial : Setting → Block → Tried → Scan → ℕ → Sight → ℕ → Setting
in_trial g c w scan turn sight room =
    record g {
      view = sight.view;
      accepts = sight.accepts;
      block = c;
      room = room;
      trial = of_another (record {
        whom = w;
        scan = scan;
        turn = turn;
        back = behind_scan g.trial;
        seen = record { view = own_view g.trial g.view; accepts = own_accepts g.trial g.accepts };
        block = own_block g.trial g.block;
        room = own_room g.trial g.room;
      });
    }

-- A turn that finds a barred process: the guard of that one, which stands before the turn in the code of another block, whatever is seen in it and whatever
-- room it has.
abbrev pub BehindTurn : Setting → ℕ → List ℤ → Context → Scan → Remainder → Type 0
BehindTurn g at ops x scan k =
    (sight : Sight) (room : ℕ) (w : Tried) (c : Block) (to : ℕ) → (let later = in_trial g c w scan at sight room in
    w.bar.resource ≡ scan.resource → GuardAt later c w.bar to (length ops) (λ end. end ≤ at) → GoesOnAt later c to ops [] (going x.env (try_other w scan k)))

-- one line for each kind of action
abbrev pub LeavesBehind : Setting → Block → ℕ → List ℤ → List Arm → Action → Type 0
LeavesBehind g b at ops arms (reads x v u) = GivesValue g b at ops arms x v u
LeavesBehind g b at ops arms (writes x v new k) = GoesOn g b at ops arms x k
LeavesBehind g b at ops arms (turns x k) = BehindWayBack g b at ops x k
LeavesBehind g b at ops arms (calls x call given) = BehindCall g b at ops arms x call
LeavesBehind g b at ops arms (finishes line) = Unit {0}
LeavesBehind g b at ops arms (prints x bytes k) = GoesOn g b at ops [] x k
LeavesBehind g b at ops arms (inputs x t v k) = GoesOn g b at ops [] x k
LeavesBehind g b at ops arms (skips x k) = GoesOn g b at ops [] x k
LeavesBehind g b at ops arms (asks_eof x u) = GivesNumber g b at ops arms x u
LeavesBehind g b at ops arms (asks_eoln x u) = GivesNumber g b at ops arms x u
LeavesBehind g b at ops arms (asks_clock x u) = GivesNumber g b at ops arms x u
LeavesBehind g b at ops arms (asks_empty x v u) = GivesNumber g b at ops arms x u
LeavesBehind g b at ops arms (draws x n u) = GivesNumber g b at ops arms x u
LeavesBehind g b at ops arms (joins x k) = GoesOn g b at ops [] x k
LeavesBehind g b at ops arms (initials x v n k) = GoesOn g b at ops [] x k
LeavesBehind g b at ops arms (waits x v k) = GoesOn g b at ops [] x k
LeavesBehind g b at ops arms (signals x v k) = GoesOn g b at ops [] x k
LeavesBehind g b at ops arms (delays x v n k) = GoesOn g b at ops [] x k
LeavesBehind g b at ops arms (resumes x v k) = GoesOn g b at ops [] x k
LeavesBehind g b at ops arms (sleeps x n k) = GoesOn g b at ops [] x k
LeavesBehind g b at ops arms (meets x o k) = BehindMeeting g b at ops x o o.offer k
LeavesBehind g b at ops arms (decides x sel k) = BehindElse g b at ops x sel.otherwise k × BehindAll g b ops x sel.offered arms k
LeavesBehind g b at ops arms (parts x caller k) = GoesOn (parted g) b at ops [] x k
LeavesBehind g b at ops arms (scans x scan k) = BehindScan g ops x scan.way k × BehindTurn g at ops x scan k
LeavesBehind g b at ops arms (bars x bar k) = GoesOn g b at ops [] x k
LeavesBehind g b at ops arms (passes x w scan k) = Over g at ops (λ below. BehindPass g below x scan.way k)
LeavesBehind g b at ops arms (faults x f) = Unit {0}

-- where the code has arrived at an action in a block
abbrev pub ActionsLeadOn : Setting → Type 0
ActionsLeadOn g =
    (n : Action) (b : Block) (at : ℕ) (ops : List ℤ) (arms : List Arm) → length ops ≤ g.room → AreChecked g b (names_of n) → ArrivedBy g b at ops arms n
    → LeavesBehind g b at ops arms n

-- A meeting where what it makes seen agrees with what was seen on all names that are in view outside the accept, there and in what is left behind it:
-- only the names in the accept are to be known anew.
abbrev pub MeetingsLeadOn : Setting → Type 0
MeetingsLeadOn g =
    (view : View) (b : Block) (names : Env → Bool) (to : ℕ) (ops : List ℤ) (x : Context) (a : Accepting) (o : Open) (caller : ℕ) (k : Remainder)
    → g.trial ≡ of_own → Agree g view b names → Among names x.env → InRemainder names k → IsChecked g b x.env
    → IsChecked (with_accept (with_view g view) a.scope caller) b (within_accept x.env a.scope) → BehindAccept g b to ops x a o k
    → GoesOnAt (with_accept (with_view g view) a.scope caller) b to ops [] (going x.env (meeting_of x a o caller k))
