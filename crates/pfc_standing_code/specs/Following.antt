-- Code that follows the next action of a process: quiet instructions, each of which leads on, and then the action.
use Rattle.std.specs.Prelude.{ℕ, suc, ◌+◌, ◌<◌, ◌≤◌, ◌≡◌, ℤ, Bool, true, false, List, [], ◌∷◌, ◌++◌, length, reverse, Option, Some, None, Ok, Err}
use Rattle.std.specs.List.{slice_get}
use Rattle.pfc_base.specs.declared.faults.RunFault.{RunFault}
use Rattle.pfc_code.specs.declared.instructions.Instr.{Instr}
use Rattle.pfc_code.specs.declared.instructions.Instr.TheVariants.{LOAD, STORE, TURN, FORW, FORT, GRD, COEND, SINI, SWAIT, SSIG, SEND, RECV, ACC, EACC, DELAY}
use Rattle.pfc_code.specs.declared.instructions.Instr.TheVariants.{RESUME, EMPTY, SLEEP, CLOCK, RAND, WRS, WRNL, RDNL, EOF, EOLN}
use Rattle.pfc_tree.specs.trees.Exprs.{no_actuals}
use Rattle.pfc_tree.specs.trees.Stmts.{no_stmts}
use Rattle.pfc_types.specs.Types.{semaphore, condition}
use Rattle.pfc_types.specs.rules.Expressions.{Env}
use Rattle.pfc_types.specs.declared.types.TypeId.{TypeId}
use Rattle.pfc_types.specs.declared.heads.Formal.{Formal}
use Rattle.pfc_values.specs.declared.simple.Simple.{Simple}
use Rattle.pfc_values.specs.Pieces.{shown, padded}
use Rattle.pfc_values.specs.Numbers.{is_true}
use Rattle.pfc_stacks.specs.Effects.{is_before, value_behind}
use Rattle.pfc_semantics.specs.Values.{Value, ordinal}
use Rattle.pfc_semantics.specs.Displays.{Spot}
use Rattle.pfc_semantics.specs.Operators.{simple_of}
use Rattle.pfc_semantics.specs.Programs.{Block}
use Rattle.pfc_semantics.specs.Remainders.{Context, Offer, Open, Scan, Remainder, Action, to_send, to_receive, to_accept, to_wait, to_end, reads, writes, turns}
use Rattle.pfc_semantics.specs.Remainders.{calls, finishes, prints, inputs, skips, asks_eof, asks_eoln, asks_clock, asks_empty, draws, joins, initials, waits}
use Rattle.pfc_semantics.specs.Remainders.{signals, delays, resumes, sleeps, meets, decides, parts, scans, bars, passes, faults}
use Rattle.pfc_semantics.specs.Rewriting.{Doing, going, holding}
use Rattle.pfc_translation.specs.Sites.{forms_of}
use Rattle.pfc_translation.specs.Calls.{write_instr, read_instr}
use Rattle.pfc_translation.specs.Selects.{accept_cell, accept_cells}
use Rattle.pfc_cells.specs.Shapes.{words_of}
use Rattle.pfc_standing_code.specs.Shapes.{Shape, a_number, shape_of, shape_cells, IsOf, IsShaped}
use Rattle.pfc_standing_code.specs.ValueTypes.{IsValueType}
use Rattle.pfc_standing_code.specs.Settings.{Trial, Setting, of_own, of_turn, of_another, InNoScan, MayRead, site_of, parted, IsAt}
use Rattle.pfc_standing_code.specs.Effects.{Arm, LeadAhead, onward, refuses, effect_of, CanPerform, MayRefuse}
use Rattle.pfc_standing_code.specs.Words.{IsWord, IsSimpleWord, IsObject, IsChecked, AreHeld, Lends}
use Rattle.pfc_standing_code.specs.Performs.{MetAt, DecidesAt, IsSent, IsReceived, AreOpen, own_room, IsOwnBar, Tries, IsCheckedFor, Clear, Alone, Performs}
use Rattle.pfc_standing_code.specs.Awaits.{TurnAt, PerformsAnywhere, BehindScanAt, TakesValue, CallsAt}

-- a number or a string that is printed, with or without a width
pub data IsPiece (g : Setting) (line at : ℕ) (ops below : List ℤ) (bytes : List ℕ) : Type 0 where
  number : (t : Simple) (n : ℤ) → ops ≡ n ∷ below → bytes ≡ shown t n → IsAt g at (write_instr t 0) line → IsPiece g line at ops below bytes
  wide_number : (t : Simple) (n w : ℤ) → ops ≡ w ∷ n ∷ below → padded w (shown t n) ≡ Ok bytes →
      IsAt g at (write_instr t 1) line → IsPiece g line at ops below bytes
  string : (s : ℕ) → ops ≡ below → slice_get g.texts s ≡ Some bytes → IsAt g at (WRS s 0) line → IsPiece g line at ops below bytes
  wide_string : (s : ℕ) (w : ℤ) (text : List ℕ) → ops ≡ w ∷ below → slice_get g.texts s ≡ Some text → padded w text ≡ Ok bytes →
      IsAt g at (WRS s 1) line → IsPiece g line at ops below bytes
  newline : ops ≡ below → bytes ≡ 10 ∷ [] → IsAt g at WRNL line → IsPiece g line at ops below bytes

-- an instruction that ends in a fault
pub data IsFault (g : Setting) (line at : ℕ) (ops : List ℤ) (arms : List Arm) (f : RunFault) : Type 0 where
  of_operands : (i : Instr) → IsAt g at i line → CanPerform g i ops → effect_of g i at ops arms ≡ refuses f → MayRefuse g i → IsFault g line at ops arms f
  of_number_width : (t : Simple) (n w : ℤ) (below : List ℤ) → ops ≡ w ∷ n ∷ below → padded w (shown t n) ≡ Err f →
      IsAt g at (write_instr t 1) line → IsFault g line at ops arms f
  of_string_width : (s : ℕ) (w : ℤ) (text : List ℕ) (below : List ℤ) → ops ≡ w ∷ below → slice_get g.texts s ≡ Some text → padded w text ≡ Err f →
      IsAt g at (WRS s 1) line → IsFault g line at ops arms f

-- a write of a value from the operands, or of the value that a `for` keeps
pub data IsWrite (g : Setting) (b : Block) (x : Context) (at : ℕ) (ops : List ℤ) (arms : List Arm) (v : Spot) (new : Value) (k : Remainder) : Type 0 where
  of_value : (t : TypeId) (w : ℤ) (below : List ℤ) → ops ≡ reverse (words_of new) ++ w ∷ below → IsOf (forms_of (site_of g b x)) t new →
      IsWord g.view (site_of g b x) v (Some t) w → IsAt g at (STORE (shape_cells (forms_of (site_of g b x)) (shape_of t))) x.line →
      Performs g b x.env (at + 1) below arms k → IsWrite g b x at ops arms v new k
  of_kept : (last kept w : ℤ) (below : List ℤ) → arms ≡ [] → ops ≡ last ∷ kept ∷ w ∷ below → new ≡ ordinal kept → IsSimpleWord g.view (site_of g b x) v w →
      IsAt g at FORW x.line → Performs g b x.env (at + 1) ops [] k → IsWrite g b x at ops arms v new k

-- the way back of a loop, or to the next value of a `for`
pub data IsTurn (g : Setting) (b : Block) (x : Context) (at : ℕ) (ops : List ℤ) (k : Remainder) : Type 0 where
  of_loop : (a : ℕ) → IsAt g at (TURN a) x.line → Performs g b x.env a ops [] k → IsTurn g b x at ops k
  of_count : (d a : ℕ) (last kept w : ℤ) (below : List ℤ) → ops ≡ last ∷ kept ∷ w ∷ below → is_before d kept last ≡ true → IsAt g at (FORT d a) x.line →
      Performs g b x.env a (last ∷ value_behind d kept ∷ w ∷ below) [] k → IsTurn g b x at ops k

-- a plain `!`, `?` or `accept` has no statements of its own, and writes no variable again
abbrev pub IsPlain : Open → Type 0
IsPlain o = (o.replica ≡ None) × (o.stmts ≡ no_stmts)

-- A plain communication: its operands, its instruction, and what is left; behind an accept its statement and its end come first.
abbrev pub MeetsBy : Setting → Block → Context → ℕ → List ℤ → Open → Offer → Remainder → Type 0
MeetsBy g b x at ops o (to_send channel v) k =
    (z : ℕ) × (sent : List ℤ) × (below : List ℤ) × (ops ≡ sent ++ below) × IsSent g (site_of g b x) channel v z sent
    × IsAt g at (SEND z) x.line × Performs g b x.env (at + 1) below [] k
MeetsBy g b x at ops o (to_receive channel target) k =
    (z : ℕ) × (held : List ℤ) × (below : List ℤ) × (ops ≡ held ++ below) × IsReceived g (site_of g b x) channel z held target
    × IsAt g at (RECV z) x.line × Performs g b x.env (at + 1) below [] k
MeetsBy g b x at ops o (to_accept a) k =
    let s = site_of g b x in
    IsAt g at (ACC a.entry (accept_cell s a.scope) (accept_cells s a.scope)) x.line
    × MetAt g s (at + 1) (length ops) (Some a) o.next o.stmts (λ end. Performs g b x.env end ops [] k)
MeetsBy g b x at ops o (to_wait n) k = ⊥
MeetsBy g b x at ops o to_end k = ⊥

-- an action of an object whose number is on top
abbrev pub ObjectAt : Setting → Block → Context → ℕ → List ℤ → Spot → TypeId → Instr → Remainder → Type 0
ObjectAt g b x at ops v t i k =
    (n : ℤ) × (below : List ℤ) × (ops ≡ n ∷ below) × IsObject g (site_of g b x) v (Some t) n × IsAt g at i x.line × Performs g b x.env (at + 1) below [] k

-- a turn of this scan comes: that before which the process is, or behind the guard of another, past that one's ticket
abbrev pub IsTurnOf : Trial → Scan → Type 0
IsTurnOf of_own scan = ⊥
IsTurnOf (of_turn next back) scan = next ≡ scan
IsTurnOf (of_another attempt) scan = record attempt.scan { after = Some attempt.whom.ticket } ≡ scan

-- The code is at the action, and performs behind it what is left then. The names that are in view there are those of the action. A process that is in a
-- scan does none but what a guard does, and the scan's own.
abbrev pub ArrivedBy : Setting → Block → ℕ → List ℤ → List Arm → Action → Type 0
ArrivedBy g b at ops arms (reads x v u) =
    (t : TypeId) × (w : ℤ) × (below : List ℤ) × (ops ≡ w ∷ below) × IsWord g.view (site_of g b x) v (Some t) w
    × IsAt g at (LOAD (shape_cells g.program.state.forms (shape_of t))) x.line × (length below + shape_cells g.program.state.forms (shape_of t) ≤ g.room)
    × TakesValue g b x (at + 1) below arms (shape_of t) u × IsValueType g.program.state.forms t × MayRead g v.scope
ArrivedBy g b at ops arms (writes x v new k) = InNoScan g (IsWrite g b x at ops arms v new k)
ArrivedBy g b at ops arms (turns x k) = Alone g arms (IsTurn g b x at ops k)
ArrivedBy g b at ops arms (calls x call given) =
    (formals : List Formal) × (below : List ℤ) × AreHeld g.view (site_of g b x) formals given ops below × CallsAt g b x at below arms formals call
    × Lends (site_of g b x) given [] no_actuals call
ArrivedBy g b at ops arms (finishes line) = Alone g arms ((ops ≡ g.under) × IsAt g at g.last line × (g.meetings ≡ []))
ArrivedBy g b at ops arms (prints x bytes k) = Alone g arms ((below : List ℤ) × IsPiece g x.line at ops below bytes × Performs g b x.env (at + 1) below [] k)
ArrivedBy g b at ops arms (inputs x t v k) =
    Alone g arms ((w : ℤ) × (below : List ℤ) × (ops ≡ w ∷ below) × IsSimpleWord g.view (site_of g b x) v w × IsAt g at (read_instr (simple_of t)) x.line
    × Performs g b x.env (at + 1) below [] k)
ArrivedBy g b at ops arms (skips x k) = Alone g arms (IsAt g at RDNL x.line × Performs g b x.env (at + 1) ops [] k)
ArrivedBy g b at ops arms (asks_eof x u) = InNoScan g (IsAt g at EOF x.line × (suc (length ops) ≤ g.room) × TakesValue g b x (at + 1) ops arms a_number u)
ArrivedBy g b at ops arms (asks_eoln x u) = InNoScan g (IsAt g at EOLN x.line × (suc (length ops) ≤ g.room) × TakesValue g b x (at + 1) ops arms a_number u)
ArrivedBy g b at ops arms (asks_clock x u) = InNoScan g (IsAt g at CLOCK x.line × (suc (length ops) ≤ g.room) × TakesValue g b x (at + 1) ops arms a_number u)
ArrivedBy g b at ops arms (asks_empty x v u) =
    InNoScan g ((n : ℤ) × (below : List ℤ) × (ops ≡ n ∷ below) × IsObject g (site_of g b x) v (Some condition) n × IsAt g at EMPTY x.line
    × TakesValue g b x (at + 1) below arms a_number u)
ArrivedBy g b at ops arms (draws x n u) =
    InNoScan g ((below : List ℤ) × (ops ≡ n ∷ below) × IsAt g at RAND x.line × TakesValue g b x (at + 1) below arms a_number u)
ArrivedBy g b at ops arms (joins x k) = Alone g arms (IsAt g at COEND x.line × Performs g b x.env (at + 1) ops [] k)
ArrivedBy g b at ops arms (initials x v n k) =
    Alone g arms ((rest : List ℤ) × (ops ≡ n ∷ rest) × ObjectAt g b x at rest v semaphore SINI k)
ArrivedBy g b at ops arms (waits x v k) = Alone g arms (ObjectAt g b x at ops v semaphore SWAIT k)
ArrivedBy g b at ops arms (signals x v k) = Alone g arms (ObjectAt g b x at ops v semaphore SSIG k)
ArrivedBy g b at ops arms (delays x v n k) =
    Alone g arms ((rest : List ℤ) × (ops ≡ n ∷ rest) × ObjectAt g b x at rest v condition DELAY k)
ArrivedBy g b at ops arms (resumes x v k) = Alone g arms (ObjectAt g b x at ops v condition RESUME k)
ArrivedBy g b at ops arms (sleeps x n k) = Alone g arms ((below : List ℤ) × (ops ≡ n ∷ below) × IsAt g at SLEEP x.line × Performs g b x.env (at + 1) below [] k)
ArrivedBy g b at ops arms (meets x o k) = Alone g arms (IsPlain o × MeetsBy g b x at ops o o.offer k)
ArrivedBy g b at ops arms (decides x sel k) =
    let s = site_of g b x in
    let behind = λ (end : ℕ). Performs g b x.env end ops [] k in
    InNoScan g (DecidesAt g s at (length ops) sel.pri sel.otherwise behind × AreOpen g s (length ops) sel.offered arms behind × LeadAhead at arms)
ArrivedBy g b at ops arms (parts x caller k) =
    Alone g arms (IsAt g at EACC x.line × (slice_get g.meetings 0 ≡ Some caller) × IsCheckedFor (parted g) b x.env k
    × Performs (parted g) b x.env (at + 1) ops [] k)
-- a turn of the process itself, or behind the false guard of a barred process
ArrivedBy g b at ops arms (scans x scan k) =
    Clear arms (IsTurnOf g.trial scan × (length ops ≤ own_room g.trial g.room) × TurnAt g at scan × BehindScanAt g scan ops k)
ArrivedBy g b at ops arms (bars x bar k) =
    Alone g arms ((v : ℤ) × (below : List ℤ) × (ops ≡ v ∷ below) × (is_true v ≡ false) × IsOwnBar g b bar
    × IsAt g at (GRD bar.resource) x.line × PerformsAnywhere g b (at + 1) below k)
ArrivedBy g b at ops arms (passes x w scan k) =
    Clear arms ((v : ℤ) × (below : List ℤ) × Tries g w scan (length below) × (ops ≡ v ∷ below) × (is_true v ≡ true)
    × IsAt g at (GRD scan.resource) x.line × BehindScanAt g scan below k)
ArrivedBy g b at ops arms (faults x f) = IsFault g x.line at ops arms f

-- the names in view at an action; an end, a fault and a turn of a scan need none
abbrev pub names_of : Action → Option Env
names_of (reads x v u) = Some x.env
names_of (writes x v new k) = Some x.env
names_of (turns x k) = Some x.env
names_of (calls x call given) = Some x.env
names_of (finishes line) = None
names_of (prints x bytes k) = Some x.env
names_of (inputs x t v k) = Some x.env
names_of (skips x k) = Some x.env
names_of (asks_eof x u) = Some x.env
names_of (asks_eoln x u) = Some x.env
names_of (asks_clock x u) = Some x.env
names_of (asks_empty x v u) = Some x.env
names_of (draws x n u) = Some x.env
names_of (joins x k) = Some x.env
names_of (initials x v n k) = Some x.env
names_of (waits x v k) = Some x.env
names_of (signals x v k) = Some x.env
names_of (delays x v n k) = Some x.env
names_of (resumes x v k) = Some x.env
names_of (sleeps x n k) = Some x.env
names_of (meets x o k) = Some x.env
names_of (decides x sel k) = Some x.env
names_of (parts x caller k) = Some x.env
names_of (scans x scan k) = None
names_of (bars x bar k) = Some x.env
names_of (passes x w scan k) = Some x.env
names_of (faults x f) = None

-- what may be done in a scan: a read or a fault in the guard of another, and the turns and the pass of the scan
abbrev pub may_scan : Action → Bool
may_scan (reads x v u) = true
may_scan (scans x scan k) = true
may_scan (passes x w scan k) = true
may_scan (faults x f) = true
may_scan n = false

abbrev pub AreChecked : Setting → Block → Option Env → Type 0
AreChecked g b None = Unit {0}
AreChecked g b (Some env) = IsChecked g b env

abbrev pub Arrived : Setting → ℕ → List ℤ → List Arm → Action → Type 0
Arrived g at ops arms n = (b : Block) × AreChecked g b (names_of n) × ArrivedBy g b at ops arms n

-- Quiet instructions, each of which leads up, and then the action.
pub data Follows (g : Setting) (n : Action) : ℕ → List ℤ → List Arm → Type 0 where
  arrives : (at : ℕ) (ops : List ℤ) (arms : List Arm) → Arrived g at ops arms n → Follows g n at ops arms
  moves : (at : ℕ) (ops : List ℤ) (arms : List Arm) (i : Instr) (line to : ℕ) (left : List ℤ) (more : List Arm) → IsAt g at i line → CanPerform g i ops →
      effect_of g i at ops arms ≡ onward to left more → at < to → length left ≤ g.room → length more ≤ g.arms →
      Follows g n to left more → Follows g n at ops arms

-- a process is at this address of a block, with these operands and alternatives, where this is still to do
abbrev pub DoesIn : Setting → Block → ℕ → List ℤ → List Arm → Doing → Type 0
DoesIn g b at ops arms (going env k) = IsCheckedFor g b env k × Performs g b env at ops arms k
DoesIn g b at ops arms (holding x v u) =
    (h : Shape) × (below : List ℤ) × IsChecked g b x.env × IsShaped (forms_of (site_of g b x)) h v × (ops ≡ reverse (words_of v) ++ below)
    × TakesValue g b x at below arms h u

abbrev pub DoesAt : Setting → ℕ → List ℤ → List Arm → Doing → Type 0
DoesAt g at ops arms d = (b : Block) × DoesIn g b at ops arms d
