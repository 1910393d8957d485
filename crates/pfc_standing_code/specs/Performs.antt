-- Where code performs what is left behind a statement.
--
-- Everything is said of a place of the code, of the operands that are held there, top first, and of the alternatives of a select that is
-- gone through. All but such a select begins without alternatives.
use Rattle.std.specs.Prelude.{ℕ, ◌+◌, ◌<◌, ◌≤◌, ◌≡◌, ℤ, pos, int_lt, Bool, false, if◌then◌else◌, List, [], ◌∷◌, ◌++◌, length, drop, reverse, Option, Some, None}
use Rattle.std.specs.List.{slice_get}
use Rattle.pfc_code.specs.declared.instructions.Instr.TheVariants.{TURN, FORW, FORT, CERR, GRD, SCAN, COEND, EACC, ARMS, ARMR, ARMA, ARMT, ARMX, SEL}
use Rattle.pfc_tree.specs.trees.Stmts.{StmtTree, StmtTrees, ArmTrees, CommTree, no_stmts, more_stmts, repeat_until, comm_accept, terminate}
use Rattle.pfc_types.specs.Types.{synchronous}
use Rattle.pfc_types.specs.rules.Expressions.{Env}
use Rattle.pfc_types.specs.rules.Statements.{comm_scopes}
use Rattle.pfc_types.specs.declared.types.TypeId.{TypeId}
use Rattle.pfc_semantics.specs.Values.{Value}
use Rattle.pfc_semantics.specs.Displays.{Spot}
use Rattle.pfc_semantics.specs.Programs.{Block, Guard}
use Rattle.pfc_semantics.specs.Remainders.{Context, Count, Replica, Accepting, Offer, Open, Alternative, Otherwise, Selecting, Bar, Way, Scan, Tried, Remainder}
use Rattle.pfc_semantics.specs.Remainders.{to_send, to_receive, to_accept, to_wait, to_end, leave, own, ends, perform, in_names, turn, until, behind_pass}
use Rattle.pfc_semantics.specs.Remainders.{next_pass, write_on, read_on, at_coend, part_from, write_again, go_through, try_guard, scan_on, try_other}
use Rattle.pfc_semantics.specs.Alternatives.{context, accepting_of, a_signal}
use Rattle.pfc_semantics.specs.Statements.{is_past}
use Rattle.pfc_semantics.specs.Rewriting.{loop_line}
use Rattle.pfc_semantics.specs.Resources.{bar_of}
use Rattle.pfc_translation.specs.Sites.{Site, in_accept, forms_of, blocks_of}
use Rattle.pfc_translation.specs.Codes.{Code, ◌⨾◌, one}
use Rattle.pfc_translation.specs.Expressions.{expr_code}
use Rattle.pfc_translation.specs.Calls.{writes_code, reads_code}
use Rattle.pfc_translation.specs.Statements.{stmt_code, stmts_code, tests_code, arms_code}
use Rattle.pfc_translation.specs.Selects.{accept_cell, accept_cells, replica_code, comm_code, guarded_code, alternatives_code, first_of}
use Rattle.pfc_cells.specs.Shapes.{words_of}
use Rattle.pfc_standing_code.specs.Shapes.{a_number, shape_of, shape_cells, IsOf}
use Rattle.pfc_standing_code.specs.Settings.{View, Trial, Attempt, Setting, of_own, of_turn, of_another, InNoScan, site_of, IsBeside, parted, IsAt, Stands}
use Rattle.pfc_standing_code.specs.Settings.{SeesAccepts, Jumped}
use Rattle.pfc_standing_code.specs.Effects.{Arm, LeadAhead}
use Rattle.pfc_standing_code.specs.Typed.{HasShape}
use Rattle.pfc_standing_code.specs.TypedStatements.{IsChannel, IsCarried, AcceptsEntry, IsTyped, AreTyped, AreArmsTyped, AreWritten, AreRead, IsReplica}
use Rattle.pfc_standing_code.specs.TypedStatements.{IsGuard, IsComm, AreAlternatives}
use Rattle.pfc_standing_code.specs.Words.{IsWord, IsSimpleWord, IsObject, AreOwnNames, IsChecked}

-- ## Statements at a place

-- A statement stands here over so many operands; its strings are those from the n-th on, and m is the number of the next scope in it.
pub record StmtAt (g : Setting) (s : Site) (at n held m : ℕ) (t : StmtTree) : Type 0 where
  pub typed : IsTyped s m t
  pub code : Stands g at n held (stmt_code s m t)
  pub accepts : SeesAccepts g s

-- of no statements nothing is asked
abbrev pub SeeAccepts : Setting → Site → StmtTrees → Type 0
SeeAccepts g s no_stmts = Unit {0}
SeeAccepts g s (more_stmts t ts) = SeesAccepts g s

pub record StmtsAt (g : Setting) (s : Site) (at n held m : ℕ) (ts : StmtTrees) : Type 0 where
  pub typed : AreTyped s m ts
  pub code : Stands g at n held (stmts_code s m ts)
  pub accepts : SeeAccepts g s ts

-- The tests of all labels stand from one place on, with the value of the `case` on top, and the arms, the first of which begins so far behind
-- the first arm of all, from another.
pub record ArmsAt (g : Setting) (s : Site) (tests k first n m from held : ℕ) (arms : ArmTrees) : Type 0 where
  pub typed : AreArmsTyped s m arms
  pub tests_stand : Stands g tests k (1 + held) (tests_code s m from arms ⨾ one s CERR)
  pub arms_stand : Stands g first n held (arms_code s m arms)
  pub accepts : SeesAccepts g s

-- a statement stands here, or statements do, and behind them all is as is said
abbrev pub StmtThen : Setting → Site → ℕ → ℕ → ℕ → StmtTree → (ℕ → Type 0) → Type 0
StmtThen g s at held m t behind = (n : ℕ) × StmtAt g s at n held m t × behind (at + (stmt_code s m t).size)

abbrev pub StmtsThen : Setting → Site → ℕ → ℕ → ℕ → StmtTrees → (ℕ → Type 0) → Type 0
StmtsThen g s at held m ts behind = (n : ℕ) × StmtsAt g s at n held m ts × behind (at + (stmts_code s m ts).size)

-- ## For

-- A `for` holds the address of its variable, the value that it keeps and the last one, which is on top.
pub record HoldsCount (g : Setting) (s : Site) (f : Count) (ops below : List ℤ) : Type 0 where
  pub w : ℤ
  pub held : ops ≡ f.last ∷ f.kept ∷ w ∷ below
  pub lies : IsSimpleWord g.view s f.at w
  pub within : is_past f.down f.kept f.last ≡ false

abbrev pub direction : Bool → ℕ
direction down = if down then 1 else 0

-- the pass of a `for` stands from this place on: the write of the kept value, the statement, and the way back
pub record HasPass (g : Setting) (s : Site) (f : Count) (at n held : ℕ) : Type 0 where
  pub write : IsAt g at FORW f.line
  pub inner : StmtAt g s (at + 1) n held f.next f.pass
  pub back : IsAt g (at + 1 + (stmt_code s f.next f.pass).size) (FORT (direction f.down) at) f.line

-- ## Alternatives of a select

-- What stands behind a communication: of an accept, whose parameters are those of its entry, its statement, in which they are in view, and its end;
-- then the statements.
abbrev pub MetAt : Setting → Site → ℕ → ℕ → Option Accepting → ℕ → StmtTrees → (ℕ → Type 0) → Type 0
MetAt g s at held None m ts behind = StmtsThen g s at held m ts behind
MetAt g s at held (Some a) m ts behind =
    AcceptsEntry (blocks_of s) s.block.scope a.entry a.scope
    × StmtThen g (in_accept s a.scope) at held (a.scope + 1) a.stmt (λ to. IsAt g to EACC a.line × StmtsThen g s (to + 1) held m ts behind)
    × SeesAccepts g s

-- the branch of an alternative: a replicated one writes its variable again, at the line of the select
abbrev pub BranchAt : Setting → Site → ℕ → ℕ → Option Replica → Option Accepting → ℕ → StmtTrees → (ℕ → Type 0) → Type 0
BranchAt g s at held None met m ts behind = MetAt g s at held met m ts behind
BranchAt g s at held (Some r) met m ts behind =
    (r.line ≡ s.line) × IsReplica s (Some r) × (n : ℕ) × Stands g at n held (replica_code s (Some r))
    × Jumped g (at + (replica_code s (Some r)).size) (λ to. MetAt g s to held met m ts behind)

-- the accept that an alternative is
abbrev pub accepted_in : Context → ℕ → CommTree → Option Accepting
accepted_in x n (comm_accept a p) = Some (accepting_of x n a p.line)
accepted_in x n comm = None

-- `terminate` has no branch
abbrev pub CommBranchAt : Setting → Site → Context → ℕ → ℕ → Alternative → CommTree → (ℕ → Type 0) → Type 0
CommBranchAt g s x at held a (terminate p) behind = Unit {0}
CommBranchAt g s x at held a comm behind = BranchAt g s at held a.replica (accepted_in x a.next comm) (a.next + comm_scopes comm) a.stmts behind

-- the branches of alternatives, so far behind the first branch each
abbrev pub BranchesAt : Setting → Site → Context → ℕ → ℕ → List Alternative → List ℕ → (ℕ → Type 0) → Type 0
BranchesAt g s x first held [] distances behind = Unit {0}
BranchesAt g s x first held (a ∷ alts) distances behind =
    CommBranchAt g s x (first + first_of distances) held a a.comm behind × BranchesAt g s x first held alts (drop 1 distances) behind

-- the decision of a select, with its `else` part, which stands behind it: without one the instruction has the address 0
abbrev pub DecidesAt : Setting → Site → ℕ → ℕ → Bool → Option Otherwise → (ℕ → Type 0) → Type 0
DecidesAt g s at held pri None behind = IsAt g at (SEL (if pri then 1 else 0) 0) s.line
DecidesAt g s at held pri (Some other) behind =
    (to : ℕ) × IsAt g at (SEL (if pri then 1 else 0) to) s.line × (at < to) × StmtsThen g s to held other.next other.stmts behind

-- alternatives stand from here on up to the decision, and each has its branch
pub record AlternativesAt (g : Setting) (s : Site) (x : Context) (at held : ℕ) (alts : List Alternative) (sel : Selecting) (behind : ℕ → Type 0) : Type 0 where
  pub typed : AreAlternatives s alts
  pub distances : List ℕ
  pub n : ℕ
  pub code : Stands g at n held (alternatives_code s alts distances)
  pub decision : DecidesAt g s (at + (alternatives_code s alts distances).size) held sel.pri sel.otherwise behind
  pub branches : BranchesAt g s x (at + (alternatives_code s alts distances).size + 1) held alts distances behind

-- The operands of a send, top first: the message over the channel's number; over a channel of `synchronous` the number alone.
pub data IsSent (g : Setting) (s : Site) (channel : Spot) (v : Value) (z : ℕ) (ops : List ℤ) : Type 0 where
  of_message :
      (t : Option TypeId) (u : TypeId) (n : ℤ) → IsChannel (forms_of s) t u → IsObject g s channel t n → IsCarried (forms_of s) u → IsOf (forms_of s) u v
      → z ≡ shape_cells (forms_of s) (shape_of u) → ops ≡ reverse (words_of v) ++ n ∷ [] → IsSent g s channel v z ops
  of_signal :
      (t : Option TypeId) (u : TypeId) (n : ℤ) → IsChannel (forms_of s) t u → IsObject g s channel t n → u ≡ synchronous → v ≡ a_signal → z ≡ 0
      → ops ≡ n ∷ [] → IsSent g s channel v z ops

-- those of a receive: the variable's address over the channel's number, or the number alone, which the instruction tells by the cells
pub data IsReceived (g : Setting) (s : Site) (channel : Spot) (z : ℕ) (ops : List ℤ) : Option Spot → Type 0 where
  into_variable :
      (t : Option TypeId) (u : TypeId) (n w : ℤ) (target : Spot) → IsChannel (forms_of s) t u → IsObject g s channel t n → IsCarried (forms_of s) u
      → IsWord g.view s target (Some u) w → z ≡ shape_cells (forms_of s) (shape_of u) → ops ≡ w ∷ n ∷ [] → IsReceived g s channel z ops (Some target)
  into_nothing :
      (t : Option TypeId) (u : TypeId) (n : ℤ) → IsChannel (forms_of s) t u → IsObject g s channel t n → u ≡ synchronous → z ≡ 0 → ops ≡ n ∷ []
      → IsReceived g s channel z ops None

-- an alternative of the machine is an open one: its operands are those of what is offered, and it leads to its branch
abbrev pub IsOpen : Setting → Site → ℕ → Open → Offer → Arm → (ℕ → Type 0) → Type 0
IsOpen g s held o (to_send channel v) arm behind =
    (to z : ℕ) × (arm.by ≡ ARMS z to) × IsSent g s channel v z arm.operands × BranchAt g s to held o.replica None o.next o.stmts behind
IsOpen g s held o (to_receive channel target) arm behind =
    (to z : ℕ) × (arm.by ≡ ARMR z to) × IsReceived g s channel z arm.operands target × BranchAt g s to held o.replica None o.next o.stmts behind
IsOpen g s held o (to_accept a) arm behind =
    (to : ℕ) × (arm.by ≡ ARMA a.entry (accept_cell s a.scope) (accept_cells s a.scope) to) × (arm.operands ≡ [])
    × BranchAt g s to held o.replica (Some a) o.next o.stmts behind
IsOpen g s held o (to_wait n) arm behind =
    (to : ℕ) × (arm.by ≡ ARMT to) × (arm.operands ≡ n ∷ []) × (int_lt n (pos 0) ≡ false) × BranchAt g s to held o.replica None o.next o.stmts behind
IsOpen g s held o to_end arm behind = (arm.by ≡ ARMX) × (arm.operands ≡ [])

abbrev pub AreOpen : Setting → Site → ℕ → List Open → List Arm → (ℕ → Type 0) → Type 0
AreOpen g s held [] [] behind = Unit {0}
AreOpen g s held [] (arm ∷ arms) behind = ⊥
AreOpen g s held (o ∷ os) [] behind = ⊥
AreOpen g s held (o ∷ os) (arm ∷ arms) behind = IsOpen g s held o o.offer arm behind × AreOpen g s held os arms behind

-- the instructions of alternatives, wherever their branches are
abbrev pub alternatives_size : Site → List Alternative → ℕ
alternatives_size s alts = (alternatives_code s alts []).size

-- The alternatives that were found open, whose branches stand behind the decision, and those that are still to be gone through.
pub record SelectAt (g : Setting) (s : Site) (x : Context) (at held : ℕ) (alts : List Alternative) (sel : Selecting)
    (arms : List Arm) (behind : ℕ → Type 0) : Type 0 where
  pub left : AlternativesAt g s x at held alts sel behind
  pub open_ones : AreOpen g s held sel.offered arms behind
  pub room : length arms + length alts ≤ g.arms
  pub ahead : LeadAhead (at + alternatives_size s alts) arms
  -- somewhere all is as is said, also where no branch leads there
  pub end : ℕ
  pub left_behind : behind end

-- What an open alternative waits for is evaluated here, over so many operands; its branch begins so many instructions behind the code, over those
-- that are held without it, behind the decision. There is room for it among the alternatives.
pub record CommAt (g : Setting) (s : Site) (x : Context) (at above held : ℕ) (a : Alternative) (rest : List Alternative) (sel : Selecting) (arms : List Arm)
    (code : ℕ → Code) (behind : ℕ → Type 0) : Type 0 where
  pub comm : IsComm s a.comm
  pub between : ℕ
  pub n : ℕ
  pub stands : Stands g at n above (code between)
  pub branch : CommBranchAt g s x (at + (code between).size + between) held a a.comm behind
  pub others : SelectAt g s x (at + (code between).size) held rest sel arms behind
  pub room : length arms + 1 + length rest ≤ g.arms
  pub far : alternatives_size s rest < between

-- ## Guards of a resource

-- A guard, and `GRD` behind it. It is read where main's names are in view, and those of its own procedure.
abbrev pub GuardAt : Setting → Block → Bar → ℕ → ℕ → (ℕ → Type 0) → Type 0
GuardAt g b bar at held behind =
    let s = site_of g b bar.context in
    let code = expr_code s bar.test ⨾ one s (GRD bar.resource) in
    IsChecked g b bar.context.env × HasShape s bar.test a_number × (n : ℕ) × Stands g at n held code × behind (at + code.size)
    × AreOwnNames g.program b bar.context.env

-- the guard of the own procedure, which is that of the block, and what it may name
abbrev pub IsOwnBar : Setting → Block → Bar → Type 0
IsOwnBar g b bar =
    (guard : Guard) × (b.guard ≡ Some guard) × (bar ≡ bar_of g.program bar.resource b guard) × AreOwnNames g.program b guard.env

-- what a process does behind a scan: what is left, or its own guard first
abbrev pub WayAt : Setting → Block → Way → ℕ → ℕ → (ℕ → Type 0) → Type 0
WayAt g b leave at held behind = behind at
WayAt g b (own bar) at held behind = (g.trial ≡ of_own) × IsOwnBar g b bar × GuardAt g b bar at held behind

-- what the process itself sees, where it may be trying the guard of another
abbrev pub own_view : Trial → View → View
own_view of_own view = view
own_view (of_turn scan back) view = view
own_view (of_another attempt) view = attempt.seen.view

abbrev pub own_accepts : Trial → List ℕ → List ℕ
own_accepts of_own accepts = accepts
own_accepts (of_turn scan back) accepts = accepts
own_accepts (of_another attempt) accepts = attempt.seen.accepts

-- and so the block in whose code it stands, and the room for its operands
abbrev pub own_block : Trial → Block → Block
own_block of_own b = b
own_block (of_turn scan back) b = b
own_block (of_another attempt) b = attempt.block

abbrev pub own_room : Trial → ℕ → ℕ
own_room of_own room = room
own_room (of_turn scan back) room = room
own_room (of_another attempt) room = attempt.room

-- the address at which the process goes on behind the scan that it is in
abbrev pub behind_scan : Trial → ℕ
behind_scan of_own = 0
behind_scan (of_turn scan back) = back
behind_scan (of_another attempt) = attempt.back

abbrev pub own_again : Setting → Setting
own_again g =
    record g {
      view = own_view g.trial g.view;
      accepts = own_accepts g.trial g.accepts;
      block = own_block g.trial g.block;
      room = own_room g.trial g.room;
      trial = of_own;
    }

-- The process tries the guard of this barred process in this scan; there is room of its own for what it holds.
pub record Tries (g : Setting) (w : Tried) (scan : Scan) (held : ℕ) : Type 0 where
  pub attempt : Attempt
  pub trial : g.trial ≡ of_another attempt
  pub whom : attempt.whom ≡ w
  pub within : attempt.scan ≡ scan
  pub turn : IsAt g attempt.turn (SCAN scan.resource) scan.line
  pub room : held ≤ own_room g.trial g.room

-- ## What is left behind a statement

-- What is asked of the names in view where this is left: nothing where it needs none, or begins with names of its own. So has a guard, and while one
-- is tried for another process it is the names of that one that are seen.
abbrev pub AskedOf : (Env → Type 0) → Env → Remainder → Type 0
AskedOf P env (ends line) = Unit {0}
AskedOf P env (in_names inner k) = Unit {0}
AskedOf P env (try_guard bar k) = Unit {0}
AskedOf P env (scan_on scan k) = Unit {0}
AskedOf P env (try_other w scan k) = Unit {0}
AskedOf P env k = P env

abbrev pub IsCheckedFor : Setting → Block → Env → Remainder → Type 0
IsCheckedFor g b env k = AskedOf (λ (e : Env). IsChecked g b e) env k

abbrev pub Clear : List Arm → Type 0 → Type 0
Clear arms P = (arms ≡ []) × P

-- so where the process is in no scan
abbrev pub Alone : Setting → List Arm → Type 0 → Type 0
Alone g arms P = ((g.trial ≡ of_own) × (arms ≡ [])) × P

-- While the guard of another is tried, the block is the one in whose code that stands, and what is left behind the scan is of the own block.
abbrev pub Performs : Setting → Block → Env → ℕ → List ℤ → List Arm → Remainder → Type 0
Performs g b env at ops arms (ends line) = Alone g arms (Jumped g at (λ to.
    (ops ≡ g.under) × IsAt g to g.last line × (g.meetings ≡ [])))
Performs g b env at ops arms (perform m ts k) = Alone g arms (Jumped g at (λ to.
    (line : ℕ) × StmtsThen g (site_of g b (context env line)) to (length ops) m ts (λ end. Performs g b env end ops [] k)))
Performs g b env at ops arms (in_names inner k) = InNoScan g ((c : Block) × IsBeside g b c × IsChecked g c inner × Performs g c inner at ops arms k)
Performs g b env at ops arms (turn m loop k) = Alone g arms (Jumped g at (λ to.
    (line a : ℕ) × IsAt g to (TURN a) (loop_line loop)
    × StmtThen g (site_of g b (context env line)) a (length ops) m loop (λ end. Performs g b env end ops [] k)))
Performs g b env at ops arms (until m ts e p k) = Alone g arms (Jumped g at (λ to.
    (line a : ℕ) × (to ≡ a + (stmts_code (site_of g b (context env p.line)) m ts).size)
    × StmtThen g (site_of g b (context env line)) a (length ops) m (repeat_until ts e p) (λ end. Performs g b env end ops [] k)))
Performs g b env at ops arms (behind_pass f k) = Alone g arms (Jumped g at (λ to.
    let s = site_of g b (context env f.line) in
    (a n : ℕ) × (below : List ℤ) × HoldsCount g s f ops below × HasPass g s f a n (length ops) × (to ≡ a + 1 + (stmt_code s f.next f.pass).size)
    × Performs g b env (to + 1) below [] k))
Performs g b env at ops arms (next_pass f k) = Alone g arms (Jumped g at (λ to.
    let s = site_of g b (context env f.line) in
    (n : ℕ) × (below : List ℤ) × HoldsCount g s f ops below × HasPass g s f to n (length ops)
    × Performs g b env (to + 1 + (stmt_code s f.next f.pass).size + 1) below [] k))
Performs g b env at ops arms (write_on line args newline k) = Alone g arms (Jumped g at (λ to.
    let s = site_of g b (context env line) in
    AreWritten s args × (n : ℕ) × Stands g to n (length ops) (writes_code s args newline) × Performs g b env (to + (writes_code s args newline).size) ops [] k))
Performs g b env at ops arms (read_on line args skip k) = Alone g arms (Jumped g at (λ to.
    let s = site_of g b (context env line) in
    AreRead s args × (n : ℕ) × Stands g to n (length ops) (reads_code s args skip) × Performs g b env (to + (reads_code s args skip).size) ops [] k))
Performs g b env at ops arms (at_coend line k) = Alone g arms (Jumped g at (λ to. IsAt g to COEND line × Performs g b env (to + 1) ops [] k))
Performs g b env at ops arms (part_from caller line k) = Alone g arms (Jumped g at (λ to.
    IsAt g to EACC line × (slice_get g.meetings 0 ≡ Some caller) × IsCheckedFor (parted g) b env k × Performs (parted g) b env (to + 1) ops [] k))
Performs g b env at ops arms (write_again r k) = Alone g arms (Jumped g at (λ to.
    let s = site_of g b (context env r.line) in
    IsReplica s (Some r) × (n : ℕ) × Stands g to n (length ops) (replica_code s (Some r)) × Performs g b env (to + (replica_code s (Some r)).size) ops [] k))
Performs g b env at ops arms (go_through line a rest sel k) = InNoScan g (Jumped g at (λ to.
    let x = context env line in
    let s = site_of g b x in
    IsGuard s a.guard
    × CommAt g s x to (length ops) (length ops) a rest sel arms
    (λ between. guarded_code s a.guard (comm_code s a.next a.comm between)) (λ end. Performs g b env end ops [] k)))
Performs g b env at ops arms (try_guard bar k) = Alone g arms (Jumped g at (λ to.
    IsOwnBar g b bar × GuardAt g b bar to (length ops) (λ end. (e : Env) → IsCheckedFor g b e k × Performs g b e end ops [] k)))
Performs g b env at ops arms (scan_on scan k) = Clear arms (Jumped g at (λ to.
    ((back : ℕ) × (g.trial ≡ of_turn scan back)) × IsAt g to (SCAN scan.resource) scan.line
    × WayAt (own_again g) (own_block g.trial g.block) scan.way (behind_scan g.trial) (length ops)
    (λ end. (e : Env) → IsCheckedFor (own_again g) (own_block g.trial g.block) e k × Performs (own_again g) (own_block g.trial g.block) e end ops [] k)))
Performs g b env at ops arms (try_other w scan k) = Clear arms (Jumped g at (λ to.
    (tries : Tries g w scan (length ops)) × (w.bar.resource ≡ scan.resource) × GuardAt g b w.bar to (length ops) (λ end. end ≤ tries.attempt.turn)
    × WayAt (own_again g) (own_block g.trial g.block) scan.way (behind_scan g.trial) (length ops)
    (λ end. (e : Env) → IsCheckedFor (own_again g) (own_block g.trial g.block) e k × Performs (own_again g) (own_block g.trial g.block) e end ops [] k)))
