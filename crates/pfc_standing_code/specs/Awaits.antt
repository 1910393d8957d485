-- Where code goes on with a value that is held on top of some operands, or with the address of a variable: what waits for them.
--
-- Of a value only its shape is asked, which is told before what waits for it. Where the guard of another is tried, only what waits in an expression of a
-- guard is there, and the guard's end.
use Rattle.std.specs.Prelude.{ℕ, suc, ◌+◌, ◌<◌, ◌≤◌, ◌≡◌, ℤ, Bool, true, false, List, [], ◌∷◌, ◌++◌, length, Option, Some, None}
use Rattle.std.specs.List.{slice_get}
use Rattle.pfc_code.specs.declared.instructions.Instr.{Instr}
use Rattle.pfc_code.specs.declared.instructions.Instr.TheVariants.{LOAD, STORE, OBJ, NOT, JF, FORB, FORW, FORT, CALL, GRD, REQ, NEW, SCAN, SINI, SWAIT, SSIG}
use Rattle.pfc_code.specs.declared.instructions.Instr.TheVariants.{SEND, RECV, ECALL, ARMS, ARMR, ARMT, DELAY, RESUME, EMPTY, SLEEP, WRS}
use Rattle.pfc_tree.specs.trees.Stmts.{StmtTree, CommTree, while_do, repeat_until, comm_send, comm_receive}
use Rattle.pfc_types.specs.Types.{semaphore, condition, is_simple}
use Rattle.pfc_types.specs.Blocks.{module_at, process_at, entry_at}
use Rattle.pfc_types.specs.rules.Expressions.{Env, expr_type}
use Rattle.pfc_types.specs.rules.Statements.{scopes_in, comm_scopes}
use Rattle.pfc_types.specs.declared.types.TypeId.{TypeId}
use Rattle.pfc_types.specs.declared.heads.Formal.{Formal}
use Rattle.pfc_values.specs.declared.simple.Simple.{Simple}
use Rattle.pfc_values.specs.Pieces.{shown}
use Rattle.pfc_semantics.specs.Objects.{module_number}
use Rattle.pfc_semantics.specs.Operators.{simple_of}
use Rattle.pfc_semantics.specs.Predeclared.{Function, eof, eoln, empty, clock, random, no_function}
use Rattle.pfc_semantics.specs.Programs.{Block, block_at, block_number}
use Rattle.pfc_semantics.specs.Remainders.{Context, Alternative, Selecting, Scan, Remainder, AwaitsValue, AwaitsLocation, Call, begin_sum, add_to}
use Rattle.pfc_semantics.specs.Remainders.{begin_product, multiply_by, compare_with, compare_to, invert, apply, index_into, pass_value, store_at, choose}
use Rattle.pfc_semantics.specs.Remainders.{choose_arm, while_true, until_true, count_from, count_to, show, show_wide, pad, set_count, delay_with, sleep_for}
use Rattle.pfc_semantics.specs.Remainders.{send_on, open_if, offer_value, offer_wait, pass_own, pass_other, read_for, assign_to, input_to, pass_variable}
use Rattle.pfc_semantics.specs.Remainders.{ask_empty, activate_with, enter_with, initial_to, wait_at, signal_at, delay_at, resume_at, send_to, receive_from}
use Rattle.pfc_semantics.specs.Remainders.{receive_into, offer_to, offer_from, offer_into, to_procedure, to_function, to_module, to_requeue, to_process}
use Rattle.pfc_semantics.specs.Remainders.{to_entry}
use Rattle.pfc_semantics.specs.Alternatives.{context}
use Rattle.pfc_semantics.specs.Expressions.{form_in}
use Rattle.pfc_translation.specs.Sites.{Site, forms_of, blocks_of, links_to, type_cells}
use Rattle.pfc_translation.specs.Codes.{Code, ◌⨾◌, one, over, back}
use Rattle.pfc_translation.specs.Addresses.{element_in, type_behind, index_instr}
use Rattle.pfc_translation.specs.Expressions.{relation_instr, add_instr, multiply_instr, sign_code, function_code, simple_code, summands_code, multipliers_code}
use Rattle.pfc_translation.specs.Expressions.{expr_code, args_code, selectors_code, indices_code}
use Rattle.pfc_translation.specs.Calls.{write_instr, read_instr, rank_code, enter_instr, resource_of, formals_cells}
use Rattle.pfc_translation.specs.Selects.{message_code, message_cells, receiver_code, receiver_cells, comm_code}
use Rattle.pfc_translation.specs.Statements.{stmt_code, stmts_code, arms_code, label_count}
use Rattle.pfc_translation.specs.Codes.{nothing}
use Rattle.pfc_standing_code.specs.Shapes.{Shape, a_number, shape_of, shape_cells}
use Rattle.pfc_standing_code.specs.ValueTypes.{IsValueType}
use Rattle.pfc_standing_code.specs.Settings.{Setting, of_own, InNoScan, MayRead, AreOver, site_of, SeesAccepts, IsAt, Stands}
use Rattle.pfc_standing_code.specs.Effects.{Arm}
use Rattle.pfc_standing_code.specs.Typed.{IsArray, ByName, InExpressions, FromOutside, ByRequeue, IsOfSub, TakesCells, LeavesCells, HasShape, AreSummands}
use Rattle.pfc_standing_code.specs.Typed.{AreMultipliers, HasShapeSimple, AreArguments, AreSelectors, AreIndices}
use Rattle.pfc_standing_code.specs.TypedStatements.{IsTyped, IsChannel, IsCarried, IsMessage, IsReceiver, IsRank, HasProcessForm, IsProcessType}
use Rattle.pfc_standing_code.specs.Words.{IsWord, IsPart, IsSimpleWord, IsObject, AreHeld, Lends, LendsAt}
use Rattle.pfc_standing_code.specs.Performs.{ArmsAt, StmtThen, direction, BranchAt, SelectAt, CommAt, WayAt, own_block, behind_scan, own_again, IsOwnBar, Tries}
use Rattle.pfc_standing_code.specs.Performs.{alternatives_size, IsCheckedFor, Clear, Alone, Performs}

-- `eof`, `eoln` and `clock` have no argument, and that of `empty` is no value
abbrev pub has_argument : Function → Bool
has_argument eof = false
has_argument eoln = false
has_argument empty = false
has_argument clock = false
has_argument no_function = false
has_argument f = true

-- what depends on more than its argument, which no guard names
abbrev pub is_asked : Function → Bool
is_asked eof = true
is_asked eoln = true
is_asked empty = true
is_asked clock = true
is_asked random = true
is_asked f = false

-- the instruction of a function, behind its argument
abbrev pub finishing : Site → Function → Option TypeId → Code
finishing s f t = function_code s f t nothing nothing

-- a width is awaited: the bytes are those of the number below it, or of a string of the program
pub data PadAt (g : Setting) (line at : ℕ) (ops : List ℤ) (bytes : List ℕ) (P : List ℤ → Type 0) : Type 0 where
  of_number : (t : Simple) (n : ℤ) (below : List ℤ) → ops ≡ n ∷ below → bytes ≡ shown t n →
      IsAt g at (write_instr t 1) line → P below → PadAt g line at ops bytes P
  of_string : (i : ℕ) → slice_get g.texts i ≡ Some bytes → IsAt g at (WRS i 1) line → P ops → PadAt g line at ops bytes P

-- the instructions of a `for` behind both bounds
abbrev pub pass_code : Site → Bool → ℕ → StmtTree → Code
pass_code s down m t =
    let inner = stmt_code s m t in
    over s (λ at. FORB (direction down) at) (inner.size + 2) ⨾ one s FORW ⨾ inner ⨾ back s (λ at. FORT (direction down) at) (inner.size + 1)

-- the `SCAN` of a resource
abbrev pub TurnAt : Setting → ℕ → Scan → Type 0
TurnAt g at scan = IsAt g at (SCAN scan.resource) scan.line

-- the remainder is performed from here on, whatever names are in view
abbrev pub PerformsAnywhere : Setting → Block → ℕ → List ℤ → Remainder → Type 0
PerformsAnywhere g b at ops k = (e : Env) → IsCheckedFor g b e k × Performs g b e at ops [] k

-- behind a scan the process sees what is its own again, in its own block, and there performs what is left
abbrev pub BehindScanAt : Setting → Scan → List ℤ → Remainder → Type 0
BehindScanAt g scan ops k =
    WayAt (own_again g) (own_block g.trial g.block) scan.way (behind_scan g.trial) (length ops)
    (λ end. PerformsAnywhere (own_again g) (own_block g.trial g.block) end ops k)

-- an object's address is on top: its number is taken, the code behind that stands, and behind that all is as is said
abbrev pub ObjectThen : Setting → Site → ℕ → List ℤ → Code → (ℕ → Type 0) → Type 0
ObjectThen g s at ops code behind = IsAt g at OBJ s.line × (n : ℕ) × Stands g (at + 1) n (suc (length ops)) code × behind (at + 1 + code.size)

-- The instruction that makes an alternative of the operands, and what stands behind it. The alternative is no accept, and its branch stands behind the
-- decision.
pub record ArmAt (g : Setting) (s : Site) (x : Context) (at held : ℕ) (a : Alternative) (rest : List Alternative) (sel : Selecting) (arms : List Arm) (i : ℕ →
    Instr) (behind : ℕ → Type 0) : Type 0 where
  pub to : ℕ
  pub makes : IsAt g at (i to) s.line
  pub branch : BranchAt g s to held a.replica None (a.next + comm_scopes a.comm) a.stmts behind
  pub others : SelectAt g s x (at + 1) held rest sel arms behind
  pub room : length arms + 1 + length rest ≤ g.arms
  pub far : at + 1 + alternatives_size s rest < to

-- the alternative sends or receives
abbrev pub HasMessage : CommTree → Type 0
HasMessage (comm_send d e p) = Unit {0}
HasMessage (comm_receive d v p) = Unit {0}
HasMessage comm = ⊥

-- ## What waits for a value, for the address of a variable, and for the arguments of a call

-- the code here, over these operands, goes on with a value of this shape, with the address of a part of this type, and with arguments for all of
-- these parameters
abbrev mutual
  pub TakesValue : Setting → Block → Context → ℕ → List ℤ → List Arm → Shape → AwaitsValue → Type 0
  TakesValue g b x at ops arms h (begin_sum sign rest u) =
      let s = site_of g b x in
      let code = sign_code s sign ⨾ summands_code s rest in
      (h ≡ a_number) × AreSummands s rest × (n : ℕ) × Stands g at n (suc (length ops)) code × TakesValue g b x (at + code.size) ops arms a_number u
  TakesValue g b x at ops arms h (add_to m op rest u) =
      let s = site_of g b x in
      let code = one s (add_instr op) ⨾ summands_code s rest in
      (h ≡ a_number) × (below : List ℤ) × (ops ≡ m ∷ below) × AreSummands s rest
      × (n : ℕ) × Stands g at n (suc (length ops)) code × TakesValue g b x (at + code.size) below arms a_number u
  TakesValue g b x at ops arms h (begin_product rest u) =
      let s = site_of g b x in
      let code = multipliers_code s rest in
      (h ≡ a_number) × AreMultipliers s rest × (n : ℕ) × Stands g at n (suc (length ops)) code × TakesValue g b x (at + code.size) ops arms a_number u
  TakesValue g b x at ops arms h (multiply_by m op rest u) =
      let s = site_of g b x in
      let code = one s (multiply_instr op) ⨾ multipliers_code s rest in
      (h ≡ a_number) × (below : List ℤ) × (ops ≡ m ∷ below) × AreMultipliers s rest
      × (n : ℕ) × Stands g at n (suc (length ops)) code × TakesValue g b x (at + code.size) below arms a_number u
  TakesValue g b x at ops arms h (compare_with r t u) =
      let s = site_of g b x in
      let code = simple_code s t ⨾ one s (relation_instr r) in
      (h ≡ a_number) × HasShapeSimple s t a_number × (n : ℕ) × Stands g at n (suc (length ops)) code × TakesValue g b x (at + code.size) ops arms a_number u
  TakesValue g b x at ops arms h (compare_to m r u) =
      (h ≡ a_number) × (below : List ℤ) × (ops ≡ m ∷ below) × (suc (length below) ≤ g.room) × IsAt g at (relation_instr r) x.line
      × TakesValue g b x (at + 1) below arms a_number u
  TakesValue g b x at ops arms h (invert u) =
      (h ≡ a_number) × (suc (length ops) ≤ g.room) × IsAt g at NOT x.line × TakesValue g b x (at + 1) ops arms a_number u
  TakesValue g b x at ops arms h (apply f t u) =
      let code = finishing (site_of g b x) f t in
      (h ≡ a_number) × (has_argument f ≡ true) × (is_asked f ≡ true → g.trial ≡ of_own) × (n : ℕ) × Stands g at n (suc (length ops)) code
      × TakesValue g b x (at + code.size) ops arms a_number u
  TakesValue g b x at ops arms h (index_into part es ss goal) =
      let s = site_of g b x in
      let forms = forms_of s in
      let within = element_in forms part.t in
      let inner = one s (index_instr forms (form_in forms part.t)) ⨾ indices_code s within es in
      let code = selectors_code s (type_behind forms within es) ss in
      (h ≡ a_number) × (w : ℤ) × (below : List ℤ) × (t : Option TypeId) × (ops ≡ w ∷ below) × IsPart g.view s part w
      × IsArray forms part.t × AreIndices s within es × AreSelectors s (type_behind forms within es) ss t
      × (n : ℕ) × Stands g at n (suc (length ops)) inner × (m : ℕ) × Stands g (at + inner.size) m (suc (length below)) code
      × TakesLocation g b x (at + inner.size + code.size) below arms t goal × MayRead g part.spot.scope × LendsAt s part.spot goal
  TakesValue g b x at ops arms h (pass_value rest args given call) =
      let s = site_of g b x in
      let code = args_code s rest args in
      (before : List Formal) × (f : Formal) × (t : TypeId) × (below : List ℤ) × (f.reference ≡ false) × (f.t ≡ Some t) × (h ≡ shape_of t)
      × AreHeld g.view s before given ops below × AreArguments s rest args
      × (n : ℕ) × Stands g at n (shape_cells (forms_of s) h + length ops) code × CallsAt g b x (at + code.size) below arms (before ++ f ∷ rest) call
      × IsValueType (forms_of s) t × Lends s given rest args call
  TakesValue g b x at ops arms h (store_at v k) =
      let s = site_of g b x in
      Alone g arms ((t : TypeId) × (w : ℤ) × (below : List ℤ) × (h ≡ shape_of t) × (ops ≡ w ∷ below) × IsWord g.view s v (Some t) w
      × IsAt g at (STORE (shape_cells (forms_of s) h)) x.line × Performs g b x.env (at + 1) below [] k × IsValueType (forms_of s) t)
  TakesValue g b x at ops arms h (choose m t u k) =
      let s = site_of g b x in
      let P = λ (end : ℕ). Performs g b x.env end ops [] k in
      Alone g arms ((h ≡ a_number) × (to : ℕ) × IsAt g at (JF to) x.line × (at < to)
      × StmtThen g s (at + 1) (length ops) m t P × StmtThen g s to (length ops) (m + scopes_in t) u P)
  TakesValue g b x at ops arms h (choose_arm m alternatives k) =
      let s = site_of g b x in
      let first = at + label_count alternatives + 1 in
      Alone g arms ((h ≡ a_number) × (i n : ℕ) × ArmsAt g s at i first n m 0 (length ops) alternatives
      × Performs g b x.env (first + (arms_code s m alternatives).size) ops [] k)
  TakesValue g b x at ops arms h (while_true m e t p k) =
      Alone g arms ((h ≡ a_number) × (x.line ≡ p.line) × (line a : ℕ) × (at ≡ a + (expr_code (site_of g b (context x.env p.line)) e).size)
      × StmtThen g (site_of g b (context x.env line)) a (length ops) m (while_do e t p) (λ end. Performs g b x.env end ops [] k))
  TakesValue g b x at ops arms h (until_true m ts e p k) =
      let s = site_of g b (context x.env p.line) in
      Alone g arms ((h ≡ a_number) × (x.line ≡ p.line) × (line a : ℕ) × (at ≡ a + (stmts_code s m ts).size + (expr_code s e).size)
      × StmtThen g (site_of g b (context x.env line)) a (length ops) m (repeat_until ts e p) (λ end. Performs g b x.env end ops [] k))
  TakesValue g b x at ops arms h (count_from m v down e t k) =
      let s = site_of g b x in
      let code = expr_code s e ⨾ pass_code s down m t in
      Alone g arms ((h ≡ a_number) × (w : ℤ) × (below : List ℤ) × (ops ≡ w ∷ below) × IsSimpleWord g.view s v w × HasShape s e a_number × IsTyped s m t
      × (n : ℕ) × Stands g at n (suc (length ops)) code × Performs g b x.env (at + code.size) below [] k × SeesAccepts g s)
  TakesValue g b x at ops arms h (count_to m v a down t k) =
      let s = site_of g b x in
      let code = pass_code s down m t in
      Alone g arms ((h ≡ a_number) × (w : ℤ) × (below : List ℤ) × (ops ≡ a ∷ w ∷ below) × IsSimpleWord g.view s v w × IsTyped s m t
      × (n : ℕ) × Stands g at n (suc (length ops)) code × Performs g b x.env (at + code.size) below [] k × SeesAccepts g s)
  TakesValue g b x at ops arms h (show t k) =
      Alone g arms ((h ≡ a_number) × IsAt g at (write_instr (simple_of t) 0) x.line × Performs g b x.env (at + 1) ops [] k)
  TakesValue g b x at ops arms h (show_wide t e k) =
      let s = site_of g b x in
      let code = expr_code s e ⨾ one s (write_instr (simple_of t) 1) in
      Alone g arms ((h ≡ a_number) × HasShape s e a_number × (n : ℕ) × Stands g at n (suc (length ops)) code × Performs g b x.env (at + code.size) ops [] k)
  TakesValue g b x at ops arms h (pad bytes k) =
      Alone g arms ((h ≡ a_number) × PadAt g x.line at ops bytes (λ below. Performs g b x.env (at + 1) below [] k))
  TakesValue g b x at ops arms h (set_count v k) =
      Alone g arms ((h ≡ a_number) × (n : ℤ) × (below : List ℤ) × (ops ≡ n ∷ below) × IsObject g (site_of g b x) v (Some semaphore) n
      × IsAt g at SINI x.line × Performs g b x.env (at + 1) below [] k)
  TakesValue g b x at ops arms h (delay_with v k) =
      Alone g arms ((h ≡ a_number) × (n : ℤ) × (below : List ℤ) × (ops ≡ n ∷ below) × IsObject g (site_of g b x) v (Some condition) n
      × IsAt g at DELAY x.line × Performs g b x.env (at + 1) below [] k)
  TakesValue g b x at ops arms h (sleep_for k) = Alone g arms ((h ≡ a_number) × IsAt g at SLEEP x.line × Performs g b x.env (at + 1) ops [] k)
  TakesValue g b x at ops arms h (send_on v k) =
      let s = site_of g b x in
      Alone g arms ((t : Option TypeId) × (u : TypeId) × (n : ℤ) × (below : List ℤ) × (h ≡ shape_of u) × (ops ≡ n ∷ below) × IsChannel (forms_of s) t u
      × IsCarried (forms_of s) u × IsObject g s v t n × IsAt g at (SEND (shape_cells (forms_of s) h)) x.line × Performs g b x.env (at + 1) below [] k)
  -- the alternatives behind a closed one are gone through behind the jump
  TakesValue g b x at ops arms h (open_if a rest sel k) =
      let s = site_of g b x in
      InNoScan g ((h ≡ a_number) × (to : ℕ) × IsAt g at (JF to) x.line × (to ≡ at + 1 + (comm_code s a.next a.comm 0).size)
      × CommAt g s x (at + 1) (length ops) (length ops) a rest sel arms (λ between. comm_code s a.next a.comm between) (λ end. Performs g b x.env end ops [] k))
  TakesValue g b x at ops arms h (offer_value channel a rest sel k) =
      let s = site_of g b x in
      InNoScan g ((t : Option TypeId) × (u : TypeId) × (n : ℤ) × (below : List ℤ) × (h ≡ shape_of u) × (ops ≡ n ∷ below) × IsChannel (forms_of s) t u
      × IsCarried (forms_of s) u × IsObject g s channel t n
      × ArmAt g s x at (length below) a rest sel arms (λ to. ARMS (shape_cells (forms_of s) h) to) (λ end. Performs g b x.env end below [] k))
  TakesValue g b x at ops arms h (offer_wait a rest sel k) =
      InNoScan g ((h ≡ a_number) × ArmAt g (site_of g b x) x at (length ops) a rest sel arms ARMT (λ end. Performs g b x.env end ops [] k))
  TakesValue g b x at ops arms h (pass_own bar k) =
      Alone g arms ((h ≡ a_number) × IsOwnBar g b bar × IsAt g at (GRD bar.resource) x.line × PerformsAnywhere g b (at + 1) ops k)
  TakesValue g b x at ops arms h (pass_other w scan k) =
      Clear arms ((h ≡ a_number) × (tries : Tries g w scan (length ops)) × (at < tries.attempt.turn) × IsAt g at (GRD scan.resource) x.line
      × BehindScanAt g scan ops k)

  pub TakesLocation : Setting → Block → Context → ℕ → List ℤ → List Arm → Option TypeId → AwaitsLocation → Type 0
  TakesLocation g b x at ops arms t (read_for u) =
      (v : TypeId) × (t ≡ Some v) × IsAt g at (LOAD (shape_cells g.program.state.forms (shape_of v))) x.line
      × (length ops + shape_cells g.program.state.forms (shape_of v) ≤ g.room) × TakesValue g b x (at + 1) ops arms (shape_of v) u
  TakesLocation g b x at ops arms t (assign_to e k) =
      let s = site_of g b x in
      let code = expr_code s e ⨾ one s (STORE (type_cells (forms_of s) (expr_type s.env e))) in
      Alone g arms ((v : TypeId) × (t ≡ Some v) × HasShape s e (shape_of v)
      × (type_cells (forms_of s) (expr_type s.env e) ≡ shape_cells (forms_of s) (shape_of v))
      × (n : ℕ) × Stands g at n (suc (length ops)) code × Performs g b x.env (at + code.size) ops [] k × IsValueType (forms_of s) v)
  TakesLocation g b x at ops arms t (input_to u k) =
      Alone g arms ((v : TypeId) × (t ≡ Some v) × (is_simple v ≡ true) × IsAt g at (read_instr (simple_of u)) x.line × Performs g b x.env (at + 1) ops [] k)
  TakesLocation g b x at ops arms t (pass_variable rest args given call) =
      let s = site_of g b x in
      let code = args_code s rest args in
      (before : List Formal) × (f : Formal) × (below : List ℤ) × (f.reference ≡ true) × (f.t ≡ t)
      × AreHeld g.view s before given ops below × AreArguments s rest args
      × (n : ℕ) × Stands g at n (suc (length ops)) code × CallsAt g b x (at + code.size) below arms (before ++ f ∷ rest) call
      × Lends s given rest args call
  TakesLocation g b x at ops arms t (ask_empty u) =
      InNoScan g ((t ≡ Some condition) × IsAt g at OBJ x.line × (suc (length ops) ≤ g.room) × IsAt g (at + 1) EMPTY x.line
      × TakesValue g b x (at + 2) ops arms a_number u)
  -- a single process is activated without a selector, so its address is not awaited
  TakesLocation g b x at ops arms t (activate_with formals args k) =
      let s = site_of g b x in
      Alone g arms ((n : ℕ) × (v : TypeId) × (t ≡ Some v) × HasProcessForm s n v × (n < length (blocks_of s).processes)
      × (formals ≡ (process_at (blocks_of s) n).formals)
      × ObjectThen g s at ops (args_code s formals args ⨾ one s (NEW (block_number g.program (process_at (blocks_of s) n).scope)))
      (λ end. Performs g b x.env end ops [] k)
      × AreArguments s formals args × TakesCells s (process_at (blocks_of s) n).scope formals)
  TakesLocation g b x at ops arms t (enter_with entry formals args k) =
      let s = site_of g b x in
      Alone g arms ((n : ℕ) × (v : TypeId) × (t ≡ Some v) × HasProcessForm s n v × (n < length (blocks_of s).processes)
      × (formals ≡ entry_at (blocks_of s) n entry)
      × ObjectThen g s at ops (args_code s formals args ⨾ one s (ECALL entry (formals_cells (forms_of s) formals))) (λ end. Performs g b x.env end ops [] k)
      × AreArguments s formals args)
  TakesLocation g b x at ops arms t (initial_to e k) =
      let s = site_of g b x in
      Alone g arms ((t ≡ Some semaphore) × HasShape s e a_number × ObjectThen g s at ops (expr_code s e ⨾ one s SINI) (λ end. Performs g b x.env end ops [] k))
  TakesLocation g b x at ops arms t (wait_at k) =
      Alone g arms ((t ≡ Some semaphore) × ObjectThen g (site_of g b x) at ops (one (site_of g b x) SWAIT) (λ end. Performs g b x.env end ops [] k))
  TakesLocation g b x at ops arms t (signal_at k) =
      Alone g arms ((t ≡ Some semaphore) × ObjectThen g (site_of g b x) at ops (one (site_of g b x) SSIG) (λ end. Performs g b x.env end ops [] k))
  TakesLocation g b x at ops arms t (delay_at rank k) =
      let s = site_of g b x in
      Alone g arms ((t ≡ Some condition) × IsRank s rank × ObjectThen g s at ops (rank_code s rank ⨾ one s DELAY) (λ end. Performs g b x.env end ops [] k))
  TakesLocation g b x at ops arms t (resume_at k) =
      Alone g arms ((t ≡ Some condition) × ObjectThen g (site_of g b x) at ops (one (site_of g b x) RESUME) (λ end. Performs g b x.env end ops [] k))
  TakesLocation g b x at ops arms t (send_to m k) =
      let s = site_of g b x in
      Alone g arms ((u : TypeId) × IsChannel (forms_of s) t u × IsMessage s m u
      × ObjectThen g s at ops (message_code s m ⨾ one s (SEND (message_cells s m))) (λ end. Performs g b x.env end ops [] k))
  TakesLocation g b x at ops arms t (receive_from d k) =
      let s = site_of g b x in
      Alone g arms ((u : TypeId) × IsChannel (forms_of s) t u × IsReceiver s d u
      × ObjectThen g s at ops (receiver_code s d ⨾ one s (RECV (receiver_cells s d))) (λ end. Performs g b x.env end ops [] k))
  TakesLocation g b x at ops arms t (receive_into channel k) =
      let s = site_of g b x in
      Alone g arms ((c : Option TypeId) × (u : TypeId) × (n : ℤ) × (below : List ℤ) × (t ≡ Some u) × IsCarried (forms_of s) u
      × IsChannel (forms_of s) c u × (ops ≡ n ∷ below) × IsObject g s channel c n × IsAt g at (RECV (shape_cells (forms_of s) (shape_of u))) x.line ×
      Performs g b x.env (at + 1) below [] k)
  TakesLocation g b x at ops arms t (offer_to m a rest sel k) =
      let s = site_of g b x in
      InNoScan g ((u : TypeId) × IsChannel (forms_of s) t u × IsMessage s m u × IsAt g at OBJ x.line × HasMessage a.comm
      × CommAt g s x (at + 1) (suc (length ops)) (length ops) a rest sel arms
      (λ between. message_code s m ⨾ over s (λ to. ARMS (message_cells s m) to) between) (λ end. Performs g b x.env end ops [] k))
  TakesLocation g b x at ops arms t (offer_from d a rest sel k) =
      let s = site_of g b x in
      InNoScan g ((u : TypeId) × IsChannel (forms_of s) t u × IsReceiver s d u × IsAt g at OBJ x.line × HasMessage a.comm
      × CommAt g s x (at + 1) (suc (length ops)) (length ops) a rest sel arms
      (λ between. receiver_code s d ⨾ over s (λ to. ARMR (receiver_cells s d) to) between) (λ end. Performs g b x.env end ops [] k))
  TakesLocation g b x at ops arms t (offer_into channel a rest sel k) =
      let s = site_of g b x in
      InNoScan g ((c : Option TypeId) × (u : TypeId) × (n : ℤ) × (below : List ℤ) × (t ≡ Some u) × IsCarried (forms_of s) u
      × IsChannel (forms_of s) c u × (ops ≡ n ∷ below) × IsObject g s channel c n
      × ArmAt g s x at (length below) a rest sel arms (λ to. ARMR (shape_cells (forms_of s) (shape_of u)) to) (λ end. Performs g b x.env end below [] k))

  -- What is called, over the operands below its arguments. A requeue leaves those of the callers alone.
  pub CallsAt : Setting → Block → Context → ℕ → List ℤ → List Arm → List Formal → Call → Type 0
  CallsAt g b x at ops arms formals (to_procedure scope k) =
      let s = site_of g b x in
      Alone g arms (IsOfSub s scope formals ByName × TakesCells s scope formals × LeavesCells s scope 0
      × IsAt g at (CALL (block_number g.program scope) (links_to s (block_at g.program scope).outer)) x.line × Performs g b x.env (at + 1) ops [] k)
  CallsAt g b x at ops arms formals (to_function scope u) =
      let s = site_of g b x in
      InNoScan g (IsOfSub s scope formals InExpressions × TakesCells s scope formals × LeavesCells s scope 1
      × IsAt g at (CALL (block_number g.program scope) (links_to s (block_at g.program scope).outer)) x.line
      × (suc (length ops) ≤ g.room) × TakesValue g b x (at + 1) ops arms a_number u)
  CallsAt g b x at ops arms formals (to_module n scope k) =
      let s = site_of g b x in
      Alone g arms (IsOfSub s scope formals (FromOutside (blocks_of s) n) × TakesCells s scope formals
      × IsAt g at (enter_instr (module_at (blocks_of s) n).resource (module_number (blocks_of s) n) (block_number g.program scope)) x.line
      × Performs g b x.env (at + 1) ops [] k)
  CallsAt g b x at ops arms formals (to_requeue scope) =
      let s = site_of g b x in
      Alone g arms (AreOver g ops × IsOfSub s scope formals (ByRequeue b) × TakesCells s scope formals
      × IsAt g at (REQ (resource_of s) (block_number g.program scope)) x.line)
  CallsAt g b x at ops arms formals (to_process v k) =
      let s = site_of g b x in
      Alone g arms ((t : Option TypeId) × (n : ℕ) × (i : ℤ) × (below : List ℤ) × IsProcessType s n v t × (n < length (blocks_of s).processes)
      × (formals ≡ (process_at (blocks_of s) n).formals)
      × TakesCells s (process_at (blocks_of s) n).scope formals × (ops ≡ i ∷ below) × IsObject g s v t i
      × IsAt g at (NEW (block_number g.program (process_at (blocks_of s) n).scope)) x.line × Performs g b x.env (at + 1) below [] k)
  CallsAt g b x at ops arms formals (to_entry v entry k) =
      let s = site_of g b x in
      Alone g arms ((t : Option TypeId) × (n : ℕ) × (i : ℤ) × (below : List ℤ) × IsProcessType s n v t × (n < length (blocks_of s).processes)
      × (formals ≡ entry_at (blocks_of s) n entry)
      × (ops ≡ i ∷ below) × IsObject g s v t i
      × IsAt g at (ECALL entry (formals_cells (forms_of s) formals)) x.line × Performs g b x.env (at + 1) below [] k)
