-- Statements: the action that comes next in one.
--
-- Each function is given the phrase, what is left behind it, and what happens where it comes to its end quietly: `if`, `case`,
-- sequence, `null` and the empty statement are quiet. Behind the last statement of a list nothing is kept.
use Rattle.std.specs.Prelude.{ℕ, ◌+◌, ℤ, pos, ◌+ℤ◌, ◌-ℤ◌, int_lt, Bool, true, false, ◌||◌, if◌then◌else◌, List, [], ◌∷◌, Option, Some, None, Result, Ok, Err}
use Rattle.std.specs.Ordering.{int_eq}
use Rattle.pfc_base.specs.declared.places.Place.{Place}
use Rattle.pfc_base.specs.declared.faults.RunFault.{RunFault}
use Rattle.pfc_base.specs.declared.faults.RunFault.TheVariants.{Case}
use Rattle.pfc_tree.specs.Symbols.{Text}
use Rattle.pfc_tree.specs.declared.tree.Constant.{Constant}
use Rattle.pfc_tree.specs.trees.Exprs.{ExprTree, FactorTree, DesigTree, SelectorTrees, ActualTree, ActualTrees, plain, sum, no_summands, product}
use Rattle.pfc_tree.specs.trees.Exprs.{no_multipliers, paren, applied as used, desig, no_selectors, actual, actual_width, no_actuals, more_actuals}
use Rattle.pfc_tree.specs.trees.Stmts.{StmtTree, StmtTrees, ArmTrees, empty, null, block, if_then, if_then_else, case_of, while_do, repeat_until}
use Rattle.pfc_tree.specs.trees.Stmts.{repeat_forever, for_do, cobegin, accepting, requeue, select, select_else, assign, send, receive, call, no_stmts}
use Rattle.pfc_tree.specs.trees.Stmts.{more_stmts, body, arm, no_arms, more_arms}
use Rattle.pfc_types.specs.Types.{is_simple, process_form, form_of}
use Rattle.pfc_types.specs.Scopes.{meaning_of, meaning_in, scope_at}
use Rattle.pfc_types.specs.Blocks.{Blocks, sub_at, module_at, process_at, entry_at}
use Rattle.pfc_types.specs.rules.Constants.{Ordinal, constant_value, is_char}
use Rattle.pfc_types.specs.rules.Expressions.{Env, find, as_desig, as_literal, expr_type, desig_type, selected}
use Rattle.pfc_types.specs.rules.Calls.{last_field, before_last}
use Rattle.pfc_types.specs.rules.Statements.{scopes_in, arm_scopes, alts_scopes}
use Rattle.pfc_types.specs.declared.types.TypeId.{TypeId}
use Rattle.pfc_types.specs.declared.scope.Meaning.{Meaning}
use Rattle.pfc_types.specs.declared.scope.Meaning.TheVariants.{Variable, Sub, Module, Process, Entry, Predeclared}
use Rattle.pfc_types.specs.declared.heads.Formal.{Formal}
use Rattle.pfc_values.specs.Numbers.{is_true}
use Rattle.pfc_values.specs.Pieces.{shown, padded}
use Rattle.pfc_semantics.specs.Values.{Value, ordinal, ordinal_of}
use Rattle.pfc_semantics.specs.Displays.{Spot, TypedSpot}
use Rattle.pfc_semantics.specs.Operators.{simple_of}
use Rattle.pfc_semantics.specs.Predeclared.{Procedure, reader, writer, initial, wait, signal, delay, resume, sleep, no_procedure, procedure_of}
use Rattle.pfc_semantics.specs.Remainders.{Context, Count, Offer, Open, Otherwise, Remainder, Action, to_send, to_receive, to_accept, perform, turn, until}
use Rattle.pfc_semantics.specs.Remainders.{behind_pass, next_pass, write_on, read_on, at_coend, store_at, choose, choose_arm, while_true, until_true}
use Rattle.pfc_semantics.specs.Remainders.{count_from, count_to, show, show_wide, pad, set_count, delay_with, sleep_for, send_on, assign_to, input_to}
use Rattle.pfc_semantics.specs.Remainders.{activate_with, enter_with, initial_to, wait_at, signal_at, delay_at, resume_at, send_to, receive_from, receive_into}
use Rattle.pfc_semantics.specs.Remainders.{to_procedure, to_module, to_requeue, to_process, to_entry, writes, turns, prints, inputs, skips, joins, initials}
use Rattle.pfc_semantics.specs.Remainders.{waits, signals, delays, resumes, sleeps, meets, faults}
use Rattle.pfc_semantics.specs.Expressions.{spot_of, from_expr, from_desig, from_args, from_reference, from_argument, from_selectors}
use Rattle.pfc_semantics.specs.Alternatives.{context, alternatives, from_alternatives, select_begun, accepting_of, message_of, receiver_of, a_signal}

-- behind the last statement of a list nothing is left, so a remainder does not grow with the turns of a loop
abbrev pub behind : ℕ → StmtTrees → Remainder → Remainder
behind n no_stmts k = k
behind n (more_stmts s ss) k = perform n (more_stmts s ss) k

-- ## Assignments

-- the variable that an expression is, perhaps in parentheses
abbrev mutual
  pub variable_in : ExprTree → Option DesigTree
  variable_in (plain (sum None (product f no_multipliers) no_summands) p) = variable_as f
  variable_in e = None

  variable_as : FactorTree → Option DesigTree
  variable_as (used d no_actuals p) = Some d
  variable_as (paren e p) = variable_in e
  variable_as f = None

abbrev pub has_simple_type : Option TypeId → Bool
has_simple_type None = true
has_simple_type (Some t) = is_simple t

-- `v := e`: the variable before the value. A whole array or record is a value as any other.
abbrev pub from_assign : Context → DesigTree → ExprTree → Remainder → Action
from_assign c d e k = from_desig c d (assign_to e k) (λ s. from_expr c e (store_at s.spot k) (λ v. writes c s.spot v k))

-- ## Output

-- a string is a literal of length other than 1
abbrev pub string_in : Option Text → Option Text
string_in None = None
string_in (Some x) = if is_char x then None else Some x

abbrev pub as_string : ExprTree → Option Text
as_string e = string_in (as_literal e)

-- an output piece, or the fault of its width
abbrev pub from_piece : Context → Remainder → Result (List ℕ) RunFault → Action
from_piece c k (Ok bytes) = prints c bytes k
from_piece c k (Err f) = faults c f

-- the bytes of an item with a width
abbrev pub from_width : Context → List ℕ → Remainder → Value → Action
from_width c bytes k w = from_piece c k (padded (ordinal_of w) bytes)

abbrev pub shown_as : Option TypeId → Value → List ℕ
shown_as t v = shown (simple_of t) (ordinal_of v)

abbrev pub from_shown : Context → ExprTree → Remainder → Action
from_shown c e k = let t = expr_type c.env e in from_expr c e (show t k) (λ v. prints c (shown_as t v) k)

-- the value comes before its width
abbrev pub from_wide : Context → ExprTree → ExprTree → Remainder → Action
from_wide c e w k =
    let t = expr_type c.env e in
    from_expr c e (show_wide t w k) (λ v. from_expr c w (pad (shown_as t v) k) (from_width c (shown_as t v) k))

abbrev pub from_string : Context → Option Text → ExprTree → Remainder → Action
from_string c None e k = from_shown c e k
from_string c (Some x) e k = prints c x k

abbrev pub from_wide_string : Context → Option Text → ExprTree → ExprTree → Remainder → Action
from_wide_string c None e w k = from_wide c e w k
from_wide_string c (Some x) e w k = from_expr c w (pad x k) (from_width c x k)

-- one item: an output piece, and one action, also where it is empty
abbrev pub from_item : Context → ActualTree → Remainder → Action
from_item c (actual e) k = from_string c (as_string e) e k
from_item c (actual_width e w) k = from_wide_string c (as_string e) e w k

-- the items of a `write`; a `writeln` has a newline behind them
abbrev pub from_writes : Context → ActualTrees → Bool → Remainder → Action → Action
from_writes c no_actuals newline k go = if newline then prints c (10 ∷ []) k else go
from_writes c (more_actuals a rest) newline k go = from_item c a (write_on c.line rest newline k)

-- ## Input

abbrev pub item_of : ActualTree → ExprTree
item_of (actual e) = e
item_of (actual_width e w) = e

-- one variable: an input item, which is written to it in the same action
abbrev pub from_input : Context → Option DesigTree → Remainder → Action → Action
from_input c None k go = go
from_input c (Some d) k go = let t = desig_type c.env d in from_desig c d (input_to t k) (λ s. inputs c t s.spot k)

-- the variables of a `read`; a `readln` skips the line behind them
abbrev pub from_reads : Context → ActualTrees → Bool → Remainder → Action → Action
from_reads c no_actuals skip k go = if skip then skips c k else go
from_reads c (more_actuals a rest) skip k go =
    from_input c (as_desig (item_of a)) (read_on c.line rest skip k) (from_reads c rest skip k go)

-- ## Predeclared procedures

abbrev pub expr_of : ActualTrees → Option ExprTree
expr_of no_actuals = None
expr_of (more_actuals a rest) = Some (item_of a)

abbrev pub behind_first : ActualTrees → ActualTrees
behind_first no_actuals = no_actuals
behind_first (more_actuals a rest) = rest

-- `initial(s, n)`: the semaphore before its count
abbrev pub from_initial : Context → ActualTrees → Remainder → Option ExprTree → Action → Action
from_initial c args k None go = go
from_initial c args k (Some e) go =
    from_reference c args (initial_to e k) (λ s. from_expr c e (set_count s.spot k) (λ n. initials c s.spot (ordinal_of n) k))

-- `delay(c)` has the rank 0; in `delay(c, n)` the condition comes before its rank
abbrev pub from_delay : Context → Spot → Option ExprTree → Remainder → Action
from_delay c s None k = delays c s (pos 0) k
from_delay c s (Some e) k = from_expr c e (delay_with s k) (λ n. delays c s (ordinal_of n) k)

abbrev pub from_procedure : Context → Procedure → ActualTrees → Remainder → Action → Action
from_procedure c (reader skip) args k go = from_reads c args skip k go
from_procedure c (writer newline) args k go = from_writes c args newline k go
from_procedure c initial args k go = from_initial c args k (expr_of (behind_first args)) go
from_procedure c wait args k go = from_reference c args (wait_at k) (λ s. waits c s.spot k)
from_procedure c signal args k go = from_reference c args (signal_at k) (λ s. signals c s.spot k)
from_procedure c delay args k go =
    let rank = expr_of (behind_first args) in from_reference c args (delay_at rank k) (λ s. from_delay c s.spot rank k)
from_procedure c resume args k go = from_reference c args (resume_at k) (λ s. resumes c s.spot k)
from_procedure c sleep args k go = from_argument c args (sleep_for k) (λ n. sleeps c (ordinal_of n) k)
from_procedure c no_procedure args k go = go

-- ## Calls

-- the process comes before the arguments
abbrev pub from_activation : Context → TypedSpot → SelectorTrees → List Formal → ActualTrees → Remainder → Action
from_activation c s ss formals args k =
    from_selectors c s ss (activate_with formals args k) (λ p. from_args c formals args [] (to_process p.spot k))

abbrev pub from_entry_call : Context → TypedSpot → SelectorTrees → ℕ → List Formal → ActualTrees → Remainder → Action
from_entry_call c s ss entry formals args k =
    from_selectors c s ss (enter_with entry formals args k) (λ p. from_args c formals args [] (to_entry p.spot entry k))

-- a process of the n-th declaration, whose entry has this name
abbrev pub from_entry : Context → ℕ → TypedSpot → SelectorTrees → Option Meaning → ActualTrees → Remainder → Action → Action
from_entry c n s ss (Some (Entry entry)) args k go = from_entry_call c s ss entry (entry_at c.env.state.blocks n entry) args k
from_entry c n s ss m args k go = go

abbrev pub name_in_process : Blocks → ℕ → Text → Option Meaning
name_in_process b n x = meaning_in (scope_at b.scopes (process_at b n).scope) x

abbrev pub process_of_type : Env → Option TypeId → Option ℕ
process_of_type env None = None
process_of_type env (Some t) = process_form (form_of env.state.forms t)

-- `d.e (..)` calls the entry e where d is a process; else the whole is a process that is activated, as any variable without `.` behind it
abbrev pub from_process : Context → TypedSpot → SelectorTrees → Option ℕ → ActualTrees → Remainder → Action → Action
from_process c s ss None args k go = go
from_process c s ss (Some n) args k go = from_activation c s ss (process_at c.env.state.blocks n).formals args k

abbrev pub from_field : Context → TypedSpot → SelectorTrees → Option ℕ → Text → ActualTrees → Remainder → Action → Action
from_field c s ss None x args k go = from_process c s ss (process_of_type c.env (selected c.env s.t ss)) args k go
from_field c s ss (Some n) x args k go = from_entry c n s (before_last ss) (name_in_process c.env.state.blocks n x) args k go

abbrev pub from_called_variable : Context → TypedSpot → SelectorTrees → Option (Text × Place) → ActualTrees → Remainder → Action → Action
from_called_variable c s ss None args k go = from_process c s ss (process_of_type c.env (selected c.env s.t ss)) args k go
from_called_variable c s ss (Some x) args k go = from_field c s ss (process_of_type c.env (selected c.env s.t (before_last ss))) x.0 args k go

-- a single process is activated by its name, and its entry is called behind `.`
abbrev pub from_called_process : Context → ℕ → TypedSpot → Option (Text × Place) → ActualTrees → Remainder → Action → Action
from_called_process c n s None args k go = from_activation c s no_selectors (process_at c.env.state.blocks n).formals args k
from_called_process c n s (Some x) args k go = from_entry c n s no_selectors (name_in_process c.env.state.blocks n x.0) args k go

-- `m.p (..)` calls an exported procedure of the module
abbrev pub from_exported : Context → ℕ → Option Meaning → ActualTrees → Remainder → Action → Action
from_exported c n (Some (Sub p)) args k go =
    let head = sub_at c.env.state.blocks p in from_args c head.formals args [] (to_module n head.scope k)
from_exported c n m args k go = go

abbrev pub from_module : Context → ℕ → Option (Text × Place) → ActualTrees → Remainder → Action → Action
from_module c n None args k go = go
from_module c n (Some x) args k go =
    let b = c.env.state.blocks in from_exported c n (meaning_in (scope_at b.scopes (module_at b n).scope) x.0) args k go

-- a name that is called as a statement, with its selectors
abbrev pub from_called : Context → Option Meaning → TypedSpot → SelectorTrees → ActualTrees → Remainder → Action → Action
from_called c (Some (Predeclared n)) s ss args k go = from_procedure c (procedure_of n) args k go
from_called c (Some (Sub n)) s ss args k go =
    let head = sub_at c.env.state.blocks n in from_args c head.formals args [] (to_procedure head.scope k)
from_called c (Some (Module n)) s ss args k go = from_module c n (last_field ss) args k go
from_called c (Some (Process n)) s ss args k go = from_called_process c n s (last_field ss) args k go
from_called c (Some (Variable t reference)) s ss args k go = from_called_variable c s ss (last_field ss) args k go
from_called c m s ss args k go = go

abbrev pub from_call : Context → DesigTree → ActualTrees → Remainder → Action → Action
from_call c (desig x ss p) args k go = let found = find c.env x in from_called c (meaning_of found) (spot_of c.env found) ss args k go

-- `requeue q (..)`: its arguments are evaluated first
abbrev pub from_requeue : Context → Option Meaning → ActualTrees → Action → Action
from_requeue c (Some (Sub n)) args go =
    let head = sub_at c.env.state.blocks n in from_args c head.formals args [] (to_requeue head.scope)
from_requeue c m args go = go

-- ## Communication

-- a plain `!`, `?` or `accept` is an open alternative without statements
abbrev pub plain_open : Offer → Open
plain_open offer = record { offer = offer; replica = None; next = 0; stmts = no_stmts }

-- `c ! e`: the channel before the message
abbrev pub from_sent : Context → Spot → Option ExprTree → Remainder → Action
from_sent c channel None k = meets c (plain_open (to_send channel a_signal)) k
from_sent c channel (Some e) k = from_expr c e (send_on channel k) (λ v. meets c (plain_open (to_send channel v)) k)

abbrev pub from_send : Context → DesigTree → ExprTree → Remainder → Action
from_send c d e k = from_desig c d (send_to (message_of c e) k) (λ channel. from_sent c channel.spot (message_of c e) k)

-- `c ? v`: the channel before the variable
abbrev pub from_received : Context → Spot → Option DesigTree → Remainder → Action
from_received c channel None k = meets c (plain_open (to_receive channel None)) k
from_received c channel (Some d) k = from_desig c d (receive_into channel k) (λ v. meets c (plain_open (to_receive channel (Some v.spot))) k)

abbrev pub from_receive : Context → DesigTree → DesigTree → Remainder → Action
from_receive c d v k = from_desig c d (receive_from (receiver_of c v) k) (λ channel. from_received c channel.spot (receiver_of c v) k)

-- ## For

-- the first value is past the last
abbrev pub is_past : Bool → ℤ → ℤ → Bool
is_past down a b = if down then int_lt a b else int_lt b a

abbrev pub next_kept : Bool → ℤ → ℤ
next_kept down n = if down then n -ℤ pos 1 else n +ℤ pos 1

abbrev pub counting : Context → ℕ → Spot → Value → Value → Bool → StmtTree → Count
counting c n s a b down pass =
    record { line = c.line; next = n; at = s; kept = ordinal_of a; last = ordinal_of b; down = down; pass = pass }

abbrev pub next_count : Count → Count
next_count f = record f { kept = next_kept f.down f.kept }

-- the kept value is written, and then the statement is performed
abbrev pub begin_pass : Context → Count → Remainder → Action
begin_pass c f k = writes c f.at (ordinal f.kept) (perform f.next (more_stmts f.pass no_stmts) (behind_pass f k))

-- both bounds are evaluated: nothing, where the first is past the last; else a first pass
abbrev pub from_bounds : Context → Count → Remainder → Action → Action
from_bounds c f k go = if is_past f.down f.kept f.last then go else begin_pass c f k

-- behind its statement: nothing more where the kept value is the last, else a turn to the next value. What the statement assigns to
-- the variable does not change the count.
abbrev pub from_pass : Context → Count → Remainder → Action → Action
from_pass c f k go = if int_eq f.kept f.last then go else turns c (next_pass (next_count f) k)

-- ## Loops

abbrev pub again : ℕ → StmtTree → Remainder → Remainder
again n s k = perform n (more_stmts s no_stmts) k

-- behind the test of a `repeat`, which belongs to it and has its line
abbrev pub from_until : Context → ℕ → StmtTree → Remainder → Action → Value → Action
from_until c n loop k go v = if is_true (ordinal_of v) then go else turns c (again n loop k)

-- ## Case

abbrev pub is_ordinal : ℤ → Option Ordinal → Bool
is_ordinal n None = false
is_ordinal n (Some o) = int_eq o.value n

abbrev pub is_label : Env → ℤ → Constant → Bool
is_label env n l = is_ordinal n (constant_value env.state.blocks.scopes env.view l)

abbrev pub are_labels : Env → ℤ → List Constant → Bool
are_labels env n [] = false
are_labels env n (l ∷ ls) = is_label env n l || are_labels env n ls

-- ## Statements

-- The next scope of the text has the number n: an accept knows the scope of its parameters by it.
abbrev mutual
  pub from_stmt : Env → ℕ → StmtTree → Remainder → Action → Action
  from_stmt env n empty k go = go
  from_stmt env n (null p) k go = go
  from_stmt env n (block (body ss first last) p) k go = from_stmts env n ss k go
  from_stmt env n (if_then e s p) k go =
      from_expr (context env p.line) e (choose n s empty k) (λ v. if is_true (ordinal_of v) then from_stmt env n s k go else go)
  from_stmt env n (if_then_else e s t p) k go =
      from_expr (context env p.line) e (choose n s t k)
      (λ v. if is_true (ordinal_of v) then from_stmt env n s k go else from_stmt env (n + scopes_in s) t k go)
  from_stmt env n (case_of e arms last p) k go =
      from_expr (context env p.line) e (choose_arm n arms k) (λ v. from_arms (context env p.line) n (ordinal_of v) arms k go)
  -- `while e do s` is `if e then begin s; the way back end`
  from_stmt env n (while_do e s p) k go =
      from_expr (context env p.line) e (while_true n e s p k)
      (λ v. if is_true (ordinal_of v) then from_stmt env n s (turn n (while_do e s p) k) (turns (context env p.line) (again n (while_do e s p) k)) else go)
  from_stmt env n (repeat_until ss e p) k go =
      from_stmts env n ss (until n ss e p k)
      (from_expr (context env p.line) e (until_true n ss e p k) (from_until (context env p.line) n (repeat_until ss e p) k go))
  from_stmt env n (repeat_forever ss p) k go =
      from_stmts env n ss (turn n (repeat_forever ss p) k) (turns (context env p.line) (again n (repeat_forever ss p) k))
  -- both bounds are evaluated once, and kept
  from_stmt env n (for_do x a down b s p q) k go =
      let c = context env p.line in
      let v = (spot_of env (find env x)).spot in
      from_expr c a (count_from n v down b s k)
      (λ from. from_expr c b (count_to n v (ordinal_of from) down s k) (λ last. from_bounds c (counting c n v from last down s) k go))
  from_stmt env n (cobegin ss last p) k go = from_stmts env n ss (at_coend last.line k) (joins (context env last.line) k)
  from_stmt env n (accepting a p) k go = let c = context env p.line in meets c (plain_open (to_accept (accepting_of c n a p.line))) k
  from_stmt env n (requeue x args p) k go = from_requeue (context env p.line) (meaning_of (find env x.0)) args go
  from_stmt env n (select pri alts p q) k go =
      let c = context env p.line in from_alternatives c (alternatives c n alts) (select_begun pri) k
  from_stmt env n (select_else pri alts ss at p q) k go =
      let c = context env p.line in
      let otherwise : Otherwise = record { next = n + alts_scopes alts; stmts = ss } in
      from_alternatives c (alternatives c n alts) (record (select_begun pri) { otherwise = Some otherwise }) k
  from_stmt env n (assign d e p q) k go = from_assign (context env p.line) d e k
  from_stmt env n (send d e p q) k go = from_send (context env p.line) d e k
  from_stmt env n (receive d v p q) k go = from_receive (context env p.line) d v k
  from_stmt env n (call d args p) k go = from_call (context env p.line) d args k go

  pub from_stmts : Env → ℕ → StmtTrees → Remainder → Action → Action
  from_stmts env n no_stmts k go = go
  from_stmts env n (more_stmts s ss) k go = from_stmt env n s (behind (n + scopes_in s) ss k) (from_stmts env (n + scopes_in s) ss k go)

  -- the arm that has the value among its labels; fault 5 where none has
  pub from_arms : Context → ℕ → ℤ → ArmTrees → Remainder → Action → Action
  from_arms c n v no_arms k go = faults c Case
  from_arms c n v (more_arms (arm ls s) arms) k go =
      if are_labels c.env v ls then from_stmt c.env n s k go else from_arms c (n + arm_scopes (arm ls s)) v arms k go
