-- What is true of the action that comes next in an alternative or in a statement.
use Rattle.std.proofs.Common.{ℕ, ◌+◌, ℤ, Bool, List, [], ◌∷◌, Option, Some, None, Ok, Err, Result}
use Rattle.pfc_base.specs.declared.faults.RunFault.{RunFault}
use Rattle.pfc_base.specs.declared.places.Place.{Place}
use Rattle.pfc_tree.specs.Symbols.{Text}
use Rattle.pfc_tree.specs.trees.Exprs.{ExprTree, DesigTree, SelectorTrees, ActualTree, ActualTrees, desig, no_selectors, actual, actual_width, no_actuals}
use Rattle.pfc_tree.specs.trees.Exprs.{more_actuals}
use Rattle.pfc_tree.specs.trees.Stmts.{StmtTree, StmtTrees, ArmTrees, CommTree, comm_accept, comm_send, comm_receive, timeout, terminate, empty, null, block}
use Rattle.pfc_tree.specs.trees.Stmts.{if_then, if_then_else, case_of, while_do, repeat_until, repeat_forever, for_do, cobegin, accepting, requeue, select}
use Rattle.pfc_tree.specs.trees.Stmts.{select_else, assign, send, receive, call, no_stmts, more_stmts, body, arm, no_arms, more_arms}
use Rattle.pfc_types.specs.Scopes.{meaning_of, meaning_in, scope_at}
use Rattle.pfc_types.specs.Blocks.{module_at}
use Rattle.pfc_types.specs.rules.Expressions.{Env, find, as_desig, selected}
use Rattle.pfc_types.specs.rules.Calls.{last_field, before_last}
use Rattle.pfc_types.specs.rules.Statements.{scopes_in, arm_scopes, alts_scopes}
use Rattle.pfc_types.specs.declared.scope.Meaning.{Meaning}
use Rattle.pfc_types.specs.declared.scope.Meaning.TheVariants.{Variable, Sub, Module, Process, Entry, Predeclared}
use Rattle.pfc_types.specs.declared.heads.Formal.{Formal}
use Rattle.pfc_semantics.specs.Values.{Value, ordinal_of}
use Rattle.pfc_semantics.specs.Displays.{Spot, TypedSpot}
use Rattle.pfc_semantics.specs.Predeclared.{Procedure, reader, writer, initial, wait, signal, delay, resume, sleep, no_procedure, procedure_of}
use Rattle.pfc_semantics.specs.Remainders.{Context, Replica, Alternative, Count, Selecting, Remainder, Action, writes, turns, prints, inputs, skips, joins}
use Rattle.pfc_semantics.specs.Remainders.{initials, waits, signals, delays, resumes, sleeps, meets, decides, faults}
use Rattle.pfc_semantics.specs.Expressions.{spot_of}
use Rattle.pfc_semantics.specs.Alternatives.{context, alternatives, from_seconds, from_message, from_receiver, from_comm, from_opened, from_guard, from_replica}
use Rattle.pfc_semantics.specs.Alternatives.{from_alternatives, select_begun, message_of, receiver_of}
use Rattle.pfc_semantics.specs.Statements.{as_string, from_piece, from_width, from_string, from_wide_string, from_item, from_writes, item_of, from_input}
use Rattle.pfc_semantics.specs.Statements.{from_reads, expr_of, behind_first, from_initial, from_delay, from_procedure, from_activation, from_entry}
use Rattle.pfc_semantics.specs.Statements.{name_in_process, process_of_type, from_process, from_field, from_called_variable, from_called_process, from_exported}
use Rattle.pfc_semantics.specs.Statements.{from_module, from_called, from_call, from_requeue, from_sent, from_received, from_bounds, from_pass, counting}
use Rattle.pfc_semantics.specs.Statements.{from_until, from_stmt, from_stmts, from_arms}
use Rattle.pfc_kept_scans.proofs.Nexts.{IsOther}
use Rattle.pfc_kept_scans.proofs.Nexts as next

module _ (P : Action → Type 0) (other : (n : Action) → IsOther n → P n) where
  abbrev Goes : (Selecting → Action) → Type 0
  Goes go = (t : Selecting) → P (go t)

  -- ## Alternatives

  pub seconds : (c : Context) (a : Alternative) (s : Selecting) (go : Selecting → Action) → Goes go → (v : Value) → P (from_seconds c a s go v)
  seconds c a s go h v = next.either P other _ _ _ (other (faults c _) tt) (h _)

  pub message : (c : Context) (channel : Spot) (e : Option ExprTree) (a : Alternative) (rest : List Alternative) (s : Selecting) (k : Remainder)
      (go : Selecting → Action) → Goes go → P (from_message c channel e a rest s k go)
  message c channel None a rest s k go h = h _
  message c channel (Some e) a rest s k go h = next.expr P other c e _ _ (λ v. h _)

  pub receiver : (c : Context) (channel : Spot) (d : Option DesigTree) (a : Alternative) (rest : List Alternative) (s : Selecting) (k : Remainder)
      (go : Selecting → Action) → Goes go → P (from_receiver c channel d a rest s k go)
  receiver c channel None a rest s k go h = h _
  receiver c channel (Some d) a rest s k go h = next.designated P other c d _ _ (λ v. h _)

  communication : (c : Context) (comm : CommTree) (a : Alternative) (rest : List Alternative) (s : Selecting) (k : Remainder)
      (go : Selecting → Action) → Goes go → P (from_comm c comm a rest s k go)
  communication c (comm_accept x p) a rest s k go h = h _
  communication c (comm_send d e p) a rest s k go h = next.designated P other c d _ _ (λ ch. message c ch.spot (message_of c e) a rest s k go h)
  communication c (comm_receive d v p) a rest s k go h = next.designated P other c d _ _ (λ ch. receiver c ch.spot (receiver_of c v) a rest s k go h)
  communication c (timeout e p) a rest s k go h = next.expr P other c e _ _ (seconds c a s go h)
  communication c (terminate p) a rest s k go h = h _

  pub opened : (c : Context) (a : Alternative) (rest : List Alternative) (s : Selecting) (k : Remainder) (go : Selecting → Action) → Goes go
      → (v : Value) → P (from_opened c a rest s k go v)
  opened c a rest s k go h v = next.either P other _ _ _ (communication c a.comm a rest s k go h) (h s)

  pub guarded : (c : Context) (e : Option ExprTree) (a : Alternative) (rest : List Alternative) (s : Selecting) (k : Remainder)
      (go : Selecting → Action) → Goes go → P (from_guard c e a rest s k go)
  guarded c None a rest s k go h = communication c a.comm a rest s k go h
  guarded c (Some e) a rest s k go h = next.expr P other c e _ _ (opened c a rest s k go h)

  replicated : (c : Context) (r : Option Replica) (a : Alternative) (rest : List Alternative) (s : Selecting) (k : Remainder)
      (go : Selecting → Action) → Goes go → P (from_replica c r a rest s k go)
  replicated c None a rest s k go h = guarded c a.guard a rest s k go h
  replicated c (Some r) a rest s k go h = other (writes c r.at _ _) tt

  pub all_alternatives : (c : Context) (alts : List Alternative) (s : Selecting) (k : Remainder) → P (from_alternatives c alts s k)
  all_alternatives c [] s k = other (decides c s k) tt
  all_alternatives c (a ∷ rest) s k = replicated c a.replica a rest s k _ (λ t. all_alternatives c rest t k)

  -- ## Output and input

  pub width : (c : Context) (bytes : List ℕ) (k : Remainder) (v : Value) → P (from_width c bytes k v)
  width c bytes k v = piece _
    where
      piece : (r : Result (List ℕ) RunFault) → P (from_piece c k r)
      piece (Ok out) = other (prints c out k) tt
      piece (Err f) = other (faults c f) tt

  item : (c : Context) (a : ActualTree) (k : Remainder) → P (from_item c a k)
  item c (actual e) k = by (as_string e)
    where
      by : (x : Option Text) → P (from_string c x e k)
      by None = next.expr P other c e _ _ (λ v. other (prints c _ k) tt)
      by (Some x) = other (prints c x k) tt
  item c (actual_width e w) k = by (as_string e)
    where
      by : (x : Option Text) → P (from_wide_string c x e w k)
      by None = next.expr P other c e _ _ (λ v. next.expr P other c w _ _ (width c _ k))
      by (Some x) = next.expr P other c w _ _ (width c x k)

  pub written : (c : Context) (args : ActualTrees) (newline : Bool) (k : Remainder) (go : Action) → P go → P (from_writes c args newline k go)
  written c no_actuals newline k go h = next.either P other newline _ _ (other (prints c _ k) tt) h
  written c (more_actuals a rest) newline k go h = item c a _

  an_input : (c : Context) (d : Option DesigTree) (k : Remainder) (go : Action) → P go → P (from_input c d k go)
  an_input c None k go h = h
  an_input c (Some d) k go h = next.designated P other c d _ _ (λ s. other (inputs c _ s.spot k) tt)

  pub read : (c : Context) (args : ActualTrees) (skip : Bool) (k : Remainder) (go : Action) → P go → P (from_reads c args skip k go)
  read c no_actuals skip k go h = next.either P other skip _ _ (other (skips c k) tt) h
  read c (more_actuals a rest) skip k go h = an_input c (as_desig (item_of a)) _ _ (read c rest skip k go h)

  -- ## Calls

  pub delayed : (c : Context) (s : Spot) (e : Option ExprTree) (k : Remainder) → P (from_delay c s e k)
  delayed c s None k = other (delays c s _ k) tt
  delayed c s (Some e) k = next.expr P other c e _ _ (λ n. other (delays c s _ k) tt)

  counted : (c : Context) (args : ActualTrees) (k : Remainder) (e : Option ExprTree) (go : Action) → P go → P (from_initial c args k e go)
  counted c args k None go h = h
  counted c args k (Some e) go h = next.reference P other c args _ _ (λ s. next.expr P other c e _ _ (λ n. other (initials c s.spot _ k) tt))

  procedure : (c : Context) (f : Procedure) (args : ActualTrees) (k : Remainder) (go : Action) → P go → P (from_procedure c f args k go)
  procedure c (reader skip) args k go h = read c args skip k go h
  procedure c (writer newline) args k go h = written c args newline k go h
  procedure c initial args k go h = counted c args k (expr_of (behind_first args)) go h
  procedure c wait args k go h = next.reference P other c args _ _ (λ s. other (waits c s.spot k) tt)
  procedure c signal args k go h = next.reference P other c args _ _ (λ s. other (signals c s.spot k) tt)
  procedure c delay args k go h = next.reference P other c args _ _ (λ s. delayed c s.spot (expr_of (behind_first args)) k)
  procedure c resume args k go h = next.reference P other c args _ _ (λ s. other (resumes c s.spot k) tt)
  procedure c sleep args k go h = next.argument P other c args _ _ (λ n. other (sleeps c _ k) tt)
  procedure c no_procedure args k go h = h

  activation : (c : Context) (s : TypedSpot) (ss : SelectorTrees) (formals : List Formal) (args : ActualTrees) (k : Remainder)
      → P (from_activation c s ss formals args k)
  activation c s ss formals args k = next.selectors P other c s ss _ _ (λ p. next.arguments P other c formals args [] _)

  entry_call : (c : Context) (n : ℕ) (s : TypedSpot) (ss : SelectorTrees) (m : Option Meaning) (args : ActualTrees) (k : Remainder) (go : Action)
      → P go → P (from_entry c n s ss m args k go)
  entry_call c n s ss (Some (Entry e)) args k go h = next.selectors P other c s ss _ _ (λ p. next.arguments P other c _ args [] _)
  entry_call c n s ss m args k go h = h

  process : (c : Context) (s : TypedSpot) (ss : SelectorTrees) (n : Option ℕ) (args : ActualTrees) (k : Remainder) (go : Action) → P go
      → P (from_process c s ss n args k go)
  process c s ss None args k go h = h
  process c s ss (Some n) args k go h = activation c s ss _ args k

  field_called : (c : Context) (s : TypedSpot) (ss : SelectorTrees) (n : Option ℕ) (x : Text) (args : ActualTrees) (k : Remainder) (go : Action)
      → P go → P (from_field c s ss n x args k go)
  field_called c s ss None x args k go h = process c s ss (process_of_type c.env (selected c.env s.t ss)) args k go h
  field_called c s ss (Some n) x args k go h = entry_call c n s (before_last ss) (name_in_process c.env.state.blocks n x) args k go h

  variable_called : (c : Context) (s : TypedSpot) (ss : SelectorTrees) (x : Option (Text × Place)) (args : ActualTrees) (k : Remainder) (go : Action)
      → P go → P (from_called_variable c s ss x args k go)
  variable_called c s ss None args k go h = process c s ss (process_of_type c.env (selected c.env s.t ss)) args k go h
  variable_called c s ss (Some x) args k go h =
      field_called c s ss (process_of_type c.env (selected c.env s.t (before_last ss))) x.0 args k go h

  process_called : (c : Context) (n : ℕ) (s : TypedSpot) (x : Option (Text × Place)) (args : ActualTrees) (k : Remainder) (go : Action) → P go
      → P (from_called_process c n s x args k go)
  process_called c n s None args k go h = activation c s no_selectors _ args k
  process_called c n s (Some x) args k go h = entry_call c n s no_selectors (name_in_process c.env.state.blocks n x.0) args k go h

  exported : (c : Context) (n : ℕ) (m : Option Meaning) (args : ActualTrees) (k : Remainder) (go : Action) → P go
      → P (from_exported c n m args k go)
  exported c n (Some (Sub p)) args k go h = next.arguments P other c _ args [] _
  exported c n m args k go h = h

  module_called : (c : Context) (n : ℕ) (x : Option (Text × Place)) (args : ActualTrees) (k : Remainder) (go : Action) → P go
      → P (from_module c n x args k go)
  module_called c n None args k go h = h
  module_called c n (Some x) args k go h =
      exported c n (meaning_in (scope_at c.env.state.blocks.scopes (module_at c.env.state.blocks n).scope) x.0) args k go h

  called : (c : Context) (m : Option Meaning) (s : TypedSpot) (ss : SelectorTrees) (args : ActualTrees) (k : Remainder) (go : Action) → P go
      → P (from_called c m s ss args k go)
  called c (Some (Predeclared n)) s ss args k go h = procedure c (procedure_of n) args k go h
  called c (Some (Sub n)) s ss args k go h = next.arguments P other c _ args [] _
  called c (Some (Module n)) s ss args k go h = module_called c n (last_field ss) args k go h
  called c (Some (Process n)) s ss args k go h = process_called c n s (last_field ss) args k go h
  called c (Some (Variable t reference)) s ss args k go h = variable_called c s ss (last_field ss) args k go h
  called c m s ss args k go h = h

  a_call : (c : Context) (d : DesigTree) (args : ActualTrees) (k : Remainder) (go : Action) → P go → P (from_call c d args k go)
  a_call c (desig x ss p) args k go h = called c (meaning_of (find c.env x)) (spot_of c.env (find c.env x)) ss args k go h

  requeued : (c : Context) (m : Option Meaning) (args : ActualTrees) (go : Action) → P go → P (from_requeue c m args go)
  requeued c (Some (Sub n)) args go h = next.arguments P other c _ args [] _
  requeued c m args go h = h

  -- ## Communication

  pub sent : (c : Context) (channel : Spot) (e : Option ExprTree) (k : Remainder) → P (from_sent c channel e k)
  sent c channel None k = other (meets c _ k) tt
  sent c channel (Some e) k = next.expr P other c e _ _ (λ v. other (meets c _ k) tt)

  pub received : (c : Context) (channel : Spot) (d : Option DesigTree) (k : Remainder) → P (from_received c channel d k)
  received c channel None k = other (meets c _ k) tt
  received c channel (Some d) k = next.designated P other c d _ _ (λ v. other (meets c _ k) tt)

  -- ## Loops

  pub bounded : (c : Context) (f : Count) (k : Remainder) (go : Action) → P go → P (from_bounds c f k go)
  bounded c f k go h = next.either P other _ _ _ h (other (writes c f.at _ _) tt)

  pub passed : (c : Context) (f : Count) (k : Remainder) (go : Action) → P go → P (from_pass c f k go)
  passed c f k go h = next.either P other _ _ _ h (other (turns c _) tt)

  pub tested : (c : Context) (n : ℕ) (loop : StmtTree) (k : Remainder) (go : Action) → P go → (v : Value) → P (from_until c n loop k go v)
  tested c n loop k go h v = next.either P other _ _ _ h (other (turns c _) tt)

  -- ## Statements

  mutual
    pub stmt : (env : Env) (n : ℕ) (e : StmtTree) (k : Remainder) (go : Action) → P go → P (from_stmt env n e k go)
    stmt env n empty k go h = h
    stmt env n (null p) k go h = h
    stmt env n (block (body ss first last) p) k go h = stmts env n ss k go h
    stmt env n (if_then e s p) k go h = next.expr P other _ e _ _ (λ v. next.either P other _ _ _ (stmt env n s k go h) h)
    stmt env n (if_then_else e s t p) k go h =
        next.expr P other _ e _ _ (λ v. next.either P other _ _ _ (stmt env n s k go h) (stmt env (n + scopes_in s) t k go h))
    stmt env n (case_of e arms last p) k go h = next.expr P other _ e _ _ (λ v. all_arms (context env p.line) n (ordinal_of v) arms k go h)
    stmt env n (while_do e s p) k go h =
        next.expr P other _ e _ _ (λ v. next.either P other _ _ _ (stmt env n s _ _ (other (turns (context env p.line) _) tt)) h)
    stmt env n (repeat_until ss e p) k go h = stmts env n ss _ _ (next.expr P other _ e _ _ (tested (context env p.line) n (repeat_until ss e p) k go h))
    stmt env n (repeat_forever ss p) k go h = stmts env n ss _ _ (other (turns (context env p.line) _) tt)
    stmt env n (for_do x a down b s p q) k go h =
        next.expr P other _ a _ _ (λ first. next.expr P other _ b _ _ (λ last. bounded (context env p.line)
        (counting (context env p.line) n (spot_of env (find env x)).spot first last down s) k go h))
    stmt env n (cobegin ss last p) k go h = stmts env n ss _ _ (other (joins (context env last.line) k) tt)
    stmt env n (accepting a p) k go h = other (meets (context env p.line) _ k) tt
    stmt env n (requeue x args p) k go h = requeued (context env p.line) (meaning_of (find env x.0)) args go h
    stmt env n (select pri alts p q) k go h =
        all_alternatives (context env p.line) (alternatives (context env p.line) n alts) (select_begun pri) k
    stmt env n (select_else pri alts ss at p q) k go h =
        all_alternatives (context env p.line) (alternatives (context env p.line) n alts)
        (record (select_begun pri) { otherwise = Some (record { next = n + alts_scopes alts; stmts = ss }) }) k
    stmt env n (assign d e p q) k go h =
        next.designated P other _ d _ _ (λ s. next.expr P other _ e _ _ (λ v. other (writes (context env p.line) s.spot v k) tt))
    stmt env n (send d e p q) k go h = next.designated P other _ d _ _ (λ ch. sent (context env p.line) ch.spot (message_of (context env p.line) e) k)
    stmt env n (receive d v p q) k go h =
        next.designated P other _ d _ _ (λ ch. received (context env p.line) ch.spot (receiver_of (context env p.line) v) k)
    stmt env n (call d args p) k go h = a_call (context env p.line) d args k go h

    pub stmts : (env : Env) (n : ℕ) (e : StmtTrees) (k : Remainder) (go : Action) → P go → P (from_stmts env n e k go)
    stmts env n no_stmts k go h = h
    stmts env n (more_stmts s ss) k go h = stmt env n s _ _ (stmts env (n + scopes_in s) ss k go h)

    pub all_arms : (c : Context) (n : ℕ) (v : ℤ) (e : ArmTrees) (k : Remainder) (go : Action) → P go → P (from_arms c n v e k go)
    all_arms c n v no_arms k go h = other (faults c _) tt
    all_arms c n v (more_arms (arm ls s) arms) k go h =
        next.either P other _ _ _ (stmt c.env n s k go h) (all_arms c (n + arm_scopes (arm ls s)) v arms k go h)
