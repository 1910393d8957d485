-- Statements whose parts have the shapes that their code needs: those of checked programs.
use Rattle.std.specs.Prelude.{ℕ, ◌+◌, ◌<◌, ◌≡◌, ◌≢◌, true, List, [], ◌∷◌, length, map, Option, Some, None}
use Rattle.pfc_base.specs.declared.places.Place.{Place}
use Rattle.pfc_tree.specs.Symbols.{Text}
use Rattle.pfc_tree.specs.declared.tree.Constant.{Constant}
use Rattle.pfc_tree.specs.declared.tree.Spread.{Spread}
use Rattle.pfc_tree.specs.trees.Exprs.{ExprTree, DesigTree, SelectorTrees, ActualTree, ActualTrees, desig, no_selectors, actual, actual_width, no_actuals}
use Rattle.pfc_tree.specs.trees.Exprs.{more_actuals}
use Rattle.pfc_tree.specs.trees.Stmts.{StmtTree, StmtTrees, ArmTrees, AcceptTree, AltTree, AltTrees, CommTree, empty, null, block, if_then, if_then_else}
use Rattle.pfc_tree.specs.trees.Stmts.{case_of, while_do, repeat_until, repeat_forever, for_do, cobegin, accepting, requeue, select, select_else, assign, send}
use Rattle.pfc_tree.specs.trees.Stmts.{receive, call, no_stmts, more_stmts, body, arm, no_arms, more_arms, accept, accept_do, alt, no_alts, more_alts}
use Rattle.pfc_tree.specs.trees.Stmts.{comm_accept, comm_send, comm_receive, timeout, terminate}
use Rattle.pfc_types.specs.Types.{Forms, semaphore, condition, synchronous, is_simple, form_of, process_form}
use Rattle.pfc_types.specs.Scopes.{meaning_of, meaning_in, scope_at}
use Rattle.pfc_types.specs.Blocks.{Blocks, sub_at, module_at, process_at, entry_at}
use Rattle.pfc_types.specs.rules.Kinds.{variable_meaning}
use Rattle.pfc_types.specs.rules.Constants.{Ordinal, constant_value}
use Rattle.pfc_types.specs.rules.Expressions.{find, as_desig, expr_type, selected}
use Rattle.pfc_types.specs.rules.Calls.{last_field, before_last}
use Rattle.pfc_types.specs.rules.Statements.{scopes_in, arm_scopes, comm_scopes, alt_scopes, alts_scopes}
use Rattle.pfc_types.specs.declared.types.TypeId.{TypeId}
use Rattle.pfc_types.specs.declared.types.TypeForm.TheVariants.{Channel}
use Rattle.pfc_types.specs.declared.heads.Formal.{Formal}
use Rattle.pfc_types.specs.declared.heads.SubSort.{SubSort}
use Rattle.pfc_types.specs.declared.scope.Meaning.{Meaning}
use Rattle.pfc_types.specs.declared.scope.Meaning.TheVariants.{Variable, Sub, Module, Process, Entry, Predeclared}
use Rattle.pfc_semantics.specs.Displays.{Spot, TypedSpot}
use Rattle.pfc_semantics.specs.Predeclared.{Procedure, reader, writer, initial, wait, signal, delay, resume, sleep, no_procedure, procedure_of}
use Rattle.pfc_semantics.specs.Remainders.{Replica, Alternative}
use Rattle.pfc_semantics.specs.Expressions.{spot_of}
use Rattle.pfc_semantics.specs.Alternatives.{entry_number, message_of, receiver_of}
use Rattle.pfc_semantics.specs.Statements.{as_string, item_of, expr_of, behind_first, name_in_process, process_of_type}
use Rattle.pfc_translation.specs.Sites.{Site, at_line, in_accept, context_of, forms_of, blocks_of, type_cells}
use Rattle.pfc_translation.specs.Selects.{message_cells, receiver_cells}
use Rattle.pfc_standing_code.specs.Shapes.{a_number, shape_of, shape_cells}
use Rattle.pfc_standing_code.specs.ValueTypes.{IsValueType}
use Rattle.pfc_standing_code.specs.Typed.{StandsAt, IsDeclared, TakesCells, ByName, FromOutside, ByRequeue, IsSub, HasShape, IsGivenFirst, IsLentFirst}
use Rattle.pfc_standing_code.specs.Typed.{AreArguments, IsPartOf, IsDesig, NameLasting}

-- a variable of a simple type that is named alone
abbrev pub IsSimpleVariable : Site → Spot → Type 0
IsSimpleVariable s v = (u : TypeId) × (is_simple u ≡ true) × IsDeclared s v (Some u)

-- ## Assignments and messages

-- the value fills the cells of the variable, and has no object in it
pub record IsAssignment (s : Site) (d : DesigTree) (e : ExprTree) : Type 0 where
  pub t : TypeId
  pub target : IsDesig s d (Some t)
  pub value : HasShape s e (shape_of t)
  pub cells : type_cells (forms_of s) (expr_type s.env e) ≡ shape_cells (forms_of s) (shape_of t)
  pub values : IsValueType (forms_of s) t

-- a channel of messages of a type
pub record IsChannel (forms : Forms) (t : Option TypeId) (u : TypeId) : Type 0 where
  pub channel : TypeId
  pub typed : t ≡ Some channel
  pub form : form_of forms channel ≡ Some (Channel u)

-- a message of this type takes some operands, and has no object in it; over a channel of `synchronous` there is none
abbrev pub IsCarried : Forms → TypeId → Type 0
IsCarried forms u = (0 < shape_cells forms (shape_of u)) × (u ≢ synchronous) × IsValueType forms u

-- a message of the channel's type, or none over a channel of `synchronous`
abbrev pub IsMessage : Site → Option ExprTree → TypeId → Type 0
IsMessage s None u = u ≡ synchronous
IsMessage s (Some e) u =
    HasShape s e (shape_of u) × (message_cells s (Some e) ≡ shape_cells (forms_of s) (shape_of u)) × IsCarried (forms_of s) u

-- a variable of that type, or none
abbrev pub IsReceiver : Site → Option DesigTree → TypeId → Type 0
IsReceiver s None u = u ≡ synchronous
IsReceiver s (Some d) u =
    IsDesig s d (Some u) × (receiver_cells s (Some d) ≡ shape_cells (forms_of s) (shape_of u)) × IsCarried (forms_of s) u

pub record IsSend (s : Site) (d : DesigTree) (m : Option ExprTree) : Type 0 where
  pub t : Option TypeId
  pub u : TypeId
  pub channel : IsDesig s d t
  pub carries : IsChannel (forms_of s) t u
  pub message : IsMessage s m u

pub record IsReceive (s : Site) (d : DesigTree) (r : Option DesigTree) : Type 0 where
  pub t : Option TypeId
  pub u : TypeId
  pub channel : IsDesig s d t
  pub carries : IsChannel (forms_of s) t u
  pub receiver : IsReceiver s r u

-- ## Output and input

-- an item of a `write`: a string, or a number
abbrev pub IsItem : Site → Option Text → ExprTree → Type 0
IsItem s (Some x) e = Unit {0}
IsItem s None e = HasShape s e a_number

abbrev pub IsWritten : Site → ActualTree → Type 0
IsWritten s (actual e) = IsItem s (as_string e) e
IsWritten s (actual_width e w) = IsItem s (as_string e) e × HasShape s w a_number

abbrev pub AreWritten : Site → ActualTrees → Type 0
AreWritten s no_actuals = Unit {0}
AreWritten s (more_actuals a rest) = IsWritten s a × AreWritten s rest

-- a variable of a simple type that is read
abbrev pub IsRead : Site → Option DesigTree → Type 0
IsRead s None = ⊥
IsRead s (Some d) = (t : TypeId) × (is_simple t ≡ true) × IsDesig s d (Some t)

abbrev pub AreRead : Site → ActualTrees → Type 0
AreRead s no_actuals = Unit {0}
AreRead s (more_actuals a rest) = IsRead s (as_desig (item_of a)) × AreRead s rest

-- ## Predeclared procedures

abbrev pub IsNumber : Site → Option ExprTree → Type 0
IsNumber s None = ⊥
IsNumber s (Some e) = HasShape s e a_number

abbrev pub IsRank : Site → Option ExprTree → Type 0
IsRank s None = Unit {0}
IsRank s (Some e) = HasShape s e a_number

abbrev pub IsProcedure : Site → Procedure → ActualTrees → Type 0
IsProcedure s (reader skip) args = AreRead s args
IsProcedure s (writer newline) args = AreWritten s args
IsProcedure s initial args = IsLentFirst s args (Some semaphore) × IsNumber s (expr_of (behind_first args))
IsProcedure s wait args = IsLentFirst s args (Some semaphore)
IsProcedure s signal args = IsLentFirst s args (Some semaphore)
IsProcedure s delay args = IsLentFirst s args (Some condition) × IsRank s (expr_of (behind_first args))
IsProcedure s resume args = IsLentFirst s args (Some condition)
IsProcedure s sleep args = IsGivenFirst s args
IsProcedure s no_procedure args = Unit {0}

-- ## Calls

-- the type of a process of the n-th declaration
abbrev pub HasProcessForm : Site → ℕ → TypeId → Type 0
HasProcessForm s n t = process_form (form_of (forms_of s) t) ≡ Some n

-- The part is a process of the n-th declaration: it has the type of one, or it is a single process, which has no type, and the variable is declared
-- as that process.
abbrev pub IsProcessType : Site → ℕ → Spot → Option TypeId → Type 0
IsProcessType s n v None = StandsAt s v (Process n)
IsProcessType s n v (Some t) = HasProcessForm s n t

pub record IsActivation (s : Site) (n : ℕ) (v : TypedSpot) (ss : SelectorTrees) (args : ActualTrees) : Type 0 where
  pub t : Option TypeId
  pub called : IsPartOf s v ss t
  pub process : IsProcessType s n v.spot t
  pub among : n < length (blocks_of s).processes
  pub arguments : AreArguments s (process_at (blocks_of s) n).formals args
  pub taken : TakesCells s (process_at (blocks_of s) n).scope (process_at (blocks_of s) n).formals

pub record IsEntryCall (s : Site) (n : ℕ) (entry : ℕ) (v : TypedSpot) (ss : SelectorTrees) (args : ActualTrees) : Type 0 where
  pub t : Option TypeId
  pub called : IsPartOf s v ss t
  pub process : IsProcessType s n v.spot t
  pub among : n < length (blocks_of s).processes
  pub arguments : AreArguments s (entry_at (blocks_of s) n entry) args

-- a name among those of a process is that of an entry
abbrev pub IsEntry : Site → ℕ → TypedSpot → SelectorTrees → Option Meaning → ActualTrees → Type 0
IsEntry s n v ss (Some (Entry e)) args = IsEntryCall s n e v ss args
IsEntry s n v ss m args = ⊥

abbrev pub IsProcess : Site → Option ℕ → TypedSpot → SelectorTrees → ActualTrees → Type 0
IsProcess s None v ss args = ⊥
IsProcess s (Some n) v ss args = IsActivation s n v ss args

abbrev pub IsField : Site → TypedSpot → SelectorTrees → Option ℕ → Text → ActualTrees → Type 0
IsField s v ss None x args = IsProcess s (process_of_type s.env (selected s.env v.t ss)) v ss args
IsField s v ss (Some n) x args = IsEntry s n v (before_last ss) (name_in_process (blocks_of s) n x) args

abbrev pub IsCalledVariable : Site → TypedSpot → SelectorTrees → Option (Text × Place) → ActualTrees → Type 0
IsCalledVariable s v ss None args = IsProcess s (process_of_type s.env (selected s.env v.t ss)) v ss args
IsCalledVariable s v ss (Some x) args = IsField s v ss (process_of_type s.env (selected s.env v.t (before_last ss))) x.0 args

abbrev pub IsCalledProcess : Site → ℕ → TypedSpot → Option (Text × Place) → ActualTrees → Type 0
IsCalledProcess s n v None args = IsActivation s n v no_selectors args
IsCalledProcess s n v (Some x) args = IsEntry s n v no_selectors (name_in_process (blocks_of s) n x.0) args

abbrev pub IsSubCall : Site → (ℕ → SubSort → Type 0) → ℕ → ActualTrees → Type 0
IsSubCall s asked n args = let head = sub_at (blocks_of s) n in IsSub s head 0 asked × AreArguments s head.formals args

-- a name among those of the n-th module is that of a procedure
abbrev pub IsExported : Site → ℕ → Option Meaning → ActualTrees → Type 0
IsExported s n (Some (Sub p)) args = IsSubCall s (FromOutside (blocks_of s) n) p args
IsExported s n m args = ⊥

abbrev pub IsModuleCall : Site → ℕ → Option (Text × Place) → ActualTrees → Type 0
IsModuleCall s n None args = ⊥
IsModuleCall s n (Some x) args = IsExported s n (meaning_in (scope_at (blocks_of s).scopes (module_at (blocks_of s) n).scope) x.0) args

-- a name that is called as a statement; a variable's part has the type of its declaration
abbrev pub IsCalled : Site → Option Meaning → TypedSpot → SelectorTrees → ActualTrees → Type 0
IsCalled s (Some (Predeclared n)) v ss args = IsProcedure s (procedure_of n) args
IsCalled s (Some (Sub n)) v ss args = IsSubCall s ByName n args
IsCalled s (Some (Module n)) v ss args = IsModuleCall s n (last_field ss) args
IsCalled s (Some (Process n)) v ss args = IsCalledProcess s n v (last_field ss) args
IsCalled s (Some (Variable t reference)) v ss args = (v.t ≡ Some t) × IsCalledVariable s v ss (last_field ss) args
IsCalled s m v ss args = ⊥

abbrev pub IsCall : Site → DesigTree → ActualTrees → Type 0
IsCall s (desig x ss p) args = IsCalled s (meaning_of (find s.env x)) (spot_of s.env (find s.env x)) ss args

-- a requeue of a sub, which lends what outlives the activation that it ends
abbrev pub IsSubRequeue : Site → ℕ → ActualTrees → Type 0
IsSubRequeue s n args =
    let head = sub_at (blocks_of s) n in IsSub s head 0 (ByRequeue s.block) × AreArguments s head.formals args × NameLasting s head.formals args

abbrev pub IsRequeue : Site → Option Meaning → ActualTrees → Type 0
IsRequeue s (Some (Sub n)) args = IsSubRequeue s n args
IsRequeue s m args = ⊥

-- ## Statements

-- each label has a value
abbrev pub HaveValues : Site → List Constant → Type 0
HaveValues s [] = Unit {0}
HaveValues s (l ∷ ls) = ((o : Ordinal) × (constant_value s.env.state.blocks.scopes s.env.view l ≡ Some o)) × HaveValues s ls

abbrev pub IsGuard : Site → Option ExprTree → Type 0
IsGuard s None = Unit {0}
IsGuard s (Some e) = HasShape s e a_number

abbrev pub IsSpread : Site → Option Spread → Type 0
IsSpread s None = Unit {0}
IsSpread s (Some r) = IsSimpleVariable s (spot_of s.env (find s.env r.name)).spot

abbrev pub IsReplica : Site → Option Replica → Type 0
IsReplica s None = Unit {0}
IsReplica s (Some r) = IsSimpleVariable s r.at

abbrev pub IsComm : Site → CommTree → Type 0
IsComm s (comm_accept a p) = Unit {0}
IsComm s (comm_send d e p) = IsSend s d (message_of (context_of s) e)
IsComm s (comm_receive d v p) = IsReceive s d (receiver_of (context_of s) v)
IsComm s (timeout e p) = HasShape s e a_number
IsComm s (terminate p) = Unit {0}

-- an alternative up to its decision, of the text or one value of a replicated one
abbrev pub IsAlternative : Site → Alternative → Type 0
IsAlternative s a = IsReplica s a.replica × IsGuard s a.guard × IsComm s a.comm

abbrev pub AreAlternatives : Site → List Alternative → Type 0
AreAlternatives s [] = Unit {0}
AreAlternatives s (a ∷ alts) = IsAlternative s a × AreAlternatives s alts

-- The scope n is that of an accept of this entry, in the block of a process whose own scope is i: its names stand for the parameters of the entry,
-- in their order.
pub record AcceptsEntry (blocks : Blocks) (i entry n : ℕ) : Type 0 where
  pub process : ℕ
  pub among : process < length blocks.processes
  pub own : (process_at blocks process).scope ≡ i
  pub parameters : map (λ y. y.1) (scope_at blocks.scopes n) ≡ map (λ (f : Formal). variable_meaning f.reference f.t) (entry_at blocks process entry)

abbrev mutual
  -- the number is that of the next scope of the text
  pub IsTyped : Site → ℕ → StmtTree → Type 0
  IsTyped s n empty = Unit {0}
  IsTyped s n (null p) = Unit {0}
  IsTyped s n (block (body ss first last) p) = AreTyped s n ss
  IsTyped s n (if_then e t p) = let c = at_line s p.line in HasShape c e a_number × IsTyped c n t
  IsTyped s n (if_then_else e t u p) =
      let c = at_line s p.line in HasShape c e a_number × IsTyped c n t × IsTyped c (n + scopes_in t) u
  IsTyped s n (case_of e arms last p) = let c = at_line s p.line in HasShape c e a_number × AreArmsTyped c n arms
  IsTyped s n (while_do e t p) = let c = at_line s p.line in HasShape c e a_number × IsTyped c n t
  IsTyped s n (repeat_until ss e p) = let c = at_line s p.line in AreTyped c n ss × HasShape c e a_number
  IsTyped s n (repeat_forever ss p) = AreTyped (at_line s p.line) n ss
  IsTyped s n (for_do x a down b t p q) =
      let c = at_line s p.line in
      IsSimpleVariable c (spot_of c.env (find c.env x)).spot × HasShape c a a_number × HasShape c b a_number × IsTyped c n t
  IsTyped s n (cobegin ss last p) = AreTyped s n ss
  IsTyped s n (accepting a p) = IsAcceptTyped (at_line s p.line) n a
  IsTyped s n (requeue x args p) = let c = at_line s p.line in IsRequeue c (meaning_of (find c.env x.0)) args
  IsTyped s n (select pri alts p q) = AreAltsTyped (at_line s p.line) n alts
  IsTyped s n (select_else pri alts ss at p q) =
      let c = at_line s p.line in AreAltsTyped c n alts × AreTyped c (n + alts_scopes alts) ss
  IsTyped s n (assign d e p q) = IsAssignment (at_line s p.line) d e
  IsTyped s n (send d e p q) = let c = at_line s p.line in IsSend c d (message_of (context_of c) e)
  IsTyped s n (receive d v p q) = let c = at_line s p.line in IsReceive c d (receiver_of (context_of c) v)
  IsTyped s n (call d args p) = IsCall (at_line s p.line) d args

  pub AreTyped : Site → ℕ → StmtTrees → Type 0
  AreTyped s n no_stmts = Unit {0}
  AreTyped s n (more_stmts t ts) = IsTyped s n t × AreTyped s (n + scopes_in t) ts

  pub AreArmsTyped : Site → ℕ → ArmTrees → Type 0
  AreArmsTyped s n no_arms = Unit {0}
  AreArmsTyped s n (more_arms (arm ls t) arms) = HaveValues s ls × IsTyped s n t × AreArmsTyped s (n + arm_scopes (arm ls t)) arms

  pub IsAcceptTyped : Site → ℕ → AcceptTree → Type 0
  IsAcceptTyped s n (accept x gs p) = AcceptsEntry (blocks_of s) s.block.scope (entry_number (meaning_of (find s.env x))) n
  IsAcceptTyped s n (accept_do x gs t p) =
      AcceptsEntry (blocks_of s) s.block.scope (entry_number (meaning_of (find s.env x))) n × IsTyped (in_accept s n) (n + 1) t

  pub IsMetTyped : Site → ℕ → CommTree → Type 0
  IsMetTyped s n (comm_accept a p) = IsAcceptTyped s n a
  IsMetTyped s n comm = Unit {0}

  pub IsAltTyped : Site → ℕ → AltTree → Type 0
  IsAltTyped s n (alt spread guard comm ss) =
      IsSpread s spread × IsGuard s guard × IsComm s comm × IsMetTyped s n comm × AreTyped s (n + comm_scopes comm) ss

  pub AreAltsTyped : Site → ℕ → AltTrees → Type 0
  AreAltsTyped s n no_alts = Unit {0}
  AreAltsTyped s n (more_alts a alts) = IsAltTyped s n a × AreAltsTyped s (n + alt_scopes a) alts
