-- What it is for the code of a statement to follow its next action.
--
-- Where the code stands, and behind it code that performs what is left, quiet instructions lead to the action that comes next. So it is while no guard of
-- another is tried.
use Rattle.std.specs.Prelude.{ℕ, ◌+◌, ◌≡◌, ℤ, Bool, List, [], length, Some}
use Rattle.pfc_tree.specs.trees.Exprs.{ExprTree, DesigTree, SelectorTrees, ActualTrees}
use Rattle.pfc_types.specs.Blocks.{process_at, entry_at}
use Rattle.pfc_types.specs.declared.scope.Meaning.TheVariants.{Sub, Entry}
use Rattle.pfc_semantics.specs.Displays.{TypedSpot}
use Rattle.pfc_semantics.specs.Predeclared.{Procedure}
use Rattle.pfc_semantics.specs.Programs.{Block}
use Rattle.pfc_semantics.specs.Remainders.{Context, Remainder, Action}
use Rattle.pfc_semantics.specs.Alternatives.{message_of, receiver_of}
use Rattle.pfc_semantics.specs.Statements.{from_assign, from_send, from_receive, from_writes, from_reads, from_called, from_exported, from_requeue}
use Rattle.pfc_semantics.specs.Statements.{from_procedure, from_activation, from_entry_call, from_call}
use Rattle.pfc_translation.specs.Codes.{Code, ◌⨾◌}
use Rattle.pfc_translation.specs.Addresses.{base_code}
use Rattle.pfc_translation.specs.Expressions.{selectors_code}
use Rattle.pfc_translation.specs.Calls.{writes_code, reads_code, procedure_code, sub_code, exported_code, requeue_code, activation_code, entry_code, call_code}
use Rattle.pfc_translation.specs.Selects.{send_code, receive_code}
use Rattle.pfc_translation.specs.Statements.{assign_code}
use Rattle.pfc_standing_code.specs.Settings.{Setting, of_own, AreOver, site_of, Stands}
use Rattle.pfc_standing_code.specs.Typed.{ByName, FromOutside}
use Rattle.pfc_standing_code.specs.TypedStatements.{IsAssignment, IsSend, IsReceive, AreWritten, AreRead, IsProcedure, IsSubCall, IsSubRequeue, IsActivation}
use Rattle.pfc_standing_code.specs.TypedStatements.{IsEntryCall}
use Rattle.pfc_standing_code.specs.TypedStatements.{IsCall}
use Rattle.pfc_standing_code.specs.Words.{IsChecked}
use Rattle.pfc_standing_code.specs.Performs.{Performs}
use Rattle.pfc_standing_code.specs.Following.{Follows}

-- this code stands here, and code that performs a remainder behind it; then the action follows
abbrev pub CodeFollows : Setting → Block → Context → Code → Remainder → Action → Type 0
CodeFollows g b x code k n = (at i : ℕ) (ops : List ℤ) → Stands g at i (length ops) code → Performs g b x.env (at + code.size) ops [] k → Follows g n at ops []

-- the same, where the code may be at its end quietly, with another action behind it
abbrev pub CodeLeads : Setting → Block → Context → Code → Remainder → (Action → Action) → Type 0
CodeLeads g b x code k from =
    (go : Action) (at i : ℕ) (ops : List ℤ) → Stands g at i (length ops) code → Performs g b x.env (at + code.size) ops [] k
    → Follows g go (at + code.size) ops [] → Follows g (from go) at ops []

abbrev pub AssignmentFollows : Setting → Block → Context → Type 0
AssignmentFollows g b x =
    IsChecked g b x.env → g.trial ≡ of_own → (d : DesigTree) (e : ExprTree) (k : Remainder) → IsAssignment (site_of g b x) d e
    → CodeFollows g b x (assign_code (site_of g b x) d e) k (from_assign x d e k)

abbrev pub SendFollows : Setting → Block → Context → Type 0
SendFollows g b x =
    IsChecked g b x.env → g.trial ≡ of_own → (d : DesigTree) (e : ExprTree) (k : Remainder) → IsSend (site_of g b x) d (message_of x e)
    → CodeFollows g b x (send_code (site_of g b x) d e) k (from_send x d e k)

abbrev pub ReceiveFollows : Setting → Block → Context → Type 0
ReceiveFollows g b x =
    IsChecked g b x.env → g.trial ≡ of_own → (d v : DesigTree) (k : Remainder) → IsReceive (site_of g b x) d (receiver_of x v)
    → CodeFollows g b x (receive_code (site_of g b x) d v) k (from_receive x d v k)

abbrev pub WriteFollows : Setting → Block → Context → Type 0
WriteFollows g b x =
    IsChecked g b x.env → g.trial ≡ of_own → (args : ActualTrees) (newline : Bool) (k : Remainder) → AreWritten (site_of g b x) args
    → CodeLeads g b x (writes_code (site_of g b x) args newline) k (λ go. from_writes x args newline k go)

abbrev pub ReadFollows : Setting → Block → Context → Type 0
ReadFollows g b x =
    IsChecked g b x.env → g.trial ≡ of_own → (args : ActualTrees) (skip : Bool) (k : Remainder) → AreRead (site_of g b x) args
    → CodeLeads g b x (reads_code (site_of g b x) args skip) k (λ go. from_reads x args skip k go)

-- the call of a procedure in view
abbrev pub CallFollows : Setting → Block → Context → Type 0
CallFollows g b x =
    IsChecked g b x.env → g.trial ≡ of_own → (q : ℕ) (v : TypedSpot) (ss : SelectorTrees) (args : ActualTrees) (k : Remainder) (go : Action)
    → IsSubCall (site_of g b x) ByName q args
    → CodeFollows g b x (sub_code (site_of g b x) q args) k (from_called x (Some (Sub q)) v ss args k go)

-- the call of an exported procedure from outside its monitor or resource
abbrev pub ModuleCallFollows : Setting → Block → Context → Type 0
ModuleCallFollows g b x =
    IsChecked g b x.env → g.trial ≡ of_own → (m q : ℕ) (args : ActualTrees) (k : Remainder) (go : Action)
    → IsSubCall (site_of g b x) (FromOutside g.program.state.blocks m) q args
    → CodeFollows g b x (exported_code (site_of g b x) m (Some (Sub q)) args) k (from_exported x m (Some (Sub q)) args k go)

abbrev pub RequeueFollows : Setting → Block → Context → Type 0
RequeueFollows g b x =
    IsChecked g b x.env → g.trial ≡ of_own → (q : ℕ) (args : ActualTrees) (go : Action) → IsSubRequeue (site_of g b x) q args
    → (at i : ℕ) (ops : List ℤ) → AreOver g ops → Stands g at i (length ops) (requeue_code (site_of g b x) (Some (Sub q)) args)
    → Follows g (from_requeue x (Some (Sub q)) args go) at ops []

-- every predeclared procedure: input, output, semaphores, conditions and `sleep`
abbrev pub ProcedureFollows : Setting → Block → Context → Type 0
ProcedureFollows g b x =
    IsChecked g b x.env → g.trial ≡ of_own → (q : Procedure) (args : ActualTrees) (k : Remainder) → IsProcedure (site_of g b x) q args
    → CodeLeads g b x (procedure_code (site_of g b x) q args) k (λ go. from_procedure x q args k go)

-- an activation of a process, which may be a part of a variable
abbrev pub ActivationFollows : Setting → Block → Context → Type 0
ActivationFollows g b x =
    IsChecked g b x.env → g.trial ≡ of_own → (q : ℕ) (v : TypedSpot) (ss : SelectorTrees) (args : ActualTrees) (k : Remainder)
    → IsActivation (site_of g b x) q v ss args
    → CodeFollows g b x (activation_code (site_of g b x) q (base_code (site_of g b x) v.spot ⨾ selectors_code (site_of g b x) v.t ss) args) k
    (from_activation x v ss (process_at x.env.state.blocks q).formals args k)

abbrev pub EntryCallFollows : Setting → Block → Context → Type 0
EntryCallFollows g b x =
    IsChecked g b x.env → g.trial ≡ of_own → (q entry : ℕ) (v : TypedSpot) (ss : SelectorTrees) (args : ActualTrees) (k : Remainder)
    → IsEntryCall (site_of g b x) q entry v ss args
    → CodeFollows g b x (entry_code (site_of g b x) q (Some (Entry entry)) (base_code (site_of g b x) v.spot ⨾ selectors_code (site_of g b x) v.t ss) args) k
    (from_entry_call x v ss entry (entry_at x.env.state.blocks q entry) args k)

-- a name that is called as a statement, whatever it is
abbrev pub EveryCallFollows : Setting → Block → Context → Type 0
EveryCallFollows g b x =
    IsChecked g b x.env → g.trial ≡ of_own → (d : DesigTree) (args : ActualTrees) (k : Remainder) → IsCall (site_of g b x) d args
    → CodeLeads g b x (call_code (site_of g b x) d args) k (λ go. from_call x d args k go)
