-- Statements that hold no others, in which no static rule is broken.
use Rattle.std.specs.Prelude.{◌≡◌, []}
use Rattle.pfc_base.specs.declared.places.Place.{Place}
use Rattle.pfc_tree.specs.Symbols.{Text}
use Rattle.pfc_tree.specs.trees.Exprs.{ExprTree, DesigTree, ActualTrees}
use Rattle.pfc_types.specs.Faults.{listed}
use Rattle.pfc_types.specs.Scopes.{meaning_of}
use Rattle.pfc_types.specs.rules.Expressions.{find}
use Rattle.pfc_types.specs.rules.Calls.{broken_reads, broken_writes, broken_call}
use Rattle.pfc_types.specs.rules.Statements.{broken_assign, broken_send, broken_receive, broken_requeue}
use Rattle.pfc_semantics.specs.Alternatives.{message_of, receiver_of}
use Rattle.pfc_translation.specs.Sites.{Site, context_of}
use Rattle.pfc_standing_code.specs.TypedStatements.{IsAssignment, IsSend, IsReceive, IsRequeue, AreWritten, AreRead, IsCall}

abbrev pub AssignmentsAreTyped : Site → Type 0
AssignmentsAreTyped s = (d : DesigTree) (e : ExprTree) (p : Place) → listed (broken_assign s.env d e p) ≡ [] → IsAssignment s d e

abbrev pub SendsAreTyped : Site → Type 0
SendsAreTyped s = (d : DesigTree) (e : ExprTree) (p : Place) → listed (broken_send s.env d e p) ≡ [] → IsSend s d (message_of (context_of s) e)

abbrev pub ReceivesAreTyped : Site → Type 0
ReceivesAreTyped s = (d v : DesigTree) (p : Place) → listed (broken_receive s.env d v p) ≡ [] → IsReceive s d (receiver_of (context_of s) v)

abbrev pub RequeuesAreTyped : Site → Type 0
RequeuesAreTyped s =
    (x : Text × Place) (args : ActualTrees) (p : Place) → listed (broken_requeue s.env x args p) ≡ [] → IsRequeue s (meaning_of (find s.env x.0)) args

abbrev pub ItemsAreWritten : Site → Type 0
ItemsAreWritten s = (args : ActualTrees) → listed (broken_writes s.env args) ≡ [] → AreWritten s args

abbrev pub ItemsAreRead : Site → Type 0
ItemsAreRead s = (args : ActualTrees) → listed (broken_reads s.env args) ≡ [] → AreRead s args

abbrev pub CallsAreTyped : Site → Type 0
CallsAreTyped s = (d : DesigTree) (args : ActualTrees) → listed (broken_call s.env d args) ≡ [] → IsCall s d args
