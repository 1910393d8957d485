-- The same at every site whose names are known.
use Rattle.std.proofs.Common.{sym, subst}
use Rattle.pfc_types.specs.Blocks.{State}
use Rattle.pfc_types.specs.rules.Calls.{broken_reads, broken_writes, broken_call}
use Rattle.pfc_types.specs.rules.Statements.{broken_assign, broken_send, broken_receive, broken_requeue}
use Rattle.pfc_types.proofs.Clean.{listed-clean}
use Rattle.pfc_translation.specs.Sites.{Site}
use Rattle.pfc_typed_phrases.specs.Names.{AreKnown}
use Rattle.pfc_typed_statements.specs.Reached.{AreReached, AreCallable}
use Rattle.pfc_typed_statements.specs.Statements.{AssignmentsAreTyped, SendsAreTyped, ReceivesAreTyped, RequeuesAreTyped, ItemsAreWritten, ItemsAreRead}
use Rattle.pfc_typed_statements.specs.Statements.{CallsAreTyped}
use Rattle.pfc_typed_statements.proofs.Messages.{assign_typed, send_typed, receive_typed, requeue_typed}
use Rattle.pfc_typed_statements.proofs.Calls.{call_typed}
use Rattle.pfc_typed_statements.proofs.Items.{writes_typed, reads_typed}

abbrev with_state : Site → State → Site
with_state s state = record s { env = record s.env { state = state } }

abbrev own : Site → Site
own s = with_state s s.program.state

anywhere : (s : Site) (P : Site → Type 0) → AreKnown s → (AreKnown (own s) → P (own s)) → P s
anywhere s P known h = subst (λ (state : State). (AreKnown (with_state s state) → P (with_state s state))) (sym known.state) h known

reached_anywhere : (s : Site) (P : Site → Type 0) → AreKnown s → AreReached s → (AreKnown (own s) → AreReached (own s) → P (own s)) → P s
reached_anywhere s P known reached h =
    subst (λ (state : State). (AreKnown (with_state s state) → AreReached (with_state s state) → P (with_state s state))) (sym known.state) h known reached

pub assignments_typed : (s : Site) → AreKnown s → AreReached s → AssignmentsAreTyped s
assignments_typed s known reached =
    reached_anywhere s AssignmentsAreTyped known reached
    (λ k r d e p h. assign_typed s.program s.block s.env.view s.env.around s.line k r d e p (listed-clean (broken_assign (own s).env d e p) h))

pub sends_typed : (s : Site) → AreKnown s → AreReached s → SendsAreTyped s
sends_typed s known reached =
    reached_anywhere s SendsAreTyped known reached
    (λ k r d e p h. send_typed s.program s.block s.env.view s.env.around s.line k r d e p (listed-clean (broken_send (own s).env d e p) h))

pub receives_typed : (s : Site) → AreKnown s → AreReached s → ReceivesAreTyped s
receives_typed s known reached =
    reached_anywhere s ReceivesAreTyped known reached
    (λ k r d v p h. receive_typed s.program s.block s.env.view s.env.around s.line k r d v p (listed-clean (broken_receive (own s).env d v p) h))

pub requeues_typed : (s : Site) → AreKnown s → AreReached s → RequeuesAreTyped s
requeues_typed s known reached =
    reached_anywhere s RequeuesAreTyped known reached
    (λ k r x args p h. requeue_typed s.program s.block s.env.view s.env.around s.line k r x args p (listed-clean (broken_requeue (own s).env x args p) h))

pub items_written : (s : Site) → AreKnown s → ItemsAreWritten s
items_written s known =
    anywhere s ItemsAreWritten known
    (λ k args h. writes_typed s.program s.block s.env.view s.env.around s.line k args (listed-clean (broken_writes (own s).env args) h))

pub items_read : (s : Site) → AreKnown s → ItemsAreRead s
items_read s known =
    anywhere s ItemsAreRead known
    (λ k args h. reads_typed s.program s.block s.env.view s.env.around s.line k args (listed-clean (broken_reads (own s).env args) h))

callable_anywhere : (s : Site) (P : Site → Type 0) → AreKnown s → AreCallable s → (AreKnown (own s) → AreCallable (own s) → P (own s)) → P s
callable_anywhere s P known callable h =
    subst (λ (state : State). (AreKnown (with_state s state) → AreCallable (with_state s state) → P (with_state s state))) (sym known.state) h known callable

pub calls_typed : (s : Site) → AreKnown s → AreCallable s → CallsAreTyped s
calls_typed s known callable =
    callable_anywhere s CallsAreTyped known callable
    (λ k r d args h. call_typed s.program s.block s.env.view s.env.around s.line k r d args (listed-clean (broken_call (own s).env d args) h))
