-- The alternatives of a select: they are gone through in the order of the text, before the select decides.
--
-- A replicated alternative stands for one alternative for each of its values, from low to high. Of each alternative comes first the write
-- of its variable, where it is replicated; then its guard; and where that is true or absent, the alternative is open, and its channel, its
-- message, its receiving variable or its seconds are evaluated. Guards are evaluated once.
use Rattle.std.specs.Prelude.{ℕ, zero, suc, ◌+◌, ℤ, pos, ◌+ℤ◌, int_le, int_lt, Bool, if◌then◌else◌, List, [], ◌∷◌, ◌++◌, map, Option, Some, None}
use Rattle.pfc_base.specs.declared.faults.RunFault.TheVariants.{Below}
use Rattle.pfc_tree.specs.declared.tree.Spread.{Spread}
use Rattle.pfc_tree.specs.trees.Exprs.{ExprTree, DesigTree}
use Rattle.pfc_tree.specs.trees.Stmts.{StmtTrees, AcceptTree, AltTrees, CommTree, empty, accept, accept_do, alt, no_alts, more_alts, comm_accept, comm_send}
use Rattle.pfc_tree.specs.trees.Stmts.{comm_receive, timeout, terminate}
use Rattle.pfc_types.specs.Types.{extent}
use Rattle.pfc_types.specs.Scopes.{meaning_of}
use Rattle.pfc_types.specs.rules.Constants.{Ordinal, constant_value}
use Rattle.pfc_types.specs.rules.Expressions.{Env, find, as_desig}
use Rattle.pfc_types.specs.rules.Statements.{names_any, comm_scopes, alt_scopes}
use Rattle.pfc_types.specs.declared.scope.Meaning.{Meaning}
use Rattle.pfc_types.specs.declared.scope.Meaning.TheVariants.{Entry}
use Rattle.pfc_values.specs.Numbers.{is_true}
use Rattle.pfc_semantics.specs.Values.{Value, ordinal, ordinal_of}
use Rattle.pfc_semantics.specs.Displays.{Spot}
use Rattle.pfc_semantics.specs.Remainders.{Context, Replica, Accepting, Offer, Open, Alternative, Selecting, Remainder, Action, to_send, to_receive, to_accept}
use Rattle.pfc_semantics.specs.Remainders.{to_wait, to_end, go_through, open_if, offer_value, offer_wait, offer_to, offer_from, offer_into, writes, decides}
use Rattle.pfc_semantics.specs.Remainders.{faults}
use Rattle.pfc_semantics.specs.Expressions.{spot_of, from_expr, from_desig}

abbrev pub context : Env → ℕ → Context
context env line = record { env = env; line = line }

-- ## Spreads

-- the values from a first one on, so many
abbrev pub replicas_from : Spot → ℕ → ℤ → ℕ → List Replica
replicas_from s line low zero = []
replicas_from s line low (suc n) = record { at = s; value = low; line = line } ∷ replicas_from s line (low +ℤ pos 1) n

-- where the low value is above the high one there is none
abbrev pub replicas_between : Spot → ℕ → ℤ → ℤ → List Replica
replicas_between s line low high = if int_le low high then replicas_from s line low (extent low high) else []

abbrev pub replicas_by : Spot → ℕ → Option Ordinal → Option Ordinal → List Replica
replicas_by s line (Some low) (Some high) = replicas_between s line low.value high.value
replicas_by s line low high = []

abbrev pub replicas : Context → Spread → List Replica
replicas c s =
    replicas_by (spot_of c.env (find c.env s.name)).spot c.line
    (constant_value c.env.state.blocks.scopes c.env.view s.low)
    (constant_value c.env.state.blocks.scopes c.env.view s.high)

abbrev pub alternative : ℕ → Option ExprTree → CommTree → StmtTrees → Option Replica → Alternative
alternative n guard comm ss replica = record { replica = replica; guard = guard; comm = comm; next = n; stmts = ss }

abbrev pub spread_out : Context → ℕ → Option Spread → Option ExprTree → CommTree → StmtTrees → List Alternative
spread_out c n None guard comm ss = alternative n guard comm ss None ∷ []
spread_out c n (Some s) guard comm ss = map (λ r. alternative n guard comm ss (Some r)) (replicas c s)

-- all alternatives of a select, whose next scope of the text has this number
abbrev pub alternatives : Context → ℕ → AltTrees → List Alternative
alternatives c n no_alts = []
alternatives c n (more_alts (alt spread guard comm ss) alts) =
    spread_out c n spread guard comm ss ++ alternatives c (n + alt_scopes (alt spread guard comm ss)) alts

-- ## Accepts and messages

abbrev pub entry_number : Option Meaning → ℕ
entry_number (Some (Entry k)) = k
entry_number m = 0

-- An accept, whose parameters have the scope with this number. One without `do` has an empty statement.
abbrev pub accepting_of : Context → ℕ → AcceptTree → ℕ → Accepting
accepting_of c n (accept x gs p) line = record { entry = entry_number (meaning_of (find c.env x)); scope = n; stmt = empty; line = line }
accepting_of c n (accept_do x gs s p) line = record { entry = entry_number (meaning_of (find c.env x)); scope = n; stmt = s; line = line }

-- the message, and the variable that receives one, unless that is `any`: over a channel of `synchronous` nothing is evaluated or written
abbrev pub message_of : Context → ExprTree → Option ExprTree
message_of c e = if names_any c.env (as_desig e) then None else Some e

abbrev pub receiver_of : Context → DesigTree → Option DesigTree
receiver_of c d = if names_any c.env (Some d) then None else Some d

-- what is sent for `any`
abbrev pub a_signal : Value
a_signal = ordinal (pos 0)

-- ## Going through

-- an open alternative, behind those that were found before
abbrev pub with_open : Alternative → Selecting → Offer → Selecting
with_open a s offer =
    let found : Open = record { offer = offer; replica = a.replica; next = a.next + comm_scopes a.comm; stmts = a.stmts } in
    record s { offered = s.offered ++ found ∷ [] }

-- the seconds of a `timeout`: fault 14 where they are below 0, also where another alternative is matched
abbrev pub from_seconds : Context → Alternative → Selecting → (Selecting → Action) → Value → Action
from_seconds c a s go v = if int_lt (ordinal_of v) (pos 0) then faults c Below else go (with_open a s (to_wait (ordinal_of v)))

abbrev pub from_message : Context → Spot → Option ExprTree → Alternative → List Alternative → Selecting → Remainder → (Selecting → Action) → Action
from_message c channel None a rest s k go = go (with_open a s (to_send channel a_signal))
from_message c channel (Some e) a rest s k go = from_expr c e (offer_value channel a rest s k) (λ v. go (with_open a s (to_send channel v)))

abbrev pub from_receiver : Context → Spot → Option DesigTree → Alternative → List Alternative → Selecting → Remainder → (Selecting → Action) → Action
from_receiver c channel None a rest s k go = go (with_open a s (to_receive channel None))
from_receiver c channel (Some d) a rest s k go =
    from_desig c d (offer_into channel a rest s k) (λ v. go (with_open a s (to_receive channel (Some v.spot))))

-- what an open alternative waits for: the channel comes before the message or the receiving variable
abbrev pub from_comm : Context → CommTree → Alternative → List Alternative → Selecting → Remainder → (Selecting → Action) → Action
from_comm c (comm_accept x p) a rest s k go = go (with_open a s (to_accept (accepting_of c a.next x p.line)))
from_comm c (comm_send d e p) a rest s k go =
    from_desig c d (offer_to (message_of c e) a rest s k) (λ channel. from_message c channel.spot (message_of c e) a rest s k go)
from_comm c (comm_receive d v p) a rest s k go =
    from_desig c d (offer_from (receiver_of c v) a rest s k) (λ channel. from_receiver c channel.spot (receiver_of c v) a rest s k go)
from_comm c (timeout e p) a rest s k go = from_expr c e (offer_wait a rest s k) (from_seconds c a s go)
from_comm c (terminate p) a rest s k go = go (with_open a s to_end)

-- an alternative whose guard is evaluated
abbrev pub from_opened : Context → Alternative → List Alternative → Selecting → Remainder → (Selecting → Action) → Value → Action
from_opened c a rest s k go v = if is_true (ordinal_of v) then from_comm c a.comm a rest s k go else go s

abbrev pub from_guard : Context → Option ExprTree → Alternative → List Alternative → Selecting → Remainder → (Selecting → Action) → Action
from_guard c None a rest s k go = from_comm c a.comm a rest s k go
from_guard c (Some e) a rest s k go = from_expr c e (open_if a rest s k) (from_opened c a rest s k go)

-- a replicated alternative writes its variable before its guard
abbrev pub from_replica : Context → Option Replica → Alternative → List Alternative → Selecting → Remainder → (Selecting → Action) → Action
from_replica c None a rest s k go = from_guard c a.guard a rest s k go
from_replica c (Some r) a rest s k go = writes c r.at (ordinal r.value) (go_through c.line a rest s k)

-- behind the last one the select decides
abbrev pub from_alternatives : Context → List Alternative → Selecting → Remainder → Action
from_alternatives c [] s k = decides c s k
from_alternatives c (a ∷ rest) s k = from_replica c a.replica a rest s k (λ t. from_alternatives c rest t k)

-- nothing is found open yet
abbrev pub select_begun : Bool → Selecting
select_begun pri = record { pri = pri; offered = []; otherwise = None }
