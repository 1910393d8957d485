-- What comes while a select is gone through, by the alternative at hand, those behind it, and what was found open before.
use Rattle.std.specs.Prelude.{ℕ, ◌+◌, ◌≤◌, List, [], ◌∷◌, map, Option, Some, None}
use Rattle.std.specs.Vec.{vec_len, vec_capacity}
use Rattle.pfc_tree.specs.declared.tree.Spread.{Spread}
use Rattle.pfc_tree.specs.trees.Exprs.{ExprTree, DesigTree}
use Rattle.pfc_tree.specs.trees.Stmts.{AltTree, CommTree, alt}
use Rattle.pfc_types.specs.rules.Statements.{comm_scopes}
use Rattle.pfc_semantics.specs.Remainders as remainders
use Rattle.pfc_semantics.specs.Remainders.{Context, Action, offer_to, offer_from, offer_wait}
use Rattle.pfc_semantics.specs.Expressions.{from_expr, from_desig}
use Rattle.pfc_semantics.specs.Alternatives.{replicas, alternative, with_open, from_alternatives, from_guard, from_comm, from_message, from_receiver}
use Rattle.pfc_semantics.specs.Alternatives.{from_seconds, message_of, receiver_of}
use Rattle.pfc_pending.specs.Selects.{alternative_view, rest_view, select_view, guard_of, comm_of, behind_of}
use Rattle.pfc_pending.specs.Waiting.{Waiting, remainder_of}
use Rattle.pfc_pending.specs.declared.select.Alternative.{Alternative}
use Rattle.pfc_pending.specs.declared.select.Choosing.{Choosing}

-- ## All alternatives

abbrev pub alternatives_view : List Alternative → List remainders.Alternative
alternatives_view all = map alternative_view all

abbrev pub spread_of : AltTree → Option Spread
spread_of (alt spread guard comm ss) = spread

-- an alternative at one value of its replica
abbrev pub with_replica : remainders.Alternative → remainders.Replica → remainders.Alternative
with_replica a r = record a { replica = Some r }

-- those for which one with this spread stands: itself, or one for each value
abbrev pub spread_by : Context → remainders.Alternative → Option Spread → List remainders.Alternative
spread_by c a None = a ∷ []
spread_by c a (Some s) = map (with_replica a) (replicas c s)

-- those for which one of the text stands, before which the next scope has the number n
abbrev pub spread_alt : Context → ℕ → AltTree → List remainders.Alternative
spread_alt c n tree = spread_by c (alternative n (guard_of tree) (comm_of tree) (behind_of tree) None) (spread_of tree)

-- ## Going through

-- on with the alternatives behind, the one at hand being open
abbrev pub open_ahead : Context → Waiting → Choosing → remainders.Offer → Action
open_ahead c w x offer = from_alternatives c (rest_view x) (with_open (alternative_view x.current) (select_view x.select) offer) (remainder_of w)

-- the alternative at hand, with this guard
abbrev pub guard_ahead : Context → Waiting → Choosing → Option ExprTree → Action
guard_ahead c w x guard =
    from_guard c guard (alternative_view x.current) (rest_view x) (select_view x.select) (remainder_of w)
    (λ t. from_alternatives c (rest_view x) t (remainder_of w))

-- the alternative at hand where it is open, when it waits for this
abbrev pub comm_ahead : Context → Waiting → Choosing → CommTree → Action
comm_ahead c w x comm =
    from_comm c comm (alternative_view x.current) (rest_view x) (select_view x.select) (remainder_of w)
    (λ t. from_alternatives c (rest_view x) t (remainder_of w))

-- of these, a message: its channel comes first
abbrev pub send_ahead : Context → Waiting → Choosing → DesigTree → ExprTree → Action
send_ahead c w x d e =
    from_desig c d (offer_to (message_of c e) (alternative_view x.current) (rest_view x) (select_view x.select) (remainder_of w))
    (λ channel. from_message c channel.spot (message_of c e) (alternative_view x.current) (rest_view x) (select_view x.select) (remainder_of w)
    (λ t. from_alternatives c (rest_view x) t (remainder_of w)))

-- a message that is received
abbrev pub receive_ahead : Context → Waiting → Choosing → DesigTree → DesigTree → Action
receive_ahead c w x d v =
    from_desig c d (offer_from (receiver_of c v) (alternative_view x.current) (rest_view x) (select_view x.select) (remainder_of w))
    (λ channel. from_receiver c channel.spot (receiver_of c v) (alternative_view x.current) (rest_view x) (select_view x.select) (remainder_of w)
    (λ t. from_alternatives c (rest_view x) t (remainder_of w)))

-- some seconds
abbrev pub timeout_ahead : Context → Waiting → Choosing → ExprTree → Action
timeout_ahead c w x e =
    from_expr c e (offer_wait (alternative_view x.current) (rest_view x) (select_view x.select) (remainder_of w))
    (from_seconds c (alternative_view x.current) (select_view x.select) (λ t. from_alternatives c (rest_view x) t (remainder_of w)))

-- the number of the next scope in the statements of the alternative at hand
abbrev pub next_of : Choosing → ℕ
next_of x = (alternative_view x.current).next + comm_scopes (alternative_view x.current).comm

-- there is room for one open alternative more
abbrev pub HasRoom : Choosing → Type 0
HasRoom x = vec_len x.select.offered + 1 ≤ vec_capacity x.select.offered
