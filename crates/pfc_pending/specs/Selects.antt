-- What is open, and what a select goes through, as the definitions know them.
use Rattle.std.specs.Prelude.{List, [], map, drop, Option, Some, None, option_map}
use Rattle.std.specs.Borrow.{Bor}
use Rattle.pfc_tree.specs.declared.tree.Stmt.{Stmt}
use Rattle.pfc_tree.specs.trees.Exprs.{ExprTree}
use Rattle.pfc_tree.specs.trees.Stmts.{StmtTree, StmtTrees, AltTree, CommTree, alt, empty}
use Rattle.pfc_tree.specs.views.Stmts.{stmt_view, alt_view}
use Rattle.pfc_pending.specs.Texts.{stmts_left}
use Rattle.std.specs.declared.boxed.Box.{Box}
use Rattle.std.specs.declared.alloc.Global.{Global}
use Rattle.pfc_store.specs.Views.{spot_view, value_view}
use Rattle.pfc_semantics.specs.Remainders as remainders
use Rattle.pfc_pending.specs.declared.select.Accepting.{Accepting}
use Rattle.pfc_pending.specs.declared.select.Alternative.{Alternative}
use Rattle.pfc_pending.specs.declared.select.Choosing.{Choosing}
use Rattle.pfc_pending.specs.declared.select.Offer.{Offer}
use Rattle.pfc_pending.specs.declared.select.Offer.TheVariants as offer
use Rattle.pfc_pending.specs.declared.select.Open.{Open}
use Rattle.pfc_pending.specs.declared.select.Otherwise.{Otherwise}
use Rattle.pfc_pending.specs.declared.select.Replica.{Replica}
use Rattle.pfc_pending.specs.declared.select.Selecting.{Selecting}

abbrev pub replica_view : Replica → remainders.Replica
replica_view r = record { at = record { scope = r.scope; variable = r.variable; selectors = [] }; value = r.value; line = r.line }

abbrev pub stmt_of : Option (Bor (Box Stmt Global)) → StmtTree
stmt_of None = empty
stmt_of (Some s) = stmt_view s.now.value

abbrev pub accepting_view : Accepting → remainders.Accepting
accepting_view a = record { entry = a.entry; scope = a.scope; stmt = stmt_of a.stmt; line = a.line }

abbrev pub offer_view : Offer → remainders.Offer
offer_view (offer.Send channel v) = remainders.to_send (spot_view channel) (value_view v)
offer_view (offer.Receive channel target) = remainders.to_receive (spot_view channel) (option_map spot_view target)
offer_view (offer.Accept a) = remainders.to_accept (accepting_view a)
offer_view (offer.Wait n) = remainders.to_wait n
offer_view offer.End = remainders.to_end

abbrev pub open_view : Open → remainders.Open
open_view o = record { offer = offer_view o.offer; replica = option_map replica_view o.replica; next = o.next; stmts = stmts_left o.stmts }

abbrev pub opens_view : List Open → List remainders.Open
opens_view os = map open_view os

-- the parts of an alternative of the text
abbrev pub guard_of : AltTree → Option ExprTree
guard_of (alt spread guard comm ss) = guard

abbrev pub comm_of : AltTree → CommTree
comm_of (alt spread guard comm ss) = comm

abbrev pub behind_of : AltTree → StmtTrees
behind_of (alt spread guard comm ss) = ss

abbrev pub alternative_view : Alternative → remainders.Alternative
alternative_view a =
    let tree = alt_view a.alt.now in
    record { replica = option_map replica_view a.replica; guard = guard_of tree; comm = comm_of tree; next = a.next; stmts = behind_of tree }

abbrev pub otherwise_view : Otherwise → remainders.Otherwise
otherwise_view other = record { next = other.next; stmts = stmts_left other.stmts }

abbrev pub select_view : Selecting → remainders.Selecting
select_view s = record { pri = s.pri; offered = opens_view s.offered.items; otherwise = option_map otherwise_view s.otherwise }

-- the alternatives behind the one at hand
abbrev pub rest_view : Choosing → List remainders.Alternative
rest_view c = drop c.behind (map alternative_view c.all.items)
