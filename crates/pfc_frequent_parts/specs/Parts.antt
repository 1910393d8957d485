-- Elements of arrays and arms of a `case`, over what is pending: the action that comes next, by the definitions.
use Rattle.std.specs.Prelude.{◌+◌, ◌≤◌, ℤ, Option, Some, None}
use Rattle.std.specs.Vec.{vec_len, vec_capacity}
use Rattle.std.specs.declared.vec.Vec.{Vec}
use Rattle.std.specs.declared.alloc.Global.{Global}
use Rattle.pfc_tree.specs.trees.Exprs.{ExprTree, SelectorTrees, index, no_exprs, more_exprs, no_selectors, more_selectors}
use Rattle.pfc_tree.specs.views.Exprs.{expr_view}
use Rattle.pfc_program.specs.declared.tables.Tables.{Tables}
use Rattle.pfc_store.specs.Views.{spot_view, typed_spot_view}
use Rattle.pfc_semantics.specs.Expressions.{from_expr}
use Rattle.pfc_semantics.specs.Remainders.{Context, Remainder, Action, AwaitsLocation, index_into, reads}
use Rattle.pfc_semantics.specs.Rewriting.{from_remainder, from_value}
use Rattle.pfc_semantics.specs.Statements.{from_stmt}
use Rattle.pfc_semantics.specs.Values.{ordinal}
use Rattle.pfc_pending.specs.Ahead.{ahead}
use Rattle.pfc_pending.specs.Texts.{stmt_at}
use Rattle.pfc_pending.specs.Waiting.{Waiting, awaits_of}
use Rattle.pfc_pending.specs.declared.at_hand.At.TheVariants as at
use Rattle.pfc_pending.specs.declared.pending.Pending.{Pending}
use Rattle.pfc_frequent_parts.specs.declared.arms.Arm.{Arm}
use Rattle.pfc_frequent_parts.specs.declared.elements.Reached.{Reached}
use Rattle.pfc_frequent_parts.specs.declared.elements.Reached.TheVariants as reached
use Rattle.pfc_frequent_parts.specs.declared.indices.Indexed.{Indexed}

-- there is room for one part more
abbrev pub HasRoom : Vec Pending Global → Type 0
HasRoom parts = vec_len parts + 1 ≤ vec_capacity parts

-- for two parts more
abbrev pub HasRoomTwice : Vec Pending Global → Type 0
HasRoomTwice parts = vec_len parts + 2 ≤ vec_capacity parts

-- the index of selectors that are one index alone
abbrev pub index_alone : SelectorTrees → Option ExprTree
index_alone (more_selectors (index (more_exprs e no_exprs) p) no_selectors) = Some e
index_alone ss = None

-- an element, for what waits for it: its index comes first
abbrev pub indexed_ahead : Context → Indexed → AwaitsLocation → Action
indexed_ahead c x goal =
    let u = index_into (typed_spot_view x.array) no_exprs no_selectors goal in from_expr c (expr_view x.index.now) u (from_value c u)

-- an index has its value: the element meets what waits for it, or the value is at hand still
abbrev pub reached_ahead : Tables → Context → Waiting → ℤ → Option Reached → Action
reached_ahead t c w i None = from_value c (awaits_of w) (ordinal i)
reached_ahead t c w i (Some (reached.Reads s)) = reads c (spot_view s) (awaits_of w)
reached_ahead t c w i (Some (reached.Stores e)) = ahead t c w (at.Expr e)

-- the statement of an arm
abbrev pub arm_ahead : Context → Arm → Remainder → Action
arm_ahead c x k = from_stmt c.env x.n (stmt_at x.s) k (from_remainder c.env k)
