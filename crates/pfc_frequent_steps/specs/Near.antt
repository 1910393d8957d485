-- What is at hand in small values, over what is pending: the action that comes next, by the definitions.
use Rattle.std.specs.Prelude.{◌+◌, ◌≤◌, Option, Some, None}
use Rattle.std.specs.Vec.{vec_len, vec_capacity}
use Rattle.std.specs.declared.vec.Vec.{Vec}
use Rattle.std.specs.declared.alloc.Global.{Global}
use Rattle.pfc_tree.specs.declared.tree.Stmt.{Stmt}
use Rattle.pfc_tree.specs.trees.Stmts.{StmtTree, empty}
use Rattle.pfc_tree.specs.views.Exprs.{expr_view}
use Rattle.pfc_tree.specs.views.Stmts.{stmt_view}
use Rattle.pfc_types.specs.rules.Expressions.{Env}
use Rattle.pfc_program.specs.declared.tables.Tables.{Tables}
use Rattle.pfc_store.specs.Views.{spot_view}
use Rattle.pfc_semantics.specs.Alternatives.{context}
use Rattle.pfc_semantics.specs.Remainders.{Context, Action, assign_to, read_for, turns, reads, writes, finishes, faults}
use Rattle.pfc_semantics.specs.Rewriting.{from_value}
use Rattle.pfc_semantics.specs.Values.{ordinal}
use Rattle.pfc_pending.specs.Ahead.{ahead}
use Rattle.pfc_pending.specs.Waiting.{Waiting, awaits_of, remainder_of, over}
use Rattle.pfc_pending.specs.declared.at_hand.At.TheVariants as at
use Rattle.pfc_pending.specs.declared.pending.Pending.{Pending}
use Rattle.pfc_pending.specs.declared.pending.Pending.TheVariants as pending
use Rattle.pfc_pending.specs.declared.pending.Point.{Point}
use Rattle.pfc_pending.specs.declared.pending.Point.TheVariants as point
use Rattle.pfc_frequent_parts.specs.Parts.{indexed_ahead}
use Rattle.pfc_frequent_steps.specs.declared.near.Near.{Near}
use Rattle.pfc_frequent_steps.specs.declared.near.Near.TheVariants as near
use Rattle.pfc_frequent_steps.specs.declared.near.Waits.{Waits}
use Rattle.pfc_frequent_steps.specs.declared.near.Waits.TheVariants as waits
use Rattle.pfc_frequent_steps.specs.declared.near.Behind.{Behind}
use Rattle.pfc_frequent_steps.specs.declared.near.Behind.TheVariants as behind
use Rattle.pfc_frequent_steps.specs.declared.near.Test.{Test}
use Rattle.pfc_frequent_steps.specs.declared.near.Test.TheVariants as test
use Rattle.pfc_frequent_steps.specs.declared.near.Tested.{Tested}
use Rattle.pfc_frequent_steps.specs.declared.near.Next.{Next}
use Rattle.pfc_frequent_steps.specs.declared.near.Next.TheVariants as to
use Rattle.pfc_frequent_steps.specs.declared.near.Entered.{Entered}
use Rattle.pfc_frequent_steps.specs.declared.near.Went.{Went}
use Rattle.pfc_frequent_steps.specs.declared.near.Went.TheVariants as went

-- what is at hand
abbrev pub near_ahead : Tables → Context → Waiting → Near → Action
near_ahead t c w near.Rest = ahead t c w at.Rest
near_ahead t c w (near.Number n) = from_value c (awaits_of w) (ordinal n)
near_ahead t c w (near.Expr e) = ahead t c w (at.Expr e)
near_ahead t c w (near.Simple s) = ahead t c w (at.Simple s)
near_ahead t c w (near.Term x) = ahead t c w (at.Term x)
near_ahead t c w (near.Factor f) = ahead t c w (at.Factor f)
near_ahead t c w (near.Stmt n s) = ahead t c w (at.Stmt n s)
near_ahead t c w (near.Stmts n ss) = ahead t c w (at.Stmts n ss)
near_ahead t c w near.Turns = turns c (remainder_of w)
near_ahead t c w (near.Reads s) = reads c (spot_view s) (awaits_of w)
near_ahead t c w (near.Writes s n) = writes c (spot_view s) (ordinal n) (remainder_of w)
near_ahead t c w (near.Finishes line) = finishes line
near_ahead t c w (near.Faults f) = faults c f

-- what is pending
abbrev pub waits_part : Waits → Pending
waits_part (waits.BeginSum sign rest) = pending.BeginSum sign rest
waits_part (waits.AddTo n op rest) = pending.AddTo n op rest
waits_part (waits.BeginProduct rest) = pending.BeginProduct rest
waits_part (waits.MultiplyBy n op rest) = pending.MultiplyBy n op rest
waits_part (waits.CompareWith r right) = pending.CompareWith r right
waits_part (waits.CompareTo n r) = pending.CompareTo n r
waits_part (waits.StoreAt s) = pending.StoreAt s

abbrev pub behind_part : Behind → Pending
behind_part (behind.Ends line) = pending.Ends line
behind_part (behind.Perform n ss) = pending.Perform n ss
behind_part (behind.Turn n s) = pending.Within n s point.Turn
behind_part (behind.Again n s) = pending.Within n s point.Again
behind_part (behind.Until n s) = pending.Within n s point.Until

abbrev pub test_point : Test → Point
test_point test.Choose = point.Choose
test_point test.ChooseArm = point.ChooseArm
test_point test.WhileTrue = point.WhileTrue
test_point test.UntilTrue = point.UntilTrue

abbrev pub tested_part : Tested → Pending
tested_part x = pending.Within x.n x.s (test_point x.test)

-- over what was taken, where something was
abbrev pub waits_over : Tables → Waiting → Option Waits → Waiting
waits_over t w None = w
waits_over t w (Some x) = over t w (waits_part x)

abbrev pub behind_over : Tables → Waiting → Option Behind → Waiting
behind_over t w None = w
behind_over t w (Some x) = over t w (behind_part x)

-- what a step comes to
abbrev pub next_ahead : Tables → Context → Waiting → Next → Action
next_ahead t c w (to.On n) = near_ahead t c w n
next_ahead t c w (to.Over x n) = near_ahead t c (over t w (waits_part x)) n
next_ahead t c w (to.Ahead x n) = near_ahead t c (over t w (behind_part x)) n
next_ahead t c w (to.Tests x n) = near_ahead t c (over t w (tested_part x)) n
next_ahead t c w (to.ToRead x) = indexed_ahead c x (read_for (awaits_of w))
next_ahead t c w (to.ToAssign x e) = indexed_ahead c x (assign_to (expr_view e.now) (remainder_of w))

abbrev pub entered_ahead : Tables → Env → Waiting → Entered → Action
entered_ahead t env w e = next_ahead t (context env e.line) w e.next

-- what one step comes to
abbrev pub went_ahead : Tables → Context → Waiting → Went → Action
went_ahead t c w (went.On n) = near_ahead t c w n
went_ahead t c w (went.Ends n) = near_ahead t c w n

-- a statement of the text, which is empty where there is none
abbrev pub node_view : Option Stmt → StmtTree
node_view None = empty
node_view (Some s) = stmt_view s

-- there is room for one part more
abbrev pub HasRoom : Vec Pending Global → Type 0
HasRoom parts = vec_len parts + 1 ≤ vec_capacity parts
