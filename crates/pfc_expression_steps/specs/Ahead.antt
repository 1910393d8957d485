-- What a variable that is reached, and a value that has come, lead to: the action that comes next, by the definitions.
use Rattle.std.specs.Prelude.{Bool, true, false, ◌+◌, ◌≤◌}
use Rattle.std.specs.Vec.{vec_len, vec_capacity}
use Rattle.std.specs.declared.alloc.Global.{Global}
use Rattle.std.specs.declared.vec.Vec.{Vec}
use Rattle.pfc_tree.specs.trees.Exprs.{SelectorTrees}
use Rattle.pfc_program.specs.declared.tables.Tables.{Tables}
use Rattle.pfc_store.specs.Views.{typed_spot_view, HasRoom}
use Rattle.pfc_semantics.specs.Remainders.{Context, Action}
use Rattle.pfc_semantics.specs.Expressions.{from_selectors}
use Rattle.pfc_semantics.specs.Rewriting.{from_location}
use Rattle.pfc_pending.specs.Ahead.{step_ahead}
use Rattle.pfc_pending.specs.Waiting.{Waiting, goal_over}
use Rattle.pfc_pending.specs.declared.pending.Argument.{Argument}
use Rattle.pfc_pending.specs.declared.pending.Goal.{Goal}
use Rattle.pfc_pending.specs.declared.pending.Goal.TheVariants as goal
use Rattle.pfc_pending.specs.declared.pending.Pending.{Pending}
use Rattle.pfc_pending.specs.declared.pending.Pending.TheVariants as pending
use Rattle.pfc_expression_steps.specs.declared.variables.Reached.{Reached}
use Rattle.pfc_expression_steps.specs.declared.variables.Reached.TheVariants as reached
use Rattle.pfc_expression_steps.specs.declared.variables.Reason.TheVariants as reason

-- ## Variables

-- What a variable comes to, with the selectors that are left behind it. What waits for it in a select meets it elsewhere; where memory was
-- refused, what is given back is at hand still, before these selectors.
abbrev pub reached_ahead : Tables → Context → Waiting → SelectorTrees → Reached → Action
reached_ahead s c w ss (reached.Step step) = step_ahead s c w step
reached_ahead s c w ss (reached.Back reason.Select spot goal) = from_location c (goal_over w goal) (typed_spot_view spot)
reached_ahead s c w ss (reached.Back reason.Memory spot goal) =
    from_selectors c (typed_spot_view spot) ss (goal_over w goal) (from_location c (goal_over w goal))

-- what waits for a variable in a select
abbrev pub is_of_select : Goal → Bool
is_of_select (goal.OfferTo e c) = true
is_of_select (goal.OfferFrom d c) = true
is_of_select (goal.OfferInto channel c) = true
is_of_select g = false

-- what waits for a variable most often: an expression, an assignment, a reference parameter, a wait or a signal
abbrev pub is_frequent : Goal → Bool
is_frequent goal.Read = true
is_frequent (goal.AssignTo e) = true
is_frequent (goal.Pass p) = true
is_frequent goal.WaitAt = true
is_frequent goal.SignalAt = true
is_frequent g = false

-- the variable is given back for a select
abbrev pub is_for_select : Reached → Bool
is_for_select (reached.Back reason.Select spot goal) = true
is_for_select r = false

-- ## Arguments

-- there is room for one argument more
abbrev pub HasRoomForOne : Vec Argument Global → Type 0
HasRoomForOne given = vec_len given + 1 ≤ vec_capacity given

-- ## Values

-- a part that waits for a value in an expression or in a simple statement
abbrev pub is_of_expression : Pending → Bool
is_of_expression (pending.BeginSum sign rest) = true
is_of_expression (pending.AddTo n op rest) = true
is_of_expression (pending.BeginProduct rest) = true
is_of_expression (pending.MultiplyBy n op rest) = true
is_of_expression (pending.CompareWith r t) = true
is_of_expression (pending.CompareTo n r) = true
is_of_expression pending.Invert = true
is_of_expression (pending.Apply f t) = true
is_of_expression (pending.IndexInto at es ss goal) = true
is_of_expression (pending.PassValue p) = true
is_of_expression (pending.StoreAt at) = true
is_of_expression (pending.Show t) = true
is_of_expression (pending.ShowWide t width) = true
is_of_expression (pending.Pad piece) = true
is_of_expression (pending.SetCount at) = true
is_of_expression (pending.DelayWith at) = true
is_of_expression pending.SleepFor = true
is_of_expression (pending.SendOn channel) = true
is_of_expression p = false

-- one that waits in a call of a predeclared function or procedure, or in a message that is sent
abbrev pub is_of_call : Pending → Bool
is_of_call (pending.Apply f t) = true
is_of_call (pending.Show t) = true
is_of_call (pending.ShowWide t width) = true
is_of_call (pending.Pad piece) = true
is_of_call (pending.SetCount at) = true
is_of_call (pending.DelayWith at) = true
is_of_call pending.SleepFor = true
is_of_call (pending.SendOn channel) = true
is_of_call p = false

-- it has room for what meets it
abbrev pub HasRoomFor : Pending → Type 0
HasRoomFor (pending.IndexInto spot es ss goal) = HasRoom spot.spot
HasRoomFor (pending.PassValue p) = HasRoomForOne p.given
HasRoomFor p = Unit {0}
