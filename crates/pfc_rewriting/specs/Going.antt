-- What a process is at, and where rewriting comes to: the action that comes next, by the definitions.
use Rattle.std.specs.Prelude.{◌+◌, ◌≤◌, Option, Some, None, Result, Ok, Err}
use Rattle.std.specs.Vec.{vec_len, vec_capacity}
use Rattle.pfc_base.specs.declared.memory_error.Memory.{Memory}
use Rattle.pfc_types.specs.rules.Expressions.{Env}
use Rattle.pfc_semantics.specs.Remainders.{Action}
use Rattle.pfc_semantics.specs.Alternatives.{context}
use Rattle.pfc_program.specs.declared.tables.Tables.{Tables}
use Rattle.pfc_program.specs.Views.{names_view}
use Rattle.pfc_pending.specs.Ahead.{ahead, deed_ahead}
use Rattle.pfc_pending.specs.Waiting.{waiting}
use Rattle.pfc_rewriting.specs.declared.going.Came.{Came}
use Rattle.pfc_rewriting.specs.declared.going.Came.TheVariants as came
use Rattle.pfc_rewriting.specs.declared.going.Going.{Going}

-- the names in view are given
abbrev pub going_ahead : Tables → Env → Going → Action
going_ahead t env g = ahead t (context env g.line) (waiting t g.pending.items) g.at

-- what rewriting has come to, over what is pending then
abbrev pub came_ahead : Tables → Env → Going → Came → Action
came_ahead t env g (came.Deed deed) = deed_ahead t (context env g.line) (waiting t g.pending.items) deed
came_ahead t env g (came.Names names) = going_ahead t (names_view t names) g

-- the same, or what is at hand still where memory was refused
abbrev pub arrived_ahead : Tables → Env → Going → Result Came Memory → Action
arrived_ahead t env g (Ok c) = came_ahead t env g c
arrived_ahead t env g (Err memory) = going_ahead t env g

-- the same behind one turn, which may have come to neither
abbrev pub turned_ahead : Tables → Env → Going → Result (Option Came) Memory → Action
turned_ahead t env g (Ok None) = going_ahead t env g
turned_ahead t env g (Ok (Some c)) = came_ahead t env g c
turned_ahead t env g (Err memory) = going_ahead t env g

-- it has room for one part more among those that are pending
abbrev pub HasRoom : Going → Type 0
HasRoom g = vec_len g.pending + 1 ≤ vec_capacity g.pending
