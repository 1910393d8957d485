-- Where a statement has ended, and where a guard of a resource has its value.
use Rattle.std.specs.Prelude.{Bool, true, false, Option, Some, None}
use Rattle.std.specs.Borrow.{Bor}
use Rattle.pfc_types.specs.rules.Expressions.{Env}
use Rattle.pfc_semantics.specs.Remainders.{Action, Context}
use Rattle.pfc_semantics.specs.Alternatives.{context}
use Rattle.pfc_program.specs.declared.blocks.Guard.{Guard}
use Rattle.pfc_program.specs.declared.tables.Tables.{Tables}
use Rattle.pfc_program.specs.InView.{InView}
use Rattle.pfc_program.specs.Views.{names_view}
use Rattle.pfc_pending.specs.Ahead.{begun_ahead}
use Rattle.pfc_pending.specs.Waiting.{Waiting, over}
use Rattle.pfc_pending.specs.declared.pending.Pending.{Pending}
use Rattle.pfc_pending.specs.declared.pending.Pending.TheVariants as pending
use Rattle.pfc_statement_steps.specs.declared.begins.Resumed.{Resumed}

-- the names in view: others, where some are given
abbrev pub env_from : Tables → Env → Option InView → Env
env_from s env None = env
env_from s env (Some names) = names_view s names

-- a step, with the names in view from there on
abbrev pub resumed_ahead : Tables → Env → Waiting → Resumed → Action
resumed_ahead s env w r = begun_ahead s (env_from s env r.names) w r.begun

-- the names in view in a guard, and the line of its `when`
abbrev pub guard_context : Tables → Guard → Context
guard_context s guard = context (names_view s guard.names) guard.line

-- what is pending, with one more part where there is one
abbrev pub under : Tables → Waiting → Option (Bor Pending) → Waiting
under s w None = w
under s w (Some p) = over s w p.now

-- the parts that stand behind a statement by themselves: neither a statement that is under way nor a select
abbrev pub is_resumed : Pending → Bool
is_resumed (pending.Ends line) = true
is_resumed (pending.Perform n ss) = true
is_resumed (pending.InNames names) = true
is_resumed (pending.WriteOn line items newline) = true
is_resumed (pending.ReadOn line items skip) = true
is_resumed (pending.AtCoend line) = true
is_resumed (pending.PartFrom caller line) = true
is_resumed (pending.WriteAgain r) = true
is_resumed (pending.TryGuard b) = true
is_resumed (pending.ScanOn scan) = true
is_resumed (pending.TryOther tried scan) = true
is_resumed p = false

-- the parts that wait for the value of a guard of a resource
abbrev pub is_guard : Pending → Bool
is_guard (pending.PassOwn b) = true
is_guard (pending.PassOther tried scan) = true
is_guard p = false
