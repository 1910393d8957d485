-- A `for` that is pending in small values, and what comes where it goes on.
use Rattle.std.specs.Prelude.{Option, Some, None}
use Rattle.pfc_types.specs.rules.Expressions.{Env}
use Rattle.pfc_program.specs.declared.tables.Tables.{Tables}
use Rattle.pfc_semantics.specs.Alternatives.{context}
use Rattle.pfc_semantics.specs.Remainders.{Action}
use Rattle.pfc_pending.specs.Waiting.{Waiting, over}
use Rattle.pfc_pending.specs.declared.pending.Count.{Count}
use Rattle.pfc_pending.specs.declared.pending.Pending.{Pending}
use Rattle.pfc_pending.specs.declared.pending.Pending.TheVariants as pending
use Rattle.pfc_pending.specs.declared.pending.Point.{Point}
use Rattle.pfc_pending.specs.declared.pending.Point.TheVariants as point
use Rattle.pfc_frequent_steps.specs.Near.{near_ahead}
use Rattle.pfc_frequent_steps.specs.declared.counts.Counting.{Counting}
use Rattle.pfc_frequent_steps.specs.declared.counts.Resumed.{Resumed}
use Rattle.pfc_frequent_steps.specs.declared.counts.Stage.{Stage}
use Rattle.pfc_frequent_steps.specs.declared.counts.Stage.TheVariants as stage

abbrev pub stage_point : Count → Stage → Point
stage_point count stage.Pass = point.Pass count
stage_point count stage.BehindPass = point.BehindPass count
stage_point count stage.NextPass = point.NextPass count

abbrev pub counting_part : Counting → Pending
counting_part x = pending.Within x.n x.s (stage_point x.count x.stage)

abbrev pub counting_over : Tables → Waiting → Option Counting → Waiting
counting_over t w None = w
counting_over t w (Some x) = over t w (counting_part x)

abbrev pub resumed_ahead : Tables → Env → Waiting → Resumed → Action
resumed_ahead t env w r = near_ahead t (context env r.line) (counting_over t w r.over) r.near
