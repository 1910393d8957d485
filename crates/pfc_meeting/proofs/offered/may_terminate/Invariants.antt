use Rattle.std.proofs.Common.{◌≡◌, drop}
use Rattle.pfc_semantics.specs.Selects.{may_terminate_at}
use Rattle.pfc_pending.specs.Selects.{opens_view}
use Rattle.pfc_meeting.proofs.offered.may_terminate.Given as goal

abbrev pub invariant-loop-open : goal.invariant-loop-open
invariant-loop-open l = may_terminate_at (opens_view (drop l.open-index l.opens)) ≡ may_terminate_at (opens_view l.opens)
