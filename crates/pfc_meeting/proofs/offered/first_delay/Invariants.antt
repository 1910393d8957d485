use Rattle.std.proofs.Common.{◌≡◌, drop}
use Rattle.pfc_semantics.specs.Selects.{open_timeout}
use Rattle.pfc_pending.specs.Selects.{opens_view}
use Rattle.pfc_meeting.proofs.offered.first_delay.Given as goal

abbrev pub invariant-loop-open : goal.invariant-loop-open
invariant-loop-open l = open_timeout (opens_view (drop l.open-index l.opens)) ≡ open_timeout (opens_view l.opens)
