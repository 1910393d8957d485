use Rattle.std.proofs.Common.{◌≡◌, drop}
use Rattle.std.specs.Prelude.{slice_get}
use Rattle.pfc_semantics.specs.Channels.{communications}
use Rattle.pfc_pending.specs.Selects.{opens_view}
use Rattle.pfc_meeting.proofs.offered.communication_at.Given as goal

abbrev pub invariant-loop-open : goal.invariant-loop-open
invariant-loop-open l = slice_get (communications (opens_view (drop l.open-index l.opens))) l.left ≡ slice_get (communications (opens_view l.opens)) l.place
