use Rattle.std.proofs.Common.{◌≡◌, drop}
use Rattle.pfc_store.specs.Views.{store_view}
use Rattle.pfc_pending.specs.Selects.{opens_view}
use Rattle.pfc_meeting.specs.Opens.{first_met}
use Rattle.pfc_meeting.proofs.opens.first_open.Given as goal

abbrev pub invariant-loop-open : goal.invariant-loop-open
invariant-loop-open l =
    first_met (store_view l.store) l.display l.arm (opens_view (drop l.open-index l.opens)) ≡ first_met
    (store_view l.store) l.display l.arm (opens_view l.opens)
