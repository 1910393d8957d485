use Rattle.std.proofs.Common.{◌≡◌, ◌++◌, drop}
use Rattle.pfc_store.specs.Views.{store_view}
use Rattle.pfc_pending.specs.Selects.{opens_view}
use Rattle.pfc_meeting.specs.Opens.{arms_in}
use Rattle.pfc_meeting.proofs.opens.arms_of_all.Given as goal

abbrev pub invariant-loop-open : goal.invariant-loop-open
invariant-loop-open l =
    l.arms.items ++ arms_in (store_view l.store) l.display (opens_view (drop l.open-index l.opens)) ≡ arms_in
    (store_view l.store) l.display (opens_view l.opens)
