-- Behind the objects so far come those of the alternatives that are left.
use Rattle.std.proofs.Common.{◌≡◌, ◌++◌, drop}
use Rattle.pfc_store.specs.Views.{store_view}
use Rattle.pfc_pending.specs.Selects.{opens_view}
use Rattle.pfc_races.specs.Seen.{things_seen}
use Rattle.pfc_events.specs.Things.{open_things_in}
use Rattle.pfc_events.proofs.things.open_things.Given as goal

abbrev pub invariant-loop-open : goal.invariant-loop-open
invariant-loop-open l =
    l.things.items ++ things_seen (open_things_in (store_view l.store) l.display l.p (opens_view (drop l.open-index l.opens)))
    ≡ things_seen (open_things_in (store_view l.store) l.display l.p (opens_view l.opens))
