use Rattle.std.proofs.Common.{◌≡◌, ℕ, ◌<◌, false, length, get_or, take}
use Rattle.std.specs.List.{list_any}
use Rattle.pfc_hb.specs.Conflicts.{clashes_with}
use Rattle.pfc_hb.specs.Order.{event_at}
use Rattle.pfc_hb.proofs.rows.row_of.Given as goal

abbrev pub invariant-loop-access : goal.invariant-loop-access
invariant-loop-access l = record {
  wide : length l.row ≡ length l.rows.events.now;
  added : (j : ℕ) → l.first < j → j < length l.rows.events.now
      → get_or l.row j false ≡ list_any (clashes_with (event_at l.rows.events.now j)) (take l.access-index l.access-items);
}
