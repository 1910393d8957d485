use Rattle.std.proofs.Common.{◌≡◌, ◌<◌, ◌≤◌, ℕ, false, length, get_or}
use Rattle.pfc_state.specs.Stands.{is_ready}
use Rattle.pfc_world.specs.Tables.{at}
use Rattle.pfc_world.proofs.world.show_ready.Given as goal

abbrev pub invariant-loop-p : goal.invariant-loop-p
invariant-loop-p l = record {
  room : length l.rows.rows ≤ length l.ready;
  below : (k : ℕ) → k < l.p → get_or l.ready k false ≡ is_ready (at l.rows.rows k);
  past : (k : ℕ) → length l.rows.rows ≤ k → get_or l.ready k false ≡ false;
}
