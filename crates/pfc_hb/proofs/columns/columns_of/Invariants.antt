use Rattle.std.proofs.Common.{◌≡◌, ℕ, ◌<◌, [], length, map, get_or}
use Rattle.pfc_hb.proofs.columns.columns_of.Given as goal

abbrev pub invariant-loop-slot : goal.invariant-loop-slot
invariant-loop-slot l = record {
  each : length l.columns.items ≡ l.slot;
  column : (slot : ℕ) → slot < l.slot → get_or l.columns.items slot [] ≡ map (λ clock. get_or clock slot 0) l.clocks;
}
