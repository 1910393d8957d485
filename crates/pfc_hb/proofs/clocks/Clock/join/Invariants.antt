use Rattle.std.proofs.Common.{◌≡◌, ℕ, ◌<◌, ◌≤◌, length, get_or, max}
use Rattle.pfc_hb.proofs.clocks.Clock.join.Given as goal

abbrev pub invariant-loop-slot : goal.invariant-loop-slot
invariant-loop-slot l = record {
  wide : length l.self-inside.counts.items ≡ length l.initial.self-inside.counts.items;
  joined : (k : ℕ) → k < l.slot → get_or l.self-inside.counts.items k 0 ≡ max (get_or l.initial.self-inside.counts.items k 0) (get_or l.count-items k 0);
  ahead : (k : ℕ) → l.slot ≤ k → get_or l.self-inside.counts.items k 0 ≡ get_or l.initial.self-inside.counts.items k 0;
}
