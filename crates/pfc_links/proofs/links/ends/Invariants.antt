use Rattle.std.proofs.Common.{◌≡◌, ◌<◌, ℕ, length, get_or}
use Rattle.pfc_links.proofs.links.ends.Given as goal

abbrev pub invariant-loop-place : goal.invariant-loop-place
invariant-loop-place l = record {
  long : length l.links.items ≡ l.place;
  each : (k : ℕ) → k < l.place → get_or l.links.items k 0 ≡ k;
}
