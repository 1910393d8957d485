use Rattle.std.proofs.Common.{◌≡◌, ◌<◌, ◌≤◌, ℕ, ◌&&◌, false, not, ltb, length, get_or}
use Rattle.pfc_hb.proofs.marks.keep_all.Given as goal

abbrev pub invariant-loop-place : goal.invariant-loop-place
invariant-loop-place l = record {
  wide : length l.marks ≡ length l.initial.marks;
  kept : (j : ℕ) → l.from ≤ j → j < l.place → get_or l.marks j false ≡ (get_or l.initial.marks j false && not (ltb l.bound (get_or l.numbers j 0)));
  ahead : (j : ℕ) → l.place ≤ j → get_or l.marks j false ≡ get_or l.initial.marks j false;
}
