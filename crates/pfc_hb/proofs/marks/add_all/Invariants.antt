use Rattle.std.proofs.Common.{◌≡◌, ◌<◌, ◌≤◌, ℕ, ◌||◌, false, get_or}
use Rattle.pfc_hb.proofs.marks.add_all.Given as goal

abbrev pub invariant-loop-place : goal.invariant-loop-place
invariant-loop-place l = record {
  joined : (j : ℕ) → l.from ≤ j → j < l.place → get_or l.marks j false ≡ (get_or l.initial.marks j false || get_or l.others j false);
  ahead : (j : ℕ) → l.place ≤ j → get_or l.marks j false ≡ get_or l.initial.marks j false;
}
