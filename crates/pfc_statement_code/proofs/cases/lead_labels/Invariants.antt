-- The tests still to be led make the code whole.
use Rattle.std.proofs.Common.{◌≡◌, ◌+◌, ◌≤◌, true, drop, length}
use Rattle.pfc_statement_code.specs.Arms.{labels_led, have_labels}
use Rattle.pfc_statement_code.proofs.cases.lead_labels.Given as goal

abbrev pub invariant-loop : goal.invariant-loop
invariant-loop l = record {
  code : labels_led l.code.code l.at (drop l.index l.ls) l.target ≡ labels_led l.initial.code.code l.initial.at l.ls l.target;
  texts : l.code.texts ≡ l.initial.code.texts;
  arms : l.code.arms ≡ l.initial.code.arms;
  have : have_labels l.code.code l.at (drop l.index l.ls) ≡ true;
  at : l.at ≡ l.initial.at + l.index;
  room : length l.code.code ≤ 200000;
}
