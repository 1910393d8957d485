-- The tests still to be led make the code whole.
use Rattle.std.proofs.Common.{◌≡◌, ◌≤◌, true, drop, length}
use Rattle.pfc_tree.specs.views.Stmts.{arms_view}
use Rattle.pfc_statement_code.specs.Arms.{tests_led, have_tests}
use Rattle.pfc_statement_code.proofs.cases.lead_tests.Given as goal

abbrev pub invariant-loop-a : goal.invariant-loop-a
invariant-loop-a l = record {
  code :
      tests_led l.code.code l.at (arms_view (drop l.a-index l.all)) (drop l.n l.starts)
      ≡ tests_led l.initial.code.code l.initial.at (arms_view l.all) l.starts;
  within : l.n ≤ length l.starts;
  texts : l.code.texts ≡ l.initial.code.texts;
  arms : l.code.arms ≡ l.initial.code.arms;
  have : have_tests l.code.code l.at (arms_view (drop l.a-index l.all)) ≡ true;
}
