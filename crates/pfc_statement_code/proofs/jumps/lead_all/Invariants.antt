-- The jumps still to be led make the code whole.
use Rattle.std.proofs.Common.{◌≡◌, true, drop}
use Rattle.pfc_statement_code.specs.Leading.{all_led, have_all}
use Rattle.pfc_statement_code.proofs.jumps.lead_all.Given as goal

abbrev pub invariant-loop-at : goal.invariant-loop-at
invariant-loop-at l = record {
  code : all_led l.code.code (drop l.at-index l.ats) l.here ≡ all_led l.initial.code.code l.ats l.here;
  texts : l.code.texts ≡ l.initial.code.texts;
  arms : l.code.arms ≡ l.initial.code.arms;
  have : have_all l.code.code (drop l.at-index l.ats) ≡ true;
}
