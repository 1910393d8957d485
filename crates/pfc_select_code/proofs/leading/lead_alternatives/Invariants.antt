-- Leading those still to come completes the code.
use Rattle.std.proofs.Common.{◌≡◌, true, drop}
use Rattle.pfc_select_code.specs.Leading.{can_lead, led}
use Rattle.pfc_select_code.proofs.leading.lead_alternatives.Given as goal

abbrev pub invariant-loop-i : goal.invariant-loop-i
invariant-loop-i l =
    record {
      code : led l.made.code (drop l.i l.places) (drop l.i l.branches) ≡ led l.fn.made.code l.places l.branches;
      can : can_lead l.made.code (drop l.i l.places) ≡ true;
      texts : l.made.texts ≡ l.fn.made.texts;
      arms : l.made.arms ≡ l.fn.made.arms;
    }
