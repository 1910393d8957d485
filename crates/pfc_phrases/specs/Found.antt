-- The first broken rule, as a walk finds it.
use Rattle.std.specs.Prelude.{Option, Some, None}
use Rattle.pfc_base.specs.declared.faults.Refusal.{Refusal}
use Rattle.pfc_types.specs.Faults.{Faults, none, one, least_from}
use Rattle.pfc_phrases.specs.declared.best.Best.{Best}

-- at most one broken rule
abbrev pub refused : Option Refusal → Faults
refused None = none
refused (Some f) = one f

-- what was found before, and these broken rules
abbrev pub noted : Best → Faults → Best
noted best fs = record { from = best.from; first = least_from best.from best.first fs }
