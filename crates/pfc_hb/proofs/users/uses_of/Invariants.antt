use Rattle.pfc_hb.specs.Parts.{is_same_spot, lies_in}
use Rattle.pfc_hb.proofs.UserLaws.{TellBelow}
use Rattle.pfc_hb.proofs.users.uses_of.Given as goal

abbrev pub invariant-loop-place : goal.invariant-loop-place
invariant-loop-place l = record {
  at : TellBelow l.events l.parts.keys is_same_spot l.place l.at.items;
  within : TellBelow l.events l.parts.keys lies_in l.place l.within.items;
}
