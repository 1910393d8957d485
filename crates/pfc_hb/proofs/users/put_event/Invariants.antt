use Rattle.std.proofs.Common.{take}
use Rattle.pfc_hb.specs.Parts.{is_same_spot, lies_in}
use Rattle.pfc_hb.specs.Users.{AddsAll, SameSizes}
use Rattle.pfc_hb.proofs.users.put_event.Given as goal

abbrev pub invariant-loop-access : goal.invariant-loop-access
invariant-loop-access l = record {
  sizes_at : SameSizes l.initial.at l.at;
  sizes_within : SameSizes l.initial.within l.within;
  at : AddsAll l.parts.keys is_same_spot l.place (take l.access-index l.event.accesses) l.initial.at l.at;
  within : AddsAll l.parts.keys lies_in l.place (take l.access-index l.event.accesses) l.initial.within l.within;
}
