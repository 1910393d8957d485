use Rattle.std.proofs.Common.{take}
use Rattle.pfc_hb.specs.Users.{AddsNumbers, SameSizes}
use Rattle.pfc_hb.proofs.users.put_all.Given as goal

abbrev pub invariant-loop-number : goal.invariant-loop-number
invariant-loop-number l = record {
  sizes : SameSizes l.initial.users l.users;
  put : AddsNumbers (take l.number-index l.numbers) l.place l.write l.initial.users l.users;
}
