use Rattle.std.proofs.Common.{◌≡◌, ◌-◌}
use Rattle.pfc_stacks.specs.Refs.{IsAddress}
use Rattle.pfc_stacks.specs.Stacks.{links_up, in_view}
use Rattle.pfc_stacks.proofs.stacks.Stacks.links_up.Given as goal

-- the links that are left lead where all of them lead; the first word is that of an address
abbrev pub invariant-loop : goal.invariant-loop
invariant-loop l = record {
  leads : links_up l.self (l.l - l.counter) l.w ≡ in_view l.self l.p l.l;
  own : l.counter ≡ 0 → IsAddress l.w;
}
