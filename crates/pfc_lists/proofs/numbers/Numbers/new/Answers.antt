use Rattle.std.proofs.Common.{◌≡◌, ◌+◌, ◌/◌, length, arith, sym, ap, ◌∙◌}
use Rattle.std.proofs.lemmas.List.{length-replicate}
use Rattle.pfc_lists.specs.Bits.{flags}
use Rattle.pfc_lists.proofs.Flags.{none-held, numbers-none, has-room}
use Rattle.pfc_lists.proofs.numbers.Numbers.new.Goals as goal

pub invariant_of-result : goal.invariant_of-result
invariant_of-result c =
    let long : length c.loop-i.empty.items ≡ c.loop-i._i = ap length c.loop-i.invariant ∙ length-replicate c.loop-i._i 0 in
    (sym (ap length (numbers-none 0 (flags c.loop-i.empty.items) (none-held c.loop-i._i c.loop-i.empty.items c.loop-i.invariant))), omega arith)

pub returns-clause-empty : goal.returns-clause-empty
returns-clause-empty c = none-held c.loop-i._i c.loop-i.empty.items c.loop-i.invariant

pub returns-clause-room : goal.returns-clause-room
returns-clause-room c =
    let long : length c.loop-i.empty.items ≡ c.loop-i._i = ap length c.loop-i.invariant ∙ length-replicate c.loop-i._i 0 in
    let all : length c.loop-i.empty.items ≡ c.args.size / 64 + 1 = omega arith in
    has-room c.args.size c.loop-i.empty.items all
