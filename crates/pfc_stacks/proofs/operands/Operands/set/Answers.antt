-- A depth is a place from the other end.
use Rattle.std.proofs.Common.{◌≡◌, ◌-◌, ◌<◌, ℤ, length, arith, set, List}
use Rattle.std.proofs.lemmas.Grind.{common_steps}
use Rattle.std.proofs.lemmas.Int.{to_z-of_z}
use Rattle.std.specs.Prelude.{reverse}
use Rattle.pfc_stacks.proofs.Lists.{set-reverse}
use Rattle.pfc_stacks.proofs.operands.Operands.set.Goals as goal

pub returns-then-k-n : goal.returns-then-k-n
returns-then-k-n c =
    let items : List ℤ = c.self.inside.items.items in
    let inside : c.args.k < length items = omega arith in
    let turned : set (reverse items) c.args.k c.args.v ≡ reverse (set items (length items - 1 - c.args.k) c.args.v) =
    set-reverse items c.args.k c.args.v inside in
    grind (arith, common_steps, to_z-of_z, turned)
