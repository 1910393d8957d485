use Rattle.std.proofs.Common.{◌≡◌, ℕ, zero, suc, ◌+◌, ◌<◌, ◌^◌, ℤ, pos, ◌+ℤ◌, FitsSigned, w64, refl, arith}
use Rattle.std.proofs.lemmas.Int.{ints}
use Rattle.pfc_stacks.specs.Conditions.{Leads}
use Rattle.pfc_stacks.specs.Refs.{IsAddress}
use Rattle.pfc_stacks.specs.Stacks.{Stacks, in_view}
use Rattle.pfc_stacks.proofs.stacks.Stacks.cell_word.Goals as goal

-- the word of a cell fits, in the activation itself as it is, and in another as its link leads to an address
word_fits : (stacks : Stacks) (p l d : ℕ) (w : ℤ) → d < 2 ^ 32 → w ≡ in_view stacks p l → (l ≡ 0 → IsAddress w) → Leads l d p stacks →
    FitsSigned w64 (w +ℤ pos (8 + d))
word_fits stacks p zero d w small e own reach = let a = own refl in omega (arith, ints, a.0, a.1)
word_fits stacks p (suc l) d w small e own reach = rw e (omega (arith, ints, reach.0, reach.1))

fits : (c : goal.After-from) → FitsSigned w64 (c.links_up.result +ℤ pos (8 + c.args.d))
fits c =
    word_fits c.args.self.now c.args.p c.args.l c.args.d c.links_up.result (omega arith) c.links_up.ensures.up c.links_up.ensures.own c.requires.reach

pub overflow_add-result-2 : goal.overflow_add-result-2
overflow_add-result-2 c = omega (arith, ints, fits c)

pub returns : goal.returns
returns c = omega (arith, ints, fits c, c.links_up.ensures.up)
