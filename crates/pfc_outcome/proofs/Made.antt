-- A made text is short.
use Rattle.std.proofs.Common.{◌≡◌, ℕ, ◌≤◌, ◌<◌, ◌^◌, length, refl, arith, length-append}
use Rattle.std.specs.Prelude.{decimal}
use Rattle.std.proofs.lemmas.Fmt.{length-decimal-le}
use Rattle.pfc_outcome.specs.Making.{made_text}
use Rattle.pfc_outcome.specs.declared.making.TheConstants.{BUFFER, CONSUMERS, CONSUMERS_LOOP, PRODUCERS_LOOP, TOTAL}

pub made_short : (size : ℕ) → size < 2 ^ 64 → length (made_text size) ≤ 262144
made_short size fits =
    let digits : length (decimal size) ≤ 20 = length-decimal-le 20 size (omega arith) (omega (arith, fits)) (omega (arith, fits)) in
    let buffer0 : length BUFFER.now ≡ 803 = refl in
    let consumers1 : length CONSUMERS.now ≡ 27 = refl in
    let producers2 : length PRODUCERS_LOOP.now ≡ 66 = refl in
    let consumers3 : length CONSUMERS_LOOP.now ≡ 28 = refl in
    let total4 : length TOTAL.now ≡ 51 = refl in
    simp length-append (omega (arith, digits, buffer0, consumers1, producers2, consumers3, total4))
