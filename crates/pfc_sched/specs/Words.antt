-- The words that picks and draws take: those of the generator `Lcg64Xsh32` of `rand_pcg`.
use Rattle.std.specs.Prelude.{ℕ}
use Rattle.rand_pcg.specs.Lcg.{Lcg, started, increment_of}
use Rattle.rand_pcg.specs.Pcg.{pcg32, multiplier_64}

-- the generator of a seed, with the number of its stream
unfoldable pub stream : ℕ → ℕ → Lcg
stream seed number = started 64 multiplier_64 seed (increment_of 64 number)

-- the next word, of 32 bits
unfoldable pub word : Lcg → ℕ
word g = (pcg32 g).0

-- the generator after it
unfoldable pub after_word : Lcg → Lcg
after_word g = (pcg32 g).1
