-- What `random` draws.
use Rattle.std.specs.Prelude.{ℕ, ℤ, pos, negsuc, ◌+◌, ◌%◌, Result, Ok, Err}
use Rattle.rand_pcg.specs.Lcg.{Lcg}
use Rattle.pfc_base.specs.declared.faults.RunFault.{RunFault}
use Rattle.pfc_base.specs.declared.faults.RunFault.TheVariants.{Below}
use Rattle.pfc_sched.specs.Words.{stream, word, after_word}

-- `random` draws from the second stream of the seed
abbrev pub first_draws : ℕ → Lcg
first_draws seed = stream seed 2

-- the number drawn: a word modulo n + 1, or the fault of a negative argument
abbrev pub drawn : Lcg → ℤ → Result ℤ RunFault
drawn g (pos n) = Ok (pos (word g % (n + 1)))
drawn g (negsuc n) = Err Below

-- the generator afterwards: a fault draws no word
abbrev pub after_draw : Lcg → ℤ → Lcg
after_draw g (pos n) = after_word g
after_draw g (negsuc n) = g
