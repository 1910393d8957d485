use Rattle.std.proofs.Common.{◌<◌, ◌^◌, arith, sym}
use Rattle.pfc_lists.proofs.Bits.{ones-bits}
use Rattle.pfc_lists.proofs.words.ones.Goals as goal

pub returns-clause-count : goal.returns-clause-count
returns-clause-count c = λ n. let fits : c.args.word < 2 ^ 64 = omega arith in sym (ones-bits n 64 c.args.word fits)
