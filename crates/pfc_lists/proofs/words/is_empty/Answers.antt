use Rattle.std.proofs.Common.{◌<◌, ◌^◌, length, arith, ap, ◌∙◌}
use Rattle.std.proofs.lemmas.Bool.{eqb-true, eqb-false}
use Rattle.pfc_lists.specs.Bits.{bits, numbers_from}
use Rattle.pfc_lists.proofs.Flags.{some-held, no-number}
use Rattle.pfc_lists.proofs.words.is_empty.Goals as goal

pub returns-clause-none : goal.returns-clause-none
returns-clause-none c = λ e n. ap (λ v. length (numbers_from n (bits 64 v))) (eqb-true c.args.word 0 e) ∙ no-number n

pub returns-clause-some : goal.returns-clause-some
returns-clause-some c = λ e n. let fits : c.args.word < 2 ^ 64 = omega arith in some-held n c.args.word fits (eqb-false c.args.word 0 e)
