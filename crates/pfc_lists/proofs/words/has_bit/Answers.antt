use Rattle.std.proofs.Common.{◌==◌, sym, ap, ◌∙◌}
use Rattle.std.proofs.lemmas.Nat.Bits.{shr_and_one}
use Rattle.pfc_lists.proofs.Bits.{bits-at}
use Rattle.pfc_lists.proofs.words.has_bit.Goals as goal

pub returns : goal.returns
returns c = ap (λ v. v == 1) (shr_and_one c.args.word c.args.place) ∙ sym (bits-at 64 c.args.word c.args.place c.requires)
