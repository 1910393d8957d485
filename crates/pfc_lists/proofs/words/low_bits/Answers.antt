use Rattle.std.proofs.Common.{◌-◌, ap, ◌∙◌}
use Rattle.std.specs.Prelude.{bit_and}
use Rattle.std.proofs.lemmas.Nat.{and_mask, one_shl}
use Rattle.pfc_lists.proofs.words.low_bits.Goals as goal

pub returns : goal.returns
returns c = ap (λ v. bit_and c.args.word (v - 1)) (one_shl c.args.count 64 c.requires) ∙ and_mask c.args.word c.args.count
