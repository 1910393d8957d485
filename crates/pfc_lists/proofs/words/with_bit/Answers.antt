use Rattle.std.proofs.Common.{◌==◌, w64, sym, ap, ◌∙◌}
use Rattle.std.proofs.lemmas.Nat.Bits.{bit_at_set_same, bit_at_set_other, bit_at_clear_same, bit_at_clear_other}
use Rattle.pfc_lists.proofs.Bits.{bits-set}
use Rattle.pfc_lists.proofs.words.with_bit.Goals as goal

pub returns-then-held : goal.returns-then-held
returns-then-held c =
    bits-set 64 _ c.args.word c.args.place c.args.held c.requires
    (ap (λ v. v == 1) (bit_at_set_same w64 c.args.word c.args.place c.requires) ∙ sym c.if-held.true)
    (λ i lt ne. bit_at_set_other w64 c.args.word c.args.place c.requires i ne)

pub returns-else-held : goal.returns-else-held
returns-else-held c =
    bits-set 64 _ c.args.word c.args.place c.args.held c.requires
    (ap (λ v. v == 1) (bit_at_clear_same w64 c.args.word c.args.place c.requires) ∙ sym c.if-held.false)
    (λ i lt ne. bit_at_clear_other w64 c.args.word c.args.place c.requires i lt ne)
