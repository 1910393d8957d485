use Rattle.std.proofs.Common.{◌∙◌, sym, ap, subst, take}
use Rattle.pfc_scan.specs.Pieces.{IsWord, word_reading}
use Rattle.pfc_scan.specs.Finding.{IsNextPiece}
use Rattle.pfc_scan.proofs.Fronts.{word_front, word_next}
use Rattle.pfc_scan.proofs.words.word_piece.Goals as goal

pub word_reading-requires : goal.word_reading-requires
word_reading-requires c = subst (λ n. IsWord (take n c.args.text.now)) (sym c.word_length-length.ensures.value) (word_front c.args.text.now c.requires)

pub returns : goal.returns
returns c =
    let n = c.word_length-length.ensures in
    subst (λ k. IsNextPiece c.args.text.now (record { length = k; reading = c.in_ok-reading.reading })) (sym n.value)
    (word_next c.args.text.now c.in_ok-reading.reading c.requires (rw n.value at n.within) (c.in_ok-reading.ensures ∙
    ap (λ k. word_reading (take k c.args.text.now)) n.value))
