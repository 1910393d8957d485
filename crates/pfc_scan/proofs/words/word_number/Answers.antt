use Rattle.std.proofs.Common.{map, arith}
use Rattle.std.specs.Str.{str_to_ascii_lowercase}
use Rattle.pfc_scan.proofs.Reserved.{by_letter}
use Rattle.pfc_scan.proofs.words.word_number.Goals as goal

pub loop-words-init : goal.loop-words-init
loop-words-init c = record {
  rest = by_letter c.words_by_letter-number.result.0 (map (λ w. str_to_ascii_lowercase w.now) c.words_by_letter-number.result.1.now)
      c.to_ascii_lowercase.result c.args.piece.now c.requires
      c.to_ascii_lowercase.ensures.value c.words_by_letter-number.ensures.all;
  few = omega (arith, c.words_by_letter-number.ensures.few);
}
