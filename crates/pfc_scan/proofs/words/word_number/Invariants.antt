use Rattle.std.proofs.Common.{◌≡◌, ◌+◌, ◌≤◌, length, map}
use Rattle.std.specs.Str.{str_to_ascii_lowercase}
use Rattle.pfc_scan.specs.Pieces.{word_number}
use Rattle.pfc_scan.specs.Finding.{found_from}
use Rattle.pfc_scan.proofs.words.word_number.Given as goal

abbrev pub invariant-loop-words : goal.invariant-loop-words
invariant-loop-words l = record {
  rest : found_from l.number (map (λ w. str_to_ascii_lowercase w.now) l.words) (str_to_ascii_lowercase l.piece) ≡ word_number (str_to_ascii_lowercase l.piece);
  few : l.number + length l.words ≤ 46;
}

abbrev pub decreases-loop-words : goal.decreases-loop-words
decreases-loop-words l = length l.words
