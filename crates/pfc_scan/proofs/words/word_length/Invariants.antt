use Rattle.std.proofs.Common.{◌≡◌, ◌+◌, drop}
use Rattle.std.specs.List.{prefix_len}
use Rattle.pfc_base.specs.Names.{is_name_part}
use Rattle.pfc_scan.proofs.words.word_length.Given as goal

abbrev pub invariant-loop-at : goal.invariant-loop-at
invariant-loop-at l = l.at + prefix_len is_name_part (drop l.at l.text) ≡ prefix_len is_name_part l.text
