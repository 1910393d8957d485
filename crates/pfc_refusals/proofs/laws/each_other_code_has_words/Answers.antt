use Rattle.std.proofs.Common.{refl}
use Rattle.pfc_refusals.proofs.Codes.{scanner_worded, syntax_worded}
use Rattle.pfc_refusals.proofs.laws.each_other_code_has_words.Goals as goal

pub returns : goal.returns
returns c = record { scanner = scanner_worded; syntax = syntax_worded; size = refl }
