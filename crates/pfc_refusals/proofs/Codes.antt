-- The words of the codes of the scanner and of the syntax.
use Rattle.std.proofs.Common.{◌≡◌, refl, sym, subst}
use Rattle.std.specs.Prelude.{ℕ, List, IsTrue}
use Rattle.pfc_scan.specs.Scanning.{IsScanCode, bad_byte, open_comment, open_literal, large_number, real_number, long_name}
use Rattle.pfc_tree.specs.Symbols.{Symbol}
use Rattle.pfc_tree.specs.Grammar.{IsSyntaxFault, unexpected, deep}
use Rattle.pfc_refusals.specs.Words.{has_words}

-- a code that is one with words
same_code : (code known : ℕ) → code ≡ known → IsTrue (has_words known) → IsTrue (has_words code)
same_code code known e h = subst (λ c. IsTrue (has_words c)) (sym e) h

pub scanner_worded : (code : ℕ) → IsScanCode code → IsTrue (has_words code)
scanner_worded code (bad_byte e) = same_code code 101 e refl
scanner_worded code (open_comment e) = same_code code 102 e refl
scanner_worded code (open_literal e) = same_code code 103 e refl
scanner_worded code (large_number e) = same_code code 104 e refl
scanner_worded code (real_number e) = same_code code 105 e refl
scanner_worded code (long_name e) = same_code code 106 e refl

pub syntax_worded : (kinds : List Symbol) (code i : ℕ) → IsSyntaxFault kinds code i → IsTrue (has_words code)
syntax_worded kinds _ _ (unexpected i h before) = refl
syntax_worded kinds _ _ (deep i h before) = refl
