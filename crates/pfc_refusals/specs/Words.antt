-- Refusals whose line has words.
use Rattle.std.specs.Prelude.{ℕ, nat_lt, Bool, [], length, unwrap_or, IsTrue}
use Rattle.pfc_base.specs.declared.faults.Refusal.{Refusal}
use Rattle.pfc_report.specs.Refusals.{words_of_code}

-- the words in the line of a refusal with this code are not empty, so the table of refusals has the code
abbrev pub has_words : ℕ → Bool
has_words code = nat_lt 0 (length (unwrap_or (words_of_code code) []))

abbrev pub HasWords : Refusal → Type 0
HasWords refusal = IsTrue (has_words refusal.code)
