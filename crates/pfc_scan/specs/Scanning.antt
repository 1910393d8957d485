-- The answers of a scan beside the cuttings of its text.
use Rattle.std.specs.Prelude.{◌≡◌, ℕ, List, Result, Ok, Err}
use Rattle.pfc_scan.specs.declared.scanned.ScanFault.{ScanFault}
use Rattle.pfc_scan.specs.declared.scanned.ScanFault.TheVariants.{Refused, Memory}
use Rattle.pfc_scan.specs.declared.scanned.Scanned.{Scanned}
use Rattle.pfc_scan.specs.Cutting.{Cutting, tokens, refusal, IsCut}

-- a refusal is the cutting of the text; want of memory says nothing
abbrev pub IsRefused : List ℕ → ScanFault → Type 0
IsRefused text (Refused r) = IsCut text (refusal r)
IsRefused text Memory = Unit {0}

-- the answer is this cutting, unless memory is wanting
abbrev pub IsUnlessMemory : Result Scanned ScanFault → Cutting → Type 0
IsUnlessMemory (Ok s) c = c ≡ tokens s.tokens.items s.end
IsUnlessMemory (Err (Refused r)) c = c ≡ refusal r
IsUnlessMemory (Err Memory) c = Unit {0}

-- the codes of the scanner
pub data IsScanCode : ℕ → Type 0 where
  bad_byte : {code : ℕ} → code ≡ 101 → IsScanCode code
  open_comment : {code : ℕ} → code ≡ 102 → IsScanCode code
  open_literal : {code : ℕ} → code ≡ 103 → IsScanCode code
  large_number : {code : ℕ} → code ≡ 104 → IsScanCode code
  real_number : {code : ℕ} → code ≡ 105 → IsScanCode code
  long_name : {code : ℕ} → code ≡ 106 → IsScanCode code

abbrev pub HasScanCode : ScanFault → Type 0
HasScanCode (Refused r) = IsScanCode r.code
HasScanCode Memory = Unit {0}
