-- A script cut at its first item.
use Rattle.std.specs.Prelude.{◌≡◌, ℕ, ◌<◌, suc, if◌then◌else◌, List, [], ◌∷◌, length, Option, Some, None, Err}
use Rattle.pfc_sched.specs.declared.script_text.ScriptFault.{ScriptFault}
use Rattle.pfc_sched.specs.declared.script_text.ScriptFault.TheVariants.{NotANumber, Memory}
use Rattle.pfc_sched.specs.Script.{script, items_of, is_blank}

-- the script's first item that is no number has the number of the refusal
abbrev pub IsRefusedScript : List ℕ → ScriptFault → Type 0
IsRefusedScript bytes (NotANumber item) = script bytes ≡ Err item
IsRefusedScript bytes Memory = Unit {0}

abbrev pub blanks_before : List ℕ → ℕ
blanks_before [] = 0
blanks_before (b ∷ rest) = if is_blank b then suc (blanks_before rest) else 0

abbrev pub bytes_before_blank : List ℕ → ℕ
bytes_before_blank [] = 0
bytes_before_blank (b ∷ rest) = if is_blank b then 0 else suc (bytes_before_blank rest)

-- the first item, and the bytes behind it, in which the other items are
pub record IsCutAt (bytes item after : List ℕ) : Type 0 where
  pub items : items_of bytes ≡ item ∷ items_of after
  pub shorter : length after < length bytes

abbrev pub IsFirstItem : List ℕ → Option (List ℕ × List ℕ) → Type 0
IsFirstItem bytes None = items_of bytes ≡ []
IsFirstItem bytes (Some cut) = IsCutAt bytes cut.0 cut.1
