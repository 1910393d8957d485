-- Code that was put behind all that was there.
use Rattle.std.specs.Prelude.{◌≡◌, ℕ, ◌+◌, ◌<◌, max, List, ◌++◌, length}
use Rattle.pfc_tree.specs.Symbols.{Text}
use Rattle.pfc_translation.specs.Codes.{Code, Lined}

-- what is made: code, the strings that it writes, in the order of the text, and the most alternatives of one select
pub record Made : Type 0 where
  pub code : Lined
  pub texts : List Text
  pub arms : ℕ

-- the code of a phrase, which now stands behind what was made before
pub record IsMade (c : Code) (before after : Made) : Type 0 where
  pub code : after.code ≡ before.code ++ c.put (length before.code) (length before.texts)
  pub texts : after.texts ≡ before.texts ++ c.texts
  pub arms : after.arms ≡ max before.arms c.arms
  pub size : length after.code ≡ length before.code + c.size

-- with what was made before, it has more than 200,000 instructions
abbrev pub IsTooLarge : Code → Made → Type 0
IsTooLarge c before = 200000 < length before.code + c.size
