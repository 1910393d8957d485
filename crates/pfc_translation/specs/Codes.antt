-- Code that is not yet placed.
--
-- How many instructions a phrase has does not depend on where they stand, so a jump counts the instructions that it leaves out. Where code
-- is put, its first address and the number of the first string behind it in the texts are given.
use Rattle.std.specs.Prelude.{ℕ, ◌+◌, ◌-◌, max, List, [], ◌∷◌, ◌++◌, length}
use Rattle.pfc_tree.specs.Symbols.{Text}
use Rattle.pfc_code.specs.declared.instructions.Instr.{Instr}
use Rattle.pfc_code.specs.declared.instructions.Instr.TheVariants.{WRS}
use Rattle.pfc_translation.specs.Sites.{Site}

infixr 60 ◌⨾◌
-- instructions with their lines
abbrev pub Lined : Type 0
Lined = List (Instr × ℕ)

pub record Code : Type 0 where
  pub size : ℕ
  -- the strings that are written in the phrase, in the order of the text
  pub texts : List Text
  -- the most alternatives of one select in it
  pub arms : ℕ
  -- the instructions from an address on, where so many strings stand before in the text
  pub put : ℕ → ℕ → Lined

abbrev pub nothing : Code
nothing = record { size = 0; texts = []; arms = 0; put = λ at n. [] }

-- one behind the other
abbrev pub ◌⨾◌ : Code → Code → Code
a ⨾ b =
    record {
      size = a.size + b.size;
      texts = a.texts ++ b.texts;
      arms = max a.arms b.arms;
      put = λ at n. a.put at n ++ b.put (at + a.size) (n + length a.texts);
    }

abbrev pub instruction : Site → (ℕ → ℕ → Instr) → Code
instruction s i = record { size = 1; texts = []; arms = 0; put = λ at n. (i at n, s.line) ∷ [] }

abbrev pub one : Site → Instr → Code
one s i = instruction s (λ at n. i)

-- an instruction with an address: that of the instruction behind it and so many more
abbrev pub over : Site → (ℕ → Instr) → ℕ → Code
over s i count = instruction s (λ at n. i (at + 1 + count))

-- an instruction with an address: so many before its own
abbrev pub back : Site → (ℕ → Instr) → ℕ → Code
back s i count = instruction s (λ at n. i (at - count))

-- a string that is written: w is 1 where its width is the last operand, else 0
abbrev pub string : Site → Text → ℕ → Code
string s x w = record (instruction s (λ at n. WRS n w)) { texts = x ∷ [] }

-- what gives no code: its strings and its selects are counted
abbrev pub unseen : Code → Code
unseen a = record a { size = 0; put = λ at n. [] }

-- a select with so many alternatives
abbrev pub with_arms : ℕ → Code → Code
with_arms k a = record a { arms = max k a.arms }
