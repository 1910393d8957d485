-- What the laws say of single instructions, and of the instructions of a block together.
use Rattle.std.specs.Prelude.{◌≡◌, ℕ, ◌+◌, ◌<◌, ◌≤◌, true, false, List, [], ◌∷◌}
use Rattle.std.specs.Option.{IfSome}
use Rattle.pfc_code.specs.declared.instructions.Instr.{Instr}
use Rattle.pfc_image_laws.specs.Operands.{address_ahead, address_back, ends_body, is_end, block_in, text_in, links_in, open_behind}

-- P holds of each of the instructions from an address on, with its address.
abbrev pub Each : (ℕ → Instr → Type 0) → ℕ → List Instr → Type 0
Each P at [] = Unit {0}
Each P at (i ∷ code) = P at i × Each P (at + 1) code

-- Where an instruction leads on, it leads ahead, to an address of at most `to`; where it turns back, not before `from`. A loop with nothing
-- in it turns back to itself.
abbrev pub Leads : ℕ → ℕ → ℕ → Instr → Type 0
Leads from to at i = IfSome (address_ahead i) (λ a. (at < a) × (a ≤ to)) × IfSome (address_back i) (λ a. (from ≤ a) × (a ≤ at))

-- It ends no body, and is not the turn of a scan.
abbrev pub GoesOn : ℕ → Instr → Type 0
GoesOn at i = is_end i ≡ false

-- The block that it calls or creates is one of so many.
abbrev pub NamesBlock : ℕ → ℕ → Instr → Type 0
NamesBlock count at i = IfSome (block_in i) (λ b. b < count)

-- The string that it writes has a place from `first` on and before `last`.
abbrev pub NamesText : ℕ → ℕ → ℕ → Instr → Type 0
NamesText first last at i = IfSome (text_in i) (λ s. (first ≤ s) × (s < last))

-- It follows no more static links than a block of this level has.
abbrev pub StaysAbove : ℕ → ℕ → Instr → Type 0
StaysAbove level at i = IfSome (links_in i) (λ l. l ≤ level)

-- The last instruction ends a body, and no other does, nor is one the turn of a scan.
abbrev pub IsEnded : List Instr → Type 0
IsEnded [] = ⊥
IsEnded (i ∷ []) = ends_body i ≡ true
IsEnded (i ∷ (j ∷ code)) = (is_end i ≡ false) × IsEnded (j ∷ code)

-- Code is gone through from its first to its last instruction, with so many alternatives of a select open before it and so many behind it:
-- never are more than `most` open. Where a jump leaves some out, fewer are.
abbrev pub Opens : ℕ → ℕ → ℕ → List Instr → Type 0
Opens most before behind [] = before ≡ behind
Opens most before behind (i ∷ code) = (open_behind i before ≤ most) × Opens most (open_behind i before) behind code
