-- Alternatives of selects, as the code laws have them and as the machine keeps them.
use Rattle.std.specs.Prelude.{ℕ, zero, suc, ◌≡◌, ℤ, pos, List, [], ◌∷◌, ◌++◌, length}
use Rattle.pfc_code.specs.declared.instructions.Instr.{Instr}
use Rattle.pfc_code.specs.declared.instructions.Instr.TheVariants.{ARMS, ARMR, ARMA, ARMT, ARMX}
use Rattle.pfc_stacks.specs.Refs.{number_of}
use Rattle.pfc_machines.specs.declared.alternatives.Alternative.{Alternative}
use Rattle.pfc_machines.specs.declared.alternatives.Offer.{Offer}
use Rattle.pfc_machines.specs.declared.alternatives.Offer.TheVariants.{Send, Receive, Accept, Timeout, Terminate}
use Rattle.pfc_standing_code.specs.Effects.{Arm}

abbrev pub made : ℕ → Offer → ℕ → Alternative
made depth offer branch = record { activation = depth; offer = offer; branch = branch }

-- a receive: the address over the channel's number, or the number alone
abbrev pub IsReceiving : ℕ → ℕ → List ℤ → ℕ → Alternative → Type 0
IsReceiving depth zero operands to a = (n : ℤ) × (operands ≡ n ∷ []) × (a ≡ made depth (Receive (number_of n) 0 (pos 0)) to)
IsReceiving depth (suc z) operands to a = (n word : ℤ) × (operands ≡ word ∷ n ∷ []) × (a ≡ made depth (Receive (number_of n) (suc z) word) to)

-- The machine's alternative, made by an activation by its place among those of its process, from 1, is that which an instruction makes of these
-- operands; it keeps these words for its message, the last first.
abbrev pub IsMadeBy : ℕ → Instr → List ℤ → Alternative → List ℤ → Type 0
IsMadeBy depth (ARMS z to) operands a words =
    (n : ℤ) × (operands ≡ words ++ n ∷ []) × (length words ≡ z) × (a ≡ made depth (Send (number_of n) z) to)
IsMadeBy depth (ARMR z to) operands a words = (words ≡ []) × IsReceiving depth z operands to a
IsMadeBy depth (ARMA e d z to) operands a words = (words ≡ []) × (a ≡ made depth (Accept e d z) to)
IsMadeBy depth (ARMT to) operands a words = (n : ℕ) × (operands ≡ pos n ∷ []) × (words ≡ []) × (a ≡ made depth (Timeout n) to)
IsMadeBy depth ARMX operands a words = (words ≡ []) × (a ≡ made depth Terminate 0)
IsMadeBy depth i operands a words = ⊥

abbrev pub IsMade : ℕ → Arm → Alternative → List ℤ → Type 0
IsMade depth arm a words = IsMadeBy depth arm.by arm.operands a words

-- An activation has made these alternatives, in their order, over what was made before; the machine has the last first.
pub data AreMade (depth : ℕ) (alternatives : List Alternative) (words : List ℤ) : List Arm → List Alternative → List ℤ → Type 0 where
  none_made : AreMade depth alternatives words [] alternatives words
  one_made : (arms : List Arm) (before : List Alternative) (ws : List ℤ) (arm : Arm) (a : Alternative) (message : List ℤ)
      → AreMade depth alternatives words arms before ws → IsMade depth arm a message
      → AreMade depth alternatives words (arms ++ arm ∷ []) (a ∷ before) (message ++ ws)
