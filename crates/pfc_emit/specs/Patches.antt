-- Code that is still being made, and the patch of an address in it.
use Rattle.std.specs.Prelude.{ℕ, suc, zero, Bool, false, List, [], ◌∷◌}
use Rattle.pfc_code.specs.declared.instructions.Instr.{Instr}
use Rattle.pfc_emit.specs.Addresses.{has_address, retargeted}

-- instructions by their address from 0, each with its line
abbrev pub Lined : Type 0
Lined = List (Instr × ℕ)

-- an instruction that has an address argument stands at this address
abbrev pub has_address_at : Lined → ℕ → Bool
has_address_at [] at = false
has_address_at (pair ∷ code) zero = has_address pair.0
has_address_at (pair ∷ code) (suc at) = has_address_at code at

-- The code in which the instruction at one address has `target` for its address argument. All else is as it was: the
-- lines, the other instructions, and an instruction without an address argument.
abbrev pub patched : Lined → ℕ → ℕ → Lined
patched [] at target = []
patched (pair ∷ code) zero target = (retargeted pair.0 target, pair.1) ∷ code
patched (pair ∷ code) (suc at) target = pair ∷ patched code at target
