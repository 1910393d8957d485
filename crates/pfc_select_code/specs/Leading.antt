-- Open alternatives are led to their branches.
use Rattle.std.specs.Prelude.{ℕ, ◌+◌, Bool, true, ◌&&◌, List, [], ◌∷◌, map, Option, Some, None}
use Rattle.pfc_emit.specs.Patches.{has_address_at, patched}
use Rattle.pfc_semantics.specs.Remainders.{Alternative}
use Rattle.pfc_translation.specs.Sites.{Site}
use Rattle.pfc_translation.specs.Codes.{Lined}
use Rattle.pfc_select_code.specs.Alternatives.{open_alternatives}

-- an instruction that has an address stands at each of these places
abbrev pub can_lead : Lined → List (Option ℕ) → Bool
can_lead code [] = true
can_lead code (None ∷ places) = can_lead code places
can_lead code (Some at ∷ places) = has_address_at code at && can_lead code places

-- the instruction at each place leads to the address that stands in the same place of the second list
abbrev pub led : Lined → List (Option ℕ) → List ℕ → Lined
led code [] targets = code
led code (place ∷ places) [] = code
led code (None ∷ places) (target ∷ targets) = led code places targets
led code (Some at ∷ places) (target ∷ targets) = led (patched code at target) places targets

-- the address of the first branch, behind alternatives that begin at an address and their SEL
abbrev pub first_branch : Site → ℕ → List Alternative → ℕ
first_branch s at alts = at + (open_alternatives s alts).size + 1

-- the addresses of branches by their distances from the first one
abbrev pub branch_addresses : ℕ → List ℕ → List ℕ
branch_addresses first distances = map (λ d. first + d) distances
