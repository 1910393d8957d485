-- Instructions that get an address.
use Rattle.std.specs.Prelude.{ℕ, Bool, true, ◌&&◌, List, [], ◌∷◌}
use Rattle.pfc_emit.specs.Patches.{Lined, has_address_at, patched}

-- all these instructions have an address argument
abbrev pub have_all : Lined → List ℕ → Bool
have_all code [] = true
have_all code (at ∷ ats) = has_address_at code at && have_all code ats

-- and get this one
abbrev pub all_led : Lined → List ℕ → ℕ → Lined
all_led code [] target = code
all_led code (at ∷ ats) target = all_led (patched code at target) ats target
