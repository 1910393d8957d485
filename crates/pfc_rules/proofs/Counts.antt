-- Names that are all counted.
use Rattle.std.proofs.Common.{◌≡◌, ℕ, ◌≤◌, ◌<◌, ◌≢◌, Option, Some, None, [], bytes_eq, length, refl, arith}
use Rattle.std.specs.Map.{keys_of}
use Rattle.std.proofs.lemmas.Map.Entries.{length-keys_of}
use Rattle.std.proofs.lemmas.List.Quantifiers.{position-Some}
use Rattle.pfc_tree.specs.Symbols.{Text}
use Rattle.pfc_types.specs.Scopes.{Names, position_in}
use Rattle.pfc_types.specs.rules.Bodies.{counted, passed}

-- where all names of a scope are counted, none that comes counts more
pub passed_all : (names : Names) (n : ℕ) (x : Text) → length names ≤ n → passed names n x ≡ n
passed_all names n x all = by (position_in names x) refl
  where
    by : (place : Option ℕ) → position_in names x ≡ place → counted place n ≡ n
    by None is = refl
    by (Some k) is =
        let held = position-Some (bytes_eq x) (keys_of names) k [] is in
        let below : k < length names = omega (arith, held.0, length-keys_of names) in
        let other : k ≢ n = omega arith in
        grind arith
