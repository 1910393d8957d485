-- Those who come before a delay, or stand at lesser objects, stand first in the sorted list.
use Rattle.std.proofs.Common.{◌≡◌, ℕ, ◌≤◌, true, nat_lt, Option, List, arith, refl}
use Rattle.std.specs.List.Sorted.{IsPartitionedBy}
use Rattle.std.proofs.lemmas.Bool.Decides.{nat_tests}
use Rattle.pfc_sorted.specs.Sorted.{passes, AreSorted}
use Rattle.pfc_sorted.proofs.Searches.{parted}
use Rattle.pfc_ranks.specs.declared.ranks.Delay.{Delay}
use Rattle.pfc_ranks.specs.Delays.{is_before}
use Rattle.pfc_ranks.specs.Sorted.{comes_first}
use Rattle.pfc_ranks.proofs.Order.{before-low, before-trans, not-itself}

-- nobody comes before himself
pub never-first : (p : ℕ) (a : Delay) → comes_first p a p a ≡ true → ⊥
never-first p a h = not-itself ⊥ a a refl h

pub parted-before : (sorted : List ℕ) (delays : List (Option Delay)) (delay : Delay) → AreSorted comes_first sorted delays
    → IsPartitionedBy (passes (λ p other. is_before other delay) delays) sorted
parted-before sorted delays delay h = parted comes_first (λ p other. is_before other delay) (λ p q a b e f. before-trans a b delay e f) sorted delays h

lower : (a b c : ℕ) → a ≤ b → nat_lt b c ≡ true → nat_lt a c ≡ true
lower a b c low less = grind (arith, nat_tests)

pub parted-by-object : (sorted : List ℕ) (delays : List (Option Delay)) (object : ℕ) → AreSorted comes_first sorted delays
    → IsPartitionedBy (passes (λ p other. nat_lt other.object object) delays) sorted
parted-by-object sorted delays object h =
    parted comes_first (λ p other. nat_lt other.object object) (λ p q a b e f. lower a.object b.object object (before-low a b e) f) sorted delays h
