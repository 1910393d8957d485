-- Whether somebody is ready, by the numbers of the ready ones.
use Rattle.std.proofs.Common.{◌≡◌, ℕ, suc, ◌+◌, arith, Bool, true, false, not, ◌||◌, ◌==◌, List, [], ◌∷◌, length, if◌then◌else◌, refl}
use Rattle.std.proofs.lemmas.Bool.Decides.{nat_tests}
use Rattle.pfc_state.specs.Stands.{Stand, is_ready}
use Rattle.pfc_world.specs.Ready.{ready_from, ready_numbers}
use Rattle.pfc_world.specs.Tables.{some_ready}

one_more : (b : Bool) (p : ℕ) (ns : List ℕ) (some : Bool) → (length ns == 0) ≡ not some
    → (let all : List ℕ = if b then p ∷ ns else ns in length all == 0) ≡ not (b || some)
one_more true p ns some e = let none : (suc (length ns) == 0) ≡ false = grind (arith, nat_tests) in none
one_more false p ns some e = e

none_from : (p : ℕ) (rows : List Stand) → (length (ready_from p rows) == 0) ≡ not (some_ready rows)
none_from p [] = refl
none_from p (stand ∷ rows) = one_more (is_ready stand) p (ready_from (p + 1) rows) (some_ready rows) (none_from (p + 1) rows)

pub none_ready : (rows : List Stand) → (length (ready_numbers rows) == 0) ≡ not (some_ready rows)
none_ready rows = none_from 0 rows
