-- Statements within others have their numbers; and what is left behind a statement is low where the statement is placed.
use Rattle.std.proofs.Common.{◌≡◌, ◌≤◌, ◌<◌, ℕ, ◌+◌, Bool, true, false, refl, arith}
use Rattle.pfc_tree.specs.trees.Stmts.{StmtTrees, no_stmts, more_stmts}
use Rattle.std.specs.Prelude.{◌==◌, ◌||◌}
use Rattle.std.specs.List.{list_any}
use Rattle.std.proofs.lemmas.Bool.Decides.{nat_tests}
use Rattle.pfc_types.specs.Scopes.{Level}
use Rattle.pfc_types.specs.rules.Expressions.{Env}
use Rattle.pfc_types.specs.rules.Statements.{within_accept, stmts_scopes}
use Rattle.pfc_semantics.specs.Programs.{Block}
use Rattle.pfc_semantics.specs.Remainders.{Remainder, ends, perform, in_names, turn, until, behind_pass, next_pass, write_on, read_on, at_coend, part_from}
use Rattle.pfc_semantics.specs.Remainders.{write_again, go_through, try_guard, scan_on, try_other}
use Rattle.pfc_semantics.specs.Statements.{behind}
use Rattle.pfc_accept_laws.specs.Places.{IsBefore, IsLow, IsPlaced, PlacesStmts}

further : (i n m : ℕ) → i < n → n ≤ m → i < m
further i n m less up = omega (arith, less, up)

pub before_more : (n m : ℕ) (env : Env) → n ≤ m → IsBefore n env → IsBefore m env
before_more n m env up before i there = further i n m (before i there) up

-- in the statement of an accept
pub before_within : (n : ℕ) (env : Env) → IsBefore n env → IsBefore (n + 1) (within_accept env n)
before_within n env before i there = by (n == i) refl there
  where
    here : (n i : ℕ) → (n == i) ≡ true → i < n + 1
    here n i is = grind (arith, nat_tests, is)

    later : (n i : ℕ) → i < n → i < n + 1
    later n i less = omega (arith, less)

    by : (t : Bool) → (n == i) ≡ t → (t || list_any (λ (level : Level). level.scope == i) env.view) ≡ true → i < n + 1
    by true is e = here n i is
    by false is e = later n i (before i e)

pub low_more : (n m : ℕ) (k : Remainder) → n ≤ m → IsLow n k → IsLow m k
low_more n m (ends line) up low = tt
low_more n m (perform i ss k) up low = low_more n m k up low
low_more n m (in_names inner k) up low = (before_more n m inner up low.0, low_more n m k up low.1)
low_more n m (turn i loop k) up low = low_more n m k up low
low_more n m (until i ss e p k) up low = low_more n m k up low
low_more n m (behind_pass f k) up low = low_more n m k up low
low_more n m (next_pass f k) up low = low_more n m k up low
low_more n m (write_on line args newline k) up low = low_more n m k up low
low_more n m (read_on line args skip k) up low = low_more n m k up low
low_more n m (at_coend line k) up low = low_more n m k up low
low_more n m (part_from caller line k) up low = low_more n m k up low
low_more n m (write_again r k) up low = low_more n m k up low
low_more n m (go_through line a rest s k) up low = low_more n m k up low
low_more n m (try_guard bar k) up low = low
low_more n m (scan_on s k) up low = low
low_more n m (try_other w s k) up low = low

pub low_behind : (n m : ℕ) (ss : StmtTrees) (k : Remainder) → IsLow n k → IsLow n (behind m ss k)
low_behind n m no_stmts k low = low
low_behind n m (more_stmts s ss) k low = low

from_front : (n x : ℕ) → n ≤ n + x
from_front n x = omega arith

in_front : (n x y i : ℕ) → i < n + x → i < n + (x + y)
in_front n x y i less = omega (arith, less)

in_back : (n x i : ℕ) → n + x ≤ i → n ≤ i
in_back n x i up = omega (arith, up)

to_back : (n x y i : ℕ) → i < n + x + y → i < n + (x + y)
to_back n x y i less = omega (arith, less)

-- ## Parts of what is placed

module _ (b : Block) (env : Env) (n : ℕ) (k : Remainder) where
  pub front : (x y : ℕ) → IsPlaced b env n (x + y) k → IsPlaced b env n x k
  front x y placed = (placed.0, placed.1, λ i up less. placed.2 i up (in_front n x y i less))

  pub back : (x y : ℕ) → IsPlaced b env n (x + y) k → IsPlaced b env (n + x) y k
  back x y placed = (
    before_more n (n + x) env (from_front n x) placed.0,
    low_more n (n + x) k (from_front n x) placed.1,
    λ i up less. placed.2 i (in_back n x i up) (to_back n x y i less),
  )

  -- before what is left and statements
  pub before_others : (m : ℕ) (ss : StmtTrees) (x : ℕ) → IsPlaced b env n x k → IsPlaced b env n x (behind m ss k)
  before_others m ss x placed = (placed.0, low_behind n m ss k placed.1, placed.2)

  pub placed_stmts : (ss : StmtTrees) → IsPlaced b env n (stmts_scopes ss) k → PlacesStmts b env k n ss
  placed_stmts no_stmts placed = tt
  placed_stmts (more_stmts s ss) placed = placed
