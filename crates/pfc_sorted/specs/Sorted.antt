-- How a list of processes is tied to their keys.
use Rattle.std.specs.Prelude.{ℕ, suc, ◌<◌, ◌≤◌, ◌≡◌, Bool, true, false, Option, None, Some, List, [], ◌∷◌, length, slice_index_or}
use Rattle.std.specs.List.{AllWithin}

-- the key of a process; a process past the end has none
abbrev pub key_at : {K : Type 0} → List (Option K) → ℕ → Option K
key_at keys p = slice_index_or keys p None

-- the process at a place of the list
abbrev pub process_at : List ℕ → ℕ → ℕ
process_at sorted i = slice_index_or sorted i 0

-- how many have a key
abbrev pub count_keys : {K : Type 0} → List (Option K) → ℕ
count_keys [] = 0
count_keys (Some key ∷ rest) = suc (count_keys rest)
count_keys (None ∷ rest) = count_keys rest

abbrev pub key_passes : {K : Type 0} → (K → Bool) → Option K → Bool
key_passes test (Some key) = test key
key_passes test None = false

-- whether the process has a key that, with its number, passes the test
abbrev pub passes : {K : Type 0} → (ℕ → K → Bool) → List (Option K) → ℕ → Bool
passes test keys p = key_passes (test p) (key_at keys p)

-- those that pass the test stand before the place, and the others from it on
pub record IsParted (test : ℕ → Bool) (sorted : List ℕ) (place : ℕ) : Type 0 where
  pub within : place ≤ length sorted
  pub before : AllWithin (λ q. test q ≡ true) sorted 0 place
  pub behind : AllWithin (λ q. test q ≡ false) sorted place (length sorted)

-- a place of the list at which the process stands
pub record IsPlace (sorted : List ℕ) (p place : ℕ) : Type 0 where
  pub within : place < length sorted
  pub is : process_at sorted place ≡ p

-- the list has each process that has a key, once, in the order of the processes with their keys
pub record AreSorted {K : Type 0} (before : ℕ → K → ℕ → K → Bool) (sorted : List ℕ) (keys : List (Option K)) : Type 0 where
  pub count : length sorted ≡ count_keys keys
  pub each : (i : ℕ) → i < length sorted → (key : K) × (key_at keys (process_at sorted i) ≡ Some key)
  pub every : (p : ℕ) (key : K) → key_at keys p ≡ Some key → (i : ℕ) × IsPlace sorted p i
  pub rising : (i j : ℕ) (a b : K) → i < j → j < length sorted → key_at keys (process_at sorted i) ≡ Some a → key_at keys (process_at sorted j) ≡ Some b
      → before (process_at sorted i) a (process_at sorted j) b ≡ true
