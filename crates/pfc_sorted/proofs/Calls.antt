-- The calls of a test.
use Rattle.std.proofs.Common.{◌≡◌, ℕ, Bool, List, [], ◌∷◌, Bor}
use denote.Param.Members.{Mut}
use Rattle.std.specs.Fn.{Called, ComputesKey}
use Rattle.std.specs.List.Sorted.{IsPartitionedBy}
use Rattle.std.proofs.lemmas.Fn.{always_returns_same}
use Rattle.pfc_sorted.specs.Sorted.{IsParted}

-- a call answers what the test computes, and so do those behind it
pub next : {F X K : Type 0} (g : Mut F (Bor X × Unit {0}) K) (key : X → K) (f f' : F) (a : Bor X × Unit {0}) (r : K) → ComputesKey g key f → Called g f a r f'
    → (r ≡ key a.0.now) × ComputesKey g key f'
next g key f f' a r h k = ((h.at (a ∷ []) r f' k).0, record { at = λ xs. (h.at (a ∷ xs) r f' k).1 })

module _ (p : ℕ → Bool) where
  -- from the clause of `count_passing`, where each call gives p of the process
  pub parted-from_clause : {F : Type 0} {g : Mut F (Bor ℕ × Unit {0}) Bool} {f : F} (sorted : List ℕ) (place : ℕ)
      → ((q : ℕ → Bool) → ComputesKey g q f → IsPartitionedBy q sorted → IsParted q sorted place) → IsPartitionedBy p sorted
      → ((a : Bor ℕ × Unit {0}) (r : Bool) (f' : F) → Called g f a r f' → (r ≡ p a.0.now) × (f' ≡ f)) → IsParted p sorted place
  parted-from_clause {g = g} {f = f} sorted place clause parts h = clause p (always_returns_same g (λ a r. r ≡ p a.0.now) f h) parts
