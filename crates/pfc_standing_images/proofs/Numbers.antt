-- A block is found by its scope at its number.
use Rattle.std.proofs.Common.{◌≡◌, ℕ, zero, suc, ◌<◌, ◌==◌, Bool, true, false, cond, nat_lt, List, [], ◌∷◌, length, find, Some, None, unwrap_or, refl, ap, ◌∙◌}
use Rattle.std.proofs.Common.{sym, arith}
use Rattle.std.specs.Prelude.{slice_get}
use Rattle.std.specs.List.{position_or_len}
use Rattle.std.proofs.lemmas.Option.{none-some, same_Some, slice_get_within}
use Rattle.std.proofs.lemmas.Bool.Decides.{nat_tests}
use Rattle.std.proofs.lemmas.List.Folds.{find_at}
use Rattle.pfc_semantics.specs.Programs.{Block, Program, found_block, block_at, block_number}

same_number : (i j : ℕ) → i ≡ j → (i == j) ≡ true
same_number i j e = grind (arith, nat_tests)

-- the first block with this scope, where there is one
found_there : (bs : List Block) (other : Block) (i k : ℕ) (b : Block) → slice_get bs k ≡ Some b → b.scope ≡ i
    → find (λ x. x.scope == i) bs ≡ Some (found_block bs i other)
found_there [] other i k b is scope = absurd (none-some b is)
found_there (x ∷ bs) other i k b is scope = by (x.scope == i) refl k is (λ j at. found_there bs other i j b at scope)
  where
    by : (r : Bool) → (x.scope == i) ≡ r → (k : ℕ) → slice_get (x ∷ bs) k ≡ Some b
        → ((j : ℕ) → slice_get bs j ≡ Some b → find (λ y. y.scope == i) bs ≡ Some (found_block bs i other))
        → cond r (Some x) (find (λ y. y.scope == i) bs) ≡ Some (cond r x (found_block bs i other))
    by true e k is rest = refl
    by false e zero is rest =
        let same : x.scope ≡ i = ap (λ (y : Block). y.scope) (same_Some x b is) ∙ scope in
        let yes : (x.scope == i) ≡ true = same_number x.scope i same in absurd (cc)
    by false e (suc k) is rest = rest k is

pub block_there : (p : Program) (i k : ℕ) (b : Block) → slice_get p.blocks k ≡ Some b → b.scope ≡ i
    → slice_get p.blocks (block_number p i) ≡ Some (block_at p i)
block_there p i k b is scope =
    let f = λ (x : Block). x.scope == i in
    let at = position_or_len f p.blocks in
    let there : slice_get p.blocks at ≡ Some (block_at p i) = sym (find_at f p.blocks) ∙ found_there p.blocks p.main i k b is scope in
    let within : at < length p.blocks = slice_get_within p.blocks at (block_at p i) there in
    let test : nat_lt at (length p.blocks) ≡ true = grind (arith, nat_tests) in
    let number : block_number p i ≡ at = ap (λ (r : Bool). unwrap_or (cond r (Some at) None) 0) test in
    ap (λ n. slice_get p.blocks n) number ∙ there
