-- The first place of a scope, and the block that stands there.
use Rattle.std.proofs.Common.{◌≡◌, ℕ, ◌+◌, ◌<◌, ◌==◌, zero, suc, Bool, true, false, cond, List, [], ◌∷◌, length, map, get_or, position, Option, Some, None}
use Rattle.std.proofs.Common.{refl, sym, ap, ◌∙◌, arith}
use Rattle.std.specs.List.{position_from}
use Rattle.std.proofs.lemmas.Iterator.Adapters.{position_from-zero}
use Rattle.std.proofs.lemmas.List.Quantifiers.{position-Some}
use Rattle.pfc_semantics.specs.Programs as programs
use Rattle.pfc_program.specs.Views.{block_view, blocks_view}
use Rattle.pfc_program.specs.declared.tables.Tables.{Tables}
use Rattle.pfc_program.specs.declared.blocks.Block.{Block}
use Rattle.pfc_program.specs.Firsts.{HoldFirsts}

-- ## Of the scopes of blocks and of modules

from_map :
    {X Y : Type 0} (f : X → Y) (scope : Y → ℕ) (i n : ℕ) (xs : List X)
    → position_from (λ k. k == i) n (map (λ x. scope (f x)) xs) ≡ position_from (λ y. scope y == i) n (map f xs)
from_map f scope i n [] = refl
from_map f scope i n (x ∷ xs) = ap (λ r. cond (scope (f x) == i) (Some n) r) (from_map f scope i (n + 1) xs)

from_scopes :
    {X : Type 0} (scope : X → ℕ) (i n : ℕ) (xs : List X)
    → position_from (λ k. k == i) n (map scope xs) ≡ position_from (λ x. scope x == i) n xs
from_scopes scope i n [] = refl
from_scopes scope i n (x ∷ xs) = ap (λ r. cond (scope x == i) (Some n) r) (from_scopes scope i (n + 1) xs)

pub first_scope :
    {X : Type 0} (scope : X → ℕ) (i : ℕ) (xs : List X)
    → position_from (λ k. k == i) 0 (map scope xs) ≡ position (λ x. scope x == i) xs
first_scope scope i xs = from_scopes scope i 0 xs ∙ sym (position_from-zero (λ x. scope x == i) xs)

pub first_block :
    (t : Tables) (i : ℕ) (bs : List Block)
    → position_from (λ k. k == i) 0 (map (λ b. b.scope) bs) ≡ position (λ b. b.scope == i) (blocks_view t bs)
first_block t i bs =
    from_map (λ b. block_view t b) (λ (b : programs.Block). b.scope) i 0 bs
    ∙ sym (position_from-zero (λ (b : programs.Block). b.scope == i) (blocks_view t bs))

-- ## The block that stands there

first_none :
    (test : Bool) (n : ℕ) (behind : Option ℕ) (b found other : programs.Block)
    → cond test (Some n) behind ≡ None → (behind ≡ None → found ≡ other) → cond test b found ≡ other
first_none true n behind b found other is later = cc
first_none false n behind b found other is later = later is

pub none_found :
    (t : Tables) (i n : ℕ) (bs : List Block) (other : programs.Block)
    → position_from (λ k. k == i) n (map (λ b. b.scope) bs) ≡ None → programs.found_block (blocks_view t bs) i other ≡ other
none_found t i n [] other is = refl
none_found t i n (b ∷ bs) other is =
    first_none (b.scope == i) n (position_from (λ k. k == i) (n + 1) (map (λ (x : Block). x.scope) bs)) (block_view t b)
    (programs.found_block (blocks_view t bs) i other) other is
    (λ later. none_found t i (n + 1) bs other later)

pub some_found :
    (t : Tables) (i k : ℕ) (bs : List Block) (other : programs.Block) (d : Block)
    → k < length bs → ((get_or bs k d).scope == i) ≡ true → ((j : ℕ) → j < k → ((get_or bs j d).scope == i) ≡ false)
    → programs.found_block (blocks_view t bs) i other ≡ block_view t (get_or bs k d)
some_found t i k [] other d within here before = absurd (omega (arith, within))
some_found t i zero (b ∷ bs) other d within here before =
    ap (λ test. cond test (block_view t b) (programs.found_block (blocks_view t bs) i other)) here
some_found t i (suc k) (b ∷ bs) other d within here before =
    ap (λ test. cond test (block_view t b) (programs.found_block (blocks_view t bs) i other)) (before 0 (omega arith))
    ∙ some_found t i k bs other d (omega (arith, within)) here (λ j less. before (suc j) (omega (arith, less)))

-- ## By the table

-- what a look-up in the table says
pub looked_up :
    {X : Type 0} (scope : X → ℕ) (xs : List X) (firsts : List (Option ℕ)) (i : ℕ) (r : Option ℕ)
    → HoldFirsts scope xs firsts → r ≡ get_or firsts i None → r ≡ position (λ x. scope x == i) xs
looked_up scope xs firsts i r held is = is ∙ held i ∙ first_scope scope i xs

pub record IsThere (t : Tables) (bs : List Block) (i n : ℕ) (other : programs.Block) (d : Block) : Type 0 where
  pub within : n < length bs
  pub found : programs.found_block (blocks_view t bs) i other ≡ block_view t (get_or bs n d)

pub block_there :
    (t : Tables) (bs : List Block) (firsts : List (Option ℕ)) (i n : ℕ) (r : Option ℕ) (other : programs.Block) (d : Block)
    → HoldFirsts (λ (b : Block). b.scope) bs firsts → r ≡ get_or firsts i None → r ≡ Some n → IsThere t bs i n other d
block_there t bs firsts i n r other d held is some =
    let first = position-Some (λ (b : Block). b.scope == i) bs n d (sym (looked_up (λ (b : Block). b.scope) bs firsts i r held is) ∙ some) in
    record { within = first.0; found = some_found t i n bs other d first.0 first.1 first.2 }

pub block_not_there :
    (t : Tables) (bs : List Block) (firsts : List (Option ℕ)) (i : ℕ) (r : Option ℕ) (other : programs.Block)
    → HoldFirsts (λ (b : Block). b.scope) bs firsts → r ≡ get_or firsts i None → r ≡ None → programs.found_block (blocks_view t bs) i other ≡ other
block_not_there t bs firsts i r other held is none = none_found t i 0 bs other (sym (held i) ∙ sym is ∙ none)

pub number_there :
    (t : Tables) (bs : List Block) (firsts : List (Option ℕ)) (i : ℕ) (r : Option ℕ)
    → HoldFirsts (λ (b : Block). b.scope) bs firsts → r ≡ get_or firsts i None → r ≡ position (λ b. b.scope == i) (blocks_view t bs)
number_there t bs firsts i r held is = is ∙ held i ∙ first_block t i bs
