-- The frame of each accept of a process.
use Rattle.std.proofs.Common.{◌≡◌, ℕ, zero, suc, ◌+◌, ◌-◌, ◌<◌, ◌≤◌, Bool, true, ◌&&◌, if◌then◌else◌, List, [], ◌∷◌, length, take, drop, refl, sym, ap, ap₂}
use Rattle.std.proofs.Common.{◌∙◌, arith, length-append}
use Rattle.std.specs.Prelude.{nat_lt, nat_le}
use Rattle.pfc_types.specs.Scopes.{Names, scope_at}
use Rattle.pfc_types.specs.Blocks.{Blocks}
use Rattle.pfc_semantics.specs.Layouts.{laid_names, accepts_laid}
use Rattle.pfc_semantics.specs.Displays.{Frame, frame_of, accept_frames}
use Rattle.pfc_semantics.specs.Programs.{Block, Program}
use Rattle.pfc_translation.specs.Sites.{is_accept, before_accept}
use Rattle.pfc_views.specs.Views.{block_site}
use Rattle.pfc_call_laws.proofs.Displays.{is_same, is_other}

-- so many variables stand before the one but k-th scope, counted from the i-th on
abbrev pub laid_so_far : List Names → ℕ → ℕ → ℕ
laid_so_far scopes i k = length (accepts_laid (take k (drop i scopes)))

one_more : (scopes : List Names) (i k : ℕ) → laid_so_far scopes i (suc k) ≡ length (laid_names (scope_at scopes i)) + laid_so_far scopes (suc i) k
one_more [] zero zero = refl
one_more [] zero (suc k) = refl
one_more [] (suc i) zero = refl
one_more [] (suc i) (suc k) = refl
one_more (x ∷ scopes) zero k = length-append (laid_names x) (accepts_laid (take k scopes))
one_more (x ∷ scopes) (suc i) k = one_more scopes i k

abbrev frame_as : ℕ → ℕ → ℕ → Frame
frame_as i a first = record { scope = i; activation = a; first = first }

frame_same : (i j f h a : ℕ) → i ≡ j → f ≡ h → frame_as i a f ≡ frame_as j a h
frame_same i j f h a e k = ap₂ (λ x y. frame_as x a y) e k

module _ (blocks : Blocks) (a : ℕ) where
  frame_at : (n i first k : ℕ) → k < n → frame_of (accept_frames blocks a n i first) (i + k) ≡ record
      { scope = i + k; activation = a; first = first + laid_so_far blocks.scopes i k }
  frame_at zero i first k h = absurd (omega (arith, h))
  frame_at (suc n) i first zero h =
      let same : i ≡ i + 0 = omega arith in
      ap (λ (c : Bool). if c then record { scope = i; activation = a; first = first } else frame_of
      (accept_frames blocks a n (i + 1) (first + length (laid_names (scope_at blocks.scopes i)))) (i + 0)) (is_same i (i + 0) same)
      ∙ frame_same i (i + 0) first (first + 0) a same (omega arith)
  frame_at (suc n) i first (suc k) h =
      let own : ℕ = length (laid_names (scope_at blocks.scopes i)) in
      let far : (i + 1) + k ≡ i + suc k = omega arith in
      let more : laid_so_far blocks.scopes i (suc k) ≡ own + laid_so_far blocks.scopes (suc i) k = one_more blocks.scopes i k in
      let next : laid_so_far blocks.scopes (i + 1) k ≡ laid_so_far blocks.scopes (suc i) k =
      (let same : i + 1 ≡ suc i = omega arith in ap (λ n. laid_so_far blocks.scopes n k) same) in
      ap (λ (c : Bool). if c then record { scope = i; activation = a; first = first } else frame_of (accept_frames blocks a n (i + 1) (first + own))
      (i + suc k)) (is_other i (i + suc k) (λ e. omega (arith, e)))
      ∙ ap (λ j. frame_of (accept_frames blocks a n (i + 1) (first + own)) j) (sym far)
      ∙ frame_at n (i + 1) (first + own) k (omega (arith, h))
      ∙ frame_same ((i + 1) + k) (i + suc k) (first + own + laid_so_far blocks.scopes (i + 1) k) (first + laid_so_far blocks.scopes i (suc k)) a far
      (omega (arith, more, next))

both_tests : (next accepts j : ℕ) → (nat_le next j && nat_lt j (next + accepts)) ≡ true → (next ≤ j) × (j - next < accepts)
both_tests next accepts j h = (grind (arith, h), grind (arith, h))

pub frame_of_accept :
    (g : Program) (a : ℕ) (b : Block) (i : ℕ) → is_accept b i ≡ true
    → frame_of (accept_frames g.state.blocks a b.accepts b.next (length (laid_names (scope_at g.state.blocks.scopes b.scope)))) i
    ≡ record { scope = i; activation = a; first = before_accept (block_site g b) i }
frame_of_accept g a b i accept =
    let tests = both_tests b.next b.accepts i accept in
    let over : b.next ≤ i = tests.0 in
    let own : ℕ = length (laid_names (scope_at g.state.blocks.scopes b.scope)) in
    let place : b.next + (i - b.next) ≡ i = omega (arith, over) in
    ap (λ j. frame_of (accept_frames g.state.blocks a b.accepts b.next own) j) (sym place)
    ∙ frame_at g.state.blocks a b.accepts b.next own (i - b.next) tests.1
    ∙ frame_same (b.next + (i - b.next)) i (own + laid_so_far g.state.blocks.scopes b.next (i - b.next)) (before_accept (block_site g b) i) a place
    (sym (length-append (laid_names (scope_at g.state.blocks.scopes b.scope)) (accepts_laid (take (i - b.next) (drop b.next g.state.blocks.scopes)))))
