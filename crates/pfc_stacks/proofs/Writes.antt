-- Words that are written one by one.
use Rattle.std.proofs.Common.{◌≡◌, ℕ, zero, suc, ◌+◌, ◌-◌, ◌≤◌, ◌<◌, ℤ, pos, List, [], ◌∷◌, ◌++◌, length, take, drop, get_or, set, refl, sym, ◌∙◌, ap, arith}
use Rattle.std.proofs.Common.{◌⊎◌, inl, inr}
use Rattle.std.specs.Prelude.{reverse}
use Rattle.std.proofs.lemmas.List.{append_assoc, append-nil, length-reverse, length-take-le, length-drop, length-append, take-append-drop, get_or-reverse}
use Rattle.std.proofs.lemmas.List.{get_or-take, get_or-drop, get_or-set_same, set-set, set-get_or, set_at, drop_more, take_more, get_or_past}
use Rattle.pfc_stacks.specs.declared.refs.Ref.{Ref}
use Rattle.pfc_stacks.specs.Stacks.{Stack, Stacks, no_stack, stack_of, cells_of, operand, with_words, written}
use Rattle.pfc_stacks.specs.Conditions.{AreLive}

-- what a write at one place keeps, it keeps at all
pub kept_at : {A X : Type 0} (f : A → X) (xs : List A) (q : ℕ) (y d : A) → f y ≡ f (get_or xs q d) → (p : ℕ) → f (get_or (set xs q y) p d) ≡ f (get_or xs p d)
kept_at f [] q y d e p = refl
kept_at f (x ∷ xs) zero y d e zero = e
kept_at f (x ∷ xs) zero y d e (suc p) = refl
kept_at f (x ∷ xs) (suc q) y d e zero = refl
kept_at f (x ∷ xs) (suc q) y d e (suc p) = kept_at f xs q y d e p

pub operands_written : (stacks : Stacks) (r : Ref) (ws : List ℤ) (p : ℕ) → (stack_of (written stacks r ws) p).operands ≡ (stack_of stacks p).operands
operands_written stacks r ws p =
    let s : Stack = stack_of stacks r.process in
    kept_at (λ (s : Stack). s.operands) stacks r.process (record s { cells = with_words s.cells r.cell ws }) no_stack refl p

-- a process with a live cell is there
within_or_past : (n m : ℕ) → (n < m) ⊎ (m ≤ n)
within_or_past n m = grind arith

pub process_with_cells : (stacks : Stacks) (q : ℕ) → 0 < length (cells_of stacks q) → q < length stacks
process_with_cells stacks q h =
    elim (within_or_past q (length stacks)) [
      | inl inside ↦ inside
      | inr past ↦
          let none : length (cells_of stacks q) ≡ 0 = ap (λ (s : Stack). length s.cells) (get_or_past stacks q no_stack past) in
          absurd (omega arith)
    ]

-- ## Nothing, and one word more

no_words : (cells : List ℤ) (k : ℕ) → with_words cells k [] ≡ cells
no_words cells k = ap (λ (n : ℕ). take k cells ++ [] ++ drop n cells) (omega arith) ∙
    ap (λ (xs : List ℤ). xs ++ drop k cells) (append-nil (take k cells)) ∙ take-append-drop k cells

pub written_none : (stacks : Stacks) (r : Ref) → stacks ≡ written stacks r []
written_none stacks r =
    let s : Stack = stack_of stacks r.process in
    sym (ap (λ (cells : List ℤ). set stacks r.process (record s { cells = cells })) (no_words s.cells r.cell) ∙ set-get_or stacks r.process no_stack)

word_more : (cells : List ℤ) (k : ℕ) (ws : List ℤ) (j : ℕ) (v : ℤ) → k + length ws ≤ length cells → j < length ws → v ≡ get_or ws j (pos 0) →
    set (with_words cells k (take j ws)) (k + j) v ≡ with_words cells k (take (j + 1) ws)
word_more cells k ws j v h lt e =
    let front : List ℤ = take k cells ++ take j ws in
    let first : length (take k cells) ≡ k = length-take-le k cells (omega arith) in
    let words : length (take j ws) ≡ j = length-take-le j ws (omega arith) in
    let more : length (take (j + 1) ws) ≡ j + 1 = length-take-le (j + 1) ws (omega arith) in
    let size : length front ≡ k + j = length-append (take k cells) (take j ws) ∙ omega arith in
    let here : drop (k + length (take j ws)) cells ≡ get_or cells (k + j) (pos 0) ∷ drop (k + j + 1) cells =
    ap (λ (n : ℕ). drop (k + n) cells) words ∙ drop_more cells (k + j) (pos 0) (omega arith) in
    let place : k + j + 1 ≡ k + length (take (j + 1) ws) = omega arith in
    let taken : take (j + 1) ws ≡ take j ws ++ v ∷ [] = take_more ws j (pos 0) lt ∙ ap (λ (w : ℤ). take j ws ++ w ∷ []) (sym e) in
    ap (λ (rest : List ℤ). set (front ++ rest) (k + j) v) here
    ∙ set_at front (get_or cells (k + j) (pos 0)) (drop (k + j + 1) cells) v (k + j) size
    ∙ sym (append_assoc front (v ∷ []) (drop (k + j + 1) cells))
    ∙ ap (λ (xs : List ℤ). xs ++ drop (k + j + 1) cells) (append_assoc (take k cells) (take j ws) (v ∷ []))
    ∙ ap (λ (xs : List ℤ). take k cells ++ xs ++ drop (k + j + 1) cells) (sym taken)
    ∙ ap (λ (n : ℕ). take k cells ++ take (j + 1) ws ++ drop n cells) place

-- the stacks with another cell of a process
abbrev pub with_cell : Stacks → ℕ → ℕ → ℤ → Stacks
with_cell stacks q k v = set stacks q (record (stack_of stacks q) { cells = set (cells_of stacks q) k v })

pub written_more : (stacks : Stacks) (r : Ref) (ws : List ℤ) (j : ℕ) (v : ℤ) → AreLive stacks r (length ws) → j < length ws → v ≡ get_or ws j (pos 0) →
    with_cell (written stacks r (take j ws)) r.process (r.cell + j) v ≡ written stacks r (take (j + 1) ws)
written_more stacks r ws j v live lt e =
    let q : ℕ = r.process in
    let s : Stack = stack_of stacks q in
    let now : Stack = record s { cells = with_words s.cells r.cell (take j ws) } in
    let inside : q < length stacks = process_with_cells stacks q (omega arith) in
    let here : stack_of (written stacks r (take j ws)) q ≡ now = get_or-set_same stacks q now no_stack inside in
    ap (λ (t : Stack). set (set stacks q now) q (record t { cells = set t.cells (r.cell + j) v })) here
    ∙ set-set stacks q now (record s { cells = set now.cells (r.cell + j) v })
    ∙ ap (λ (cells : List ℤ). set stacks q (record s { cells = cells })) (word_more s.cells r.cell ws j v live lt e)

-- ## Words from operands

-- z operands in the order of cells, the last of them at depth k
abbrev pub words_at : List ℤ → ℕ → ℕ → List ℤ
words_at ops k z = reverse (take z (drop k ops))

pub length-words_at : (ops : List ℤ) (k z : ℕ) → k + z ≤ length ops → length (words_at ops k z) ≡ z
length-words_at ops k z h =
    let rest : length (drop k ops) ≡ length ops - k = length-drop k ops in
    length-reverse (take z (drop k ops)) ∙ length-take-le z (drop k ops) (omega arith)

pub word_at_depth : (ops : List ℤ) (k z j : ℕ) → k + z ≤ length ops → j < z → operand ops (k + (z - 1 - j)) ≡ get_or (words_at ops k z) j (pos 0)
word_at_depth ops k z j h lt =
    let rest : length (drop k ops) ≡ length ops - k = length-drop k ops in
    let size : length (take z (drop k ops)) ≡ z = length-take-le z (drop k ops) (omega arith) in
    sym (get_or-reverse (take z (drop k ops)) j (pos 0) (omega arith)
    ∙ ap (λ (n : ℕ). get_or (take z (drop k ops)) (n - 1 - j) (pos 0)) size
    ∙ get_or-take z (drop k ops) (z - 1 - j) (pos 0) (omega arith)
    ∙ get_or-drop k ops (z - 1 - j) (pos 0))

-- one word
pub one_written : (stacks : Stacks) (r : Ref) (v : ℤ) → AreLive stacks r 1 → with_cell stacks r.process r.cell v ≡ written stacks r (v ∷ [])
one_written stacks r v live =
    let place : r.cell ≡ r.cell + 0 = omega arith in
    ap (λ (s : Stacks). with_cell s r.process r.cell v) (written_none stacks r)
    ∙ ap (λ (n : ℕ). with_cell (written stacks r []) r.process n v) place
    ∙ written_more stacks r (v ∷ []) 0 v live (omega arith) refl

pub one_taken : (ops : List ℤ) → 1 ≤ length ops → reverse (take 1 ops) ≡ operand ops 0 ∷ []
one_taken [] h = absurd (omega (arith, h))
one_taken (x ∷ xs) h = refl
