-- Cells that are pushed one by one.
use Rattle.std.proofs.Common.{◌≡◌, ℕ, ◌+◌, ◌-◌, ◌<◌, ℤ, pos, List, [], ◌∷◌, ◌++◌, length, take, drop, get_or, set, refl, sym, ◌∙◌, ap, arith}
use Rattle.std.specs.Prelude.{reverse}
use Rattle.std.proofs.lemmas.List.{reverse-append, get_or-take, get_or-drop, get_or-set_same, set-set, take_more, length-take-le, length-drop}
use Rattle.pfc_stacks.specs.declared.refs.Ref.{Ref}
use Rattle.pfc_stacks.specs.Conditions.{AreLive}
use Rattle.pfc_stacks.specs.Effects.{passed}
use Rattle.pfc_stacks.specs.Stacks.{Stack, Stacks, no_stack, stack_of, cells_of, cells_at}
use Rattle.pfc_stacks.proofs.Writes.{kept_at}

pub cells_passed : (stacks : Stacks) (p : ℕ) (ops : List ℤ) (q : ℕ) → cells_of (passed stacks p ops) q ≡ cells_of stacks q
cells_passed stacks p ops q =
    let s : Stack = stack_of stacks p in
    kept_at (λ (s : Stack). s.cells) stacks p (record s { at = s.at + 1; operands = ops }) no_stack refl q

pub stack_passed : (stacks : Stacks) (p : ℕ) (ops : List ℤ) → p < length stacks →
    stack_of (passed stacks p ops) p ≡ record (stack_of stacks p) { at = (stack_of stacks p).at + 1; operands = ops }
stack_passed stacks p ops inside =
    let s : Stack = stack_of stacks p in
    get_or-set_same stacks p (record s { at = s.at + 1; operands = ops }) no_stack inside

-- one operand more
pub passed_more : (stacks : Stacks) (p : ℕ) (ops : List ℤ) (v : ℤ) → p < length stacks →
    (let now = passed stacks p ops in set now p (record (stack_of now p) { operands = v ∷ (stack_of now p).operands })) ≡ passed stacks p (v ∷ ops)
passed_more stacks p ops v inside =
    let s : Stack = stack_of stacks p in
    ap (λ (t : Stack). set (passed stacks p ops) p (record t { operands = v ∷ t.operands })) (stack_passed stacks p ops inside)
    ∙ set-set stacks p (record s { at = s.at + 1; operands = ops }) (record s { at = s.at + 1; operands = v ∷ ops })

pub cell_among : (stacks : Stacks) (r : Ref) (z j : ℕ) → j < z →
    get_or (cells_of stacks r.process) (r.cell + j) (pos 0) ≡ get_or (cells_at stacks r z) j (pos 0)
cell_among stacks r z j lt =
    let cells : List ℤ = cells_of stacks r.process in
    sym (get_or-take z (drop r.cell cells) j (pos 0) lt ∙ get_or-drop r.cell cells j (pos 0))

pub length-cells_at : (stacks : Stacks) (r : Ref) (z : ℕ) → AreLive stacks r z → length (cells_at stacks r z) ≡ z
length-cells_at stacks r z live =
    let cells : List ℤ = cells_of stacks r.process in
    let rest : length (drop r.cell cells) ≡ length cells - r.cell = length-drop r.cell cells in
    length-take-le z (drop r.cell cells) (omega arith)

pub pushed_more : (ws below : List ℤ) (j : ℕ) (v : ℤ) → j < length ws → v ≡ get_or ws j (pos 0) →
    v ∷ (reverse (take j ws) ++ below) ≡ reverse (take (j + 1) ws) ++ below
pushed_more ws below j v lt e =
    ap (λ (w : ℤ). w ∷ (reverse (take j ws) ++ below)) e
    ∙ sym (ap (λ (xs : List ℤ). reverse xs ++ below) (take_more ws j (pos 0) lt)
    ∙ ap (λ (xs : List ℤ). xs ++ below) (reverse-append (take j ws) (get_or ws j (pos 0) ∷ [])))

-- one cell
pub one_loaded : (stacks : Stacks) (r : Ref) (below : List ℤ) → AreLive stacks r 1 →
    get_or (cells_of stacks r.process) r.cell (pos 0) ∷ below ≡ reverse (cells_at stacks r 1) ++ below
one_loaded stacks r below live =
    let cells : List ℤ = cells_of stacks r.process in
    let rest : length (drop r.cell cells) ≡ length cells - r.cell = length-drop r.cell cells in
    let place : r.cell ≡ r.cell + 0 = omega arith in
    pushed_more (drop r.cell cells) below 0 (get_or cells r.cell (pos 0)) (omega (arith, rest, live))
    (ap (λ (n : ℕ). get_or cells n (pos 0)) place ∙ sym (get_or-drop r.cell cells 0 (pos 0)))
