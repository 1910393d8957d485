-- Rows of sums: where the variables of a block begin.
use Rattle.std.proofs.Common.{◌≡◌, ℕ, ◌+◌, ◌≤◌, zero, suc, List, [], ◌∷◌, length, get_or, take, drop, sym, ap, ◌∙◌, arith}
use Rattle.std.proofs.lemmas.List.{length-append, take_all}
use Rattle.std.proofs.lemmas.List.Sums.{sum_by-cons}
use Rattle.pfc_types.specs.Types.{Forms}
use Rattle.pfc_types.specs.Scopes.{Names, scope_at}
use Rattle.pfc_types.specs.rules.Declarations.{name_cells}
use Rattle.pfc_semantics.specs.Layouts.{Layout, laid_names, accepts_laid, process_layout}
use Rattle.pfc_semantics.specs.Programs.{layout_cells}
use Rattle.pfc_program.proofs.Laid.{accepts_next}
use Rattle.pfc_addresses.specs.Rows.{cells_from, accepts_from}

cells_from-at :
    (forms : Forms) (n : ℕ) (layout : Layout) (k : ℕ) → k ≤ length layout → get_or (cells_from forms n layout) k 0 ≡ n + layout_cells forms (take k layout)
cells_from-at forms n [] zero within = omega arith
cells_from-at forms n [] (suc k) within = absurd (omega (arith, within))
cells_from-at forms n (m ∷ layout) zero within = omega arith
cells_from-at forms n (m ∷ layout) (suc k) within =
    let rest = cells_from-at forms (n + name_cells forms m) layout k (omega (arith, within)) in
    let first : layout_cells forms (m ∷ take k layout) ≡ name_cells forms m + layout_cells forms (take k layout) =
    sum_by-cons (λ x. name_cells forms x) m (take k layout) in
    let both : n + name_cells forms m + layout_cells forms (take k layout) ≡ n + layout_cells forms (m ∷ take k layout) = omega (arith, first) in
    rest ∙ both

-- the cell of a variable of the layout, or the cell behind it
pub cell_at :
    (forms : Forms) (layout : Layout) (row : List ℕ) (k : ℕ) → row ≡ cells_from forms 0 layout → k ≤ length layout →
    get_or row k 0 ≡ layout_cells forms (take k layout)
cell_at forms layout row k is within = ap (λ r. get_or r k 0) is ∙ cells_from-at forms 0 layout k within ∙ omega arith

pub cell_behind :
    (forms : Forms) (layout : Layout) (row : List ℕ) (k : ℕ) → row ≡ cells_from forms 0 layout → length layout ≤ k
    → get_or row (length layout) 0 ≡ layout_cells forms (take k layout)
cell_behind forms layout row k is behind =
    cell_at forms layout row (length layout) is (omega arith)
    ∙ ap (layout_cells forms) (take_all (length layout) layout (omega arith) ∙ sym (take_all k layout behind))

accepts_from-at :
    (scopes : List Names) (n i count k : ℕ) → k ≤ count → get_or (accepts_from scopes n i count) k 0 ≡ n + length (accepts_laid (take k (drop i scopes)))
accepts_from-at scopes n i zero zero within = omega arith
accepts_from-at scopes n i zero (suc k) within = absurd (omega (arith, within))
accepts_from-at scopes n i (suc count) zero within = omega arith
accepts_from-at scopes n i (suc count) (suc k) within =
    let rest = accepts_from-at scopes (n + length (laid_names (scope_at scopes i))) (i + 1) count k (omega (arith, within)) in
    let next = ap length (accepts_next scopes i k) ∙ length-append (laid_names (scope_at scopes i)) (accepts_laid (take k (drop (i + 1) scopes))) in
    omega arith

-- how many variables stand before an accept
pub accept_at :
    (scopes : List Names) (own : Names) (row : List ℕ) (i count k : ℕ) → row ≡ accepts_from scopes (length (laid_names own)) i count → k ≤ count
    → get_or row k 0 ≡ length (process_layout own (take k (drop i scopes)))
accept_at scopes own row i count k is within =
    ap (λ r. get_or r k 0) is
    ∙ accepts_from-at scopes (length (laid_names own)) i count k within
    ∙ sym (length-append (laid_names own) (accepts_laid (take k (drop i scopes))))
