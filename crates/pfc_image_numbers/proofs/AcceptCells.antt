-- The parameters of an accept lie among the cells of its process.
use Rattle.std.proofs.Common.{◌≡◌, ℕ, ◌+◌, ◌-◌, ◌<◌, ◌≤◌, zero, suc, Bool, true, false, List, [], ◌∷◌, ◌++◌, length, take, drop, get_or, if◌then◌else◌, refl}
use Rattle.std.proofs.Common.{ap, sym, ◌∙◌, arith}
use Rattle.std.proofs.lemmas.List.{append_assoc, get_or-drop}
use Rattle.std.proofs.lemmas.List.Sums.{sum_by-append, sum_by-cons}
use Rattle.std.proofs.Math.Seq.{take-append_seam}
use Rattle.pfc_tree.specs.Symbols.{Text}
use Rattle.pfc_types.specs.Types.{Forms}
use Rattle.pfc_types.specs.Scopes.{Names, scope_at}
use Rattle.pfc_types.specs.declared.scope.Meaning.{Meaning}
use Rattle.pfc_types.specs.declared.scope.Meaning.TheVariants.{Constant, Named, Variable, Sub, Module, Process, Entry, Predeclared, Faulty}
use Rattle.pfc_types.specs.rules.Declarations.{name_cells, scope_cells}
use Rattle.pfc_semantics.specs.Layouts.{Layout, is_laid, laid_names, accepts_laid, process_layout}
use Rattle.pfc_semantics.specs.Programs.{layout_cells}

cells_append : (forms : Forms) (a b : Layout) → layout_cells forms (a ++ b) ≡ layout_cells forms a + layout_cells forms b
cells_append forms a b = sum_by-append (λ (m : Meaning). name_cells forms m) a b

cells_more : (forms : Forms) (m : Meaning) (l : Layout) → layout_cells forms (m ∷ l) ≡ name_cells forms m + layout_cells forms l
cells_more forms m l = sum_by-cons (λ (m : Meaning). name_cells forms m) m l

scope_more : (forms : Forms) (x : Text × Meaning) (names : Names) → scope_cells forms (x ∷ names) ≡ name_cells forms x.1 + scope_cells forms names
scope_more forms x names = sum_by-cons (λ (y : Text × Meaning). name_cells forms y.1) x names

not_laid : (forms : Forms) (m : Meaning) → is_laid m ≡ false → name_cells forms m ≡ 0
not_laid forms (Constant t v) e = refl
not_laid forms (Named t) e = refl
not_laid forms (Variable t r) e = absurd (cc)
not_laid forms (Sub n) e = refl
not_laid forms (Module n) e = refl
not_laid forms (Process n) e = absurd (cc)
not_laid forms (Entry n) e = refl
not_laid forms (Predeclared k) e = refl
not_laid forms Faulty e = refl

-- what is laid out takes the cells of the scope
laid_cells : (forms : Forms) (names : Names) → layout_cells forms (laid_names names) ≡ scope_cells forms names
laid_cells forms [] = refl
laid_cells forms (x ∷ names) = by (is_laid x.1) refl (laid_cells forms names)
  where
    by : (r : Bool) → is_laid x.1 ≡ r → layout_cells forms (laid_names names) ≡ scope_cells forms names
        → layout_cells forms (if r then x.1 ∷ laid_names names else laid_names names) ≡ scope_cells forms (x ∷ names)
    by true e rest =
        cells_more forms x.1 (laid_names names) ∙ ap (λ n. name_cells forms x.1 + n) rest ∙ sym (scope_more forms x names)
    by false e rest = let all = scope_more forms x names in let none = not_laid forms x.1 e in omega (arith, rest, all, none)

-- the layout up to an accept begins the whole
accepts_begin : (ss : List Names) (a k : ℕ) → k ≤ a → (more : Layout) × (accepts_laid (take a ss) ≡ accepts_laid (take k ss) ++ more)
accepts_begin [] zero zero h = ([], refl)
accepts_begin [] (suc a) zero h = ([], refl)
accepts_begin [] zero (suc k) h = ([], refl)
accepts_begin [] (suc a) (suc k) h = ([], refl)
accepts_begin (x ∷ ss) a zero h = (accepts_laid (take a (x ∷ ss)), refl)
accepts_begin (x ∷ ss) zero (suc k) h = absurd (omega (arith, h))
accepts_begin (x ∷ ss) (suc a) (suc k) h =
    let rest = accepts_begin ss a k (omega (arith, h)) in (
      rest.0,
      ap (λ (l : Layout). laid_names x ++ l) rest.1 ∙ sym (append_assoc (laid_names x) (accepts_laid (take k ss)) rest.0),
    )

accepts_cells :
    (forms : Forms) (ss : List Names) (a k : ℕ) → k < a
    → layout_cells forms (accepts_laid (take k ss)) + scope_cells forms (get_or ss k []) ≤ layout_cells forms (accepts_laid (take a ss))
accepts_cells forms [] zero k h = absurd (omega (arith, h))
accepts_cells forms [] (suc a) zero h = omega arith
accepts_cells forms [] (suc a) (suc k) h = omega arith
accepts_cells forms (x ∷ ss) zero k h = absurd (omega (arith, h))
accepts_cells forms (x ∷ ss) (suc a) zero h =
    let both = cells_append forms (laid_names x) (accepts_laid (take a ss)) in let own = laid_cells forms x in omega (arith, both, own)
accepts_cells forms (x ∷ ss) (suc a) (suc k) h =
    let rest = accepts_cells forms ss a k (omega (arith, h)) in
    let all = cells_append forms (laid_names x) (accepts_laid (take a ss)) in
    let some = cells_append forms (laid_names x) (accepts_laid (take k ss)) in
    omega (arith, rest, all, some)

-- the parameters of the accept with the scope n, of which k scopes of accepts stand before
pub accept_within :
    (forms : Forms) (scopes : List Names) (own : Names) (next accepts n : ℕ) → next ≤ n → n < next + accepts
    → (let layout = process_layout own (take accepts (drop next scopes)) in
    let before = process_layout own (take (n - next) (drop next scopes)) in
    layout_cells forms (take (length before) layout) + scope_cells forms (scope_at scopes n) ≤ layout_cells forms layout)
accept_within forms scopes own next accepts n low high =
    let k = n - next in
    let ss = drop next scopes in
    let below : k < accepts = omega (arith, low, high) in
    let before = process_layout own (take k ss) in
    let begins = accepts_begin ss accepts k (omega (arith, below)) in
    let whole : process_layout own (take accepts ss) ≡ before ++ begins.0 =
    ap (λ (l : Layout). laid_names own ++ l) begins.1 ∙ sym (append_assoc (laid_names own) (accepts_laid (take k ss)) begins.0) in
    let first : take (length before) (process_layout own (take accepts ss)) ≡ before =
    ap (λ (l : Layout). take (length before) l) whole ∙ take-append_seam before begins.0 in
    let a : layout_cells forms (take (length before) (process_layout own (take accepts ss))) ≡ layout_cells forms before =
    ap (λ (l : Layout). layout_cells forms l) first in
    let b = cells_append forms (laid_names own) (accepts_laid (take k ss)) in
    let c = cells_append forms (laid_names own) (accepts_laid (take accepts ss)) in
    let same : next + k ≡ n = omega (arith, low) in
    let at : scope_cells forms (get_or ss k []) ≡ scope_cells forms (scope_at scopes n) =
    ap (λ (l : Names). scope_cells forms l) (get_or-drop next scopes k [] ∙ ap (λ (j : ℕ). get_or scopes j []) same) in
    let d = accepts_cells forms ss accepts k below in
    omega (arith, a, b, c, d, at)
