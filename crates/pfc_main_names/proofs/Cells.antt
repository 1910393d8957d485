-- Main's block takes no more cells than the rule on them counts.
use Rattle.std.proofs.Common.{◌≡◌, ℕ, zero, suc, ◌+◌, ◌<◌, ◌≤◌, Bool, true, false, nat_le, List, [], ◌∷◌, ◌++◌, length, take, get_or, sum_by, refl, sym, ap}
use Rattle.std.proofs.Common.{ap₂, ◌∙◌, arith}
use Rattle.std.proofs.lemmas.Bool.Decides.{nat_tests}
use Rattle.std.proofs.lemmas.List.{take_all}
use Rattle.std.proofs.lemmas.List.Sums.{sum_by-cons}
use Rattle.pfc_base.specs.declared.places.Place.{Place}
use Rattle.pfc_tree.specs.Symbols.{Text}
use Rattle.pfc_tree.specs.trees.Parts.{ProgramTree}
use Rattle.pfc_tree.specs.forget.Parts.{forget_program}
use Rattle.pfc_tree.specs.lawful.Parts.{IsLawful}
use Rattle.pfc_types.specs.Faults.{unless, listed}
use Rattle.pfc_types.specs.Types.{Forms}
use Rattle.pfc_types.specs.Scopes.{Names, scope_at}
use Rattle.pfc_types.specs.Blocks.{Blocks, State, module_at, no_module}
use Rattle.pfc_types.specs.declared.heads.ModuleHead.{ModuleHead}
use Rattle.pfc_types.specs.declared.scope.Meaning.{Meaning}
use Rattle.pfc_types.specs.declared.scope.Meaning.TheVariants.{Constant, Named, Variable, Sub, Module, Process, Entry, Predeclared, Faulty}
use Rattle.pfc_types.specs.rules.Declarations.{name_cells, scope_cells, cells_rule}
use Rattle.pfc_types.specs.rules.Whole.{main_cells, declared_all, finished}
use Rattle.pfc_types.proofs.Walking.{note_kept}
use Rattle.pfc_name_laws.proofs.Steps.{note_clean}
use Rattle.pfc_semantics.specs.Layouts.{Layout, laid_names, laid_as, main_layout}
use Rattle.pfc_semantics.specs.Programs.{layout_cells, program_of}
use Rattle.pfc_image_cells.proofs.Subs.{note_same}
use Rattle.pfc_type_laws.proofs.WalkTypes.{note_forms}
use Rattle.pfc_object_laws.proofs.Mains.{layout_is, cells_are}
use Rattle.pfc_main_names.proofs.Rising.{RisesBy, Rises}
use Rattle.pfc_main_names.proofs.Walk.{names_fine}

-- ## Sums

pub cells_append : (forms : Forms) (a b : Layout) → layout_cells forms (a ++ b) ≡ layout_cells forms a + layout_cells forms b
cells_append forms [] b = omega arith
cells_append forms (m ∷ a) b =
    let rest = cells_append forms a b in
    sum_by-cons (λ (x : Meaning). name_cells forms x) m (a ++ b) ∙ omega (arith, rest, sum_by-cons (λ (x : Meaning). name_cells forms x) m a)

name_next : (forms : Forms) (x : Text × Meaning) (names : Names) → scope_cells forms (x ∷ names) ≡ name_cells forms x.1 + scope_cells forms names
name_next forms x names = sum_by-cons (λ (y : Text × Meaning). name_cells forms y.1) x names

-- those that are laid out take the cells of all
laid_cells : (forms : Forms) (names : Names) → layout_cells forms (laid_names names) ≡ scope_cells forms names
laid_cells forms [] = refl
laid_cells forms (x ∷ names) = at x.1 (laid_cells forms names)
  where
    at : (m : Meaning) → layout_cells forms (laid_names names) ≡ scope_cells forms names
        → layout_cells forms (laid_names ((x.0, m) ∷ names)) ≡ scope_cells forms ((x.0, m) ∷ names)
    at (Variable t r) rest =
        sum_by-cons (λ (y : Meaning). name_cells forms y) (Variable t r) (laid_names names) ∙ ap (λ k. name_cells forms (Variable t r) + k) rest
        ∙ sym (name_next forms (x.0, Variable t r) names)
    at (Process n) rest =
        sum_by-cons (λ (y : Meaning). name_cells forms y) (Process n) (laid_names names) ∙ ap (λ k. 1 + k) rest ∙ sym (name_next forms (x.0, Process n) names)
    at (Constant t v) rest = rest ∙ none (scope_cells forms names) ∙ sym (name_next forms (x.0, Constant t v) names)
      where
        none : (k : ℕ) → k ≡ 0 + k
        none k = omega arith
    at (Named t) rest = rest ∙ none (scope_cells forms names) ∙ sym (name_next forms (x.0, Named t) names)
      where
        none : (k : ℕ) → k ≡ 0 + k
        none k = omega arith
    at (Sub n) rest = rest ∙ none (scope_cells forms names) ∙ sym (name_next forms (x.0, Sub n) names)
      where
        none : (k : ℕ) → k ≡ 0 + k
        none k = omega arith
    at (Module n) rest = rest ∙ none (scope_cells forms names) ∙ sym (name_next forms (x.0, Module n) names)
      where
        none : (k : ℕ) → k ≡ 0 + k
        none k = omega arith
    at (Entry n) rest = rest ∙ none (scope_cells forms names) ∙ sym (name_next forms (x.0, Entry n) names)
      where
        none : (k : ℕ) → k ≡ 0 + k
        none k = omega arith
    at (Predeclared n) rest = rest ∙ none (scope_cells forms names) ∙ sym (name_next forms (x.0, Predeclared n) names)
      where
        none : (k : ℕ) → k ≡ 0 + k
        none k = omega arith
    at Faulty rest = rest ∙ none (scope_cells forms names) ∙ sym (name_next forms (x.0, Faulty) names)
      where
        none : (k : ℕ) → k ≡ 0 + k
        none k = omega arith

module _ (g : ModuleHead → ℕ) where
  sum_less : (ms : List ModuleHead) (m n : ℕ) → m ≤ n → sum_by g (take m ms) ≤ sum_by g (take n ms)
  sum_less [] zero zero h = omega arith
  sum_less [] zero (suc n) h = omega arith
  sum_less [] (suc m) zero h = omega arith
  sum_less [] (suc m) (suc n) h = omega arith
  sum_less (x ∷ ms) zero n h = omega arith
  sum_less (x ∷ ms) (suc m) zero h = absurd (omega (arith, h))
  sum_less (x ∷ ms) (suc m) (suc n) h =
      let rest = sum_less ms m n (omega (arith, h)) in omega (arith, rest, sum_by-cons g x (take m ms), sum_by-cons g x (take n ms))

  sum_next : (ms : List ModuleHead) (n : ℕ) (d : ModuleHead) → n < length ms → sum_by g (take (suc n) ms) ≡ sum_by g (take n ms) + g (get_or ms n d)
  sum_next [] n d h = absurd (omega (arith, h))
  sum_next (x ∷ ms) zero d h = sum_by-cons g x [] ∙ omega arith
  sum_next (x ∷ ms) (suc n) d h =
      let rest = sum_next ms n d (omega (arith, h)) in
      sum_by-cons g x (take (suc n) ms) ∙ omega (arith, rest, sum_by-cons g x (take n ms))

-- ## Main's layout

rises_below : (from : ℕ) (names : Names) (to : ℕ) → Rises from names to → from ≤ to
rises_below from [] to h = h
rises_below from (x ∷ names) to h = at x.1 (λ k i. rises_below k names to i) h
  where
    at : (m : Meaning) → ((k : ℕ) → Rises k names to → k ≤ to) → RisesBy m from (λ (k : ℕ). Rises k names to) → from ≤ to
    at (Module n) rest h = let low = rest (suc n) h.1 in omega (arith, low, h.0)
    at (Constant t v) rest h = rest from h
    at (Named t) rest h = rest from h
    at (Variable t r) rest h = rest from h
    at (Sub n) rest h = rest from h
    at (Process n) rest h = rest from h
    at (Entry n) rest h = rest from h
    at (Predeclared n) rest h = rest from h
    at Faulty rest h = rest from h

module _ (forms : Forms) (b : Blocks) where
  abbrev of_module : ModuleHead → ℕ
  of_module m = scope_cells forms (scope_at b.scopes m.scope)

  abbrev IsCovered : Names → ℕ → ℕ → Type 0
  IsCovered names from to =
      layout_cells forms (main_layout b names) + sum_by of_module (take from b.modules) ≤ scope_cells forms names + sum_by of_module (take to b.modules)

  covered : (names : Names) (from to : ℕ) → to ≤ length b.modules → Rises from names to → IsCovered names from to
  covered [] from to within h = let less = sum_less of_module b.modules from to h in omega (arith, less)
  covered (x ∷ names) from to within h = at x.1 (λ k i. covered names k to within i) h
    where
      some : (m : Meaning) → IsCovered names from to → laid_as b m ≡ m ∷ [] → IsCovered ((x.0, m) ∷ names) from to
      some m rest e =
          let split : layout_cells forms (main_layout b ((x.0, m) ∷ names)) ≡ layout_cells forms (laid_as b m) + layout_cells forms (main_layout b names) =
          cells_append forms (laid_as b m) (main_layout b names) in
          let own : layout_cells forms (laid_as b m) ≡ name_cells forms m =
          ap (λ (l : Layout). layout_cells forms l) e ∙ sum_by-cons (λ (y : Meaning). name_cells forms y) m [] ∙ omega arith in
          omega (arith, split, own, rest, name_next forms (x.0, m) names)

      none : (m : Meaning) → IsCovered names from to → laid_as b m ≡ [] → IsCovered ((x.0, m) ∷ names) from to
      none m rest e =
          let split : layout_cells forms (main_layout b ((x.0, m) ∷ names)) ≡ layout_cells forms (laid_as b m) + layout_cells forms (main_layout b names) =
          cells_append forms (laid_as b m) (main_layout b names) in
          let own : layout_cells forms (laid_as b m) ≡ 0 = ap (λ (l : Layout). layout_cells forms l) e in
          omega (arith, split, own, rest, name_next forms (x.0, m) names)

      at : (m : Meaning) → ((k : ℕ) → Rises k names to → IsCovered names k to) → RisesBy m from (λ (k : ℕ). Rises k names to)
          → IsCovered ((x.0, m) ∷ names) from to
      at (Module n) rest h =
          let inside = scope_at b.scopes (module_at b n).scope in
          let low = rises_below (suc n) names to h.1 in
          let further : layout_cells forms (main_layout b names) + sum_by of_module (take (suc n) b.modules) ≤ scope_cells forms names + sum_by of_module
          (take to b.modules) =
          rest (suc n) h.1 in
          let next : sum_by of_module (take (suc n) b.modules) ≡ sum_by of_module (take n b.modules) + of_module (module_at b n) =
          sum_next of_module b.modules n no_module (omega (arith, low, within)) in
          let less = sum_less of_module b.modules from n h.0 in
          let split : layout_cells forms (main_layout b ((x.0, Module n) ∷ names)) ≡ layout_cells forms (laid_names inside) + layout_cells forms
          (main_layout b names) =
          cells_append forms (laid_names inside) (main_layout b names) in
          let own : layout_cells forms (laid_names inside) ≡ of_module (module_at b n) = laid_cells forms inside in
          omega (arith, split, own, further, next, less, name_next forms (x.0, Module n) names)
      at (Variable t r) rest h = some (Variable t r) (rest from h) refl
      at (Process n) rest h = some (Process n) (rest from h) refl
      at (Constant t v) rest h = none (Constant t v) (rest from h) refl
      at (Named t) rest h = none (Named t) (rest from h) refl
      at (Sub n) rest h = none (Sub n) (rest from h) refl
      at (Entry n) rest h = none (Entry n) (rest from h) refl
      at (Predeclared n) rest h = none (Predeclared n) (rest from h) refl
      at Faulty rest h = none Faulty (rest from h) refl

-- ## The rule

rule_held : (n : ℕ) (p : Place) → listed (cells_rule n p) ≡ [] → n ≤ 65536
rule_held n p h = by (nat_le n 65536) refl h
  where
    by : (r : Bool) → nat_le n 65536 ≡ r → listed (unless r p 304) ≡ [] → n ≤ 65536
    by true e h = grind (arith, nat_tests)
    by false e h = absurd (cc)

-- main's block has at most 65,536 cells
pub few_cells : (t : ProgramTree) → IsLawful (forget_program t) → (finished t).blocks.noted ≡ [] → (program_of t).main.cells ≤ 65536
few_cells t lawful clean =
    let s = finished t in
    let done = declared_all t in
    let rule = cells_rule (main_cells done) t.name.1 in
    let b = s.blocks in
    let covers : IsCovered s.forms b (scope_at b.scopes 0) 0 (length b.modules) =
    covered s.forms b (scope_at b.scopes 0) 0 (length b.modules) (omega arith) (names_fine t lawful).program.rises in
    let everything : sum_by (of_module s.forms b) (take (length b.modules) b.modules) ≡ sum_by (of_module s.forms b) b.modules =
    ap (λ (l : List ModuleHead). sum_by (of_module s.forms b) l) (take_all (length b.modules) b.modules (omega arith)) in
    let same : main_cells s ≡ main_cells done = same_cells done s (note_forms done rule) (note_kept done rule).scopes (note_same done rule).modules in
    let most : main_cells done ≤ 65536 = rule_held (main_cells done) t.name.1 (note_clean done rule clean).1 in
    let cells : (program_of t).main.cells ≡ layout_cells s.forms (main_layout b (scope_at b.scopes 0)) =
    cells_are t ∙ ap (λ (l : Layout). layout_cells s.forms l) (layout_is t) in
    omega (arith, covers, everything, same, most, cells)
  where
    same_cells : (s t : State) → t.forms ≡ s.forms → t.blocks.scopes ≡ s.blocks.scopes → t.blocks.modules ≡ s.blocks.modules → main_cells t ≡ main_cells s
    same_cells s t e f g =
        ap₂ (λ (x : Forms) (l : List Names). scope_cells x (scope_at l 0) + sum_by (λ m. scope_cells x (scope_at l m.scope)) t.blocks.modules) e f
        ∙ ap (λ (ms : List ModuleHead). scope_cells s.forms (scope_at s.blocks.scopes 0) + sum_by
        (λ m. scope_cells s.forms (scope_at s.blocks.scopes m.scope)) ms) g
