-- Cells and variables, counted name by name.
use Rattle.std.proofs.Common.{◌≡◌, ◌<◌, ℕ, ◌+◌, ◌-◌, suc, Bool, true, false, if◌then◌else◌, List, length, get_or, take, drop, refl, sym, ap, ◌∙◌, arith, []}
use Rattle.std.proofs.Common.{length-append}
use Rattle.std.proofs.lemmas.List.{drop_more}
use Rattle.std.proofs.lemmas.List.Sums.{sum_by-cons}
use Rattle.pfc_tree.specs.Symbols.{Text}
use Rattle.pfc_types.specs.Types.{Forms}
use Rattle.pfc_types.specs.Scopes.{Names, scope_at}
use Rattle.pfc_types.specs.rules.Declarations.{name_cells, scope_cells}
use Rattle.pfc_types.specs.declared.scope.Meaning.{Meaning}
use Rattle.pfc_types.specs.declared.scope.Meaning.TheVariants.{Faulty}
use Rattle.pfc_code.specs.declared.instructions.Instr.TheVariants.{ADDR, REF}
use Rattle.pfc_semantics.specs.Layouts.{Layout, laid_names, accepts_laid}
use Rattle.pfc_semantics.specs.Displays.{Spot}
use Rattle.pfc_semantics.specs.Programs.{layout_cells}
use Rattle.pfc_program.proofs.Laid.{accepts_next}
use Rattle.pfc_translation.specs.Sites.{Site, is_accept, refers, links_to, cell_of, before_accept, forms_of}
use Rattle.pfc_translation.specs.Selects.{accept_cell}
use Rattle.pfc_addresses.specs.Instructions.{base_instr}
use Rattle.pfc_select_code.specs.Cells.{addressed_cell}

-- the cells of the names of a scope from the k-th on
pub scope_cells_at :
    (forms : Forms) (names : Names) (k : ℕ) (m : Meaning) → ((d : Text × Meaning) → m ≡ (get_or names k d).1) → k < length names
    → scope_cells forms (drop k names) ≡ name_cells forms m + scope_cells forms (drop (k + 1) names)
scope_cells_at forms names k m is within =
    let none : Text × Meaning = ([], Faulty) in
    ap (scope_cells forms) (drop_more names k none within)
    ∙ sum_by-cons (λ (x : Text × Meaning). name_cells forms x.1) (get_or names k none) (drop (k + 1) names)
    ∙ ap (λ n. name_cells forms n + scope_cells forms (drop (k + 1) names)) (sym (is none))

-- the variables of one scope more
pub accepts_more :
    (scopes : List Names) (i to : ℕ) → i < to
    → length (accepts_laid (take (to - i) (drop i scopes)))
    ≡ length (laid_names (scope_at scopes i)) + length (accepts_laid (take (to - (i + 1)) (drop (i + 1) scopes)))
accepts_more scopes i to more =
    let left : to - i ≡ suc (to - (i + 1)) = omega (arith, more) in
    ap (λ n. length (accepts_laid (take n (drop i scopes)))) left
    ∙ ap length (accepts_next scopes i (to - (i + 1)))
    ∙ length-append (laid_names (scope_at scopes i)) (accepts_laid (take (to - (i + 1)) (drop (i + 1) scopes)))

-- ## An accept of the block

addressed : (b : Bool) (l d : ℕ) → addressed_cell (if b then REF l d else ADDR l d) ≡ d
addressed true l d = refl
addressed false l d = refl

own_layout :
    (b : Bool) (s : Site) (n k : ℕ) (other : Layout) → b ≡ true
    → layout_cells (forms_of s) (take ((if b then k else 0) + 0) (if b then s.block.layout else other)) ≡ layout_cells (forms_of s) (take k s.block.layout)
own_layout true s n k other is = ap (λ j. layout_cells (forms_of s) (take j s.block.layout)) (omega arith)
own_layout false s n k other is = cc

pub accept_addressed :
    (s : Site) (n : ℕ) → is_accept s.block n ≡ true → addressed_cell (base_instr s (record { scope = n; variable = 0; selectors = [] })) ≡ accept_cell s n
accept_addressed s n is =
    let v : Spot = record { scope = n; variable = 0; selectors = [] } in
    addressed (refers s v) (links_to s n) (cell_of s v)
    ∙ own_layout (is_accept s.block n) s n (before_accept s n) _ is
