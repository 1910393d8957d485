-- Rows of sums: where the variables of a block begin, one behind the other.
use Rattle.std.specs.Prelude.{ℕ, ◌+◌, zero, suc, List, [], ◌∷◌, length}
use Rattle.pfc_types.specs.Types.{Forms}
use Rattle.pfc_types.specs.Scopes.{Names, scope_at}
use Rattle.pfc_types.specs.rules.Declarations.{name_cells}
use Rattle.pfc_semantics.specs.Layouts.{Layout, laid_names}

-- the cell of each variable of a layout, the first of which lies at n, and behind them the cell behind the last
abbrev pub cells_from : Forms → ℕ → Layout → List ℕ
cells_from forms n [] = n ∷ []
cells_from forms n (m ∷ layout) = n ∷ cells_from forms (n + name_cells forms m) layout

-- How many variables of a process stand before those of each of so many accepts, whose scopes are numbered from i on. Before the first of
-- them stand n.
abbrev pub accepts_from : List Names → ℕ → ℕ → ℕ → List ℕ
accepts_from scopes n i zero = n ∷ []
accepts_from scopes n i (suc count) = n ∷ accepts_from scopes (n + length (laid_names (scope_at scopes i))) (i + 1) count
