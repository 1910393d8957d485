-- Whom an action makes ready, by who was ready before it.
use Rattle.std.specs.Prelude.{ℕ, ◌+◌, Bool, not, ◌&&◌, if◌then◌else◌, List, [], ◌∷◌}
use Rattle.pfc_state.specs.Stands.{Stand, is_ready}

abbrev pub woken_by : ℕ → List Bool → List Stand → List ℕ
woken_by q (was ∷ more) (now ∷ rows) = if not was && is_ready now then q ∷ woken_by (q + 1) more rows else woken_by (q + 1) more rows
woken_by q more rows = []
