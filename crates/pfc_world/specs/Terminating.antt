-- The third step of settling, and settling whole.
use Rattle.std.specs.Prelude.{ℕ, ◌<◌, ◌≡◌, Bool, true, false, if◌then◌else◌, List, [], ◌∷◌, map}
use Rattle.pfc_state.specs.Stands.{Stand, Is_done, is_unfinished, may_end}
use Rattle.pfc_world.specs.Settling.{may_all_end, settled}
use Rattle.pfc_world.specs.Tables.{Table, at}
use Rattle.pfc_world.specs.Transitions.{released}

-- a child that waits in a select with an open `terminate` finishes
abbrev pub terminated_child : Stand → Stand
terminated_child stand = if may_end stand then Is_done else stand

abbrev pub over_children : (Stand → Stand) → List Stand → List Stand
over_children change [] = []
over_children change (main ∷ children) = main ∷ map change children

-- These children finish, and main is ready where it waits at `coend`.
abbrev pub terminated : Table → Table
terminated w = released (record w { rows = over_children terminated_child w.rows })

abbrev pub terminated_where : Bool → Table → Table
terminated_where true w = terminated w
terminated_where false w = w

-- The third step of settling. It applies where nobody is ready, no due moment is pending, and every
-- unfinished child waits in a select with an open `terminate`, at least one existing.
abbrev pub finally_settled : Table → Table
finally_settled w = terminated_where (may_all_end w.rows) w

-- Settling whole: whoever is due is ready; where nobody is, the clock goes to the earliest due moment;
-- where there is none, children that wait with `terminate` alone finish.
abbrev pub wholly_settled : Table → Table
wholly_settled w = finally_settled (settled w)

-- every child that is unfinished waits in a select with an open `terminate`
abbrev pub AreServers : List Stand → Type 0
AreServers rows = (q : ℕ) → 0 < q → is_unfinished (at rows q) ≡ true → may_end (at rows q) ≡ true

-- process p is a child that waits so
abbrev pub IsServer : List Stand → ℕ → Type 0
IsServer rows p = (0 < p) × (may_end (at rows p) ≡ true)

-- no child waits so
abbrev pub IsNoServer : List Stand → Type 0
IsNoServer rows = (q : ℕ) → 0 < q → may_end (at rows q) ≡ false
