-- Settling: due moments, and the clock.
use Rattle.std.specs.Prelude.{ℕ, ◌≡◌, true, false, Bool, not, ◌&&◌, ◌||◌, is_none, if◌then◌else◌, Option, None, Some, List, map, drop}
use Rattle.std.specs.List.{list_any, list_all}
use Rattle.pfc_state.specs.Stands.{Stand, due_of, is_due, woken, is_unfinished, may_end}
use Rattle.pfc_world.specs.declared.answers.Settled.{Settled}
use Rattle.pfc_world.specs.declared.answers.Settled.TheVariants.{SomeReady, NobodyReady}
use Rattle.pfc_world.specs.Tables.{Table, at, some_ready}
use Rattle.pfc_world.specs.Firsts.{least}

-- the earliest due moment of those who wait for one
abbrev pub earliest : List Stand → Option ℕ
earliest rows = least due_of rows

-- whoever's due moment has come is ready
abbrev pub woken_now : Table → Table
woken_now w = record w { rows = map (woken w.moment) w.rows }

-- the due moment of process p has come
abbrev pub IsDue : Table → ℕ → Type 0
IsDue w p = is_due w.moment (due_of (at w.rows p)) ≡ true

-- the clock stands at this moment, and who is due then is ready
abbrev pub moved_to : Option ℕ → Table → Table
moved_to None w = w
moved_to (Some moment) w = woken_now (record w { moment = moment })

-- Whoever is due is ready. Where nobody is ready then, the clock goes to the earliest due moment.
abbrev pub settled : Table → Table
settled w = if some_ready (woken_now w).rows then woken_now w else moved_to (earliest (woken_now w).rows) (woken_now w)

-- some child is unfinished, and every unfinished child waits in a select with an open `terminate`
abbrev pub children_may_end : List Stand → Bool
children_may_end rows = list_any is_unfinished (drop 1 rows) && list_all (λ stand. not (is_unfinished stand) || may_end stand) (drop 1 rows)

-- nobody can act any more but by the end of all unfinished children, which may end, at least one existing
abbrev pub may_all_end : List Stand → Bool
may_all_end rows = not (some_ready rows) && is_none (earliest rows) && children_may_end rows

-- nobody is ready, and no due moment is pending
pub record IsAtRest (rows : List Stand) : Type 0 where
  pub nobody : some_ready rows ≡ false
  pub pending : earliest rows ≡ None

-- Somebody is ready; or nobody is, and no due moment is pending.
abbrev pub IsLeftBy : Settled → List Stand → Type 0
IsLeftBy SomeReady rows = some_ready rows ≡ true
IsLeftBy NobodyReady rows = IsAtRest rows
