-- Time, and settling.
use Rattle.std.specs.Prelude.{ℕ, ◌+◌, ◌*◌, ◌/◌, ℤ, pos, negsuc, zero, suc, nat_le, if◌then◌else◌, List, [], ◌∷◌, Ok, Err}
use Rattle.pfc_base.specs.declared.faults.RunFault.TheVariants.{Below, Late}
use Rattle.pfc_state.specs.declared.waits.Why.TheVariants.{Sleep}
use Rattle.pfc_state.specs.Stands.{Stand, may_end}
use Rattle.pfc_world.specs.Tables.{Table}
use Rattle.pfc_world.specs.Transitions.{blocked}
use Rattle.pfc_world.specs.Settling.{may_all_end, settled}
use Rattle.pfc_world.specs.Terminating.{wholly_settled}
use Rattle.pfc_values.specs.Numbers.{Outcome, fitting}
use Rattle.pfc_semantics.specs.Values.{ordinal}
use Rattle.pfc_semantics.specs.Store.{Store}
use Rattle.pfc_semantics.specs.Programs.{Program}
use Rattle.pfc_semantics.specs.Remainders.{Context, Remainder, AwaitsValue}
use Rattle.pfc_semantics.specs.Configurations.{Activity, Config, Effect, goes_on, holds, with_table}
use Rattle.pfc_semantics.specs.Processes.{ended_activity, without_all}
use Rattle.pfc_semantics.specs.Selects.{latest}

-- ## `sleep` and `clock`

-- `sleep(0)` does not wait. Else the process waits until the clock, as it stands before this action, has gone on by 1000 for each second; fault 15
-- where that moment is too late.
abbrev pub slept : Program → Config → ℕ → Context → ℕ → Remainder → Effect
slept g c p x zero k = Ok (goes_on g c p x k)
slept g c p x (suc n) k =
    let due = c.table.moment + 1000 * suc n in
    if nat_le due latest then Ok (with_table (goes_on g c p x k) (blocked c.table p (Sleep due) [])) else Err Late

-- fault 14 where the seconds are below 0
abbrev pub sleeps_for : Program → Config → ℕ → Context → ℤ → Remainder → Effect
sleeps_for g c p x (pos n) k = slept g c p x n k
sleeps_for g c p x (negsuc n) k = Err Below

-- `clock` gives whole seconds, and is fault 1 where they do not fit in 32 bits
abbrev pub clocked : Program → Config → ℕ → Context → AwaitsValue → Outcome → Effect
clocked g c p x u (Ok n) = Ok (holds g c p x (ordinal n) u)
clocked g c p x u (Err f) = Err f

abbrev pub clocks : Program → Config → ℕ → Context → AwaitsValue → Effect
clocks g c p x u = clocked g c p x u (fitting (pos (c.table.moment / 1000)))

-- ## Settling

-- the children that wait in a select with an open `terminate`, and so finish, have no activations any more
abbrev pub ended_children : List Stand → List Activity → List Activity
ended_children (stand ∷ rows) (a ∷ activities) = (if may_end stand then ended_activity a else a) ∷ ended_children rows activities
ended_children rows activities = activities

abbrev pub rooms_left : List Stand → List Activity → Store → Store
rooms_left (stand ∷ rows) (a ∷ activities) store = rooms_left rows activities (if may_end stand then without_all store a.activations else store)
rooms_left rows activities store = store

abbrev pub terminated_over : Table → Config → Config
terminated_over w c = record c { activities = ended_children w.rows c.activities; store = rooms_left w.rows c.activities c.store }

-- Before each pick, and before each question how the run ends: who is due is ready; where nobody is ready, the clock goes on to the earliest due
-- moment; and where none is pending, the children that wait for nothing but to communicate or to terminate finish. That is no action.
abbrev pub settled_config : Config → Config
settled_config c =
    let w = settled c.table in
    with_table (if may_all_end w.rows then terminated_over w c else c) (wholly_settled c.table)
