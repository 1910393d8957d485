-- What each transition does to the table.
use Rattle.std.specs.Prelude.{ℕ, ◌+◌, ◌≡◌, Bool, true, false, not, ◌&&◌, if◌then◌else◌, None, Some, List, map, drop, slice_set, Result, Ok, Err}
use Rattle.std.specs.List.{list_all}
use Rattle.pfc_base.specs.declared.faults.RunFault.{RunFault}
use Rattle.pfc_base.specs.declared.faults.RunFault.TheVariants.{Active}
use Rattle.pfc_state.specs.declared.waits.Why.{Why}
use Rattle.pfc_state.specs.declared.waits.Arm.{Arm}
use Rattle.pfc_state.specs.Stands.{Stand, Is_created, Is_ready, Waits, Is_done, IsWaiting, is_unfinished, is_at_coend, started}
use Rattle.pfc_world.specs.Tables.{Table, at}

-- the process acts
abbrev pub begun : Table → ℕ → Table
begun w p = record w { acting = Some p }

-- whoever acted is ready
abbrev pub rested : Table → Table
rested w = record w { acting = None }

-- the process stands at this, and all others where they stood
abbrev pub placed : Table → ℕ → Stand → Table
placed w p stand = record w { rows = slice_set w.rows p stand }

-- the process that acted waits, with the number of the present action as its ticket
abbrev pub blocked : Table → ℕ → Why → List Arm → Table
blocked w p why arms = rested (placed w p (Waits why (w.done + 1) arms))

-- main waits at `coend`, and no child is unfinished
abbrev pub is_released : List Stand → Bool
is_released rows = is_at_coend (at rows 0) && list_all (λ stand. not (is_unfinished stand)) (drop 1 rows)

-- the end of the last child makes main ready, where it waits at `coend`
abbrev pub released : Table → Table
released w = if is_released w.rows then placed w 0 Is_ready else w

-- the process has finished where it waited
abbrev pub ended : Table → ℕ → Table
ended w p = released (placed w p Is_done)

-- the process that acted has finished
abbrev pub finished : Table → ℕ → Table
finished w p = released (rested (placed w p Is_done))

-- all created processes are ready
abbrev pub all_started : Table → Table
all_started w = record w { rows = map started w.rows }

-- an action was done
abbrev pub ticked : Table → Table
ticked w = record w { done = w.done + 1; moment = w.moment + 1 }

-- A process is activated where it is not unfinished; else this is the fault, and nothing changes.
abbrev pub IsCreation : Table → ℕ → Result (Unit {0}) RunFault → Table → Type 0
IsCreation old p (Ok done) new = (is_unfinished (at old.rows p) ≡ false) × (new ≡ placed old p Is_created)
IsCreation old p (Err fault) new = (is_unfinished (at old.rows p) ≡ true) × (fault ≡ Active) × (new ≡ old)

-- who waits in both has the same wait
abbrev pub KeepsWaits : Table → Table → Type 0
KeepsWaits old new = (q : ℕ) → IsWaiting (at old.rows q) → IsWaiting (at new.rows q) → at new.rows q ≡ at old.rows q
