-- When a sleep ends, and who stands where behind `coend`.
use Rattle.std.specs.Prelude.{ℕ, ◌+◌, ◌*◌, ◌==◌, ℤ, pos, negsuc, nat_le, if◌then◌else◌, Option, Some, None, Result, Ok, Err, []}
use Rattle.pfc_base.specs.declared.faults.RunFault.{RunFault}
use Rattle.pfc_base.specs.declared.faults.RunFault.TheVariants.{Below, Late}
use Rattle.pfc_state.specs.declared.waits.Why.TheVariants.{Coend}
use Rattle.pfc_world.specs.Tables.{Table, some_created}
use Rattle.pfc_world.specs.Transitions.{blocked, all_started}
use Rattle.pfc_semantics.specs.Selects.{latest}

-- the moment so many seconds behind this one, None where there is no wait
abbrev pub due_after : ℕ → ℕ → Result (Option ℕ) RunFault
due_after moment n = if n == 0 then Ok None else (if nat_le (moment + 1000 * n) latest then Ok (Some (moment + 1000 * n)) else Err Late)

-- the same of a number that was given
abbrev pub due_behind : ℕ → ℤ → Result (Option ℕ) RunFault
due_behind moment (pos n) = due_after moment n
due_behind moment (negsuc n) = Err Below

-- the table behind `coend`
abbrev pub at_coend : Table → ℕ → Table
at_coend w p = if some_created w.rows then blocked (all_started w) p Coend [] else w
