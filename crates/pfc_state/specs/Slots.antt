-- The place of one process in the table, as its row shows it.
use Rattle.std.specs.Prelude.{ℕ, Bool, true, false, List, []}
use Rattle.pfc_state.specs.declared.waits.Why.{Why}
use Rattle.pfc_state.specs.declared.waits.Why.TheVariants.{Select}
use Rattle.pfc_state.specs.declared.waits.Arm.{Arm}
use Rattle.pfc_state.specs.declared.row.Slot.{Slot}
use Rattle.pfc_state.specs.declared.row.Slot.TheVariants.{Idle, Created, Ready, Acting, Waiting, Done}
use Rattle.pfc_state.specs.Seats.{Seat}
use Rattle.pfc_state.specs.Stands.{Stand, Is_idle, Is_created, Is_ready, Waits, Is_done}

abbrev pub number_in : Slot → ℕ
number_in (Idle idle) = idle.number
number_in (Created created) = created.number
number_in (Ready ready) = ready.number
number_in (Acting number) = number
number_in (Waiting waiting) = waiting.number
number_in (Done done) = done.number

abbrev pub is_away : Slot → Bool
is_away (Acting number) = true
is_away _ = false

-- only a select offers alternatives
abbrev pub offered : Why → List Arm → List Arm
offered (Select due terminate) arms = arms
offered _ arms = []

-- who acts is shown as ready
abbrev pub stand_in : Slot → List Arm → Stand
stand_in (Idle idle) arms = Is_idle
stand_in (Created created) arms = Is_created
stand_in (Ready ready) arms = Is_ready
stand_in (Acting number) arms = Is_ready
stand_in (Waiting waiting) arms = Waits waiting.why waiting.ticket (offered waiting.why arms)
stand_in (Done done) arms = Is_done

abbrev pub seat_in : Slot → List Arm → ℕ → Seat
seat_in slot arms room = record { number = number_in slot; away = is_away slot; stand = stand_in slot arms; room = room }
