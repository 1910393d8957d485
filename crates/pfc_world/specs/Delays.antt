-- Who is delayed at a condition, as the table keeps it beside its rows.
use Rattle.std.specs.Prelude.{ℕ, Option, None, Some}
use Rattle.pfc_ranks.specs.declared.ranks.Delay.{Delay}
use Rattle.pfc_state.specs.declared.waits.Why.{Why}
use Rattle.pfc_state.specs.declared.waits.Why.TheVariants.{Condition}
use Rattle.pfc_state.specs.Stands.{Stand, Waits}

-- a wait at a condition, with its rank and its ticket
abbrev pub delay_of_wait : Why → ℕ → Option Delay
delay_of_wait (Condition number rank) ticket = Some (record { object = number; rank = rank; ticket = ticket })
delay_of_wait _ ticket = None

abbrev pub delay_of : Stand → Option Delay
delay_of (Waits why ticket arms) = delay_of_wait why ticket
delay_of _ = None
