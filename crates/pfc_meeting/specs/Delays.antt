-- An open `timeout`.
use Rattle.pfc_semantics.specs.Selects.{Timeout}
use Rattle.pfc_pending.specs.Selects.{open_view}
use Rattle.pfc_meeting.specs.declared.offered.Delay.{Delay}

abbrev pub delay_view : Delay → Timeout
delay_view d = record { seconds = d.seconds; at = open_view d.at.now }
