-- Channels. A message passes in one action, from the process that sends it to the one that receives it.
use Rattle.std.specs.Prelude.{ℕ, Option, None, Some, []}
use Rattle.pfc_state.specs.declared.waits.Why.{Why}
use Rattle.pfc_state.specs.declared.waits.Why.TheVariants.{Send, Receive}
use Rattle.pfc_state.specs.Stands.{Is_ready}
use Rattle.pfc_world.specs.Partners.{receiver, sender}
use Rattle.pfc_world.specs.Tables.{Table}
use Rattle.pfc_world.specs.Transitions.{placed, blocked}

-- With a partner, that one is ready and the process that acts goes on; without one it waits. A partner
-- in a select is ready as any other: its other alternatives and its due moment are gone.
abbrev pub passed_with : Option ℕ → Table → ℕ → Why → Table
passed_with (Some q) w p why = placed w q Is_ready
passed_with None w p why = blocked w p why []

-- `c ! e` by the process that acts meets the first who waits to receive from c.
abbrev pub sent : Table → ℕ → ℕ → Table
sent w p c = passed_with (receiver w.rows c) w p (Send c)

-- `c ? v` by the process that acts meets the first who waits to send to c.
abbrev pub received : Table → ℕ → ℕ → Table
received w p c = passed_with (sender w.rows c) w p (Receive c)
