-- Resources that are free, and who waits for them.
use Rattle.std.specs.Prelude.{ℕ, ◌≡◌, None}
use Rattle.pfc_state.specs.declared.waits.Why.TheVariants.{Entrant}
use Rattle.pfc_state.specs.Stands.{ticket_at}
use Rattle.pfc_world.specs.Firsts.{IsNobody}
use Rattle.pfc_world.specs.Holders.{Held, holder_in}

-- a resource is free only where no entrant waits for it
abbrev pub AreOrderly : Held → Type 0
AreOrderly h = (g : ℕ) → holder_in h.holders g ≡ None → IsNobody (ticket_at (Entrant g)) h.table.rows
