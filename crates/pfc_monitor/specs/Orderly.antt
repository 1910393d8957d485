-- Monitors that are free, and who waits for them.
use Rattle.std.specs.Prelude.{ℕ, ◌≡◌, None, List}
use Rattle.pfc_state.specs.declared.waits.Why.TheVariants.{Enter, Resumer}
use Rattle.pfc_state.specs.Stands.{Stand, ticket_at}
use Rattle.pfc_world.specs.Firsts.{IsNobody}
use Rattle.pfc_world.specs.Holders.{Held, holder_in}

-- nobody waits for the monitor
pub record IsUnwanted (rows : List Stand) (m : ℕ) : Type 0 where
  pub resumers : IsNobody (ticket_at (Resumer m)) rows
  pub entrants : IsNobody (ticket_at (Enter m)) rows

-- a monitor is free only where nobody waits for it
abbrev pub AreOrderly : Held → Type 0
AreOrderly h = (m : ℕ) → holder_in h.holders m ≡ None → IsUnwanted h.table.rows m
