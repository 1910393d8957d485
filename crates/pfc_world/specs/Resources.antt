-- Guarded resources. An action on one is a function of the table of processes and the holders.
use Rattle.std.specs.Prelude.{ℕ, Option, None, Some, []}
use Rattle.pfc_state.specs.declared.waits.Why.TheVariants.{Entrant, Barred}
use Rattle.pfc_state.specs.Stands.{Is_ready}
use Rattle.pfc_world.specs.Holders.{Held, holder_in, standing, holding, given_to}
use Rattle.pfc_world.specs.Partners.{next_entrant}
use Rattle.pfc_world.specs.Transitions.{placed, blocked}

abbrev pub resource_entered_where : Option ℕ → Held → ℕ → ℕ → Held
resource_entered_where None h p g = holding h g (Some p)
resource_entered_where (Some q) h p g = standing h (blocked h.table p (Entrant g) [])

-- A call from outside, by the process that acts: it has a free resource, and else waits as an entrant.
abbrev pub resource_entered : Held → ℕ → ℕ → Held
resource_entered h p g = resource_entered_where (holder_in h.holders g) h p g

-- A resource whose guards were all tried goes to the first entrant, and else is free.
abbrev pub given_up : Held → ℕ → Held
given_up h g = given_to (next_entrant h.table.rows g) h g

-- The guard of the holder's procedure is false: the resource is given up, and it waits there, barred.
abbrev pub barred : Held → ℕ → ℕ → ℕ → Held
barred h p g procedure = standing (given_up h g) (blocked (given_up h g).table p (Barred g procedure) [])

-- The guard of a barred process is true: it has the resource and is ready at its body, and the process
-- that tried the guard goes on.
abbrev pub passed_to : Held → ℕ → ℕ → Held
passed_to h g q = given_to (Some q) h g

-- The guard of a barred process is true, and the process that tried it has requeued: in one action the
-- resource passes, and the requeued process is barred at its new procedure.
abbrev pub requeued : Held → ℕ → ℕ → ℕ → ℕ → Held
requeued h p g procedure q = holding (standing h (blocked (placed h.table q Is_ready) p (Barred g procedure) [])) g (Some q)
