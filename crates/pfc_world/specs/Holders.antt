-- What monitors and resources have in common: each is held by one process, or free.
use Rattle.std.specs.Prelude.{ℕ, Option, None, Some, List, slice_index_or, slice_set}
use Rattle.pfc_state.specs.Stands.{Is_ready}
use Rattle.pfc_world.specs.Tables.{Table}
use Rattle.pfc_world.specs.Transitions.{placed}

-- the table of processes, and who holds each monitor, or each resource, by its number; None where it is free
pub record Held : Type 0 where
  pub table : Table
  pub holders : List (Option ℕ)

abbrev pub held_in : Table → List (Option ℕ) → Held
held_in w holders = record { table = w; holders = holders }

abbrev pub holder_in : List (Option ℕ) → ℕ → Option ℕ
holder_in holders m = slice_index_or holders m None

-- other standings, and the same holders
abbrev pub standing : Held → Table → Held
standing h w = record { table = w; holders = h.holders }

-- this process holds it, or nobody does
abbrev pub holding : Held → ℕ → Option ℕ → Held
holding h m holder = record { table = h.table; holders = slice_set h.holders m holder }

-- It is given to a process that waits for it, which is ready then; or it is free.
abbrev pub given_to : Option ℕ → Held → ℕ → Held
given_to (Some q) h m = record { table = placed h.table q Is_ready; holders = slice_set h.holders m (Some q) }
given_to None h m = holding h m None
