-- Tickets: the number of the action that began a wait.
use Rattle.std.specs.Prelude.{ℕ, ◌+◌, ◌≤◌, ◌≡◌, ◌≢◌, Some, List}
use Rattle.pfc_state.specs.Stands.{Stand, ticket_of}
use Rattle.pfc_world.specs.Tables.{at}

-- no two processes have one ticket
abbrev pub AreApart : List Stand → Type 0
AreApart rows = (j k t : ℕ) → ticket_of (at rows j) ≡ Some t → ticket_of (at rows k) ≡ Some t → j ≡ k

-- No ticket is later than the present action, and no two processes have one.
pub record AreTickets (rows : List Stand) (done : ℕ) : Type 0 where
  pub upto : (k t : ℕ) → ticket_of (at rows k) ≡ Some t → t ≤ done + 1
  pub apart : AreApart rows

-- nobody waits since the present action
abbrev pub IsNew : List Stand → ℕ → Type 0
IsNew rows done = (k : ℕ) → ticket_of (at rows k) ≢ Some (done + 1)
