-- Rendezvous: calls of entries, and their meetings with `accept`.
use Rattle.std.specs.Prelude.{ℕ, ◌+◌, if◌then◌else◌, Bool, not, Option, None, Some, []}
use Rattle.pfc_state.specs.declared.waits.Why.TheVariants.{Call, Meeting, Accept}
use Rattle.pfc_state.specs.Stands.{Is_ready, Waits, is_unfinished}
use Rattle.pfc_world.specs.Partners.{is_accepting, caller}
use Rattle.pfc_world.specs.Tables.{Table, at}
use Rattle.pfc_world.specs.Transitions.{placed, blocked}

-- A call is a fault where the owner of the entry is idle or finished.
abbrev pub is_uncalled : Table → ℕ → Bool
is_uncalled w owner = not (is_unfinished (at w.rows owner))

-- `owner.e(..)` by the process that acts. Where the owner waits to accept the entry, in a plain statement
-- or in a select, the meeting begins: the owner is ready at the accept's statement, and the caller waits in
-- the rendezvous. Else the caller waits for the entry.
abbrev pub called : Table → ℕ → ℕ → ℕ → Table
called w p owner entry = if is_accepting w.rows owner entry then blocked (placed w owner Is_ready) p (Meeting owner) [] else blocked w p (Call owner entry) []

-- The meeting begins with a caller that waited: it waits anew, in the rendezvous, since this action.
abbrev pub taken : Table → ℕ → ℕ → Table
taken w p q = placed w q (Waits (Meeting p) (w.done + 1) [])

abbrev pub accepted_with : Option ℕ → Table → ℕ → ℕ → Table
accepted_with (Some q) w p entry = taken w p q
accepted_with None w p entry = blocked w p (Accept entry) []

-- `accept e` by the process that acts takes the first caller of its entry and goes on; without one it waits.
abbrev pub accepted : Table → ℕ → ℕ → Table
accepted w p entry = accepted_with (caller w.rows p entry) w p entry

-- The end of the accept's statement makes the caller ready.
abbrev pub meeting_ended : Table → ℕ → Table
meeting_ended w caller = placed w caller Is_ready
