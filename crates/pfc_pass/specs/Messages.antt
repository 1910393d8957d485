-- What `send` and `receive` answer, and when.
use Rattle.std.specs.Prelude.{ℕ, ◌≡◌, Option, None, Some, List}
use Rattle.pfc_state.specs.declared.waits.Arm.{Arm}
use Rattle.pfc_state.specs.Stands.{Stand}
use Rattle.pfc_world.specs.Partners.{alternative_met}
use Rattle.pfc_world.specs.Tables.{at}
use Rattle.pfc_pass.specs.declared.channels.Passed.{Passed}
use Rattle.pfc_pass.specs.declared.channels.Passed.TheVariants.{Met, Waits as Has_to_wait}

-- The process that acts meets this partner, at the partner's first alternative that is open to this where it waits in
-- a select, and goes on; it waits exactly where there is no partner.
abbrev pub IsMeeting : List Stand → Option ℕ → Arm → ℕ → Passed → Type 0
IsMeeting rows found open_to p (Met r partner alternative) = (found ≡ Some partner) × (alternative ≡ alternative_met open_to (at rows partner)) × (r.number ≡ p)
IsMeeting rows found open_to p Has_to_wait = found ≡ None

-- who acts afterwards: the process that goes on, or nobody
abbrev pub ActsAfter : Passed → Option ℕ → Type 0
ActsAfter (Met r partner alternative) acting = acting ≡ Some r.number
ActsAfter Has_to_wait acting = acting ≡ None
