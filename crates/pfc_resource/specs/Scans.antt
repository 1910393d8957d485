-- Who is barred at a resource, as a scan finds it.
use Rattle.std.specs.Prelude.{ℕ, ◌≡◌, Option, None, Some, List}
use Rattle.pfc_state.specs.declared.waits.Why.TheVariants.{Barred as Barred_at}
use Rattle.pfc_state.specs.Stands.{Stand, Waits}
use Rattle.pfc_world.specs.Partners.{next_barred}
use Rattle.pfc_world.specs.Tables.{at}
use Rattle.pfc_resource.specs.declared.scans.Barred.{Barred}

-- a process that stands so is barred at some procedure of the resource
abbrev pub IsBarredAt : ℕ → Stand → Type 0
IsBarredAt g (Waits (Barred_at resource procedure) ticket arms) = resource ≡ g
IsBarredAt g _ = ⊥

-- the process, where it is barred at a resource
abbrev pub barred_in : ℕ → Stand → Option Barred
barred_in p (Waits (Barred_at resource procedure) ticket arms) = Some (record { process = p; procedure = procedure; ticket = ticket })
barred_in p _ = None

abbrev pub barred_among : List Stand → Option ℕ → Option Barred
barred_among rows (Some p) = barred_in p (at rows p)
barred_among rows None = None

-- A turn of a scan past a ticket takes the barred process of the least ticket above it.
abbrev pub scanned : List Stand → ℕ → Option ℕ → Option Barred
scanned rows g after = barred_among rows (next_barred rows g after)
