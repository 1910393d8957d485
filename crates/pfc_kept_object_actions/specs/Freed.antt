-- Processes that an action of another frees: they waited where they show nothing, or were created, and are ready behind it.
use Rattle.std.specs.Prelude.{ℕ, ◌≡◌, ◌⊎◌, Bool, true, false, Some}
use Rattle.pfc_state.specs.Stands.{Stand, Is_created, Is_ready, Waits, is_unfinished}
use Rattle.pfc_state.specs.declared.waits.Why.{Why}
use Rattle.pfc_state.specs.declared.waits.Why.TheVariants.{Coend, Semaphore, Enter, Condition, Resumer, Entrant, Sleep}
use Rattle.pfc_world.specs.Holders.{holder_in}
use Rattle.pfc_world.specs.Tables.{Table, at}
use Rattle.pfc_machines.specs.declared.descriptors.Descriptor.{Descriptor}
use Rattle.pfc_machines.specs.Quiet.{tried_in}
use Rattle.pfc_representation.specs.Hands.{shows_nothing}
use Rattle.pfc_representation.specs.Holding.{Holders, waits_for_monitor, waits_for_resource}
use Rattle.pfc_representation.specs.Keeping.{IsLender}

-- ## One process

-- a process, and those who lend to it, stand where they stood
pub record StandsStill (table table' : Table) (q : ℕ) : Type 0 where
  pub row : at table'.rows q ≡ at table.rows q
  pub lenders : (r : ℕ) → IsLender table q r → at table'.rows r ≡ at table.rows r

-- who waited for a monitor or a resource has it now
pub record HasItsTurn (h : Holders) (q : ℕ) (stand : Stand) : Type 0 where
  pub monitors : (m : ℕ) → waits_for_monitor h.owners m stand ≡ true → holder_in h.monitors m ≡ Some q
  pub resources : (r : ℕ) → waits_for_resource r stand ≡ true → holder_in h.resources r ≡ Some q

-- Process q is ready now, and waited where it shows nothing, or was created. Those who lend to it stand where they stood, and so does one whose guard it tries.
pub record IsFreed (table table' : Table) (h : Holders) (q : ℕ) (d : Descriptor) : Type 0 where
  pub unfinished : is_unfinished (at table.rows q) ≡ true
  pub showed : shows_nothing (at table.rows q) ≡ true
  pub ready : at table'.rows q ≡ Is_ready
  pub has : HasItsTurn h q (at table.rows q)
  pub lenders : (r : ℕ) → IsLender table q r → at table'.rows r ≡ at table.rows r
  pub tried : (r : ℕ) → tried_in d.scan ≡ Some r → StandsStill table table' r

-- ## All others

-- a wait outside of all communication, which ends by an action of another or by a moment
abbrev pub may_be_freed_at : Why → Bool
may_be_freed_at Coend = true
may_be_freed_at (Semaphore s) = true
may_be_freed_at (Enter m) = true
may_be_freed_at (Condition c rank) = true
may_be_freed_at (Resumer m) = true
may_be_freed_at (Entrant r) = true
may_be_freed_at (Sleep due) = true
may_be_freed_at why = false

abbrev pub may_be_freed : Stand → Bool
may_be_freed Is_created = true
may_be_freed (Waits why ticket arms) = may_be_freed_at why
may_be_freed stand = false

pub record IsLetGo (h : Holders) (q : ℕ) (stand stand' : Stand) : Type 0 where
  pub waited : may_be_freed stand ≡ true
  pub ready : stand' ≡ Is_ready
  pub has : HasItsTurn h q stand

-- it stands where it stood, or is freed from such a wait
abbrev pub IsSameOrLetGo : Holders → ℕ → Stand → Stand → Type 0
IsSameOrLetGo h q stand stand' = (stand' ≡ stand) ⊎ IsLetGo h q stand stand'
