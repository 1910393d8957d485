-- Who holds the monitors and resources in which a process is.
use Rattle.std.specs.Prelude.{ℕ, ◌≡◌, ◌⊎◌, Bool, true, false, ◌==◌, List, get_or, All, Option, Some}
use Rattle.pfc_state.specs.Stands.{Stand, Waits, Is_idle, Is_created, Is_done}
use Rattle.pfc_state.specs.declared.waits.Why.{Why}
use Rattle.pfc_state.specs.declared.waits.Why.TheVariants.{Coend, Enter, Condition, Resumer, Entrant, Barred}
use Rattle.pfc_world.specs.Holders.{holder_in}
use Rattle.pfc_semantics.specs.Configurations.{Mark, plain, of_monitor, of_resource, Activation, Config}
use Rattle.pfc_standing_code.specs.Settings.{Trial, of_own, of_turn, of_another}
use Rattle.pfc_representation.specs.Levels.{Facts, program_in}

-- who holds each monitor and each resource, and the monitor of each condition
pub record Holders : Type 0 where
  pub owners : List ℕ
  pub monitors : List (Option ℕ)
  pub resources : List (Option ℕ)

abbrev pub holders_in : Facts → Config → Holders
holders_in facts c = record { owners = (program_in facts).objects.conditions; monitors = c.monitors; resources = c.resources }

-- ## In what a process is

-- it waits to have the monitor, of which each condition is one's
abbrev pub waits_for_monitor_at : List ℕ → ℕ → Why → Bool
waits_for_monitor_at owners m (Enter n) = n == m
waits_for_monitor_at owners m (Resumer n) = n == m
waits_for_monitor_at owners m (Condition c rank) = get_or owners c 0 == m
waits_for_monitor_at owners m why = false

abbrev pub waits_for_monitor : List ℕ → ℕ → Stand → Bool
waits_for_monitor owners m (Waits why ticket arms) = waits_for_monitor_at owners m why
waits_for_monitor owners m stand = false

abbrev pub waits_for_resource_at : ℕ → Why → Bool
waits_for_resource_at r (Entrant s) = s == r
waits_for_resource_at r (Barred s procedure) = s == r
waits_for_resource_at r why = false

abbrev pub waits_for_resource : ℕ → Stand → Bool
waits_for_resource r (Waits why ticket arms) = waits_for_resource_at r why
waits_for_resource r stand = false

-- in an activation that entered a monitor or a resource a process holds it, or waits to
abbrev pub HoldsFor : Holders → ℕ → Stand → Mark → Type 0
HoldsFor h p stand plain = Unit {0}
HoldsFor h p stand (of_monitor m) = (holder_in h.monitors m ≡ Some p) ⊎ (waits_for_monitor h.owners m stand ≡ true)
HoldsFor h p stand (of_resource r) = (holder_in h.resources r ≡ Some p) ⊎ (waits_for_resource r stand ≡ true)

-- who scans a resource holds it, also where its activation in it has ended
abbrev pub HoldsScanned : Holders → ℕ → Trial → Type 0
HoldsScanned h p of_own = Unit {0}
HoldsScanned h p (of_turn scan back) = holder_in h.resources scan.resource ≡ Some p
HoldsScanned h p (of_another attempt) = holder_in h.resources attempt.scan.resource ≡ Some p

pub record Holds (h : Holders) (p : ℕ) (stand : Stand) (trial : Trial) (activations : List Activation) : Type 0 where
  pub entered : All (λ (a : Activation). HoldsFor h p stand a.mark) activations
  pub scanned : HoldsScanned h p trial

-- ## Children

-- Only while main waits at `coend` do children run.
abbrev pub is_quiet : Stand → Bool
is_quiet Is_idle = true
is_quiet Is_created = true
is_quiet Is_done = true
is_quiet stand = false

abbrev pub waits_at_coend : Stand → Bool
waits_at_coend (Waits Coend ticket arms) = true
waits_at_coend stand = false
