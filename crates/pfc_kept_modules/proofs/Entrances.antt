-- Who asks to enter a monitor or a resource has it where it is free, and else waits.
use Rattle.std.proofs.Common.{◌≡◌, ◌≢◌, ℕ, ◌+◌, ◌<◌, List, [], length, set, get_or, Option, Some, None, refl, sym, ap, ◌∙◌, inl, inr}
use Rattle.std.proofs.lemmas.List.{get_or-set_same, get_or-set_other, length-set}
use Rattle.pfc_state.specs.Stands.{Is_ready, Waits}
use Rattle.pfc_state.specs.declared.waits.Why.TheVariants.{Enter, Entrant}
use Rattle.pfc_world.specs.Holders.{holder_in}
use Rattle.pfc_world.specs.Tables.{at}
use Rattle.pfc_semantics.specs.Configurations.{Mark, plain, of_monitor, of_resource, Activation, Config}
use Rattle.pfc_machines.specs.declared.machine.Machine.{Machine}
use Rattle.pfc_standing_code.specs.Settings.{Trial, of_own, of_turn, of_another}
use Rattle.pfc_representation.specs.Levels.{Facts, program_in, LivingLevel}
use Rattle.pfc_representation.specs.Holding.{Holders, holders_in, waits_for_monitor, waits_for_resource, HoldsFor, Holds}
use Rattle.pfc_representation.specs.Acting.{IsActing}
use Rattle.pfc_kept_object_actions.proofs.Step.{Objects, holders_of, IsChange}
use Rattle.pfc_kept_object_actions.proofs.Change.{row_here, row_there, stays_ready, change_of}
use Rattle.pfc_kept_object_actions.proofs.Blocking.{there, blocked_so, blocks}
use Rattle.pfc_kept_object_actions.proofs.Tests.{same_numbers}

-- who holds one of them holds none that is free
other_held : (holders : List (Option ℕ)) (n j q : ℕ) → holder_in holders n ≡ None → holder_in holders j ≡ Some q → j ≢ n
other_held holders n j q free held same = absurd (let both : Some q ≡ None = sym held ∙ ap (λ i. holder_in holders i) same ∙ free in cc)

held_still : (holders : List (Option ℕ)) (n j q : ℕ) (new : Option ℕ) → holder_in holders n ≡ None → holder_in holders j ≡ Some q
    → holder_in (set holders n new) j ≡ Some q
held_still holders n j q new free held = get_or-set_other holders n j new None (other_held holders n j q free held) ∙ held

module _ (facts : Facts) (m : Machine) (c : Config) (p : ℕ) (level : LivingLevel) (acting : IsActing facts m c p level) (n : ℕ) where
  abbrev h : Holders
  h = holders_in facts c

  -- ## A monitor

  abbrev pub with_monitor : Objects
  with_monitor = record { table = c.table; counts = c.counts; monitors = set c.monitors n (Some p); resources = c.resources }

  pub has_monitor : n < length c.monitors → HoldsFor (holders_of facts with_monitor) p (at c.table.rows p) (of_monitor n)
  has_monitor few = inl (get_or-set_same c.monitors n (Some p) None few)

  module _ (free : holder_in c.monitors n ≡ None) where
    monitor_mark : (mark : Mark) → HoldsFor h p Is_ready mark → HoldsFor (holders_of facts with_monitor) p Is_ready mark
    monitor_mark plain is = is
    monitor_mark (of_monitor j) (inl held) = inl (held_still c.monitors n j p (Some p) free held)
    monitor_mark (of_monitor j) (inr waits) = inr waits
    monitor_mark (of_resource r) (inl held) = inl held
    monitor_mark (of_resource r) (inr waits) = inr waits

    monitor_holds : (trial : Trial) (xs : List Activation) → Holds h p Is_ready trial xs → Holds (holders_of facts with_monitor) p Is_ready trial xs
    monitor_holds of_own xs is = record { entered = λ k d below. monitor_mark (get_or xs k d).mark (is.entered k d below); scanned = tt }
    monitor_holds (of_turn scan back) xs is =
        record { entered = λ k d below. monitor_mark (get_or xs k d).mark (is.entered k d below); scanned = is.scanned }
    monitor_holds (of_another attempt) xs is =
        record { entered = λ k d below. monitor_mark (get_or xs k d).mark (is.entered k d below); scanned = is.scanned }

    pub monitor_change : IsChange facts c p with_monitor
    monitor_change =
        change_of facts m c p level acting with_monitor Is_ready
        (record {
          mine = acting.actor.ready;
          may = stays_ready c;
          rest = λ q apart. inl refl;
          size = refl;
          rests = acting.alike.between.acting;
          done = refl;
          moment = refl;
        })
        monitor_holds
        (λ q apart. record { owners = refl; monitors = λ j held. held_still c.monitors n j q (Some p) free held; resources = λ r held. held })
        refl (length-set c.monitors n (Some p)) refl

  -- ## A resource

  abbrev pub with_resource : Objects
  with_resource = record { table = c.table; counts = c.counts; monitors = c.monitors; resources = set c.resources n (Some p) }

  pub has_resource : n < length c.resources → HoldsFor (holders_of facts with_resource) p (at c.table.rows p) (of_resource n)
  has_resource few = inl (get_or-set_same c.resources n (Some p) None few)

  module _ (free : holder_in c.resources n ≡ None) where
    resource_mark : (mark : Mark) → HoldsFor h p Is_ready mark → HoldsFor (holders_of facts with_resource) p Is_ready mark
    resource_mark plain is = is
    resource_mark (of_monitor j) (inl held) = inl held
    resource_mark (of_monitor j) (inr waits) = inr waits
    resource_mark (of_resource r) (inl held) = inl (held_still c.resources n r p (Some p) free held)
    resource_mark (of_resource r) (inr waits) = inr waits

    resource_holds : (trial : Trial) (xs : List Activation) → Holds h p Is_ready trial xs → Holds (holders_of facts with_resource) p Is_ready trial xs
    resource_holds of_own xs is = record { entered = λ k d below. resource_mark (get_or xs k d).mark (is.entered k d below); scanned = tt }
    resource_holds (of_turn scan back) xs is =
        record {
          entered = λ k d below. resource_mark (get_or xs k d).mark (is.entered k d below);
          scanned = held_still c.resources n scan.resource p (Some p) free is.scanned;
        }
    resource_holds (of_another attempt) xs is =
        record {
          entered = λ k d below. resource_mark (get_or xs k d).mark (is.entered k d below);
          scanned = held_still c.resources n attempt.scan.resource p (Some p) free is.scanned;
        }

    pub resource_change : IsChange facts c p with_resource
    resource_change =
        change_of facts m c p level acting with_resource Is_ready
        (record {
          mine = acting.actor.ready;
          may = stays_ready c;
          rest = λ q apart. inl refl;
          size = refl;
          rests = acting.alike.between.acting;
          done = refl;
          moment = refl;
        })
        resource_holds
        (λ q apart. record { owners = refl; monitors = λ j held. held; resources = λ r held. held_still c.resources n r q (Some p) free held })
        refl refl (length-set c.resources n (Some p))

  -- ## It waits

  abbrev pub as_entrant : Objects
  as_entrant = blocked_so facts m c p level acting (Enter n)

  pub entrant_change : IsChange facts c p as_entrant
  entrant_change = blocks facts m c p level acting (Enter n) refl (λ t is. absurd (let no : None ≡ Some t = is in cc))

  pub entrant_waits : HoldsFor (holders_of facts as_entrant) p (at as_entrant.table.rows p) (of_monitor n)
  entrant_waits = inr (ap (waits_for_monitor (program_in facts).objects.conditions n)
      (row_here c.table.rows p (Waits (Enter n) (c.table.done + 1) []) (there facts m c p level acting)) ∙ same_numbers n n refl)

  pub entrant_beside : (q : ℕ) → q ≢ p → at as_entrant.table.rows q ≡ at c.table.rows q
  entrant_beside q apart = row_there c.table.rows p q (Waits (Enter n) (c.table.done + 1) []) apart

  abbrev pub as_resource_entrant : Objects
  as_resource_entrant = blocked_so facts m c p level acting (Entrant n)

  pub resource_entrant_change : IsChange facts c p as_resource_entrant
  resource_entrant_change = blocks facts m c p level acting (Entrant n) refl (λ t is. absurd (let no : None ≡ Some t = is in cc))

  pub resource_entrant_waits : HoldsFor (holders_of facts as_resource_entrant) p (at as_resource_entrant.table.rows p) (of_resource n)
  resource_entrant_waits = inr (ap (waits_for_resource n)
      (row_here c.table.rows p (Waits (Entrant n) (c.table.done + 1) []) (there facts m c p level acting)) ∙ same_numbers n n refl)

  pub resource_entrant_beside : (q : ℕ) → q ≢ p → at as_resource_entrant.table.rows q ≡ at c.table.rows q
  resource_entrant_beside q apart = row_there c.table.rows p q (Waits (Entrant n) (c.table.done + 1) []) apart
