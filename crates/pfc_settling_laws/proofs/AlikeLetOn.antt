-- All that is alike on both sides is so still where some processes are let on, and the clock goes on.
use Rattle.std.proofs.Common.{◌≡◌, ℕ, ◌<◌, Bool, true, false, refl, sym, ◌∙◌, subst}
use Rattle.pfc_world.specs.Tables.{Table, at}
use Rattle.pfc_semantics.specs.Configurations.{Config, activity_of, with_table}
use Rattle.pfc_cells.specs.Homes.{Homes}
use Rattle.pfc_cells.specs.Memory.{Entries}
use Rattle.pfc_machines.specs.declared.machine.Machine.{Machine}
use Rattle.pfc_machines.specs.Descriptors.{descriptor_of}
use Rattle.pfc_representation.specs.Levels.{Facts, program_in}
use Rattle.pfc_representation.specs.Holding.{is_quiet, waits_at_coend, holders_in}
use Rattle.pfc_representation.specs.Objects.{AreOfKinds}
use Rattle.pfc_representation.specs.Machines.{SharesWords, HoldsStore, AreAlike, machine_table, Represents}
use Rattle.pfc_settling_laws.proofs.Standings.{still_quiet, still_unfinished}
use Rattle.pfc_settling_laws.proofs.Tables.{LetsOn, between_let_on}
use Rattle.pfc_settling_laws.proofs.LetOn.{process_on}

module _ (facts : Facts) (m : Machine) (c : Config) (table : Table) (on : LetsOn c.table table) where
  abbrev next : Config
  next = with_table c table

  abbrev after : Machine
  after = record m { world = machine_table facts table }

  pub words_on : SharesWords facts m c → SharesWords facts after next
  words_on old =
      record {
        processes = old.processes;
        stacks = old.stacks;
        descriptors = old.descriptors;
        rows = on.size ∙ old.rows;
        semaphores = old.semaphores;
        monitors = old.monitors;
        owners = old.owners;
        resources = old.resources;
        input = old.input;
        draws = old.draws;
        in_line = old.in_line;
      }

  not_at_coend : (b b' : Bool) → (b ≡ true → b' ≡ true) → b' ≡ false → b ≡ false
  not_at_coend true b' h away = absurd (let both : true ≡ false = sym (h refl) ∙ away in cc)
  not_at_coend false b' h away = refl

  module _ (homes : Homes) (entries : Entries) where
    children_on : AreAlike facts homes entries m c → waits_at_coend (at table.rows 0) ≡ false → (p : ℕ) → 0 < p → is_quiet (at table.rows p) ≡ true
    children_on old away p child =
        still_quiet (at c.table.rows p) (at table.rows p) (on.rows p)
        (old.children (not_at_coend (waits_at_coend (at c.table.rows 0)) (waits_at_coend (at table.rows 0)) on.coend away) p child)

    kinds_on : AreOfKinds facts homes c → AreOfKinds facts homes next
    kinds_on old = record {
      semaphores = old.semaphores;
      conditions = old.conditions;
      processes = old.processes;
      channel_numbers =
          old.channel_numbers;
      channels = old.channels;
    }

    alike_on : AreAlike facts homes entries m c → AreAlike facts homes entries after next
    alike_on old =
        record {
          program = old.program;
          words = words_on old.words;
          holds = subst (λ n. HoldsStore facts homes entries c.store m.stacks n) (sym on.done) old.holds;
          kinds = kinds_on old.kinds;
          children = children_on old;
          main = still_unfinished (at c.table.rows 0) (at table.rows 0) (on.rows 0) old.main;
          between = between_let_on c.table table on old.between;
          counts = old.counts;
          monitor_count = old.monitor_count;
          resource_count = old.resource_count;
          rooms = old.rooms;
          fault = old.fault;
        }

pub represents_on : (facts : Facts) (m : Machine) (c : Config) (table : Table) → LetsOn c.table table → Represents facts m c
    → Represents facts (record m { world = machine_table facts table }) (with_table c table)
represents_on facts m c table on old =
    record {
      homes = old.homes;
      entries = old.entries;
      alike = alike_on facts m c table on old.homes old.entries old.alike;
      world = refl;
      processes = λ p there.
          process_on facts old.homes old.entries c.store m.stacks c.table table on.rows (holders_in facts c) p (descriptor_of m.descriptors p)
          (activity_of (program_in facts) c p)
          (old.processes p there);
    }
