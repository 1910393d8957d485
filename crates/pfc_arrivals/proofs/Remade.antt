-- A process that acts, whose last activation has made other alternatives.
use Rattle.std.proofs.Common.{◌≡◌, ◌≢◌, ℕ, ◌<◌, ℤ, List, length, set, sym, ap, ◌∙◌, subst, ◌⊎◌}
use Rattle.std.proofs.lemmas.List.{get_or-set_same, get_or-set_other, length-set}
use Rattle.pfc_semantics.specs.Configurations.{Activity, Config, activity_of}
use Rattle.pfc_stacks.specs.Stacks.{stack_of}
use Rattle.pfc_machines.specs.declared.alternatives.Alternative.{Alternative}
use Rattle.pfc_machines.specs.declared.machine.Machine.{Machine}
use Rattle.pfc_machines.specs.declared.descriptors.Descriptor.{Descriptor}
use Rattle.pfc_machines.specs.Descriptors.{descriptor_by, descriptor_of}
use Rattle.pfc_standing_code.specs.Effects.{Arm}
use Rattle.pfc_representation.specs.Levels.{Facts, program_in, LivingLevel}
use Rattle.pfc_representation.specs.Rooms.{process_count, MayMeet}
use Rattle.pfc_representation.specs.Holding.{holders_in}
use Rattle.pfc_representation.specs.Trials.{TrialIs, HasTried}
use Rattle.pfc_representation.specs.Processes.{IsAtLevel, RepresentsProcess}
use Rattle.pfc_representation.specs.Machines.{SharesWords, AreAlike}
use Rattle.pfc_representation.specs.Acting.{IsActor, IsActing}
use Rattle.pfc_arrivals.proofs.Armed.{armed, remade, AreRemade, LeadAgain, level_armed, either_armed}

module _ (facts : Facts) (m : Machine) (c : Config) (p : ℕ) (level : LivingLevel) (acting : IsActing facts m c p level) (arms : List Arm)
    (alts : List Alternative) (ws : List ℤ) where
  abbrev d : Descriptor
  d = descriptor_of m.descriptors p

  abbrev new : Descriptor
  new = remade d alts ws d.offered

  abbrev next : Machine
  next = record m { descriptors = set m.descriptors p (remade d alts ws d.offered) }

  abbrev a : Activity
  a = activity_of (program_in facts) c p

  pub d_now : descriptor_of next.descriptors p ≡ new
  d_now = get_or-set_same m.descriptors p new (descriptor_by 0) (subst (λ n. p < n) (sym acting.alike.words.descriptors) acting.actor.process)

  d_others : (q : ℕ) → q ≢ p → descriptor_of next.descriptors q ≡ descriptor_of m.descriptors q
  d_others q apart = get_or-set_other m.descriptors p q new (descriptor_by 0) apart

  words_remade : SharesWords facts next c
  words_remade =
      let old = acting.alike.words in
      record {
        processes = old.processes;
        stacks = old.stacks;
        descriptors = length-set m.descriptors p new ∙ old.descriptors;
        rows = old.rows;
        semaphores = old.semaphores;
        monitors = old.monitors;
        owners = old.owners;
        resources = old.resources;
        input = old.input;
        draws = old.draws;
        in_line = old.in_line;
      }

  alike_remade : AreAlike facts acting.homes acting.entries next c
  alike_remade =
      let old = acting.alike in
      record {
        program = old.program;
        words = words_remade;
        holds = old.holds;
        kinds = old.kinds;
        children = old.children;
        main = old.main;
        between = old.between;
        counts = old.counts;
        monitor_count = old.monitor_count;
        resource_count = old.resource_count;
        rooms = old.rooms;
        fault = old.fault;
      }

  module _ (made : AreRemade (length a.activations) level.arms d.communications.alternatives d.communications.words arms alts ws)
      (meet : MayMeet (process_count facts) d.communications.room.meetings arms) (leads : LeadAgain facts level arms) where
    actor_remade : IsActor facts acting.homes acting.entries next c p (armed level arms)
    actor_remade =
        let old = acting.actor in
        let trial = either_armed facts level arms acting.homes c.store acting.entries c.table p level.setting.trial m.stacks a.activations d alts ws
        d.offered old.trial in
        record {
          process = old.process;
          ready = old.ready;
          line = ap (λ (x : Descriptor). x.line) d_now ∙ old.line;
          spare = old.spare;
          stands =
              subst (λ (x : Descriptor). IsAtLevel facts acting.homes acting.entries c.store m.stacks c.table (holders_in facts c) p a x (armed level arms))
              (sym d_now)
              (level_armed facts level arms acting.homes c.store acting.entries c.table p m.stacks (holders_in facts c) a d alts ws d.offered made meet leads
              old.stands);
          trial =
              subst (λ (x : Descriptor). TrialIs level.setting.trial facts acting.homes acting.entries c.store m.stacks c.table p (armed level arms)
              a.activations x
              ⊎ HasTried level.setting.trial facts (stack_of m.stacks p) (armed level arms) a.activations x) (sym d_now) trial;
          offered = ap (λ (x : Descriptor). x.offered) d_now ∙ old.offered;
        }

    pub acting_remade : IsActing facts next c p (armed level arms)
    acting_remade = record {
      homes = acting.homes;
      entries = acting.entries;
      alike = alike_remade;
      few = acting.few;
      world = acting.world;
      others = λ q below apart.
          subst (λ (x : Descriptor). RepresentsProcess facts acting.homes acting.entries c.store m.stacks c.table (holders_in facts c) q
          (activity_of (program_in facts) c q) x)
          (sym (d_others q apart)) (acting.others q below apart);
      actor = actor_remade;
    }
