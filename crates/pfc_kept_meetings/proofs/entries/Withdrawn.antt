-- A process that acts, without what its activation at hand has made: it acts as before.
use Rattle.std.proofs.Common.{◌≡◌, ◌≢◌, ℕ, ◌<◌, [], length, set, None, refl, sym, ap, ◌∙◌, subst, ◌⊎◌, inl, inr}
use Rattle.std.proofs.lemmas.List.{get_or-set_same, get_or-set_other, length-set}
use Rattle.pfc_semantics.specs.Programs.{Program}
use Rattle.pfc_semantics.specs.Configurations.{Activity, Config, activity_of}
use Rattle.pfc_stacks.specs.Stacks.{stack_of}
use Rattle.pfc_machines.specs.declared.machine.Machine.{Machine}
use Rattle.pfc_machines.specs.declared.descriptors.Descriptor.{Descriptor}
use Rattle.pfc_machines.specs.Descriptors.{descriptor_by, descriptor_of, forgetting}
use Rattle.pfc_machines.specs.Offers.{without}
use Rattle.pfc_standing_code.specs.Settings.{Trial, of_own}
use Rattle.pfc_representation.specs.Levels.{Facts, program_in, LivingLevel}
use Rattle.pfc_representation.specs.Holding.{holders_in}
use Rattle.pfc_representation.specs.Machines.{SharesWords, AreAlike}
use Rattle.pfc_representation.specs.Processes.{IsAtLevel, RepresentsProcess}
use Rattle.pfc_representation.specs.Trials.{TrialIs, HasTried}
use Rattle.pfc_representation.specs.Acting.{IsActor, IsActing}
use Rattle.pfc_kept_messages.proofs.Rearmed.{level_again}
use Rattle.pfc_kept_meetings.proofs.selects.Gone.{unmade}

module _ (facts : Facts) (m : Machine) (c : Config) (p : ℕ) (level : LivingLevel) (acting : IsActing facts m c p level) (own : level.setting.trial ≡ of_own)
    (n : ℕ) (all : n ≡ length level.arms) where
  abbrev g : Program
  g = program_in facts

  abbrev a : Activity
  a = activity_of g c p

  abbrev d : Descriptor
  d = descriptor_of m.descriptors p

  abbrev pub less : Machine
  less = record m { descriptors = set m.descriptors p (forgetting n (descriptor_of m.descriptors p)) }

  abbrev pub level0 : LivingLevel
  level0 = record level { arms = [] }

  pub descriptor_here : descriptor_of less.descriptors p ≡ forgetting n d
  descriptor_here =
      get_or-set_same m.descriptors p (forgetting n d) (descriptor_by 0)
      (subst (λ j. p < j) (sym acting.alike.words.descriptors) acting.actor.process)

  descriptor_there : (q : ℕ) → q ≢ p → descriptor_of less.descriptors q ≡ descriptor_of m.descriptors q
  descriptor_there q apart = get_or-set_other m.descriptors p q (forgetting n d) (descriptor_by 0) apart

  words_less : SharesWords facts less c
  words_less =
      let old = acting.alike.words in
      record {
        processes = old.processes;
        stacks = old.stacks;
        descriptors = length-set m.descriptors p (forgetting n d) ∙ old.descriptors;
        rows = old.rows;
        semaphores = old.semaphores;
        monitors = old.monitors;
        owners = old.owners;
        resources = old.resources;
        input = old.input;
        draws = old.draws;
        in_line = old.in_line;
      }

  alike_less : AreAlike facts acting.homes acting.entries less c
  alike_less =
      let old = acting.alike in
      record {
        program = old.program;
        words = words_less;
        holds = old.holds;
        kinds = old.kinds;
        children = old.children;
        main = old.main;
        between = old.between;
        counts = old.counts;
        monitor_count = old.monitor_count;
        resource_count = old.resource_count;
        rooms = old.rooms;
        fault = old.fault;
      }

  level_less : IsAtLevel facts acting.homes acting.entries c.store m.stacks c.table (holders_in facts c) p a (forgetting n d) level0
  level_less =
      level_again facts acting.homes acting.entries c.store c.table p level [] m.stacks m.stacks (holders_in facts c) a d (without n d.communications)
      (unmade facts acting.homes acting.entries c.store c.table p level d.activations n d.communications all) refl refl a.doing a.hand a.line d.line d.offered
      acting.actor.stands

  at_own : ((stack_of m.stacks p).looks_from ≡ None) × (d.scan ≡ None)
  at_own = which acting.actor.trial
    where
      which : TrialIs level.setting.trial facts acting.homes acting.entries c.store m.stacks c.table p level a.activations d
          ⊎ HasTried level.setting.trial facts (stack_of m.stacks p) level a.activations d → ((stack_of m.stacks p).looks_from ≡ None) × (d.scan ≡ None)
      which (inl is) = subst (λ (t : Trial). TrialIs t facts acting.homes acting.entries c.store m.stacks c.table p level a.activations d) own is
      which (inr is) = absurd (let no : ⊥ = subst (λ (t : Trial). HasTried t facts (stack_of m.stacks p) level a.activations d) own is in no)

  actor_less : IsActor facts acting.homes acting.entries less c p level0
  actor_less =
      let old = acting.actor in
      record {
        process = old.process;
        ready = old.ready;
        line = ap (λ (y : Descriptor). y.line) descriptor_here ∙ old.line;
        spare = old.spare;
        stands =
            subst
            (λ (y : Descriptor). IsAtLevel facts acting.homes acting.entries c.store m.stacks c.table (holders_in facts c) p a y level0)
            (sym descriptor_here) level_less;
        trial =
            inl (subst
            (λ (t : Trial). TrialIs t facts acting.homes acting.entries c.store m.stacks c.table p level0 a.activations (descriptor_of less.descriptors p))
            (sym own) (at_own.0, ap (λ (y : Descriptor). y.scan) descriptor_here ∙ at_own.1));
        offered = ap (λ (y : Descriptor). y.offered) descriptor_here ∙ old.offered;
      }

  pub acting_less : IsActing facts less c p level0
  acting_less =
      record {
        homes = acting.homes;
        entries = acting.entries;
        alike = alike_less;
        few = acting.few;
        world = acting.world;
        others = λ q inside apart.
            subst
            (λ (y : Descriptor). RepresentsProcess facts acting.homes acting.entries c.store m.stacks c.table (holders_in facts c) q (activity_of g c q) y)
            (sym (descriptor_there q apart)) (acting.others q inside apart);
        actor = actor_less;
      }
