-- Before an action for which memory was refused the machine represents the same configuration.
use Rattle.std.proofs.Common.{◌≡◌, ℕ, ◌<◌, true, false, List, [], ◌∷◌, length, slice_get, Option, Some, sym, ap, ◌∙◌, subst, ◌⊎◌, inl, inr}
use Rattle.std.proofs.lemmas.Bool.{cases_eq}
use Rattle.pfc_code.specs.declared.instructions.Instr.{Instr}
use Rattle.pfc_code.specs.declared.instructions.Instr.TheVariants.{SCAN}
use Rattle.pfc_state.specs.Stands.{Stand, Is_ready, is_unfinished}
use Rattle.pfc_world.specs.Tables.{Table, at}
use Rattle.pfc_world.specs.Transitions.{rested}
use Rattle.pfc_semantics.specs.Configurations.{Activation, Activity, Config, activity_of}
use Rattle.pfc_semantics.specs.Steps.{next_of}
use Rattle.pfc_translation.specs.Images.{image_of}
use Rattle.pfc_select_actions.specs.Selects.{takes_up}
use Rattle.pfc_stacks.specs.Stacks.{Stack, stack_of}
use Rattle.pfc_machines.specs.declared.machine.Machine.{Machine}
use Rattle.pfc_machines.specs.declared.descriptors.Descriptor.{Descriptor}
use Rattle.pfc_machines.specs.Actions.{at_rest}
use Rattle.pfc_machines.specs.Descriptors.{descriptor_of}
use Rattle.pfc_machine_acts.specs.Performing.{may_want_memory}
use Rattle.pfc_machine_acts.specs.Quietly.{next_instr}
use Rattle.pfc_standing_code.specs.Settings.{Trial, of_own, of_turn, of_another}
use Rattle.pfc_representation.specs.Levels.{Facts, program_in, LivingLevel, DoesOn}
use Rattle.pfc_representation.specs.Holding.{holders_in}
use Rattle.pfc_representation.specs.Trials.{TrialIs, HasTried, IsAtTurn}
use Rattle.pfc_representation.specs.Processes.{IsUnderWay, ActivationsAre, RepresentsProcess}
use Rattle.pfc_representation.specs.Machines.{SharesWords, AreAlike, machine_table, Represents}
use Rattle.pfc_representation.specs.Acting.{IsActing}
use Rattle.pfc_arrivals.specs.Arrivals.{begins, IsAboutToAct, ComesAndStays}
use Rattle.pfc_arrivals.proofs.Armed.{armed}
use Rattle.pfc_arrivals.proofs.Taken.{HasBegun, has_begun}
use Rattle.pfc_arrivals.proofs.Arriving.{HasCome, scan_stands, came, comes_to_action}

-- a turn of a scan wants no memory
no_turn : (k : ℕ) (i : Instr) → Some i ≡ Some (SCAN k) → may_want_memory i ≡ true → ⊥
no_turn k i same wants = (let both : false ≡ true = ap may_want_memory (sym (let e : i ≡ SCAN k = cc in e)) ∙ wants in cc)

unfinished : (stand : Stand) → stand ≡ Is_ready → is_unfinished stand ≡ false → ⊥
unfinished stand ready over = (let both : true ≡ false = sym (ap is_unfinished ready) ∙ over in cc)

module _ (facts : Facts) (m : Machine) (c : Config) (p : ℕ) (is : Represents facts m c) (about : IsAboutToAct facts m c p) where
  abbrev begun : HasBegun facts m c p
  begun = has_begun facts m c p is about

  abbrev end : HasCome facts c p begun.level (next_of (program_in facts) c p) (takes_up p (begins p m)) (stack_of m.stacks p).at
  end = came facts m c p is about

  abbrev there : Machine
  there = end.before

  abbrev level : LivingLevel
  level = armed begun.level end.more

  abbrev acting : IsActing facts there c p level
  acting = end.acting

  abbrev a : Activity
  a = activity_of (program_in facts) c p

  abbrev s : Stack
  s = stack_of there.stacks p

  abbrev d : Descriptor
  d = descriptor_of there.descriptors p

  does_there : DoesOn level s.at s.operands a.doing
  does_there = (end.room, end.arms_fit, inr end.arrived)

  module _ (i : Instr) (is_next : next_instr (image_of facts.tree) p there ≡ Some i) (wants : may_want_memory i ≡ true) where
    not_at_turn : (trial : Trial) → HasTried trial facts s level a.activations d → IsAtTurn trial s.at → ⊥
    not_at_turn of_own tried turned = tried
    not_at_turn (of_turn scan back) tried turned = tried
    not_at_turn (of_another attempt) tried turned =
        let scan = scan_stands facts attempt.scan.resource attempt.turn tried.2 in
        no_turn scan.0 i (sym is_next ∙ ap (λ n. slice_get (image_of facts.tree).code n) turned ∙ scan.1) wants

    trial_by : TrialIs level.setting.trial facts acting.homes acting.entries c.store there.stacks c.table p level a.activations d
        ⊎ HasTried level.setting.trial facts s level a.activations d
        → TrialIs level.setting.trial facts acting.homes acting.entries c.store there.stacks c.table p level a.activations d
    trial_by (inl trial) = trial
    trial_by (inr tried) = absurd (not_at_turn level.setting.trial tried (end.turned tried))

    under_way : IsUnderWay facts acting.homes acting.entries c.store there.stacks c.table (holders_in facts c) p a d
    under_way = record {
      unfinished = ap is_unfinished about.ready;
      level = level;
      stands = acting.actor.stands;
      within = end.within;
      hand = begun.shows acting.homes acting.entries end.more s.at s.operands d acting.actor.offered does_there;
      trial = trial_by acting.actor.trial;
    }

    with_some : (xs : List Activation)
        → ActivationsAre xs facts is.homes is.entries c.store m.stacks c.table (holders_in facts c) p a (descriptor_of m.descriptors p)
        → ActivationsAre xs facts acting.homes acting.entries c.store there.stacks c.table (holders_in facts c) p a d
    with_some [] old = absurd (unfinished (at c.table.rows p) about.ready old.finished)
    with_some (x ∷ xs) old = under_way

    mine : RepresentsProcess facts acting.homes acting.entries c.store there.stacks c.table (holders_in facts c) p a d
    mine = record {
      line = acting.actor.line;
      spare = acting.actor.spare;
      activations = with_some a.activations (is.processes p about.process).activations;
    }

    each : (q : ℕ) → q < length c.activities
        → RepresentsProcess facts acting.homes acting.entries c.store there.stacks c.table (holders_in facts c) q (activity_of (program_in facts) c q)
        (descriptor_of there.descriptors q)
    each q below = elim (cases_eq q p) [
      | inl same ↦
          subst (λ n. RepresentsProcess facts acting.homes acting.entries c.store there.stacks c.table (holders_in facts c) n
          (activity_of (program_in facts) c n) (descriptor_of there.descriptors n)) (sym same) mine
      | inr apart ↦ acting.others q below apart
    ]

    words_there : SharesWords facts (at_rest there) c
    words_there =
        let old = acting.alike.words in
        record {
          processes = old.processes;
          stacks = old.stacks;
          descriptors = old.descriptors;
          rows = old.rows;
          semaphores = old.semaphores;
          monitors = old.monitors;
          owners = old.owners;
          resources = old.resources;
          input = old.input;
          draws = old.draws;
          in_line = old.in_line;
        }

    alike_there : AreAlike facts acting.homes acting.entries (at_rest there) c
    alike_there =
        let old = acting.alike in
        record {
          program = old.program;
          words = words_there;
          holds = old.holds;
          kinds = old.kinds;
          children = old.children;
          main = old.main;
          between = old.between;
          counts = old.counts;
          monitor_count = old.monitor_count;
          resource_count = old.resource_count;
          rooms = old.rooms;
          fault = old.fault;
        }

    world_there : rested there.world ≡ machine_table facts c.table
    world_there =
        ap (λ (w : Table). rested w) acting.world
        ∙ ap (λ (o : Option ℕ). record (machine_table facts c.table) { acting = o }) (sym acting.alike.between.acting)

    stays_there : Represents facts (at_rest there) c
    stays_there = record {
      homes = acting.homes;
      entries = acting.entries;
      alike = alike_there;
      world = world_there;
      processes = each;
    }

  pub comes_and_stays : ComesAndStays facts m c p
  unfolding comes_to_action
  comes_and_stays = record { come = comes_to_action facts m c p is about; stays = stays_there }
