-- A quiet instruction of the process that acts.
use Rattle.std.proofs.Common.{◌≡◌, ◌≢◌, ℕ, ◌^◌, ◌≤◌, ◌<◌, ℤ, List, [], ◌∷◌, length, Some, None, refl, sym, ap, ◌∙◌, subst, ◌⊎◌, inl, inr}
use Rattle.std.proofs.lemmas.List.{get_or-set_same, get_or-set_other, length-set}
use Rattle.pfc_state.specs.Stands.{Stand, Is_ready, Waits}
use Rattle.pfc_state.specs.declared.waits.Why.TheVariants.{Barred}
use Rattle.pfc_world.specs.Tables.{Table, at}
use Rattle.pfc_semantics.specs.Store.{Store}
use Rattle.pfc_semantics.specs.Configurations.{Activation, Activity, Config, activity_of}
use Rattle.pfc_stacks.specs.declared.refs.Ref.{Ref}
use Rattle.pfc_stacks.specs.Refs.{word_of}
use Rattle.pfc_stacks.specs.Stacks.{Stack, Stacks, no_stack, stack_of, cells_of, last_activation}
use Rattle.pfc_stacks.specs.Effects.{moved}
use Rattle.pfc_cells.specs.Homes.{Homes}
use Rattle.pfc_cells.specs.Memory.{Entries, ProcessIs}
use Rattle.pfc_machines.specs.declared.machine.Machine.{Machine}
use Rattle.pfc_machines.specs.declared.descriptors.Descriptor.{Descriptor}
use Rattle.pfc_machines.specs.Descriptors.{descriptor_of}
use Rattle.pfc_machines.specs.Quiet.{tried_in}
use Rattle.pfc_standing_code.specs.Settings.{Trial, Attempt, of_own, of_turn, of_another}
use Rattle.pfc_stack_laws.proofs.Moves.{cells_moved}
use Rattle.pfc_representation.specs.Levels.{Facts, program_in, LivingLevel, SeesWith, IsSeenBy}
use Rattle.pfc_representation.specs.Callers.{AreCallers}
use Rattle.pfc_representation.specs.Holding.{Holders, holders_in}
use Rattle.pfc_representation.specs.Trials.{TriesAnother, TrialIs, HasTried}
use Rattle.pfc_representation.specs.Processes.{IsAtLevel, ActivationsAre, RepresentsProcess}
use Rattle.pfc_representation.specs.Machines.{SharesWords, HoldsStore, AreAlike}
use Rattle.pfc_representation.specs.Acting.{IsActor, IsActing}
use Rattle.pfc_representation.specs.Keeping.{IsSameStack, OnlyMoves}
use Rattle.pfc_representation.proofs.Kept.{process_still}
use Rattle.pfc_representation.proofs.Moves.{moved_alone}

-- ## Who is tried is barred

is_waiting : (stand : Stand) (resource procedure ticket : ℕ) → stand ≡ Waits (Barred resource procedure) ticket [] → stand ≡ Is_ready → ⊥
is_waiting stand resource procedure ticket h ready = (let both : Waits (Barred resource procedure) ticket [] ≡ Is_ready = sym h ∙ ready in cc)

module _ (facts : Facts) (homes : Homes) (entries : Entries) (store : Store) (stacks : Stacks) (table : Table) (h : Holders) (q : ℕ) (d : Descriptor) where
  in_trial : (trial : Trial) (level : LivingLevel) (xs : List Activation) (r : ℕ) → TrialIs trial facts homes entries store stacks table q level xs d
      → tried_in d.scan ≡ Some r → at table.rows r ≡ Is_ready → ⊥
  in_trial of_own level xs r is tried ready = (let both : None ≡ Some r = ap tried_in (sym is.1) ∙ tried in cc)
  in_trial (of_turn scan back) level xs r is tried ready = (let both : None ≡ Some r = ap tried_in (sym is.1) ∙ tried in cc)
  in_trial (of_another attempt) level xs r is tried ready =
      let same : attempt.whom.process ≡ r = (let both : Some attempt.whom.process ≡ Some r = ap tried_in (sym is.scan) ∙ tried in cc) in
      is_waiting (at table.rows r) attempt.scan.resource attempt.whom.bar.procedure attempt.whom.ticket (ap (λ n. at table.rows n) (sym same) ∙ is.barred) ready

  in_activations : (xs : List Activation) (a : Activity) (r : ℕ) → ActivationsAre xs facts homes entries store stacks table h q a d → tried_in d.scan ≡ Some r
      → at table.rows r ≡ Is_ready → ⊥
  in_activations [] a r is tried ready = (let both : None ≡ Some r = ap tried_in (sym is.scan) ∙ tried in cc)
  in_activations (x ∷ xs) a r is tried ready = in_trial is.level.setting.trial is.level a.activations r is.trial tried ready

  -- so it is not ready
  pub tried_waits : (a : Activity) (r : ℕ) → RepresentsProcess facts homes entries store stacks table h q a d → tried_in d.scan ≡ Some r
      → at table.rows r ≡ Is_ready → ⊥
  tried_waits a r is tried ready = in_activations a.activations a r is.activations tried ready

-- ## One process moves

moved_here : (stacks : Stacks) (p to : ℕ) (left : List ℤ) → p < length stacks
    → stack_of (moved stacks p to left) p ≡ record (stack_of stacks p) { at = to; operands = left }
moved_here stacks p to left there = get_or-set_same stacks p (record (stack_of stacks p) { at = to; operands = left }) no_stack there

moved_there : (stacks : Stacks) (p to : ℕ) (left : List ℤ) (q : ℕ) → q ≢ p → stack_of (moved stacks p to left) q ≡ stack_of stacks q
moved_there stacks p to left q apart = get_or-set_other stacks p q (record (stack_of stacks p) { at = to; operands = left }) no_stack apart

same_stack : (s s' : Stack) → s' ≡ s → IsSameStack s s'
same_stack s s' h = record {
  at = ap (λ (x : Stack). x.at) h;
  base = ap (λ (x : Stack). x.base) h;
  operands = ap (λ (x : Stack). x.operands) h;
  room = ap (λ (x : Stack). x.room) h;
  spare = ap (λ (x : Stack). x.spare) h;
  looks_from = ap (λ (x : Stack). x.looks_from) h;
}

module _ (facts : Facts) (m : Machine) (c : Config) (p : ℕ) (level : LivingLevel) (to : ℕ) (left : List ℤ) (acting : IsActing facts m c p level) where
  abbrev next : Machine
  next = record m { stacks = moved m.stacks p to left }

  there : p < length m.stacks
  there = subst (λ n. p < n) (sym acting.alike.words.stacks) acting.actor.process

  size : length next.stacks ≡ length m.stacks
  size = length-set m.stacks p (record (stack_of m.stacks p) { at = to; operands = left })

  cells : (q : ℕ) → cells_of next.stacks q ≡ cells_of m.stacks q
  cells q = cells_moved m.stacks p to left q there

  holds_moved : HoldsStore facts acting.homes acting.entries c.store next.stacks c.table.done
  holds_moved =
      let old = acting.alike.holds in
      record {
        memory = λ q. subst (λ ws. ProcessIs (program_in facts) acting.homes c.store q (acting.entries q) ws) (sym (cells q)) (old.memory q);
        few = record {
          cells = λ q. subst (λ (ws : List ℤ). length ws < 2 ^ 32) (sym (cells q)) (old.few.cells q);
          processes = subst (λ n. n ≤ 1024) (sym size) old.few.processes;
        };
        objects = old.objects;
        main = old.main;
        mains = old.mains;
        numbers = old.numbers;
      }

  words_moved : SharesWords facts next c
  words_moved =
      let old = acting.alike.words in
      record {
        processes = old.processes;
        stacks = size ∙ old.stacks;
        descriptors = old.descriptors;
        rows = old.rows;
        semaphores = old.semaphores;
        monitors = old.monitors;
        owners = old.owners;
        resources = old.resources;
        input = old.input;
        draws = old.draws;
        in_line = old.in_line;
      }

  alike_moved : AreAlike facts acting.homes acting.entries next c
  alike_moved =
      let old = acting.alike in
      record {
        program = old.program;
        words = words_moved;
        holds = holds_moved;
        kinds = old.kinds;
        children = old.children;
        main = old.main;
        between = old.between;
        counts = old.counts;
        monitor_count = old.monitor_count;
        resource_count = old.resource_count;
        rooms = old.rooms;
        fault = old.fault;
      }

  only : OnlyMoves p m.stacks next.stacks c.table c.table
  only = record {
    acting = acting.actor.ready;
    others = λ q apart. same_stack (stack_of m.stacks q) (stack_of next.stacks q) (moved_there m.stacks p to left q apart);
    rows = λ q apart. refl;
  }

  pub others_moved : (q : ℕ) → q < length c.activities → q ≢ p
      → RepresentsProcess facts acting.homes acting.entries c.store next.stacks c.table (holders_in facts c) q (activity_of (program_in facts) c q)
      (descriptor_of m.descriptors q)
  others_moved q within apart =
      let old = acting.others q within apart in
      let d : Descriptor = descriptor_of m.descriptors q in
      let tried : (r : ℕ) → tried_in d.scan ≡ Some r → r ≢ p =
      λ r is same. tried_waits facts acting.homes acting.entries c.store m.stacks c.table (holders_in facts c) q d
      (activity_of (program_in facts) c q) r old is (ap (λ n. at c.table.rows n) same ∙ acting.actor.ready) in
      process_still facts q d acting.homes acting.homes acting.entries acting.entries c.store c.store m.stacks next.stacks c.table c.table (holders_in facts c)
      (holders_in facts c)
      (moved_alone facts p acting.homes acting.entries c.store m.stacks next.stacks c.table c.table (holders_in facts c) only q d apart tried)
      (activity_of (program_in facts) c q) old

  -- ## The process itself

  place : last_activation next.stacks p ≡ last_activation m.stacks p
  place = ap (λ (s : Stack). record { process = p; cell = s.base }) (moved_here m.stacks p to left there)

  abbrev a : Activity
  a = activity_of (program_in facts) c p

  abbrev d : Descriptor
  d = descriptor_of m.descriptors p

  level_moved : IsAtLevel facts acting.homes acting.entries c.store next.stacks c.table (holders_in facts c) p a d level
  level_moved =
      let old = acting.actor.stands in
      let here = moved_here m.stacks p to left there in
      record {
        count = old.count;
        seen = subst (λ (x : Ref). IsSeenBy facts acting.homes acting.entries c.store c.table p d.communications.callers (acting.entries p)
            (word_of x) a.display level) (sym place) old.seen;
        callers = subst (λ (s : Stack). AreCallers facts acting.homes acting.entries c.store c.table p s.room level
            (word_of (last_activation next.stacks p)) d.communications a.activations (acting.entries p)) (sym here)
            (subst (λ (x : Ref). AreCallers facts acting.homes acting.entries c.store c.table p (stack_of m.stacks p).room level
            (word_of x) d.communications a.activations (acting.entries p)) (sym place) old.callers);
        room = subst (λ (s : Stack). level.setting.room ≤ s.room) (sym here) old.room;
        accepts = old.accepts;
        met = old.met;
        holds = old.holds;
      }

  looks : (stack_of next.stacks p).looks_from ≡ (stack_of m.stacks p).looks_from
  looks = ap (λ (s : Stack). s.looks_from) (moved_here m.stacks p to left there)

  tried_apart : (attempt : Attempt) (xs : List Activation) → TriesAnother facts acting.homes acting.entries c.store m.stacks c.table p level attempt xs d
      → attempt.whom.process ≢ p
  tried_apart attempt xs is same = is_waiting (at c.table.rows p) attempt.scan.resource attempt.whom.bar.procedure attempt.whom.ticket
      (ap (λ n. at c.table.rows n) (sym same) ∙ is.barred) acting.actor.ready

  another_moved : (attempt : Attempt) (xs : List Activation) → TriesAnother facts acting.homes acting.entries c.store m.stacks c.table p level attempt xs d
      → TriesAnother facts acting.homes acting.entries c.store next.stacks c.table p level attempt xs d
  another_moved attempt xs is =
      let r : ℕ = attempt.whom.process in
      let same : last_activation next.stacks r ≡ last_activation m.stacks r = ap (λ (s : Stack). record { process = r; cell = s.base })
      (moved_there m.stacks p to left r (tried_apart attempt xs is)) in
      record {
        from = looks ∙ is.from;
        barred = is.barred;
        procedure = is.procedure;
        turn = is.turn;
        scan = is.scan;
        way = is.way;
        room = is.room;
        lenders = is.lenders;
        display = is.display;
        sees = subst (λ (x : Ref). SeesWith facts acting.homes acting.entries c.store c.table r is.lenders (acting.entries r)
            (word_of x) is.display level.setting level.setting.block level.setting.accepts level.setting.view) (sym same) is.sees;
        around = is.around;
      }

  trial_moved : (trial : Trial) (xs : List Activation) → TrialIs trial facts acting.homes acting.entries c.store m.stacks c.table p level xs d
      → TrialIs trial facts acting.homes acting.entries c.store next.stacks c.table p level xs d
  trial_moved of_own xs is = (looks ∙ is.0, is.1)
  trial_moved (of_turn scan back) xs is = (looks ∙ is.0, is.1, is.2)
  trial_moved (of_another attempt) xs is = another_moved attempt xs is

  tried_moved : (trial : Trial) (xs : List Activation) → HasTried trial facts (stack_of m.stacks p) level xs d
      → HasTried trial facts (stack_of next.stacks p) level xs d
  tried_moved of_own xs is = absurd is
  tried_moved (of_turn scan back) xs is = absurd is
  tried_moved (of_another attempt) xs is = (looks ∙ is.0, is.1, is.2, is.3)

  either_moved : (trial : Trial) (xs : List Activation) → TrialIs trial facts acting.homes acting.entries c.store m.stacks c.table p level xs d
      ⊎ HasTried trial facts (stack_of m.stacks p) level xs d
      → TrialIs trial facts acting.homes acting.entries c.store next.stacks c.table p level xs d ⊎ HasTried trial facts (stack_of next.stacks p) level xs d
  either_moved trial xs (inl is) = inl (trial_moved trial xs is)
  either_moved trial xs (inr is) = inr (tried_moved trial xs is)

  pub actor_moved : IsActor facts acting.homes acting.entries next c p level
  actor_moved =
      let old = acting.actor in
      record {
        process = old.process;
        ready = old.ready;
        line = old.line;
        spare = ap (λ (s : Stack). s.spare) (moved_here m.stacks p to left there) ∙ old.spare;
        stands = level_moved;
        trial = either_moved level.setting.trial a.activations old.trial;
        offered = old.offered;
      }

  pub acting_moved : IsActing facts next c p level
  acting_moved =
      record {
        homes = acting.homes;
        entries = acting.entries;
        alike = alike_moved;
        few = acting.few;
        world = acting.world;
        others = others_moved;
        actor = actor_moved;
      }
