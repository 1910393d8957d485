-- The false guard of another: the process that tried it is before the next turn of its scan.
use Rattle.std.proofs.Common.{◌≡◌, ◌≢◌, ℕ, ◌^◌, ◌≤◌, ◌<◌, ℤ, List, length, drop, Some, None, refl, sym, ap, ◌∙◌, subst, ◌⊎◌, inl, inr}
use Rattle.std.proofs.lemmas.List.{get_or-set_same, get_or-set_other, length-set}
use Rattle.pfc_world.specs.Tables.{at}
use Rattle.pfc_semantics.specs.Configurations.{Activity, Config, activity_of}
use Rattle.pfc_stacks.specs.declared.refs.Ref.{Ref}
use Rattle.pfc_stacks.specs.Refs.{word_of}
use Rattle.pfc_stacks.specs.Stacks.{Stack, no_stack, stack_of, cells_of, last_activation}
use Rattle.pfc_cells.specs.Memory.{ProcessIs}
use Rattle.pfc_machines.specs.declared.machine.Machine.{Machine}
use Rattle.pfc_machines.specs.declared.descriptors.Descriptor.{Descriptor}
use Rattle.pfc_machines.specs.Descriptors.{descriptor_by, descriptor_of}
use Rattle.pfc_machines.specs.Quiet.{tried_in, untried, scans_on}
use Rattle.pfc_standing_code.specs.Settings.{Trial, Attempt, of_another}
use Rattle.pfc_stack_laws.proofs.Moves.{either}
use Rattle.pfc_representation.specs.Levels.{Facts, program_in, LivingLevel, IsSeenBy}
use Rattle.pfc_representation.specs.Callers.{AreCallers}
use Rattle.pfc_representation.specs.Holding.{holders_in}
use Rattle.pfc_representation.specs.Trials.{TriesAnother, HasTried}
use Rattle.pfc_representation.specs.Processes.{IsAtLevel, RepresentsProcess}
use Rattle.pfc_representation.specs.Machines.{SharesWords, HoldsStore, AreAlike}
use Rattle.pfc_representation.specs.Acting.{IsActor, IsActing}
use Rattle.pfc_representation.specs.Keeping.{IsSameStack, OnlyMoves}
use Rattle.pfc_representation.proofs.Kept.{process_still}
use Rattle.pfc_representation.proofs.Moves.{moved_alone}
use Rattle.pfc_representation.proofs.Quiet.{tried_waits}

same_stack : (s s' : Stack) → s' ≡ s → IsSameStack s s'
same_stack s s' h = record {
  at = ap (λ (x : Stack). x.at) h;
  base = ap (λ (x : Stack). x.base) h;
  operands = ap (λ (x : Stack). x.operands) h;
  room = ap
      (λ (x : Stack). x.room) h;
  spare = ap (λ (x : Stack). x.spare) h;
  looks_from = ap (λ (x : Stack). x.looks_from) h;
}

module _ (facts : Facts) (m : Machine) (c : Config) (p : ℕ) (level : LivingLevel) (acting : IsActing facts m c p level) (attempt : Attempt)
    (tries : TriesAnother facts acting.homes acting.entries c.store m.stacks c.table p level attempt (activity_of (program_in facts) c p).activations
    (descriptor_of m.descriptors p)) where
  abbrev a : Activity
  a = activity_of (program_in facts) c p

  abbrev d : Descriptor
  d = descriptor_of m.descriptors p

  abbrev s : Stack
  s = stack_of m.stacks p

  abbrev new_stack : Stack
  new_stack = record s { at = attempt.turn; operands = drop 1 s.operands; looks_from = None }

  abbrev new : Descriptor
  new = record d { scan = untried d.scan }

  abbrev next : Machine
  next = scans_on attempt.turn p m

  there : p < length m.stacks
  there = subst (λ n. p < n) (sym acting.alike.words.stacks) acting.actor.process

  pub stack_now : stack_of next.stacks p ≡ new_stack
  stack_now = get_or-set_same m.stacks p new_stack no_stack there

  stack_others : (q : ℕ) → q ≢ p → stack_of next.stacks q ≡ stack_of m.stacks q
  stack_others q apart = get_or-set_other m.stacks p q new_stack no_stack apart

  size : length next.stacks ≡ length m.stacks
  size = length-set m.stacks p new_stack

  pub d_now : descriptor_of next.descriptors p ≡ new
  d_now = get_or-set_same m.descriptors p new (descriptor_by 0) (subst (λ n. p < n) (sym acting.alike.words.descriptors) acting.actor.process)

  d_others : (q : ℕ) → q ≢ p → descriptor_of next.descriptors q ≡ descriptor_of m.descriptors q
  d_others q apart = get_or-set_other m.descriptors p q new (descriptor_by 0) apart

  cells : (q : ℕ) → cells_of next.stacks q ≡ cells_of m.stacks q
  cells q = by (either q p)
    where
      by : (q ≡ p) ⊎ (q ≢ p) → cells_of next.stacks q ≡ cells_of m.stacks q
      by (inl same) = ap (λ n. cells_of next.stacks n) same ∙ ap (λ (x : Stack). x.cells) stack_now ∙ ap (λ n. cells_of m.stacks n) (sym same)
      by (inr apart) = ap (λ (x : Stack). x.cells) (stack_others q apart)

  holds_now : HoldsStore facts acting.homes acting.entries c.store next.stacks c.table.done
  holds_now =
      let old = acting.alike.holds in
      record {
        memory = λ q. subst (λ ws. ProcessIs (program_in facts) acting.homes c.store q (acting.entries q) ws) (sym (cells q)) (old.memory q);
        few = record {
          cells = λ q. subst (λ (ws : List ℤ). length ws < 2 ^ 32) (sym (cells q)) (old.few.cells q);
          processes = subst (λ n. n ≤ 1024) (sym size) old.few.processes;
        };
        objects = old.objects;
        main = old.main;
        mains = old.mains;
        numbers = old.numbers;
      }

  words_now : SharesWords facts next c
  words_now =
      let old = acting.alike.words in
      record {
        processes = old.processes;
        stacks = size ∙ old.stacks;
        descriptors = length-set m.descriptors p new ∙ old.descriptors;
        rows = old.rows;
        semaphores = old.semaphores;
        monitors = old.monitors;
        owners = old.owners;
        resources = old.resources;
        input = old.input;
        draws = old.draws;
        in_line = old.in_line;
      }

  alike_now : AreAlike facts acting.homes acting.entries next c
  alike_now =
      let old = acting.alike in
      record {
        program = old.program;
        words = words_now;
        holds = holds_now;
        kinds = old.kinds;
        children = old.children;
        main = old.main;
        between = old.between;
        counts = old.counts;
        monitor_count = old.monitor_count;
        resource_count = old.resource_count;
        rooms = old.rooms;
        fault = old.fault;
      }

  only : OnlyMoves p m.stacks next.stacks c.table c.table
  only = record {
    acting = acting.actor.ready;
    others = λ q apart. same_stack (stack_of m.stacks q) (stack_of next.stacks q) (stack_others q apart);
    rows = λ
        q apart. refl;
  }

  others_now : (q : ℕ) → q < length c.activities → q ≢ p → RepresentsProcess facts acting.homes acting.entries c.store next.stacks c.table
      (holders_in facts c) q (activity_of (program_in facts) c q) (descriptor_of next.descriptors q)
  others_now q within apart =
      let old = acting.others q within apart in
      let e : Descriptor = descriptor_of m.descriptors q in
      let tried : (r : ℕ) → tried_in e.scan ≡ Some r → r ≢ p =
      λ r is same. tried_waits facts acting.homes acting.entries c.store m.stacks c.table (holders_in facts c) q e (activity_of (program_in facts) c q) r old
      is (ap (λ n. at c.table.rows n) same ∙ acting.actor.ready) in
      subst (λ (x : Descriptor). RepresentsProcess facts acting.homes acting.entries c.store next.stacks c.table (holders_in facts c) q
      (activity_of (program_in facts) c q) x) (sym (d_others q apart))
      (process_still facts q e acting.homes acting.homes acting.entries acting.entries c.store c.store m.stacks next.stacks c.table c.table
      (holders_in facts c) (holders_in facts c)
      (moved_alone facts p acting.homes acting.entries c.store m.stacks next.stacks c.table c.table (holders_in facts c) only q e apart tried)
      (activity_of (program_in facts) c q) old)

  -- ## The process itself

  place : last_activation next.stacks p ≡ last_activation m.stacks p
  place = ap (λ (x : Stack). record { process = p; cell = x.base }) stack_now

  level_now : IsAtLevel facts acting.homes acting.entries c.store next.stacks c.table (holders_in facts c) p a new level
  level_now =
      let old = acting.actor.stands in
      record {
        count = old.count;
        seen = subst (λ (x : Ref). IsSeenBy facts acting.homes acting.entries c.store c.table p d.communications.callers (acting.entries p) (word_of x)
            a.display level) (sym place) old.seen;
        callers = subst (λ (x : Stack). AreCallers facts acting.homes acting.entries c.store c.table p x.room level (word_of (last_activation next.stacks p))
            d.communications a.activations (acting.entries p)) (sym stack_now)
            (subst (λ (x : Ref). AreCallers facts acting.homes acting.entries c.store c.table p (stack_of m.stacks p).room level (word_of x) d.communications
            a.activations (acting.entries p)) (sym place) old.callers);
        room = subst (λ (x : Stack). level.setting.room ≤ x.room) (sym stack_now) old.room;
        accepts = old.accepts;
        met = old.met;
        holds = old.holds;
      }

  tried_so : HasTried (of_another attempt) facts (stack_of next.stacks p) level a.activations (descriptor_of next.descriptors p)
  tried_so = (ap (λ (x : Stack). x.looks_from) stack_now, ap (λ (x : Descriptor). x.scan) d_now ∙ ap untried tries.scan, tries.turn, tries.way)

  module _ (is : level.setting.trial ≡ of_another attempt) where
    actor_now : IsActor facts acting.homes acting.entries next c p level
    actor_now =
        let old = acting.actor in
        record {
          process = old.process;
          ready = old.ready;
          line = ap (λ (x : Descriptor). x.line) d_now ∙ old.line;
          spare = ap (λ (x : Stack). x.spare) stack_now ∙ old.spare;
          stands = subst (λ (x : Descriptor). IsAtLevel facts acting.homes acting.entries c.store next.stacks c.table (holders_in facts c) p a x level)
              (sym d_now) level_now;
          trial = inr (subst (λ (t : Trial). HasTried t facts (stack_of next.stacks p) level a.activations (descriptor_of next.descriptors p)) (sym is)
              tried_so);
          offered = ap (λ (x : Descriptor). x.offered) d_now ∙ old.offered;
        }

    pub acting_untried : IsActing facts next c p level
    acting_untried = record {
      homes = acting.homes;
      entries = acting.entries;
      alike = alike_now;
      few = acting.few;
      world = acting.world;
      others = others_now;
      actor = actor_now;
    }
