-- A process goes on at its level, and nothing else changes but what the cells of variables hold, the input, the draws and the output.
use Rattle.std.proofs.Common.{◌≡◌, ◌≢◌, ℕ, ◌+◌, ◌^◌, ◌<◌, ◌≤◌, ℤ, Bool, true, false, ◌||◌, List, [], ◌∷◌, length, set, Option, Some, refl, sym, ap, ◌∙◌, subst}
use Rattle.std.proofs.Common.{arith, ◌⊎◌, inl, inr}
use Rattle.std.proofs.lemmas.List.{get_or-set_same, get_or-set_other, length-set}
use Rattle.rand_pcg.specs.Lcg.{Lcg}
use Rattle.pfc_types.specs.Types.{Forms, semaphore, condition, form_of, is_same}
use Rattle.pfc_types.specs.declared.types.TypeId.{TypeId}
use Rattle.pfc_types.specs.declared.types.TypeForm.{TypeForm}
use Rattle.pfc_types.specs.declared.types.TypeForm.TheVariants.{Channel, Process}
use Rattle.pfc_values.specs.Inputs.{Left as InputLeft}
use Rattle.pfc_state.specs.Stands.{is_unfinished}
use Rattle.pfc_world.specs.Tables.{Table, at}
use Rattle.pfc_world.specs.Transitions.{rested, ticked}
use Rattle.pfc_semantics.specs.Values.{Location, ordinal}
use Rattle.pfc_semantics.specs.Store.{Store, value_at}
use Rattle.pfc_semantics.specs.Programs.{Program}
use Rattle.pfc_semantics.specs.Rewriting.{Doing}
use Rattle.pfc_semantics.specs.Configurations.{Activation, Activity, Config, nobody, activity_of, at_work, doing_next, done_at}
use Rattle.pfc_stacks.specs.declared.refs.Ref.{Ref}
use Rattle.pfc_stacks.specs.Stacks.{Stack, Stacks, no_stack, stack_of, last_activation}
use Rattle.pfc_stacks.specs.Refs.{word_of}
use Rattle.pfc_stacks.specs.Effects.{moved}
use Rattle.pfc_cells.specs.Homes.{Homes, Lies}
use Rattle.pfc_cells.specs.Memory.{Entry, Entries, MemoryIs}
use Rattle.pfc_machines.specs.declared.machine.Machine.{Machine}
use Rattle.pfc_machines.specs.declared.descriptors.Descriptor.{Descriptor}
use Rattle.pfc_machines.specs.Actions.{at_rest}
use Rattle.pfc_machines.specs.Communications.{Communicating}
use Rattle.pfc_machines.specs.Descriptors.{descriptor_by, descriptor_of}
use Rattle.pfc_machine_acts.specs.Acting.{acted}
use Rattle.pfc_standing_code.specs.Shapes.{is_object_type, has_object_form}
use Rattle.pfc_standing_code.specs.Settings.{Trial, of_own, of_turn, of_another}
use Rattle.pfc_views.specs.Views.{AreObjects, AreFew}
use Rattle.pfc_views.specs.Keeping.{IsLike}
use Rattle.pfc_representation.specs.Levels.{Facts, program_in, LivingLevel, DoesOn}
use Rattle.pfc_representation.specs.Rooms.{own_address}
use Rattle.pfc_representation.specs.Callers.{IsWithin, AreCallers}
use Rattle.pfc_representation.specs.Hands.{shows_nothing}
use Rattle.pfc_representation.specs.Holding.{Holders, holders_in}
use Rattle.pfc_representation.specs.Trials.{TrialIs, HasTried}
use Rattle.pfc_representation.specs.Processes.{IsAtLevel, IsUnderWay, ActivationsAre, RepresentsProcess}
use Rattle.pfc_representation.specs.Objects.{AreOfKinds}
use Rattle.pfc_representation.specs.Machines.{ends_inside, SharesWords, machine_table, HoldsStore, IsBetweenActions, AreAlike, Represents}
use Rattle.pfc_representation.specs.Keeping.{IsSameStack, IsUntouched, IsLeftAlone}
use Rattle.pfc_representation.specs.Acting.{IsActor, IsActing}
use Rattle.pfc_representation.proofs.Kept.{process_still}
use Rattle.pfc_representation.proofs.Quiet.{others_moved, actor_moved}

-- ## Objects

either : (q p : ℕ) → (q ≡ p) ⊎ (q ≢ p)
either q p = grind arith

or_true : (a : Bool) → (a || true) ≡ true
or_true true = refl
or_true false = refl

object_formed : (forms : Forms) (t : TypeId) (form : TypeForm) → has_object_form (Some form) ≡ true → form_of forms t ≡ Some form
    → is_object_type forms (Some t) ≡ true
object_formed forms t form h is =
    ap (λ (o : Option TypeForm). (is_same t semaphore || is_same t condition) || has_object_form o) is
    ∙ ap (λ (b : Bool). (is_same t semaphore || is_same t condition) || b) h ∙ or_true (is_same t semaphore || is_same t condition)

module _ (facts : Facts) (homes : Homes) (entries : Entries) (c : Config) (c' : Config)
    (before : AreObjects (program_in facts) homes entries c.store facts.number) (now : AreObjects (program_in facts) homes entries c'.store facts.number)
    (counts : length c'.counts ≡ length c.counts) (activities : length c'.activities ≡ length c.activities) where
  -- objects are what they were
  same_object : (l : Location) (t : Option TypeId) (r : Ref) → Lies (program_in facts) homes l t r → is_object_type (program_in facts).state.forms t ≡ true
      → value_at c'.store l ≡ value_at c.store l
  same_object l t r lies object =
      let old = before.known l t r lies object in
      let new = now.known l t r lies object in
      let same : new.0 ≡ old.0 = (let both : Some new.0 ≡ Some old.0 = sym new.1 ∙ old.1 in cc) in
      new.2 ∙ ap (λ n. ordinal n) same ∙ sym old.2

  pub same_kinds : AreOfKinds facts homes c → AreOfKinds facts homes c'
  same_kinds old = record {
    semaphores = λ l r lies.
        let is = old.semaphores l r lies in (is.0, same_object l (Some semaphore) r lies refl ∙ is.1, subst (λ n. is.0 < n) (sym counts) is.2);
    conditions = λ l r lies. let is = old.conditions l r lies in (is.0, same_object l (Some condition) r lies refl ∙ is.1, is.2);
    processes = λ l t k r lies form.
        let is = old.processes l t k r lies form in (
          is.0,
          same_object l (Some t) r lies (object_formed (program_in facts).state.forms t (Process k) refl form) ∙ is.1,
          is.2,
          subst (λ n. is.0 < n) (sym activities) is.3,
          is.4,
        );
    channel_numbers = λ l t v r lies form.
        let is = old.channel_numbers l t v r lies form in (
          is.0,
          same_object l (Some t) r lies (object_formed (program_in facts).state.forms t (Channel v) refl form) ∙ is.1,
          is.2,
        );
    channels = λ l m t u v w r s lies other one two same.
        old.channels l m t u v w r s lies other one two
        (sym (same_object l (Some t) r lies (object_formed (program_in facts).state.forms t (Channel v) refl one)) ∙ same
        ∙ same_object m (Some u) s other (object_formed (program_in facts).state.forms u (Channel w) refl two));
  }

-- ## The step

not_empty : (facts : Facts) (homes : Homes) (entries : Entries) (store : Store) (stacks : Stacks) (table : Table) (h : Holders) (p room : ℕ)
    (level : LivingLevel) (w : ℤ) (latest : Communicating)
    (xs : List Activation) (es : List Entry) (a : Activity) (d : Descriptor) → AreCallers facts homes entries store table p room level w latest xs es
    → IsUnderWay facts homes entries store stacks table h p a d → ActivationsAre xs facts homes entries store stacks table h p a d
not_empty facts homes entries store stacks table h p room level w latest [] es a d callers is = absurd callers
not_empty facts homes entries store stacks table h p room level w latest (x ∷ xs) es a d callers is = is

module _ (facts : Facts) (m : Machine) (c : Config) (p : ℕ) (level : LivingLevel) (acting : IsActing facts m c p level) where
  abbrev g : Program
  g = program_in facts

  abbrev a : Activity
  a = activity_of g c p

  abbrev d : Descriptor
  d = descriptor_of m.descriptors p

  -- Behind the action the process is at an address with these operands, and does what is left. Cells may have changed: all stand where they stood.
  pub record IsOwnStep (to : ℕ) (left : List ℤ) (stacks : Stacks) (store : Store) (doing : Doing) : Type 0 where
    pub size : length stacks ≡ length m.stacks
    pub same : (q : ℕ) → IsSameStack (stack_of (moved m.stacks p to left) q) (stack_of stacks q)
    pub like : (keeps : ℕ → Bool) → IsLike g keeps acting.homes acting.homes acting.entries acting.entries c.store store
    pub memory : MemoryIs g acting.homes acting.entries store stacks
    pub few : AreFew stacks
    pub objects : AreObjects g acting.homes acting.entries store facts.number
    pub does : DoesOn level to left doing
    pub within : IsWithin facts level (own_address level.setting.trial to) d.communications
    pub untried : HasTried level.setting.trial facts (stack_of m.stacks p) level a.activations d → ⊥

  module _ (to : ℕ) (left : List ℤ) (stacks : Stacks) (store : Store) (doing : Doing) (step : IsOwnStep to left stacks store doing)
      (input : InputLeft) (words : Lcg) (output : List ℕ) (in_line : Bool) (line : ℕ) (open_end : in_line ≡ ends_inside output) where
    abbrev m1 : Machine
    m1 = record m { stacks = moved m.stacks p to left }

    abbrev m' : Machine
    m' = acted line p (at_rest (record m { stacks = stacks; input = input; draws = words; in_line = in_line }))

    abbrev c1 : Config
    c1 = record c { store = store; input = input; output = output; words = words }

    abbrev c' : Config
    c' = done_at g (doing_next g c1 p doing) p line

    abbrev a' : Activity
    a' = record (at_work a doing) { line = line }

    abbrev d' : Descriptor
    d' = record d { line = line }

    abbrev h : Holders
    h = holders_in facts c

    actor : IsActor facts acting.homes acting.entries m1 c p level
    actor = actor_moved facts m c p level to left acting

    there : p < length m.stacks
    there = subst (λ n. p < n) (sym acting.alike.words.stacks) acting.actor.process

    -- ### What becomes of the others, and of all lists

    activity_here : activity_of g c' p ≡ a'
    activity_here =
        let once : activity_of g (doing_next g c1 p doing) p ≡ at_work a doing = get_or-set_same c.activities p (at_work a doing)
        (nobody g) acting.actor.process in
        let size : length (set c.activities p (at_work a doing)) ≡ length c.activities = length-set c.activities p (at_work a doing) in
        get_or-set_same (set c.activities p (at_work a doing)) p (record (activity_of g (doing_next g c1 p doing) p) { line = line }) (nobody g)
        (subst (λ n. p < n) (sym size) acting.actor.process)
        ∙ ap (λ (x : Activity). record x { line = line }) once

    activity_there : (q : ℕ) → q ≢ p → activity_of g c' q ≡ activity_of g c q
    activity_there q apart =
        get_or-set_other (set c.activities p (at_work a doing)) p q (record (activity_of g (doing_next g c1 p doing) p) { line = line }) (nobody g) apart
        ∙ get_or-set_other c.activities p q (at_work a doing) (nobody g) apart

    activity_count : length c'.activities ≡ length c.activities
    activity_count =
        length-set (set c.activities p (at_work a doing)) p (record (activity_of g (doing_next g c1 p doing) p) { line = line })
        ∙ length-set c.activities p (at_work a doing)

    descriptor_here : descriptor_of m'.descriptors p ≡ d'
    descriptor_here = get_or-set_same m.descriptors p d' (descriptor_by 0) (subst (λ n. p < n) (sym acting.alike.words.descriptors) acting.actor.process)

    descriptor_there : (q : ℕ) → q ≢ p → descriptor_of m'.descriptors q ≡ descriptor_of m.descriptors q
    descriptor_there q apart = get_or-set_other m.descriptors p q d' (descriptor_by 0) apart

    untouched : (q : ℕ) → IsUntouched facts q acting.homes acting.homes acting.entries acting.entries c.store store m1.stacks stacks c.table (ticked c.table)
    untouched q = record { like = λ keeps these. step.like keeps; lenders = λ r lender. (refl, refl); stack = step.same q; entries_same = refl; row = refl }

    alone : (q : ℕ) (e : Descriptor)
        → IsLeftAlone facts q e acting.homes acting.homes acting.entries acting.entries c.store store m1.stacks stacks c.table (ticked c.table) h h
    alone q e = record {
      at_home = λ n home at. at;
      untouched = untouched q;
      tried = λ r is. untouched r;
      holds = record { owners = refl; monitors = λ n held. held; resources = λ n held. held };
    }

    still : (q : ℕ) (x : Activity) (e : Descriptor) → RepresentsProcess facts acting.homes acting.entries c.store m1.stacks c.table h q x e
        → RepresentsProcess facts acting.homes acting.entries store stacks (ticked c.table) h q x e
    still q x e is = process_still facts q e acting.homes acting.homes acting.entries acting.entries c.store store m1.stacks stacks c.table
        (ticked c.table) h h (alone q e) x is

    -- ### The process itself

    moved_here : stack_of m1.stacks p ≡ record (stack_of m.stacks p) { at = to; operands = left }
    moved_here = get_or-set_same m.stacks p (record (stack_of m.stacks p) { at = to; operands = left }) no_stack there

    level_then : IsAtLevel facts acting.homes acting.entries c.store m1.stacks c.table h p a' d' level
    level_then =
        let old = actor.stands in
        record { count = old.count; seen = old.seen; callers = old.callers; room = old.room; accepts = old.accepts; met = old.met; holds = old.holds }

    trial_then : TrialIs level.setting.trial facts acting.homes acting.entries c.store m1.stacks c.table p level a.activations d
    trial_then = which actor.trial
      where
        looks : (stack_of m1.stacks p).looks_from ≡ (stack_of m.stacks p).looks_from
        looks = ap (λ (s : Stack). s.looks_from) moved_here

        back : (trial : Trial) → HasTried trial facts (stack_of m1.stacks p) level a.activations d
            → HasTried trial facts (stack_of m.stacks p) level a.activations d
        back of_own is = absurd is
        back (of_turn scan at) is = absurd is
        back (of_another attempt) is = (sym looks ∙ is.0, is.1, is.2, is.3)

        which : TrialIs level.setting.trial facts acting.homes acting.entries c.store m1.stacks c.table p level a.activations d
            ⊎ HasTried level.setting.trial facts (stack_of m1.stacks p) level a.activations d
            → TrialIs level.setting.trial facts acting.homes acting.entries c.store m1.stacks c.table p level a.activations d
        which (inl is) = is
        which (inr is) = absurd (step.untried (back level.setting.trial is))

    trial_of : (trial : Trial) → TrialIs trial facts acting.homes acting.entries c.store m1.stacks c.table p level a.activations d
        → TrialIs trial facts acting.homes acting.entries c.store m1.stacks c.table p level a.activations d'
    trial_of of_own is = is
    trial_of (of_turn scan at) is = is
    trial_of (of_another attempt) is = record {
      from = is.from;
      barred = is.barred;
      procedure = is.procedure;
      turn = is.turn;
      scan = is.scan;
      way = is.way;
      room = is.room;
      lenders = is.lenders;
      display = is.display;
      sees = is.sees;
      around = is.around;
    }

    under_way : IsUnderWay facts acting.homes acting.entries c.store m1.stacks c.table h p a' d'
    under_way =
        let does : DoesOn level (stack_of m1.stacks p).at (stack_of m1.stacks p).operands doing = subst (λ (s : Stack). DoesOn level s.at s.operands doing)
        (sym moved_here) step.does in
        record {
          unfinished = ap is_unfinished acting.actor.ready;
          level = level;
          stands = level_then;
          within = subst (λ (s : Stack). IsWithin facts level (own_address level.setting.trial s.at) d.communications) (sym moved_here) step.within;
          hand = (acting.actor.offered, ap shows_nothing acting.actor.ready, does);
          trial = trial_of level.setting.trial trial_then;
        }

    process_here : RepresentsProcess facts acting.homes acting.entries store stacks (ticked c.table) h p a' d'
    process_here = still p a' d' (record {
      line = refl;
      spare = actor.spare;
      activations = not_empty facts acting.homes acting.entries c.store m1.stacks c.table h p (stack_of m1.stacks p).room level
          (word_of (last_activation m1.stacks p)) d.communications a.activations (acting.entries p) a' d' actor.stands.callers under_way;
    })

    processes : (q : ℕ) → (q ≡ p) ⊎ (q ≢ p) → q < length c.activities
        → RepresentsProcess facts acting.homes acting.entries store stacks (ticked c.table) h q (activity_of g c' q) (descriptor_of m'.descriptors q)
    processes q (inl same) within =
        subst (λ n. RepresentsProcess facts acting.homes acting.entries store stacks (ticked c.table) h n (activity_of g c' n)
        (descriptor_of m'.descriptors n)) (sym same)
        (subst (λ (x : Activity). RepresentsProcess facts acting.homes acting.entries store stacks (ticked c.table) h p x (descriptor_of m'.descriptors p))
        (sym activity_here)
        (subst (λ (e : Descriptor). RepresentsProcess facts acting.homes acting.entries store stacks (ticked c.table) h p a' e)
        (sym descriptor_here) process_here))
    processes q (inr apart) within =
        subst (λ (x : Activity). RepresentsProcess facts acting.homes acting.entries store stacks (ticked c.table) h q x (descriptor_of m'.descriptors q))
        (sym (activity_there q apart))
        (subst (λ (e : Descriptor). RepresentsProcess facts acting.homes acting.entries store stacks (ticked c.table) h q (activity_of g c q) e)
        (sym (descriptor_there q apart))
        (still q (activity_of g c q) (descriptor_of m.descriptors q) (others_moved facts m c p level to left acting q within apart)))

    -- ### All that is alike

    words_then : SharesWords facts m' c'
    words_then =
        let old = acting.alike.words in
        record {
          processes = activity_count ∙ old.processes;
          stacks = step.size ∙ old.stacks ∙ sym activity_count;
          descriptors = length-set m.descriptors p d' ∙ old.descriptors ∙ sym activity_count;
          rows = old.rows ∙ sym activity_count;
          semaphores = old.semaphores;
          monitors = old.monitors;
          owners = old.owners;
          resources = old.resources;
          input = refl;
          draws = refl;
          in_line = open_end;
        }

    between_then : IsBetweenActions (ticked c.table)
    between_then =
        let old = acting.alike.between in
        record {
          acting = old.acting;
          tickets = λ q ticket is. later ticket c.table.done (old.tickets q ticket is);
          moment = more c.table.moment c.table.done (10 ^ 15) old.moment;
          due = old.due;
          done = next c.table.done (10 ^ 18) acting.few;
        }
      where
        later : (n k : ℕ) → n ≤ k → n ≤ k + 1
        later n k less = grind (arith, less)

        more : (n k b : ℕ) → n ≤ b + k → n + 1 ≤ b + (k + 1)
        more n k b less = grind (arith, less)

        next : (n b : ℕ) → n < b → n + 1 ≤ b
        next n b less = grind (arith, less)

    holds_then : HoldsStore facts acting.homes acting.entries store stacks (c.table.done + 1)
    holds_then =
        let old = acting.alike.holds in
        record {
          memory = step.memory;
          few = step.few;
          objects = step.objects;
          main = old.main;
          mains = old.mains;
          numbers = λ n home is. later n c.table.done (old.numbers n home is);
        }
      where
        later : (n k : ℕ) → n ≤ k → n ≤ k + 1
        later n k less = grind (arith, less)

    alike_then : AreAlike facts acting.homes acting.entries m' c'
    alike_then =
        let old = acting.alike in
        record {
          program = old.program;
          words = words_then;
          holds = holds_then;
          kinds = same_kinds facts acting.homes acting.entries c c' old.holds.objects step.objects refl activity_count old.kinds;
          children = old.children;
          main = old.main;
          between = between_then;
          counts = old.counts;
          monitor_count = old.monitor_count;
          resource_count = old.resource_count;
          rooms = old.rooms;
          fault = old.fault;
        }

    world_then : m'.world ≡ machine_table facts c'.table
    world_then =
        ap (λ (w : Table). ticked (rested w)) acting.world
        ∙ ap (λ (who : Option ℕ). record (machine_table facts (ticked c.table)) { acting = who }) (sym acting.alike.between.acting)

    pub represents_then : Represents facts m' c'
    represents_then = record {
      homes = acting.homes;
      entries = acting.entries;
      alike = alike_then;
      world = world_then;
      processes = λ q within. processes q (either q p) (subst (λ n. q < n) activity_count within);
    }
