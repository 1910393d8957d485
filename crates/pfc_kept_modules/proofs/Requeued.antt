-- A requeue: both sides agree behind it, counted.
use Rattle.std.proofs.Common.{◌≡◌, ◌≢◌, ℕ, ◌+◌, ◌<◌, ◌≤◌, ℤ, true, false, List, ◌∷◌, length, set, slice_get, get_or, Option, Some, None, refl, sym}
use Rattle.std.proofs.Common.{ap, ◌∙◌, subst, arith, ◌⊎◌, inl, inr}
use Rattle.std.proofs.lemmas.List.{get_or-set_same, length-set}
use Rattle.pfc_base.specs.declared.faults.RunFault.TheVariants.{Stack as Full}
use Rattle.pfc_types.specs.declared.types.TypeId.{TypeId}
use Rattle.pfc_types.specs.declared.heads.Formal.{Formal}
use Rattle.pfc_code.specs.declared.images.Block.{Block as CodeBlock}
use Rattle.pfc_code.specs.declared.instructions.Instr.TheVariants.{END}
use Rattle.pfc_state.specs.Stands.{is_unfinished}
use Rattle.pfc_world.specs.Tables.{Table, at}
use Rattle.pfc_world.specs.Transitions.{ticked}
use Rattle.pfc_semantics.specs.Values.{Location, path_of}
use Rattle.pfc_semantics.specs.Layouts.{Layout}
use Rattle.pfc_semantics.specs.Store.{Store, with_room, without}
use Rattle.pfc_semantics.specs.Programs.{Block, Guard, Program}
use Rattle.pfc_semantics.specs.Remainders.{Context, Argument, in_names, scan_on}
use Rattle.pfc_semantics.specs.Resources.{scan_of, way_to, resource_marked, requeued_in}
use Rattle.pfc_semantics.specs.Rewriting.{Doing, going}
use Rattle.pfc_semantics.specs.Configurations.{Activation, Activity, Config, activity_of, with_activity, at_work, done_at, body_of}
use Rattle.pfc_stacks.specs.declared.refs.Ref.{Ref}
use Rattle.pfc_stacks.specs.Stacks.{Stack, Stacks, no_stack, stack_of}
use Rattle.pfc_stacks.specs.Activations.{replaced}
use Rattle.pfc_cells.specs.Homes.{Home, Homes, Lies, layout_at}
use Rattle.pfc_cells.specs.Memory.{Entries}
use Rattle.pfc_machines.specs.declared.machine.Machine.{Machine}
use Rattle.pfc_machines.specs.declared.rooms.Room.{Room}
use Rattle.pfc_machines.specs.declared.descriptors.Descriptor.{Descriptor}
use Rattle.pfc_machines.specs.Actions.{at_rest}
use Rattle.pfc_machines.specs.Rooms.{no_room}
use Rattle.pfc_machines.specs.Descriptors.{descriptor_by, descriptor_of, roomier}
use Rattle.pfc_machine_acts.specs.Acting.{acted}
use Rattle.pfc_call_actions.specs.Requeues.{in_place}
use Rattle.pfc_call_actions.specs.Returns.{scans_from}
use Rattle.pfc_standing_code.specs.Shapes.{is_object_type}
use Rattle.pfc_standing_code.specs.Settings.{Trial}
use Rattle.pfc_call_laws.specs.Blocks.{HasFirstValues}
use Rattle.pfc_call_laws.specs.Calls.{first_home}
use Rattle.pfc_representation.specs.Levels.{Facts, program_in, LivingLevel, DoesOn}
use Rattle.pfc_representation.specs.Hands.{shows_nothing}
use Rattle.pfc_representation.specs.Holding.{Holders, holders_in}
use Rattle.pfc_representation.specs.Trials.{TrialIs, HasTried}
use Rattle.pfc_representation.specs.Processes.{IsAtLevel, IsUnderWay, RepresentsProcess}
use Rattle.pfc_representation.specs.Keeping.{IsUntouched}
use Rattle.pfc_representation.specs.Machines.{AreAlike, Represents}
use Rattle.pfc_representation.specs.Acting.{IsActing}
use Rattle.pfc_representation.proofs.Kept.{process_still}
use Rattle.pfc_representation.proofs.Quiet.{tried_waits}
use Rattle.pfc_kept_own_actions.proofs.Arrived.{stack_there, descriptor_there}
use Rattle.pfc_kept_calls.proofs.Caller.{either_number, kinds_still, ticks, entries_there, home_here, home_there, outer}
use Rattle.pfc_kept_calls.proofs.Faults.{world_then}
use Rattle.pfc_kept_calls.proofs.Lists.{set_twice, stack_beside, own_activity, other_activity, as_many_activities, own_descriptor, other_descriptor}
use Rattle.pfc_kept_calls.proofs.Lists.{as_many_descriptors}
use Rattle.pfc_kept_calls.proofs.Ended.{only_here}
use Rattle.pfc_kept_calls.proofs.Returned.{has, home as old_home, home_at as old_home_at}
use Rattle.pfc_stack_laws.specs.Standing.{HoldStore}
use Rattle.pfc_kept_modules.proofs.Replaced.{values as values_of}
use Rattle.pfc_kept_modules.proofs.Replaced.{top, others, old, IsRequeue, n, new_home, is_stack, new_hold, operands_left, like, at_home, lenders_stay}
use Rattle.pfc_kept_modules.proofs.Replaced.{entries_are}
use Rattle.pfc_kept_modules.proofs.Renewed.{its_code, homes', entries', mine', store', stack', stacks', display', its_resource, turn, activation}
use Rattle.pfc_kept_modules.proofs.Renewed.{inside_level, d1, does, new_level, goes_within, scan_is, way_is}

module _ (facts : Facts) (m : Machine) (c : Config) (p : ℕ) (level : LivingLevel) (acting : IsActing facts m c p level)
    (more : level.setting.last ≡ END → ⊥) (b callee : Block) (number k r scan : ℕ) (formals : List Formal) (x : Context) (given : List Argument)
    (below : List ℤ) (guard : Guard) (first : HasFirstValues (program_in facts))
    (is : IsRequeue facts m c p level acting more b callee number k r scan formals x given below guard) where
  abbrev g : Program
  g = program_in facts

  abbrev a : Activity
  a = activity_of g c p

  abbrev d : Descriptor
  d = descriptor_of m.descriptors p

  abbrev s : Stack
  s = stack_of m.stacks p

  abbrev h : Holders
  h = holders_in facts c

  abbrev table' : Table
  table' = ticked c.table

  abbrev code : CodeBlock
  code = its_code facts m c p level acting more b callee number k r scan formals x given below guard first is

  abbrev new_homes : Homes
  new_homes = homes' facts m c p level acting more b callee number k r scan formals x given below guard first is

  abbrev new_entries : Entries
  new_entries = entries' facts m c p level acting more b callee number k r scan formals x given below guard first is

  abbrev new_store : Store
  new_store = store' facts m c p level acting more b callee number k r scan formals x given below guard first is

  abbrev new_stack : Stack
  new_stack = stack' facts m c p level acting more b callee number k r scan formals x given below guard first is

  abbrev new_stacks : Stacks
  new_stacks = stacks' facts m c p level acting more b callee number k r scan formals x given below guard first is

  abbrev level' : LivingLevel
  level' = inside_level facts m c p level acting more b callee number k r scan formals x given below guard first is

  abbrev now : ℕ
  now = n facts m c p level acting more b callee number k r scan formals x given below guard first is

  abbrev home : Home
  home = new_home facts m c p level acting more b callee number k r scan formals x given below guard first is

  abbrev callers : List Activation
  callers = others facts m c p level acting more

  abbrev new_activation : Activation
  new_activation = activation facts m c p level acting more b callee number k r scan formals x given below guard first is

  abbrev descriptor : Descriptor
  descriptor = d1 facts m c p level acting more b callee number k r scan formals x given below guard first is

  abbrev doing : Doing
  doing = going callee.env (scan_on (turn facts m c p level acting more b callee number k r scan formals x given below guard first is)
      (in_names callee.env (body_of callee)))

  -- ## What the others keep

  untouched : (q : ℕ) → q ≢ p → IsUntouched facts q acting.homes new_homes acting.entries new_entries c.store new_store m.stacks new_stacks c.table table'
  untouched q apart = record {
    like = λ keeping these. like facts m c p level acting more b callee number k r scan formals x given below guard first is q (acting.entries q)
        (only_here facts acting.homes acting.entries c.store m.stacks c.table.done acting.alike.holds p (old facts m c p level acting more)
        (has facts m c p level acting more).under (has facts m c p level acting more).below (entries_are facts m c p level acting more)
        (old_home facts m c p level acting more) (old_home_at facts m c p level acting more) q apart)
        keeping these;
    lenders = λ i lender. lenders_stay facts m c p level acting more b callee number k r scan formals x given below guard first is q i lender;
    stack = stack_beside m.stacks p new_stack q apart;
    entries_same =
        entries_there acting.entries p (mine' facts m c p level acting more b callee number k r scan formals x given below guard first is) q apart;
    row = refl;
  }

  other_still : (q : ℕ) → q < length c.activities → q ≢ p → RepresentsProcess facts new_homes new_entries new_store new_stacks table' h q
      (activity_of g c q) (descriptor_of m.descriptors q)
  other_still q less apart =
      let before = acting.others q less apart in
      let e : Descriptor = descriptor_of m.descriptors q in
      process_still facts q e acting.homes new_homes acting.entries new_entries c.store new_store m.stacks new_stacks c.table table' h h
      (record {
        at_home = at_home facts m c p level acting more b callee number k r scan formals x given below guard first is;
        untouched = untouched q apart;
        tried = λ i tried. untouched i (λ same. tried_waits facts acting.homes acting.entries c.store m.stacks c.table h q e
            (activity_of g c q) i before tried (ap (λ j. at c.table.rows j) same ∙ acting.actor.ready));
        holds = record { owners = refl; monitors = λ j held. held; resources = λ j held. held };
      }) (activity_of g c q) before

  -- ## The process that requeues

  module _ (line : ℕ) where
    abbrev next_activity : Activity
    next_activity = record (at_work a doing) {
      display = display' facts m c p level acting more b callee number k r scan formals x given below guard first is;
      activations = new_activation ∷ callers;
    }

    abbrev a' : Activity
    a' = record next_activity { line = line }

    abbrev d' : Descriptor
    d' = record descriptor { line = line }

    level_then : IsAtLevel facts new_homes new_entries new_store new_stacks table' h p a' d' level'
    level_then =
        let at = new_level facts m c p level acting more b callee number k r scan formals x given below guard first is in
        record { count = at.count; seen = at.seen; callers = at.callers; room = at.room; accepts = at.accepts; met = at.met; holds = at.holds }

    own_look : s.looks_from ≡ None
    own_look = which acting.actor.trial
      where
        which : TrialIs level.setting.trial facts acting.homes acting.entries c.store m.stacks c.table p level a.activations d ⊎ HasTried
            level.setting.trial facts s level a.activations d → s.looks_from ≡ None
        which (inl tries) =
            (subst (λ (t : Trial). TrialIs t facts acting.homes acting.entries c.store m.stacks c.table p level a.activations d) is.own_trial tries).0
        which (inr tried) = absurd (subst (λ (t : Trial). HasTried t facts s level a.activations d) is.own_trial tried)

    goes_on_at : (y : Stack) → stack_of new_stacks p ≡ y → y.operands ≡ level.setting.under → y.at ≡ scan → y.looks_from ≡ s.looks_from
        → IsUnderWay facts new_homes new_entries new_store new_stacks table' h p a' d'
    goes_on_at y there ops at looks =
        let here : (stack_of new_stacks p).at ≡ scan = ap (λ (z : Stack). z.at) there ∙ at in
        let held : (stack_of new_stacks p).operands ≡ level.setting.under = ap (λ (z : Stack). z.operands) there ∙ ops in
        record {
          unfinished = ap is_unfinished acting.actor.ready;
          level = level';
          stands = level_then;
          within = goes_within facts m c p level acting more b callee number k r scan formals x given below guard first is;
          hand = (
            acting.actor.offered,
            ap shows_nothing acting.actor.ready,
            subst (λ i. DoesOn level' i (stack_of new_stacks p).operands doing) (sym here)
                (subst (λ (xs : List ℤ). DoesOn level' scan xs doing) (sym held)
                (does facts m c p level acting more b callee number k r scan formals x given below guard first is)),
          );
          trial = (
            ap (λ (z : Stack). z.looks_from) there ∙ looks ∙ own_look,
            scan_is facts m c p level acting more b callee number k r scan formals x given below guard first is,
            way_is facts m c p level acting more b callee number k r scan formals x given below guard first is,
          );
        }

    process_here : RepresentsProcess facts new_homes new_entries new_store new_stacks table' h p a' d'
    process_here =
        let there = is_stack facts m c p level acting more b callee number k r scan formals x given below guard first is in
        record {
          line = refl;
          spare = ap (λ (y : Stack). y.spare) there ∙ acting.actor.spare;
          activations = goes_on_at new_stack there
              (operands_left facts m c p level acting more b callee number k r scan formals x given below guard first is) refl refl;
        }

    -- ### All lists

    abbrev c1 : Config
    c1 = done_at g (with_activity (record c { store = new_store }) p next_activity) p line

    abbrev m1 : Machine
    m1 = acted line p (at_rest (record m { stacks = new_stacks; descriptors = set m.descriptors p descriptor }))

    processes : (q : ℕ) → (q ≡ p) ⊎ (q ≢ p) → q < length c.activities → RepresentsProcess facts new_homes new_entries new_store new_stacks table' h q
        (activity_of g c1 q) (descriptor_of m1.descriptors q)
    processes q (inl same) less =
        subst (λ i. RepresentsProcess facts new_homes new_entries new_store new_stacks table' h i (activity_of g c1 i) (descriptor_of m1.descriptors i))
        (sym same)
        (subst (λ (y : Activity). RepresentsProcess facts new_homes new_entries new_store new_stacks table' h p y (descriptor_of m1.descriptors p))
        (sym (own_activity g c.activities p acting.actor.process next_activity line))
        (subst (λ (e : Descriptor). RepresentsProcess facts new_homes new_entries new_store new_stacks table' h p a' e)
        (sym (own_descriptor m.descriptors p (descriptor_there facts m c p level acting) descriptor line)) process_here))
    processes q (inr apart) less =
        subst (λ (y : Activity). RepresentsProcess facts new_homes new_entries new_store new_stacks table' h q y (descriptor_of m1.descriptors q))
        (sym (other_activity g c.activities p acting.actor.process next_activity line q apart))
        (subst (λ (e : Descriptor). RepresentsProcess facts new_homes new_entries new_store new_stacks table' h q (activity_of g c q) e)
        (sym (other_descriptor m.descriptors p (descriptor_there facts m c p level acting) descriptor line q apart)) (other_still q less apart))

    activity_count : length c1.activities ≡ length c.activities
    activity_count = as_many_activities g c.activities p acting.actor.process next_activity line

    -- ### All that is alike

    -- no object is among the new variables
    outside : (l : Location) (t : Option TypeId) (i : Ref) → Lies g new_homes l t i → is_object_type g.state.forms t ≡ true → l.activation ≢ now
    outside l t i lies object same =
        let at = lies.is in
        let one : lies.home ≡ home = (let both : Some lies.home ≡ Some home = sym at.at ∙ ap new_homes same ∙ home_here acting.homes now home in cc) in
        let laid : slice_get callee.layout l.variable ≡ Some at.meaning =
        ap (λ (y : Layout). slice_get y l.variable) (sym (ap (λ (y : Block). y.layout) is.can.scopes.by_scope))
        ∙ ap (λ (y : Home). slice_get (layout_at g y) l.variable) (sym one) ∙ at.laid in
        let both : true ≡ false = sym object ∙ is.can.objects l.variable at.meaning (path_of l.selectors) t lies.behind laid at.own at.path in
        cc

    lay : (l : Location) (t : Option TypeId) (i : Ref) → Lies g new_homes l t i → is_object_type g.state.forms t ≡ true → Lies g acting.homes l t i
    lay l t i lies object =
        let at = lies.is in
        record {
          home = lies.home;
          behind = lies.behind;
          is = record {
            at = sym (home_there acting.homes now home l.activation (outside l t i lies object)) ∙ at.at;
            meaning = at.meaning;
            laid = at.laid;
            variable = at.variable;
            own = at.own;
            path = at.path;
          };
          place = lies.place;
        }

    numbered : (y : ℕ) (there : Home) → new_homes y ≡ Some there → y ≤ c.table.done + 1
    numbered y there so = by (either_number y now)
      where
        later : (i j : ℕ) → i ≤ j → i ≤ j + 1
        later i j less = grind (arith, less)

        by : (y ≡ now) ⊎ (y ≢ now) → y ≤ c.table.done + 1
        by (inl same) = omega (arith, same)
        by (inr apart) = later y c.table.done (acting.alike.holds.numbers y there (sym (home_there acting.homes now home y apart) ∙ so))

    held : HoldStore (outer facts m c p level acting) new_homes new_entries new_store new_stacks
    held = new_hold facts m c p level acting more b callee number k r scan formals x given below guard first is

    alike_then : AreAlike facts new_homes new_entries m1 c1
    alike_then =
        let before = acting.alike in
        record {
          program = before.program;
          words = record {
            processes = activity_count ∙ before.words.processes;
            stacks = length-set m.stacks p new_stack ∙ before.words.stacks ∙ sym activity_count;
            descriptors = as_many_descriptors m.descriptors p (descriptor_there facts m c p level acting) descriptor line ∙ before.words.descriptors
                ∙ sym activity_count;
            rows = before.words.rows ∙ sym activity_count;
            semaphores = before.words.semaphores;
            monitors = before.words.monitors;
            owners = before.words.owners;
            resources = before.words.resources;
            input = before.words.input;
            draws = before.words.draws;
            in_line = before.words.in_line;
          };
          holds = record {
            memory = held.memory;
            few = held.few;
            objects = held.objects;
            main = at_home facts m c p level acting more b callee number k r scan formals x given below guard first is 0 (first_home 0 0) before.holds.main;
            mains = λ l t i lies object. before.holds.mains l t i (lay l t i lies object) object;
            numbers = numbered;
          };
          kinds = kinds_still facts acting.homes new_homes acting.entries new_entries c c1 before.holds.objects
              held.objects refl activity_count lay before.kinds;
          children = before.children;
          main = before.main;
          between = ticks c.table before.between acting.few;
          counts = before.counts;
          monitor_count = before.monitor_count;
          resource_count = before.resource_count;
          rooms = before.rooms;
          fault = before.fault;
        }

    represents_so : Represents facts m1 c1
    represents_so = record {
      homes = new_homes;
      entries = new_entries;
      alike = alike_then;
      world = world_then facts m c p level acting line Full;
      processes = λ q less. processes q (either_number q p) (subst (λ i. q < i) activity_count less);
    }

    -- ## As both sides have it

    abbrev room : Room
    room = get_or m.rooms k no_room

    abbrev between_stacks : Stacks
    between_stacks = set m.stacks p (replaced k code s)

    abbrev between_descriptors : List Descriptor
    between_descriptors = set m.descriptors p (roomier d room)

    is_after : scans_from scan true p (in_place k code p m) ≡ record m { stacks = new_stacks; descriptors = set m.descriptors p descriptor }
    is_after =
        ap (λ (y : Stack). record m {
          stacks = set between_stacks p (record y { at = scan });
          descriptors = set between_descriptors p (record (descriptor_of between_descriptors p) {
            scan = Some (record { back = y.at; after = None; tried = None; requeued = true });
          });
        }) (get_or-set_same m.stacks p (replaced k code s) no_stack (stack_there facts m c p level acting))
        ∙ ap (λ (y : Descriptor). record m {
          stacks = set between_stacks p new_stack;
          descriptors = set between_descriptors p (record y { scan = Some (record { back = code.entry; after = None; tried = None; requeued = true }) });
        }) (get_or-set_same m.descriptors p (roomier d room) (descriptor_by 0) (descriptor_there facts m c p level acting))
        ∙ ap (λ (stacks : Stacks). record m { stacks = stacks; descriptors = set between_descriptors p descriptor })
        (set_twice m.stacks p (replaced k code s) new_stack)
        ∙ ap (λ (descriptors : List Descriptor). record m { stacks = new_stacks; descriptors = descriptors })
        (set_twice m.descriptors p (roomier d room) descriptor)

    -- with the resource of the mark, and the number of the activation that ends
    abbrev by_mark : ℕ → ℕ → Config
    by_mark i ending = done_at g (with_activity (record c {
      store = with_room (without c.store ending) now
          (values_of facts m c p level acting more b callee number k r scan formals x given below guard first is);
    }) p (record next_activity {
      doing = going callee.env (scan_on (scan_of g i (way_to g i callee callee.guard)) (in_names callee.env (body_of callee)));
    })) p line

    pub represents_requeued : Represents facts (acted line p (at_rest (scans_from scan true p (in_place k code p m))))
        (done_at g (requeued_in g c p callee given (top facts m c p level acting more) callers) p line)
    represents_requeued =
        subst (λ (y : Machine). Represents facts (acted line p (at_rest y))
        (done_at g (requeued_in g c p callee given (top facts m c p level acting more) callers) p line)) (sym is_after)
        (subst (λ i. Represents facts m1 (by_mark i (top facts m c p level acting more).number)) (is.resource ∙ ap resource_marked (sym is.marked))
        (subst (λ i. Represents facts m1 (by_mark (its_resource facts m c p level acting more b callee number k r scan formals x given below guard first is) i))
        (has facts m c p level acting more).called.stands.number represents_so))
