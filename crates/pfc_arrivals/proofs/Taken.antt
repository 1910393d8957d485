-- A process that begins to act: what it offered while it waited is gone.
use Rattle.std.proofs.Common.{◌≡◌, ◌≢◌, ℕ, suc, ◌<◌, ℤ, true, false, List, [], ◌∷◌, length, refl, sym, ap, ◌∙◌, subst, inl, inr}
use Rattle.std.proofs.lemmas.List.{get_or-set_same, get_or-set_other, length-set}
use Rattle.pfc_state.specs.Stands.{Stand, Is_ready, Waits, is_unfinished}
use Rattle.pfc_state.specs.declared.waits.Why.TheVariants.{Call}
use Rattle.pfc_world.specs.Tables.{Table, at}
use Rattle.pfc_world.specs.Transitions.{begun}
use Rattle.pfc_semantics.specs.Store.{Store}
use Rattle.pfc_semantics.specs.Remainders.{Open}
use Rattle.pfc_semantics.specs.Rewriting.{Doing}
use Rattle.pfc_semantics.specs.Configurations.{Hand, empty_hand, offering, asking, barred_at, Activation, Activity, Config, activity_of}
use Rattle.pfc_stacks.specs.Stacks.{Stacks, stack_of}
use Rattle.pfc_cells.specs.Homes.{Homes}
use Rattle.pfc_cells.specs.Memory.{Entries}
use Rattle.pfc_machines.specs.declared.alternatives.Alternative.{Alternative}
use Rattle.pfc_machines.specs.declared.machine.Machine.{Machine}
use Rattle.pfc_machines.specs.declared.descriptors.Descriptor.{Descriptor}
use Rattle.pfc_machines.specs.Communications.{Communicating}
use Rattle.pfc_machines.specs.Descriptors.{descriptor_by, descriptor_of, withdrawn}
use Rattle.pfc_machines.specs.Offers.{without}
use Rattle.pfc_select_actions.specs.Selects.{takes_up}
use Rattle.pfc_standing_code.specs.Effects.{Arm}
use Rattle.pfc_translation.specs.Sites.{Site}
use Rattle.pfc_standing_code.specs.Settings.{Setting, site_of}
use Rattle.pfc_standing_code.specs.Performs.{AreOpen, Performs}
use Rattle.pfc_representation.specs.Alternatives.{AreMade, none_made}
use Rattle.pfc_representation.specs.Levels.{Facts, program_in, LivingLevel, DoesOn}
use Rattle.pfc_representation.specs.Rooms.{process_count, own_address, MayMeet}
use Rattle.pfc_representation.specs.Callers.{IsWithin}
use Rattle.pfc_representation.specs.Hands.{shows_nothing, goes_by_itself, HandIs}
use Rattle.pfc_representation.specs.Holding.{Holders, holders_in}
use Rattle.pfc_representation.specs.Trials.{TrialIs}
use Rattle.pfc_representation.specs.Processes.{IsAtLevel, IsUnderWay, ActivationsAre, RepresentsProcess}
use Rattle.pfc_representation.specs.Machines.{SharesWords, AreAlike, Represents}
use Rattle.pfc_representation.specs.Acting.{IsActor, IsActing}
use Rattle.pfc_arrivals.specs.Arrivals.{begins, IsAboutToAct}
use Rattle.pfc_arrivals.proofs.Armed.{armed, exchanged, remade, AreRemade, LeadAgain, level_armed, trial_armed, within_fewer}
use Rattle.pfc_arrivals.proofs.Gone.{AreFewer, all_gone, without_is, without_fewer, none_fewer}

-- as many alternatives as are open
as_many : (g : Setting) (s : Site) (held : ℕ) (behind : ℕ → Type 0) (opens : List Open) (arms : List Arm) → AreOpen g s held opens arms behind
    → length opens ≡ length arms
as_many g s held behind [] [] is = refl
as_many g s held behind [] (arm ∷ arms) is = absurd is
as_many g s held behind (o ∷ opens) [] is = absurd is
as_many g s held behind (o ∷ opens) (arm ∷ arms) is = ap suc (as_many g s held behind opens arms is.1)

-- What is shown to the others, while the process is ready, at the level with other alternatives and anywhere in its code where this is still to do.
abbrev pub ShowsStill : Facts → Table → ℕ → LivingLevel → Stand → Doing → Hand → Type 0
ShowsStill facts table p level stand doing hand =
    (homes : Homes) (entries : Entries) (arms : List Arm) (to : ℕ) (left : List ℤ) (d : Descriptor) → d.offered ≡ 0
    → DoesOn (armed level arms) to left doing
    → HandIs facts homes table entries p (armed level arms) to left d stand doing hand

-- ## What is taken up

-- What is left of alternatives at a level, and of the descriptor, where the process goes on as it does.
record IsTaken (facts : Facts) (depth : ℕ) (level : LivingLevel) (at_now : ℕ) (ops : List ℤ) (d : Descriptor) (doing : Doing) : Type 0 where
  arms : List Arm
  alts : List Alternative
  ws : List ℤ
  gone : withdrawn d ≡ remade d alts ws 0
  made : AreRemade depth level.arms d.communications.alternatives d.communications.words arms alts ws
  meet : MayMeet (process_count facts) d.communications.room.meetings arms
  leads : LeadAgain facts level arms
  fewer : AreFewer d.communications alts ws
  does : DoesOn (armed level arms) at_now ops doing

module _ (facts : Facts) (homes : Homes) (entries : Entries) (table : Table) (p depth : ℕ) (level : LivingLevel) (at_now : ℕ) (ops : List ℤ) (d : Descriptor)
    (doing : Doing)
    (meet : MayMeet (process_count facts) d.communications.room.meetings level.arms) where
  -- nothing was offered
  as_it_was : d.offered ≡ 0 → DoesOn level at_now ops doing → IsTaken facts depth level at_now ops d doing
  as_it_was none does = record {
    arms = level.arms;
    alts = d.communications.alternatives;
    ws = d.communications.words;
    gone = ap (λ n. record d { communications = without n d.communications; offered = 0 }) none;
    made = λ alternatives words made. made;
    meet = meet;
    leads = λ k c is old. old;
    fewer = none_fewer d.communications;
    does = does;
  }

  -- all that its last activation made was offered
  all_withdrawn : d.offered ≡ length level.arms → DoesOn (armed level []) at_now ops doing → IsTaken facts depth level at_now ops d doing
  all_withdrawn count does =
      let e : Communicating = d.communications in
      let left : Communicating = without d.offered e in
      record {
        arms = [];
        alts = left.alternatives;
        ws = left.words;
        gone = ap (λ x. record d { communications = x; offered = 0 }) (without_is d.offered e);
        made = λ alternatives words made.
            let same : left ≡ exchanged e alternatives words = ap (λ n. without n e) count
            ∙ all_gone depth e alternatives words level.arms e.alternatives e.words made in
            subst (λ (x : Communicating). AreMade depth alternatives words [] x.alternatives x.words) (sym same) none_made;
        meet = tt;
        leads = λ k c is old. tt;
        fewer = without_fewer d.offered e;
        does = does;
      }

  waits_not : (stand : Stand) (owner entry ticket : ℕ) → stand ≡ Is_ready → stand ≡ Waits (Call owner entry) ticket [] → ⊥
  waits_not stand owner entry ticket ready waits = (let both : Is_ready ≡ Waits (Call owner entry) ticket [] = sym ready ∙ waits in cc)

  taken : (stand : Stand) → stand ≡ Is_ready → (hand : Hand) → HandIs facts homes table entries p level at_now ops d stand doing hand
      → IsTaken facts depth level at_now ops d doing
  taken stand ready empty_hand is = as_it_was is.0 is.2
  taken stand ready (asking values) is = absurd (waits_not stand is.1.owner is.1.entry is.1.ticket ready is.1.waits)
  taken stand ready (barred_at bar) is = as_it_was is.0 is.1.behind
  taken stand ready (offering x os k) (inr is) = as_it_was is.offered is.does
  taken stand ready (offering x os k) (inl is) =
      let many = as_many level.setting (site_of level.setting is.block x) (length ops) (λ end. Performs level.setting is.block x.env end ops [] k) os
      level.arms is.open_ones in
      all_withdrawn (is.count ∙ many) (is.alone (ap goes_by_itself ready))

  -- and before it acts it shows the same still, with nothing offered
  still_shows : (stand : Stand) → stand ≡ Is_ready → (hand : Hand) → HandIs facts homes table entries p level at_now ops d stand doing hand
      → ShowsStill facts table p level stand doing hand
  still_shows stand ready empty_hand is homes' entries' arms to left d' none does = (none, ap shows_nothing ready, does)
  still_shows stand ready (asking values) is homes' entries' arms to left d' none does =
      absurd (waits_not stand is.1.owner is.1.entry is.1.ticket ready is.1.waits)
  still_shows stand ready (barred_at bar) is homes' entries' arms to left d' none does =
      let at_guard = is.1 in (
        none,
        record { own = at_guard.own; guard = at_guard.guard; names = at_guard.names; waits = inl ready; behind = does },
      )
  still_shows stand ready (offering x os k) is homes' entries' arms to left d' none does =
      inr (record { offered = none; ready = ready; does = does })

-- ## One that is ready

unfinished : (stand : Stand) → stand ≡ Is_ready → is_unfinished stand ≡ false → ⊥
unfinished stand ready over = (let both : true ≡ false = sym (ap is_unfinished ready) ∙ over in cc)

-- it has activations
under_way : (facts : Facts) (homes : Homes) (entries : Entries) (store : Store) (stacks : Stacks) (table : Table) (h : Holders) (p : ℕ) (a : Activity)
    (d : Descriptor) (xs : List Activation)
    → at table.rows p ≡ Is_ready → ActivationsAre xs facts homes entries store stacks table h p a d → IsUnderWay facts homes entries store stacks table h p a d
under_way facts homes entries store stacks table h p a d [] ready is = absurd (unfinished (at table.rows p) ready is.finished)
under_way facts homes entries store stacks table h p a d (x ∷ xs) ready is = is

-- ## It acts

-- Process p acts, at a level, and does there what is left for it.
pub record HasBegun (facts : Facts) (m : Machine) (c : Config) (p : ℕ) : Type 0 where
  pub level : LivingLevel
  pub acting : IsActing facts (takes_up p (begins p m)) c p level
  pub within : IsWithin facts level (own_address level.setting.trial (stack_of m.stacks p).at)
      (descriptor_of (takes_up p (begins p m)).descriptors p).communications
  pub does : DoesOn level (stack_of m.stacks p).at (stack_of m.stacks p).operands (activity_of (program_in facts) c p).doing
  pub trial :
      TrialIs level.setting.trial facts acting.homes acting.entries c.store m.stacks c.table p level (activity_of (program_in facts) c p).activations
      (descriptor_of (takes_up p (begins p m)).descriptors p)
  pub shows :
      ShowsStill facts c.table p level (at c.table.rows p) (activity_of (program_in facts) c p).doing (activity_of (program_in facts) c p).hand

module _ (facts : Facts) (m : Machine) (c : Config) (p : ℕ) (is : Represents facts m c) (about : IsAboutToAct facts m c p) where
  abbrev a : Activity
  a = activity_of (program_in facts) c p

  abbrev d : Descriptor
  d = descriptor_of m.descriptors p

  abbrev taking : Machine
  taking = takes_up p (begins p m)

  way : IsUnderWay facts is.homes is.entries c.store m.stacks c.table (holders_in facts c) p a d
  way = under_way facts is.homes is.entries c.store m.stacks c.table (holders_in facts c) p a d a.activations about.ready
      (is.processes p about.process).activations

  abbrev level : LivingLevel
  level = way.level

  here : IsTaken facts (length a.activations) level (stack_of m.stacks p).at (stack_of m.stacks p).operands d a.doing
  here =
      taken facts is.homes is.entries c.table p (length a.activations) level (stack_of m.stacks p).at (stack_of m.stacks p).operands d a.doing
      way.stands.accepts
      (at c.table.rows p) about.ready a.hand way.hand

  d_there : p < length m.descriptors
  d_there = subst (λ n. p < n) (sym is.alike.words.descriptors) about.process

  d_now : descriptor_of taking.descriptors p ≡ remade d here.alts here.ws 0
  d_now = get_or-set_same m.descriptors p (withdrawn d) (descriptor_by 0) d_there ∙ here.gone

  d_others : (q : ℕ) → q ≢ p → descriptor_of taking.descriptors q ≡ descriptor_of m.descriptors q
  d_others q apart = get_or-set_other m.descriptors p q (withdrawn d) (descriptor_by 0) apart

  words_taken : SharesWords facts taking c
  words_taken =
      let old = is.alike.words in
      record {
        processes = old.processes;
        stacks = old.stacks;
        descriptors = length-set m.descriptors p (withdrawn d) ∙ old.descriptors;
        rows = old.rows;
        semaphores = old.semaphores;
        monitors = old.monitors;
        owners = old.owners;
        resources = old.resources;
        input = old.input;
        draws = old.draws;
        in_line = old.in_line;
      }

  alike_taken : AreAlike facts is.homes is.entries taking c
  alike_taken =
      let old = is.alike in
      record {
        program = old.program;
        words = words_taken;
        holds = old.holds;
        kinds = old.kinds;
        children = old.children;
        main = old.main;
        between = old.between;
        counts = old.counts;
        monitor_count = old.monitor_count;
        resource_count = old.resource_count;
        rooms = old.rooms;
        fault = old.fault;
      }

  now : LivingLevel
  now = armed level here.arms

  level_now : IsAtLevel facts is.homes is.entries c.store m.stacks c.table (holders_in facts c) p a (remade d here.alts here.ws 0) (armed level here.arms)
  level_now = level_armed facts level here.arms is.homes c.store is.entries c.table p m.stacks (holders_in facts c) a d here.alts here.ws 0 here.made
      here.meet here.leads way.stands

  trial_now : TrialIs level.setting.trial facts is.homes is.entries c.store m.stacks c.table p (armed level here.arms) a.activations
      (remade d here.alts here.ws 0)
  trial_now = trial_armed facts level here.arms is.homes c.store is.entries c.table p level.setting.trial m.stacks a.activations d here.alts here.ws 0 way.trial

  actor_taken : IsActor facts is.homes is.entries taking c p (armed level here.arms)
  actor_taken = record {
    process = about.process;
    ready = about.ready;
    line = ap (λ (x : Descriptor). x.line) d_now ∙ (is.processes p about.process).line;
    spare = (is.processes p about.process).spare;
    stands = subst (λ (x : Descriptor). IsAtLevel facts is.homes is.entries c.store m.stacks c.table (holders_in facts c) p a x (armed level here.arms))
        (sym d_now) level_now;
    trial = inl (subst (λ (x : Descriptor). TrialIs level.setting.trial facts is.homes is.entries c.store m.stacks c.table p (armed level here.arms)
        a.activations x) (sym d_now) trial_now);
    offered = ap (λ (x : Descriptor). x.offered) d_now;
  }

  acting_taken : IsActing facts taking c p (armed level here.arms)
  acting_taken = record {
    homes = is.homes;
    entries = is.entries;
    alike = alike_taken;
    few = about.few;
    world = ap (λ (w : Table). begun w p) is.world;
    others = λ q below apart.
        subst (λ (x : Descriptor). RepresentsProcess facts is.homes is.entries c.store m.stacks c.table (holders_in facts c) q
        (activity_of (program_in facts) c q) x) (sym (d_others q apart))
        (is.processes q below);
    actor = actor_taken;
  }

  shows_now : ShowsStill facts c.table p (armed level here.arms) (at c.table.rows p) a.doing a.hand
  shows_now =
      still_shows facts is.homes is.entries c.table p (length a.activations) level (stack_of m.stacks p).at (stack_of m.stacks p).operands d a.doing
      way.stands.accepts
      (at c.table.rows p) about.ready a.hand way.hand

  pub has_begun : HasBegun facts m c p
  unfolding acting_taken
  has_begun = record {
    level = armed level here.arms;
    acting = acting_taken;
    within =
        subst (λ (x : Descriptor). IsWithin facts (armed level here.arms) (own_address level.setting.trial (stack_of m.stacks p).at) x.communications)
        (sym d_now)
        (within_fewer facts level here.arms (own_address level.setting.trial (stack_of m.stacks p).at) d.communications here.alts here.ws here.fewer
        way.within);
    does = here.does;
    shows = shows_now;
    trial =
        subst (λ (x : Descriptor). TrialIs level.setting.trial facts is.homes is.entries c.store m.stacks c.table p (armed level here.arms) a.activations x)
        (sym d_now) trial_now;
  }
