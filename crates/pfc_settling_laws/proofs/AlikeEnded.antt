-- All is represented still where the children that serve have finished.
use Rattle.std.proofs.Common.{◌≡◌, ℕ, zero, suc, ◌<◌, ◌≤◌, ◌||◌, Bool, true, false, if◌then◌else◌, ℤ, List, [], ◌∷◌, length, get_or, Option, Some, None, refl}
use Rattle.std.proofs.Common.{sym, ap, ◌∙◌, subst, arith, inl, inr}
use Rattle.std.specs.Prelude.{pos}
use Rattle.pfc_state.specs.Stands.{Stand, Waits, may_end}
use Rattle.pfc_state.specs.declared.waits.Why.TheVariants.{Select}
use Rattle.pfc_types.specs.Types.{semaphore, condition, form_of, is_same, Forms}
use Rattle.pfc_types.specs.declared.types.TypeId.{TypeId}
use Rattle.pfc_types.specs.declared.types.TypeForm.TheVariants.{Channel, Process}
use Rattle.pfc_world.specs.Settling.{may_all_end}
use Rattle.pfc_world.specs.Tables.{Table, at}
use Rattle.pfc_world.specs.Terminating.{terminated, AreServers}
use Rattle.pfc_semantics.specs.Configurations.{Activation, Activity, Hand, empty_hand, offering, asking, barred_at, Config, activity_of, nobody, with_table}
use Rattle.pfc_semantics.specs.Processes.{ended_activity}
use Rattle.pfc_semantics.specs.Rewriting.{Doing}
use Rattle.pfc_semantics.specs.Store.{Store, values_in, value_at}
use Rattle.pfc_semantics.specs.Time.{ended_children, terminated_over}
use Rattle.pfc_semantics.specs.Values.{Value, Location, ordinal, part, path_of}
use Rattle.pfc_stacks.specs.declared.refs.Ref.{Ref}
use Rattle.pfc_stacks.specs.Stacks.{Stacks, stack_of, cells_of}
use Rattle.pfc_cells.specs.Homes.{Home, Homes, Lies}
use Rattle.pfc_cells.specs.Memory.{Entries, ProcessIs, IsAmong, Lives}
use Rattle.pfc_machines.specs.declared.descriptors.Descriptor.{Descriptor}
use Rattle.pfc_machines.specs.declared.machine.Machine.{Machine}
use Rattle.pfc_machines.specs.Descriptors.{descriptor_of}
use Rattle.pfc_call_laws.specs.Calls.{first_home}
use Rattle.pfc_standing_code.specs.Settings.{Trial, of_own, of_turn, of_another}
use Rattle.pfc_standing_code.specs.Shapes.{is_object_type, has_object_form}
use Rattle.pfc_views.specs.Views.{AreObjects, IsObjectAt}
use Rattle.pfc_representation.specs.Levels.{Facts, program_in, LivingLevel}
use Rattle.pfc_representation.specs.Hands.{shows_nothing, HandIs}
use Rattle.pfc_representation.specs.Holding.{Holders, holders_in}
use Rattle.pfc_representation.specs.Trials.{TrialIs}
use Rattle.pfc_representation.specs.Objects.{AreOfKinds}
use Rattle.pfc_representation.specs.Machines.{SharesWords, HoldsStore, AreAlike, machine_table, Represents}
use Rattle.pfc_representation.specs.Processes.{IsUnderWay, IsAtRest, ActivationsAre, RepresentsProcess}
use Rattle.pfc_settling_laws.proofs.Standings.{still_unfinished}
use Rattle.pfc_settling_laws.proofs.Ended.{all_serve, main_serves_not, Ends, terminated_ends, children_over, children_quiet, between_ended}
use Rattle.pfc_settling_laws.proofs.Stores.{activity_ended, activities_stay, line_stays, process_left}
use Rattle.pfc_settling_laws.proofs.Main.{mains_alone, left, at_coend, values_left, has_home_there, main_ended}

some_same : {A : Type 0} (x y : A) → Some x ≡ Some y → x ≡ y
some_same x y h = cc

or_third : (a b c : Bool) → c ≡ true → (a || b || c) ≡ true
or_third true b c h = refl
or_third false true c h = refl
or_third false false c h = h

-- ## Types of objects

channels_are_objects : (forms : Forms) (t v : TypeId) → form_of forms t ≡ Some (Channel v) → is_object_type forms (Some t) ≡ true
channels_are_objects forms t v is = or_third (is_same t semaphore) (is_same t condition) (has_object_form (form_of forms t)) (ap has_object_form is)

processes_are_objects : (forms : Forms) (t : TypeId) (k : ℕ) → form_of forms t ≡ Some (Process k) → is_object_type forms (Some t) ≡ true
processes_are_objects forms t k is = or_third (is_same t semaphore) (is_same t condition) (has_object_form (form_of forms t)) (ap has_object_form is)

-- ## What becomes of a child

if_ended : (b : Bool) (a : Activity) → a.activations ≡ [] → (if b then ended_activity a else a).activations ≡ []
if_ended true a none = refl
if_ended false a none = none

-- ## The same words

pub words_ended : (facts : Facts) (m : Machine) (c : Config) → SharesWords facts m c
    → SharesWords facts (record m { world = machine_table facts (terminated c.table) }) (with_table (terminated_over c.table c) (terminated c.table))
words_ended facts m c was =
    let size : length (ended_children c.table.rows c.activities) ≡ length c.activities = activities_stay c.table.rows c.activities in
    let its : Ends c.table (terminated c.table) = terminated_ends c.table in
    record {
      processes = size ∙ was.processes;
      stacks = was.stacks ∙ sym size;
      descriptors = was.descriptors ∙ sym size;
      rows = its.size ∙ was.rows ∙ sym size;
      semaphores = was.semaphores;
      monitors = was.monitors;
      owners = was.owners;
      resources = was.resources;
      input = was.input;
      draws = was.draws;
      in_line = was.in_line;
    }

-- ## Who serves tries nobody's guard

serves_shown : (s : Stand) → may_end s ≡ true → shows_nothing s ≡ true → ⊥
serves_shown (Waits (Select due terminate) ticket arms) serves shown = cc
serves_shown s serves shown = cc

module _ (facts : Facts) (homes : Homes) (entries : Entries) (store : Store) (stacks : Stacks) (table : Table) (p : ℕ) (d : Descriptor) where
  -- it offers something, and is in its own code
  in_own_code : (level : LivingLevel) (at : ℕ) (ops : List ℤ) (stand : Stand) (doing : Doing) (hand : Hand)
      → HandIs facts homes table entries p level at ops d stand doing hand → may_end stand ≡ true
      → level.setting.trial ≡ of_own
  in_own_code level at ops stand doing empty_hand is serves = absurd (serves_shown stand serves is.1)
  in_own_code level at ops stand doing (offering x os k) (inl is) serves = is.own
  in_own_code level at ops stand doing (offering x os k) (inr is) serves = absurd (serves_shown stand serves (ap shows_nothing is.ready))
  in_own_code level at ops stand doing (asking values) is serves = (let asks = is.1 in asks.own)
  in_own_code level at ops stand doing (barred_at bar) is serves = (let barred = is.1 in barred.own)

  no_scan_in : (trial : Trial) (level : LivingLevel) (xs : List Activation) → trial ≡ of_own
      → TrialIs trial facts homes entries store stacks table p level xs d → d.scan ≡ None
  no_scan_in of_own level xs own is = is.1
  no_scan_in (of_turn scan back) level xs own is = absurd (cc)
  no_scan_in (of_another attempt) level xs own is = absurd (cc)

  no_scan : (h : Holders) (a : Activity) → IsUnderWay facts homes entries store stacks table h p a d → may_end (at table.rows p) ≡ true → d.scan ≡ None
  no_scan h a is serves =
      no_scan_in is.level.setting.trial is.level a.activations
      (in_own_code is.level (stack_of stacks p).at (stack_of stacks p).operands (at table.rows p) a.doing a.hand is.hand serves) is.trial

module _ (facts : Facts) (m : Machine) (c : Config) (old : Represents facts m c) (ends : may_all_end c.table.rows ≡ true) where
  abbrev next : Config
  next = with_table (terminated_over c.table c) (terminated c.table)

  abbrev after : Machine
  after = record m { world = machine_table facts (terminated c.table) }

  abbrev few : Entries
  few = mains_alone old.entries

  abbrev rest : Store
  rest = left facts m c old ends

  its : Ends c.table (terminated c.table)
  its = terminated_ends c.table

  servers : AreServers c.table.rows
  servers = all_serve c.table.rows ends

  -- ### Activities

  size : length next.activities ≡ length c.activities
  size = activities_stay c.table.rows c.activities

  activity : (p : ℕ)
      → activity_of (program_in facts) next p
      ≡ (if may_end (at c.table.rows p) then ended_activity (activity_of (program_in facts) c p) else activity_of (program_in facts) c p)
  activity p = activity_ended (nobody (program_in facts)) refl c.table.rows c.activities p

  mains_activity : activity_of (program_in facts) next 0 ≡ activity_of (program_in facts) c 0
  mains_activity =
      activity 0
      ∙ ap (λ (b : Bool). if b then ended_activity (activity_of (program_in facts) c 0) else activity_of (program_in facts) c 0)
      (main_serves_not c.table.rows (at_coend facts m c old ends))

  -- a child has no activation any more
  none_left_by : (q : ℕ) → 0 < q → (xs : List Activation) (a : Activity) (d : Descriptor) → xs ≡ a.activations
      → ActivationsAre xs facts old.homes old.entries c.store m.stacks c.table (holders_in facts c) q a d
      → (if may_end (at c.table.rows q) then ended_activity a else a).activations ≡ []
  none_left_by q child [] a d is h = if_ended (may_end (at c.table.rows q)) a (sym is)
  none_left_by q child (x ∷ xs) a d is h =
      ap (λ (b : Bool). (if b then ended_activity a else a).activations) (servers q child h.unfinished)

  none_left : (q : ℕ) → 0 < q → q < length c.activities → (activity_of (program_in facts) next q).activations ≡ []
  none_left q child low =
      let is = old.processes q low in
      ap (λ (a : Activity). a.activations) (activity q)
      ∙ none_left_by q child (activity_of (program_in facts) c q).activations (activity_of (program_in facts) c q) (descriptor_of m.descriptors q) refl
      is.activations

  no_scan_by : (q : ℕ) → 0 < q → (xs : List Activation) (a : Activity)
      → ActivationsAre xs facts old.homes old.entries c.store m.stacks c.table (holders_in facts c) q a (descriptor_of m.descriptors q)
      → (descriptor_of m.descriptors q).scan ≡ None
  no_scan_by q child [] a h = h.scan
  no_scan_by q child (x ∷ xs) a h =
      no_scan facts old.homes old.entries c.store m.stacks c.table q (descriptor_of m.descriptors q) (holders_in facts c) a h (servers q child h.unfinished)

  child_ended : (q : ℕ) → suc q < length c.activities
      → RepresentsProcess facts old.homes few rest m.stacks (terminated c.table) (holders_in facts c) (suc q) (activity_of (program_in facts) next (suc q))
      (descriptor_of m.descriptors (suc q))
  child_ended q low =
      let is = old.processes (suc q) low in
      let a : Activity = activity_of (program_in facts) c (suc q) in
      let d : Descriptor = descriptor_of m.descriptors (suc q) in
      let child : 0 < suc q = omega arith in
      let at_rest : IsAtRest few (terminated c.table) (suc q) d = record {
        none = refl;
        scan = no_scan_by (suc q) child a.activations a is.activations;
        finished = children_over c.table (terminated c.table) its servers q;
      } in
      record {
        line = is.line ∙ sym (line_stays (program_in facts) c.table.rows c.activities (suc q));
        spare = is.spare;
        activations =
            subst (λ (xs : List Activation). ActivationsAre xs facts old.homes few rest m.stacks (terminated c.table) (holders_in facts c) (suc q)
            (activity_of (program_in facts) next (suc q)) d)
            (sym (none_left (suc q) child low)) at_rest;
      }

  process_ended : (p : ℕ) → p < length c.activities
      → RepresentsProcess facts old.homes few rest m.stacks (terminated c.table) (holders_in facts c) p (activity_of (program_in facts) next p)
      (descriptor_of m.descriptors p)
  process_ended zero low =
      subst (λ (a : Activity). RepresentsProcess facts old.homes few rest m.stacks (terminated c.table) (holders_in facts c) 0 a
      (descriptor_of m.descriptors 0)) (sym mains_activity)
      (main_ended facts m c old ends low)
  process_ended (suc q) low = child_ended q low

  -- ### The store

  memory_ended : (q : ℕ) → ProcessIs (program_in facts) old.homes rest q (few q) (cells_of m.stacks q)
  memory_ended zero =
      process_left (program_in facts) old.homes c.store 0 rest (old.entries 0) (cells_of m.stacks 0) (let memory = old.alike.holds.memory in memory 0)
      (λ a among. (let home = has_home_there facts m c old ends 0 a among in values_left facts m c old ends a home.0 home.1 home.2))
  memory_ended (suc q) = tt

  mains_values : (a : ℕ) → a ≡ 0 → values_in rest a ≡ values_in c.store a
  mains_values a is =
      ap (values_in rest) is ∙ values_left facts m c old ends 0 (first_home 0 0) old.alike.holds.main refl ∙ sym (ap (values_in c.store) is)

  object_left : (l : Location) (t : Option TypeId) (r : Ref) → Lies (program_in facts) old.homes l t r
      → is_object_type (program_in facts).state.forms t ≡ true → value_at rest l ≡ value_at c.store l
  object_left l t r lies object =
      ap (λ (vs : List Value). part (path_of l.selectors) (get_or vs l.variable (ordinal (pos 0))))
      (mains_values l.activation (old.alike.holds.mains l t r lies object))

  mains_process_of : (a q : ℕ) → a ≡ 0 → IsAmong a (old.entries q) → q ≡ 0
  mains_process_of a q is among =
      let home = has_home_there facts m c old ends q a among in
      let one : home.0 ≡ first_home 0 0 = some_same home.0 (first_home 0 0) (sym home.1 ∙ ap old.homes is ∙ old.alike.holds.main) in
      sym home.2 ∙ ap (λ (h : Home). h.process) one

  main_lives_on : (a q : ℕ) → a ≡ 0 → IsAmong a (old.entries q) → Lives few a
  main_lives_on a q is among = (0, subst (λ n. IsAmong a (old.entries n)) (mains_process_of a q is among) among)

  objects_ended : AreObjects (program_in facts) old.homes few rest facts.number
  objects_ended =
      record {
        known = λ l t r lies object. (let was = old.alike.holds.objects.known l t r lies object in (was.0, was.1, object_left l t r lies object ∙ was.2));
        only = λ w n is. only_left w (old.alike.holds.objects.only w n is);
      }
    where
      only_left : (w : ℤ) → IsObjectAt (program_in facts) old.homes old.entries w → IsObjectAt (program_in facts) old.homes few w
      only_left w was =
          record {
            location = was.location;
            t = was.t;
            place = was.place;
            lies = was.lies;
            object = was.object;
            word = was.word;
            lives = main_lives_on was.location.activation was.lives.0 (old.alike.holds.mains was.location was.t was.place was.lies was.object) was.lives.1;
          }

  holds_ended : HoldsStore facts old.homes few rest m.stacks (terminated c.table).done
  holds_ended =
      record {
        memory = memory_ended;
        few = old.alike.holds.few;
        objects = objects_ended;
        main = old.alike.holds.main;
        mains = old.alike.holds.mains;
        numbers = λ a home at_home. subst (λ n. a ≤ n) (sym its.done) (old.alike.holds.numbers a home at_home);
      }

  kinds_ended : AreOfKinds facts old.homes next
  kinds_ended =
      let was = old.alike.kinds in
      record {
        semaphores = λ l r lies. (let n = was.semaphores l r lies in (n.0, object_left l (Some semaphore) r lies refl ∙ n.1, n.2));
        conditions = λ l r lies. (let n = was.conditions l r lies in (n.0, object_left l (Some condition) r lies refl ∙ n.1, n.2));
        processes = λ l t k r lies form. (let n = was.processes l t k r lies form in
            let object = processes_are_objects (program_in facts).state.forms t k form in
            (n.0, object_left l (Some t) r lies object ∙ n.1, n.2, subst (λ z. n.0 < z) (sym size) n.3, n.4));
        channel_numbers = λ l t v r lies form. (let n = was.channel_numbers l t v r lies form in
            (n.0, object_left l (Some t) r lies (channels_are_objects (program_in facts).state.forms t v form) ∙ n.1, n.2));
        channels = λ l k t u v w r s lies lies' form form' same.
            was.channels l k t u v w r s lies lies' form form'
            (sym (object_left l (Some t) r lies (channels_are_objects (program_in facts).state.forms t v form)) ∙ same
            ∙ object_left k (Some u) s lies' (channels_are_objects (program_in facts).state.forms u w form'));
      }

  -- ### All of it

  alike_ended : AreAlike facts old.homes few after next
  alike_ended =
      let was = old.alike in
      record {
        program = was.program;
        words = words_ended facts m c was.words;
        holds = holds_ended;
        kinds = kinds_ended;
        children = λ away p child. children_quiet c.table (terminated c.table) its servers p child;
        main = still_unfinished (at c.table.rows 0) (at (terminated c.table).rows 0) its.main was.main;
        between = between_ended c.table (terminated c.table) its was.between;
        counts = was.counts;
        monitor_count = was.monitor_count;
        resource_count = was.resource_count;
        rooms = was.rooms;
        fault = was.fault;
      }

  pub represents_ended : Represents facts after next
  represents_ended =
      record {
        homes = old.homes;
        entries = few;
        alike = alike_ended;
        world = refl;
        processes = λ p low. process_ended p (subst (λ n. p < n) size low);
      }
