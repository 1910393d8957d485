-- Who resumes names a condition of the monitor whose variable holds it.
use Rattle.std.proofs.Common.{◌≡◌, ℕ, ◌+◌, ◌%◌, ◌^◌, ◌<◌, ℤ, pos, Bool, true, false, if◌then◌else◌, length, List, get_or}
use Rattle.std.proofs.Common.{Option, Some, refl, sym, ap, ap₂, ◌∙◌, subst, arith}
use Rattle.std.specs.List.{slice_get}
use Rattle.std.proofs.lemmas.Option.{slice_get_within, get_or_from_slice_get}
use Rattle.pfc_tree.specs.trees.Parts.{ProgramTree}
use Rattle.pfc_types.specs.Types.{condition}
use Rattle.pfc_types.specs.declared.types.TypeId.{TypeId}
use Rattle.pfc_types.specs.declared.scope.Meaning.{Meaning}
use Rattle.pfc_types.specs.declared.scope.Meaning.TheVariants.{Faulty}
use Rattle.pfc_semantics.specs.Values.{ordinal, ordinal_of, part, path_of}
use Rattle.pfc_semantics.specs.Displays.{Spot, Frame, Display, main_frame, frame_of}
use Rattle.pfc_semantics.specs.Layouts.{Layout}
use Rattle.pfc_semantics.specs.Objects.{module_number}
use Rattle.pfc_semantics.specs.Programs.{Block, Program}
use Rattle.pfc_semantics.specs.Remainders.{Context, Remainder, Action, resumes}
use Rattle.pfc_semantics.specs.Configurations.{Config, activity_of, number_for}
use Rattle.pfc_semantics.specs.Monitors.{monitor_of}
use Rattle.pfc_semantics.specs.Steps.{next_of}
use Rattle.pfc_translation.specs.Sites.{Site, module_of, is_mains, links_to, layout_with, place_of, cell_of, is_reference, refers}
use Rattle.pfc_translation.specs.Objects.{objects_of}
use Rattle.pfc_stacks.specs.Refs.{word_of, number_of}
use Rattle.pfc_stacks.specs.Stacks.{last_activation}
use Rattle.pfc_cells.specs.Shapes.{IsPath}
use Rattle.pfc_cells.specs.Homes.{Home, layout_at, cells_before, laid_type}
use Rattle.pfc_machines.specs.declared.machine.Machine.{Machine}
use Rattle.pfc_standing_code.specs.Settings.{View, Trial, of_own, site_of, IsBeside}
use Rattle.pfc_standing_code.specs.Performs.{own_block, own_view, own_accepts}
use Rattle.pfc_standing_code.specs.Typed.{unlined, whole_of, IsDeclaredAt}
use Rattle.pfc_standing_code.specs.Words.{IsWord, IsObject, AreKnown, IsChecked}
use Rattle.pfc_views.specs.Views.{Sees, IsNamed, first_number}
use Rattle.pfc_object_laws.specs.Objects.{number_at}
use Rattle.pfc_object_laws.proofs.Mains.{own_variables, found}
use Rattle.pfc_main_names.proofs.Mains.{are_of_main}
use Rattle.pfc_call_laws.specs.Around.{ShowsAround}
use Rattle.pfc_call_laws.specs.Calls.{first_home}
use Rattle.pfc_call_laws.proofs.Displays.{no_frame}
use Rattle.pfc_call_laws.proofs.Inside.{mains_not_shown}
use Rattle.pfc_nesting_laws.proofs.Programs.{main_found}
use Rattle.pfc_callee_laws.proofs.Modules.{module_found, mains_of}
use Rattle.pfc_monitor_laws.specs.Owners.{IsOfMonitor, IsOneOf, IsItsMonitors}
use Rattle.pfc_monitor_laws.proofs.Places.{its_monitors}
use Rattle.pfc_representation.specs.Levels.{Facts, program_in, LivingLevel, SeesWith, SeesThrough}
use Rattle.pfc_representation.specs.Acting.{IsActing, HasArrived}
use Rattle.pfc_kept_own_actions.proofs.Arrived.{has_setting, first_seen}
use Rattle.pfc_kept_object_actions.proofs.Numbers.{IsNumber, condition_number}
use Rattle.pfc_arrivals.specs.Arrivals.{AreNumbered}
use Rattle.pfc_holding_laws.specs.Inside.{NamesItsMonitor}

number_back : (n : ℕ) → n < 2 ^ 32 → number_of (pos n) ≡ n
number_back n few = (let all : n % 2 ^ 32 ≡ n = omega (arith, few) in all)

module _ (facts : Facts) (m : Machine) (c : Config) (p : ℕ) (level : LivingLevel) (x : Context) (v : Spot) (numbered : AreNumbered facts)
    (acting : IsActing facts m c p level) (own : level.setting.trial ≡ of_own) (b : Block) (checked : IsChecked level.setting b x.env) (n : ℤ)
    (object : IsObject level.setting (site_of level.setting b x) v (Some condition) n) where
  abbrev g : Program
  g = program_in facts

  abbrev t : ProgramTree
  t = facts.tree

  abbrev display : Display
  display = (activity_of g c p).display

  same : level.setting.program ≡ g
  same = (has_setting facts m c p level acting).image.program

  -- ## The variable, as the program has it

  abbrev site : Program → Site
  site q = record { program = q; block = b; env = x.env; line = x.line }

  is : IsWord level.setting.view (site g) v (Some condition) object.0
  is = subst (λ (q : Program). IsWord level.setting.view (site q) v (Some condition) object.0) same object.1

  abbrev here : Site
  here = unlined (site g)

  declared : IsDeclaredAt here (whole_of v) is.whole
  declared = is.declared

  abbrev meaning : Meaning
  meaning = declared.meaning

  leads : IsPath g.state.forms (laid_type meaning) (path_of v.selectors) (Some condition) is.behind
  leads = subst (λ (w : Option TypeId). IsPath g.state.forms w (path_of v.selectors) (Some condition) is.behind) declared.typed is.path

  -- it is in the scope of a monitor
  its : IsItsMonitors t v.scope v.variable meaning (path_of v.selectors)
  its =
      its_monitors t acting.alike.program.lawful acting.alike.program.unbroken v.scope v.variable meaning (path_of v.selectors) is.behind declared.named leads

  abbrev q : ℕ
  q = its.0

  abbrev monitor : IsOfMonitor t v.scope q
  monitor = its.1

  mains : is_mains g.state.blocks v.scope ≡ true
  mains =
      mains_of t acting.alike.program.lawful acting.alike.program.unbroken v.scope q
      (subst (λ (i : ℕ). module_of g.state.blocks i ≡ Some q) monitor.scope (module_found t acting.alike.program.lawful q monitor.among))

  -- ## Where it lies

  seen : (lenders : List ℕ) × SeesWith facts acting.homes acting.entries c.store c.table p lenders (acting.entries p) (word_of (last_activation m.stacks p))
      display level.setting level.setting.block level.setting.accepts level.setting.view
  seen =
      let all = acting.actor.stands.seen in
      let w : ℤ = word_of (last_activation m.stacks p) in
      let plainly : SeesThrough facts acting.homes acting.entries c.store c.table p (acting.entries p) w display level.setting level.setting.block
      level.setting.view all.others level.setting.accepts level.setting.meetings =
      subst (λ (y : Trial). SeesThrough facts acting.homes acting.entries c.store c.table p (acting.entries p) w display level.setting
      (own_block y level.setting.block) (own_view y level.setting.view) all.others (own_accepts y level.setting.accepts) level.setting.meetings) own
      all.sees in
      first_seen facts acting.homes acting.entries c.store c.table p (acting.entries p) w display level.setting level.setting.block level.setting.view
      all.others level.setting.accepts level.setting.meetings plainly

  sees : Sees g acting.homes acting.entries c.store seen.1.keeps display b level.setting.accepts (word_of (last_activation m.stacks p)) seen.1.chain
      level.setting.view
  sees = seen.1.sees b checked.beside

  known : AreKnown g b level.setting.accepts x.env
  known = subst (λ (y : Program). AreKnown y b level.setting.accepts x.env) same checked.known

  named : IsNamed g acting.homes c.store seen.1.keeps display b seen.1.chain level.setting.view (whole_of v) meaning
  named = sees.names (whole_of v) meaning (known v.scope declared.seen) declared.own declared.laid declared.variable

  shows : ShowsAround g b display
  shows =
      acting.actor.stands.seen.around b
      (subst (λ (y : Trial). IsBeside level.setting (own_block y level.setting.block) b) (sym own) checked.beside)

  frame : frame_of display v.scope ≡ main_frame v.scope
  frame = no_frame v.scope display (mains_not_shown g b display shows v.scope mains)

  home_is : named.home ≡ first_home 0 0
  home_is =
      (let both : Some named.home ≡ Some (first_home 0 0) =
      sym named.at ∙ ap (λ (f : Frame). acting.homes f.activation) frame ∙ acting.alike.holds.main in cc)

  layout_is : layout_with here v.scope ≡ g.main.layout
  layout_is =
      sym named.layout ∙ ap (λ (y : Home). layout_at g y) home_is ∙ ap (λ (y : Block). y.layout) (main_found t acting.alike.program.lawful)

  place_is : place_of here (whole_of v) ≡ v.variable
  place_is = sym named.place ∙ ap (λ (f : Frame). f.first + v.variable) frame ∙ none v.variable
    where
      none : (i : ℕ) → 0 + i ≡ i
      none i = omega arith

  stands : slice_get g.main.layout v.variable ≡ Some meaning
  stands =
      ap (λ (l : Layout). slice_get l v.variable) (sym layout_is) ∙ ap (λ (i : ℕ). slice_get (layout_with here v.scope) i) (sym place_is) ∙ declared.laid

  -- it is no reference
  plain : refers here (whole_of v) ≡ false
  plain =
      ap is_reference (get_or_from_slice_get (layout_with here v.scope) (place_of here (whole_of v)) meaning Faulty declared.laid)
      ∙ (own_variables t (are_of_main t acting.alike.program.lawful) v.variable meaning stands).1

  -- ## Its number

  abbrev cell : ℕ
  cell = cells_before g.state.forms g.main.layout v.variable

  cell_is : cell_of here (whole_of v) ≡ cell
  cell_is = ap₂ (λ (l : Layout) (i : ℕ). cells_before g.state.forms l i) layout_is place_is

  first_is : level.setting.view.first (links_to here v.scope) ≡ 8
  first_is = sees.firsts (links_to here v.scope) (frame_of display v.scope).activation named.home named.linked named.at ∙ ap first_number home_is

  word_is : object.0 ≡ pos (8 + (cell + is.behind))
  word_is =
      let l = links_to here v.scope in
      let d = cell_of here (whole_of v) in
      let view : View = level.setting.view in
      is.word
      ∙ ap (λ (r : Bool). pos ((if r then view.held l d else view.first l + d) + is.behind)) plain
      ∙ ap pos (sums (view.first l) d cell is.behind first_is cell_is)
    where
      sums : (f d e o : ℕ) → f ≡ 8 → d ≡ e → f + d + o ≡ 8 + (e + o)
      sums f d e o one two = omega (arith, one, two)

  abbrev at_place : (k : ℤ) × (number_at (objects_of g) (pos (8 + (cell + is.behind))) ≡ Some k)
      × (part (path_of v.selectors) (get_or g.variables v.variable (ordinal (pos 0))) ≡ ordinal k)
  at_place = found t (are_of_main t acting.alike.program.lawful) v.variable meaning (path_of v.selectors) (Some condition) is.behind stands leads refl

  number_same : at_place.0 ≡ n
  number_same =
      (let both : Some at_place.0 ≡ Some n =
      sym at_place.1 ∙ (ap (λ (w : ℤ). number_at (objects_of g) w) (sym word_is)
      ∙ (ap (λ (f : ℤ → Option ℤ). f object.0) (sym ((has_setting facts m c p level acting).number ∙ numbered)) ∙ object.2)) in cc)

  abbrev one : IsOneOf g.objects.conditions (module_number g.state.blocks q) (part (path_of v.selectors) (get_or g.variables v.variable (ordinal (pos 0))))
  one = its.2 stands

  number_is : n ≡ pos one.0
  number_is = sym number_same ∙ ap ordinal_of (sym at_place.2 ∙ one.1)

  counted : IsNumber facts m c p level acting own b x v n checked (length g.objects.conditions)
  counted = condition_number facts m c p level acting own b x v n checked object

  spot_is : number_for g c p v ≡ one.0
  spot_is =
      let below : one.0 < length g.objects.conditions = slice_get_within g.objects.conditions one.0 (module_number g.state.blocks q) one.2 in
      let few : length g.objects.conditions < 2 ^ 32 = acting.alike.program.numbered.conditions in
      counted.spot ∙ sym counted.word ∙ ap number_of number_is ∙ number_back one.0 (less one.0 (length g.objects.conditions) below few)
    where
      less : (i j : ℕ) → i < j → j < 2 ^ 32 → i < 2 ^ 32
      less i j h few = omega (arith, h, few)

  pub names_it : NamesItsMonitor g c p v
  names_it = record {
    place = q;
    among = monitor.among;
    scope = monitor.scope;
    inner = monitor.inner;
    monitor = monitor.monitor;
    number = sym (ap (λ (i : ℕ). monitor_of g i) spot_is
        ∙ get_or_from_slice_get g.objects.conditions one.0 (module_number g.state.blocks q) 0 one.2);
  }

pub names_its_monitor : (facts : Facts) (m : Machine) (c : Config) (p : ℕ) (level : LivingLevel) (x : Context) (v : Spot) (k : Remainder) → AreNumbered facts
    → IsActing facts m c p level → HasArrived facts m c p level (next_of (program_in facts) c p) → next_of (program_in facts) c p ≡ resumes x v k
    → NamesItsMonitor (program_in facts) c p v
names_its_monitor facts m c p level x v k numbered acting arrived next =
    let (b, checked, (alone, (n, below, ops, object, there, rest))) =
    (subst (λ (a : Action). HasArrived facts m c p level a) next arrived).arrived in
    names_it facts m c p level x v numbered acting alone.0 b checked n object
