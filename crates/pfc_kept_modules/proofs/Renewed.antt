-- A requeue: the level of the activation that takes the place of the last, before the scan.
use Rattle.std.proofs.Common.{◌≡◌, ℕ, zero, suc, ◌+◌, ◌≤◌, max, if◌then◌else◌, ℤ, pos, Bool, true, false, List, [], ◌∷◌, length, set, slice_get, get_or, All}
use Rattle.std.proofs.Common.{Option}
use Rattle.std.proofs.Common.{Some, None, refl, sym, ap, ◌∙◌, subst, arith, inl}
use Rattle.pfc_types.specs.declared.heads.Formal.{Formal}
use Rattle.pfc_types.specs.rules.Expressions.{Env}
use Rattle.pfc_code.specs.declared.images.Block.{Block as CodeBlock}
use Rattle.pfc_code.specs.declared.instructions.Instr.TheVariants.{SCAN, END}
use Rattle.pfc_world.specs.Holders.{holder_in}
use Rattle.pfc_world.specs.Tables.{Table, at}
use Rattle.pfc_world.specs.Transitions.{ticked}
use Rattle.pfc_semantics.specs.Displays.{Display}
use Rattle.pfc_semantics.specs.Layouts.{sub_with}
use Rattle.pfc_semantics.specs.Store.{Store, values_in, without}
use Rattle.pfc_semantics.specs.Values.{Value, ordinal}
use Rattle.pfc_semantics.specs.Programs.{Block, Guard, Program}
use Rattle.pfc_semantics.specs.Remainders.{Context, Argument, Scan, in_names, scan_on}
use Rattle.pfc_semantics.specs.Resources.{scan_of, way_to}
use Rattle.pfc_semantics.specs.Rewriting.{going}
use Rattle.pfc_semantics.specs.Configurations.{of_resource, Activation, Activity, Config, activity_of, body_of}
use Rattle.pfc_semantics.specs.Calls.{cells_above}
use Rattle.pfc_translation.specs.Calls.{resource_of}
use Rattle.pfc_translation.specs.Images.{image_of, end_of, site_in}
use Rattle.pfc_stacks.specs.Refs.{word_of}
use Rattle.pfc_stacks.specs.Stacks.{Stack, Stacks, stack_of, block_place, last_activation}
use Rattle.pfc_cells.specs.Homes.{Home, Homes}
use Rattle.pfc_cells.specs.Memory.{Entry, Entries, IsAmong}
use Rattle.pfc_machines.specs.declared.machine.Machine.{Machine}
use Rattle.pfc_machines.specs.declared.rooms.Room.{Room}
use Rattle.pfc_machines.specs.declared.descriptors.Descriptor.{Descriptor}
use Rattle.pfc_machines.specs.declared.descriptors.Scan.{Scan as MachineScan}
use Rattle.pfc_machines.specs.Rooms.{no_room}
use Rattle.pfc_machines.specs.Communications.{Communicating, with_room_above}
use Rattle.pfc_machines.specs.Descriptors.{descriptor_of, roomier}
use Rattle.pfc_standing_code.specs.Settings.{Setting, of_own, of_turn, IsBeside, same_block, both_mains, IsAt}
use Rattle.pfc_standing_code.specs.Words.{AreKnown, IsChecked}
use Rattle.pfc_standing_code.specs.Performs.{Performs}
use Rattle.pfc_standing_images.specs.Images.{IsOfImage, IsOfBlock, BlockStands}
use Rattle.pfc_standing_images.proofs.Wholes.{block_stands, scan_stands}
use Rattle.pfc_standing_images.proofs.Bodies.{requeued_performs}
use Rattle.pfc_views.specs.Views.{own_place, Sees}
use Rattle.pfc_views.proofs.Checked.{names_checked}
use Rattle.pfc_call_laws.specs.Blocks.{HasFirstValues}
use Rattle.pfc_call_laws.specs.Around.{scopes_around, ShowsAround, keeps_also}
use Rattle.pfc_typed_programs.specs.Bodies.{of_block, IsSeen, EachGuardSeen}
use Rattle.pfc_typed_programs.proofs.Bodies.{body_ready, each_guard_ready, guard_state}
use Rattle.pfc_representation.specs.Levels.{Facts, program_in, LivingLevel, DoesOn, IsSeenBy, IsBlockAt}
use Rattle.pfc_representation.specs.Rooms.{process_count, room_in, guards_room, HasRoomFor, HasRoom, MayMeet}
use Rattle.pfc_representation.specs.Alternatives.{none_made}
use Rattle.pfc_representation.specs.Callers.{Linkage, StandsFor, IsCalled, IsWithin, AreCallers}
use Rattle.pfc_representation.specs.Holding.{Holders, holders_in, HoldsFor}
use Rattle.pfc_representation.specs.Processes.{IsAtLevel}
use Rattle.pfc_representation.specs.Trials.{next_turn, is_own, WayIs}
use Rattle.pfc_representation.specs.Acting.{IsActing}
use Rattle.pfc_representation.proofs.Kept.{seen_still, callers_still}
use Rattle.pfc_kept_own_actions.proofs.Arrived.{has_setting}
use Rattle.pfc_kept_calls.proofs.Roomier.{may_meet_more, above_fits, above_larger, within_larger, callers_larger}
use Rattle.pfc_kept_calls.proofs.Beginnings.{entry_before, room_from_entry}
use Rattle.pfc_kept_calls.proofs.Caller.{same_number, home_here, entries_here, outer}
use Rattle.pfc_kept_calls.proofs.Ended.{HasCaller, as_before, not_below}
use Rattle.pfc_kept_calls.proofs.Returned.{has, home as old_home, home_at as old_home_at, own}
use Rattle.pfc_kept_modules.proofs.Mains.{nothing_around_main}
use Rattle.pfc_kept_modules.proofs.Guards.{guard_known}
use Rattle.pfc_kept_modules.proofs.Replaced.{top, others, old, lower, activations_are, IsRequeue, n, new_entry, new_home, homes, mine, entries, values}
use Rattle.pfc_kept_modules.proofs.Replaced.{store, stack, stacks, view, display, keeps, references_apart, lenders_stay, keeps_inner, inner_shows}
use Rattle.pfc_kept_modules.proofs.Replaced.{inner_sees, is_stack, new_hold, operands_left, like, at_home, entries_are}

module _ (facts : Facts) (m : Machine) (c : Config) (p : ℕ) (level : LivingLevel) (acting : IsActing facts m c p level)
    (more : level.setting.last ≡ END → ⊥) (b callee : Block) (number k r scan : ℕ) (formals : List Formal) (x : Context) (given : List Argument)
    (below : List ℤ) (guard : Guard) (first : HasFirstValues (program_in facts))
    (is : IsRequeue facts m c p level acting more b callee number k r scan formals x given below guard) where
  abbrev g : Program
  g = program_in facts

  abbrev a : Activity
  a = activity_of g c p

  abbrev d : Descriptor
  d = descriptor_of m.descriptors p

  abbrev s : Stack
  s = stack_of m.stacks p

  abbrev w : ℤ
  w = word_of (last_activation m.stacks p)

  abbrev pub its_code : CodeBlock
  its_code = is.can.code

  abbrev now : ℕ
  now = n facts m c p level acting more b callee number k r scan formals x given below guard first is

  abbrev pub homes' : Homes
  homes' = homes facts m c p level acting more b callee number k r scan formals x given below guard first is

  abbrev pub entries' : Entries
  entries' = entries facts m c p level acting more b callee number k r scan formals x given below guard first is

  abbrev pub mine' : List Entry
  mine' = mine facts m c p level acting more b callee number k r scan formals x given below guard first is

  abbrev pub store' : Store
  store' = store facts m c p level acting more b callee number k r scan formals x given below guard first is

  abbrev pub stack' : Stack
  stack' = stack facts m c p level acting more b callee number k r scan formals x given below guard first is

  abbrev pub stacks' : Stacks
  stacks' = stacks facts m c p level acting more b callee number k r scan formals x given below guard first is

  abbrev pub display' : Display
  display' = display facts m c p level acting more b callee number k r scan formals x given below guard first is

  abbrev home' : Home
  home' = new_home facts m c p level acting more b callee number k r scan formals x given below guard first is

  abbrev entry' : Entry
  entry' = new_entry facts m c p level acting more b callee number k r scan formals x given below guard first is

  abbrev keeps' : ℕ → Bool
  keeps' = keeps_also (keeps facts m c p level acting more b callee number k r scan formals x given below guard first is) now

  abbrev w' : ℤ
  w' = word_of (own_place home')

  abbrev table' : Table
  table' = ticked c.table

  abbrev callers : List Activation
  callers = others facts m c p level acting more

  abbrev lower' : List Entry
  lower' = lower facts m c p level acting more

  abbrev room : Room
  room = get_or m.rooms k no_room

  abbrev pub latest : Communicating
  latest = with_room_above d.communications room

  -- the resource as the code of the block has it
  abbrev pub its_resource : ℕ
  its_resource = resource_of (site_in g callee)

  abbrev pub turn : Scan
  turn = scan_of g its_resource (way_to g its_resource callee callee.guard)

  abbrev pub activation : Activation
  activation = record (top facts m c p level acting more) { number = now; scope = callee.scope; cells = cells_above callers callee }

  -- in no scan, and before the scan
  abbrev plain_inside : Setting
  plain_inside = record (outer facts m c p level acting) {
    block = callee;
    view = view facts m c p level acting more b callee number k r scan formals x given below guard first is;
    accepts = [];
    meetings = [];
    under = level.setting.under;
    last = level.setting.last;
    room = length level.setting.under + its_code.operands;
    trial = of_own;
  }

  abbrev inside : Setting
  inside = record plain_inside { trial = of_turn turn its_code.entry }

  abbrev pub inside_level : LivingLevel
  inside_level = record { setting = inside; arms = [] }

  abbrev had : HasCaller facts acting.homes acting.entries c.store c.table p s.room level w d.communications a.activations (acting.entries p)
  had = has facts m c p level acting more

  -- ## The code of the procedure

  plain_image : IsOfImage facts.tree plain_inside
  plain_image =
      let has = (has_setting facts m c p level acting).image in
      record { program = refl; code = has.code; lines = has.lines; texts = has.texts; arms = has.arms }

  inside_image : IsOfImage facts.tree inside
  inside_image =
      let has = (has_setting facts m c p level acting).image in
      record { program = refl; code = has.code; lines = has.lines; texts = has.texts; arms = has.arms }

  ends : level.setting.last ≡ end_of (sub_with g.state.blocks.subs callee.scope)
  ends = is.last ∙ sym (ap end_of is.can.headed ∙ is.can.procedure)

  plain_block : IsOfBlock plain_inside callee its_code
  plain_block = record { last = ends; room = omega arith }

  inside_block : IsOfBlock inside callee its_code
  inside_block = record { last = ends; room = omega arith }

  block : BlockStands plain_inside callee its_code
  block = block_stands facts.tree plain_inside plain_image k callee its_code is.can.there is.can.is

  checked_in : (e : Env) → AreKnown g callee [] e → e.state ≡ g.state → IsChecked plain_inside callee e
  checked_in e known state =
      let held = new_hold facts m c p level acting more b callee number k r scan formals x given below guard first is in
      names_checked plain_inside homes' entries' store' keeps' display' callee w' (now ∷ 0 ∷ []) stacks'
      held.types.counted held.types.sound held.memory held.few held.objects
      (inner_sees facts m c p level acting more b callee number k r scan formals x given below guard first is) e known state same_block tt

  seen_in : (e : Env) → IsChecked plain_inside callee e → IsSeen plain_inside callee e
  seen_in e h = record { known = h.known; seen = h.seen; placed = h.placed; objects = h.objects; beside = h.beside }

  around : scopes_around g callee ≡ callee.scope ∷ []
  around = is.can.nested.around ∙ ap (λ (xs : List ℕ). callee.scope ∷ xs) (nothing_around_main facts m c p level acting)

  guards_seen : EachGuardSeen plain_inside callee callee.guard
  guards_seen = by callee.guard refl
    where
      by : (q : Option Guard) → callee.guard ≡ q → EachGuardSeen plain_inside callee q
      by None h = tt
      by (Some own_guard) h =
          seen_in own_guard.env
          (checked_in own_guard.env (guard_known facts.tree acting.alike.program.lawful k callee own_guard is.can.there h around)
          (guard_state facts.tree acting.alike.program.lawful acting.alike.program.unbroken callee own_guard (of_block k callee is.can.there) h))

  turn_there : IsAt inside scan (SCAN its_resource) (get_or g.resource_ends its_resource 0)
  turn_there = scan_stands facts.tree inside inside_image its_resource scan
      (subst (λ i. slice_get (image_of facts.tree).scans i ≡ Some scan) (sym is.resource) is.turn)

  performs : Performs inside callee callee.env scan level.setting.under [] (scan_on turn (in_names callee.env (body_of callee)))
  performs =
      requeued_performs inside callee its_code scan callee.env refl refl block inside_block refl turn_there
      (each_guard_ready facts.tree acting.alike.program.lawful acting.alike.program.unbroken plain_inside k callee plain_image is.can.there guards_seen)
      (body_ready facts.tree acting.alike.program.lawful acting.alike.program.unbroken plain_inside callee plain_image refl refl
      (of_block k callee is.can.there)
      (seen_in callee.env (checked_in callee.env is.can.known is.can.state)))

  pub does : DoesOn inside_level scan level.setting.under (going callee.env (scan_on turn (in_names callee.env (body_of callee))))
  does = (omega arith, omega arith, inl (callee, same_block, (tt, performs)))

  -- ## What the new activation sees

  no_other : (e : Block) → IsBeside inside callee e → e ≡ callee
  no_other _ same_block = refl
  no_other _ (both_mains e one two) = absurd (is.can.apart one.0 one.1)

  inner_seen : IsSeenBy facts homes' entries' store' table' p d.communications.callers mine' w' display' inside_level
  inner_seen = record {
    others = d.communications.callers;
    met = refl;
    sees = record {
      keeps = keeps';
      chain = now ∷ 0 ∷ [];
      sees = λ e beside. subst (λ (y : Block). Sees g homes' entries' store' keeps' display' y [] w' (now ∷ 0 ∷ []) inside.view)
          (sym (no_other e beside)) (inner_sees facts m c p level acting more b callee number k r scan formals x given below guard first is);
      keeps_these = keeps_inner facts m c p level acting more b callee number k r scan formals x given below guard first is;
    };
    around = λ e beside. subst (λ (y : Block). ShowsAround g y display') (sym (no_other e beside))
        (inner_shows facts m c p level acting more b callee number k r scan formals x given below guard first is);
  }

  -- ## Its cells

  abbrev old_own : Linkage
  old_own = own facts m c p level acting more

  abbrev new_own : Linkage
  new_own = record old_own { block = k }

  own_values : values_in store' now ≡ values facts m c p level acting more b callee number k r scan formals x given below guard first is
  own_values = ap (λ (z : Bool). if z then values facts m c p level acting more b callee number k r scan formals x given below guard first is
      else values_in (without c.store (old facts m c p level acting more).activation) now) (same_number now)

  is_block : IsBlockAt g (image_of facts.tree).blocks k callee its_code
  is_block = (is.can.is, is.can.number, inl is.can.there)

  new_stands : StandsFor facts homes' store' p activation entry' w' new_own inside_level
  new_stands =
      let stands = had.called.stands in
      record {
        number = refl;
        home = home';
        at = home_here acting.homes now home';
        process = refl;
        scope = refl;
        block = refl;
        word = refl;
        cells = ap (λ i. i + (callee.cells + 8)) is.below_cells;
        words = ap (λ ws. set ws block_place (pos k)) stands.words;
        mark = stands.mark;
        link = stands.link;
        under = stands.under;
        code = its_code;
        is = is_block;
        of_block = plain_block;
        last = stands.last;
        setting = record { image = inside_image; arms = (has_setting facts m c p level acting).arms; number = refl };
        laid = ap (λ (y : Block). y.layout) is.can.scopes.by_scope;
        apart = λ j t l laid holds. references_apart facts m c p level acting more b callee number k r scan formals x given below guard first is j t l laid
            (ap (λ (vs : List Value). get_or vs j (ordinal (pos 0))) (sym own_values) ∙ holds);
        guarded = λ own_guard h. is.marked ∙ ap of_resource (sym is.resource);
        accepts = λ j none. absurd (let both : false ≡ true = none in cc);
      }

  -- ## Its room

  room_is : room ≡ room_in facts k
  room_is = ap (λ (rooms : List Room). get_or rooms k no_room) acting.alike.rooms

  made_fits : HasRoomFor latest (room_in facts k)
  made_fits = subst (λ (y : Room). HasRoomFor latest y) room_is (above_fits d.communications room)

  new_fits : HasRoom facts stack'.room inside_level k latest
  new_fits = record {
    operands = fits (length stack'.operands) (length level.setting.under)
        (ap (λ (xs : List ℤ). length xs) (operands_left facts m c p level acting more b callee number k r scan formals x given below guard first is))
        s.spare (guards_room facts) acting.actor.spare;
    made = made_fits;
    branches = tt;
  }
    where
      fits : (left count : ℕ) → left ≡ count → (spare guards : ℕ) → spare ≡ guards → count + its_code.operands + guards ≤ max s.room
          (left + its_code.operands + spare)
      fits left count h spare guards j = omega (arith, h, j)

  -- ## Its callers

  same_made : had.earlier ≡ d.communications
  same_made = as_before (length (had.top ∷ (had.next ∷ had.rest))) level had.earlier d.communications is.none is.unmet had.called.made

  old_below : IsAmong (old facts m c p level acting more).activation lower' → ⊥
  old_below = not_below facts acting.homes acting.entries c.store m.stacks c.table.done acting.alike.holds p (old facts m c p level acting more) had.under
      had.below (entries_are facts m c p level acting more) (old_home facts m c p level acting more) (old_home_at facts m c p level acting more)

  old_seen : IsSeenBy facts homes' entries' store' table' p had.earlier.callers lower' had.v had.top.display had.outer
  old_seen =
      seen_still facts p acting.homes homes' acting.entries entries' c.store store' c.table table' lower'
      (at_home facts m c p level acting more b callee number k r scan formals x given below guard first is)
      (λ keeping these. like facts m c p level acting more b callee number k r scan formals x given below guard first is p lower' old_below keeping these)
      (λ i lender. lenders_stay facts m c p level acting more b callee number k r scan formals x given below guard first is p i lender)
      had.earlier.callers lower' had.v had.top.display had.outer (λ y among. among) had.called.seen

  old_callers : AreCallers facts homes' entries' store' table' p s.room had.outer had.v had.earlier callers lower'
  old_callers =
      callers_still facts p acting.homes homes' acting.entries entries' c.store store' c.table table' lower'
      (at_home facts m c p level acting more b callee number k r scan formals x given below guard first is)
      (λ keeping these. like facts m c p level acting more b callee number k r scan formals x given below guard first is p lower' old_below keeping these)
      (λ i lender. lenders_stay facts m c p level acting more b callee number k r scan formals x given below guard first is p i lender)
      s.room had.outer had.v had.earlier callers lower' (λ y among. among) had.others

  is_called : IsCalled facts homes' entries' store' table' p stack'.room (length (activation ∷ (had.next ∷ had.rest))) inside_level w' latest activation
      had.next entry' (had.under ∷ had.below) had.outer had.v latest
  is_called = record {
    own = new_own;
    stands = new_stands;
    fits = new_fits;
    made = (refl, refl, none_made);
    home = had.called.home;
    at = at_home facts m c p level acting more b callee number k r scan formals x given below guard first is had.next.number had.called.home had.called.at;
    word = had.called.word;
    caller = had.called.caller;
    trial = had.called.trial;
    seen = subst (λ (y : Communicating). IsSeenBy facts homes' entries' store' table' p y.callers lower' had.v had.top.display had.outer) same_made old_seen;
    back = had.called.back;
    accepts =
        may_meet_more (process_count facts) d.communications.room.meetings latest.room.meetings had.outer.arms
        (above_larger d.communications room).2
        (subst (λ (y : Communicating). MayMeet (process_count facts) y.room.meetings had.outer.arms) same_made had.called.accepts);
  }

  new_callers : AreCallers facts homes' entries' store' table' p stack'.room inside_level w' latest (activation ∷ (had.next ∷ had.rest)) mine'
  unfolding is_called
  new_callers = (
    had.outer,
    had.v,
    latest,
    is_called,
    within_larger facts had.outer old_own.address d.communications latest.room (above_larger d.communications room)
        (subst (λ (y : Communicating). IsWithin facts had.outer old_own.address y) same_made had.within),
    callers_larger facts homes' entries' store' table' p s.room stack'.room (omega arith) latest.room had.outer had.v d.communications callers lower'
        (above_larger d.communications room)
        (subst (λ (y : Communicating). AreCallers facts homes' entries' store' table' p s.room had.outer had.v y callers lower') same_made old_callers),
  )

  -- ## Its level

  abbrev pub h : Holders
  h = holders_in facts c

  abbrev pub machine_scan : MachineScan
  machine_scan = record { back = its_code.entry; after = None; tried = None; requeued = true }

  abbrev pub d1 : Descriptor
  d1 = record (roomier d room) { scan = Some machine_scan }

  all_hold : All (λ (y : Activation). HoldsFor h p (at c.table.rows p) y.mark) (had.top ∷ (had.next ∷ had.rest)) → All
      (λ (y : Activation). HoldsFor h p (at c.table.rows p) y.mark) (activation ∷ (had.next ∷ had.rest))
  all_hold was zero e less = was zero had.top (omega arith)
  all_hold was (suc j) e less = was (suc j) e less

  pub new_level : IsAtLevel facts homes' entries' store' stacks' table' h p (record a {
    activations =
        activation ∷ callers;
    display = display';
  }) d1 inside_level
  new_level =
      let was = acting.actor.stands in
      let there = is_stack facts m c p level acting more b callee number k r scan formals x given below guard first is in
      subst (λ (es : List Entry). IsSeenBy facts homes' entries' store' table' p d.communications.callers es w' display' inside_level
      → AreCallers facts homes' entries' store' table' p stack'.room inside_level w' latest (activation ∷ callers) es
      → IsAtLevel facts homes' entries' store' stacks' table' h p (record a { activations = activation ∷ callers; display = display' }) d1 inside_level)
      (entries_here acting.entries p mine')
      (λ seen called. subst (λ (y : Stack). IsSeenBy facts homes' entries' store' table' p d.communications.callers (entries' p) (word_of
      (record { process = p; cell = y.base })) display' inside_level
      → AreCallers facts homes' entries' store' table' p y.room inside_level (word_of (record { process = p; cell = y.base })) latest
      (activation ∷ callers) (entries' p) → inside.room ≤ y.room
      → IsAtLevel facts homes' entries' store' stacks' table' h p (record a { activations = activation ∷ callers; display = display' }) d1 inside_level) there
      (λ seen called room. record {
        count = was.count ∙ ap (λ (xs : List Activation). length xs) (activations_are facts m c p level acting more);
        seen = seen;
        callers = called;
        room = room;
        accepts = tt;
        met = record { waiting = was.met.waiting; once = was.met.once };
        holds = record {
          entered = all_hold (subst (λ (xs : List Activation). All (λ (y : Activation). HoldsFor h p (at c.table.rows p) y.mark) xs)
              (activations_are facts m c p level acting more) was.holds.entered);
          scanned = subst (λ i. holder_in c.resources i ≡ Some p) (sym is.resource) is.holder;
        };
      }) seen called fits)
      inner_seen new_callers
    where
      fits : length level.setting.under + its_code.operands ≤ stack'.room
      fits = enough (length stack'.operands) (length level.setting.under)
          (ap (λ (xs : List ℤ). length xs) (operands_left facts m c p level acting more b callee number k r scan formals x given below guard first is))
        where
          enough : (left count : ℕ) → left ≡ count → count + its_code.operands ≤ max s.room (left + its_code.operands + s.spare)
          enough left count h = omega (arith, h)

  pub goes_within : IsWithin facts inside_level its_code.entry latest
  goes_within = (
    k,
    its_code,
    is_block,
    record {
      entry = omega arith;
      before = entry_before facts k its_code is.can.is;
      rest = subst (λ (y : Room). HasRoomFor latest y) (room_from_entry facts k its_code is.can.is) made_fits;
    },
  )

  -- ## The scan

  pub scan_is : Some machine_scan ≡ Some (next_turn its_code.entry turn)
  scan_is = ap (λ (q : Option Guard). Some (record {
    back = its_code.entry;
    after = None;
    tried = None;
    requeued = is_own (way_to g its_resource callee q);
  })) (sym is.guarded)

  pub way_is : WayIs facts inside_level (activation ∷ callers) its_code.entry turn turn.way
  way_is =
      subst (λ (q : Option Guard). WayIs facts inside_level (activation ∷ callers) its_code.entry turn (way_to g its_resource callee q)) (sym is.guarded)
      (refl, is.marked ∙ ap of_resource (sym is.resource), λ j block_code there. same_entry j block_code there)
    where
      same_entry : (j : ℕ) (block_code : CodeBlock) → IsBlockAt g (image_of facts.tree).blocks j callee block_code → its_code.entry ≡ block_code.entry
      same_entry j block_code there =
          let same : Some its_code ≡ Some block_code = sym is.can.is
          ∙ ap (λ i. slice_get (image_of facts.tree).blocks i) (is.can.number ∙ sym there.1) ∙ there.0 in
          let one : its_code ≡ block_code = cc in
          ap (λ (y : CodeBlock). y.entry) one
