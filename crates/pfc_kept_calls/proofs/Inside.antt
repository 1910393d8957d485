-- An activation begins over those that a process has, by a call from inside of a module or from outside: its level, and those that were there.
use Rattle.std.proofs.Common.{◌≡◌, ◌≢◌, ℕ, zero, suc, ◌+◌, ◌≤◌, max, if◌then◌else◌, ℤ, pos, Bool, true, false, List, [], ◌∷◌, length, drop, set}
use Rattle.std.proofs.Common.{slice_get, get_or, All, Some, refl, sym, ap, ◌∙◌, subst, arith, inl}
use Rattle.std.proofs.lemmas.List.{get_or-set_same}
use Rattle.pfc_types.specs.declared.types.TypeId.{TypeId}
use Rattle.pfc_types.specs.declared.scope.Meaning.TheVariants.{Variable}
use Rattle.pfc_code.specs.declared.images.Block.{Block as CodeBlock}
use Rattle.pfc_code.specs.declared.instructions.Instr.{Instr}
use Rattle.pfc_state.specs.Stands.{Stand}
use Rattle.pfc_world.specs.Tables.{Table, at}
use Rattle.pfc_world.specs.Transitions.{ticked}
use Rattle.pfc_semantics.specs.Displays.{Display}
use Rattle.pfc_semantics.specs.Values.{Value, Location, ordinal, points}
use Rattle.pfc_semantics.specs.Store.{Store, with_room, values_in}
use Rattle.pfc_semantics.specs.Layouts.{sub_with}
use Rattle.pfc_semantics.specs.Programs.{Block, Guard, Program, block_at, layout_cells}
use Rattle.pfc_semantics.specs.Remainders.{Argument, Remainder}
use Rattle.pfc_semantics.specs.Rewriting.{going}
use Rattle.pfc_semantics.specs.Configurations.{Mark, of_resource, Caller, Activation, Activity, Config, activity_of, all_passed}
use Rattle.pfc_semantics.specs.Calls.{new_values, new_display, new_activation}
use Rattle.pfc_translation.specs.Calls.{resource_of}
use Rattle.pfc_translation.specs.Images.{image_of, end_of, site_in}
use Rattle.pfc_stacks.specs.Refs.{word_of}
use Rattle.pfc_stacks.specs.Stacks.{Stack, Stacks, no_stack, stack_of, last_activation}
use Rattle.pfc_stacks.specs.Activations.{own_words, called_own, called}
use Rattle.pfc_cells.specs.Homes.{Home, Homes}
use Rattle.pfc_cells.specs.Memory.{Entry, Entries}
use Rattle.pfc_cells.specs.Activations.{with_home, with_entries}
use Rattle.pfc_machines.specs.declared.machine.Machine.{Machine}
use Rattle.pfc_machines.specs.declared.rooms.Room.{Room}
use Rattle.pfc_machines.specs.declared.descriptors.Descriptor.{Descriptor}
use Rattle.pfc_machines.specs.Rooms.{no_room}
use Rattle.pfc_machines.specs.Communications.{Communicating, with_room_above}
use Rattle.pfc_machines.specs.Descriptors.{descriptor_of, entered, roomier}
use Rattle.pfc_standing_code.specs.Settings.{View, Setting, of_own, IsBeside, same_block, both_mains}
use Rattle.pfc_standing_images.specs.Images.{IsOfImage, IsOfBlock}
use Rattle.pfc_views.specs.Views.{own_place, Sees}
use Rattle.pfc_views.specs.Keeping.{IsLike}
use Rattle.pfc_views.proofs.Changes.{begun}
use Rattle.pfc_stack_laws.specs.Standing.{HoldStore}
use Rattle.pfc_call_laws.specs.Around.{ShowsAround, home_over}
use Rattle.pfc_call_laws.specs.Calls.{HasNoObjects}
use Rattle.pfc_representation.specs.Levels.{Facts, program_in, LivingLevel, block_of, HasSetting, DoesOn, MayKeep, IsSeenBy, IsBlockAt, number_in, is_met_by}
use Rattle.pfc_representation.specs.Rooms.{process_count, room_in, guards_room, HasRoomFor, HasRoom}
use Rattle.pfc_representation.specs.Alternatives.{none_made}
use Rattle.pfc_representation.specs.Callers.{ending_of, GoesBack, stack_mark, Linkage, IsLinkedBy, StandsFor, IsCalled, IsWithin, AreCallers}
use Rattle.pfc_representation.specs.Holding.{Holders, holders_in, HoldsFor}
use Rattle.pfc_representation.specs.Processes.{AreMet, IsAtLevel}
use Rattle.pfc_representation.specs.Keeping.{IsLender, meets}
use Rattle.pfc_representation.specs.Acting.{IsActing}
use Rattle.pfc_representation.proofs.Kept.{seen_still, callers_still}
use Rattle.pfc_kept_own_actions.proofs.Arrived.{has_setting, stack_there}
use Rattle.pfc_kept_object_actions.proofs.Step.{Objects, holders_of, IsChange}
use Rattle.pfc_kept_calls.proofs.Roomier.{may_meet_more, above_fits, above_larger, within_larger, callers_larger}
use Rattle.pfc_kept_calls.proofs.Beginnings.{entry_before, room_from_entry}
use Rattle.pfc_kept_calls.proofs.Tops.{HasTop, same_cell}
use Rattle.pfc_kept_calls.proofs.Caller.{lender_apart, same_number, entries_here, entries_there, home_here, outer, top, full_cells, is_free}

-- What is called, from where, and with what; and what is left to do in it.
pub record Beginning : Type 0 where
  pub callee : Block
  pub number : ℕ
  pub code : CodeBlock
  pub mark : Mark
  pub link : ℤ
  pub given : List Argument
  pub below : List ℤ
  pub caller : Caller
  pub last : Instr
  pub view : View
  pub body : Remainder

module _ (facts : Facts) (m : Machine) (c : Config) (p : ℕ) (level : LivingLevel) (acting : IsActing facts m c p level) (o : Objects) (b : Beginning) where
  abbrev g : Program
  g = program_in facts

  abbrev a : Activity
  a = activity_of g c p

  abbrev d : Descriptor
  d = descriptor_of m.descriptors p

  abbrev s : Stack
  s = stack_of m.stacks p

  abbrev w : ℤ
  w = word_of (last_activation m.stacks p)

  -- the table then, and who holds what
  abbrev pub table : Table
  table = ticked o.table

  abbrev pub holders : Holders
  holders = holders_of facts o

  abbrev pub n : ℕ
  n = c.table.done + 1

  abbrev pub new_entry : Entry
  new_entry = record { activation = n; own = own_words (called_own b.number b.code b.link (stack_mark b.mark) s) }

  abbrev pub home : Home
  home = home_over m.stacks p b.callee.scope

  abbrev pub homes : Homes
  homes = with_home acting.homes n home

  abbrev pub mine : List Entry
  mine = new_entry ∷ acting.entries p

  abbrev pub entries : Entries
  entries = with_entries acting.entries p mine

  abbrev pub values : List Value
  values = new_values g b.callee (all_passed g c p b.given)

  abbrev pub store : Store
  store = with_room c.store n values

  abbrev pub stack : Stack
  stack = called b.number b.code b.link (stack_mark b.mark) s

  abbrev pub stacks : Stacks
  stacks = set m.stacks p stack

  abbrev pub display : Display
  display = new_display c b.callee a.display

  abbrev pub room : Room
  room = get_or m.rooms b.number no_room

  abbrev pub latest : Communicating
  latest = with_room_above d.communications room

  abbrev pub activation : Activation
  activation = new_activation c a a.activations b.callee b.mark b.caller a.display

  abbrev pub inner : Setting
  inner = record (outer facts m c p level acting) {
    block = b.callee;
    view = b.view;
    accepts = [];
    meetings = [];
    under = b.below;
    last = b.last;
    room = length b.below + b.code.operands;
    trial = of_own;
  }

  abbrev pub inner_level : LivingLevel
  inner_level = record { setting = inner; arms = [] }

  -- What is true of the block and of the new activation, where of standings, counts and holders this becomes; no other process changes its standing.
  pub record IsBegun : Type 0 where
    pub own : level.setting.trial ≡ of_own
    pub there : slice_get g.blocks b.number ≡ Some b.callee
    pub is : slice_get (image_of facts.tree).blocks b.number ≡ Some b.code
    pub numbered : b.number ≡ number_in g b.callee
    pub by_scope : block_at g b.callee.scope ≡ b.callee
    pub objects : HasNoObjects g b.callee
    pub apart : (i : ℕ) → slice_get (g.main ∷ g.modules) i ≡ Some b.callee → ⊥
    pub left : drop b.code.params s.operands ≡ b.below
    pub references : (j : ℕ) (t : TypeId) (l : Location) → slice_get b.callee.layout j ≡ Some (Variable t true)
        → get_or values j (ordinal (pos 0)) ≡ points l → l.activation ≢ n
    pub keeps : ℕ → Bool
    pub chain : List ℕ
    pub sees : Sees g homes entries store keeps display b.callee [] (word_of (own_place home)) chain b.view
    pub shows : ShowsAround g b.callee display
    pub keeps_these : (y : ℕ) → keeps y ≡ true → MayKeep table entries p d.communications.callers mine y
    pub hold : HoldStore (outer facts m c p level acting) homes entries store stacks
    pub ends : b.last ≡ end_of (sub_with g.state.blocks.subs b.callee.scope)
    pub ending : b.last ≡ ending_of b.caller
    pub back : GoesBack facts level (s.at + 1) b.below b.mark b.caller
    pub within : IsWithin facts level (s.at + 1) d.communications
    pub counted : (block_of level).cells ≡ layout_cells g.state.forms (block_of level).layout
    pub linked : IsLinkedBy b.mark b.link
    pub guarded : (guard : Guard) → b.callee.guard ≡ Some guard → b.mark ≡ of_resource (resource_of (site_in g b.callee))
    pub does : DoesOn inner_level b.code.entry b.below (going b.callee.env b.body)
    pub holds : HoldsFor holders p (at o.table.rows p) b.mark
    pub change : IsChange facts c p o
    pub same : (q : ℕ) → q ≢ p → at o.table.rows q ≡ at c.table.rows q

  -- ## What does not change for others

  pub like : (keeps : ℕ → Bool) → IsLike g keeps acting.homes homes acting.entries entries c.store store
  like keeps = begun g keeps acting.homes acting.entries c.store p n home new_entry values (is_free facts m c p level acting)

  pub at_home : (y : ℕ) (h : Home) → acting.homes y ≡ Some h → homes y ≡ Some h
  at_home = (like (λ y. false)).at_home

  pub lenders_stay : ((q : ℕ) → q ≢ p → at o.table.rows q ≡ at c.table.rows q) → (q r : ℕ) → IsLender c.table q r
      → (at table.rows r ≡ at c.table.rows r) × (entries r ≡ acting.entries r)
  lenders_stay same q r lender =
      let apart = lender_apart c.table p q r acting.actor.ready lender in
      (same r apart, entries_there acting.entries p mine r apart)

  module _ (is : IsBegun) where
    abbrev is_top : HasTop facts acting.homes c.store p level w a.activations (acting.entries p)
    is_top = top facts m c p level acting

    -- ## What the new activation sees

    no_other : (e : Block) → IsBeside inner b.callee e → e ≡ b.callee
    no_other _ same_block = refl
    no_other _ (both_mains e one two) = absurd (is.apart one.0 one.1)

    inner_seen : IsSeenBy facts homes entries store table p d.communications.callers mine (word_of (own_place home)) display inner_level
    inner_seen = record {
      others = d.communications.callers;
      met = refl;
      sees = record {
        keeps = is.keeps;
        chain = is.chain;
        sees = λ e beside. subst (λ (x : Block). Sees g homes entries store is.keeps display x [] (word_of (own_place home)) is.chain b.view)
            (sym (no_other e beside)) is.sees;
        keeps_these = is.keeps_these;
      };
      around = λ e beside. subst (λ (x : Block). ShowsAround g x display) (sym (no_other e beside)) is.shows;
    }

    -- ## Its setting

    pub inner_image : IsOfImage facts.tree inner
    inner_image =
        let has = (has_setting facts m c p level acting).image in
        record { program = refl; code = has.code; lines = has.lines; texts = has.texts; arms = has.arms }

    inner_setting : HasSetting facts inner_level
    inner_setting = record { image = inner_image; arms = (has_setting facts m c p level acting).arms; number = refl }

    inner_block : IsOfBlock inner b.callee b.code
    inner_block = record { last = is.ends; room = omega arith }

    is_block : IsBlockAt g (image_of facts.tree).blocks b.number b.callee b.code
    is_block = (is.is, is.numbered, inl is.there)

    -- ## Its cells

    base_there : s.base ≡ is_top.stands.home.cell
    base_there = same_cell p s.base is_top.stands.home.cell (is_top.stands.word ∙ ap (λ q. word_of
        (record { process = q; cell = is_top.stands.home.cell })) is_top.stands.process)

    abbrev own_linkage : Linkage
    own_linkage = record {
      address = s.at + 1;
      block = b.number;
      mark = stack_mark b.mark;
      link = b.link;
      caller = s.base;
      under = length (drop b.code.params s.operands);
    }

    own_values : values_in store n ≡ values
    own_values = ap (λ (x : Bool). if x then values else values_in c.store n) (same_number n)

    new_stands : StandsFor facts homes store p activation new_entry (word_of (own_place home)) own_linkage inner_level
    new_stands = record {
      number = refl;
      home = home;
      at = home_here acting.homes n home;
      process = refl;
      scope = refl;
      block = refl;
      word = refl;
      cells = ap (λ i. i + (b.callee.cells + 8)) (sym (full_cells facts m c p level acting is.counted));
      words = refl;
      mark = refl;
      link = is.linked;
      under = ap (λ (xs : List ℤ). length xs) is.left;
      code = b.code;
      is = is_block;
      of_block = inner_block;
      last = is.ending;
      setting = inner_setting;
      laid = ap (λ (x : Block). x.layout) is.by_scope;
      apart = λ j t l laid holds. is.references j t l laid (ap (λ (vs : List Value). get_or vs j (ordinal (pos 0))) (sym own_values) ∙ holds);
      guarded = is.guarded;
      accepts = λ j none. absurd (let both : false ≡ true = none in cc);
    }

    -- ## Its room

    room_is : room ≡ room_in facts b.number
    room_is = ap (λ (rooms : List Room). get_or rooms b.number no_room) acting.alike.rooms

    made_fits : HasRoomFor latest (room_in facts b.number)
    made_fits = subst (λ (r : Room). HasRoomFor latest r) room_is (above_fits d.communications room)

    new_fits : HasRoom facts stack.room inner_level b.number latest
    new_fits = record {
      operands = fits (length (drop b.code.params s.operands)) (length b.below) (ap (λ (xs : List ℤ). length xs) is.left) s.spare
          (guards_room facts) acting.actor.spare;
      made = made_fits;
      branches = tt;
    }
      where
        fits : (under count : ℕ) → under ≡ count → (spare guards : ℕ) → spare ≡ guards → count + b.code.operands + guards ≤ max s.room
            (under + b.code.operands + spare)
        fits under count h spare guards k = omega (arith, h, k)

    -- ## Its callers

    old_seen : IsSeenBy facts homes entries store table p d.communications.callers (acting.entries p) w a.display level
    old_seen = seen_still facts p acting.homes homes acting.entries entries c.store store c.table table (acting.entries p) at_home
        (λ keeps these. like keeps) (λ r lender. lenders_stay is.same p r lender)
        d.communications.callers (acting.entries p) w a.display level (λ y among. among) acting.actor.stands.seen

    old_callers : AreCallers facts homes entries store table p stack.room level w latest a.activations (acting.entries p)
    old_callers =
        callers_larger facts homes entries store table p s.room stack.room (omega arith) latest.room level w d.communications a.activations
        (acting.entries p) (above_larger d.communications room)
        (callers_still facts p acting.homes homes acting.entries entries c.store store c.table table (acting.entries p) at_home
        (λ keeps these. like keeps) (λ r lender. lenders_stay is.same p r lender)
        s.room level w d.communications a.activations (acting.entries p) (λ y among. among) acting.actor.stands.callers)

    is_called : IsCalled facts homes entries store table p stack.room (length (activation ∷ is_top.top ∷ is_top.rest)) inner_level (word_of
        (own_place home)) latest activation is_top.top new_entry
        (is_top.entry ∷ is_top.below) level w latest
    is_called = record {
      own = own_linkage;
      stands = new_stands;
      fits = new_fits;
      made = (refl, refl, none_made);
      home = is_top.stands.home;
      at = at_home is_top.top.number is_top.stands.home is_top.stands.at;
      word = is_top.stands.word;
      caller = base_there;
      trial = is.own;
      seen = subst (λ (es : List Entry). IsSeenBy facts homes entries store table p d.communications.callers es w a.display level) is_top.entries old_seen;
      back = is.back;
      accepts =
          may_meet_more (process_count facts) d.communications.room.meetings latest.room.meetings level.arms
          (above_larger d.communications room).2 acting.actor.stands.accepts;
    }

    new_callers : AreCallers facts homes entries store table p stack.room inner_level (word_of (own_place home)) latest (activation ∷ a.activations) mine
    unfolding is_called
    new_callers =
        subst (λ (xs : List Activation). AreCallers facts homes entries store table p stack.room inner_level (word_of
        (own_place home)) latest (activation ∷ xs) mine) (sym is_top.activations)
        (subst (λ (es : List Entry). AreCallers facts homes entries store table p stack.room inner_level (word_of (own_place home)) latest
        (activation ∷ is_top.top ∷ is_top.rest) (new_entry ∷ es)) (sym is_top.entries) (
          level,
          w,
          latest,
          is_called,
          within_larger facts level (s.at + 1) d.communications latest.room (above_larger d.communications room) is.within,
          subst (λ (es : List Entry). AreCallers facts homes entries store table p stack.room level w latest (is_top.top ∷ is_top.rest) es) is_top.entries
              (subst (λ (xs : List Activation). AreCallers facts homes entries store table p stack.room level w latest xs
              (acting.entries p)) is_top.activations old_callers),
        ))

    -- ## Its level

    pub is_stack : stack_of stacks p ≡ stack
    is_stack = get_or-set_same m.stacks p stack no_stack (stack_there facts m c p level acting)

    was_held : All (λ (x : Activation). HoldsFor holders p (at o.table.rows p) x.mark) a.activations
    was_held =
        (is.change.holds of_own a.activations
        (record {
          entered = subst (λ (stand : Stand). All (λ (x : Activation). HoldsFor (holders_in facts c) p stand x.mark) a.activations) acting.actor.ready
              acting.actor.stands.holds.entered;
          scanned = tt;
        })).entered

    all_hold : All (λ (x : Activation). HoldsFor holders p (at o.table.rows p) x.mark) (activation ∷ a.activations)
    all_hold zero e less = is.holds
    all_hold (suc j) e less = was_held j e (omega (arith, less))

    pub new_level : IsAtLevel facts homes entries store stacks table holders p (record a { activations = activation ∷ a.activations; display = display })
        (entered (roomier d room)) inner_level
    new_level =
        let old = acting.actor.stands in
        subst (λ (es : List Entry). IsSeenBy facts homes entries store table p d.communications.callers es (word_of
        (own_place home)) display inner_level
        → AreCallers facts homes entries store table p stack.room inner_level (word_of (own_place home)) latest (activation ∷ a.activations) es
        → IsAtLevel facts homes entries store stacks table holders p (record a { activations = activation ∷ a.activations; display = display })
        (entered (roomier d room)) inner_level) (entries_here acting.entries p mine)
        (λ seen callers. subst (λ (x : Stack). IsSeenBy facts homes entries store table p d.communications.callers (entries p) (word_of
        (record { process = p; cell = x.base })) display inner_level
        → AreCallers facts homes entries store table p x.room inner_level (word_of (record { process = p; cell = x.base })) latest
        (activation ∷ a.activations) (entries p) → inner.room ≤ x.room
        → IsAtLevel facts homes entries store stacks table holders p (record a { activations = activation ∷ a.activations; display = display })
        (entered (roomier d room)) inner_level) is_stack
        (λ seen callers room. record {
          count = ap (λ i. i + 1) old.count ∙ counted (length a.activations);
          seen = seen;
          callers = callers;
          room = room;
          accepts = tt;
          met = met_still;
          holds = record { entered = all_hold; scanned = tt };
        }) seen callers fits)
        inner_seen new_callers
      where
        counted : (i : ℕ) → i + 1 ≡ suc i
        counted i = grind arith

        met_still : AreMet table p d.communications.callers
        met_still = record {
          waiting = λ k e below. subst (λ (x : Stand). is_met_by x p) (sym (lenders_stay is.same p (get_or d.communications.callers k e)
              (meets p (get_or d.communications.callers k e) (acting.actor.stands.met.waiting k e below))).0)
              (acting.actor.stands.met.waiting k e below);
          once = acting.actor.stands.met.once;
        }

        fits : length b.below + b.code.operands ≤ stack.room
        fits = enough (length (drop b.code.params s.operands)) (length b.below) (ap (λ (xs : List ℤ). length xs) is.left)
          where
            enough : (under count : ℕ) → under ≡ count → count + b.code.operands ≤ max s.room (under + b.code.operands + s.spare)
            enough under count h = omega (arith, h)

    pub goes_within : IsWithin facts inner_level b.code.entry latest
    goes_within = (
      b.number,
      b.code,
      is_block,
      record {
        entry = omega arith;
        before = entry_before facts b.number b.code is.is;
        rest = subst (λ (r : Room). HasRoomFor latest r) (room_from_entry facts b.number b.code is.is) made_fits;
      },
    )
