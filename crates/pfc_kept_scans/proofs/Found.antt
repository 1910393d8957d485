-- A turn has found a barred process: its guard stands before the turn, in the code of its procedure, and what it sees is seen.
use Rattle.std.proofs.Common.{◌≡◌, ◌≢◌, ℕ, ◌+◌, ◌^◌, ◌<◌, ◌≤◌, ℤ, true, false, List, [], ◌∷◌, length, slice_get, Option, Some, sym, ap, ◌∙◌}
use Rattle.std.proofs.Common.{subst, arith}
use Rattle.pfc_code.specs.declared.images.Block.{Block as CodeBlock}
use Rattle.pfc_types.specs.declared.types.TypeId.{TypeId}
use Rattle.pfc_types.specs.rules.Expressions.{Env}
use Rattle.pfc_state.specs.Stands.{Is_idle, Is_ready, Waits, is_unfinished}
use Rattle.pfc_state.specs.declared.waits.Arm.{Arm as WaitArm}
use Rattle.pfc_state.specs.declared.waits.Why.TheVariants.{Barred}
use Rattle.pfc_world.specs.Tables.{Table, at}
use Rattle.pfc_semantics.specs.Displays.{Spot}
use Rattle.pfc_semantics.specs.Programs.{Guard, Block, Program, block_number}
use Rattle.pfc_semantics.specs.Remainders.{Bar, Scan, Tried}
use Rattle.pfc_semantics.specs.Resources.{bar_of}
use Rattle.pfc_semantics.specs.Configurations.{barred_at, Activation, Activity, Config, activity_of}
use Rattle.pfc_translation.specs.Sites.{Site, type_cells}
use Rattle.pfc_translation.specs.Calls.{resource_of}
use Rattle.pfc_translation.specs.Images.{image_of, site_in, guard_code}
use Rattle.pfc_stacks.specs.Refs.{word_of}
use Rattle.pfc_stacks.specs.Stacks.{Stacks, stack_of, last_activation}
use Rattle.pfc_machines.specs.declared.machine.Machine.{Machine}
use Rattle.pfc_machines.specs.declared.descriptors.Descriptor.{Descriptor}
use Rattle.pfc_machines.specs.Descriptors.{descriptor_of}
use Rattle.pfc_standing_code.specs.Shapes.{is_object_type}
use Rattle.pfc_standing_code.specs.Settings.{View, Sight, Trial, Setting, IsMains, IsBeside, same_block, both_mains}
use Rattle.pfc_standing_code.specs.Typed.{IsDeclaredAt}
use Rattle.pfc_standing_code.specs.Words.{AreKnown, first_word, IsWordAt, IsInView, IsChecked}
use Rattle.pfc_standing_code.specs.Performs.{GuardAt, IsOwnBar, own_view, own_accepts, own_block}
use Rattle.pfc_standing_images.specs.Images.{IsOfImage, BlockStands}
use Rattle.pfc_standing_images.specs.Bodies.{IsGuardReady}
use Rattle.pfc_standing_images.proofs.Wholes.{block_stands}
use Rattle.pfc_standing_images.proofs.Bodies.{guard_there}
use Rattle.pfc_standing_images.proofs.Guards.{turn_there}
use Rattle.pfc_typed_programs.specs.Bodies.{IsSeen}
use Rattle.pfc_typed_programs.proofs.Bodies.{guard_ready}
use Rattle.pfc_call_laws.specs.Around.{ShowsAround}
use Rattle.pfc_following_source.specs.Behind.{in_trial}
use Rattle.pfc_representation.specs.Levels.{Facts, program_in, LivingLevel, block_of, room_of, IsBlockAt, SeesWith, SeesThrough}
use Rattle.pfc_representation.specs.Rooms.{guards_room}
use Rattle.pfc_representation.specs.Holding.{holders_in}
use Rattle.pfc_representation.specs.Processes.{IsUnderWay, ActivationsAre, RepresentsProcess}
use Rattle.pfc_representation.specs.Keeping.{IsSameStack, IsLender}
use Rattle.pfc_representation.specs.Acting.{IsActing}
use Rattle.pfc_kept_own_actions.proofs.Arrived.{first_seen, has_setting}
use Rattle.pfc_kept_object_actions.proofs.Change.{within_rows}
use Rattle.pfc_kept_object_actions.proofs.Rows.{with_anew}
use Rattle.pfc_kept_scans.specs.Groups.{IsOfItsBlock}
use Rattle.pfc_kept_scans.proofs.LetOn.{ShowsGuard, shows_guard}
use Rattle.pfc_kept_scans.proofs.Tops.{HasTop, top_of}
use Rattle.pfc_kept_scans.proofs.Procedures.{one_number, guarded_there, guard_fits, body_apart}

module _ (facts : Facts) (m : Machine) (c : Config) (p : ℕ) (level : LivingLevel) (acting : IsActing facts m c p level) (q r k t : ℕ) (arms : List WaitArm)
    (row : at c.table.rows q ≡ Waits (Barred r k) t arms) where
  abbrev g : Setting
  g = level.setting

  abbrev a : Activity
  a = activity_of (program_in facts) c q

  abbrev d : Descriptor
  d = descriptor_of m.descriptors q

  abbrev w : ℤ
  w = word_of (last_activation m.stacks q)

  pub apart : q ≢ p
  apart same =
      let ready : at c.table.rows q ≡ Is_ready = ap (λ n. at c.table.rows n) same ∙ acting.actor.ready in
      (let no : Waits (Barred r k) t arms ≡ Is_ready = sym row ∙ ready in cc)

  not_idle : at c.table.rows q ≡ Is_idle → ⊥
  not_idle idle = (let no : Waits (Barred r k) t arms ≡ Is_idle = sym row ∙ idle in cc)

  pub within : q < length c.activities
  within = subst (λ n. q < n) acting.alike.words.rows (within_rows c.table.rows q not_idle)

  process : RepresentsProcess facts acting.homes acting.entries c.store m.stacks c.table (holders_in facts c) q a d
  process = acting.others q within apart

  by_activations : (xs : List Activation) → ActivationsAre xs facts acting.homes acting.entries c.store m.stacks c.table (holders_in facts c) q a d
      → IsUnderWay facts acting.homes acting.entries c.store m.stacks c.table (holders_in facts c) q a d
  by_activations [] is = absurd (let no : true ≡ false = ap is_unfinished (sym row) ∙ is.finished in cc)
  by_activations (x ∷ xs) is = is

  pub its : IsUnderWay facts acting.homes acting.entries c.store m.stacks c.table (holders_in facts c) q a d
  its = by_activations a.activations process.activations

  abbrev pub theirs : LivingLevel
  theirs = its.level

  abbrev pub b : Block
  b = theirs.setting.block

  pub guard : ShowsGuard facts acting.homes acting.entries c.table q d theirs (stack_of m.stacks q).at (stack_of m.stacks q).operands (at c.table.rows q)
      a.doing
      a.hand r k t arms
  guard =
      shows_guard facts acting.homes acting.entries c.table q d theirs (stack_of m.stacks q).at (stack_of m.stacks q).operands (at c.table.rows q) a.doing
      a.hand r k t arms its.hand row

  abbrev pub bar : Bar
  bar = guard.bar

  pub hand_is : a.hand ≡ barred_at bar
  hand_is = guard.hand_is

  pub resource_is : bar.resource ≡ r
  resource_is = guard.resource

  pub top : HasTop facts acting.homes c.store q (stack_of m.stacks q).room theirs w a.activations (acting.entries q)
  top =
      top_of facts acting.homes acting.entries c.store c.table q (stack_of m.stacks q).room theirs w d.communications a.activations (acting.entries q)
      its.stands.callers

  abbrev pub code : CodeBlock
  code = top.stands.code

  abbrev number : ℕ
  number = top.own.block

  -- ## Its procedure

  its_block : block_of theirs ≡ b
  its_block = ap (λ (y : Trial). own_block y b) guard.shown.own

  its_guard : IsOwnBar theirs.setting b bar
  its_guard = guard.shown.guard

  abbrev test : Guard
  test = its_guard.0

  same_programs : theirs.setting.program ≡ g.program
  same_programs = top.stands.setting.image.program ∙ sym (has_setting facts m c p level acting).image.program

  same_numbers : theirs.setting.number ≡ g.number
  same_numbers = top.stands.setting.number ∙ sym (has_setting facts m c p level acting).number

  block_there : slice_get (program_in facts).blocks number ≡ Some b
  block_there =
      guarded_there facts.tree (image_of facts.tree).blocks number b code test
      (subst (λ (y : Block). IsBlockAt (program_in facts) (image_of facts.tree).blocks number y code) its_block top.stands.is) its_guard.1

  number_is : number ≡ bar.procedure
  number_is =
      one_number (program_in facts) b number block_there
      (subst (λ (y : Block). IsBlockAt (program_in facts) (image_of facts.tree).blocks number y code) its_block top.stands.is).1
      ∙ ap (λ (y : Program). block_number y b.scope) (sym top.stands.setting.image.program) ∙ ap (λ (y : Bar). y.procedure) (sym its_guard.2)

  pub procedure_there : slice_get (program_in facts).blocks bar.procedure ≡ Some b
  procedure_there = ap (λ n. slice_get (program_in facts).blocks n) (sym number_is) ∙ block_there

  pub code_there : slice_get (image_of facts.tree).blocks k ≡ Some code
  code_there = ap (λ n. slice_get (image_of facts.tree).blocks n) (sym guard.procedure ∙ sym number_is) ∙ top.stands.is.0

  pub plainly : at c.table.rows q ≡ Waits (Barred r bar.procedure) t []
  plainly = row ∙ ap (λ n. Waits (Barred r n) t arms) (sym guard.procedure) ∙ ap (λ (ws : List WaitArm). Waits (Barred r bar.procedure) t ws) guard.none

  -- ## In its trial

  module _ (scan : Scan) (here : ℕ) where
    abbrev pub sight : Sight
    sight = record { view = theirs.setting.view; accepts = theirs.setting.accepts }

    abbrev pub whom : Tried
    whom = record { process = q; ticket = t; bar = bar }

    abbrev pub room : ℕ
    room = room_of level + guards_room facts

    abbrev pub later : Setting
    later = in_trial g b whom scan here sight room

    later_image : IsOfImage facts.tree later
    later_image =
        let is = (has_setting facts m c p level acting).image in
        record { program = is.program; code = is.code; lines = is.lines; texts = is.texts; arms = is.arms }

    later_there : slice_get later.program.blocks number ≡ Some b
    later_there = ap (λ (y : Program). slice_get y.blocks number) later_image.program ∙ block_there

    abbrev names_in : Program → Env → Site
    names_in y env = record { program = y; block = b; env = env; line = 0 }

    names : IsChecked theirs.setting b bar.context.env
    names = guard.shown.names

    its_names : bar.context.env ≡ test.env
    its_names = ap (λ (y : Bar). y.context.env) its_guard.2

    seen_so : IsSeen later b bar.context.env
    seen_so =
        let env : Env = bar.context.env in
        let view : View = theirs.setting.view in
        record {
          known = subst (λ (y : Program). AreKnown y b theirs.setting.accepts env) same_programs names.known;
          seen = subst (λ (y : Program). (v : Spot) (u : Option TypeId) → IsDeclaredAt (names_in y env) v u → IsInView view (names_in y env) v)
              same_programs names.seen;
          placed = subst (λ (y : Program). (v : Spot) (u : Option TypeId) → IsDeclaredAt (names_in y env) v u
              → first_word view (names_in y env) v + type_cells y.state.forms u < 2 ^ 42) same_programs names.placed;
          objects = subst (λ (f : ℤ → Option ℤ). (v : Spot) (u : Option TypeId) (i : ℤ) → IsWordAt view (names_in g.program env) v u i
              → is_object_type g.program.state.forms u ≡ true → (n : ℤ) × (f i ≡ Some n)) same_numbers
              (subst (λ (y : Program). (v : Spot) (u : Option TypeId) (i : ℤ) → IsWordAt view (names_in y env) v u i
              → is_object_type y.state.forms u ≡ true → (n : ℤ) × (theirs.setting.number i ≡ Some n)) same_programs names.objects);
          beside = same_block;
        }

    seen_later : IsSeen later b test.env
    seen_later = subst (λ (env : Env). IsSeen later b env) its_names seen_so

    stands_later : BlockStands later b code
    stands_later = block_stands facts.tree later later_image number b code later_there top.stands.is.0

    ready : IsGuardReady later b test
    ready =
        guard_ready facts.tree acting.alike.program.lawful acting.alike.program.unbroken later number b test later_image block_there its_guard.1 seen_later

    guarded : (guard_code later.program b b.guard).size ≡ (guard_code later.program b (Some test)).size
    guarded = ap (λ (o : Option Guard). (guard_code later.program b o).size) its_guard.1

    fits : code.operands ≤ guards_room facts
    fits =
        guard_fits (image_of facts.tree).blocks number code top.stands.is.0
        (body_apart code _ (stands_later.behind_guard ∙ ap (λ n. code.entry + n) guarded))

    module _ (own : IsOfItsBlock (program_in facts) bar) (within_room : r ≡ scan.resource) (turn : slice_get (image_of facts.tree).scans r ≡ Some here)
        (held : ℕ) (few : held ≤ room_of level) where
      own_resource : bar.resource ≡ resource_of (site_in later.program b)
      own_resource = own b procedure_there ∙ ap (λ (y : Program). resource_of (site_in y b)) (sym later_image.program)

      bar_is : bar_of later.program (resource_of (site_in later.program b)) b test ≡ bar
      bar_is =
          ap (λ n. bar_of later.program n b test) (sym own_resource) ∙ ap (λ (y : Program). bar_of y bar.resource b test) (sym same_programs)
          ∙ sym its_guard.2

      before_turn : code.body ≤ here
      before_turn =
          let found = turn_there facts.tree later number b test acting.alike.program.lawful later_image later_there its_guard.1 in
          let listed : Some found.0 ≡ Some here =
          sym found.1 ∙ ap (λ n. slice_get (image_of facts.tree).scans n) (sym own_resource ∙ resource_is) ∙ turn in
          subst (λ n. code.body ≤ n) (let same : found.0 ≡ here = cc in same) (found.2 code top.stands.is.0)

      pub guard_at : GuardAt later b bar code.entry held (λ end. end ≤ here)
      guard_at =
          subst (λ (y : Bar). GuardAt later b y code.entry held (λ end. end ≤ here)) bar_is
          (guard_there later b code stands_later held test (λ end. end ≤ here) its_guard.1 (both held code.operands few fits) ready before_turn)
        where
          both : (n j : ℕ) → n ≤ room_of level → j ≤ guards_room facts → n + j ≤ room_of level + guards_room facts
          both n j one two = grind (arith, one, two)

    -- ### What it sees

    beside_later : (x : Block) → IsBeside later b x → IsBeside theirs.setting b x
    beside_later x beside = by_place beside
      where
        mains : {y : Block} → IsMains later y → IsMains theirs.setting y
        mains {y} (i, is) = (i, ap (λ (z : Program). slice_get (z.main ∷ z.modules) i) same_programs ∙ is)

        by_place : {y : Block} → IsBeside later b y → IsBeside theirs.setting b y
        by_place same_block = same_block
        by_place (both_mains y one two) = both_mains y (mains one) (mains two)

    its_sight : (lenders : List ℕ) × SeesWith facts acting.homes acting.entries c.store c.table q lenders (acting.entries q) w a.display theirs.setting b
        theirs.setting.accepts theirs.setting.view
    its_sight =
        let seen = its.stands.seen in
        let s : Setting = theirs.setting in
        first_seen facts acting.homes acting.entries c.store c.table q (acting.entries q) w a.display s b s.view seen.others s.accepts s.meetings
        (subst (λ (y : Trial). SeesThrough facts acting.homes acting.entries c.store c.table q (acting.entries q) w a.display s (own_block y b)
        (own_view y s.view) seen.others (own_accepts y s.accepts) s.meetings) guard.shown.own seen.sees)

    pub sees_later : (lenders : List ℕ) × SeesWith facts acting.homes acting.entries c.store c.table q lenders (acting.entries q) w a.display later b
        theirs.setting.accepts theirs.setting.view
    sees_later =
        let is = its_sight.1 in (
          its_sight.0,
          record { keeps = is.keeps; chain = is.chain; sees = λ x beside. is.sees x (beside_later x beside); keeps_these = is.keeps_these },
        )

    -- so it does while others change
    pub sees_in : (stacks : Stacks) (table : Table) → IsSameStack (stack_of m.stacks q) (stack_of stacks q)
        → ((i : ℕ) → IsLender c.table q i → at table.rows i ≡ at c.table.rows i)
        → SeesWith facts acting.homes acting.entries c.store table q sees_later.0 (acting.entries q) (word_of (last_activation stacks q)) a.display later b
        theirs.setting.accepts theirs.setting.view
    sees_in stacks table same lenders =
        subst (λ (i : ℤ). SeesWith facts acting.homes acting.entries c.store table q sees_later.0 (acting.entries q) i a.display later b
        theirs.setting.accepts theirs.setting.view)
        (ap (λ n. word_of (record { process = q; cell = n })) (sym same.base))
        (with_anew facts acting.homes acting.entries c.store m.stacks c.table table q lenders sees_later.0 (acting.entries q) w a.display later b
        theirs.setting.accepts theirs.setting.view sees_later.1)

  pub shows_around : ShowsAround (program_in facts) b a.display
  shows_around = subst (λ (y : Block). ShowsAround (program_in facts) y a.display) its_block (its.stands.seen.around (block_of theirs) same_block)
