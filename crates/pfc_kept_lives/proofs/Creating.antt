-- The creation of a process.
use Rattle.std.proofs.Common.{◌≡◌, ℕ, suc, ◌+◌, ◌-◌, ◌<◌, ◌≤◌, ℤ, pos, Bool, true, false, if◌then◌else◌, List, [], ◌∷◌, length, drop, slice_get, get_or, Option}
use Rattle.std.proofs.Common.{Some, Ok, Err, refl, sym, ap, ap₂, ◌∙◌, subst, arith, append-nil, length-drop, inl}
use Rattle.std.specs.Prelude.{nat_le}
use Rattle.std.proofs.lemmas.List.{drop-drop, get_or-drop}
use Rattle.std.proofs.lemmas.Option.{slice_get_within}
use Rattle.pfc_base.specs.declared.faults.RunFault.TheVariants.{Active, Stack as Full}
use Rattle.pfc_code.specs.declared.images.Block.{Block as CodeBlock}
use Rattle.pfc_code.specs.declared.instructions.Instr.TheVariants.{NEW}
use Rattle.pfc_types.specs.Blocks.{process_at}
use Rattle.pfc_types.specs.declared.heads.Formal.{Formal}
use Rattle.pfc_types.specs.declared.heads.ProcessHead.{ProcessHead}
use Rattle.pfc_types.specs.declared.types.TypeId.{TypeId}
use Rattle.pfc_state.specs.Stands.{Stand, is_unfinished}
use Rattle.pfc_world.specs.Tables.{Table, at}
use Rattle.pfc_semantics.specs.Displays.{Spot}
use Rattle.pfc_semantics.specs.Layouts.{Layout}
use Rattle.pfc_semantics.specs.Programs.{Block, Program, block_at, block_number, layout_cells}
use Rattle.pfc_semantics.specs.Processes.{process_block, created, creates}
use Rattle.pfc_semantics.specs.Remainders.{Context, Argument, Remainder, calls, to_process}
use Rattle.pfc_semantics.specs.Rewriting.{going}
use Rattle.pfc_semantics.specs.Calls.{cells_above, most_cells, unless_full}
use Rattle.pfc_semantics.specs.Configurations.{Config, Effect, goes_on, all_passed, declared_block}
use Rattle.pfc_translation.specs.Sites.{Site}
use Rattle.pfc_translation.specs.Objects.{objects_of}
use Rattle.pfc_translation.specs.Images.{image_of}
use Rattle.pfc_stacks.specs.Refs.{number_of}
use Rattle.pfc_stacks.specs.Stacks.{stack_of, operands_of}
use Rattle.pfc_stacks.specs.Activations.{has_place, size_of, params_of}
use Rattle.pfc_machines.specs.declared.machine.Machine.{Machine}
use Rattle.pfc_machines.specs.Actions.{at_rest, Effect as MachineEffect}
use Rattle.pfc_machines.specs.Descriptors.{descriptor_of}
use Rattle.pfc_machine_acts.specs.Performing.{silent, with_block}
use Rattle.pfc_machine_acts.specs.Conditions.{CanCreate}
use Rattle.pfc_own_actions.specs.Creating.{creation, created_by, IsProcess, creates as machine_creates}
use Rattle.pfc_standing_code.specs.Settings.{of_own, site_of, IsBeside, IsAt}
use Rattle.pfc_standing_code.specs.Effects.{Arm}
use Rattle.pfc_standing_code.specs.TypedStatements.{IsProcessType}
use Rattle.pfc_standing_code.specs.Words.{AreHeld, AreKnown, IsWord, IsObject, IsChecked}
use Rattle.pfc_standing_code.specs.Performs.{Performs}
use Rattle.pfc_standing_code.proofs.Checked.{checked_for}
use Rattle.pfc_standing_images.specs.Images.{IsOfImage}
use Rattle.pfc_standing_images.proofs.Wholes.{block_stands}
use Rattle.pfc_object_laws.specs.Objects.{number_at}
use Rattle.pfc_call_laws.proofs.Layouts.{layout_joined}
use Rattle.pfc_call_laws.proofs.Passing.{left}
use Rattle.pfc_representation.specs.Levels.{Facts, program_in, LivingLevel, DoesOn}
use Rattle.pfc_representation.specs.Rooms.{own_address}
use Rattle.pfc_representation.specs.Callers.{IsWithin}
use Rattle.pfc_representation.specs.Machines.{goes_on as both_go_on}
use Rattle.pfc_representation.specs.Acting.{IsActing}
use Rattle.pfc_representation.specs.Actions.{ComeToSame, IsKept, AreKept}
use Rattle.pfc_kept_own_actions.proofs.Alone.{refuse, can_go}
use Rattle.pfc_kept_own_actions.proofs.Arrived.{has_setting, stack_there, code_there, code_line, acts_now, next_within}
use Rattle.pfc_kept_calls.proofs.Caller.{w, outer, hold, hand}
use Rattle.pfc_kept_calls.proofs.Sizes.{first_values}
use Rattle.pfc_kept_lives.specs.Creatable.{AreCreatable}
use Rattle.pfc_kept_lives.proofs.Callees.{IsProcessBlock, is_process_block}
use Rattle.pfc_kept_lives.proofs.Singles.{SinglesAreNumbered, singles_numbered}
use Rattle.pfc_kept_lives.specs.Groups.{MayCreate, CreatesProcess}
use Rattle.pfc_kept_lives.proofs.Makers.{IsMaker, is_maker}
use Rattle.pfc_kept_lives.proofs.Numbers.{IsProcessNumber, process_number}
use Rattle.pfc_kept_lives.proofs.Created.{represents_created}

-- ## What is created, and with what

module _ (facts : Facts) (m : Machine) (c : Config) (p : ℕ) (level : LivingLevel) (acting : IsActing facts m c p level) (own : level.setting.trial ≡ of_own)
    (b : Block) (beside : IsBeside level.setting level.setting.block b) (x : Context) (known : AreKnown (program_in facts) b level.setting.accepts x.env)
    (v : Spot) (i : ℤ) (given : List Argument) (below : List ℤ) (declaration : ℕ) (k : ℕ) (callee : Block) (formals : List Formal)
    (can : IsProcessBlock facts.tree callee k formals) (is_callee : callee ≡ declared_block (program_in facts) declaration)
    (held : AreHeld level.setting.view (site_of (outer facts m c p level acting) b x) formals given (stack_of m.stacks p).operands (i ∷ below))
    (maker : IsMaker facts m c p level acting own) (its : IsProcessNumber facts m c p level acting own b beside x known v i declaration) where
  abbrev q : Program
  q = program_in facts

  abbrev code : CodeBlock
  code = can.code

  abbrev ops : List ℤ
  ops = (stack_of m.stacks p).operands

  is_left : drop code.params ops ≡ i ∷ below
  is_left = left (outer facts m c p level acting) acting.homes acting.entries c m.stacks b (w facts m c p level acting)
      (hand facts m c p level acting own b beside) p x (hold facts m c p level acting) refl known (first_values facts m c p level acting) callee code formals
      can.takes given ops (i ∷ below) held

  -- the number lies below the arguments
  created_is : created_by m p code ≡ its.n
  created_is =
      ap number_of
      (ap (λ j. get_or ops j (pos 0)) (none code.params) ∙ sym (get_or-drop code.params ops 0 (pos 0)) ∙ ap (λ (l : List ℤ). get_or l 0 (pos 0)) is_left)
      ∙ its.word
    where
      none : (j : ℕ) → j ≡ j + 0
      none j = grind arith

  pub popped : drop (code.params + 1) ops ≡ below
  popped = sym (drop-drop 1 code.params ops) ∙ ap (λ (l : List ℤ). drop 1 l) is_left

  pub size : 1 + code.params ≤ length ops
  size =
      let some : length ops - code.params ≡ suc (length below) = sym (length-drop code.params ops) ∙ ap (λ (l : List ℤ). length l) is_left in
      omega (arith, some)

  pub shorter : length below ≤ length ops
  shorter =
      let some : length ops - code.params ≡ suc (length below) = sym (length-drop code.params ops) ∙ ap (λ (l : List ℤ). length l) is_left in
      omega (arith, some)

  params_within : code.params ≤ code.cells
  params_within =
      let whole : code.cells ≡ layout_cells q.state.forms can.takes.parameters + layout_cells q.state.forms can.takes.others =
      can.takes.cells ∙ ap (λ (xs : Layout). layout_cells q.state.forms xs) can.takes.layout ∙ layout_joined q can.takes.parameters can.takes.others in
      let some = can.takes.params in
      omega (arith, whole, some)

  outer_image : IsOfImage facts.tree (outer facts m c p level acting)
  outer_image =
      let has = (has_setting facts m c p level acting).image in
      record { program = refl; code = has.code; lines = has.lines; texts = has.texts; arms = has.arms }

  -- both sides have the same limit
  same_limit : nat_le (cells_above [] callee) (most_cells its.n) ≡ has_place its.n 0 code
  same_limit =
      ap (λ j. nat_le j (most_cells its.n))
      (summed callee.cells (sym (block_stands facts.tree (outer facts m c p level acting) outer_image k callee code can.there can.is).cells) params_within)
    where
      summed : (j : ℕ) → j ≡ code.cells → code.params ≤ code.cells → 0 + (j + 8) ≡ 0 + size_of code
      summed j is less = omega (arith, is, less)

  -- ## Both sides

  module _ (r : Remainder) (does : DoesOn level ((stack_of m.stacks p).at + 1) (drop (code.params + 1) ops) (going x.env r))
      (within : IsWithin facts level (own_address level.setting.trial ((stack_of m.stacks p).at + 1)) (descriptor_of m.descriptors p).communications)
      (line : ℕ) where
    abbrev machine_way : ℕ → List Stand → MachineEffect
    machine_way j rows =
        if is_unfinished (at rows j) then Err Active else (if has_place j 0 code then Ok (at_rest (creation k code p j m)) else Err Full)

    abbrev source_way : ℕ → Block → Effect
    source_way j z =
        if is_unfinished (at c.table.rows j)
        then Err Active
        else unless_full j (cells_above [] z) (goes_on q (created q c j z (all_passed q c p given)) p x r)

    by_place : (u : Bool) → has_place its.n 0 code ≡ u → is_unfinished (at c.table.rows its.n) ≡ false
        → ComeToSame facts m c p line (silent (if u then Ok (at_rest (creation k code p its.n m)) else Err Full))
        (if u then Ok (goes_on q (created q c its.n callee (all_passed q c p given)) p x r) else Err Full)
    by_place false place over = refuse facts m c p level acting line Full
    by_place true place over = (
      both_go_on (represents_created facts m c p level acting its.n k callee formals x given (i ∷ below)
          (record {
            own = own;
            maker = maker;
            block = b;
            beside = beside;
            known = known;
            can = can;
            held = held;
            process = is_callee ∙ ap (λ j. declared_block q j) (sym its.declared);
            some = its.some;
            there = its.there;
            over = over;
            place = place;
          }) r does within line),
      sym (append-nil c.output),
    )

    by_standing : (u : Bool) → is_unfinished (at c.table.rows its.n) ≡ u
        → ComeToSame facts m c p line
        (silent (if u then Err Active else (if has_place its.n 0 code then Ok (at_rest (creation k code p its.n m)) else Err Full)))
        (if u then Err Active else unless_full its.n (cells_above [] callee) (goes_on q (created q c its.n callee (all_passed q c p given)) p x r))
    by_standing true is = refuse facts m c p level acting line Active
    by_standing false is =
        subst (λ (u : Bool). ComeToSame facts m c p line (silent (if has_place its.n 0 code then Ok (at_rest (creation k code p its.n m)) else Err Full))
        (if u then Ok (goes_on q (created q c its.n callee (all_passed q c p given)) p x r) else Err Full)) (sym same_limit)
        (by_place (has_place its.n 0 code) refl is)

    pub come_to_same : ComeToSame facts m c p line
        (silent (with_block (slice_get (image_of facts.tree).blocks k) m (λ (z : CodeBlock). machine_creates k z p m))) (creates q c p x v given r)
    come_to_same =
        subst (λ (o : Option CodeBlock). ComeToSame facts m c p line (silent (with_block o m (λ (z : CodeBlock). machine_creates k z p m)))
        (creates q c p x v given r)) (sym can.is)
        (subst (λ (e : MachineEffect). ComeToSame facts m c p line (silent e) (creates q c p x v given r))
        (sym (ap₂ machine_way created_is (ap (λ (y : Table). y.rows) acting.world)))
        (subst (λ (e : Effect). ComeToSame facts m c p line (silent (machine_way its.n c.table.rows)) e)
        (sym (ap (λ j. source_way j (process_block q j)) its.spot
        ∙ ap (λ (z : Block). source_way its.n z) (ap (λ j. declared_block q j) its.declared ∙ sym is_callee)))
        (by_standing (is_unfinished (at c.table.rows its.n)) refl)))

  -- ## When it may be performed

  known_there : IsProcess m its.n
  known_there = record {
    row = subst (λ (y : Table). its.n < length y.rows) (sym acting.world) (subst (λ j. its.n < j) (sym acting.alike.words.rows) its.there);
    stack = subst (λ j. its.n < j) (sym acting.alike.words.stacks) its.there;
    descriptor = subst (λ j. its.n < j) (sym acting.alike.words.descriptors) its.there;
  }

  pub can_create : CanCreate (image_of facts.tree).blocks k p m
  can_create = record {
    block = slice_get_within (image_of facts.tree).blocks k code can.is;
    arguments = subst (λ (o : Option CodeBlock). params_of o + 1 ≤ length ops) (sym can.is) (turned code.params size);
    process = λ z there. (let one : code ≡ z = (let both : Some code ≡ Some z = sym can.is ∙ there in cc) in
        subst (λ (y : CodeBlock). IsProcess m (created_by m p y)) one (subst (λ j. IsProcess m j) (sym created_is) known_there));
  }
    where
      turned : (j : ℕ) → 1 + j ≤ length ops → j + 1 ≤ length ops
      turned j h = omega (arith, h)

  pub reads : 1 + params_of (slice_get (image_of facts.tree).blocks k) ≤ length ops
  reads = subst (λ (o : Option CodeBlock). 1 + params_of o ≤ length ops) (sym can.is) size

-- ## The law

module _ (facts : Facts) (m : Machine) (c : Config) (p choice : ℕ) (level : LivingLevel) (acting : IsActing facts m c p level) (x : Context) (v : Spot)
    (r : Remainder)
    (given : List Argument) (b : Block) (checked : IsChecked level.setting b x.env) (own : level.setting.trial ≡ of_own) (may : MayCreate level)
    (formals : List Formal) (t : Option TypeId) (n : ℕ) (i : ℤ) (below : List ℤ)
    (held : AreHeld level.setting.view (site_of level.setting b x) formals given (operands_of m.stacks p) (i ∷ below))
    (process : IsProcessType (site_of level.setting b x) n v t) (among : n < length level.setting.program.state.blocks.processes)
    (formals_are : formals ≡ (process_at level.setting.program.state.blocks n).formals)
    (object : IsObject level.setting (site_of level.setting b x) v t i)
    (there : IsAt level.setting (stack_of m.stacks p).at
    (NEW (block_number level.setting.program (process_at level.setting.program.state.blocks n).scope)) x.line)
    (goes : IsWithin facts level (own_address level.setting.trial (stack_of m.stacks p).at) (descriptor_of m.descriptors p).communications) where
  abbrev g0 : Program
  g0 = program_in facts

  same : level.setting.program ≡ g0
  same = (has_setting facts m c p level acting).image.program

  abbrev head : ProcessHead
  head = process_at g0.state.blocks n

  abbrev number : ℕ
  number = block_number g0 head.scope

  all_can : AreCreatable facts.tree
  all_can = may.creatable facts.tree same acting.alike.program

  singles : SinglesAreNumbered facts.tree facts.number
  singles =
      subst (λ (f : ℤ → Option ℤ). SinglesAreNumbered facts.tree f)
      (sym (may.objects ∙ ap (λ (z : Program). number_at (objects_of z)) same) ∙ (has_setting facts m c p level acting).number)
      (singles_numbered facts.tree acting.alike.program.lawful)

  among_all : n < length g0.state.blocks.processes
  among_all = subst (λ (z : Program). n < length z.state.blocks.processes) same among

  can : IsProcessBlock facts.tree (block_at g0 head.scope) number head.formals
  can = is_process_block facts.tree acting.alike.program.lawful acting.alike.program.unbroken n among_all (all_can n among_all)

  known : AreKnown g0 b level.setting.accepts x.env
  known = subst (λ (z : Program). AreKnown z b level.setting.accepts x.env) same checked.known

  abbrev site : Site
  site = site_of (outer facts m c p level acting) b x

  is_held : AreHeld level.setting.view site head.formals given (operands_of m.stacks p) (i ∷ below)
  is_held =
      subst (λ (fs : List Formal). AreHeld level.setting.view site fs given (operands_of m.stacks p) (i ∷ below))
      (formals_are ∙ ap (λ (z : Program). (process_at z.state.blocks n).formals) same)
      (subst (λ (z : Program). AreHeld level.setting.view (record (site_of level.setting b x) { program = z }) formals given
      (operands_of m.stacks p) (i ∷ below)) same held)

  is_process : IsProcessType site n v t
  is_process = subst (λ (z : Program). IsProcessType (record (site_of level.setting b x) { program = z }) n v t) same process

  is_object : IsObject (outer facts m c p level acting) site v t i
  is_object = (
    object.0,
    subst (λ (z : Program). IsWord level.setting.view (record (site_of level.setting b x) { program = z }) v t object.0) same object.1,
    ap (λ (f : ℤ → Option ℤ). f object.0) (sym (has_setting facts m c p level acting).number) ∙ object.2,
  )

  is_there : IsAt level.setting (stack_of m.stacks p).at (NEW number) x.line
  is_there = subst (λ (z : Program). IsAt level.setting (stack_of m.stacks p).at (NEW (block_number z (process_at z.state.blocks n).scope)) x.line) same there

  maker : IsMaker facts m c p level acting own
  maker = is_maker facts m c p level acting own number x.line is_there goes

  its : IsProcessNumber facts m c p level acting own b checked.beside x known v i n
  its = process_number facts m c p level acting own b checked.beside x known v i singles n t is_process is_object

  pub create_kept : length (operands_of m.stacks p) ≤ level.setting.room → length level.arms ≤ level.setting.arms → level.arms ≡ []
      → Performs level.setting b x.env ((stack_of m.stacks p).at + 1) below [] r → IsKept facts m c p choice (calls x (to_process v r) given)
  create_kept room arms none behind =
      let few = shorter facts m c p level acting own b checked.beside x known v i given below n number (block_at g0 head.scope) head.formals can refl is_held
      maker its in
      let does : DoesOn level ((stack_of m.stacks p).at + 1) below (going x.env r) = (
        fits (length below) (length (operands_of m.stacks p)) level.setting.room few room,
        arms,
        inl (
          b,
          checked.beside,
          (
            checked_for level.setting b x.env r checked,
            subst (λ (l : List Arm). Performs level.setting b x.env ((stack_of m.stacks p).at + 1) below l r) (sym none) behind,
          ),
        ),
      ) in
      let does_popped : DoesOn level ((stack_of m.stacks p).at + 1) (drop (can.code.params + 1) (operands_of m.stacks p)) (going x.env r) =
      subst (λ (l : List ℤ). DoesOn level ((stack_of m.stacks p).at + 1) l (going x.env r))
      (sym (popped facts m c p level acting own b checked.beside x known v i given below n number (block_at g0 head.scope) head.formals can refl is_held
      maker its)) does in
      let enough = reads facts m c p level acting own b checked.beside x known v i given below n number (block_at g0 head.scope) head.formals can refl
      is_held maker its in
      record {
        instr = NEW number;
        is = code_there facts m c p level acting (stack_of m.stacks p).at (NEW number) x.line is_there;
        can_step = record {
          stack = stack_there facts m c p level acting;
          performed = record { held = enough; room = grind arith; reach = tt };
          goes = λ outward. can_go facts m c p level acting (NEW number) x.line is_there refl
              (least (params_of (slice_get (image_of facts.tree).blocks number)) (length (operands_of m.stacks p)) enough) goes;
        };
        no_move = tt;
        can_do = record {
          acting = acts_now facts m c p level acting (NEW number) x.line is_there;
          can = can_create facts m c p level acting own b checked.beside x known v i given below n number (block_at g0 head.scope) head.formals can refl
              is_held maker its;
        };
        line = code_line facts m c p level acting (stack_of m.stacks p).at (NEW number) x.line is_there;
        choices = refl;
        same =
            come_to_same facts m c p level acting own b checked.beside x known v i given below n number (block_at g0 head.scope) head.formals can refl
            is_held maker its r does_popped (next_within facts m c p level acting own (NEW number) x.line is_there refl goes) x.line;
      }
    where
      fits : (j l most : ℕ) → j ≤ l → l ≤ most → j ≤ most
      fits j l most h k = omega (arith, h, k)

      least : (j l : ℕ) → 1 + j ≤ l → 1 + 0 ≤ l
      least j l h = omega (arith, h)

pub creations_kept : AreKept CreatesProcess
creations_kept facts m c p choice level (calls x (to_process v r) given) may acting arrived chosen =
    let (b, checked, (formals, over, held, (alone, (t, n, i, below, process, among, formals_are, takes, over_is, object, there, behind)), lends)) =
    arrived.arrived in
    create_kept facts m c p choice level acting x v r given b checked alone.0 may formals t n i below
    (subst (λ (l : List ℤ). AreHeld level.setting.view (site_of level.setting b x) formals given (operands_of m.stacks p) l) over_is held)
    process among formals_are object there arrived.within arrived.room arrived.arms alone.1 behind
creations_kept facts m c p choice level n may acting arrived chosen = absurd may
