-- A process is created: what it sees in its first activation, and where its code stands.
use Rattle.std.proofs.Common.{◌≡◌, ◌≢◌, ℕ, suc, ◌+◌, ◌-◌, ◌<◌, ◌≤◌, ◌==◌, ◌||◌, if◌then◌else◌, ℤ, pos, Bool, true, false, List, []}
use Rattle.std.proofs.Common.{◌∷◌, ◌++◌, length, map, take, drop, reverse, slice_get, get_or, Option, Some, None, refl, sym, ap, ◌∙◌, subst, arith, ◌⊎◌, inl}
use Rattle.std.proofs.Common.{inr}
use Rattle.std.proofs.lemmas.List.{get_or_append_left, get_or-append-add, get_or-drop, get_or-map}
use Rattle.std.proofs.lemmas.Option.{get_or_from_slice_get, slice_get_within}
use Rattle.pfc_types.specs.declared.types.TypeId.{TypeId}
use Rattle.pfc_types.specs.declared.scope.Meaning.TheVariants.{Variable}
use Rattle.pfc_types.specs.declared.heads.Formal.{Formal}
use Rattle.pfc_code.specs.declared.images.Block.{Block as CodeBlock}
use Rattle.pfc_code.specs.declared.instructions.Instr.TheVariants.{END}
use Rattle.pfc_state.specs.Stands.{Is_created, is_unfinished}
use Rattle.pfc_world.specs.Tables.{Table, at}
use Rattle.pfc_world.specs.Transitions.{placed, ticked}
use Rattle.pfc_semantics.specs.Displays.{Display}
use Rattle.pfc_semantics.specs.Values.{Value, Location, ordinal, points}
use Rattle.pfc_semantics.specs.Store.{Store, with_room, values_in}
use Rattle.pfc_semantics.specs.Layouts.{Layout}
use Rattle.pfc_semantics.specs.Objects.{first_laid, first_of}
use Rattle.pfc_semantics.specs.Programs.{Block, Guard, Program}
use Rattle.pfc_semantics.specs.Remainders.{Context, Argument}
use Rattle.pfc_semantics.specs.Rewriting.{going}
use Rattle.pfc_semantics.specs.Configurations.{Activation, Config, activity_of, all_passed, body_of}
use Rattle.pfc_semantics.specs.Calls.{new_number, new_values}
use Rattle.pfc_semantics.specs.Processes.{process_block, process_display}
use Rattle.pfc_translation.specs.Images.{image_of, end_of, guard_code}
use Rattle.pfc_stacks.specs.Refs.{word_of}
use Rattle.pfc_stacks.specs.Stacks.{Stacks, stack_of}
use Rattle.pfc_stacks.specs.Activations.{has_place, own_words, first_own, block_cells, arguments, created}
use Rattle.pfc_cells.specs.Shapes.{is_number, is_array, is_record, IsOf}
use Rattle.pfc_cells.specs.Homes.{Home, Homes}
use Rattle.pfc_cells.specs.Memory.{Entry, Entries, AreCells}
use Rattle.pfc_cells.specs.Activations.{with_home, with_entries}
use Rattle.pfc_machines.specs.declared.machine.Machine.{Machine}
use Rattle.pfc_machines.specs.Descriptors.{descriptor_of}
use Rattle.pfc_standing_code.specs.Settings.{View, Setting, of_own, site_of, IsBeside, same_block, both_mains}
use Rattle.pfc_standing_code.specs.Words.{AreHeld, AreKnown, IsChecked}
use Rattle.pfc_standing_code.specs.Performs.{Performs}
use Rattle.pfc_standing_code.proofs.Checked.{checked_for}
use Rattle.pfc_standing_images.specs.Images.{IsOfImage, IsOfBlock, BlockStands}
use Rattle.pfc_standing_images.proofs.Wholes.{block_stands}
use Rattle.pfc_standing_images.proofs.Bodies.{body_performs}
use Rattle.pfc_views.specs.Views.{own_place, first_number, Sees}
use Rattle.pfc_views.proofs.Checked.{names_checked}
use Rattle.pfc_stack_laws.specs.Standing.{HoldStore, IsAtHand}
use Rattle.pfc_call_laws.specs.Blocks.{HasFirstValues, AreLent}
use Rattle.pfc_call_laws.specs.Around.{HasScopes, IsNested, ShowsAround, keeps_also}
use Rattle.pfc_call_laws.specs.Inside.{view_inside}
use Rattle.pfc_call_laws.specs.Calls.{first_home}
use Rattle.pfc_call_laws.proofs.Lists.{slice_front}
use Rattle.pfc_call_laws.proofs.Passing.{filled, left, lent, words_hold, words_lent}
use Rattle.pfc_call_laws.proofs.Creating.{process_sees, shows_process, held as held_created}
use Rattle.pfc_nesting_laws.proofs.Programs.{has_scopes, nested_in_mains, main_alone, main_has_none}
use Rattle.pfc_typed_programs.specs.Bodies.{of_block}
use Rattle.pfc_typed_programs.proofs.Bodies.{body_ready, body_state}
use Rattle.pfc_representation.specs.Levels.{Facts, program_in, LivingLevel, HasSetting, DoesOn, MayKeep, of_main, of_own as of_own_stack, IsSeenBy, IsBlockAt}
use Rattle.pfc_representation.specs.Holding.{holders_in}
use Rattle.pfc_representation.specs.Processes.{ActivationsAre}
use Rattle.pfc_representation.specs.Acting.{IsActing}
use Rattle.pfc_kept_own_actions.proofs.Arrived.{has_setting}
use Rattle.pfc_kept_calls.proofs.Caller.{g, w, outer, hold, hand, is_free}
use Rattle.pfc_kept_calls.proofs.Sizes.{first_values}
use Rattle.pfc_kept_lives.proofs.Callees.{IsProcessBlock}
use Rattle.pfc_kept_lives.proofs.Makers.{IsMaker}

-- ## References

-- the first value of a variable stands for no location
no_pointer : (forms : _) (t : TypeId) (v : Value) → IsOf forms t v → (l : Location) → v ≡ points l → ⊥
no_pointer forms t _ (is_number u n parts) l e = cc
no_pointer forms t _ (is_array u over element low high vs form of) l e = cc
no_pointer forms t _ (is_record u fields vs form of) l e = cc

as_many : (g : Program) (homes : Homes) (layout : Layout) (values : List Value) (cells : List ℤ) → AreCells g homes layout values cells
    → length values ≡ length layout
as_many g homes [] [] cells h = refl
as_many g homes [] (v ∷ values) cells h = absurd h
as_many g homes (m ∷ layout) [] cells h = absurd h
as_many g homes (m ∷ layout) (v ∷ values) cells h = ap suc (as_many g homes layout values h.1 h.4)

either_less : (n m : ℕ) → (n < m) ⊎ (m ≤ n)
either_less n m = grind arith

same_number : (n m : ℕ) → (n == m) ≡ true → n ≡ m
same_number n m h = grind (arith, h)

number_itself : (n : ℕ) → (n == n) ≡ true
number_itself n = grind arith

module _ (facts : Facts) (m : Machine) (c : Config) (p : ℕ) (level : LivingLevel) (acting : IsActing facts m c p level) where
  -- ## What is created

  pub record IsCreation (n k : ℕ) (callee : Block) (formals : List Formal) (x : Context) (given : List Argument) (below : List ℤ) : Type 0 where
    pub own : level.setting.trial ≡ of_own
    pub maker : IsMaker facts m c p level acting own
    pub block : Block
    pub beside : IsBeside level.setting level.setting.block block
    pub known : AreKnown (program_in facts) block level.setting.accepts x.env
    pub can : IsProcessBlock facts.tree callee k formals
    pub held : AreHeld level.setting.view (site_of (outer facts m c p level acting) block x) formals given (stack_of m.stacks p).operands below
    pub process : callee ≡ process_block (program_in facts) n
    pub some : 1 ≤ n
    pub there : n < length c.activities
    pub over : is_unfinished (at c.table.rows n) ≡ false
    pub place : has_place n 0 can.code ≡ true

  module _ (n k : ℕ) (callee : Block) (formals : List Formal) (x : Context) (given : List Argument) (below : List ℤ)
      (new : IsCreation n k callee formals x given below) where
    abbrev q : Program
    q = program_in facts

    abbrev around : Setting
    around = outer facts m c p level acting

    abbrev pub code : CodeBlock
    code = new.can.code

    abbrev ops : List ℤ
    ops = (stack_of m.stacks p).operands

    abbrev pub number : ℕ
    number = new_number c

    abbrev pub new_entry : Entry
    new_entry = record { activation = number; own = own_words (first_own k) }

    abbrev pub home : Home
    home = first_home n callee.scope

    abbrev pub homes : Homes
    homes = with_home acting.homes number home

    abbrev pub entries : Entries
    entries = with_entries acting.entries n (new_entry ∷ acting.entries n)

    abbrev pub values : List Value
    values = new_values q callee (all_passed q c p given)

    abbrev pub store : Store
    store = with_room c.store number values

    abbrev pub stacks : Stacks
    stacks = created k code n p m.stacks

    abbrev cells : List ℤ
    cells = block_cells (arguments code ops) (code.cells - code.params)

    abbrev pub display : Display
    display = process_display q c callee

    abbrev pub table : Table
    table = ticked (placed c.table n Is_created)

    abbrev pub inner_view : View
    inner_view = view_inside q.state.forms callee.layout values cells (first_number home) 0 level.setting.view

    abbrev pub inner : Setting
    inner = record around {
      block = callee;
      view = inner_view;
      accepts = [];
      meetings = [];
      under = [];
      last = END;
      room = code.operands;
      trial = of_own;
    }

    abbrev pub inner_level : LivingLevel
    inner_level = record { setting = inner; arms = [] }

    -- ### Before

    abbrev mine : IsAtHand around acting.homes acting.entries c.store new.block (w facts m c p level acting)
    mine = hand facts m c p level acting new.own new.block new.beside

    pub other : n ≢ p
    other same =
        let both : true ≡ false = ap is_unfinished (sym acting.actor.ready) ∙ ap (λ i. is_unfinished (at c.table.rows i)) (sym same) ∙ new.over in
        cc

    rest_of : (xs : List Activation) → ActivationsAre xs facts acting.homes acting.entries c.store m.stacks c.table (holders_in facts c) n (activity_of q c n)
        (descriptor_of m.descriptors n) → acting.entries n ≡ []
    rest_of [] is = is.none
    rest_of (y ∷ ys) is = absurd (let both : true ≡ false = sym is.unfinished ∙ new.over in cc)

    pub idle : acting.entries n ≡ []
    idle = rest_of (activity_of q c n).activations (acting.others n new.there other).activations

    free : acting.homes number ≡ None
    free = is_free facts m c p level acting

    stack_there : n < length m.stacks
    stack_there = subst (λ i. n < i) (sym acting.alike.words.stacks) new.there

    few : n < 1024
    few = (let least = acting.alike.holds.few.processes in less n (length m.stacks) 1024 stack_there least)
      where
        less : (i j b : ℕ) → i < j → j ≤ b → i < b
        less i j b h h' = grind (arith, h, h')

    -- ### What is passed

    first : HasFirstValues q
    first = first_values facts m c p level acting

    is_filled : AreCells q acting.homes callee.layout values cells
    is_filled = filled around acting.homes acting.entries c m.stacks new.block (w facts m c p level acting) mine p x (hold facts m c p level acting) refl
        new.known first callee code formals new.can.takes given ops below new.held

    is_lent : AreLent q mine.keeps callee values
    is_lent = lent around acting.homes acting.entries c m.stacks new.block (w facts m c p level acting) mine p x (hold facts m c p level acting) refl
        new.known first callee code formals new.can.takes given ops below new.held

    pub is_left : drop code.params ops ≡ below
    is_left = left around acting.homes acting.entries c m.stacks new.block (w facts m c p level acting) mine p x (hold facts m c p level acting) refl
        new.known first callee code formals new.can.takes given ops below new.held

    lent_by_main : AreLent q new.maker.hand.keeps callee values
    lent_by_main j t own laid = (let is = is_lent j t own laid in (is.0, is.1, new.maker.keeps is.0.activation ∙ is.2))

    -- ### What it sees

    scopes : HasScopes q callee
    scopes = has_scopes facts.tree acting.alike.program.lawful k callee new.can.there

    nested : IsNested q q.main callee 0
    nested = nested_in_mains facts.tree acting.alike.program.lawful q.main (main_alone facts.tree acting.alike.program.lawful)
        (λ i. main_has_none facts.tree acting.alike.program.lawful i) k callee new.can.there new.can.outer

    main_shown : ShowsAround q q.main new.maker.hand.display
    main_shown = subst (λ (d : Display). ShowsAround q q.main d) (sym new.maker.display) (record {
      accepts = [];
      scopes = ap (λ (xs : List ℕ). xs ++ []) (sym (main_alone facts.tree acting.alike.program.lawful));
      apart = λ i j there. (let no : None ≡ Some j = there in absurd (cc));
    })

    pub inner_sees : Sees q homes entries store (keeps_also new.maker.hand.keeps number) display callee [] (word_of (own_place home))
        (number ∷ new.maker.hand.chain) inner_view
    inner_sees = process_sees around acting.homes acting.entries c new.maker.hand callee scopes nested main_shown new.maker.display
        acting.alike.program.types.counted free n k ops code values few new.place lent_by_main is_filled

    inner_shows : ShowsAround q callee display
    inner_shows = shows_process around acting.homes acting.entries c new.maker.hand callee scopes nested main_shown new.maker.display

    pub new_hold : HoldStore around homes entries store stacks
    new_hold = held_created around acting.homes acting.entries c m.stacks k n p callee code values (hold facts m c p level acting) idle stack_there free
        new.place scopes new.can.objects is_filled

    no_other : (e : Block) → IsBeside inner callee e → e ≡ callee
    no_other _ same_block = refl
    no_other _ (both_mains e one two) = absurd (new.can.apart one.0 one.1)

    keeps_inner : (y : ℕ) → keeps_also new.maker.hand.keeps number y ≡ true → MayKeep table entries n [] (new_entry ∷ acting.entries n) y
    keeps_inner y is = by (y == number) refl
      where
        by : (b : Bool) → (y == number) ≡ b → MayKeep table entries n [] (new_entry ∷ acting.entries n) y
        by true h = of_own_stack n [] (new_entry ∷ acting.entries n) y (inl (sym (same_number y number h)))
        by false h =
            let kept : new.maker.hand.keeps y ≡ true = ap (λ (b : Bool). b || new.maker.hand.keeps y) (sym h) ∙ is in
            subst (λ i. MayKeep table entries n [] (new_entry ∷ acting.entries n) i) (sym (new.maker.main_alone y kept))
            (of_main n [] (new_entry ∷ acting.entries n))

    pub inner_seen : IsSeenBy facts homes entries store table n [] (new_entry ∷ acting.entries n) (word_of (own_place home)) display inner_level
    inner_seen = record {
      others = [];
      met = refl;
      sees = record {
        keeps = keeps_also new.maker.hand.keeps number;
        chain = number ∷ new.maker.hand.chain;
        sees = λ e beside. subst (λ (y : Block). Sees q homes entries store (keeps_also new.maker.hand.keeps number) display y []
            (word_of (own_place home)) (number ∷ new.maker.hand.chain) inner_view) (sym (no_other e beside)) inner_sees;
        keeps_these = keeps_inner;
      };
      around = λ e beside. subst (λ (y : Block). ShowsAround q y display) (sym (no_other e beside)) inner_shows;
    }

    -- ### Its code

    pub inner_image : IsOfImage facts.tree inner
    inner_image =
        let has = (has_setting facts m c p level acting).image in
        record { program = refl; code = has.code; lines = has.lines; texts = has.texts; arms = has.arms }

    pub inner_setting : HasSetting facts inner_level
    inner_setting = record { image = inner_image; arms = (has_setting facts m c p level acting).arms; number = refl }

    pub inner_block : IsOfBlock inner callee code
    inner_block = record { last = sym (ap (λ o. end_of o) new.can.no_sub); room = omega arith }

    pub block : BlockStands inner callee code
    block = block_stands facts.tree inner inner_image k callee code new.can.there new.can.is

    checked : IsChecked inner callee callee.env
    checked =
        names_checked inner homes entries store (keeps_also new.maker.hand.keeps number) display callee (word_of (own_place home))
        (number ∷ new.maker.hand.chain) stacks new_hold.types.counted new_hold.types.sound
        new_hold.memory new_hold.few new_hold.objects inner_sees callee.env new.can.known
        (body_state facts.tree acting.alike.program.lawful acting.alike.program.unbroken callee (of_block k callee new.can.there)) same_block tt

    body : Performs inner callee callee.env code.body [] [] (body_of callee)
    body =
        body_performs inner code inner_block.room callee code.body (block.n + length (guard_code q callee callee.guard).texts) refl refl inner_block
        block.body
        (body_ready facts.tree acting.alike.program.lawful acting.alike.program.unbroken inner callee inner_image refl refl
        (of_block k callee new.can.there)
        (record { known = checked.known; seen = checked.seen; placed = checked.placed; objects = checked.objects; beside = checked.beside }))

    at_entry : code.body ≡ code.entry
    at_entry = block.behind_guard ∙ ap (λ (o : Option Guard). code.entry + (guard_code q callee o).size) new.can.unguarded ∙ none code.entry
      where
        none : (i : ℕ) → i + 0 ≡ i
        none i = grind arith

    pub does : DoesOn inner_level code.entry [] (going callee.env (body_of callee))
    does = (
      omega arith,
      omega arith,
      inl (
        callee,
        same_block,
        (checked_for inner callee callee.env (body_of callee) checked, subst (λ i. Performs inner callee callee.env i [] [] (body_of callee)) at_entry body),
      ),
    )

    pub is_block : IsBlockAt q (image_of facts.tree).blocks k callee code
    is_block = (new.can.is, new.can.number, inl new.can.there)

    -- ### Its references

    pub own_values : values_in store number ≡ values
    own_values = ap (λ (b : Bool). if b then values else values_in c.store number) (number_itself number)

    kept_apart : (l : Location) → mine.keeps l.activation ≡ true → l.activation ≢ number
    kept_apart l kept same =
        let zero_is : l.activation ≡ 0 = new.maker.main_alone l.activation (new.maker.keeps l.activation ∙ kept) in
        none c.table.done (sym zero_is ∙ same)
      where
        none : (i : ℕ) → 0 ≡ i + 1 → ⊥
        none i h = grind (arith, h)

    abbrev args : List Value
    args = all_passed q c p given

    abbrev firsts : List Value
    firsts = map (first_laid q.firsts) callee.layout

    abbrev parameters : Layout
    parameters = new.can.takes.parameters

    args_hold : AreCells q acting.homes parameters args (reverse (take code.params ops))
    args_hold = words_hold around acting.homes acting.entries c m.stacks new.block (w facts m c p level acting) mine p x (hold facts m c p level acting) refl
        new.known formals parameters given ops below code.params new.can.takes.laid new.can.takes.params new.held

    count : length args ≡ length parameters
    count = as_many q acting.homes parameters args (reverse (take code.params ops)) args_hold

    passed_apart : (j : ℕ) (t : TypeId) (l : Location) → j < length parameters → slice_get parameters j ≡ Some (Variable t true)
        → get_or values j (ordinal (pos 0)) ≡ points l → l.activation ≢ number
    passed_apart j t l less laid holds =
        let given_is = words_lent around acting.homes acting.entries c m.stacks new.block (w facts m c p level acting) mine p x
        (hold facts m c p level acting) refl new.known formals parameters given ops below code.params new.can.takes.laid new.can.takes.params new.held
        j t laid in
        let one : given_is.0 ≡ l = (let both : points given_is.0 ≡ points l =
        sym given_is.1 ∙ sym (get_or_append_left args (drop (length args) firsts) (ordinal (pos 0)) j (subst (λ i. j < i) (sym count) less)) ∙ holds in cc) in
        subst (λ (y : Location). y.activation ≢ number) one (kept_apart given_is.0 given_is.2)

    -- behind the parameters all have their first values
    value_behind : (j : ℕ) (t : TypeId) → length parameters ≤ j → slice_get callee.layout j ≡ Some (Variable t true)
        → get_or values j (ordinal (pos 0)) ≡ first_of q.firsts t
    value_behind j t more laid =
        let within : j < length callee.layout = slice_get_within callee.layout j (Variable t true) laid in
        let least : length args ≤ j = subst (λ i. i ≤ j) (sym count) more in
        let behind : length args + (j - length args) ≡ j = omega (arith, least) in
        ap (λ i. get_or values i (ordinal (pos 0))) (sym behind)
        ∙ get_or-append-add args (drop (length args) firsts) (j - length args) (ordinal (pos 0))
        ∙ get_or-drop (length args) firsts (j - length args) (ordinal (pos 0))
        ∙ ap (λ i. get_or firsts i (ordinal (pos 0))) behind
        ∙ get_or-map (first_laid q.firsts) callee.layout j (Variable t true) (ordinal (pos 0)) within
        ∙ ap (first_laid q.firsts) (get_or_from_slice_get callee.layout j (Variable t true) (Variable t true) laid)

    pub references_apart : (j : ℕ) (t : TypeId) (l : Location) → slice_get callee.layout j ≡ Some (Variable t true)
        → get_or (values_in store number) j (ordinal (pos 0)) ≡ points l → l.activation ≢ number
    references_apart j t l laid holds = by (either_less j (length parameters))
      where
        now : get_or values j (ordinal (pos 0)) ≡ points l
        now = ap (λ (vs : List Value). get_or vs j (ordinal (pos 0))) (sym own_values) ∙ holds

        by : (j < length parameters) ⊎ (length parameters ≤ j) → l.activation ≢ number
        by (inl less) =
            passed_apart j t l less
            (sym (slice_front parameters new.can.takes.others j less) ∙ ap (λ (z : Layout). slice_get z j) (sym new.can.takes.layout) ∙ laid) now
        by (inr more) = absurd (no_pointer q.state.forms t (first_of q.firsts t) (first.typed t) l (sym (value_behind j t more laid) ∙ now))
