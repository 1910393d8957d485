-- A block is called from inside its module: an activation begins over those that the process has.
use Rattle.std.proofs.Common.{◌≡◌, ℕ, ◌+◌, ◌-◌, ◌==◌, ◌||◌, ℤ, pos, Bool, true, false, List, [], ◌∷◌, length, drop, slice_get, get_or, Option, Some}
use Rattle.std.proofs.Common.{None, refl, sym, ap, ◌∙◌, subst, arith, inl, inr}
use Rattle.pfc_types.specs.declared.types.TypeId.{TypeId}
use Rattle.pfc_types.specs.declared.scope.Meaning.TheVariants.{Variable}
use Rattle.pfc_types.specs.declared.heads.Formal.{Formal}
use Rattle.pfc_code.specs.declared.images.Block.{Block as CodeBlock}
use Rattle.pfc_code.specs.declared.instructions.Instr.{Instr}
use Rattle.pfc_world.specs.Transitions.{ticked, rested}
use Rattle.pfc_semantics.specs.Displays.{Display}
use Rattle.pfc_semantics.specs.Values.{Value, Location, ordinal, points}
use Rattle.pfc_semantics.specs.Layouts.{sub_with}
use Rattle.pfc_semantics.specs.Store.{Store}
use Rattle.pfc_semantics.specs.Programs.{Block, Guard, Program, layout_cells}
use Rattle.pfc_semantics.specs.Remainders.{Context, Argument}
use Rattle.pfc_semantics.specs.Rewriting.{going}
use Rattle.pfc_semantics.specs.Configurations.{plain, Caller, Activity, Config, activity_of, done_at, all_passed, body_of}
use Rattle.pfc_semantics.specs.Calls.{new_values, activated}
use Rattle.pfc_translation.specs.Images.{end_of, guard_code}
use Rattle.pfc_stacks.specs.declared.marks.Mark.TheVariants.{Plain}
use Rattle.pfc_stacks.specs.Refs.{word_of}
use Rattle.pfc_stacks.specs.Stacks.{Stack, Stacks, stack_of, in_view, last_activation}
use Rattle.pfc_stacks.specs.Activations.{has_place, block_cells, arguments}
use Rattle.pfc_cells.specs.Homes.{Home, Homes}
use Rattle.pfc_cells.specs.Memory.{Entries, AreCells}
use Rattle.pfc_machines.specs.declared.machine.Machine.{Machine}
use Rattle.pfc_machines.specs.declared.descriptors.Descriptor.{Descriptor}
use Rattle.pfc_machines.specs.Descriptors.{descriptor_of}
use Rattle.pfc_machines.specs.Actions.{at_rest}
use Rattle.pfc_machine_acts.specs.Acting.{acted}
use Rattle.pfc_call_actions.specs.Calls.{activated as machine_activated}
use Rattle.pfc_standing_code.specs.Settings.{Setting, of_own, site_of, IsBeside, same_block}
use Rattle.pfc_standing_code.specs.Words.{AreHeld, AreKnown, IsChecked}
use Rattle.pfc_standing_code.specs.Performs.{Performs}
use Rattle.pfc_standing_images.specs.Images.{IsOfImage, IsOfBlock, BlockStands}
use Rattle.pfc_standing_images.proofs.Wholes.{block_stands}
use Rattle.pfc_standing_images.proofs.Bodies.{body_performs}
use Rattle.pfc_standing_code.proofs.Checked.{checked_for}
use Rattle.pfc_views.specs.Views.{own_place, first_number, Sees}
use Rattle.pfc_views.proofs.Checked.{names_checked}
use Rattle.pfc_stack_laws.specs.Standing.{StandsAt, HoldStore, IsAtHand}
use Rattle.pfc_call_laws.specs.Blocks.{HasFirstValues, AreLent}
use Rattle.pfc_call_laws.specs.Around.{ShowsAround, keeps_also, home_over}
use Rattle.pfc_call_laws.specs.Inside.{view_inside}
use Rattle.pfc_call_laws.proofs.Passing.{filled, left, lent}
use Rattle.pfc_call_laws.proofs.Calling.{sees, shows_call, held, not_kept}
use Rattle.pfc_typed_programs.specs.Bodies.{of_block}
use Rattle.pfc_typed_programs.proofs.Bodies.{body_ready}
use Rattle.pfc_representation.specs.Levels.{Facts, program_in, LivingLevel, block_of, DoesOn, MayKeep, of_own as of_own_stack}
use Rattle.pfc_representation.specs.Callers.{ending_of, GoesBack, IsWithin}
use Rattle.pfc_representation.specs.Machines.{Represents}
use Rattle.pfc_representation.specs.Acting.{IsActing}
use Rattle.pfc_representation.proofs.Kept.{may_keep, whole}
use Rattle.pfc_kept_own_actions.proofs.Arrived.{has_setting, stands_at}
use Rattle.pfc_kept_object_actions.proofs.Step.{Objects}
use Rattle.pfc_kept_object_actions.proofs.Popped.{counted_so, counts_change, rests}
use Rattle.pfc_kept_calls.specs.Callees.{IsCallable}
use Rattle.pfc_kept_calls.proofs.Tops.{HasTop}
use Rattle.pfc_kept_calls.proofs.Caller.{number_is, outer, hold, top, is_free, seen_here, hand, shows}
use Rattle.pfc_kept_calls.proofs.Inside.{Beginning, IsBegun, n, home, homes, mine, entries, values, store, stacks, display, inner, inner_level, lenders_stay}
use Rattle.pfc_kept_calls.proofs.Begun.{represents_begun}

module _ (facts : Facts) (m : Machine) (c : Config) (p : ℕ) (level : LivingLevel) (acting : IsActing facts m c p level) where
  abbrev g : Program
  g = program_in facts

  abbrev a : Activity
  a = activity_of g c p

  abbrev d : Descriptor
  d = descriptor_of m.descriptors p

  abbrev s : Stack
  s = stack_of m.stacks p

  abbrev w : ℤ
  w = word_of (last_activation m.stacks p)

  -- the setting, with the program itself
  abbrev here : Setting
  here = outer facts m c p level acting

  pub record IsCall (b callee : Block) (k l : ℕ) (formals : List Formal) (x : Context) (given : List Argument) (below : List ℤ) (caller : Caller)
      (last : Instr) : Type 0 where
    pub own : level.setting.trial ≡ of_own
    pub beside : IsBeside level.setting level.setting.block b
    pub known : AreKnown g b level.setting.accepts x.env
    pub can : IsCallable facts.tree b callee k l formals
    pub held : AreHeld level.setting.view (site_of here b x) formals given s.operands below
    pub place : has_place p (length s.cells) can.code ≡ true
    pub ends : last ≡ end_of (sub_with g.state.blocks.subs callee.scope)
    pub ending : last ≡ ending_of caller
    pub back : GoesBack facts level (s.at + 1) below plain caller
    pub within : IsWithin facts level (s.at + 1) d.communications
    pub counted : (block_of level).cells ≡ layout_cells g.state.forms (block_of level).layout

  module _ (b callee : Block) (k l : ℕ) (formals : List Formal) (x : Context) (given : List Argument) (below : List ℤ) (caller : Caller) (last : Instr)
      (first : HasFirstValues g) (call : IsCall b callee k l formals x given below caller last) where
    abbrev code : CodeBlock
    code = call.can.code

    abbrev cells : List ℤ
    cells = block_cells (arguments code s.operands) (code.cells - code.params)

    abbrev begins : Beginning
    begins = record {
      callee = callee;
      number = k;
      code = code;
      mark = plain;
      link = in_view m.stacks p l;
      given = given;
      below = below;
      caller = caller;
      last = last;
      view =
          view_inside g.state.forms callee.layout (new_values g callee (all_passed g c p given)) cells (first_number
          (home_over m.stacks p callee.scope)) l level.setting.view;
      body = body_of callee;
    }

    -- no standing, count or holder changes
    abbrev same_objects : Objects
    same_objects = counted_so facts m c p level acting c.counts

    abbrev number : ℕ
    number = n facts m c p level acting same_objects begins

    abbrev new_home : Home
    new_home = home facts m c p level acting same_objects begins

    abbrev new_homes : Homes
    new_homes = homes facts m c p level acting same_objects begins

    abbrev new_entries : Entries
    new_entries = entries facts m c p level acting same_objects begins

    abbrev new_values_are : List Value
    new_values_are = values facts m c p level acting same_objects begins

    abbrev new_store : Store
    new_store = store facts m c p level acting same_objects begins

    abbrev new_stacks : Stacks
    new_stacks = stacks facts m c p level acting same_objects begins

    abbrev new_display : Display
    new_display = display facts m c p level acting same_objects begins

    abbrev inside : Setting
    inside = inner facts m c p level acting same_objects begins

    abbrev at_hand : IsAtHand here acting.homes acting.entries c.store b w
    at_hand = hand facts m c p level acting call.own b call.beside

    abbrev is_top : HasTop facts acting.homes c.store p level w a.activations (acting.entries p)
    is_top = top facts m c p level acting

    abbrev holding : HoldStore here acting.homes acting.entries c.store m.stacks
    holding = hold facts m c p level acting

    stands : StandsAt m.stacks p s.at s.operands level.setting.room w
    stands = stands_at facts m c p level acting call.own s.operands refl

    is_filled : AreCells g acting.homes callee.layout new_values_are cells
    is_filled = filled here acting.homes acting.entries c m.stacks b w at_hand p x holding refl call.known first callee code formals call.can.takes
        given s.operands below call.held

    is_lent : AreLent g at_hand.keeps callee new_values_are
    is_lent = lent here acting.homes acting.entries c m.stacks b w at_hand p x holding refl call.known first callee code formals call.can.takes given
        s.operands below call.held

    is_left : drop code.params s.operands ≡ below
    is_left = left here acting.homes acting.entries c m.stacks b w at_hand p x holding refl call.known first callee code formals call.can.takes given
        s.operands below call.held

    inner_sees : Sees g new_homes new_entries new_store (keeps_also at_hand.keeps number) new_display callee [] (word_of (own_place new_home))
        (number ∷ drop l at_hand.chain) begins.view
    inner_sees = sees here acting.homes acting.entries c m.stacks w p s.at level.setting.room k l s.operands callee code Plain new_values_are is_top.entry
        is_top.below holding stands is_top.entries (is_free facts m c p level acting)
        call.place call.can.scopes is_filled b at_hand call.can.nested (shows facts m c p level acting call.own b call.beside) is_lent

    inner_shows : ShowsAround g callee new_display
    inner_shows = shows_call here acting.homes acting.entries c m.stacks w p s.at level.setting.room k l s.operands callee code Plain new_values_are
        is_top.entry is_top.below holding stands is_top.entries (is_free facts m c p level acting)
        call.place call.can.scopes is_filled b at_hand call.can.nested (shows facts m c p level acting call.own b call.beside)

    new_hold : HoldStore here new_homes new_entries new_store new_stacks
    new_hold = held here acting.homes acting.entries c m.stacks w p s.at level.setting.room k l s.operands callee code Plain new_values_are is_top.entry
        is_top.below holding stands is_top.entries (is_free facts m c p level acting)
        call.place call.can.scopes is_filled call.can.objects

    -- ## What the new activation keeps

    fresh : at_hand.keeps number ≡ false
    fresh = not_kept here acting.homes acting.entries c.store m.stacks b w at_hand number holding (is_free facts m c p level acting)

    keeps_inner : (y : ℕ) → keeps_also at_hand.keeps number y ≡ true
        → MayKeep (ticked c.table) new_entries p d.communications.callers (mine facts m c p level acting same_objects begins) y
    keeps_inner y is = by (y == number) refl
      where
        by : (z : Bool) → (y == number) ≡ z
            → MayKeep (ticked c.table) new_entries p d.communications.callers (mine facts m c p level acting same_objects begins) y
        by true h = of_own_stack p d.communications.callers (mine facts m c p level acting same_objects begins) y (inl (sym (number_is y number h)))
        by false h =
            let kept : at_hand.keeps y ≡ true = ap (λ (z : Bool). z || at_hand.keeps y) (sym h) ∙ is in
            whole (ticked c.table) (ticked c.table) new_entries new_entries p d.communications.callers (acting.entries p)
            (mine facts m c p level acting same_objects begins) y (λ e among. inr among)
            (may_keep c.table (ticked c.table) acting.entries new_entries p d.communications.callers (acting.entries p) y
            ((seen_here facts m c p level acting call.own).keeps_these y kept)
            (λ r lender. lenders_stay facts m c p level acting same_objects begins (λ q apart. refl) p r lender))

    references_apart : (j : ℕ) (t : TypeId) (l : Location) → slice_get callee.layout j ≡ Some (Variable t true) → get_or new_values_are j (ordinal
        (pos 0)) ≡ points l → l.activation ≡ number → ⊥
    references_apart j t l laid holds same =
        let given = is_lent j t (call.can.own j (Variable t true) laid) laid in
        let one : given.0 ≡ l = (let both : points given.0 ≡ points l = sym given.1 ∙ holds in cc) in
        let both : true ≡ false = sym given.2 ∙ ap (λ (y : Location). at_hand.keeps y.activation) one ∙ ap at_hand.keeps same ∙ fresh in
        cc

    -- ## The code of the block

    inner_image : IsOfImage facts.tree inside
    inner_image =
        let has = (has_setting facts m c p level acting).image in
        record { program = refl; code = has.code; lines = has.lines; texts = has.texts; arms = has.arms }

    inner_block : IsOfBlock inside callee code
    inner_block = record { last = call.ends; room = omega arith }

    block : BlockStands inside callee code
    block = block_stands facts.tree inside inner_image k callee code call.can.there call.can.is

    checked : IsChecked inside callee callee.env
    checked =
        names_checked inside new_homes new_entries new_store (keeps_also at_hand.keeps number) new_display callee (word_of (own_place new_home))
        (number ∷ drop l at_hand.chain) new_stacks new_hold.types.counted new_hold.types.sound
        new_hold.memory new_hold.few new_hold.objects inner_sees callee.env call.can.known call.can.state same_block tt

    body : Performs inside callee callee.env code.body below [] (body_of callee)
    body =
        body_performs inside code inner_block.room callee code.body (block.n + length
        (guard_code g callee callee.guard).texts) refl refl inner_block block.body
        (body_ready facts.tree acting.alike.program.lawful acting.alike.program.unbroken inside callee inner_image refl refl
        (of_block k callee call.can.there)
        (record { known = checked.known; seen = checked.seen; placed = checked.placed; objects = checked.objects; beside = checked.beside }))

    at_entry : code.body ≡ code.entry
    at_entry = block.behind_guard ∙ ap (λ (o : Option Guard). code.entry + (guard_code g callee o).size) call.can.unguarded ∙ none code.entry
      where
        none : (i : ℕ) → i + 0 ≡ i
        none i = grind arith

    does : DoesOn (inner_level facts m c p level acting same_objects begins) code.entry below (going callee.env (body_of callee))
    does = (
      omega arith,
      omega arith,
      inl (
        callee,
        same_block,
        (
          checked_for inside callee callee.env (body_of callee) checked,
          subst (λ i. Performs inside callee callee.env i below []
              (body_of callee)) at_entry body,
        ),
      ),
    )

    -- ## All of it

    is_begun : IsBegun facts m c p level acting same_objects begins
    is_begun = record {
      own = call.own;
      there = call.can.there;
      is = call.can.is;
      numbered = call.can.number;
      by_scope = call.can.scopes.by_scope;
      objects = call.can.objects;
      apart = call.can.apart;
      left = is_left;
      references = references_apart;
      keeps = keeps_also at_hand.keeps number;
      chain = number ∷ drop l at_hand.chain;
      sees = inner_sees;
      shows = inner_shows;
      keeps_these = keeps_inner;
      hold = new_hold;
      ends = call.ends;
      ending = call.ending;
      back = call.back;
      within = call.within;
      counted = call.counted;
      linked = tt;
      guarded = λ guard is. (let none : None ≡ Some guard = sym call.can.unguarded ∙ is in cc);
      does = does;
      holds = tt;
      change = counts_change facts m c p level acting c.counts refl;
      same = λ q apart. refl;
    }

    -- Behind the call, counted, the machine represents what the source text has come to.
    pub represents_called : (line : ℕ) → Represents facts (acted line p (at_rest (machine_activated k code (in_view m.stacks p l) Plain p m)))
        (done_at g (activated g c p callee plain caller given (body_of callee)) p line)
    represents_called line =
        represents_begun facts m c p level acting same_objects begins is_begun line m.world m.monitors m.resources
        (ap rested acting.world ∙ rests facts m c p level acting) refl acting.alike.words.monitors refl acting.alike.words.resources
