-- A procedure is called from outside its module: an activation begins over those that the process has, which is linked to main's first.
use Rattle.std.proofs.Common.{◌≡◌, ◌≢◌, ℕ, ◌+◌, ◌-◌, ◌^◌, ◌<◌, ◌≤◌, ◌==◌, ◌||◌, ℤ, pos, Bool, true, false, List, [], ◌∷◌, ◌++◌, length, drop, map}
use Rattle.std.proofs.Common.{slice_get, get_or, Option, Some, None, refl, sym, ap, ◌∙◌, subst, arith, ◌⊎◌, inl, inr, length-append}
use Rattle.std.proofs.lemmas.List.{get_or-set_same, get_or-set_other, length-set}
use Rattle.pfc_types.specs.declared.types.TypeId.{TypeId}
use Rattle.pfc_types.specs.declared.scope.Meaning.TheVariants.{Variable}
use Rattle.pfc_types.specs.declared.heads.Formal.{Formal}
use Rattle.pfc_code.specs.declared.images.Block.{Block as CodeBlock}
use Rattle.pfc_code.specs.declared.instructions.Instr.TheVariants.{RET}
use Rattle.pfc_types.specs.rules.Expressions.{Env}
use Rattle.pfc_world.specs.Tables.{at}
use Rattle.pfc_world.specs.Transitions.{ticked}
use Rattle.pfc_semantics.specs.Displays.{Frame, Display, frame_of, outward}
use Rattle.pfc_semantics.specs.Values.{Value, Location, ordinal, points}
use Rattle.pfc_semantics.specs.Layouts.{Layout, sub_with}
use Rattle.pfc_semantics.specs.Store.{Store}
use Rattle.pfc_semantics.specs.Programs.{Block, Guard, Program, layout_cells}
use Rattle.pfc_semantics.specs.Remainders.{Context, Argument, Remainder}
use Rattle.pfc_semantics.specs.Resources.{guarded_body}
use Rattle.pfc_semantics.specs.Rewriting.{going}
use Rattle.pfc_semantics.specs.Configurations.{Mark, of_resource, of_remainder, Activity, Config, activity_of, all_passed}
use Rattle.pfc_semantics.specs.Calls.{new_values}
use Rattle.pfc_translation.specs.Calls.{resource_of}
use Rattle.pfc_translation.specs.Sites.{is_mains}
use Rattle.pfc_translation.specs.Images.{site_in, end_of}
use Rattle.pfc_stacks.specs.Refs.{word_of}
use Rattle.pfc_stacks.specs.Stacks.{Stack, Stacks, no_stack, stack_of, cells_of, last_activation}
use Rattle.pfc_stacks.specs.Activations.{has_place, block_cells, arguments, main_link, own_words, called_own}
use Rattle.pfc_cells.specs.Homes.{Home, Homes, layout_at}
use Rattle.pfc_cells.specs.Memory.{Entries, AreCells}
use Rattle.pfc_cells.proofs.Machine.{call_added}
use Rattle.pfc_machines.specs.declared.machine.Machine.{Machine}
use Rattle.pfc_machines.specs.declared.descriptors.Descriptor.{Descriptor}
use Rattle.pfc_machines.specs.Descriptors.{descriptor_of}
use Rattle.pfc_standing_code.specs.Settings.{Setting, of_own, site_of, IsBeside, same_block}
use Rattle.pfc_standing_code.specs.Words.{AreHeld, AreKnown, IsChecked}
use Rattle.pfc_standing_code.specs.Performs.{Performs}
use Rattle.pfc_standing_code.proofs.Checked.{checked_for}
use Rattle.pfc_standing_images.specs.Images.{IsOfImage, IsOfBlock, BlockStands}
use Rattle.pfc_standing_images.proofs.Wholes.{block_stands}
use Rattle.pfc_standing_images.proofs.Bodies.{guarded_performs}
use Rattle.pfc_views.specs.Views.{own_place, first_number, Sees, AreFew}
use Rattle.pfc_views.proofs.Checked.{names_checked}
use Rattle.pfc_stack_laws.specs.Standing.{HoldStore, IsAtHand}
use Rattle.pfc_call_laws.specs.Blocks.{HasFirstValues, AreLent}
use Rattle.pfc_call_laws.specs.Around.{scopes_around, ShowsAround, keeps_also, home_over}
use Rattle.pfc_call_laws.specs.Inside.{view_inside}
use Rattle.pfc_call_laws.proofs.Passing.{filled, left, lent}
use Rattle.pfc_call_laws.proofs.Calling.{has_addresses, is_addressed, not_kept}
use Rattle.pfc_call_laws.proofs.Beginning.{new_sees, objects_stay}
use Rattle.pfc_call_laws.proofs.Inside.{kept_before, mains_not_shown}
use Rattle.pfc_call_laws.proofs.Displays.{outward_none}
use Rattle.pfc_typed_programs.specs.Bodies.{of_block, IsSeen, EachGuardSeen}
use Rattle.pfc_typed_programs.proofs.Bodies.{body_ready, each_guard_ready, guard_state}
use Rattle.pfc_representation.specs.Levels.{Facts, program_in, LivingLevel, block_of, DoesOn, MayKeep, of_main, of_own as of_own_stack}
use Rattle.pfc_representation.specs.Callers.{GoesBack, stack_mark, IsLinkedBy, IsWithin}
use Rattle.pfc_representation.specs.Holding.{HoldsFor}
use Rattle.pfc_representation.specs.Acting.{IsActing}
use Rattle.pfc_representation.proofs.Kept.{may_keep, whole}
use Rattle.pfc_kept_own_actions.proofs.Arrived.{has_setting, stack_there}
use Rattle.pfc_kept_object_actions.proofs.Step.{Objects, holders_of, IsChange}
use Rattle.pfc_kept_calls.proofs.Tops.{HasTop}
use Rattle.pfc_kept_calls.proofs.Caller.{either_number, number_is, outer, hold, top, is_free, seen_here, hand, shows}
use Rattle.pfc_kept_calls.proofs.Inside.{Beginning, IsBegun, n, home, homes, mine, entries, values, store, stack, stacks, display, inner, inner_level}
use Rattle.pfc_kept_calls.proofs.Inside.{lenders_stay}
use Rattle.pfc_kept_modules.specs.Exported.{IsExported}
use Rattle.pfc_kept_modules.proofs.Mains.{main_view, main_shows, nothing_around_main, main_sees_with}
use Rattle.pfc_kept_modules.proofs.Guards.{guard_known}

module _ (facts : Facts) (m : Machine) (c : Config) (p : ℕ) (level : LivingLevel) (acting : IsActing facts m c p level) where
  abbrev g : Program
  g = program_in facts

  abbrev a : Activity
  a = activity_of g c p

  abbrev d : Descriptor
  d = descriptor_of m.descriptors p

  abbrev s : Stack
  s = stack_of m.stacks p

  abbrev w : ℤ
  w = word_of (last_activation m.stacks p)

  abbrev here : Setting
  here = outer facts m c p level acting

  pub record IsEntry (b callee : Block) (k number : ℕ) (mark : Mark) (formals : List Formal) (x : Context) (given : List Argument) (below : List ℤ)
      (env : Env) (behind : Remainder) : Type 0 where
    pub own : level.setting.trial ≡ of_own
    pub beside : IsBeside level.setting level.setting.block b
    pub known : AreKnown g b level.setting.accepts x.env
    pub can : IsExported facts.tree number k callee formals
    pub held : AreHeld level.setting.view (site_of here b x) formals given s.operands below
    pub place : has_place p (length s.cells) can.code ≡ true
    pub back : GoesBack facts level (s.at + 1) below mark (of_remainder env behind)
    pub within : IsWithin facts level (s.at + 1) d.communications
    pub counted : (block_of level).cells ≡ layout_cells g.state.forms (block_of level).layout
    pub linked : IsLinkedBy mark main_link
    pub guarded : (guard : Guard) → callee.guard ≡ Some guard → mark ≡ of_resource (resource_of (site_in g callee))

  module _ (b callee : Block) (k number : ℕ) (mark : Mark) (formals : List Formal) (x : Context) (given : List Argument) (below : List ℤ) (env : Env)
      (behind : Remainder) (first : HasFirstValues g) (entry : IsEntry b callee k number mark formals x given below env behind) (o : Objects) where
    abbrev code : CodeBlock
    code = entry.can.code

    abbrev cells : List ℤ
    cells = block_cells (arguments code s.operands) (code.cells - code.params)

    abbrev pub begins : Beginning
    begins = record {
      callee = callee;
      number = k;
      code = code;
      mark = mark;
      link = main_link;
      given = given;
      below = below;
      caller = of_remainder env behind;
      last = RET;
      view =
          view_inside g.state.forms callee.layout (new_values g callee (all_passed g c p given)) cells (first_number
          (home_over m.stacks p callee.scope)) 0 (main_view facts m c p level acting);
      body = guarded_body g (resource_of (site_in g callee)) callee callee.guard;
    }

    abbrev now : ℕ
    now = n facts m c p level acting o begins

    abbrev new_home : Home
    new_home = home facts m c p level acting o begins

    abbrev new_homes : Homes
    new_homes = homes facts m c p level acting o begins

    abbrev new_entries : Entries
    new_entries = entries facts m c p level acting o begins

    abbrev new_values_are : List Value
    new_values_are = values facts m c p level acting o begins

    abbrev new_store : Store
    new_store = store facts m c p level acting o begins

    abbrev new_stack : Stack
    new_stack = stack facts m c p level acting o begins

    abbrev new_stacks : Stacks
    new_stacks = stacks facts m c p level acting o begins

    abbrev new_display : Display
    new_display = display facts m c p level acting o begins

    abbrev inside : Setting
    inside = inner facts m c p level acting o begins

    abbrev own : List ℤ
    own = own_words (called_own k code main_link (stack_mark mark) s)

    abbrev at_hand : IsAtHand here acting.homes acting.entries c.store b w
    at_hand = hand facts m c p level acting entry.own b entry.beside

    abbrev is_top : HasTop facts acting.homes c.store p level w a.activations (acting.entries p)
    is_top = top facts m c p level acting

    abbrev holding : HoldStore here acting.homes acting.entries c.store m.stacks
    holding = hold facts m c p level acting

    -- ## What is passed

    is_filled : AreCells g acting.homes callee.layout new_values_are cells
    is_filled = filled here acting.homes acting.entries c m.stacks b w at_hand p x holding refl entry.known first callee code formals entry.can.takes
        given s.operands below entry.held

    is_lent : AreLent g at_hand.keeps callee new_values_are
    is_lent = lent here acting.homes acting.entries c m.stacks b w at_hand p x holding refl entry.known first callee code formals entry.can.takes given
        s.operands below entry.held

    is_left : drop code.params s.operands ≡ below
    is_left = left here acting.homes acting.entries c m.stacks b w at_hand p x holding refl entry.known first callee code formals entry.can.takes given
        s.operands below entry.held

    -- ## What is kept: what the caller keeps, main's first activation, and the new one

    abbrev keeps : ℕ → Bool
    keeps = keeps_also at_hand.keeps 0

    lent_so : AreLent g keeps callee new_values_are
    lent_so j t own laid = (let is = is_lent j t own laid in (is.0, is.1, kept_before at_hand.keeps 0 is.0.activation is.2))

    fresh : at_hand.keeps now ≡ false
    fresh = not_kept here acting.homes acting.entries c.store m.stacks b w at_hand now holding (is_free facts m c p level acting)

    module _ (same : (q : ℕ) → q ≢ p → at o.table.rows q ≡ at c.table.rows q) where
      keeps_inner : (y : ℕ) → keeps_also keeps now y ≡ true
          → MayKeep (ticked o.table) new_entries p d.communications.callers (mine facts m c p level acting o begins) y
      keeps_inner y is = by (y == now) (y == 0) refl refl
        where
          by : (z v : Bool) → (y == now) ≡ z → (y == 0) ≡ v
              → MayKeep (ticked o.table) new_entries p d.communications.callers (mine facts m c p level acting o begins) y
          by true v h k = of_own_stack p d.communications.callers (mine facts m c p level acting o begins) y (inl (sym (number_is y now h)))
          by false true h k =
              subst (λ i. MayKeep (ticked o.table) new_entries p d.communications.callers (mine facts m c p level acting o begins) i)
              (sym (number_is y 0 k)) (of_main p d.communications.callers (mine facts m c p level acting o begins))
          by false false h k =
              let kept : at_hand.keeps y ≡ true = ap (λ (v : Bool). v || at_hand.keeps y) (sym k)
              ∙ (ap (λ (z : Bool). z || keeps y) (sym h) ∙ is) in
              whole (ticked o.table) (ticked o.table) new_entries new_entries p d.communications.callers (acting.entries p)
              (mine facts m c p level acting o begins) y (λ e among. inr among)
              (may_keep c.table (ticked o.table) acting.entries new_entries p d.communications.callers (acting.entries p) y
              ((seen_here facts m c p level acting entry.own).keeps_these y kept)
              (λ r lender. lenders_stay facts m c p level acting o begins same p r lender))

    references_apart : (j : ℕ) (t : TypeId) (l : Location) → slice_get callee.layout j ≡ Some (Variable t true) → get_or new_values_are j (ordinal
        (pos 0)) ≡ points l → l.activation ≡ now → ⊥
    references_apart j t l laid holds same =
        let given = is_lent j t (entry.can.own j (Variable t true) laid) laid in
        let one : given.0 ≡ l = (let both : points given.0 ≡ points l = sym given.1 ∙ holds in cc) in
        let both : true ≡ false = sym given.2 ∙ ap (λ (y : Location). at_hand.keeps y.activation) one ∙ ap at_hand.keeps same ∙ fresh in
        cc

    -- ## What is seen

    shown : ShowsAround g b a.display
    shown = shows facts m c p level acting entry.own b entry.beside

    outermost : is_mains g.state.blocks callee.outer ≡ true
    outermost = entry.can.nested.outermost (ap (λ (xs : List ℕ). length xs) (sym (nothing_around_main facts m c p level acting)))

    nothing_around : outward a.display callee.outer ≡ []
    nothing_around = outward_none callee.outer a.display (mains_not_shown g b a.display shown callee.outer outermost)

    inner_shows : ShowsAround g callee new_display
    inner_shows =
        record {
          accepts = [];
          scopes = ap (λ (x : Display). callee.scope ∷ map (λ (f : Frame). f.scope) x) nothing_around
              ∙ ap (λ (l : List ℕ). (callee.scope ∷ l) ++ []) (sym (nothing_around_main facts m c p level acting))
              ∙ ap (λ (l : List ℕ). l ++ []) (sym entry.can.nested.around);
          apart = λ i j there. absurd (no_accepts i j there);
        }
      where
        no_accepts : (i j : ℕ) → slice_get [] i ≡ Some j → ⊥
        no_accepts i j there = cc

    small : length s.cells + (8 + length cells) < 2 ^ 32
    small = has_addresses p (length s.cells) s.operands code entry.place

    inner_sees : Sees g new_homes new_entries new_store (keeps_also keeps now) new_display callee [] (word_of (own_place new_home)) (now ∷ 0 ∷ []) begins.view
    inner_sees =
        let main = main_sees_with facts m c p level acting at_hand.keeps (λ y is. at_hand.sees.live y is) in
        new_sees g acting.homes acting.entries c.store now (is_free facts m c p level acting) new_home p own new_values_are holding.types.counted keeps []
        g.main [] main_link (0 ∷ []) (main_view facts m c p level acting) main callee entry.can.scopes 0 entry.can.nested
        (main_shows facts m c p level acting) refl main.links cells is_filled lent_so
        (is_addressed p (length s.cells) (length cells) (length m.stacks) (stack_there facts m c p level acting) acting.alike.holds.few.processes small)
        (outward a.display callee.outer) (λ i apart known. ap (λ (x : Display). frame_of x i) nothing_around)

    -- ## The stacks

    layout : layout_at g new_home ≡ callee.layout
    layout = ap (λ (x : Block). x.layout) entry.can.scopes.by_scope

    new_few : AreFew new_stacks
    new_few = record { cells = few; processes = subst (λ i. i ≤ 1024) (sym (length-set m.stacks p new_stack)) acting.alike.holds.few.processes }
      where
        new_size : length new_stack.cells ≡ length s.cells + (8 + length cells)
        new_size = length-append s.cells (own ++ cells) ∙ ap (λ i. length s.cells + i) (length-append own cells)

        few : (q : ℕ) → length (cells_of new_stacks q) < 2 ^ 32
        few q = by (either_number q p)
          where
            by : (q ≡ p) ⊎ (q ≢ p) → length (cells_of new_stacks q) < 2 ^ 32
            by (inl same) = subst (λ i. i < 2 ^ 32) (sym (ap (λ i. length (cells_of new_stacks i)) same
                ∙ ap (λ (y : Stack). length y.cells) (get_or-set_same m.stacks p new_stack no_stack (stack_there facts m c p level acting)) ∙ new_size)) small
            by (inr apart) = subst (λ i. i < 2 ^ 32) (sym (ap (λ (y : Stack). length y.cells)
                (get_or-set_other m.stacks p q new_stack no_stack apart))) (acting.alike.holds.few.cells q)

    new_hold : HoldStore here new_homes new_entries new_store new_stacks
    new_hold = record {
      types = holding.types;
      memory = call_added g acting.homes acting.entries c.store m.stacks p now callee.scope k code main_link (stack_mark mark) new_values_are is_top.entry
          is_top.below acting.alike.holds.memory is_top.entries (is_free facts m c p level acting)
          (subst (λ (y : Layout). AreCells g acting.homes y new_values_are cells) (sym layout) is_filled);
      few = new_few;
      objects = objects_stay g acting.homes acting.entries c.store now (is_free facts m c p level acting) new_home p own new_values_are callee
          entry.can.objects layout facts.number acting.alike.holds.objects;
    }

    -- ## The code of the procedure

    inner_image : IsOfImage facts.tree inside
    inner_image =
        let has = (has_setting facts m c p level acting).image in
        record { program = refl; code = has.code; lines = has.lines; texts = has.texts; arms = has.arms }

    ends : RET ≡ end_of (sub_with g.state.blocks.subs callee.scope)
    ends = sym (ap end_of entry.can.headed ∙ entry.can.procedure)

    inner_block : IsOfBlock inside callee code
    inner_block = record { last = ends; room = omega arith }

    block : BlockStands inside callee code
    block = block_stands facts.tree inside inner_image k callee code entry.can.there entry.can.is

    -- whatever names are in view, if they are known and those of the program
    checked_in : (e : Env) → AreKnown g callee [] e → e.state ≡ g.state → IsChecked inside callee e
    checked_in e known state =
        names_checked inside new_homes new_entries new_store (keeps_also keeps now) new_display callee (word_of (own_place new_home)) (now ∷ 0 ∷ []) new_stacks
        new_hold.types.counted new_hold.types.sound new_hold.memory new_hold.few new_hold.objects inner_sees e known state same_block tt

    seen_in : (e : Env) → IsChecked inside callee e → IsSeen inside callee e
    seen_in e is = record { known = is.known; seen = is.seen; placed = is.placed; objects = is.objects; beside = is.beside }

    checked : IsChecked inside callee callee.env
    checked = checked_in callee.env entry.can.known entry.can.state

    around : scopes_around g callee ≡ callee.scope ∷ []
    around = entry.can.nested.around ∙ ap (λ (xs : List ℕ). callee.scope ∷ xs) (nothing_around_main facts m c p level acting)

    guards_seen : EachGuardSeen inside callee callee.guard
    guards_seen = by callee.guard refl
      where
        by : (q : Option Guard) → callee.guard ≡ q → EachGuardSeen inside callee q
        by None is = tt
        by (Some guard) is =
            seen_in guard.env
            (checked_in guard.env (guard_known facts.tree acting.alike.program.lawful k callee guard entry.can.there is around)
            (guard_state facts.tree acting.alike.program.lawful acting.alike.program.unbroken callee guard (of_block k callee entry.can.there) is))

    body : Performs inside callee callee.env code.entry below [] begins.body
    body =
        guarded_performs inside callee code block inner_block refl refl
        (each_guard_ready facts.tree acting.alike.program.lawful acting.alike.program.unbroken inside k callee inner_image entry.can.there guards_seen)
        (body_ready facts.tree acting.alike.program.lawful acting.alike.program.unbroken inside callee inner_image refl refl
        (of_block k callee entry.can.there)
        (seen_in callee.env checked))

    does : DoesOn (inner_level facts m c p level acting o begins) code.entry below (going callee.env begins.body)
    does = (omega arith, omega arith, inl (callee, same_block, (checked_for inside callee callee.env begins.body checked, body)))

    -- ## All of it

    pub is_begun : IsChange facts c p o → ((q : ℕ) → q ≢ p → at o.table.rows q ≡ at c.table.rows q)
        → HoldsFor (holders_of facts o) p (at o.table.rows p) mark → IsBegun facts m c p level acting o begins
    is_begun change same holds = record {
      own = entry.own;
      there = entry.can.there;
      is = entry.can.is;
      numbered = entry.can.number;
      by_scope = entry.can.scopes.by_scope;
      objects = entry.can.objects;
      apart = entry.can.apart;
      left = is_left;
      references = references_apart;
      keeps = keeps_also keeps now;
      chain = now ∷ 0 ∷ [];
      sees = inner_sees;
      shows = inner_shows;
      keeps_these = keeps_inner same;
      hold = new_hold;
      ends = ends;
      ending = refl;
      back = entry.back;
      within = entry.within;
      counted = entry.counted;
      linked = entry.linked;
      guarded = entry.guarded;
      does = does;
      holds = holds;
      change = change;
      same = same;
    }
