-- A requeue: an activation takes the place of the last, over the same callers.
use Rattle.std.proofs.Common.{◌≡◌, ◌≢◌, ℕ, ◌+◌, ◌-◌, ◌<◌, ◌==◌, ◌||◌, if◌then◌else◌, ℤ, pos, Bool, true, false, List, [], ◌∷◌}
use Rattle.std.proofs.Common.{length, drop, set, slice_get, get_or, All, Some, None, refl, sym, ap, ◌∙◌, subst, arith, inl}
use Rattle.std.specs.Prelude.{unsigned_abs}
use Rattle.std.proofs.lemmas.List.{get_or-set_same, length-set}
use Rattle.pfc_types.specs.declared.types.TypeId.{TypeId}
use Rattle.pfc_types.specs.declared.scope.Meaning.TheVariants.{Variable}
use Rattle.pfc_types.specs.declared.heads.Formal.{Formal}
use Rattle.pfc_code.specs.declared.images.Block.{Block as CodeBlock}
use Rattle.pfc_code.specs.declared.instructions.Instr.TheVariants.{RET, END}
use Rattle.pfc_world.specs.Holders.{holder_in}
use Rattle.pfc_world.specs.Tables.{at}
use Rattle.pfc_world.specs.Transitions.{ticked}
use Rattle.pfc_semantics.specs.Displays.{Display}
use Rattle.pfc_semantics.specs.Values.{Value, Location, ordinal, points}
use Rattle.pfc_semantics.specs.Store.{Store, with_room, without}
use Rattle.pfc_semantics.specs.Programs.{Block, Guard, Program}
use Rattle.pfc_semantics.specs.Remainders.{Context, Argument}
use Rattle.pfc_semantics.specs.Configurations.{Mark, of_resource, Activation, Activity, Config, activity_of, all_passed}
use Rattle.pfc_semantics.specs.Calls.{new_values, new_display, cells_below}
use Rattle.pfc_translation.specs.Calls.{resource_of}
use Rattle.pfc_translation.specs.Images.{image_of, site_in}
use Rattle.pfc_stacks.specs.Refs.{word_of}
use Rattle.pfc_stacks.specs.Stacks.{own_count}
use Rattle.pfc_stacks.specs.Stacks.{Stack, Stacks, no_stack, stack_of, under_place, block_place, link_place, last_activation}
use Rattle.pfc_stacks.specs.Activations.{has_place, replaced, block_cells, arguments, main_link}
use Rattle.pfc_stacks.specs.Effects.{moved}
use Rattle.pfc_cells.specs.Homes.{Home, Homes}
use Rattle.pfc_cells.specs.Memory.{Entry, Entries, IsAmong, AreCells}
use Rattle.pfc_cells.specs.Activations.{with_home, with_entries}
use Rattle.pfc_machines.specs.declared.machine.Machine.{Machine}
use Rattle.pfc_machines.specs.declared.descriptors.Descriptor.{Descriptor}
use Rattle.pfc_machines.specs.Descriptors.{descriptor_of}
use Rattle.pfc_standing_code.specs.Settings.{View, Setting, of_own, site_of, AreOver, IsBeside}
use Rattle.pfc_standing_code.specs.Words.{AreHeld, AreKnown}
use Rattle.pfc_stack_laws.specs.Standing.{HoldStore, IsAtHand}
use Rattle.pfc_stack_laws.proofs.Moves.{hold_moved}
use Rattle.pfc_views.specs.Views.{own_place, first_number, Sees}
use Rattle.pfc_views.specs.Keeping.{IsLike}
use Rattle.pfc_views.proofs.Changes.{begun}
use Rattle.pfc_call_laws.specs.Blocks.{HasFirstValues, AreLent}
use Rattle.pfc_call_laws.specs.Around.{ShowsAround, keeps_also}
use Rattle.pfc_call_laws.specs.Calls.{home_at}
use Rattle.pfc_call_laws.specs.Inside.{view_inside}
use Rattle.pfc_call_laws.proofs.Passing.{filled, left, lent}
use Rattle.pfc_call_laws.proofs.Calling.{not_kept}
use Rattle.pfc_call_laws.proofs.Inside.{kept_before}
use Rattle.pfc_call_laws.proofs.Replacing.{shows_replaced, replaced_sees, held_replaced}
use Rattle.pfc_representation.specs.Levels.{Facts, program_in, LivingLevel, MayKeep, of_main, of_own as of_own_stack}
use Rattle.pfc_representation.specs.Callers.{IsLinkedBy}
use Rattle.pfc_representation.specs.Keeping.{IsLender}
use Rattle.pfc_representation.specs.Acting.{IsActing}
use Rattle.pfc_representation.proofs.Kept.{may_keep}
use Rattle.pfc_kept_own_actions.proofs.Arrived.{stack_there}
use Rattle.pfc_kept_calls.proofs.Caller.{lender_apart, number_is, entries_here, entries_there, outer, hold, is_free, seen_here, hand, shows}
use Rattle.pfc_kept_calls.proofs.Lists.{set_twice}
use Rattle.pfc_kept_calls.proofs.Ended.{not_main, not_below, no_objects, like_ended, own_is}
use Rattle.pfc_kept_calls.proofs.Returned.{has, e, rest, home, home_at as old_home_at, base, own}
use Rattle.pfc_kept_modules.specs.Exported.{IsExported}
use Rattle.pfc_kept_modules.proofs.Mains.{main_view, main_shows, main_sees_with}
use Rattle.pfc_kept_modules.proofs.Lent.{IsLentOn, lent_apart}
use Rattle.pfc_kept_modules.proofs.Keeping.{everywhere, not_same, ends_with, rest_behind, keeps_but, but_this, still_kept, was_kept, without_top, like_twice}

module _ (facts : Facts) (m : Machine) (c : Config) (p : ℕ) (level : LivingLevel) (acting : IsActing facts m c p level)
    (more : level.setting.last ≡ END → ⊥) where
  abbrev g : Program
  g = program_in facts

  abbrev a : Activity
  a = activity_of g c p

  abbrev d : Descriptor
  d = descriptor_of m.descriptors p

  abbrev s : Stack
  s = stack_of m.stacks p

  abbrev w : ℤ
  w = word_of (last_activation m.stacks p)

  abbrev here : Setting
  here = outer facts m c p level acting

  abbrev pub top : Activation
  top = (has facts m c p level acting more).top

  abbrev pub others : List Activation
  others = (has facts m c p level acting more).next ∷ (has facts m c p level acting more).rest

  abbrev pub old : Entry
  old = e facts m c p level acting more

  abbrev pub lower : List Entry
  lower = rest facts m c p level acting more

  pub activations_are : a.activations ≡ top ∷ others
  activations_are = (has facts m c p level acting more).activations

  pub entries_are : acting.entries p ≡ old ∷ lower
  entries_are = (has facts m c p level acting more).entries_are

  -- what is asked of a requeue to this block, the k-th of the image, of resource r, whose scan stands there
  pub record IsRequeue (b callee : Block) (number k r scan : ℕ) (formals : List Formal) (x : Context) (given : List Argument) (below : List ℤ)
      (guard : Guard) : Type 0 where
    pub own_trial : level.setting.trial ≡ of_own
    pub none : level.arms ≡ []
    pub unmet : level.setting.meetings ≡ []
    pub last : level.setting.last ≡ RET
    pub beside : IsBeside level.setting level.setting.block b
    pub known : AreKnown g b level.setting.accepts x.env
    pub can : IsExported facts.tree number k callee formals
    pub held : AreHeld level.setting.view (site_of here b x) formals given s.operands below
    pub over : AreOver level.setting below
    pub place : has_place p s.base can.code ≡ true
    pub guarded : callee.guard ≡ Some guard
    pub resource : resource_of (site_in g callee) ≡ r
    pub marked : top.mark ≡ of_resource r
    pub holder : holder_in c.resources r ≡ Some p
    pub turn : slice_get (image_of facts.tree).scans r ≡ Some scan
    pub lends : All (IsLentOn g c p top.number) given
    pub below_cells : cells_below others ≡ s.base

  module _ (b callee : Block) (number k r scan : ℕ) (formals : List Formal) (x : Context) (given : List Argument) (below : List ℤ) (guard : Guard)
      (first : HasFirstValues g) (is : IsRequeue b callee number k r scan formals x given below guard) where
    abbrev pub code : CodeBlock
    code = is.can.code

    abbrev pub n : ℕ
    n = c.table.done + 1

    abbrev pub new_entry : Entry
    new_entry = record { activation = n; own = set old.own block_place (pos k) }

    abbrev pub new_home : Home
    new_home = home_at p s.base callee.scope

    abbrev pub homes : Homes
    homes = with_home acting.homes n new_home

    abbrev pub mine : List Entry
    mine = new_entry ∷ lower

    abbrev pub entries : Entries
    entries = with_entries acting.entries p mine

    abbrev pub values : List Value
    values = new_values g callee (all_passed g c p given)

    abbrev pub store : Store
    store = with_room (without c.store old.activation) n values

    abbrev pub under : List ℤ
    under = level.setting.under

    abbrev pub stack : Stack
    stack = record (replaced k code s) { at = scan }

    abbrev pub stacks : Stacks
    stacks = set m.stacks p stack

    abbrev pub cells : List ℤ
    cells = block_cells (arguments code s.operands) (code.cells - code.params)

    abbrev pub view : View
    view = view_inside g.state.forms callee.layout values cells (first_number new_home) 0 (main_view facts m c p level acting)

    abbrev pub display : Display
    display = new_display c callee a.display

    abbrev pub at_hand : IsAtHand here acting.homes acting.entries c.store b w
    at_hand = hand facts m c p level acting is.own_trial b is.beside

    abbrev holding : HoldStore here acting.homes acting.entries c.store m.stacks
    holding = hold facts m c p level acting

    pub free : acting.homes n ≡ None
    free = is_free facts m c p level acting

    -- ## What is passed

    is_filled : AreCells g acting.homes callee.layout values cells
    is_filled = filled here acting.homes acting.entries c m.stacks b w at_hand p x holding refl is.known first callee code formals is.can.takes
        given s.operands below is.held

    is_lent : AreLent g at_hand.keeps callee values
    is_lent = lent here acting.homes acting.entries c m.stacks b w at_hand p x holding refl is.known first callee code formals is.can.takes given
        s.operands below is.held

    is_left : drop code.params s.operands ≡ below
    is_left = left here acting.homes acting.entries c m.stacks b w at_hand p x holding refl is.known first callee code formals is.can.takes given
        s.operands below is.held

    lent_on : (j : ℕ) (t : TypeId) (l : Location) → slice_get callee.layout j ≡ Some (Variable t true) → get_or values j (ordinal (pos 0)) ≡ points l
        → l.activation ≢ old.activation
    lent_on j t l laid holds same =
        lent_apart g c p top.number level.setting.view _ callee formals code is.can.takes given _ s.operands below j t l is.held is.lends laid
        (is.can.own j (Variable t true) laid) holds (same ∙ (has facts m c p level acting more).called.stands.number)

    -- ## What is kept: what others keep of the activation that ends, main's first activation, and the new one

    abbrev pub keeps_these : ℕ → Bool
    keeps_these = keeps_but at_hand.keeps old.activation

    abbrev pub keeps : ℕ → Bool
    keeps = keeps_also keeps_these 0

    lent_so : AreLent g keeps callee values
    lent_so j t own_one laid =
        let given_one = is_lent j t own_one laid in (
          given_one.0,
          given_one.1,
          kept_before keeps_these 0 given_one.0.activation
              (still_kept at_hand.keeps old.activation given_one.0.activation (lent_on j t given_one.0 laid given_one.1) given_one.2),
        )

    abbrev pub mains : Setting
    mains = record here { view = main_view facts m c p level acting; accepts = [] }

    abbrev pub main_hand : IsAtHand mains acting.homes acting.entries c.store g.main main_link
    main_hand = record {
      keeps = keeps;
      display = [];
      chain = 0 ∷ [];
      sees = main_sees_with facts m c p level acting keeps_these (λ y kept. at_hand.sees.live y (was_kept at_hand.keeps old.activation y kept).0);
    }

    no_main : old.activation ≢ 0
    no_main = not_main facts acting.homes acting.entries c.store m.stacks c.table.done acting.alike.holds p old (has facts m c p level acting more).under
        (has facts m c p level acting more).below entries_are (home facts m c p level acting more) (old_home_at facts m c p level acting more)

    gone : keeps old.activation ≡ false
    gone = ap (λ (z : Bool). z || keeps_these old.activation) (not_same old.activation 0 no_main)
        ∙ but_this at_hand.keeps old.activation

    fresh : keeps n ≡ false
    fresh = not_kept mains acting.homes acting.entries c.store m.stacks g.main main_link main_hand n mains_hold free
      where
        mains_hold : HoldStore mains acting.homes acting.entries c.store m.stacks
        mains_hold = record { types = holding.types; memory = holding.memory; few = holding.few; objects = holding.objects }

    pub references_apart : (j : ℕ) (t : TypeId) (l : Location) → slice_get callee.layout j ≡ Some (Variable t true) → get_or values j (ordinal
        (pos 0)) ≡ points l → l.activation ≢ n
    references_apart j t l laid holds same =
        let given_one = lent_so j t (is.can.own j (Variable t true) laid) laid in
        let one : given_one.0 ≡ l = (let both : points given_one.0 ≡ points l = sym given_one.1 ∙ holds in cc) in
        let both : true ≡ false = sym given_one.2 ∙ ap (λ (y : Location). keeps y.activation) one ∙ ap keeps same ∙ fresh in
        cc

    pub lenders_stay : (q i : ℕ) → IsLender c.table q i → (at (ticked c.table).rows i ≡ at c.table.rows i) × (entries i ≡ acting.entries i)
    lenders_stay q i lender = (refl, entries_there acting.entries p mine i (lender_apart c.table p q i acting.actor.ready lender))

    pub keeps_inner : (y : ℕ) → keeps_also keeps n y ≡ true → MayKeep (ticked c.table) entries p d.communications.callers mine y
    keeps_inner y kept = by (y == n) (y == 0) refl refl
      where
        by : (z v : Bool) → (y == n) ≡ z → (y == 0) ≡ v → MayKeep (ticked c.table) entries p d.communications.callers mine y
        by true v h j = of_own_stack p d.communications.callers mine y (inl (sym (number_is y n h)))
        by false true h j =
            subst (λ i. MayKeep (ticked c.table) entries p d.communications.callers mine i) (sym (number_is y 0 j)) (of_main p d.communications.callers mine)
        by false false h j =
            let these : keeps_these y ≡ true = ap (λ (v : Bool). v || keeps_these y) (sym j) ∙ (ap (λ (z : Bool). z || keeps y) (sym h) ∙ kept) in
            let was = was_kept at_hand.keeps old.activation y these in
            without_top (ticked c.table) entries p d.communications.callers old new_entry lower y was.1 (acting.entries p) entries_are
            (may_keep c.table (ticked c.table) acting.entries entries p d.communications.callers (acting.entries p) y
            ((seen_here facts m c p level acting is.own_trial).keeps_these y was.0) (λ i lender. lenders_stay p i lender))

    -- ## What is seen

    shown : ShowsAround g b a.display
    shown = shows facts m c p level acting is.own_trial b is.beside

    linked : get_or old.own link_place (pos 0) ≡ main_link
    linked =
        let stands = (has facts m c p level acting more).called.stands in
        ap (λ ws. get_or ws link_place (pos 0)) stands.words ∙ subst (λ (z : Mark). IsLinkedBy z (own facts m c p level acting more).link) is.marked stands.link

    few_processes : p < 1024
    few_processes = (let few = acting.alike.holds.few.processes in let one = stack_there facts m c p level acting in omega (arith, few, one))

    pub inner_shows : ShowsAround g callee display
    inner_shows = shows_replaced mains acting.homes acting.entries c p k s.base s.operands callee code values old lower main_hand entries_are gone linked free
        few_processes is.place is.can.scopes is.can.nested (main_shows facts m c p level acting) refl b a.display shown

    pub inner_sees : Sees g homes entries store (keeps_also keeps n) display callee [] (word_of (own_place new_home)) (n ∷ 0 ∷ []) view
    inner_sees = replaced_sees mains acting.homes acting.entries c p k s.base s.operands callee code values old lower main_hand entries_are gone linked free
        few_processes is.place is.can.scopes is.can.nested (main_shows facts m c p level acting) refl b a.display shown lent_so is_filled
        acting.alike.program.types.counted

    -- ## The stacks

    pub is_stack : stack_of stacks p ≡ stack
    is_stack = get_or-set_same m.stacks p stack no_stack (stack_there facts m c p level acting)

    abbrev between : Stacks
    between = set m.stacks p (replaced k code s)

    held_between : HoldStore here homes entries store between
    held_between =
        held_replaced here acting.homes acting.entries c m.stacks p k callee code values old (has facts m c p level acting more).under
        (has facts m c p level acting more).below
        (home facts m c p level acting more) holding (stack_there facts m c p level acting) entries_are (old_home_at facts m c p level acting more)
        (base facts m c p level acting more)
        (no_objects facts acting.homes acting.entries c.store m.stacks c.table.done acting.alike.holds p old (has facts m c p level acting more).under
        (has facts m c p level acting more).below entries_are (home facts m c p level acting more) (old_home_at facts m c p level acting more))
        free is.place is.can.scopes is.can.objects is_filled

    moved_is : moved between p scan (replaced k code s).operands ≡ stacks
    moved_is =
        ap (λ (y : Stack). set between p (record y { at = scan; operands = (replaced k code s).operands }))
        (get_or-set_same m.stacks p (replaced k code s) no_stack (stack_there facts m c p level acting))
        ∙ set_twice m.stacks p (replaced k code s) stack

    pub new_hold : HoldStore here homes entries store stacks
    new_hold =
        subst (λ (y : Stacks). HoldStore here homes entries store y) moved_is
        (hold_moved here homes entries store between p scan (replaced k code s).operands
        (subst (λ i. p < i) (sym (length-set m.stacks p (replaced k code s))) (stack_there facts m c p level acting)) held_between)

    -- ## Operands

    own_there : own_count s under_place ≡ length under
    own_there =
        let stands = (has facts m c p level acting more).called.stands in
        ap unsigned_abs
        (own_is facts acting.homes acting.entries c.store m.stacks c.table.done acting.alike.holds p old (has facts m c p level acting more).under
        (has facts m c p level acting more).below entries_are (home facts m c p level acting more) (old_home_at facts m c p level acting more)
        (base facts m c p level acting more) under_place (omega arith)
        ∙ ap (λ ws. get_or ws under_place (pos 0)) stands.words)
        ∙ stands.under

    pub operands_left : stack.operands ≡ under
    operands_left =
        let over = rest_behind code.params s.operands is.over.0 under (is_left ∙ is.over.1) in
        ap (λ i. drop (length s.operands - i) s.operands) own_there
        ∙ ap (λ ops. drop (length ops - length under) ops) over.1 ∙ ends_with over.0 under

    -- ## What does not change for others

    abbrev between_entries : Entries
    between_entries = with_entries acting.entries p lower

    entries_join : with_entries between_entries p (new_entry ∷ between_entries p) ≡ entries
    entries_join = everywhere _ _ (λ q. by (q == p) q)
      where
        by : (z : Bool) (q : ℕ) → (if z then new_entry ∷ between_entries p else (if z then lower else acting.entries q))
            ≡ (if z then mine else acting.entries q)
        by true q = ap (λ es. new_entry ∷ es) (entries_here acting.entries p lower)
        by false q = refl

    pub like : (q : ℕ) (these : List Entry) → (IsAmong old.activation these → ⊥) → (keeping : ℕ → Bool)
        → ((y : ℕ) → keeping y ≡ true → (lenders : List ℕ) × MayKeep c.table acting.entries q lenders these y)
        → IsLike g keeping acting.homes homes acting.entries entries c.store store
    like q these apart keeping kept =
        let stacks_then = m.stacks in
        like_twice g keeping acting.homes acting.homes homes acting.entries between_entries entries c.store (without c.store old.activation) store
        (like_ended facts acting.homes acting.entries c.store stacks_then c.table.done acting.alike.holds p old (has facts m c p level acting more).under
        (has facts m c p level acting more).below entries_are (home facts m c p level acting more) (old_home_at facts m c p level acting more) c.table q these
        apart (λ i lender. lender_apart c.table p q i acting.actor.ready lender) keeping kept)
        (subst (λ (es : Entries). IsLike g keeping acting.homes homes between_entries es (without c.store old.activation) store) entries_join
        (begun g keeping acting.homes between_entries (without c.store old.activation) p n new_home new_entry values free))

    pub at_home : (y : ℕ) (h : Home) → acting.homes y ≡ Some h → homes y ≡ Some h
    at_home = (like p lower (not_below facts acting.homes acting.entries c.store m.stacks c.table.done acting.alike.holds p old
        (has facts m c p level acting more).under
        (has facts m c p level acting more).below entries_are (home facts m c p level acting more) (old_home_at facts m c p level acting more))
        (λ y. false) (λ y kept. absurd (let both : false ≡ true = kept in cc))).at_home
