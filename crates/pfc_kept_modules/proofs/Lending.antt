-- What a requeue passes by reference lies in other activations than the one that it ends.
use Rattle.std.proofs.Common.{◌≡◌, ◌≢◌, ℕ, ◌+◌, ◌^◌, ◌<◌, ℤ, pos, true, false, List, [], ◌∷◌, ◌++◌, length, slice_get, get_or, All}
use Rattle.std.proofs.Common.{Option, Some, None, refl, sym, ap, ◌∙◌, subst, arith, inl, inr, length-append}
use Rattle.std.proofs.lemmas.List.Elements.{All-nil, All-pop, All-push}
use Rattle.std.proofs.lemmas.Option.{get_or_from_slice_get}
use Rattle.pfc_types.specs.declared.heads.Formal.{Formal}
use Rattle.pfc_types.specs.declared.types.TypeId.{TypeId}
use Rattle.pfc_types.specs.declared.scope.Meaning.{Meaning}
use Rattle.pfc_types.specs.declared.scope.Meaning.TheVariants.{Variable, Faulty}
use Rattle.pfc_types.specs.Types.{Forms}
use Rattle.pfc_code.specs.declared.instructions.Instr.TheVariants.{END}
use Rattle.pfc_semantics.specs.Values.{Selector, Value, Location, ordinal, compound, points}
use Rattle.pfc_semantics.specs.Store.{variable, values_in}
use Rattle.pfc_semantics.specs.Layouts.{Layout}
use Rattle.pfc_semantics.specs.Displays.{Spot, Frame, Display, main_frame, frame_of, own_location, reached}
use Rattle.pfc_semantics.specs.Programs.{Block, Program}
use Rattle.pfc_semantics.specs.Remainders.{Context, Argument, by_value, by_reference}
use Rattle.pfc_semantics.specs.Configurations.{Config, activity_of, location_for}
use Rattle.pfc_translation.specs.Sites.{Site, is_mains, is_reference, links_to, layout_with, place_of, refers}
use Rattle.pfc_stacks.specs.declared.refs.Ref.{Ref}
use Rattle.pfc_stacks.specs.Refs.{word_of, ref_of}
use Rattle.pfc_stacks.specs.Stacks.{own_cells, cells_of, last_activation}
use Rattle.pfc_cells.specs.Shapes.{Fits, here as whole_here, is_number, is_array, is_record}
use Rattle.pfc_cells.specs.Homes.{Home, Homes, Lies, layout_at, laid_type, cells_before}
use Rattle.pfc_cells.specs.Memory.{Entry, Entries, IsAmong, Lives}
use Rattle.pfc_cells.proofs.Reading.{fits}
use Rattle.pfc_machines.specs.declared.machine.Machine.{Machine}
use Rattle.pfc_standing_code.specs.Settings.{of_own, site_of, IsBeside}
use Rattle.pfc_standing_code.specs.Typed.{unlined, whole_of}
use Rattle.pfc_standing_code.specs.Words.{AreKnown, IsWord, IsArgument, AreHeldAt, none_held, one_more, IsLasting}
use Rattle.pfc_stack_laws.specs.Standing.{IsAtHand}
use Rattle.pfc_views.specs.Views.{own_place, IsLiving, latest, IsKept, AreLinked, block_site, IsNamed}
use Rattle.pfc_views.proofs.Living.{is_among, own_of}
use Rattle.pfc_views.proofs.Links.{ref_back}
use Rattle.pfc_call_laws.specs.Calls.{first_home}
use Rattle.pfc_call_laws.proofs.Displays.{no_frame}
use Rattle.pfc_call_laws.proofs.Inside.{mains_not_shown}
use Rattle.pfc_representation.specs.Levels.{Facts, program_in, LivingLevel, block_of}
use Rattle.pfc_representation.specs.Callers.{StandsFor}
use Rattle.pfc_representation.specs.Acting.{IsActing}
use Rattle.pfc_kept_calls.proofs.Caller.{outer, hand, shows}
use Rattle.pfc_kept_calls.proofs.Ended.{not_main, only_there}
use Rattle.pfc_kept_calls.proofs.Returned.{has, e, home, home_at}
use Rattle.pfc_kept_modules.proofs.Mains.{mains_code, main_lives}
use Rattle.pfc_kept_modules.proofs.Lent.{IsLentOn}

some_same : {A : Type 0} (x y : A) → Some x ≡ Some y → x ≡ y
some_same x y h = cc

-- the first activation that a static link leads to
first_linked : (homes : Homes) (entries : Entries) (keeps : _) (w : ℤ) (chain : List ℕ) (a : ℕ) → AreLinked homes entries keeps w chain
    → slice_get chain 0 ≡ Some a → IsKept homes entries keeps w a
first_linked homes entries keeps w [] a links there = absurd (let none : None ≡ Some a = there in cc)
first_linked homes entries keeps w (x ∷ chain) a links there = subst (λ (y : ℕ). IsKept homes entries keeps w y) (some_same x a there) links.0

reference_of : (m : Meaning) → is_reference m ≡ true → (t : TypeId) × (m ≡ Variable t true)
reference_of (Variable t true) is = (t, refl)
reference_of (Variable t false) is = absurd (let both : false ≡ true = is in cc)
reference_of m is = absurd (let both : false ≡ true = is in cc)

-- a value of a type points nowhere
points_nowhere : (forms : Forms) (t : Option TypeId) (v : Value) → Fits forms t v → (l : Location) → v ≡ points l → ⊥
points_nowhere forms None v is l h = (let one : v ≡ ordinal is.0 = is.1 in cc)
points_nowhere forms (Some t) _ (is_number u n parts) l h = cc
points_nowhere forms (Some t) _ (is_array u over element low high vs form of) l h = cc
points_nowhere forms (Some t) _ (is_record u fields vs form of) l h = cc

own_reached : (v : Value) (l : Location) (ss : List Selector) → ((k : Location) → v ≡ points k → ⊥) → (reached v l ss).activation ≡ l.activation
own_reached (ordinal n) l ss none = refl
own_reached (compound vs) l ss none = refl
own_reached (points k) l ss none = absurd (none k refl)

module _ (facts : Facts) (m : Machine) (c : Config) (p : ℕ) (level : LivingLevel) (acting : IsActing facts m c p level)
    (more : level.setting.last ≡ END → ⊥) (own_trial : level.setting.trial ≡ of_own) (b : Block)
    (beside : IsBeside level.setting level.setting.block b) (x : Context) (known : AreKnown (program_in facts) b level.setting.accepts x.env) where
  abbrev g : Program
  g = program_in facts

  abbrev display : Display
  display = (activity_of g c p).display

  abbrev w : ℤ
  w = word_of (last_activation m.stacks p)

  abbrev here : Site
  here = block_site g b

  abbrev at_hand : IsAtHand (outer facts m c p level acting) acting.homes acting.entries c.store b w
  at_hand = hand facts m c p level acting own_trial b beside

  -- the activation that ends
  abbrev old : Entry
  old = e facts m c p level acting more

  abbrev its_home : Home
  its_home = home facts m c p level acting more

  abbrev number : ℕ
  number = (has facts m c p level acting more).top.number

  abbrev stands : StandsFor facts acting.homes c.store p (has facts m c p level acting more).top old w
      (has facts m c p level acting more).called.own level
  stands = (has facts m c p level acting more).called.stands

  -- ## Where it stands

  small : (q : ℕ) (a : Entry) (there : Home) → acting.homes a.activation ≡ Some there → IsLiving a (acting.entries q) → there.cell < 2 ^ 32
  small q a there at living =
      let own = own_of g acting.homes acting.entries c.store m.stacks q a there acting.alike.holds.memory at living in
      let whole : length (cells_of m.stacks q) ≡ length own.before + (length a.own + length own.after) =
      ap (λ (l : List ℤ). length l) own.reads ∙ length-append own.before (a.own ++ own.after)
      ∙ ap (λ n. length own.before + n) (length-append a.own own.after) in
      let size : length a.own ≡ 8 = own.size in
      let place = own.place in
      let few : length (cells_of m.stacks q) < 2 ^ 32 = acting.alike.holds.few.cells q in
      omega (arith, whole, size, place, few)

  old_living : IsLiving old (acting.entries p)
  old_living = subst (λ (es : List Entry). IsLiving old es) (sym (has facts m c p level acting more).entries_are)
      (latest ((has facts m c p level acting more).under ∷ (has facts m c p level acting more).below))

  -- the first of those that the links lead to
  is_first : (a : ℕ) → slice_get at_hand.chain 0 ≡ Some a → old.activation ≡ a
  is_first a there =
      let first = first_linked acting.homes acting.entries at_hand.keeps w at_hand.chain a at_hand.sees.links there in
      let at : acting.homes first.entry.activation ≡ Some first.home = ap acting.homes first.number ∙ first.at in
      only_there facts acting.homes acting.entries c.store m.stacks c.table.done acting.alike.holds p old (has facts m c p level acting more).under
      (has facts m c p level acting more).below (has facts m c p level acting more).entries_are its_home (home_at facts m c p level acting more) a
      first.process first.home (subst (λ i. IsAmong i (acting.entries first.process)) first.number
      (is_among first.entry (acting.entries first.process) first.living)) first.at
      (sym (ref_back (own_place first.home) (small first.process first.entry first.home at first.living)) ∙ ap ref_of (sym first.word ∙ stands.word)
      ∙ ref_back (own_place its_home) (small p old its_home (home_at facts m c p level acting more) old_living))

  -- ## A variable

  module _ (v : Spot) (t : Option TypeId) (word : ℤ)
      (is : IsWord level.setting.view (site_of (outer facts m c p level acting) b x) v t word) where
    abbrev frame : Frame
    frame = frame_of display v.scope

    abbrev meaning : Meaning
    meaning = is.declared.meaning

    named : IsNamed g acting.homes c.store at_hand.keeps display b at_hand.chain level.setting.view (whole_of v) meaning
    named = at_hand.sees.names (whole_of v) meaning (known v.scope is.declared.seen) is.declared.own is.declared.laid is.declared.variable

    laid : slice_get (layout_with here v.scope) (place_of here v) ≡ Some meaning
    laid = is.declared.laid

    -- what a reference parameter of its own stands for
    reference_apart : links_to here v.scope ≡ 0 → refers here v ≡ true → (location_for g c p v).activation ≢ number
    reference_apart none refer same =
        let reference = reference_of meaning (sym (ap is_reference (get_or_from_slice_get (layout_with here v.scope) (place_of here v) meaning Faulty laid))
        ∙ refer) in
        let target = named.target reference.0 reference.1 in
        let place : ℕ = frame.first + v.variable in
        let is_old : frame.activation ≡ number = sym (is_first frame.activation (ap (λ n. slice_get at_hand.chain n) (sym none) ∙ named.linked))
        ∙ stands.number in
        let one : named.home ≡ stands.home = some_same named.home stands.home (sym named.at ∙ ap acting.homes is_old ∙ stands.at) in
        let layout : layout_with here v.scope ≡ (block_of level).layout = sym named.layout ∙ ap (λ (y : Home). layout_at g y) one ∙ stands.laid in
        let its : slice_get (block_of level).layout place ≡ Some (Variable reference.0 true) =
        ap (λ (l : Layout). slice_get l place) (sym layout) ∙ ap (λ k. slice_get (layout_with here v.scope) k) named.place ∙ laid ∙ ap Some reference.1 in
        let holds : get_or (values_in c.store number) place (ordinal (pos 0)) ≡ points target.0 =
        ap (λ a. get_or (values_in c.store a) place (ordinal (pos 0))) (sym is_old) ∙ target.2 in
        let lies : (location_for g c p v).activation ≡ target.0.activation =
        ap (λ (y : Value). (reached y (own_location display v) v.selectors).activation) target.2 in
        stands.apart place reference.0 target.0 its holds (sym lies ∙ same)

    module _ (mains : is_mains g.state.blocks v.scope ≡ true) where
      its_frame : frame ≡ main_frame v.scope
      its_frame = no_frame v.scope display (mains_not_shown g b display (shows facts m c p level acting own_trial b beside) v.scope mains)

      its_layout : layout_with here v.scope ≡ g.main.layout
      its_layout =
          let one : named.home ≡ first_home 0 0 = some_same named.home (first_home 0 0) (sym named.at
          ∙ ap (λ (f : Frame). acting.homes f.activation) its_frame ∙ acting.alike.holds.main) in
          sym named.layout ∙ ap (λ (y : Home). layout_at g y) one ∙ ap (λ (y : Block). y.layout) (mains_code facts m c p level acting).by_scope

      own : is_reference meaning ≡ false
      own = (mains_code facts m c p level acting).own (place_of here v) meaning (ap (λ (l : Layout). slice_get l (place_of here v)) (sym its_layout) ∙ laid)

      abbrev place : Ref
      place = record {
        process = named.home.process;
        cell = named.home.cell + own_cells + cells_before g.state.forms (layout_at g named.home) (own_location display v).variable + 0;
      }

      lies : Lies g acting.homes (own_location display v) (laid_type meaning) place
      lies = record {
        home = named.home;
        behind = 0;
        is = record {
          at = named.at;
          meaning = meaning;
          laid = ap (λ (l : Layout). slice_get l (own_location display v).variable) named.layout
              ∙ ap (λ k. slice_get (layout_with here v.scope) k) named.place ∙ laid;
          variable = is.declared.variable;
          own = own;
          path = whole_here (laid_type meaning);
        };
        place = refl;
      }

      lives : Lives acting.entries frame.activation
      lives = subst (λ (f : Frame). Lives acting.entries f.activation) (sym its_frame) (main_lives facts m c p level acting)

      main_apart : (location_for g c p v).activation ≢ number
      main_apart same =
          let value : Fits g.state.forms (laid_type meaning) (variable c.store (own_location display v)) =
          fits g acting.alike.program.types.counted acting.homes acting.entries c.store m.stacks (own_location display v) (laid_type meaning) place
          acting.alike.holds.memory lives lies in
          let there : (location_for g c p v).activation ≡ 0 =
          own_reached (variable c.store (own_location display v)) (own_location display v) v.selectors
          (points_nowhere g.state.forms (laid_type meaning) (variable c.store (own_location display v)) value)
          ∙ ap (λ (f : Frame). f.activation) its_frame in
          not_main facts acting.homes acting.entries c.store m.stacks c.table.done acting.alike.holds p old (has facts m c p level acting more).under
          (has facts m c p level acting more).below (has facts m c p level acting more).entries_are its_home (home_at facts m c p level acting more)
          (stands.number ∙ sym same ∙ there)

  -- ## All that is passed

  abbrev lined : Site
  lined = site_of (outer facts m c p level acting) b x

  abbrev site : Site
  site = unlined lined

  is_lent : (f : Formal) (a : Argument) (words : List ℤ) → IsArgument level.setting.view site f a words → IsLasting lined a → IsLentOn g c p number a
  is_lent f (by_value y) words is lasts = tt
  is_lent f (by_reference v) words is (inl mains) = main_apart v f.t is.0 is.2 mains
  is_lent f (by_reference v) words is (inr own) = reference_apart v f.t is.0 is.2 own.0 own.1

  pub all_lent : (formals : List Formal) (given : List Argument) (ops below : List ℤ) → AreHeldAt level.setting.view site formals given ops below
      → All (IsLasting lined) given → All (IsLentOn g c p number) given
  all_lent _ _ _ _ (none_held below) lasts = All-nil (IsLentOn g c p number)
  all_lent _ _ _ _ (one_more formals given ops below f a words held is) lasts =
      let parts = All-pop (IsLasting lined) (given ++ a ∷ []) given (Some a) refl lasts in
      All-push (IsLentOn g c p number) given a (all_lent formals given ops below held parts.0) (is_lent f a words is parts.1)
