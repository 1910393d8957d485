-- An activation sees its own variables, and what is around its block.
use Rattle.std.proofs.Common.{◌≡◌, ◌≢◌, ℕ, zero, suc, ◌+◌, ◌-◌, ◌^◌, ◌<◌, ◌≤◌, ℤ, pos, Bool, true, false, ◌||◌, if◌then◌else◌, List, [], ◌∷◌, length, take}
use Rattle.std.proofs.Common.{drop, get_or, slice_get, Some, refl, sym, ap, ap₂, ◌∙◌, subst, arith, length-drop, inl, inr}
use Rattle.std.specs.Prelude.{◌==◌, position, unwrap_or}
use Rattle.std.specs.List.{list_any}
use Rattle.pfc_types.specs.declared.types.TypeId.{TypeId}
use Rattle.pfc_types.specs.declared.scope.Meaning.{Meaning}
use Rattle.pfc_types.specs.declared.scope.Meaning.TheVariants.{Variable}
use Rattle.pfc_semantics.specs.Values.{Location, ordinal, points}
use Rattle.pfc_semantics.specs.Store.{Store, values_in}
use Rattle.pfc_semantics.specs.Layouts.{Layout, is_laid}
use Rattle.pfc_semantics.specs.Displays.{Spot, Frame, Display, frame_of, outward}
use Rattle.pfc_semantics.specs.Programs.{Block, Program, block_at, layout_cells}
use Rattle.pfc_translation.specs.Sites.{Site, is_mains, linked, level_of, links_to, is_accept, layout_with, laid_before, before_accept, place_of, cell_of}
use Rattle.pfc_translation.specs.Sites.{is_reference}
use Rattle.pfc_stacks.specs.Refs.{word_of}
use Rattle.pfc_stacks.specs.Stacks.{link_place}
use Rattle.pfc_cells.specs.Shapes.{AreCounted}
use Rattle.pfc_cells.specs.Homes.{Home, Homes, layout_at, cells_before}
use Rattle.pfc_cells.specs.Memory.{AreCells, Entry, Entries, Lives, is_pointer}
use Rattle.pfc_standing_code.specs.Settings.{View}
use Rattle.pfc_standing_code.specs.Typed.{variables_of}
use Rattle.pfc_standing_code.specs.Words.{is_known}
use Rattle.pfc_views.specs.Views.{IsLiving, own_place, first_number, AreLinked, IsCell, IsReferenceCell, block_site, IsNamed, Sees}
use Rattle.pfc_views.proofs.Living.{lives}
use Rattle.pfc_call_laws.specs.Blocks.{own_variables, AreLent, AreLentTo}
use Rattle.pfc_call_laws.specs.Around.{scopes_around, HasScopes, IsNested, ShowsAround, IsOpenAccept, keeps_also}
use Rattle.pfc_call_laws.specs.Inside.{refers_at, held_in, view_inside}
use Rattle.pfc_call_laws.proofs.Lists.{slice_dropped}
use Rattle.pfc_call_laws.proofs.Places.{or_cases, or_left, or_right, place_at, begins_there, reference_at, refers_there, as_pointer, as_reference, place_within}
use Rattle.pfc_call_laws.proofs.Places.{held_at}
use Rattle.pfc_call_laws.proofs.Displays.{is_same, is_other, same_of, linked_not_mains, any_at, at_any, place_of_scope, no_place}
use Rattle.pfc_call_laws.proofs.Keeping.{linked_too}
use Rattle.pfc_call_laws.proofs.Inside.{same_layout, same_before, same_variables, kept_before, frame_around, frame_main}

some_same : {A : Type 0} (x y : A) → Some x ≡ Some y → x ≡ y
some_same x y h = cc

bit_false : (c : Bool) → (c ≡ true → ⊥) → c ≡ false
bit_false true h = absurd (h refl)
bit_false false h = refl

module _ (g : Program) (sound : AreCounted g.state.forms) (homes : Homes) (entries : Entries) (store : Store) (keeps : ℕ → Bool) (display : Display)
    (b : Block) (accepts : List ℕ) (w : ℤ) (chain : List ℕ) (view : View)
    (sees : Sees g homes entries store keeps display b accepts w chain view) (callee : Block) (known_block : HasScopes g callee) (l : ℕ)
    (nested : IsNested g b callee l) (shows : ShowsAround g b display)
    (a : ℕ) (home : Home) (at : homes a ≡ Some home) (scope : home.scope ≡ callee.scope) (q : ℕ) (e : Entry) (living : IsLiving e (entries q))
    (number : e.activation ≡ a)
    (link : AreLinked homes entries keeps (get_or e.own link_place (pos 0)) (drop l chain)) (cells : List ℤ)
    (holds : AreCells g homes callee.layout (values_in store a) cells)
    (lent : AreLent g keeps callee (values_in store a)) (small : first_number home + length cells < 2 ^ 42)
    (more : Display) (alike : (i : ℕ) → callee.scope ≢ i → is_known g.state.blocks callee [] i ≡ true
    → frame_of more i ≡ frame_of (outward display callee.outer) i)
    (its_accepts : List ℕ) (are_open : (i : ℕ) → list_any (λ j. j == i) its_accepts ≡ true → IsOpenAccept g callee a more i)
    (lent_to : AreLentTo g keeps callee its_accepts (values_in store a)) where
  abbrev frame : Frame
  frame = record { scope = callee.scope; activation = a; first = 0 }

  abbrev inner_display : Display
  inner_display = frame ∷ more

  abbrev inner_keeps : ℕ → Bool
  inner_keeps = keeps_also keeps a

  abbrev inner_chain : List ℕ
  inner_chain = a ∷ drop l chain

  abbrev inner_view : View
  inner_view = view_inside g.state.forms callee.layout (values_in store a) cells (first_number home) l view

  abbrev here : Site
  here = block_site g callee

  abbrev there : Site
  there = block_site g b

  layout : layout_at g home ≡ callee.layout
  layout = ap (λ i. (block_at g i).layout) scope ∙ ap (λ (x : Block). x.layout) known_block.by_scope

  is_live : (x : ℕ) → keeps_also keeps a x ≡ true → Lives entries x
  is_live x h = elim (or_cases (x == a) (keeps x) h) [ inl e ↦ own e | inr k ↦ sees.live x k ]
    where
      own : (x == a) ≡ true → Lives entries x
      own h = subst (λ n. Lives entries n) (number ∙ sym (same_of x a h)) (lives entries q e living)

  are_linked : AreLinked homes entries inner_keeps (word_of (own_place home)) inner_chain
  are_linked = (
    record {
      home = home;
      at = at;
      process = q;
      entry = e;
      living = living;
      number = number;
      kept = or_left (a == a) (keeps a) (is_same a a refl);
      word = refl;
    },
    linked_too keeps inner_keeps (kept_before keeps a) homes entries (get_or e.own link_place (pos 0)) (drop l chain) link,
  )

  first_at : (n x : ℕ) (other : Home) → slice_get inner_chain n ≡ Some x → homes x ≡ Some other → inner_view.first n ≡ first_number other
  first_at zero x other there_is its = ap first_number (some_same home other (sym at ∙ ap homes (some_same a x there_is) ∙ its))
  first_at (suc n) x other there_is its = sees.firsts (l + n) x other (sym (slice_dropped l chain n) ∙ there_is) its

  cell_at : (n d : ℕ) → inner_view.reaches n d ≡ true → (x : ℕ) × (slice_get inner_chain n ≡ Some x) × IsCell g homes x d × (inner_view.first n + d < 2 ^ 42)
  cell_at zero d reached =
      let place = place_at g.state.forms callee.layout d reached in
      let within : cells_before g.state.forms callee.layout place.place ≤ length cells = place_within g sound homes callee.layout
      (values_in store a) cells holds place.place place.meaning place.laid in
      let first : cells_before g.state.forms callee.layout place.place ≡ d = place.first in (
        a,
        refl,
        record {
          home = home;
          at = at;
          place = place.place;
          meaning = place.meaning;
          laid = ap (λ (x : Layout). slice_get x place.place) layout ∙ place.laid;
          first = ap (λ (x : Layout). cells_before g.state.forms x place.place) layout ∙ place.first;
        },
        omega (arith, small, within, first),
      )
  cell_at (suc n) d reached =
      let old = sees.cells (l + n) d reached in
      (old.0, slice_dropped l chain n ∙ old.1, old.2, old.3)

  reference_cell : (n d : ℕ) → inner_view.reaches n d ≡ true → inner_view.refers n d ≡ true
      → (x : ℕ) × (slice_get inner_chain n ≡ Some x) × IsReferenceCell g homes store x d (inner_view.held n d)
  reference_cell zero d reached refers =
      let place = reference_at g.state.forms callee.layout (values_in store a) d refers in
      let reference = as_reference place.meaning place.reference in
      let target = as_pointer (get_or (values_in store a) place.place (ordinal (pos 0))) place.pointer in
      let laid : slice_get callee.layout place.place ≡ Some (Variable reference.0 true) = place.laid ∙ ap Some reference.1 in
      let held = held_at g sound homes callee.layout (values_in store a) cells holds place.place reference.0 target.0 laid target.1 in (
        a,
        refl,
        record {
          home = home;
          at = at;
          place = place.place;
          t = reference.0;
          laid = ap (λ (x : Layout). slice_get x place.place) layout ∙ laid;
          first = ap (λ (x : Layout). cells_before g.state.forms x place.place) layout ∙ place.first;
          target = target.0;
          holds = target.1;
          word = held.word;
          lies = held.lies;
          number = held.number ∙ ap (λ n. pos (held_in true cells n)) place.first ∙ sym (ap (λ (x : Bool). pos (held_in x cells d)) refers);
        },
      )
  reference_cell (suc n) d reached refers =
      let old = sees.references (l + n) d reached refers in
      (old.0, slice_dropped l chain n ∙ old.1, old.2)

  -- ## The own scope

  abbrev around : List ℕ
  around = scopes_around g b

  own_not_mains : is_mains g.state.blocks callee.scope ≡ false
  own_not_mains = linked_not_mains g.state.blocks callee.env.view 0 callee.scope (ap (λ xs. slice_get xs 0) nested.around)

  zero_least : (n : ℕ) → 0 ≤ n
  zero_least n = omega arith

  own_known : is_known g.state.blocks callee [] callee.scope ≡ true
  own_known =
      or_right (is_mains g.state.blocks callee.scope) _
      (or_left (list_any (λ j. j == callee.scope) (scopes_around g callee)) _ (at_any callee.scope (scopes_around g callee) 0
      (ap (λ xs. slice_get xs 0) nested.around)))

  own_links : links_to here callee.scope ≡ 0
  own_links =
      ap (λ (c : Bool). if c then level_of g.state.blocks callee else unwrap_or (position (λ j. j == callee.scope) (linked g.state.blocks callee.env.view)) 0)
      own_not_mains
      ∙ ap (λ xs. unwrap_or (position (λ j. j == callee.scope) xs) 0) nested.around
      ∙ place_of_scope (callee.scope ∷ drop l around) 0 callee.scope refl (λ j h. zero_least j)

  own_layout : layout_with here callee.scope ≡ callee.layout
  own_layout =
      ap (λ (c : Bool). if c then callee.layout else (if is_mains g.state.blocks callee.scope then g.main.layout else (block_at g callee.scope).layout))
      (known_block.no_accept callee.scope own_known)
      ∙ ap (λ (c : Bool). if c then g.main.layout else (block_at g callee.scope).layout) own_not_mains
      ∙ ap (λ (x : Block). x.layout) known_block.by_scope

  own_before : laid_before here callee.scope ≡ 0
  own_before = ap (λ (c : Bool). if c then before_accept here callee.scope else 0) (known_block.no_accept callee.scope own_known)

  -- a variable that lies in the own cells, at its place of the layout
  in_cells : (v : Spot) (meaning : Meaning) (f : Frame) → frame_of inner_display v.scope ≡ f → f.activation ≡ a → f.first ≡ laid_before here v.scope
      → links_to here v.scope ≡ 0
      → layout_with here v.scope ≡ callee.layout → slice_get (layout_with here v.scope) (place_of here v) ≡ Some meaning
      → ((t : TypeId) → slice_get callee.layout (place_of here v) ≡ Some (Variable t true)
      → (x : Location) × (get_or (values_in store a) (place_of here v) (ordinal (pos 0)) ≡ points x) × (keeps x.activation ≡ true))
      → IsNamed g homes store inner_keeps inner_display callee inner_chain inner_view v meaning
  in_cells v meaning f its_frame activation first links its_layout laid its_lent =
      let k : ℕ = place_of here v in
      let cell : cell_of here v ≡ cells_before g.state.forms callee.layout k = ap (λ (x : Layout). layout_cells g.state.forms (take k x)) its_layout in
      let laid_there : slice_get callee.layout k ≡ Some meaning = ap (λ (x : Layout). slice_get x k) (sym its_layout) ∙ laid in
      let place : (frame_of inner_display v.scope).first + v.variable ≡ k = ap (λ (x : Frame). x.first + v.variable) its_frame
      ∙ ap (λ n. n + v.variable) first in
      let is_own : (frame_of inner_display v.scope).activation ≡ a = ap (λ (x : Frame). x.activation) its_frame ∙ activation in
      record {
        linked = ap (λ n. slice_get inner_chain n) links ∙ ap Some (sym is_own);
        home = home;
        at = ap homes is_own ∙ at;
        place = place;
        layout = layout ∙ sym its_layout;
        reached = ap₂ (λ n d. inner_view.reaches n d) links cell ∙ begins_there g.state.forms callee.layout k meaning laid_there;
        refers = λ is. ap₂ (λ n d. inner_view.refers n d) links cell ∙ refers_here laid_there its_lent is;
        target = λ t is. (
            let one = its_lent t (laid_there ∙ ap Some is) in
            let held = held_at g sound homes callee.layout (values_in store a) cells holds k t one.0 (laid_there ∙ ap Some is) one.1 in (
              one.0,
              held.word,
              ap₂ (λ x n. get_or (values_in store x) n (ordinal (pos 0))) is_own place ∙ one.1,
              kept_before keeps a one.0.activation one.2,
              held.lies,
              held.number
                  ∙ sym (ap (λ (x : Bool). pos (held_in x cells (cells_before g.state.forms callee.layout k)))
                  (refers_here laid_there its_lent (ap is_reference is)))
                  ∙ ap₂ (λ n d. pos (inner_view.held n d)) (sym links) (sym cell),
            ));
      }
    where
      refers_here : slice_get callee.layout (place_of here v) ≡ Some meaning
          → ((t : TypeId) → slice_get callee.layout (place_of here v) ≡ Some (Variable t true)
          → (x : Location) × (get_or (values_in store a) (place_of here v) (ordinal (pos 0)) ≡ points x) × (keeps x.activation ≡ true))
          → is_reference meaning ≡ true → refers_at g.state.forms callee.layout (values_in store a)
          (cells_before g.state.forms callee.layout (place_of here v)) ≡ true
      refers_here laid_there its_lent is =
          let reference = as_reference meaning is in
          let one = its_lent reference.0 (laid_there ∙ ap Some reference.1) in
          refers_there g.state.forms callee.layout (values_in store a) (place_of here v) meaning laid_there is (ap is_pointer one.1)

  own_named : (v : Spot) (meaning : Meaning) → v.scope ≡ callee.scope → v.variable < variables_of here v.scope
      → slice_get (layout_with here v.scope) (place_of here v) ≡ Some meaning → IsNamed g homes store inner_keeps inner_display callee inner_chain inner_view
      v meaning
  own_named v meaning same own laid =
      let before : laid_before here v.scope ≡ 0 = ap (laid_before here) same ∙ own_before in
      let place : place_of here v ≡ v.variable = omega (arith, before) in
      let few : v.variable < own_variables g callee = subst (λ i. v.variable < variables_of here i) same own in
      in_cells v meaning frame (ap (λ (c : Bool). if c then frame else frame_of more v.scope) (is_same callee.scope v.scope (sym same))) refl (sym before)
      (ap (links_to here) same ∙ own_links)
      (ap (layout_with here) same ∙ own_layout) laid (λ t is. (
      let one = lent v.variable t few (ap (λ k. slice_get callee.layout k) (sym place) ∙ is) in
      (one.0, ap (λ k. get_or (values_in store a) k (ordinal (pos 0))) place ∙ one.1, one.2)))

  -- a parameter of an accept that is open
  accept_named : (v : Spot) (meaning : Meaning) → list_any (λ j. j == v.scope) its_accepts ≡ true → v.variable < variables_of here v.scope
      → slice_get (layout_with here v.scope) (place_of here v) ≡ Some meaning → IsNamed g homes store inner_keeps inner_display callee inner_chain inner_view
      v meaning
  accept_named v meaning among own laid =
      let is = are_open v.scope among in
      let f : Frame = record { scope = v.scope; activation = a; first = before_accept here v.scope } in
      let before : laid_before here v.scope ≡ before_accept here v.scope = ap (λ (c : Bool). if c then before_accept here v.scope else 0) is.accept in
      let its_layout : layout_with here v.scope ≡ callee.layout =
      ap (λ (c : Bool). if c then callee.layout else (if is_mains g.state.blocks v.scope then g.main.layout else (block_at g v.scope).layout)) is.accept in
      let place : place_of here v ≡ before_accept here v.scope + v.variable = ap (λ n. n + v.variable) before in
      in_cells v meaning f (ap (λ (c : Bool). if c then frame else frame_of more v.scope) (is_other callee.scope v.scope apart) ∙ is.frame) refl
      (sym before) links its_layout laid (λ t there_is. (
      let one = lent_to v t among own (ap (λ k. slice_get callee.layout k) (sym place) ∙ there_is) in
      (one.0, ap (λ k. get_or (values_in store a) k (ordinal (pos 0))) place ∙ one.1, one.2)))
    where
      unknown : is_known g.state.blocks callee [] v.scope ≡ true → ⊥
      unknown known = (let is = are_open v.scope among in let both : true ≡ false = sym is.accept ∙ known_block.no_accept v.scope known in cc)

      apart : callee.scope ≢ v.scope
      apart same = unknown (subst (λ i. is_known g.state.blocks callee [] i ≡ true) same own_known)

      not_mains : is_mains g.state.blocks v.scope ≡ false
      not_mains = bit_false (is_mains g.state.blocks v.scope) (λ h. unknown (or_left (is_mains g.state.blocks v.scope) _ h))

      not_around : (k : ℕ) → slice_get (scopes_around g callee) k ≡ Some v.scope → ⊥
      not_around k h =
          unknown (or_right (is_mains g.state.blocks v.scope) _ (or_left (list_any (λ j. j == v.scope) (scopes_around g callee)) _
          (at_any v.scope (scopes_around g callee) k h)))

      links : links_to here v.scope ≡ 0
      links =
          ap (λ (c : Bool). if c then level_of g.state.blocks callee else unwrap_or (position (λ j. j == v.scope) (linked g.state.blocks callee.env.view)) 0)
          not_mains
          ∙ no_place (scopes_around g callee) v.scope not_around

  -- ## Scopes around

  outer_named : (v : Spot) (meaning : Meaning) (m : ℕ) → is_known g.state.blocks callee [] v.scope ≡ true → is_known g.state.blocks b accepts v.scope ≡ true
      → is_accept b v.scope ≡ false → links_to here v.scope ≡ suc m → links_to there v.scope ≡ l + m
      → callee.scope ≢ v.scope → frame_of (outward display callee.outer) v.scope ≡ frame_of display v.scope → v.variable < variables_of here v.scope
      → slice_get (layout_with here v.scope) (place_of here v) ≡ Some meaning → is_laid meaning ≡ true
      → IsNamed g homes store inner_keeps inner_display callee inner_chain inner_view v meaning
  outer_named v meaning m known_here known clear links_here links_there apart stays own laid variable_laid =
      let same : frame_of inner_display v.scope ≡ frame_of display v.scope =
      ap (λ (c : Bool). if c then frame else frame_of more v.scope) (is_other callee.scope v.scope apart) ∙ alike v.scope apart known_here ∙ stays in
      let none : is_accept callee v.scope ≡ false = known_block.no_accept v.scope known_here in
      let layouts : layout_with here v.scope ≡ layout_with there v.scope = same_layout g b callee v.scope clear none in
      let places : place_of here v ≡ place_of there v = ap (λ n. n + v.variable) (same_before g b callee v.scope clear none) in
      let cell : cell_of here v ≡ cell_of there v = ap₂ (λ (x : Layout) k. layout_cells g.state.forms (take k x)) layouts places in
      let laid_there : slice_get (layout_with there v.scope) (place_of there v) ≡ Some meaning = ap₂ (λ (x : Layout) k. slice_get x k) (sym layouts)
      (sym places) ∙ laid in
      let own_there : v.variable < variables_of there v.scope = subst (λ n. v.variable < n) (same_variables g b callee v.scope clear none) own in
      let old = sees.names v meaning known own_there laid_there variable_laid in
      let reaches : inner_view.reaches (links_to here v.scope) (cell_of here v) ≡ view.reaches (links_to there v.scope) (cell_of there v) =
      ap₂ (λ n d. inner_view.reaches n d) links_here cell ∙ ap (λ n. view.reaches n (cell_of there v)) (sym links_there) in
      let refers_same : inner_view.refers (links_to here v.scope) (cell_of here v) ≡ view.refers (links_to there v.scope) (cell_of there v) =
      ap₂ (λ n d. inner_view.refers n d) links_here cell ∙ ap (λ n. view.refers n (cell_of there v)) (sym links_there) in
      let held_same : inner_view.held (links_to here v.scope) (cell_of here v) ≡ view.held (links_to there v.scope) (cell_of there v) =
      ap₂ (λ n d. inner_view.held n d) links_here cell ∙ ap (λ n. view.held n (cell_of there v)) (sym links_there) in
      record {
        linked = ap (λ n. slice_get inner_chain n) links_here ∙ slice_dropped l chain m ∙ ap (λ n. slice_get chain n) (sym links_there) ∙ old.linked
            ∙ ap (λ (f : Frame). Some f.activation) (sym same);
        home = old.home;
        at = ap (λ (f : Frame). homes f.activation) same ∙ old.at;
        place = ap (λ (f : Frame). f.first + v.variable) same ∙ old.place ∙ sym places;
        layout = old.layout ∙ sym layouts;
        reached = reaches ∙ old.reached;
        refers = λ is. refers_same ∙ old.refers is;
        target = λ t is. (
            let one = old.target t is in (
              one.0,
              one.1,
              ap (λ (f : Frame). get_or (values_in store f.activation) (f.first + v.variable) (ordinal (pos 0))) same ∙ one.2,
              kept_before keeps a one.0.activation one.3,
              one.4,
              one.5 ∙ ap pos (sym held_same),
            ));
      }

  -- a scope of main's, behind all others
  main_named : (v : Spot) (meaning : Meaning) → is_known g.state.blocks callee [] v.scope ≡ true → is_mains g.state.blocks v.scope ≡ true
      → v.variable < variables_of here v.scope
      → slice_get (layout_with here v.scope) (place_of here v) ≡ Some meaning → is_laid meaning ≡ true
      → IsNamed g homes store inner_keeps inner_display callee inner_chain inner_view v meaning
  main_named v meaning known_here mains own laid variable_laid =
      let rest : ℕ = length (drop l around) in
      let far : length around ≡ l + rest = (let w : l ≤ length around = nested.within in let d : rest ≡ length around - l = length-drop l around in omega
      (arith, w, d)) in
      outer_named v meaning rest known_here (or_left (is_mains g.state.blocks v.scope) _ mains)
      (nested.no_accept v.scope (or_left (is_mains g.state.blocks v.scope) _ mains))
      (ap (λ (c : Bool). if c then level_of g.state.blocks callee else unwrap_or (position (λ j. j == v.scope) (linked g.state.blocks callee.env.view)) 0)
      mains ∙ ap length nested.around)
      (ap (λ (c : Bool). if c then level_of g.state.blocks b else unwrap_or (position (λ j. j == v.scope) (linked g.state.blocks b.env.view)) 0) mains ∙ far)
      apart (frame_main g b callee l nested display shows v.scope mains) own laid variable_laid
    where
      apart : callee.scope ≢ v.scope
      apart same = (let both : true ≡ false = sym mains ∙ ap (is_mains g.state.blocks) (sym same) ∙ own_not_mains in cc)

  -- one that static links lead to
  around_named : (v : Spot) (meaning : Meaning) (m : ℕ) → is_known g.state.blocks callee [] v.scope ≡ true → slice_get (drop l around) m ≡ Some v.scope
      → v.variable < variables_of here v.scope
      → slice_get (layout_with here v.scope) (place_of here v) ≡ Some meaning → is_laid meaning ≡ true
      → IsNamed g homes store inner_keeps inner_display callee inner_chain inner_view v meaning
  around_named v meaning m known_here dropped own laid variable_laid =
      outer_named v meaning m known_here (known accepts) (nested.no_accept v.scope (known []))
      (ap (λ (c : Bool). if c then level_of g.state.blocks callee else unwrap_or (position (λ j. j == v.scope) (linked g.state.blocks callee.env.view)) 0)
      not_mains
      ∙ ap (λ xs. unwrap_or (position (λ j. j == v.scope) xs) 0) nested.around ∙ place_of_scope (callee.scope ∷ drop l around) (suc m) v.scope dropped
      (λ j h. first_here j h))
      (ap (λ (c : Bool). if c then level_of g.state.blocks b else unwrap_or (position (λ j. j == v.scope) (linked g.state.blocks b.env.view)) 0) not_mains
      ∙ place_of_scope around (l + m) v.scope its (λ j h. first_there j h))
      apart (frame_around g b callee l nested display shows m v.scope its) own laid variable_laid
    where
      its : slice_get around (l + m) ≡ Some v.scope
      its = sym (slice_dropped l around m) ∙ dropped

      not_mains : is_mains g.state.blocks v.scope ≡ false
      not_mains = linked_not_mains g.state.blocks b.env.view (l + m) v.scope its

      known : (more : List ℕ) → is_known g.state.blocks b more v.scope ≡ true
      known more = or_right (is_mains g.state.blocks v.scope) _ (or_left (list_any (λ j. j == v.scope) around) _ (at_any v.scope around (l + m) its))

      apart : callee.scope ≢ v.scope
      apart same = (let low : l + m < l = nested.new (l + m) (its ∙ ap Some (sym same)) in omega (arith, low))

      first_there : (j : ℕ) → slice_get around j ≡ Some v.scope → l + m ≤ j
      first_there j h = (let same : j ≡ l + m = nested.once v.scope j (l + m) h its in omega (arith, same))

      first_here : (j : ℕ) → slice_get (callee.scope ∷ drop l around) j ≡ Some v.scope → suc m ≤ j
      first_here zero h = absurd (apart (some_same callee.scope v.scope h))
      first_here (suc j) h = (let same : l + j ≡ l + m = nested.once v.scope (l + j) (l + m) (sym (slice_dropped l around j) ∙ h) its in omega (arith, same))

  named : (v : Spot) (meaning : Meaning) → is_known g.state.blocks callee its_accepts v.scope ≡ true → v.variable < variables_of here v.scope
      → slice_get (layout_with here v.scope) (place_of here v) ≡ Some meaning → is_laid meaning ≡ true
      → IsNamed g homes store inner_keeps inner_display callee inner_chain inner_view v meaning
  named v meaning known own laid variable_laid =
      elim (or_cases (is_mains g.state.blocks v.scope) (list_any (λ j. j == v.scope) (scopes_around g callee) || list_any (λ j. j == v.scope) its_accepts)
      known) [
        | inl mains ↦ main_named v meaning (or_left (is_mains g.state.blocks v.scope) _ mains) mains own laid variable_laid
        | inr rest ↦ elim (or_cases (list_any (λ j. j == v.scope) (scopes_around g callee)) (list_any (λ j. j == v.scope) its_accepts) rest) [
          | inl some ↦ (
              let place = any_at v.scope (callee.scope ∷ drop l around) (ap (λ xs. list_any (λ j. j == v.scope) xs) (sym nested.around) ∙ some) in
              at_place (or_right (is_mains g.state.blocks v.scope) _ (or_left (list_any (λ j. j == v.scope) (scopes_around g callee)) _ some)) place.0
              place.1)
          | inr among ↦ accept_named v meaning among own laid
        ]
      ]
    where
      at_place : is_known g.state.blocks callee [] v.scope ≡ true → (n : ℕ) → slice_get (callee.scope ∷ drop l around) n ≡ Some v.scope
          → IsNamed g homes store inner_keeps inner_display callee inner_chain inner_view v meaning
      at_place known_here zero h = own_named v meaning (sym (some_same callee.scope v.scope h)) own laid
      at_place known_here (suc n) h = around_named v meaning n known_here h own laid variable_laid

  pub sees_inside : Sees g homes entries store inner_keeps inner_display callee its_accepts (word_of (own_place home)) inner_chain inner_view
  sees_inside =
      record {
        live = is_live;
        links = are_linked;
        firsts = first_at;
        cells = cell_at;
        references = reference_cell;
        names = named;
      }
