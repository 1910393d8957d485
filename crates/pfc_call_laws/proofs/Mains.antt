-- What main's first activation sees.
use Rattle.std.proofs.Common.{◌≡◌, ℕ, zero, suc, ◌+◌, ◌^◌, ◌<◌, ◌≤◌, ℤ, Bool, true, false, ◌||◌, if◌then◌else◌, List, [], ◌∷◌, ◌++◌, length, take, slice_get}
use Rattle.std.proofs.Common.{Some, refl, sym, ap, ap₂, ◌∙◌, subst, arith, inl, inr}
use Rattle.std.specs.Prelude.{◌==◌, position, unwrap_or}
use Rattle.std.specs.List.{list_any}
use Rattle.pfc_types.specs.declared.scope.Meaning.{Meaning}
use Rattle.pfc_semantics.specs.Store.{Store, values_in}
use Rattle.pfc_semantics.specs.Layouts.{Layout, is_laid}
use Rattle.pfc_semantics.specs.Displays.{Spot}
use Rattle.pfc_semantics.specs.Programs.{Block, Program, block_at, layout_cells}
use Rattle.pfc_translation.specs.Sites.{Site, is_mains, linked, level_of, links_to, is_accept, layout_with, laid_before, before_accept, place_of, cell_of}
use Rattle.pfc_translation.specs.Sites.{is_reference}
use Rattle.pfc_stacks.specs.Activations.{main_link}
use Rattle.pfc_cells.specs.Shapes.{AreCounted}
use Rattle.pfc_cells.specs.Homes.{Home, Homes, layout_at, cells_before}
use Rattle.pfc_cells.specs.Memory.{AreCells, Entry, Entries, Lives}
use Rattle.pfc_standing_code.specs.Settings.{View}
use Rattle.pfc_standing_code.specs.Typed.{variables_of}
use Rattle.pfc_standing_code.specs.Words.{is_known}
use Rattle.pfc_views.specs.Views.{IsLiving, first_number, AreLinked, IsCell, IsReferenceCell, block_site, IsNamed, Sees}
use Rattle.pfc_views.proofs.Living.{lives}
use Rattle.pfc_call_laws.specs.Around.{IsMainsCode, ShowsAround, main_alone}
use Rattle.pfc_call_laws.specs.Calls.{first_home}
use Rattle.pfc_call_laws.specs.Inside.{refers_at, nothing_seen, view_inside}
use Rattle.pfc_call_laws.proofs.Places.{or_cases, or_left, place_at, begins_there, reference_at, place_within}
use Rattle.pfc_call_laws.proofs.Displays.{is_same, same_of}

some_same : {A : Type 0} (x y : A) → Some x ≡ Some y → x ≡ y
some_same x y h = cc

not_both : {A : Type 0} (m : Bool) → m ≡ true → m ≡ false → A
not_both m h k = absurd (let both : true ≡ false = sym h ∙ k in cc)

module _ (g : Program) (sound : AreCounted g.state.forms) (homes : Homes) (entries : Entries) (store : Store) (b : Block) (of_main : IsMainsCode g b)
    (at : homes 0 ≡ Some (first_home 0 0)) (e : Entry)
    (living : IsLiving e (entries 0)) (number : e.activation ≡ 0) (cells : List ℤ) (holds : AreCells g homes g.main.layout (values_in store 0) cells)
    (small : 8 + length cells < 2 ^ 32) where
  abbrev view : View
  view = view_inside g.state.forms g.main.layout (values_in store 0) cells (first_number (first_home 0 0)) 0 nothing_seen

  abbrev here : Site
  here = block_site g b

  layout : layout_at g (first_home 0 0) ≡ g.main.layout
  layout = ap (λ (x : Block). x.layout) of_main.by_scope

  is_live : (a : ℕ) → main_alone a ≡ true → Lives entries a
  is_live a h = subst (λ n. Lives entries n) (number ∙ sym (same_of a 0 h)) (lives entries 0 e living)

  are_linked : AreLinked homes entries main_alone main_link (0 ∷ [])
  are_linked = (
    record {
      home = first_home 0 0;
      at = at;
      process = 0;
      entry = e;
      living = living;
      number = number;
      kept = is_same 0 0 refl;
      word = refl;
    },
    tt,
  )

  first_at : (l a : ℕ) (home : Home) → slice_get (0 ∷ []) l ≡ Some a → homes a ≡ Some home → view.first l ≡ first_number home
  first_at zero a home there its = ap first_number (some_same (first_home 0 0) home (sym at ∙ ap homes (some_same 0 a there) ∙ its))
  first_at (suc l) a home there its = absurd (cc)

  cell_at : (l d : ℕ) → view.reaches l d ≡ true → (a : ℕ) × (slice_get (0 ∷ []) l ≡ Some a) × IsCell g homes a d × (view.first l + d < 2 ^ 42)
  cell_at zero d reached =
      let place = place_at g.state.forms g.main.layout d reached in
      let within : cells_before g.state.forms g.main.layout place.place ≤ length cells = place_within g sound homes g.main.layout
      (values_in store 0) cells holds place.place place.meaning place.laid in
      let first : cells_before g.state.forms g.main.layout place.place ≡ d = place.first in (
        0,
        refl,
        record {
          home = first_home 0 0;
          at = at;
          place = place.place;
          meaning = place.meaning;
          laid = ap (λ (x : Layout). slice_get x place.place) layout ∙ place.laid;
          first = ap (λ (x : Layout). cells_before g.state.forms x place.place) layout ∙ place.first;
        },
        omega (arith, small, within, first),
      )
  cell_at (suc l) d reached = absurd (cc)

  no_reference : (d : ℕ) → refers_at g.state.forms g.main.layout (values_in store 0) d ≡ true → ⊥
  no_reference d refers =
      let place = reference_at g.state.forms g.main.layout (values_in store 0) d refers in
      not_both (is_reference place.meaning) place.reference (of_main.own place.place place.meaning place.laid)

  reference_cell : (l d : ℕ) → view.reaches l d ≡ true → view.refers l d ≡ true → (a : ℕ) × (slice_get (0 ∷ []) l ≡ Some a)
      × IsReferenceCell g homes store a d (view.held l d)
  reference_cell zero d reached refers = absurd (no_reference d refers)
  reference_cell (suc l) d reached refers = absurd (cc)

  mains_named : (v : Spot) (meaning : Meaning) → is_mains g.state.blocks v.scope ≡ true → slice_get (layout_with here v.scope)
      (place_of here v) ≡ Some meaning → IsNamed g homes store main_alone [] b (0 ∷ []) view v meaning
  mains_named v meaning mains laid =
      let none : is_accept b v.scope ≡ false = of_main.no_accept v.scope (or_left (is_mains g.state.blocks v.scope) _ mains) in
      let links : links_to here v.scope ≡ 0 =
      ap (λ (c : Bool). if c then level_of g.state.blocks b else unwrap_or (position (λ j. j == v.scope) (linked g.state.blocks b.env.view)) 0) mains
      ∙ ap length of_main.alone in
      let its_layout : layout_with here v.scope ≡ g.main.layout =
      ap (λ (c : Bool). if c then b.layout else (if is_mains g.state.blocks v.scope then g.main.layout else (block_at g v.scope).layout)) none
      ∙ ap (λ (c : Bool). if c then g.main.layout else (block_at g v.scope).layout) mains in
      let before : laid_before here v.scope ≡ 0 = ap (λ (c : Bool). if c then before_accept here v.scope else 0) none in
      let place : place_of here v ≡ v.variable = omega (arith, before) in
      let cell : cell_of here v ≡ cells_before g.state.forms g.main.layout v.variable = ap₂
      (λ (x : Layout) k. layout_cells g.state.forms (take k x)) its_layout place in
      let laid_there : slice_get g.main.layout v.variable ≡ Some meaning = ap₂ (λ (x : Layout) k. slice_get x k) (sym its_layout) (sym place) ∙ laid in
      record {
        linked = ap (λ n. slice_get (0 ∷ []) n) links;
        home = first_home 0 0;
        at = at;
        place = zero_more v.variable ∙ sym place;
        layout = layout ∙ sym its_layout;
        reached = ap₂ (λ n d. view.reaches n d) links cell ∙ begins_there g.state.forms g.main.layout v.variable meaning laid_there;
        refers = λ is. not_both (is_reference meaning) is (of_main.own v.variable meaning laid_there);
        target = λ t is. not_both (is_reference meaning) (ap is_reference is) (of_main.own v.variable meaning laid_there);
      }
    where
      zero_more : (n : ℕ) → 0 + n ≡ n
      zero_more n = omega arith

  named : (v : Spot) (meaning : Meaning) → is_known g.state.blocks b [] v.scope ≡ true → v.variable < variables_of here v.scope
      → slice_get (layout_with here v.scope) (place_of here v) ≡ Some meaning → is_laid meaning ≡ true
      → IsNamed g homes store main_alone [] b (0 ∷ []) view v meaning
  named v meaning known own laid variable_laid =
      elim (or_cases (is_mains g.state.blocks v.scope) (list_any (λ j. j == v.scope) (linked g.state.blocks b.env.view) || list_any (λ j. j == v.scope) [])
      known) [
        | inl mains ↦ mains_named v meaning mains laid
        | inr rest ↦ absurd (nothing (ap (λ xs. list_any (λ j. j == v.scope) xs || list_any (λ j. j == v.scope) []) (sym of_main.alone) ∙ rest))
      ]
    where
      nothing : (false || false) ≡ true → ⊥
      nothing h = cc

  pub main_sees : Sees g homes entries store main_alone [] b [] main_link (0 ∷ []) view
  main_sees =
      record {
        live = is_live;
        links = are_linked;
        firsts = first_at;
        cells = cell_at;
        references = reference_cell;
        names = named;
      }

  pub shows_none : ShowsAround g b []
  shows_none = record { accepts = []; scopes = sym (ap (λ xs. xs ++ []) of_main.alone); apart = λ i j there. absurd (no_accepts i j there) }
    where
      no_accepts : (i j : ℕ) → slice_get [] i ≡ Some j → ⊥
      no_accepts i j there = cc
