-- Where the variables lie that are named.
use Rattle.std.proofs.Common.{◌≡◌, ℕ, ◌+◌, ◌*◌, ◌^◌, ℤ, pos, Bool, true, false, if◌then◌else◌, List, [], slice_get, Option, Some, None, refl, sym, ap, ap₂, ◌∙◌}
use Rattle.std.proofs.Common.{subst, arith, append-nil}
use Rattle.std.proofs.lemmas.Option.{get_or_from_slice_get}
use Rattle.pfc_types.specs.declared.types.TypeId.{TypeId}
use Rattle.pfc_types.specs.declared.scope.Meaning.{Meaning}
use Rattle.pfc_types.specs.declared.scope.Meaning.TheVariants.{Variable, Process, Faulty}
use Rattle.pfc_types.specs.rules.Expressions.{Env}
use Rattle.pfc_semantics.specs.Values.{Selector, Value, Location, ordinal, compound, points, path_of}
use Rattle.pfc_semantics.specs.Store.{Store, variable, inside}
use Rattle.pfc_semantics.specs.Layouts.{is_laid}
use Rattle.pfc_semantics.specs.Displays.{Spot, Display, frame_of, own_location, reached, located}
use Rattle.pfc_semantics.specs.Programs.{Block, Program}
use Rattle.pfc_translation.specs.Sites.{links_to, layout_with, place_of, cell_of, refers, is_reference}
use Rattle.pfc_stacks.specs.declared.refs.Ref.{Ref}
use Rattle.pfc_stacks.specs.Refs.{word_of}
use Rattle.pfc_stacks.specs.Stacks.{Stacks, own_cells}
use Rattle.pfc_cells.specs.Shapes.{AreCounted, Fits, IsPath, here, is_number, is_array, is_record}
use Rattle.pfc_cells.specs.Homes.{Homes, Lies, layout_at, cells_before, laid_type}
use Rattle.pfc_cells.specs.Memory.{Entries, Lives, MemoryIs}
use Rattle.pfc_standing_code.specs.Settings.{View}
use Rattle.pfc_standing_code.specs.Words.{AreKnown, first_word, IsWord}
use Rattle.pfc_cells.proofs.Reading.{fits}
use Rattle.pfc_views.specs.Views.{IsKept, block_site, first_number, IsNamed, Sees, LiesAt}
use Rattle.pfc_views.proofs.Living.{lives}
use Rattle.pfc_views.proofs.Links.{linked_is_kept}
use Rattle.pfc_views.proofs.Paths.{path_joined, path_of_joined}

-- a value of a type points nowhere, so a step from its variable is a step from there
reached_within : (v : Value) (own : Location) (ss : List Selector) → ((l : Location) → v ≡ points l → ⊥) → reached v own ss ≡ inside own ss
reached_within (ordinal n) own ss h = refl
reached_within (compound vs) own ss h = refl
reached_within (points l) own ss h = absurd (h l refl)

no_pointer : (forms : _) (t : Option TypeId) (v : Value) → Fits forms t v → (l : Location) → v ≡ points l → ⊥
no_pointer forms None v h l e = (let n : v ≡ ordinal h.0 = h.1 in cc)
no_pointer forms (Some t) _ (is_number u n parts) l e = cc
no_pointer forms (Some t) _ (is_array u over element low high vs form of) l e = cc
no_pointer forms (Some t) _ (is_record u fields vs form of) l e = cc

behind : (r : Ref) (n k : ℕ) → word_of r ≡ pos n → pos (n + k) ≡ word_of (record r { cell = r.cell + k })
behind r n k h = (let same : r.process * 2 ^ 32 + r.cell ≡ n = cc in ap pos (omega (arith, same)))

module _ (g : Program) (sound : AreCounted g.state.forms) (homes : Homes) (entries : Entries) (store : Store) (keeps : ℕ → Bool) (display : Display) (b : Block)
    (accepts : List ℕ) (w : ℤ) (chain : List ℕ) (view : View) (stacks : Stacks) (memory : MemoryIs g homes entries store stacks)
    (sees : Sees g homes entries store keeps display b accepts w chain view) where
  abbrev whole : Spot → Spot
  whole v = record v { selectors = [] }

  -- a part of the variable at a location
  lies_behind : (l : Location) (t u : Option TypeId) (r : Ref) (ss : List Selector) (behind : ℕ) → Lies g homes l t r →
      IsPath g.state.forms t (path_of ss) u behind → Lies g homes (inside l ss) u (record r { cell = r.cell + behind })
  lies_behind l t u r ss behind h path =
      let is = h.is in
      record {
        home = h.home;
        behind = h.behind + behind;
        is = record {
          at = is.at;
          meaning = is.meaning;
          laid = is.laid;
          variable = is.variable;
          own = is.own;
          path = subst (λ (p : List ℕ). IsPath g.state.forms (laid_type is.meaning) p u (h.behind + behind)) (sym (path_of_joined l.selectors ss))
              (path_joined g.state.forms is.path path);
        };
        place = ap (λ (x : Ref). record x { cell = x.cell + behind }) h.place ∙ ap (λ c. record { process = h.home.process; cell = c }) (omega arith);
      }

  -- a variable in view, whole
  record Whole (v : Spot) (t : Option TypeId) : Type 0 where
    place : Ref
    lies : Lies g homes (located store display (whole v)) t place
    word : word_of place ≡ pos (first_word view (block_site g b) (whole v))
    kept : keeps (located store display (whole v)).activation ≡ true
    further : located store display v ≡ inside (located store display (whole v)) v.selectors

  own_of_named : (v : Spot) (meaning : Meaning) → IsNamed g homes store keeps display b chain view (whole v) meaning → (x : ℤ) ×
      IsKept homes entries keeps x (frame_of display v.scope).activation
  own_of_named v meaning is = linked_is_kept homes entries keeps w chain (links_to (block_site g b) v.scope)
      (frame_of display v.scope).activation sees.links is.linked

  -- one that is no reference parameter lies in its own cells
  own_lies : (v : Spot) (meaning : Meaning) (t : Option TypeId) →
      slice_get (layout_with (block_site g b) v.scope) (place_of (block_site g b) (whole v)) ≡ Some meaning → is_laid meaning ≡ true →
      t ≡ laid_type meaning → is_reference meaning ≡ false
      → (is : IsNamed g homes store keeps display b chain view (whole v) meaning) →
      Lies g homes (own_location display (whole v)) t (record {
        process = is.home.process;
        cell =
            is.home.cell + own_cells + cells_before g.state.forms (layout_at g is.home) (own_location display (whole v)).variable + 0;
      })
  own_lies v meaning t laid variable typed own is =
      record {
        home = is.home;
        behind = 0;
        is = record {
          at = is.at;
          meaning = meaning;
          laid = ap₂ (λ xs k. slice_get xs k) is.layout is.place ∙ laid;
          variable = variable;
          own = own;
          path = subst (λ (u : Option TypeId). IsPath g.state.forms (laid_type meaning) [] u 0) (sym typed) (here (laid_type meaning));
        };
        place = refl;
      }

  -- its value is of its type, so it points nowhere
  own_value : (v : Spot) (meaning : Meaning) (t : Option TypeId) →
      slice_get (layout_with (block_site g b) v.scope) (place_of (block_site g b) (whole v)) ≡ Some meaning → is_laid meaning ≡ true →
      t ≡ laid_type meaning → is_reference meaning ≡ false
      → (is : IsNamed g homes store keeps display b chain view (whole v) meaning) → Fits g.state.forms t (variable store (own_location display (whole v)))
  own_value v meaning t laid variable typed own is =
      let kept = own_of_named v meaning is in
      let living : Lives entries (frame_of display v.scope).activation =
      subst (λ (a : ℕ). Lives entries a) kept.1.number (lives entries kept.1.process kept.1.entry kept.1.living) in
      fits g sound homes entries store stacks (own_location display (whole v)) t _ memory living (own_lies v meaning t laid variable typed own is)

  whole_own : (v : Spot) (meaning : Meaning) (t : Option TypeId) →
      slice_get (layout_with (block_site g b) v.scope) (place_of (block_site g b) (whole v)) ≡ Some meaning → is_laid meaning ≡ true →
      t ≡ laid_type meaning → is_reference meaning ≡ false
      → IsNamed g homes store keeps display b chain view (whole v) meaning → Whole v t
  whole_own v meaning t laid variable typed own is =
      let nowhere = no_pointer g.state.forms t _ (own_value v meaning t laid variable typed own is) in
      let at : located store display (whole v) ≡ own_location display (whole v) = reached_within _ _ [] nowhere in
      let further : located store display v ≡ inside (own_location display (whole v)) v.selectors = reached_within _ _ v.selectors nowhere in
      let refers_not : refers (block_site g b) (whole v) ≡ false =
      ap is_reference (get_or_from_slice_get (layout_with (block_site g b) v.scope) (place_of (block_site g b) (whole v)) meaning Faulty laid) ∙ own in
      let first : view.first (links_to (block_site g b) v.scope) ≡ first_number is.home = sees.firsts _ _ is.home is.linked is.at in
      let kept = own_of_named v meaning is in
      let word : first_word view (block_site g b) (whole v) ≡ view.first (links_to (block_site g b) v.scope) + cell_of (block_site g b) (whole v) =
      ap (λ (r : Bool). if r then view.held (links_to (block_site g b) v.scope) (cell_of (block_site g b) (whole v)) else view.first
      (links_to (block_site g b) v.scope) + cell_of (block_site g b) (whole v)) refers_not in
      let cells : cells_before g.state.forms (layout_at g is.home) (own_location display (whole v)).variable ≡ cell_of (block_site g b) (whole v) =
      ap₂ (λ xs k. cells_before g.state.forms xs k) is.layout is.place in
      let place : Ref = record {
        process = is.home.process;
        cell = is.home.cell + own_cells + cells_before g.state.forms (layout_at g is.home)
            (own_location display (whole v)).variable + 0;
      } in
      record {
        place = place;
        lies = subst (λ (l : Location). Lies g homes l t place) (sym at) (own_lies v meaning t laid variable typed own is);
        word = ap pos (omega (arith, word, first, cells));
        kept = ap (λ (l : Location). keeps l.activation) at ∙ kept.1.kept;
        further = further ∙ ap (λ (l : Location). inside l v.selectors) (sym at);
      }

  -- a reference parameter stands where its location lies
  whole_lent : (v : Spot) (u : TypeId) → slice_get (layout_with (block_site g b) v.scope) (place_of (block_site g b) (whole v)) ≡ Some (Variable u true)
      → IsNamed g homes store keeps display b chain view (whole v) (Variable u true) → Whole v (Some u)
  whole_lent v u laid is =
      let target = is.target u refl in
      let at : located store display (whole v) ≡ inside target.0 [] = ap (λ (x : Value). reached x (own_location display (whole v)) []) target.2 in
      let further : located store display v ≡ inside target.0 v.selectors =
      ap (λ (x : Value). reached x (own_location display (whole v)) v.selectors) target.2 in
      let again : inside target.0 [] ≡ target.0 = ap (λ (ss : List Selector). record target.0 { selectors = ss }) (append-nil target.0.selectors) in
      let refers_so : refers (block_site g b) (whole v) ≡ true =
      ap is_reference (get_or_from_slice_get (layout_with (block_site g b) v.scope) (place_of (block_site g b) (whole v)) (Variable u true) Faulty laid) in
      let word : first_word view (block_site g b) (whole v) ≡ view.held (links_to (block_site g b) v.scope) (cell_of (block_site g b) (whole v)) =
      ap (λ (r : Bool). if r then view.held (links_to (block_site g b) v.scope) (cell_of (block_site g b) (whole v)) else view.first
      (links_to (block_site g b) v.scope) + cell_of (block_site g b) (whole v)) refers_so in
      record {
        place = target.1;
        lies = subst (λ (l : Location). Lies g homes l (Some u) target.1) (sym (at ∙ again)) target.4;
        word = target.5 ∙ ap pos (sym word);
        kept = ap (λ (l : Location). keeps l.activation) (at ∙ again) ∙ target.3;
        further = further ∙ ap (λ (l : Location). inside l v.selectors) (sym (at ∙ again));
      }

  whole_of : (v : Spot) (meaning : Meaning) (t : Option TypeId) →
      slice_get (layout_with (block_site g b) v.scope) (place_of (block_site g b) (whole v)) ≡ Some meaning → is_laid meaning ≡ true → t ≡ laid_type meaning
      → IsNamed g homes store keeps display b chain view (whole v) meaning → Whole v t
  whole_of v (Variable u true) t laid variable typed is = subst (λ (x : Option TypeId). Whole v x) (sym typed) (whole_lent v u laid is)
  whole_of v (Variable u false) t laid variable typed is = whole_own v (Variable u false) t laid variable typed refl is
  whole_of v (Process n) t laid variable typed is = whole_own v (Process n) t laid variable typed refl is
  whole_of v meaning t laid variable typed is = absurd (cc)

  pub lies_in_view : (env : Env) (line : ℕ) (v : Spot) (t : Option TypeId) (word : ℤ) → AreKnown g b accepts env →
      IsWord view (record { program = g; block = b; env = env; line = line }) v t word → LiesAt g homes store keeps display v t word
  lies_in_view env line v t word known h =
      let d = h.declared in
      let named = sees.names (whole v) d.meaning (known v.scope d.seen) d.own d.laid d.variable in
      let all = whole_of v d.meaning h.whole d.laid d.variable d.typed named in
      let place : Ref = record all.place { cell = all.place.cell + h.behind } in
      record {
        place = place;
        lies = subst (λ (l : Location). Lies g homes l t place) (sym all.further) (lies_behind _ h.whole t all.place v.selectors h.behind all.lies h.path);
        word = h.word ∙ behind all.place (first_word view (block_site g b) (whole v)) h.behind all.word;
        kept = ap (λ (l : Location). keeps l.activation) all.further ∙ all.kept;
      }
