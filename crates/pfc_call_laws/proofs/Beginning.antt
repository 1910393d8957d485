-- An activation begins: it sees what is around its block, the others see what they saw, and objects are where they were.
use Rattle.std.proofs.Common.{◌≡◌, ◌≢◌, ℕ, zero, suc, ◌+◌, ◌^◌, ◌<◌, ℤ, pos, Bool, true, false, if◌then◌else◌, List, [], ◌∷◌, length, drop, get_or, slice_get}
use Rattle.std.proofs.Common.{Option, Some, None, refl, sym, ap, ◌∙◌, subst, arith, ◌⊎◌, inl, inr}
use Rattle.std.specs.Prelude.{◌==◌}
use Rattle.std.specs.List.{list_any}
use Rattle.pfc_types.specs.declared.types.TypeId.{TypeId}
use Rattle.pfc_types.specs.declared.scope.Meaning.{Meaning}
use Rattle.pfc_types.specs.declared.scope.Meaning.TheVariants.{Variable, Process}
use Rattle.pfc_semantics.specs.Values.{Value, Location, ordinal, part, path_of}
use Rattle.pfc_semantics.specs.Store.{Store, values_in, value_at, with_room}
use Rattle.pfc_semantics.specs.Layouts.{Layout}
use Rattle.pfc_semantics.specs.Displays.{Display, frame_of, outward}
use Rattle.pfc_semantics.specs.Programs.{Block, Program}
use Rattle.pfc_stacks.specs.declared.refs.Ref.{Ref}
use Rattle.pfc_stacks.specs.Refs.{word_of}
use Rattle.pfc_stacks.specs.Stacks.{Stacks, link_place, cells_of, links_up}
use Rattle.pfc_cells.specs.Shapes.{AreCounted}
use Rattle.pfc_cells.specs.Homes.{Home, Homes, Lies, layout_at}
use Rattle.pfc_cells.specs.Memory.{Refers, to_nothing, to_location, IsHeld, AreCells, Entry, Entries, MemoryIs}
use Rattle.pfc_cells.specs.Activations.{with_home, with_entries}
use Rattle.pfc_cells.proofs.Activations.{room_added, room_beside}
use Rattle.pfc_standing_code.specs.Shapes.{is_object_type}
use Rattle.pfc_standing_code.specs.Settings.{View}
use Rattle.pfc_standing_code.specs.Words.{is_known}
use Rattle.pfc_views.specs.Views.{IsLiving, latest, own_place, first_number, AreLinked, Sees, IsObjectAt, AreObjects}
use Rattle.pfc_views.specs.Keeping.{IsLike}
use Rattle.pfc_views.proofs.Links.{link_is}
use Rattle.pfc_views.proofs.Changes.{begun}
use Rattle.pfc_views.proofs.Kept.{lies_still, live_still, linked_still, sees_still}
use Rattle.pfc_call_laws.specs.Blocks.{AreLent}
use Rattle.pfc_call_laws.specs.Around.{HasScopes, IsNested, ShowsAround, keeps_also}
use Rattle.pfc_call_laws.specs.Inside.{view_inside}
use Rattle.pfc_call_laws.specs.Calls.{HasNoObjects}
use Rattle.pfc_call_laws.proofs.Displays.{is_same, is_other}
use Rattle.pfc_call_laws.proofs.Seeing.{sees_inside}

either : (n m : ℕ) → (n ≡ m) ⊎ (n ≢ m)
either n m = grind arith

some_same : {A : Type 0} (x y : A) → Some x ≡ Some y → x ≡ y
some_same x y h = cc

-- static links that are counted in the chain
module _ (g : Program) (homes : Homes) (entries : Entries) (store : Store) (keeps : ℕ → Bool) (stacks : Stacks)
    (memory : MemoryIs g homes entries store stacks) (few : (q : ℕ) → length (cells_of stacks q) < 2 ^ 32) where
  pub links_dropped : (l : ℕ) (w : ℤ) (chain : List ℕ) → AreLinked homes entries keeps w chain
      → AreLinked homes entries keeps (links_up stacks l w) (drop l chain)
  links_dropped zero w chain h = h
  links_dropped (suc l) w [] h = tt
  links_dropped (suc l) w (a ∷ chain) h =
      subst (λ v. AreLinked homes entries keeps (links_up stacks l v) (drop l chain)) (sym (link_is g homes entries store keeps stacks memory few w a h.0))
      (links_dropped l (get_or h.0.entry.own link_place (pos 0)) chain h.1)

-- the cells of a block hold its values with more homes, too
module _ (g : Program) (homes homes' : Homes) (still : (l : Location) (t : Option TypeId) (r : Ref) → Lies g homes l t r → Lies g homes' l t r) where
  refers_still : (t : TypeId) (v : Value) (w : ℤ) → Refers g homes t v w → Refers g homes' t v w
  refers_still t _ _ (to_nothing v h) = to_nothing v h
  refers_still t _ _ (to_location l r h) = to_location l r (still l (Some t) r h)

  held_still : (m : Meaning) (v : Value) (words : List ℤ) → IsHeld g homes m v words → IsHeld g homes' m v words
  held_still (Variable t false) v words h = h
  held_still (Variable t true) v words h = (h.0, h.1, refers_still t v h.0 h.2)
  held_still (Process n) v words h = h
  held_still m v words h = absurd h

  pub cells_still : (layout : Layout) (values : List Value) (cells : List ℤ) → AreCells g homes layout values cells → AreCells g homes' layout values cells
  cells_still [] [] cells h = h
  cells_still [] (v ∷ values) cells h = absurd h
  cells_still (m ∷ layout) [] cells h = absurd h
  cells_still (m ∷ layout) (v ∷ values) cells h = (h.0, h.1, h.2, held_still m v h.0 h.3, cells_still layout values h.1 h.4)

module _ (g : Program) (homes : Homes) (entries : Entries) (store : Store) (a : ℕ) (free : homes a ≡ None) (home : Home) (p : ℕ) (own : List ℤ)
    (values : List Value) where
  abbrev entry : Entry
  entry = record { activation = a; own = own }

  abbrev more_homes : Homes
  more_homes = with_home homes a home

  abbrev more_entries : Entries
  more_entries = with_entries entries p (entry ∷ entries p)

  abbrev more_store : Store
  more_store = with_room store a values

  its_home : more_homes a ≡ Some home
  its_home = ap (λ (c : Bool). if c then Some home else homes a) (is_same a a refl)

  its_entry : IsLiving entry (more_entries p)
  its_entry = subst (λ (c : Bool). IsLiving entry (if c then entry ∷ entries p else entries p)) (sym (is_same p p refl)) (latest (entries p))

  like : (keeps : ℕ → Bool) → IsLike g keeps homes more_homes entries more_entries store more_store
  like keeps = begun g keeps homes entries store p a home entry values free

  -- what others see stays
  pub others_see : (keeps : ℕ → Bool) (display : Display) (b : Block) (accepts : List ℕ) (w : ℤ) (chain : List ℕ) (view : View)
      → Sees g homes entries store keeps display b accepts w chain view
      → Sees g more_homes more_entries more_store keeps display b accepts w chain view
  others_see keeps display b accepts w chain view sees = sees_still g keeps homes more_homes entries more_entries store more_store
      (like keeps) display b accepts w chain view sees

  module _ (sound : AreCounted g.state.forms) (keeps : ℕ → Bool) (display : Display) (b : Block) (accepts : List ℕ) (w : ℤ) (chain : List ℕ) (view : View)
      (sees : Sees g homes entries store keeps display b accepts w chain view) (callee : Block) (known_block : HasScopes g callee) (l : ℕ)
      (nested : IsNested g b callee l) (shows : ShowsAround g b display)
      (scope : home.scope ≡ callee.scope) (link : AreLinked homes entries keeps (get_or own link_place (pos 0)) (drop l chain)) (cells : List ℤ)
      (holds : AreCells g homes callee.layout values cells)
      (lent : AreLent g keeps callee values) (small : first_number home + length cells < 2 ^ 42)
      (more : Display) (alike : (i : ℕ) → callee.scope ≢ i → is_known g.state.blocks callee [] i ≡ true
      → frame_of more i ≡ frame_of (outward display callee.outer) i) where
    pub new_sees :
        Sees g more_homes more_entries more_store (keeps_also keeps a) (record { scope = callee.scope; activation = a; first = 0 } ∷ more) callee []
        (word_of (own_place home)) (a ∷ drop l chain)
        (view_inside g.state.forms callee.layout values cells (first_number home) l view)
    new_sees =
        let now : values_in more_store a ≡ values = room_added store a values in
        subst (λ (vs : List Value). Sees g more_homes more_entries more_store (keeps_also keeps a)
        (record { scope = callee.scope; activation = a; first = 0 } ∷ more) callee [] (word_of (own_place home)) (a ∷ drop l chain)
        (view_inside g.state.forms callee.layout vs cells (first_number home) l view)) now
        (sees_inside g sound more_homes more_entries more_store keeps display b accepts w chain view
        (others_see keeps display b accepts w chain view sees) callee known_block l nested shows a home its_home scope p entry
        its_entry refl (linked_still g keeps homes more_homes entries more_entries store more_store (like keeps) (get_or own link_place (pos 0))
        (drop l chain) link) cells
        (subst (λ (vs : List Value). AreCells g more_homes callee.layout vs cells) (sym now)
        (cells_still g homes more_homes (lies_still g keeps homes more_homes entries more_entries store more_store (like keeps)) callee.layout values cells
        holds))
        (subst (λ (vs : List Value). AreLent g keeps callee vs) (sym now) lent) small more alike [] (λ i among. absurd (nobody i among))
        (λ v t among. absurd (nobody v.scope among)))
      where
        nobody : (i : ℕ) → list_any (λ j. j == i) [] ≡ true → ⊥
        nobody i h = cc

  -- ## Objects

  lies_before : (l : Location) (t : Option TypeId) (r : Ref) → l.activation ≢ a → Lies g more_homes l t r → Lies g homes l t r
  lies_before l t r apart h =
      let is = h.is in
      record {
        home = h.home;
        behind = h.behind;
        is = record {
          at = sym (ap (λ (c : Bool). if c then Some home else homes l.activation) (is_other l.activation a apart)) ∙ is.at;
          meaning = is.meaning;
          laid = is.laid;
          variable = is.variable;
          own = is.own;
          path = is.path;
        };
        place = h.place;
      }

  pub objects_stay : (callee : Block) → HasNoObjects g callee → layout_at g home ≡ callee.layout → (number : ℤ → Option ℤ)
      → AreObjects g homes entries store number → AreObjects g more_homes more_entries more_store number
  objects_stay callee none layout number objects =
      record {
        known = λ l t r lies object. elim (either l.activation a) [ inl e ↦ absurd (inside l t r lies object e) | inr n ↦ before l t r n lies object ];
        only = λ w n is. after w n is;
      }
    where
      inside : (l : Location) (t : Option TypeId) (r : Ref) → Lies g more_homes l t r → is_object_type g.state.forms t ≡ true → l.activation ≡ a → ⊥
      inside l t r lies object e =
          let same : lies.home ≡ home = some_same lies.home home (sym lies.is.at ∙ ap more_homes e ∙ its_home) in
          let laid : slice_get callee.layout l.variable ≡ Some lies.is.meaning =
          ap (λ (x : Layout). slice_get x l.variable) (sym layout) ∙ ap (λ (x : Home). slice_get (layout_at g x) l.variable) (sym same) ∙ lies.is.laid in
          let no : is_object_type g.state.forms t ≡ false = none l.variable lies.is.meaning (path_of l.selectors) t lies.behind laid lies.is.own lies.is.path in
          let both : true ≡ false = sym object ∙ no in
          cc

      before : (l : Location) (t : Option TypeId) (r : Ref) → l.activation ≢ a → Lies g more_homes l t r → is_object_type g.state.forms t ≡ true
          → (n : ℤ) × (number (word_of r) ≡ Some n) × (value_at more_store l ≡ ordinal n)
      before l t r apart lies object =
          let old = objects.known l t r (lies_before l t r apart lies) object in (
            old.0,
            old.1,
            ap (λ (vs : List Value). part (path_of l.selectors) (get_or vs l.variable (ordinal (pos 0))))
                (room_beside store a values l.activation apart) ∙ old.2,
          )

      after : (w n : ℤ) → number w ≡ Some n → IsObjectAt g more_homes more_entries w
      after w n is =
          let old = objects.only w n is in
          let all : IsLike g (λ x. true) homes more_homes entries more_entries store more_store = like (λ x. true) in
          record {
            location = old.location;
            t = old.t;
            place = old.place;
            lies = lies_still g (λ x. true) homes more_homes entries more_entries store more_store all old.location old.t old.place old.lies;
            object = old.object;
            word = old.word;
            lives = live_still g (λ x. true) homes more_homes entries more_entries store more_store all old.location.activation refl old.lives;
          }
