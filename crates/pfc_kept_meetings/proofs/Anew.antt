-- What an activation sees whose first static link leads to main's, where some of its variables take other values and references.
use Rattle.std.proofs.Common.{◌≡◌, ◌≢◌, ℕ, zero, suc, ◌+◌, ◌^◌, ◌<◌, ◌≤◌, ℤ, pos, Bool, true, false, if◌then◌else◌, List, [], ◌∷◌, length, take, drop, get_or}
use Rattle.std.proofs.Common.{slice_get, Some, None, refl, sym, ap, ap₂, ◌∙◌, subst, arith, ◌⊎◌, inl, inr}
use Rattle.pfc_types.specs.declared.types.TypeId.{TypeId}
use Rattle.pfc_types.specs.declared.scope.Meaning.{Meaning}
use Rattle.pfc_types.specs.declared.scope.Meaning.TheVariants.{Variable}
use Rattle.pfc_types.specs.rules.Declarations.{name_cells}
use Rattle.pfc_semantics.specs.Values.{Value, Location, ordinal, points}
use Rattle.pfc_semantics.specs.Store.{Store, values_in}
use Rattle.pfc_semantics.specs.Layouts.{Layout, is_laid}
use Rattle.pfc_semantics.specs.Displays.{Spot, Frame, Display, frame_of, own_location}
use Rattle.pfc_semantics.specs.Programs.{Block, Program, layout_cells}
use Rattle.pfc_translation.specs.Sites.{Site, links_to, laid_before, layout_with, place_of, cell_of, is_reference}
use Rattle.pfc_stacks.specs.Refs.{word_of}
use Rattle.pfc_cells.specs.Shapes.{AreCounted}
use Rattle.pfc_cells.specs.Homes.{Home, Homes, layout_at, cells_before}
use Rattle.pfc_cells.specs.Memory.{AreCells, Entry, Entries, Lives, is_pointer}
use Rattle.pfc_standing_code.specs.Settings.{View}
use Rattle.pfc_standing_code.specs.Typed.{variables_of}
use Rattle.pfc_standing_code.specs.Words.{is_known}
use Rattle.pfc_views.specs.Views.{IsLiving, own_place, first_number, IsKept, AreLinked, IsCell, IsReferenceCell, block_site, IsNamed, Sees}
use Rattle.pfc_call_laws.specs.Inside.{begins_at, refers_at, held_in}
use Rattle.pfc_call_laws.proofs.Keeping.{linked_too}
use Rattle.pfc_call_laws.proofs.Places.{place_at, begins_there, reference_at, refers_there, as_pointer, as_reference, place_within, held_at}
use Rattle.pfc_kept_meetings.proofs.Ranges.{in_range, range_has}

-- of the own activation, of main's, and of what lies further out
abbrev pub by_links : {A : Type 0} → A → A → A → ℕ → A
by_links own outer far zero = own
by_links own outer far (suc zero) = outer
by_links own outer far (suc (suc n)) = far

abbrev pub first_by : ℕ → (ℕ → ℕ) → ℕ → ℕ
first_by own outer zero = own
first_by own outer (suc n) = outer (suc n)

some_same : {A : Type 0} (x y : A) → Some x ≡ Some y → x ≡ y
some_same x y h = cc

tail_there : (chain : List ℕ) (n : ℕ) → slice_get (drop 1 chain) n ≡ slice_get chain (suc n)
tail_there [] n = refl
tail_there (x ∷ chain) n = refl

bit_false : (c : Bool) → (c ≡ true → ⊥) → c ≡ false
bit_false true h = absurd (h refl)
bit_false false h = refl

inside_or_not : (from to k : ℕ) → ((from ≤ k) × (k < to)) ⊎ (from ≤ k → k < to → ⊥)
inside_or_not from to k = by (either k from)
  where
    either : (i j : ℕ) → (i < j) ⊎ (j ≤ i)
    either i j = grind arith

    below : (i j : ℕ) → i < j → j ≤ i → ⊥
    below i j one two = grind (arith, one, two)

    by : (k < from) ⊎ (from ≤ k) → ((from ≤ k) × (k < to)) ⊎ (from ≤ k → k < to → ⊥)
    by (inl less) = inr (λ low high. below k from less low)
    by (inr low) = last (either k to)
      where
        last : (k < to) ⊎ (to ≤ k) → ((from ≤ k) × (k < to)) ⊎ (from ≤ k → k < to → ⊥)
        last (inl high) = inl (low, high)
        last (inr over) = inr (λ other high. below k to high over)

module _ (g : Program) (sound : AreCounted g.state.forms) (homes : Homes) (entries : Entries) (store store' : Store) (keeps keeps' : ℕ → Bool)
    (display : Display) (b : Block) (accepts : List ℕ) (w : ℤ) (chain : List ℕ) (view : View) (a : ℕ) (home : Home) (cells : List ℤ) (from to : ℕ) (accepts' :
    List ℕ) where
  abbrev layout : Layout
  layout = b.layout

  abbrev values : List Value
  values = values_in store' a

  abbrev here : Site
  here = block_site g b

  abbrev ranged : ℕ → Bool
  ranged d = in_range g.state.forms layout from to d

  abbrev pub chain' : List ℕ
  chain' = a ∷ drop 1 chain

  abbrev pub view' : View
  view' = record {
    reaches = λ n d. by_links (if ranged d then begins_at g.state.forms layout d else view.reaches 0 d) (view.reaches 1 d) false n;
    refers = λ n d. by_links (if ranged d then refers_at g.state.forms layout values d else view.refers 0 d) (view.refers 1 d) false n;
    first = λ n. first_by (first_number home) view.first n;
    held = λ n d. by_links (if ranged d then held_in (refers_at g.state.forms layout values d) cells d else view.held 0 d) (view.held 1 d) 0 n;
  }

  -- a scope whose variables lie in the own cells, among those that are other
  pub record IsNewScope (j : ℕ) : Type 0 where
    pub frame : frame_of display j ≡ record { scope = j; activation = a; first = laid_before here j }
    pub links : links_to here j ≡ 0
    pub laid : layout_with here j ≡ layout
    pub low : (v : Spot) → v.scope ≡ j → v.variable < variables_of here j → from ≤ place_of here v
    pub high : (v : Spot) → v.scope ≡ j → v.variable < variables_of here j → place_of here v < to

  -- what is other, and what is as it was
  pub record AreOther : Type 0 where
    pub at : homes a ≡ Some home
    pub is_layout : layout_at g home ≡ layout
    pub process : ℕ
    pub entry : Entry
    pub living : IsLiving entry (entries process)
    pub number : entry.activation ≡ a
    pub word : w ≡ word_of (own_place home)
    pub head : (x : ℕ) (rest : List ℕ) → chain ≡ x ∷ rest → x ≡ a
    pub next : slice_get chain 1 ≡ Some a → ⊥
    pub kept : (x : ℕ) → keeps x ≡ true → keeps' x ≡ true
    pub kept_own : keeps' a ≡ true
    pub live : (x : ℕ) → keeps' x ≡ true → Lives entries x
    pub holds : AreCells g homes layout values cells
    pub small : first_number home + length cells < 2 ^ 42
    pub others : (x : ℕ) → x ≢ a → values_in store' x ≡ values_in store x
    pub places : (k : ℕ) → (from ≤ k → k < to → ⊥) → get_or values k (ordinal (pos 0)) ≡ get_or (values_in store a) k (ordinal (pos 0))
    pub sized : (k : ℕ) (m : Meaning) → slice_get layout k ≡ Some m → is_laid m ≡ true → 0 < name_cells g.state.forms m
    pub lent : (v : Spot) (t : TypeId) → is_known g.state.blocks b accepts' v.scope ≡ true → links_to here v.scope ≡ 0
        → v.variable < variables_of here v.scope
        → from ≤ place_of here v → place_of here v < to → slice_get layout (place_of here v) ≡ Some (Variable t true)
        → (l : Location) × (get_or values (place_of here v) (ordinal (pos 0)) ≡ points l) × (keeps' l.activation ≡ true)
    pub near : (j : ℕ) → is_known g.state.blocks b accepts j ≡ true → (links_to here j ≡ 0) ⊎ (links_to here j ≡ 1)

  module _ (sees : Sees g homes entries store keeps display b accepts w chain view) (are : AreOther) where
    -- ## Its links

    own_link : IsKept homes entries keeps' w a
    own_link = record {
      home = home;
      at = are.at;
      process = are.process;
      entry = are.entry;
      living = are.living;
      number = are.number;
      kept = are.kept_own;
      word = are.word;
    }

    links_of : (xs : List ℕ) → ((x : ℕ) (rest : List ℕ) → xs ≡ x ∷ rest → x ≡ a) → AreLinked homes entries keeps w xs
        → AreLinked homes entries keeps' w (a ∷ drop 1 xs)
    links_of [] head linked = (own_link, tt)
    links_of (x ∷ xs) head linked =
        subst (λ y. AreLinked homes entries keeps' w (y ∷ xs)) (head x xs refl) (linked_too keeps keeps' are.kept homes entries w (x ∷ xs) linked)

    first_is : (xs : List ℕ) (x : ℕ) → ((y : ℕ) (rest : List ℕ) → xs ≡ y ∷ rest → y ≡ a) → slice_get xs 0 ≡ Some x → x ≡ a
    first_is [] x head there = absurd (let no : None ≡ Some x = there in cc)
    first_is (y ∷ xs) x head there = sym (some_same y x there) ∙ head y xs refl

    pub own_is : (x : ℕ) → slice_get chain 0 ≡ Some x → x ≡ a
    own_is x there = first_is chain x are.head there

    main_is_other : (x : ℕ) → slice_get chain 1 ≡ Some x → x ≢ a
    main_is_other x there same = are.next (there ∙ ap (λ n. Some n) same)

    first_then : (n x : ℕ) (other : Home) → slice_get chain' n ≡ Some x → homes x ≡ Some other → view'.first n ≡ first_number other
    first_then zero x other there at =
        ap first_number (some_same home other (sym are.at ∙ ap homes (some_same a x there) ∙ at))
    first_then (suc n) x other there at = sees.firsts (suc n) x other (sym (tail_there chain n) ∙ there) at

    -- ## Its cells

    own_cell : (d : ℕ) (test : Bool) → ranged d ≡ test → view'.reaches 0 d ≡ true
        → (x : ℕ) × (slice_get chain' 0 ≡ Some x) × IsCell g homes x d × (view'.first 0 + d < 2 ^ 42)
    own_cell d true is reached =
        let begins : begins_at g.state.forms layout d ≡ true =
        sym (ap (λ (t : Bool). if t then begins_at g.state.forms layout d else view.reaches 0 d) is) ∙ reached in
        let place = place_at g.state.forms layout d begins in
        let within : cells_before g.state.forms layout place.place ≤ length cells =
        place_within g sound homes layout values cells are.holds place.place place.meaning place.laid in (
          a,
          refl,
          record {
            home = home;
            at = are.at;
            place = place.place;
            meaning = place.meaning;
            laid = ap (λ (x : Layout). slice_get x place.place) are.is_layout ∙ place.laid;
            first = ap (λ (x : Layout). cells_before g.state.forms x place.place) are.is_layout ∙ place.first;
          },
          fits (first_number home) (length cells) d (cells_before g.state.forms layout place.place) are.small within place.first,
        )
      where
        fits : (n s i c : ℕ) → n + s < 2 ^ 42 → c ≤ s → c ≡ i → n + i < 2 ^ 42
        fits n s i c small within same = omega (arith, small, within, same)
    own_cell d false is reached =
        let before : view.reaches 0 d ≡ true =
        sym (ap (λ (t : Bool). if t then begins_at g.state.forms layout d else view.reaches 0 d) is) ∙ reached in
        let old = sees.cells 0 d before in
        let same : old.0 ≡ a = own_is old.0 old.1 in
        let start : view.first 0 ≡ first_number home = sees.firsts 0 old.0 home old.1 (ap homes same ∙ are.at) in (
          a,
          refl,
          subst (λ x. IsCell g homes x d) same old.2,
          subst (λ n. n + d < 2 ^ 42) start old.3,
        )

    cell_then : (n d : ℕ) → view'.reaches n d ≡ true → (x : ℕ) × (slice_get chain' n ≡ Some x) × IsCell g homes x d × (view'.first n + d < 2 ^ 42)
    cell_then zero d reached = own_cell d (ranged d) refl reached
    cell_then (suc zero) d reached = (let old = sees.cells 1 d reached in (old.0, tail_there chain 0 ∙ old.1, old.2, old.3))
    cell_then (suc (suc n)) d reached = absurd (let no : false ≡ true = reached in cc)

    -- ## Its references

    own_reference : (d : ℕ) (test : Bool) → ranged d ≡ test → view'.reaches 0 d ≡ true → view'.refers 0 d ≡ true
        → (x : ℕ) × (slice_get chain' 0 ≡ Some x) × IsReferenceCell g homes store' x d (view'.held 0 d)
    own_reference d true is reached refers =
        let refers_so : refers_at g.state.forms layout values d ≡ true =
        sym (ap (λ (t : Bool). if t then refers_at g.state.forms layout values d else view.refers 0 d) is) ∙ refers in
        let place = reference_at g.state.forms layout values d refers_so in
        let reference = as_reference place.meaning place.reference in
        let target = as_pointer (get_or values place.place (ordinal (pos 0))) place.pointer in
        let laid : slice_get layout place.place ≡ Some (Variable reference.0 true) = place.laid ∙ ap Some reference.1 in
        let held = held_at g sound homes layout values cells are.holds place.place reference.0 target.0 laid target.1 in (
          a,
          refl,
          record {
            home = home;
            at = are.at;
            place = place.place;
            t = reference.0;
            laid = ap (λ (x : Layout). slice_get x place.place) are.is_layout ∙ laid;
            first = ap (λ (x : Layout). cells_before g.state.forms x place.place) are.is_layout ∙ place.first;
            target = target.0;
            holds = target.1;
            word = held.word;
            lies = held.lies;
            number = held.number ∙ ap (λ n. pos (held_in true cells n)) place.first ∙ sym (ap (λ (x : Bool). pos (held_in x cells d)) refers_so)
                ∙ sym (ap (λ (t : Bool). pos (if t then held_in (refers_at g.state.forms layout values d) cells d else view.held 0 d)) is);
          },
        )
    own_reference d false is reached refers =
        let reached_before : view.reaches 0 d ≡ true =
        sym (ap (λ (t : Bool). if t then begins_at g.state.forms layout d else view.reaches 0 d) is) ∙ reached in
        let refers_before : view.refers 0 d ≡ true =
        sym (ap (λ (t : Bool). if t then refers_at g.state.forms layout values d else view.refers 0 d) is) ∙ refers in
        let old = sees.references 0 d reached_before refers_before in
        let same : old.0 ≡ a = own_is old.0 old.1 in
        let cell = old.2 in
        let its_home : cell.home ≡ home = some_same cell.home home (sym cell.at ∙ ap homes same ∙ are.at) in
        let its_layout : layout_at g cell.home ≡ layout = ap (λ (y : Home). layout_at g y) its_home ∙ are.is_layout in
        let laid : slice_get layout cell.place ≡ Some (Variable cell.t true) = ap (λ (x : Layout). slice_get x cell.place) (sym its_layout) ∙ cell.laid in
        let first : cells_before g.state.forms layout cell.place ≡ d = ap (λ (x : Layout). cells_before g.state.forms x cell.place) (sym its_layout) ∙
        cell.first in
        let out : from ≤ cell.place → cell.place < to → ⊥ =
        λ low high. both_ways (ranged d)
        (ap (λ n. ranged n) (sym first)
        ∙ range_has g.state.forms layout from to cell.place (Variable cell.t true) laid
        (are.sized cell.place (Variable cell.t true) laid refl) low high) is in (
          a,
          refl,
          record {
            home = home;
            at = are.at;
            place = cell.place;
            t = cell.t;
            laid = ap (λ (x : Layout). slice_get x cell.place) are.is_layout ∙ laid;
            first = ap (λ (x : Layout). cells_before g.state.forms x cell.place) are.is_layout ∙ first;
            target = cell.target;
            holds = are.places cell.place out ∙ ap (λ x. get_or (values_in store x) cell.place (ordinal (pos 0))) (sym same) ∙ cell.holds;
            word = cell.word;
            lies = cell.lies;
            number = cell.number
                ∙ sym (ap (λ (t : Bool). pos (if t then held_in (refers_at g.state.forms layout values d) cells d else view.held 0 d)) is);
          },
        )
      where
        both_ways : (t : Bool) → t ≡ true → t ≡ false → ⊥
        both_ways t one two = (let both : true ≡ false = sym one ∙ two in cc)

    reference_then : (n d : ℕ) → view'.reaches n d ≡ true → view'.refers n d ≡ true
        → (x : ℕ) × (slice_get chain' n ≡ Some x) × IsReferenceCell g homes store' x d (view'.held n d)
    reference_then zero d reached refers = own_reference d (ranged d) refl reached refers
    reference_then (suc zero) d reached refers =
        let old = sees.references 1 d reached refers in
        let cell = old.2 in (
          old.0,
          tail_there chain 0 ∙ old.1,
          record {
            home = cell.home;
            at = cell.at;
            place = cell.place;
            t = cell.t;
            laid = cell.laid;
            first = cell.first;
            target = cell.target;
            holds = ap (λ (vs : List Value). get_or vs cell.place (ordinal (pos 0))) (are.others old.0 (main_is_other old.0 old.1)) ∙ cell.holds;
            word = cell.word;
            lies = cell.lies;
            number = cell.number;
          },
        )
    reference_then (suc (suc n)) d reached refers = absurd (let no : false ≡ true = reached in cc)

    -- ## Its names

    -- a variable in the own cells, which is seen as it is
    in_cells : (v : Spot) (meaning : Meaning) → (frame_of display v.scope).activation ≡ a → (frame_of display v.scope).first + v.variable ≡ place_of here v
        → links_to here v.scope ≡ 0 → layout_with here v.scope ≡ layout → slice_get layout (place_of here v) ≡ Some meaning
        → ranged (cells_before g.state.forms layout (place_of here v)) ≡ true
        → ((t : TypeId) → slice_get layout (place_of here v) ≡ Some (Variable t true)
        → (l : Location) × (get_or values (place_of here v) (ordinal (pos 0)) ≡ points l) × (keeps' l.activation ≡ true))
        → IsNamed g homes store' keeps' display b chain' view' v meaning
    in_cells v meaning is_own place links its_layout laid is lends =
        let k : ℕ = place_of here v in
        let d : ℕ = cells_before g.state.forms layout k in
        let cell : cell_of here v ≡ d = ap (λ (x : Layout). layout_cells g.state.forms (take k x)) its_layout in
        record {
          linked = ap (λ n. slice_get chain' n) links ∙ ap Some (sym is_own);
          home = home;
          at = ap homes is_own ∙ are.at;
          place = place;
          layout = are.is_layout ∙ sym its_layout;
          reached = ap₂ (λ n i. view'.reaches n i) links cell
              ∙ ap (λ (t : Bool). if t then begins_at g.state.forms layout d else view.reaches 0 d) is ∙ begins_there g.state.forms layout k meaning laid;
          refers = λ reference. ap₂ (λ n i. view'.refers n i) links cell
              ∙ ap (λ (t : Bool). if t then refers_at g.state.forms layout values d else view.refers 0 d) is ∙ refers_here reference;
          target = λ t same. (
              let one = lends t (laid ∙ ap Some same) in
              let held = held_at g sound homes layout values cells are.holds k t one.0 (laid ∙ ap Some same) one.1 in (
                one.0,
                held.word,
                ap₂ (λ x n. get_or (values_in store' x) n (ordinal (pos 0))) is_own place ∙ one.1,
                one.2,
                held.lies,
                held.number
                    ∙ sym (ap (λ (x : Bool). pos (held_in x cells d)) (refers_here (ap is_reference same)))
                    ∙ sym (ap (λ (t : Bool). pos (if t then held_in (refers_at g.state.forms layout values d) cells d else view.held 0 d)) is)
                    ∙ ap₂ (λ n i. pos (view'.held n i)) (sym links) (sym cell),
              ));
        }
      where
        refers_here : is_reference meaning ≡ true → refers_at g.state.forms layout values (cells_before g.state.forms layout (place_of here v)) ≡ true
        refers_here reference =
            let its = as_reference meaning reference in
            let one = lends its.0 (laid ∙ ap Some its.1) in
            refers_there g.state.forms layout values (place_of here v) meaning laid reference (ap is_pointer one.1)

    new_named : (v : Spot) (meaning : Meaning) → is_known g.state.blocks b accepts' v.scope ≡ true → IsNewScope v.scope
        → v.variable < variables_of here v.scope
        → slice_get (layout_with here v.scope) (place_of here v) ≡ Some meaning → is_laid meaning ≡ true
        → IsNamed g homes store' keeps' display b chain' view' v meaning
    new_named v meaning known new own there variable_laid =
        let laid : slice_get layout (place_of here v) ≡ Some meaning = ap (λ (x : Layout). slice_get x (place_of here v)) (sym new.laid) ∙ there in
        let low = new.low v refl own in
        let high = new.high v refl own in
        in_cells v meaning (ap (λ (f : Frame). f.activation) new.frame) (ap (λ (f : Frame). f.first + v.variable) new.frame) new.links new.laid laid
        (range_has g.state.forms layout from to (place_of here v) meaning laid (are.sized (place_of here v) meaning laid variable_laid) low high)
        (λ t is. are.lent v t known new.links own low high is)

    module _ (v : Spot) (meaning : Meaning) (old : IsNamed g homes store keeps display b chain view v meaning)
        (there : slice_get (layout_with here v.scope) (place_of here v) ≡ Some meaning) (variable_laid : is_laid meaning ≡ true)
        (known : is_known g.state.blocks b accepts' v.scope ≡ true) (own : v.variable < variables_of here v.scope) where
      -- in main's activation
      outer_named : links_to here v.scope ≡ 1 → IsNamed g homes store' keeps' display b chain' view' v meaning
      outer_named links =
          let main : slice_get chain 1 ≡ Some (frame_of display v.scope).activation = ap (λ n. slice_get chain n) (sym links) ∙ old.linked in
          record {
            linked = ap (λ n. slice_get chain' n) links ∙ tail_there chain 0 ∙ main;
            home = old.home;
            at = old.at;
            place = old.place;
            layout = old.layout;
            reached = ap (λ n. view'.reaches n (cell_of here v)) links ∙ ap (λ n. view.reaches n (cell_of here v)) (sym links) ∙ old.reached;
            refers = λ reference. ap (λ n. view'.refers n (cell_of here v)) links ∙ ap (λ n. view.refers n (cell_of here v)) (sym links)
                ∙ old.refers reference;
            target = λ t same. (
                let one = old.target t same in (
                  one.0,
                  one.1,
                  ap (λ (vs : List Value). get_or vs (own_location display v).variable (ordinal (pos 0)))
                      (are.others (frame_of display v.scope).activation (main_is_other (frame_of display v.scope).activation main)) ∙ one.2,
                  are.kept one.0.activation one.3,
                  one.4,
                  one.5 ∙ ap (λ n. pos (view.held n (cell_of here v))) links ∙ ap (λ n. pos (view'.held n (cell_of here v))) (sym links),
                ));
          }

      module _ (links : links_to here v.scope ≡ 0) where
        pub is_own : (frame_of display v.scope).activation ≡ a
        is_own = own_is (frame_of display v.scope).activation (ap (λ n. slice_get chain n) (sym links) ∙ old.linked)

        its_home : old.home ≡ home
        its_home = some_same old.home home (sym old.at ∙ ap homes is_own ∙ are.at)

        pub its_layout : layout_with here v.scope ≡ layout
        its_layout = sym old.layout ∙ ap (λ (y : Home). layout_at g y) its_home ∙ are.is_layout

        abbrev k : ℕ
        k = place_of here v

        pub laid : slice_get layout k ≡ Some meaning
        laid = ap (λ (x : Layout). slice_get x k) (sym its_layout) ∙ there

        pub cell : cell_of here v ≡ cells_before g.state.forms layout k
        cell = ap (λ (x : Layout). layout_cells g.state.forms (take k x)) its_layout

        holds_so : get_or (values_in store (frame_of display v.scope).activation) ((frame_of display v.scope).first + v.variable) (ordinal (pos 0))
            ≡ get_or (values_in store a) k (ordinal (pos 0))
        holds_so = ap₂ (λ x n. get_or (values_in store x) n (ordinal (pos 0))) is_own old.place

        lends : (t : TypeId) → slice_get layout k ≡ Some (Variable t true)
            → (l : Location) × (get_or values k (ordinal (pos 0)) ≡ points l) × (keeps' l.activation ≡ true)
        lends t is = by (inside_or_not from to k)
          where
            by : ((from ≤ k) × (k < to)) ⊎ (from ≤ k → k < to → ⊥)
                → (l : Location) × (get_or values k (ordinal (pos 0)) ≡ points l) × (keeps' l.activation ≡ true)
            by (inl within) = are.lent v t known links own within.0 within.1 is
            by (inr out) =
                let one = old.target t (some_same meaning (Variable t true) (sym laid ∙ is)) in
                (one.0, are.places k out ∙ sym holds_so ∙ one.2, are.kept one.0.activation one.3)

        kept_named : ranged (cells_before g.state.forms layout k) ≡ false → IsNamed g homes store' keeps' display b chain' view' v meaning
        kept_named is =
            let d : ℕ = cells_before g.state.forms layout k in
            record {
              linked = ap (λ n. slice_get chain' n) links ∙ ap Some (sym is_own);
              home = home;
              at = ap homes is_own ∙ are.at;
              place = old.place;
              layout = are.is_layout ∙ sym its_layout;
              reached = ap₂ (λ n i. view'.reaches n i) links cell
                  ∙ ap (λ (t : Bool). if t then begins_at g.state.forms layout d else view.reaches 0 d) is
                  ∙ ap₂ (λ n i. view.reaches n i) (sym links) (sym cell) ∙ old.reached;
              refers = λ reference. ap₂ (λ n i. view'.refers n i) links cell
                  ∙ ap (λ (t : Bool). if t then refers_at g.state.forms layout values d else view.refers 0 d) is
                  ∙ ap₂ (λ n i. view.refers n i) (sym links) (sym cell) ∙ old.refers reference;
              target = λ t same. (
                  let one = old.target t same in
                  let laid_so : slice_get layout k ≡ Some (Variable t true) = laid ∙ ap Some same in
                  let out : from ≤ k → k < to → ⊥ =
                  λ low high. both_ways (ranged d)
                  (range_has g.state.forms layout from to k (Variable t true) laid_so (are.sized k (Variable t true) laid_so refl) low high) is in (
                    one.0,
                    one.1,
                    ap₂ (λ x n. get_or (values_in store' x) n (ordinal (pos 0))) is_own old.place ∙ are.places k out ∙ sym holds_so ∙ one.2,
                    are.kept one.0.activation one.3,
                    one.4,
                    one.5 ∙ ap₂ (λ n i. pos (view.held n i)) links cell
                        ∙ sym (ap (λ (t : Bool). pos (if t then held_in (refers_at g.state.forms layout values d) cells d else view.held 0 d)) is)
                        ∙ ap₂ (λ n i. pos (view'.held n i)) (sym links) (sym cell),
                  ));
            }
          where
            both_ways : (t : Bool) → t ≡ true → t ≡ false → ⊥
            both_ways t one two = (let both : true ≡ false = sym one ∙ two in cc)

        own_named : (test : Bool) → ranged (cells_before g.state.forms layout k) ≡ test → IsNamed g homes store' keeps' display b chain' view' v meaning
        own_named true is = in_cells v meaning is_own old.place links its_layout laid is lends
        own_named false is = kept_named is

      known_named : (links_to here v.scope ≡ 0) ⊎ (links_to here v.scope ≡ 1) → IsNamed g homes store' keeps' display b chain' view' v meaning
      known_named (inl links) = own_named links (ranged (cells_before g.state.forms layout (place_of here v))) refl
      known_named (inr links) = outer_named links

    pub sees_anew : ((j : ℕ) → is_known g.state.blocks b accepts' j ≡ true → (is_known g.state.blocks b accepts j ≡ true) ⊎ IsNewScope j)
        → Sees g homes entries store' keeps' display b accepts' w chain' view'
    sees_anew more =
        record {
          live = are.live;
          links = links_of chain are.head sees.links;
          firsts = first_then;
          cells = cell_then;
          references = reference_then;
          names = λ v meaning known own there laid. named v meaning known own there laid (more v.scope known);
        }
      where
        named : (v : Spot) (meaning : Meaning) → is_known g.state.blocks b accepts' v.scope ≡ true → v.variable < variables_of here v.scope
            → slice_get (layout_with here v.scope) (place_of here v) ≡ Some meaning → is_laid meaning ≡ true
            → (is_known g.state.blocks b accepts v.scope ≡ true) ⊎ IsNewScope v.scope → IsNamed g homes store' keeps' display b chain' view' v meaning
        named v meaning known own there laid (inl before) =
            known_named v meaning (sees.names v meaning before own there laid) there laid known own (are.near v.scope before)
        named v meaning known own there laid (inr new) = new_named v meaning known new own there laid
