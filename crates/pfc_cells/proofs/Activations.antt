-- A new activation and the end of one keep what the stacks hold of all others.
use Rattle.std.proofs.Common.{◌≡◌, ◌≢◌, ℕ, ◌≤◌, true, false, ℤ, List, [], ◌∷◌, ◌++◌, length, Option, Some, None, refl, sym, ap, ◌∙◌, subst, arith}
use Rattle.std.specs.Prelude.{◌==◌, if◌then◌else◌}
use Rattle.pfc_types.specs.declared.types.TypeId.{TypeId}
use Rattle.pfc_types.specs.declared.scope.Meaning.{Meaning}
use Rattle.pfc_types.specs.declared.scope.Meaning.TheVariants.{Variable, Process}
use Rattle.pfc_semantics.specs.Layouts.{Layout}
use Rattle.pfc_semantics.specs.Programs.{Program}
use Rattle.pfc_semantics.specs.Values.{Value, Location}
use Rattle.pfc_semantics.specs.Store.{Store, values_in, with_room, without}
use Rattle.pfc_stacks.specs.Stacks.{Stacks, own_cells, cells_of}
use Rattle.pfc_cells.specs.Shapes.{AreCounted}
use Rattle.pfc_cells.specs.Homes.{Home, Homes, IsLocation, layout_at}
use Rattle.pfc_cells.specs.Memory.{IsHeld, AreCells, Refers, to_nothing, to_location, Entry, Entries, StandsOver, CellsAre, ProcessIs, MemoryIs}
use Rattle.pfc_cells.specs.Activations.{with_home, with_entries}
use Rattle.pfc_cells.proofs.Numbers.{same, other, same_or_not, is_same, is_other}
use Rattle.pfc_cells.proofs.Blocks.{process_kept, cells_kept}

-- ## Stores

pub room_added : (store : Store) (a : ℕ) (values : List Value) → values_in (with_room store a values) a ≡ values
room_added store a values = ap (λ t. if t then values else values_in store a) (is_same a a refl)

pub room_beside : (store : Store) (a : ℕ) (values : List Value) (b : ℕ) → b ≢ a → values_in (with_room store a values) b ≡ values_in store b
room_beside store a values b apart = ap (λ t. if t then values else values_in store b) (is_other a b (λ e. apart (sym e)))

pub room_left : (store : Store) (a b : ℕ) → b ≢ a → values_in (without store a) b ≡ values_in store b
room_left [] a b apart = refl
room_left (room ∷ store) a b apart =
    elim (same_or_not room.activation a) [
      | same e ↦
          ap (λ t. values_in (if t then store else room ∷ without store a) b) (is_same room.activation a e)
          ∙ sym (ap (λ t. if t then room.values else values_in store b) (is_other room.activation b (λ f. apart (sym f ∙ e))))
      | other n ↦
          ap (λ t. values_in (if t then store else room ∷ without store a) b) (is_other room.activation a n)
          ∙ ap (λ vs. if room.activation == b then room.values else vs) (room_left store a b apart)
    ]

-- ## More homes

abbrev pub Grows : Homes → Homes → Type 0
Grows homes more = (b : ℕ) (home : Home) → homes b ≡ Some home → more b ≡ Some home

module _ (g : Program) (homes more : Homes) (grows : Grows homes more) where
  location_grown : (l : Location) (t : Option TypeId) (home : Home) (o : ℕ) → IsLocation g homes l t home o → IsLocation g more l t home o
  location_grown l t home o x = record {
    at = grows l.activation home x.at;
    meaning = x.meaning;
    laid = x.laid;
    variable =
        x.variable;
    own = x.own;
    path = x.path;
  }

  refers_grown : (t : TypeId) (v : Value) (w : ℤ) → Refers g homes t v w → Refers g more t v w
  refers_grown t v w (to_nothing v' h) = to_nothing v' h
  refers_grown t v w (to_location l r h) = to_location l r (record {
    home = h.home;
    behind = h.behind;
    is = location_grown l
        (Some t) h.home h.behind h.is;
    place = h.place;
  })

  held_grown : (m : Meaning) (v : Value) (words : List ℤ) → IsHeld g homes m v words → IsHeld g more m v words
  held_grown (Variable t false) v words h = h
  held_grown (Variable t true) v words h = (h.0, h.1, refers_grown t v h.0 h.2)
  held_grown (Process n) v words h = h
  held_grown m v words h = absurd h

  block_grown : (layout : Layout) (values : List Value) (cells : List ℤ) → AreCells g homes layout values cells → AreCells g more layout values cells
  block_grown [] [] cells h = h
  block_grown [] (v ∷ values) cells h = absurd h
  block_grown (m ∷ layout) [] cells h = absurd h
  block_grown (m ∷ layout) (v ∷ values) cells h = (h.0, h.1, h.2, held_grown m v h.0 h.3, block_grown layout values h.1 h.4)

  stack_grown :
      (store next : Store) (q : ℕ) (entries : List Entry) (cells : List ℤ) → ((b : ℕ) (home : Home) → homes b ≡ Some home
      → values_in next b ≡ values_in store b)
      → CellsAre g homes store q entries cells → CellsAre g more next q entries cells
  stack_grown store next q [] cells alike h = h
  stack_grown store next q (e ∷ below) cells alike h =
      let top = h.2 in (
        h.0,
        stack_grown store next q below h.0 alike h.1,
        record {
          home = top.home;
          at = grows e.activation top.home top.at;
          process = top.process;
          place = top.place;
          size = top.size;
          block = top.block;
          holds = subst (λ vs. AreCells g more (layout_at g top.home) vs top.block) (sym (alike e.activation top.home top.at)) (block_grown
              (layout_at g top.home) (values_in store e.activation) top.block top.holds);
          is = top.is;
        },
      )

  process_grown :
      (store next : Store) (q : ℕ) (entries : List Entry) (cells : List ℤ) → ((b : ℕ) (home : Home) → homes b ≡ Some home
      → values_in next b ≡ values_in store b)
      → ProcessIs g homes store q entries cells → ProcessIs g more next q entries cells
  process_grown store next q [] cells alike h = tt
  process_grown store next q (e ∷ below) cells alike h = stack_grown store next q (e ∷ below) cells alike h

-- ## A new activation

none_or_some : {A : Type 0} (x : Option A) (y : A) → x ≡ None → x ≡ Some y → ⊥
none_or_some x y h k = absurd (cc)

home_grows : (homes : Homes) (a : ℕ) (home : Home) → homes a ≡ None → Grows homes (with_home homes a home)
home_grows homes a home fresh b h at =
    let apart : b ≢ a = λ e. none_or_some (homes b) h (ap homes e ∙ fresh) at in
    ap (λ t. if t then Some home else homes b) (is_other b a apart) ∙ at

module _ (g : Program) (homes : Homes) (entries : Entries) (store : Store) (stacks : Stacks) where
  -- over the cells of its process, all others of which are as they were
  pub added :
      (after : Stacks) (p a : ℕ) (home : Home) (own lower block : List ℤ) (values : List Value)
      → MemoryIs g homes entries store stacks → CellsAre g homes store p (entries p) lower → homes a ≡ None → length own ≡ own_cells
      → home.process ≡ p → home.cell ≡ length lower → AreCells g homes (layout_at g home) values block
      → cells_of after p ≡ lower ++ (own ++ block) → ((q : ℕ) → q ≢ p → cells_of after q ≡ cells_of stacks q)
      → MemoryIs g (with_home homes a home) (with_entries entries p (record { activation = a; own = own } ∷ entries p)) (with_room store a values) after
  added after p a home own lower block values memory under fresh size process place holds cells others q =
      let more : Homes = with_home homes a home in
      let next : Store = with_room store a values in
      let e : Entry = record { activation = a; own = own } in
      let grows : Grows homes more = home_grows homes a home fresh in
      let alike : (b : ℕ) (h : Home) → homes b ≡ Some h → values_in next b ≡ values_in store b =
      λ b h at. room_beside store a values b (λ f. none_or_some (homes b) h (ap homes f ∙ fresh) at) in
      elim (same_or_not q p) [
        | same equal ↦
            let now : with_entries entries p (e ∷ entries p) q ≡ e ∷ entries p = ap (λ t. if t then e ∷ entries p else entries q) (is_same q p equal) in
            let top : StandsOver g more next p e lower (cells_of after p) = record {
              home = home;
              at = ap (λ t. if t then Some home else homes a) (is_same a a refl);
              process = process;
              place = place;
              size = size;
              block = block;
              holds = subst (λ vs. AreCells g more (layout_at g home) vs block) (sym (room_added store a values)) (block_grown g homes more grows
                  (layout_at g home) values block holds);
              is = cells;
            } in
            let whole : ProcessIs g more next p (e ∷ entries p) (cells_of after p) = (
              lower,
              stack_grown g homes more grows store next p
                  (entries p) lower alike under,
              top,
            ) in
            subst (λ es. ProcessIs g more next q es (cells_of after q)) (sym now) (subst (λ n. ProcessIs g more next n (e ∷ entries p)
            (cells_of after n)) (sym equal) whole)
        | other apart ↦
            let now : with_entries entries p (e ∷ entries p) q ≡ entries q = ap (λ t. if t then e ∷ entries p else entries q) (is_other q p apart) in
            subst (λ es. ProcessIs g more next q es (cells_of after q)) (sym now)
            (subst (λ ws. ProcessIs g more next q (entries q) ws) (sym (others q apart)) (process_grown g homes more grows store next q (entries q)
            (cells_of stacks q) alike (memory q)))
      ]

-- ## The end of one

module _ (g : Program) (sound : AreCounted g.state.forms) (homes : Homes) (entries : Entries) (store : Store) (stacks : Stacks) where
  -- the latest of its process goes, and of the process what stands below it stays
  pub taken :
      (after : Stacks) (p : ℕ) (e : Entry) (below : List Entry) → MemoryIs g homes entries store stacks → entries p ≡ e ∷ below
      → ((lower : List ℤ) → CellsAre g homes (without store e.activation) p below lower → (rest : List ℤ) → cells_of stacks p ≡ lower ++ rest
      → (home : Home) → homes e.activation ≡ Some home → home.cell ≡ length lower
      → ProcessIs g homes (without store e.activation) p below (cells_of after p))
      → ((q : ℕ) → q ≢ p → cells_of after q ≡ cells_of stacks q)
      → MemoryIs g homes (with_entries entries p below) (without store e.activation) after
  taken after p e below memory living left others q =
      let next : Store = without store e.activation in
      let was : CellsAre g homes store p (e ∷ below) (cells_of stacks p) = subst (λ es. ProcessIs g homes store p es (cells_of stacks p)) living (memory p) in
      let top = was.2 in
      elim (same_or_not q p) [
        | same equal ↦
            let now : with_entries entries p below q ≡ below = ap (λ t. if t then below else entries q) (is_same q p equal) in
            let under : length was.0 ≤ top.home.cell = (let place = top.place in omega (arith, place)) in
            let kept : CellsAre g homes next p below was.0 = cells_kept g sound homes store next p below was.0 e.activation top.home top.at
            (λ mine. under) (room_left store e.activation) was.1 in
            let whole : ProcessIs g homes next p below (cells_of after p) = left was.0 kept (e.own ++ top.block) top.is top.home top.at top.place in
            subst (λ es. ProcessIs g homes next q es (cells_of after q)) (sym now) (subst (λ n. ProcessIs g homes next n below (cells_of after n))
            (sym equal) whole)
        | other apart ↦
            let now : with_entries entries p below q ≡ entries q = ap (λ t. if t then below else entries q) (is_other q p apart) in
            subst (λ es. ProcessIs g homes next q es (cells_of after q)) (sym now)
            (subst (λ ws. ProcessIs g homes next q (entries q) ws) (sym (others q apart))
            (process_kept g sound homes store next q (entries q) (cells_of stacks q) e.activation top.home top.at (λ mine. apart (sym mine
            ∙ top.process)) (room_left store e.activation) (memory q)))
      ]
