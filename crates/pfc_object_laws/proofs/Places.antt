-- Main's cells before the first action: the words of its variables, and where its objects lie among them.
use Rattle.std.proofs.Common.{◌≡◌, ℕ, zero, suc, ◌+◌, if◌then◌else◌, ℤ, pos, Bool, true, false, List, [], ◌∷◌, ◌++◌, length, take, get_or, set, replicate}
use Rattle.std.proofs.Common.{slice_get, Option, Some, None, refl, sym, ap, ap₂, ◌∙◌, subst, arith, length-append}
use Rattle.std.specs.Ordering.{int_eq}
use Rattle.std.proofs.lemmas.Bool.Decides.{Decides-int_eq}
use Rattle.std.proofs.lemmas.List.{append_assoc}
use Rattle.std.proofs.lemmas.List.Sums.{sum_by-cons}
use Rattle.pfc_code.specs.declared.images.Object.{Object}
use Rattle.pfc_types.specs.Types.{Forms, form_of, cells_in}
use Rattle.pfc_types.specs.declared.types.TypeId.{TypeId}
use Rattle.pfc_types.specs.declared.scope.Meaning.{Meaning}
use Rattle.pfc_types.specs.declared.scope.Meaning.TheVariants.{Constant, Named, Variable, Sub, Module, Process, Entry, Predeclared, Faulty}
use Rattle.pfc_types.specs.rules.Declarations.{name_cells}
use Rattle.pfc_semantics.specs.Values.{Value, ordinal, part}
use Rattle.pfc_semantics.specs.Layouts.{Layout}
use Rattle.pfc_semantics.specs.Programs.{Program, layout_cells}
use Rattle.pfc_translation.specs.Objects.{all_objects, laid_objects, numbers_of, main_numbers, objects_from}
use Rattle.pfc_stacks.specs.Starts.{numbered}
use Rattle.pfc_cells.specs.Shapes.{AreCounted, Fits, IsOf, is_number, is_array, is_record, has_parts, IsPath, here, words_of}
use Rattle.pfc_cells.specs.Homes.{Homes, cells_before, laid_type}
use Rattle.pfc_cells.specs.Memory.{AreCells}
use Rattle.pfc_cells.proofs.Words.{around}
use Rattle.pfc_standing_code.specs.Shapes.{is_object_type}
use Rattle.pfc_type_laws.specs.Tables.{IsBuiltUp}
use Rattle.pfc_object_laws.specs.Objects.{all_words, number_at, marked}
use Rattle.pfc_object_laws.proofs.Lists.{get_left, get_right_at, Either, in_left, in_right, either, marked_append, marked_length}
use Rattle.pfc_object_laws.proofs.Parts.{cells, cells_at, cells_count, path_cells, object_cell, object_single, marked_part}
use Rattle.pfc_object_laws.proofs.Names.{Laid, FirstOf}

-- ## Objects by their addresses

pub record Marked (cells : List Bool) (numbers : List ℕ) (i : ℕ) (w : ℤ) : Type 0 where
  pub cell : slice_get cells i ≡ Some true
  pub word : slice_get (marked cells numbers) i ≡ Some w

same_some : {X : Type 0} (x y : X) → Some x ≡ Some y → x ≡ y
same_some x y h = cc

other_address : (c i : ℕ) → (pos (8 + (c + suc i)) ≡ pos (8 + c)) → ⊥
other_address c i e = let both : 8 + (c + suc i) ≡ 8 + c = cc in omega (arith, both)

pub found_at : (c : ℕ) (cells : List Bool) (numbers : List ℕ) (i : ℕ) (w : ℤ) → Marked cells numbers i w
    → number_at (objects_from c cells numbers) (pos (8 + (c + i))) ≡ Some w
found_at c [] numbers i w h = absurd (let none : None ≡ Some true = h.cell in cc)
found_at c (b ∷ cells) [] i w h = absurd (let none : None ≡ Some w = h.word in cc)
found_at c (b ∷ cells) (n ∷ numbers) zero w h =
    let is : b ≡ true = same_some b true h.cell in
    let word : (if b then pos n else pos 0) ≡ w = same_some _ w h.word in
    ap (λ (x : Bool). number_at (if x then (let o : Object = record { cell = c; number = n } in o) ∷ objects_from (c + 1) cells numbers else objects_from
    (c + 1)
    cells numbers) (pos (8 + (c + 0)))) is
    ∙ ap (λ (x : Bool). if x then Some (pos n) else number_at (objects_from (c + 1) cells numbers) (pos (8 + (c + 0))))
    ((Decides-int_eq (pos (8 + (c + 0))) (pos (8 + c))).1 (ap (λ k. pos (8 + k)) (omega arith)))
    ∙ ap Some (ap (λ (x : Bool). if x then pos n else pos 0) (sym is) ∙ word)
found_at c (b ∷ cells) (n ∷ numbers) (suc i) w h =
    by (ap (λ k. number_at (objects_from (c + 1) cells numbers) (pos (8 + k))) (regroup c i) ∙ found_at (c + 1) cells numbers i w
    (record { cell = h.cell; word = h.word })) b
  where
    regroup : (a b : ℕ) → a + suc b ≡ a + 1 + b
    regroup a b = omega arith

    other : number_at (objects_from (c + 1) cells numbers) (pos (8 + (c + suc i))) ≡ Some w → (r : Bool) → int_eq (pos (8 + (c + suc i))) (pos (8 + c)) ≡ r
        → (if r then Some (pos n) else number_at (objects_from (c + 1) cells numbers) (pos (8 + (c + suc i)))) ≡ Some w
    other rest true e = absurd (other_address c i ((Decides-int_eq (pos (8 + (c + suc i))) (pos (8 + c))).0 e))
    other rest false e = rest

    by : number_at (objects_from (c + 1) cells numbers) (pos (8 + (c + suc i))) ≡ Some w → (x : Bool)
        → number_at (if x then (let o : Object = record { cell = c; number = n } in o) ∷ objects_from (c + 1) cells numbers else objects_from (c + 1) cells
        numbers)
        (pos (8 + (c + suc i))) ≡ Some w
    by rest true = other rest (int_eq (pos (8 + (c + suc i))) (pos (8 + c))) refl
    by rest false = rest

-- where an object is found
pub record Found (c : ℕ) (cells : List Bool) (w : ℤ) : Type 0 where
  pub i : ℕ
  pub word : w ≡ pos (8 + (c + i))
  pub cell : slice_get cells i ≡ Some true

found_behind : (c : ℕ) (b : Bool) (cells : List Bool) (w : ℤ) → Found (c + 1) cells w → Found c (b ∷ cells) w
found_behind c b cells w h = record { i = suc h.i; word = h.word ∙ ap (λ k. pos (8 + k)) (omega arith); cell = h.cell }

pub only_found : (c : ℕ) (cells : List Bool) (numbers : List ℕ) (w n : ℤ) → number_at (objects_from c cells numbers) w ≡ Some n → Found c cells w
only_found c [] numbers w n h = absurd (cc)
only_found c (b ∷ cells) [] w n h = absurd (cc)
only_found c (b ∷ cells) (m ∷ numbers) w n h = by (λ e. only_found (c + 1) cells numbers w n e) b h
  where
    own : (number_at (objects_from (c + 1) cells numbers) w ≡ Some n → Found (c + 1) cells w) → (r : Bool) → int_eq w (pos (8 + c)) ≡ r
        → (if r then Some (pos m) else number_at (objects_from (c + 1) cells numbers) w) ≡ Some n → Found c (true ∷ cells) w
    own rest true e h = record { i = 0; word = (Decides-int_eq w (pos (8 + c))).0 e ∙ ap (λ k. pos (8 + k)) (omega arith); cell = refl }
    own rest false e h = found_behind c true cells w (rest h)

    by : (number_at (objects_from (c + 1) cells numbers) w ≡ Some n → Found (c + 1) cells w) → (x : Bool)
        → number_at (if x then (let o : Object = record { cell = c; number = m } in o) ∷ objects_from (c + 1) cells numbers else objects_from (c + 1) cells
        numbers) w ≡ Some n
        → Found c (x ∷ cells) w
    by rest true h = own rest (int_eq w (pos (8 + c))) refl h
    by rest false h = found_behind c false cells w (rest h)

-- ## The cells

set_behind : (a b : List ℤ) (x y : ℤ) (k : ℕ) → length a ≡ k → set (a ++ x ∷ b) k y ≡ a ++ y ∷ b
set_behind [] b x y zero e = refl
set_behind [] b x y (suc k) e = absurd (omega (arith, e))
set_behind (z ∷ a) b x y zero e = absurd (omega (arith, e))
set_behind (z ∷ a) b x y (suc k) e = ap (λ l. z ∷ l) (set_behind a b x y k (omega (arith, e)))

-- where the cells of main's variables are 0, the numbers of the objects make them the words of those
pub cells_are_marked : (c : ℕ) (cells : List Bool) (numbers : List ℕ) (before : List ℤ) → length before ≡ 8 + c → length numbers ≡ length cells
    → numbered (objects_from c cells numbers) (before ++ replicate (length cells) (pos 0)) ≡ before ++ marked cells numbers
cells_are_marked c [] numbers before at count = refl
cells_are_marked c (b ∷ cells) [] before at count = absurd (omega (arith, count))
cells_are_marked c (b ∷ cells) (n ∷ numbers) before at count =
    by (λ w. cells_are_marked (c + 1) cells numbers (before ++ w ∷ []) (length-append before (w ∷ []) ∙ omega (arith, at)) (omega (arith, count))) b
  where
    onto : (w : ℤ) (rest : List ℤ) → before ++ w ∷ rest ≡ (before ++ w ∷ []) ++ rest
    onto w rest = sym (append_assoc before (w ∷ []) rest)

    behind : ((w : ℤ)
        → numbered (objects_from (c + 1) cells numbers) ((before ++ w ∷ []) ++ replicate (length cells) (pos 0)) ≡ (before ++ w ∷ []) ++ marked cells
        numbers) → (w : ℤ) → numbered (objects_from (c + 1) cells numbers) (before ++ w ∷ replicate (length cells) (pos 0)) ≡ before ++ w ∷ marked cells numbers
    behind rest w =
        ap (λ l. numbered (objects_from (c + 1) cells numbers) l) (onto w (replicate (length cells) (pos 0))) ∙ rest w ∙ sym (onto w (marked cells numbers))

    by : ((w : ℤ)
        → numbered (objects_from (c + 1) cells numbers) ((before ++ w ∷ []) ++ replicate (length cells) (pos 0)) ≡ (before ++ w ∷ []) ++ marked cells
        numbers) → (x : Bool)
        → numbered (if x then (let o : Object = record { cell = c; number = n } in o) ∷ objects_from (c + 1) cells numbers else objects_from (c + 1) cells
        numbers)
        (before ++ pos 0 ∷ replicate (length cells) (pos 0)) ≡ before ++ (if x then pos n else pos 0) ∷ marked cells numbers
    by rest true =
        ap (λ l. numbered (objects_from (c + 1) cells numbers) l) (set_behind before (replicate (length cells) (pos 0)) (pos 0) (pos n) (8 + c) at)
        ∙ behind rest (pos n)
    by rest false = behind rest (pos 0)

-- ## Variables

module _ (forms : Forms) (is_built : IsBuiltUp forms) (counted : AreCounted forms) where
  abbrev Firsts : Layout → List Value → Type 0
  Firsts layout values = Laid (FirstOf forms is_built counted) layout values

  -- the words of all variables are the numbers of their objects
  pub record AreMarked (layout : Layout) (values : List Value) : Type 0 where
    pub words : all_words values ≡ marked (laid_objects (all_objects forms) layout) (main_numbers values)
    pub numbers : length (main_numbers values) ≡ length (laid_objects (all_objects forms) layout)
    pub count : length (laid_objects (all_objects forms) layout) ≡ layout_cells forms layout

  next_cells : (m : Meaning) (layout : Layout) → layout_cells forms (m ∷ layout) ≡ name_cells forms m + layout_cells forms layout
  next_cells m layout = sum_by-cons (λ (x : Meaning). name_cells forms x) m layout

  pub are_marked : (layout : Layout) (values : List Value) → Firsts layout values → AreMarked layout values
  are_marked [] [] h = record { words = refl; numbers = refl; count = refl }
  are_marked [] (v ∷ values) h = absurd h
  are_marked (m ∷ layout) [] h = absurd h
  are_marked (Variable t false ∷ layout) (v ∷ values) h =
      let one = h.0.1 in
      let rest = are_marked layout values h.1 in
      let a = cells forms is_built counted t in
      let b = laid_objects (all_objects forms) layout in
      let size : length a ≡ cells_in forms t = cells_count forms is_built counted t in
      let more : length b ≡ layout_cells forms layout = rest.count in
      let first : length (numbers_of v) ≡ length a = one.count in
      let last : length (main_numbers values) ≡ length b = rest.numbers in
      record {
        words = ap₂ (λ (x y : List ℤ). x ++ y) one.words rest.words ∙ sym (marked_append a b (numbers_of v) (main_numbers values) one.count);
        numbers = omega (arith, first, last, length-append (numbers_of v) (main_numbers values), length-append a b);
        count = omega (arith, size, more, length-append a b, next_cells (Variable t false) layout);
      }
  are_marked (Variable t true ∷ layout) (v ∷ values) h = absurd (let both : true ≡ false = h.0.0 in cc)
  are_marked (Process n ∷ layout) (v ∷ values) h =
      let rest = are_marked layout values h.1 in
      let one : v ≡ ordinal (pos h.0.0) = h.0.1 in
      let more : length (laid_objects (all_objects forms) layout) ≡ layout_cells forms layout = rest.count in
      let last : length (main_numbers values) ≡ length (laid_objects (all_objects forms) layout) = rest.numbers in
      subst (λ (x : Value). AreMarked (Process n ∷ layout) (x ∷ values)) (sym one)
      (record {
        words = ap (λ (x : List ℤ). pos h.0.0 ∷ x) rest.words;
        numbers = ap suc last;
        count = omega (arith, more, next_cells (Process n) layout);
      })
  are_marked (Constant t k ∷ layout) (v ∷ values) h = absurd h.0
  are_marked (Named t ∷ layout) (v ∷ values) h = absurd h.0
  are_marked (Sub n ∷ layout) (v ∷ values) h = absurd h.0
  are_marked (Module n ∷ layout) (v ∷ values) h = absurd h.0
  are_marked (Entry n ∷ layout) (v ∷ values) h = absurd h.0
  are_marked (Predeclared n ∷ layout) (v ∷ values) h = absurd h.0
  are_marked (Faulty ∷ layout) (v ∷ values) h = absurd h.0

  -- the cells hold the values
  pub are_cells : (g : Program) (homes : Homes) → g.state.forms ≡ forms → (layout : Layout) (values : List Value) → Firsts layout values
      → AreCells g homes layout values (all_words values)
  are_cells g homes same [] [] h = refl
  are_cells g homes same [] (v ∷ values) h = absurd h
  are_cells g homes same (m ∷ layout) [] h = absurd h
  are_cells g homes same (Variable t false ∷ layout) (v ∷ values) h = (
    words_of v,
    all_words values,
    refl,
    (subst (λ (f : Forms). IsOf f t v) (sym same) h.0.1.is, refl),
    are_cells g homes same layout values h.1,
  )
  are_cells g homes same (Variable t true ∷ layout) (v ∷ values) h = absurd (let both : true ≡ false = h.0.0 in cc)
  are_cells g homes same (Process n ∷ layout) (v ∷ values) h =
      (words_of v, all_words values, refl, ((pos h.0.0, h.0.1), refl), are_cells g homes same layout values h.1)
  are_cells g homes same (Constant t k ∷ layout) (v ∷ values) h = absurd h.0
  are_cells g homes same (Named t ∷ layout) (v ∷ values) h = absurd h.0
  are_cells g homes same (Sub n ∷ layout) (v ∷ values) h = absurd h.0
  are_cells g homes same (Module n ∷ layout) (v ∷ values) h = absurd h.0
  are_cells g homes same (Entry n ∷ layout) (v ∷ values) h = absurd h.0
  are_cells g homes same (Predeclared n ∷ layout) (v ∷ values) h = absurd h.0
  are_cells g homes same (Faulty ∷ layout) (v ∷ values) h = absurd h.0

  -- ## One variable

  abbrev cells_of_layout : Layout → List Bool
  cells_of_layout layout = laid_objects (all_objects forms) layout

  -- Where a variable lies among all: its cells and its words.
  pub record Among (layout : Layout) (values : List Value) (k : ℕ) (m : Meaning) : Type 0 where
    pub value : Value
    pub there : slice_get values k ≡ Some value
    pub first : FirstOf forms is_built counted m value
    pub cells_there : (j : ℕ) (b : Bool) → slice_get (cells_at forms is_built counted (laid_type m)) j ≡ Some b
        → slice_get (cells_of_layout layout) (cells_before forms layout k + j) ≡ Some b
    pub words_there : (j : ℕ) (w : ℤ) → slice_get (words_of value) j ≡ Some w → slice_get (all_words values) (cells_before forms layout k + j) ≡ Some w

  -- a variable is its cells and words, and those of all others stand before or behind them
  record Apart (m : Meaning) (v : Value) : Type 0 where
    own : List Bool
    is : (layout : Layout) → cells_of_layout (m ∷ layout) ≡ own ++ cells_of_layout layout
    same_cells : cells_at forms is_built counted (laid_type m) ≡ own
    cells_size : length own ≡ name_cells forms m
    words_size : length (words_of v) ≡ name_cells forms m

  apart : (m : Meaning) (v : Value) → FirstOf forms is_built counted m v → Apart m v
  apart (Variable t false) v h =
      let size : length (cells forms is_built counted t) ≡ cells_in forms t = cells_count forms is_built counted t in
      record {
        own = cells forms is_built counted t;
        is = λ layout. refl;
        same_cells = refl;
        cells_size = size;
        words_size = ap length h.1.words ∙ marked_length (cells forms is_built counted t) (numbers_of v) h.1.count ∙ size;
      }
  apart (Variable t true) v h = absurd (let both : true ≡ false = h.0 in cc)
  apart (Process n) v h =
      record { own = true ∷ []; is = λ layout. refl; same_cells = refl; cells_size = refl; words_size = ap (λ (x : Value). length (words_of x)) h.1 }
  apart (Constant t k) v h = absurd h
  apart (Named t) v h = absurd h
  apart (Sub n) v h = absurd h
  apart (Module n) v h = absurd h
  apart (Entry n) v h = absurd h
  apart (Predeclared n) v h = absurd h
  apart Faulty v h = absurd h

  pub among : (layout : Layout) (values : List Value) (k : ℕ) (m : Meaning) → Firsts layout values → slice_get layout k ≡ Some m → Among layout values k m
  among [] [] k m h there = absurd (cc)
  among [] (v ∷ values) k m h there = absurd h
  among (x ∷ layout) [] k m h there = absurd h
  among (x ∷ layout) (v ∷ values) zero m h there =
      let same : x ≡ m = same_some x m there in
      let its = apart x v h.0 in
      record {
        value = v;
        there = refl;
        first = subst (λ (y : Meaning). FirstOf forms is_built counted y v) same h.0;
        cells_there = λ j b e. ap₂ (λ (l : List Bool) n. slice_get l n) (its.is layout) (none_before j)
            ∙ get_left its.own (cells_of_layout layout) j b
            (ap (λ (l : List Bool). slice_get l j) (sym its.same_cells) ∙ ap
            (λ (y : Meaning). slice_get (cells_at forms is_built counted (laid_type y)) j) same ∙ e);
        words_there = λ j w e. ap (λ n. slice_get (words_of v ++ all_words values) n) (none_before j) ∙ get_left (words_of v) (all_words values) j w e;
      }
    where
      none_before : (j : ℕ) → 0 + j ≡ j
      none_before j = omega arith
  among (x ∷ layout) (v ∷ values) (suc k) m h there =
      let its = apart x v h.0 in
      let rest = among layout values k m h.1 there in
      let next : cells_before forms (x ∷ layout) (suc k) ≡ name_cells forms x + cells_before forms layout k = next_cells x (take k layout) in
      let one : length its.own ≡ name_cells forms x = its.cells_size in
      let two : length (words_of v) ≡ name_cells forms x = its.words_size in
      record {
        value = rest.value;
        there = rest.there;
        first = rest.first;
        cells_there = λ j b e. ap (λ (l : List Bool). slice_get l (cells_before forms (x ∷ layout) (suc k) + j)) (its.is layout)
            ∙ get_right_at its.own (cells_of_layout layout) (cells_before forms (x ∷ layout) (suc k) + j) (cells_before forms layout k + j)
            (omega (arith, next, one))
            ∙ rest.cells_there j b e;
        words_there = λ j w e. get_right_at (words_of v) (all_words values) (cells_before forms (x ∷ layout) (suc k) + j) (cells_before forms layout k + j)
            (omega (arith, next, two)) ∙ rest.words_there j w e;
      }

  -- ## Objects

  -- an object is a number
  number_of_object : (u : Option TypeId) (v : Value) → is_object_type forms u ≡ true → Fits forms u v → (n : ℤ) × (v ≡ ordinal n)
  number_of_object None v object h = h
  number_of_object (Some u) v object h = by h (object_single forms is_built counted u object)
    where
      by : {y : TypeId} {x : Value} → IsOf forms y x → has_parts (form_of forms y) ≡ false → (n : ℤ) × (x ≡ ordinal n)
      by (is_number t n parts) single = (n, refl)
      by (is_array t over element low high vs form are) single =
          absurd (let both : true ≡ false = ap has_parts (sym form) ∙ single in cc)
      by (is_record t fields vs form are) single = absurd (let both : true ≡ false = ap has_parts (sym form) ∙ single in cc)

  fits : (m : Meaning) (v : Value) → FirstOf forms is_built counted m v → Fits forms (laid_type m) v
  fits (Variable t reference) v h = h.1.is
  fits (Process n) v h = (pos h.0, h.1)
  fits (Constant t k) v h = absurd h
  fits (Named t) v h = absurd h
  fits (Sub n) v h = absurd h
  fits (Module n) v h = absurd h
  fits (Entry n) v h = absurd h
  fits (Predeclared n) v h = absurd h
  fits Faulty v h = absurd h

  -- An object: its number is the value there, and is found by its address.
  pub record ObjectIs (layout : Layout) (values : List Value) (k : ℕ) (path : List ℕ) (o : ℕ) : Type 0 where
    pub number : ℤ
    pub is : part path (get_or values k (ordinal (pos 0))) ≡ ordinal number
    pub found : number_at (objects_from 0 (cells_of_layout layout) (main_numbers values)) (pos (8 + (cells_before forms layout k + o))) ≡ Some number

  pub object_is : (layout : Layout) (values : List Value) (k : ℕ) (m : Meaning) (path : List ℕ) (u : Option TypeId) (o : ℕ) → Firsts layout values
      → slice_get layout k ≡ Some m → IsPath forms (laid_type m) path u o → is_object_type forms u ≡ true → ObjectIs layout values k path o
  object_is layout values k m path u o firsts there leads object =
      let at = among layout values k m firsts there in
      let v : Value = at.value in
      let its = around forms counted leads v (fits m v at.first) in
      let is = number_of_object u (part path v) object its.is in
      let own : slice_get (words_of v) o ≡ Some is.0 =
      ap (λ (l : List ℤ). slice_get l o) its.reads
      ∙ get_right_at its.before (words_of (part path v) ++ its.after) o 0 (omega (arith, its.place))
      ∙ ap (λ (x : Value). slice_get (words_of x ++ its.after) 0) is.1 in
      let cell : slice_get (cells_at forms is_built counted (laid_type m)) o ≡ Some true =
      ap (λ n. slice_get (cells_at forms is_built counted (laid_type m)) n) (more_none o)
      ∙ path_cells forms is_built counted leads 0 true (object_cell forms is_built counted u object) in
      record {
        number = is.0;
        is = ap (λ (x : Value). part path x) (get_or_there values k v (ordinal (pos 0)) at.there) ∙ is.1;
        found =
            ap (λ n. number_at (objects_from 0 (cells_of_layout layout) (main_numbers values)) (pos (8 + n))) (none_before (cells_before forms layout k + o))
            ∙ found_at 0 (cells_of_layout layout) (main_numbers values) (cells_before forms layout k + o) is.0
            (record {
              cell = at.cells_there o true cell;
              word =
                  ap (λ (l : List ℤ). slice_get l (cells_before forms layout k + o)) (sym (are_marked layout values firsts).words) ∙ at.words_there o is.0 own;
            });
      }
    where
      more_none : (n : ℕ) → n ≡ n + 0
      more_none n = omega arith

      none_before : (n : ℕ) → n ≡ 0 + n
      none_before n = omega arith

      get_or_there : {X : Type 0} (l : List X) (i : ℕ) (x d : X) → slice_get l i ≡ Some x → get_or l i d ≡ x
      get_or_there [] i x d e = absurd (cc)
      get_or_there (y ∷ l) zero x d e = same_some y x e
      get_or_there (y ∷ l) (suc i) x d e = get_or_there l i x d e

  -- ## Back from a cell

  -- an object of a variable, whose cell is this
  pub record ObjectThere (layout : Layout) (i : ℕ) : Type 0 where
    pub variable : ℕ
    pub meaning : Meaning
    pub laid : slice_get layout variable ≡ Some meaning
    pub path : List ℕ
    pub part_type : Option TypeId
    pub behind : ℕ
    pub leads : IsPath forms (laid_type meaning) path part_type behind
    pub object : is_object_type forms part_type ≡ true
    pub place : i ≡ cells_before forms layout variable + behind

  there_first : (m : Meaning) (layout : Layout) (k : ℕ) (path : List ℕ) (u : Option TypeId) → IsPath forms (laid_type m) path u k
      → is_object_type forms u ≡ true
      → ObjectThere (m ∷ layout) k
  there_first m layout k path u leads object =
      record { variable = 0; meaning = m; laid = refl; path = path; part_type = u; behind = k; leads = leads; object = object; place = omega arith }

  there_next : (m : Meaning) (layout : Layout) (i j : ℕ) → i ≡ name_cells forms m + j → ObjectThere layout j → ObjectThere (m ∷ layout) i
  there_next m layout i j at h =
      let next : cells_before forms (m ∷ layout) (suc h.variable) ≡ name_cells forms m + cells_before forms layout h.variable =
      next_cells m (take h.variable layout) in
      let place : j ≡ cells_before forms layout h.variable + h.behind = h.place in
      record {
        variable = suc h.variable;
        meaning = h.meaning;
        laid = h.laid;
        path = h.path;
        part_type = h.part_type;
        behind = h.behind;
        leads = h.leads;
        object = h.object;
        place = omega (arith, at, next, place);
      }

  pub object_there : (layout : Layout) (values : List Value) (i : ℕ) → Firsts layout values → slice_get (cells_of_layout layout) i ≡ Some true
      → ObjectThere layout i
  object_there [] values i h cell = absurd (cc)
  object_there (m ∷ layout) [] i h cell = absurd h
  object_there (Variable t false ∷ layout) (v ∷ values) i h cell =
      by (λ j e. object_there layout values j h.1 e) (either (cells forms is_built counted t) (cells_of_layout layout) i true cell)
    where
      by : ((j : ℕ) → slice_get (cells_of_layout layout) j ≡ Some true → ObjectThere layout j)
          → Either (cells forms is_built counted t) (cells_of_layout layout) i true
          → ObjectThere (Variable t false ∷ layout) i
      by rest (in_left e) =
          let inner = marked_part forms is_built counted t i e in
          there_first (Variable t false) layout i inner.path (Some inner.part) inner.leads inner.object
      by rest (in_right j place e) =
          let size : length (cells forms is_built counted t) ≡ cells_in forms t = cells_count forms is_built counted t in
          there_next (Variable t false) layout i j (omega (arith, place, size)) (rest j e)
  object_there (Variable t true ∷ layout) (v ∷ values) i h cell = absurd (let both : true ≡ false = h.0.0 in cc)
  object_there (Process n ∷ layout) (v ∷ values) zero h cell = there_first (Process n) layout 0 [] None (here None) refl
  object_there (Process n ∷ layout) (v ∷ values) (suc i) h cell = there_next (Process n) layout (suc i) i (omega arith) (object_there layout values i h.1 cell)
  object_there (Constant t k ∷ layout) (v ∷ values) i h cell = absurd h.0
  object_there (Named t ∷ layout) (v ∷ values) i h cell = absurd h.0
  object_there (Sub n ∷ layout) (v ∷ values) i h cell = absurd h.0
  object_there (Module n ∷ layout) (v ∷ values) i h cell = absurd h.0
  object_there (Entry n ∷ layout) (v ∷ values) i h cell = absurd h.0
  object_there (Predeclared n ∷ layout) (v ∷ values) i h cell = absurd h.0
  object_there (Faulty ∷ layout) (v ∷ values) i h cell = absurd h.0
