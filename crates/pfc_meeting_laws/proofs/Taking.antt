-- Values that some variables take, one behind the other.
use Rattle.std.proofs.Common.{◌≡◌, ℕ, zero, suc, ◌+◌, ◌<◌, ◌≤◌, ℤ, pos, if◌then◌else◌, List, [], ◌∷◌, ◌++◌, length, get_or, set, refl, sym, ap, ◌∙◌, arith}
use Rattle.std.proofs.Common.{length-append, append_assoc}
use Rattle.std.proofs.lemmas.List.{length-set, get_or-set_same, get_or-set_other}
use Rattle.pfc_semantics.specs.Values.{Value, ordinal}
use Rattle.pfc_semantics.specs.Store.{Store, values_in, with_values}
use Rattle.pfc_semantics.specs.Layouts.{Layout}
use Rattle.pfc_semantics.specs.Programs.{Program}
use Rattle.pfc_semantics.specs.Rendezvous.{taken_from}
use Rattle.pfc_cells.specs.Homes.{Homes}
use Rattle.pfc_cells.specs.Memory.{AreCells}
use Rattle.pfc_cells.proofs.Numbers.{same, other, same_or_not, is_same, is_other}

-- ## In a list

pub taken_length : (first : ℕ) (args values : List Value) → length (taken_from first args values) ≡ length values
taken_length first [] values = refl
taken_length first (v ∷ args) values = taken_length (first + 1) args (set values first v) ∙ length-set values first v

-- the others keep theirs
taken_before : (first : ℕ) (args values : List Value) (n : ℕ) → n < first → get_or (taken_from first args values) n (ordinal (pos 0)) ≡ get_or values n
    (ordinal (pos 0))
taken_before first [] values n h = refl
taken_before first (v ∷ args) values n h =
    taken_before (first + 1) args (set values first v) n (omega (arith, h)) ∙ get_or-set_other values first n v (ordinal (pos 0)) (λ e. omega (arith, e, h))

pub taken_there : (first n : ℕ) (args values : List Value) → n < length args → first + length args ≤ length values
    → get_or (taken_from first args values) (first + n) (ordinal (pos 0)) ≡ get_or args n (ordinal (pos 0))
taken_there first n [] values h fit = absurd (omega (arith, h))
taken_there first zero (v ∷ args) values h fit =
    let place : first + 0 ≡ first = omega arith in
    ap (λ k. get_or (taken_from (first + 1) args (set values first v)) k (ordinal (pos 0))) place
    ∙ taken_before (first + 1) args (set values first v) first (omega arith) ∙ get_or-set_same values first v (ordinal (pos 0)) (omega (arith, fit))
taken_there first (suc n) (v ∷ args) values h fit =
    let place : first + suc n ≡ (first + 1) + n = omega arith in
    let size : length (set values first v) ≡ length values = length-set values first v in
    ap (λ k. get_or (taken_from (first + 1) args (set values first v)) k (ordinal (pos 0))) place
    ∙ taken_there (first + 1) n args (set values first v) (omega (arith, h)) (omega (arith, size, fit))

set_middle : (before : List Value) (x y : Value) (behind : List Value) → set (before ++ (x ∷ behind)) (length before) y ≡ before ++ (y ∷ behind)
set_middle [] x y behind = refl
set_middle (z ∷ before) x y behind = ap (λ l. z ∷ l) (set_middle before x y behind)

pub taken_between : (before args old behind : List Value) → length args ≡ length old → taken_from (length before) args (before ++ (old ++ behind)) ≡ before ++
    (args ++ behind)
taken_between before [] [] behind h = refl
taken_between before [] (x ∷ old) behind h = absurd (omega (arith, h))
taken_between before (v ∷ args) [] behind h = absurd (omega (arith, h))
taken_between before (v ∷ args) (x ∷ old) behind h =
    let size : length before + 1 ≡ length (before ++ v ∷ []) = sym (length-append before (v ∷ [])) in
    ap (λ l. taken_from (length before + 1) args l) (set_middle before x v (old ++ behind) ∙ sym (append_assoc before (v ∷ []) (old ++ behind)))
    ∙ ap (λ n. taken_from n args ((before ++ v ∷ []) ++ (old ++ behind))) size
    ∙ taken_between (before ++ v ∷ []) args old behind (omega (arith, h)) ∙ append_assoc before (v ∷ []) (args ++ behind)

-- ## In a store

-- an activation's values, when it gets as many others
pub values_now : (store : Store) (a : ℕ) (new : List Value) → length new ≡ length (values_in store a) → values_in (with_values store a new) a ≡ new
values_now [] a [] h = refl
values_now [] a (v ∷ new) h = absurd (omega (arith, h))
values_now (room ∷ store) a new h =
    elim (same_or_not room.activation a) [
      | same e ↦
          ap (λ t. values_in (if t then record room { values = new } ∷ store else room ∷ with_values store a new) a) (is_same room.activation a e)
          ∙ ap (λ t. if t then new else values_in store a) (is_same room.activation a e)
      | other n ↦
          let later : length new ≡ length (values_in store a) = h ∙ ap (λ t. length (if t then room.values else values_in store a))
          (is_other room.activation a n) in
          ap (λ t. values_in (if t then record room { values = new } ∷ store else room ∷ with_values store a new) a) (is_other room.activation a n)
          ∙ ap (λ t. if t then room.values else values_in (with_values store a new) a) (is_other room.activation a n) ∙ values_now store a new later
    ]

-- ## In cells

-- the cells of a layout that is made of two parts
pub record Halves (g : Program) (homes : Homes) (one two : Layout) (values : List Value) (cells : List ℤ) : Type 0 where
  pub first : List Value
  pub second : List Value
  pub words : List ℤ
  pub rest : List ℤ
  pub values_are : values ≡ first ++ second
  pub cells_are : cells ≡ words ++ rest
  pub holds_one : AreCells g homes one first words
  pub holds_two : AreCells g homes two second rest

pub halves : (g : Program) (homes : Homes) (one two : Layout) (values : List Value) (cells : List ℤ) → AreCells g homes (one ++ two) values cells
    → Halves g homes one two values cells
halves g homes [] two values cells h = record {
  first = [];
  second = values;
  words = [];
  rest = cells;
  values_are = refl;
  cells_are = refl;
  holds_one = refl;
  holds_two = h;
}
halves g homes (m ∷ one) two [] cells h = absurd h
halves g homes (m ∷ one) two (v ∷ values) cells h =
    let inner = halves g homes one two values h.1 h.4 in
    record {
      first = v ∷ inner.first;
      second = inner.second;
      words = h.0 ++ inner.words;
      rest = inner.rest;
      values_are = ap (λ l. v ∷ l) inner.values_are;
      cells_are = h.2 ∙ ap (λ l. h.0 ++ l) inner.cells_are ∙ sym (append_assoc h.0 inner.words inner.rest);
      holds_one = (h.0, inner.words, refl, h.3, inner.holds_one);
      holds_two = inner.holds_two;
    }

pub values_count : (g : Program) (homes : Homes) (layout : Layout) (values : List Value) (cells : List ℤ) → AreCells g homes layout values cells
    → length values ≡ length layout
values_count g homes [] [] cells h = refl
values_count g homes [] (v ∷ values) cells h = absurd h
values_count g homes (m ∷ layout) [] cells h = absurd h
values_count g homes (m ∷ layout) (v ∷ values) cells h = ap suc (values_count g homes layout values h.1 h.4)
