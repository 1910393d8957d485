-- The cells of one activation: those of a variable, and of a part of one.
use Rattle.std.proofs.Common.{◌≡◌, ℕ, zero, suc, ◌+◌, ◌<◌, true, false, ℤ, pos, List, [], ◌∷◌, ◌++◌, length, take, get_or, set, slice_get, Option, Some, None}
use Rattle.std.proofs.Common.{refl, sym, ap, ap₂, ◌∙◌, subst, arith, length-append, append_assoc}
use Rattle.std.proofs.lemmas.List.Sums.{sum_by-cons}
use Rattle.pfc_types.specs.Types.{Forms}
use Rattle.pfc_types.specs.rules.Declarations.{name_cells}
use Rattle.pfc_types.specs.declared.types.TypeId.{TypeId}
use Rattle.pfc_types.specs.declared.scope.Meaning.{Meaning}
use Rattle.pfc_types.specs.declared.scope.Meaning.TheVariants.{Variable, Process}
use Rattle.pfc_semantics.specs.Layouts.{Layout, is_laid}
use Rattle.pfc_semantics.specs.Programs.{Program}
use Rattle.pfc_semantics.specs.Values.{Value, ordinal, part, with_part}
use Rattle.pfc_translation.specs.Sites.{is_reference}
use Rattle.pfc_cells.specs.Shapes.{AreCounted, Fits, IsPath, words_of}
use Rattle.pfc_cells.specs.Homes.{Homes, cells_before, laid_type}
use Rattle.pfc_cells.specs.Memory.{IsHeld, AreCells}
use Rattle.pfc_cells.proofs.Lists.{nested}
use Rattle.pfc_cells.proofs.Words.{words_fit, around}

-- where the cells of the variable at a place of a layout lie, whatever it holds: so many before them, and the rest behind them
pub record Variables (g : Program) (homes : Homes) (layout : Layout) (values : List Value) (cells : List ℤ) (k : ℕ) (m : Meaning) : Type 0 where
  pub before : List ℤ
  pub words : List ℤ
  pub after : List ℤ
  pub place : length before ≡ cells_before g.state.forms layout k
  pub there : k < length values
  pub held : IsHeld g homes m (get_or values k (ordinal (pos 0))) words
  pub reads : cells ≡ before ++ (words ++ after)
  pub becomes : (new : Value) (ws : List ℤ) → IsHeld g homes m new ws → AreCells g homes layout (set values k new) (before ++ (ws ++ after))

-- the cells before a variable are those of the first one and those between
pub cells_next : (forms : Forms) (m : Meaning) (layout : Layout) (k : ℕ)
    → cells_before forms (m ∷ layout) (suc k) ≡ name_cells forms m + cells_before forms layout k
cells_next forms m layout k = sum_by-cons (λ (x : Meaning). name_cells forms x) m (take k layout)

module _ (g : Program) (sound : AreCounted g.state.forms) (homes : Homes) where
  -- a variable has as many words as it takes cells
  pub held_length : (m : Meaning) (v : Value) (words : List ℤ) → IsHeld g homes m v words → length words ≡ name_cells g.state.forms m
  held_length (Variable t false) v words h = ap length h.1 ∙ words_fit g.state.forms sound (Some t) v h.0
  held_length (Variable t true) v words h = ap length h.1
  held_length (Process n) v words h = ap length h.1 ∙ words_fit g.state.forms sound None v h.0
  held_length m v words h = absurd h

  pub variable_among :
      (layout : Layout) (values : List Value) (cells : List ℤ) (k : ℕ) (m : Meaning)
      → AreCells g homes layout values cells → slice_get layout k ≡ Some m → Variables g homes layout values cells k m
  variable_among [] values cells k m h laid = absurd (cc)
  variable_among (x ∷ layout) [] cells k m h laid = absurd h
  variable_among (x ∷ layout) (v ∷ values) cells zero m h laid =
      let equal : x ≡ m = cc in
      record {
        before = [];
        words = h.0;
        after = h.1;
        place = refl;
        there = omega arith;
        held = subst (λ (y : Meaning). IsHeld g homes y v h.0) equal h.3;
        reads = h.2;
        becomes = λ new ws n. (ws, h.1, refl, subst (λ (y : Meaning). IsHeld g homes y new ws) (sym equal) n, h.4);
      }
  variable_among (x ∷ layout) (v ∷ values) cells (suc k) m h laid =
      let inner = variable_among layout values h.1 k m h.4 laid in
      let below : k < length values = inner.there in
      record {
        before = h.0 ++ inner.before;
        words = inner.words;
        after = inner.after;
        place = length-append h.0 inner.before ∙ ap₂ (λ a b. a + b) (held_length x v h.0 h.3) inner.place ∙ sym (cells_next g.state.forms x layout k);
        there = omega (arith, below);
        held = inner.held;
        reads = h.2 ∙ ap (λ ws. h.0 ++ ws) inner.reads ∙ sym (append_assoc h.0 inner.before (inner.words ++ inner.after));
        becomes = λ new ws n. (h.0, inner.before ++ (ws ++ inner.after), append_assoc h.0 inner.before (ws ++ inner.after), h.3, inner.becomes new ws n);
      }

  -- a variable that is no reference parameter holds a value of its type, and its words are that value's
  pub held_value : (m : Meaning) (v : Value) (words : List ℤ) → is_laid m ≡ true → is_reference m ≡ false → IsHeld g homes m v words
      → Fits g.state.forms (laid_type m) v × (words ≡ words_of v)
  held_value (Variable t false) v words laid own h = h
  held_value (Variable t true) v words laid own h = absurd (cc)
  held_value (Process n) v words laid own h = h
  held_value m v words laid own h = absurd h

  pub value_held : (m : Meaning) (v : Value) → is_laid m ≡ true → is_reference m ≡ false → Fits g.state.forms (laid_type m) v → IsHeld g homes m v (words_of v)
  value_held (Variable t false) v laid own h = (h, refl)
  value_held (Variable t true) v laid own h = absurd (cc)
  value_held (Process n) v laid own h = (h, refl)
  value_held m v laid own h = absurd (cc)

-- Where the cells of a part of a variable lie, whatever is held there: so many before them, and the rest behind them.
pub record Parts (g : Program) (homes : Homes) (layout : Layout) (values : List Value) (cells : List ℤ) (k : ℕ) (path : List ℕ) (u : Option TypeId)
    (cell : ℕ) : Type 0 where
  pub before : List ℤ
  pub after : List ℤ
  pub place : length before ≡ cell
  pub there : k < length values
  pub gives : (new : Value) → part path (with_part path (get_or values k (ordinal (pos 0))) new) ≡ new
  pub is : Fits g.state.forms u (part path (get_or values k (ordinal (pos 0))))
  pub reads : cells ≡ before ++ (words_of (part path (get_or values k (ordinal (pos 0)))) ++ after)
  pub becomes : (new : Value) → Fits g.state.forms u new → AreCells g homes layout (set values k (with_part path (get_or values k (ordinal
      (pos 0))) new)) (before ++ (words_of new ++ after))

module _ (g : Program) (sound : AreCounted g.state.forms) (homes : Homes) where
  pub part_among :
      (layout : Layout) (values : List Value) (cells : List ℤ) (k : ℕ) (m : Meaning) (path : List ℕ) (u : Option TypeId) (behind : ℕ)
      → AreCells g homes layout values cells → slice_get layout k ≡ Some m → is_laid m ≡ true → is_reference m ≡ false
      → IsPath g.state.forms (laid_type m) path u behind
      → Parts g homes layout values cells k path u (cells_before g.state.forms layout k + behind)
  part_among layout values cells k m path u behind h laid variable own is =
      let v : Value = get_or values k (ordinal (pos 0)) in
      let x = variable_among g sound homes layout values cells k m h laid in
      let fits = held_value g sound homes m v x.words variable own x.held in
      let w = around g.state.forms sound is v fits.0 in
      record {
        before = x.before ++ w.before;
        after = w.after ++ x.after;
        place = length-append x.before w.before ∙ ap₂ (λ a b. a + b) x.place w.place;
        there = x.there;
        gives = w.gives;
        is = w.is;
        reads = x.reads ∙ ap (λ ws. x.before ++ (ws ++ x.after)) (fits.1 ∙ w.reads) ∙ nested x.before w.before (words_of (part path v)) w.after x.after;
        becomes = λ new n.
            subst (λ ws. AreCells g homes layout (set values k (with_part path v new)) ws)
            (ap (λ ws. x.before ++ (ws ++ x.after)) (w.writes new) ∙ nested x.before w.before (words_of new) w.after x.after)
            (x.becomes (with_part path v new) (words_of (with_part path v new)) (value_held g sound homes m (with_part path v new) variable own
            (w.becomes new n)));
      }
