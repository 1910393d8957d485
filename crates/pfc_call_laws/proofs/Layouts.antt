-- The cells of a layout that is made of two parts, and those of first values.
use Rattle.std.proofs.Common.{◌≡◌, ℕ, zero, suc, ◌+◌, ℤ, pos, Bool, true, false, List, [], ◌∷◌, ◌++◌, map, length, get_or, slice_get, replicate, Some, refl}
use Rattle.std.proofs.Common.{sym, ap, ◌∙◌, subst, append_assoc}
use Rattle.std.proofs.lemmas.List.{replicate-append-replicate}
use Rattle.std.proofs.lemmas.List.Sums.{sum_by-cons, sum_by-append}
use Rattle.pfc_types.specs.rules.Declarations.{name_cells}
use Rattle.pfc_types.specs.declared.types.TypeId.{TypeId}
use Rattle.pfc_types.specs.declared.scope.Meaning.{Meaning}
use Rattle.pfc_types.specs.declared.scope.Meaning.TheVariants.{Variable, Process}
use Rattle.pfc_types.specs.declared.heads.Formal.{Formal}
use Rattle.pfc_semantics.specs.Values.{Value, Location, ordinal, points}
use Rattle.pfc_semantics.specs.Layouts.{Layout, is_laid}
use Rattle.pfc_semantics.specs.Objects.{first_laid, first_of}
use Rattle.pfc_semantics.specs.Programs.{Program, layout_cells}
use Rattle.pfc_cells.specs.Shapes.{IsOf, is_number, is_array, is_record}
use Rattle.pfc_cells.specs.Homes.{Homes}
use Rattle.pfc_cells.specs.Memory.{IsHeld, AreCells, is_pointer, to_nothing}
use Rattle.pfc_call_laws.specs.Blocks.{HasFirstValues, AreLaidAs}

pub layout_joined : (g : Program) (xs ys : Layout) → layout_cells g.state.forms (xs ++ ys) ≡ layout_cells g.state.forms xs + layout_cells g.state.forms ys
layout_joined g xs ys = sum_by-append (λ (m : Meaning). name_cells g.state.forms m) xs ys

-- cells of one layout, and of another behind it
pub cells_joined :
    (g : Program) (homes : Homes) (one two : Layout) (vs us : List Value) (ws xs : List ℤ) → AreCells g homes one vs ws → AreCells g homes two us xs
    → AreCells g homes (one ++ two) (vs ++ us) (ws ++ xs)
cells_joined g homes [] two [] us ws xs h k = subst (λ (l : List ℤ). AreCells g homes two us (l ++ xs)) (sym h) k
cells_joined g homes [] two (v ∷ vs) us ws xs h k = absurd h
cells_joined g homes (m ∷ one) two [] us ws xs h k = absurd h
cells_joined g homes (m ∷ one) two (v ∷ vs) us ws xs h k = (
  h.0,
  h.1 ++ xs,
  ap (λ l. l ++ xs) h.2 ∙ append_assoc h.0 h.1 xs,
  h.3,
  cells_joined g homes one two vs us h.1 xs h.4 k,
)

-- ## First values

no_pointer : (g : Program) (t : TypeId) (v : Value) → IsOf g.state.forms t v → is_pointer v ≡ false
no_pointer g t _ (is_number u n parts) = refl
no_pointer g t _ (is_array u over element low high vs form of) = refl
no_pointer g t _ (is_record u fields vs form of) = refl

module _ (g : Program) (homes : Homes) (first : HasFirstValues g) where
  one_first : (m : Meaning) → is_laid m ≡ true → IsHeld g homes m (first_laid g.firsts m) (replicate (name_cells g.state.forms m) (pos 0))
  one_first (Variable t false) laid = (first.typed t, sym (first.zero t))
  one_first (Variable t true) laid = (pos 0, refl, to_nothing (first_of g.firsts t) (no_pointer g t _ (first.typed t)))
  one_first (Process n) laid = ((pos 0, refl), refl)
  one_first m laid = absurd (cc)

  -- zeros in all cells hold the first values
  pub first_cells : (layout : Layout) → ((k : ℕ) (m : Meaning) → slice_get layout k ≡ Some m → is_laid m ≡ true)
      → AreCells g homes layout (map (first_laid g.firsts) layout) (replicate (layout_cells g.state.forms layout) (pos 0))
  first_cells [] all = refl
  first_cells (m ∷ layout) all = (
    replicate (name_cells g.state.forms m) (pos 0),
    replicate (layout_cells g.state.forms layout) (pos 0),
    ap (λ n. replicate n (pos 0)) (sum_by-cons (λ (x : Meaning). name_cells g.state.forms x) m layout)
        ∙ sym (replicate-append-replicate (name_cells g.state.forms m) (layout_cells g.state.forms layout) (pos 0)),
    one_first m (all 0 m refl),
    first_cells layout (λ k x h. all (suc k) x h),
  )

-- ## What references are given

-- a reference parameter is given a location in an activation that is kept
abbrev pub IsLent : (ℕ → Bool) → Meaning → Value → Type 0
IsLent keeps (Variable t true) v = (l : Location) × (v ≡ points l) × (keeps l.activation ≡ true)
IsLent keeps m v = Unit {0}

abbrev pub AllLent : (ℕ → Bool) → Layout → List Value → Type 0
AllLent keeps [] [] = Unit {0}
AllLent keeps [] (v ∷ values) = ⊥
AllLent keeps (m ∷ layout) [] = ⊥
AllLent keeps (m ∷ layout) (v ∷ values) = IsLent keeps m v × AllLent keeps layout values

pub lent_joined : (keeps : ℕ → Bool) (one two : Layout) (vs us : List Value) → AllLent keeps one vs → AllLent keeps two us
    → AllLent keeps (one ++ two) (vs ++ us)
lent_joined keeps [] two [] us h k = k
lent_joined keeps [] two (v ∷ vs) us h k = absurd h
lent_joined keeps (m ∷ one) two [] us h k = absurd h
lent_joined keeps (m ∷ one) two (v ∷ vs) us h k = (h.0, lent_joined keeps one two vs us h.1 k)

pub lent_at : (keeps : ℕ → Bool) (layout : Layout) (values : List Value) (k : ℕ) (t : TypeId) → AllLent keeps layout values
    → slice_get layout k ≡ Some (Variable t true)
    → (l : Location) × (get_or values k (ordinal (pos 0)) ≡ points l) × (keeps l.activation ≡ true)
lent_at keeps [] values k t h laid = absurd (cc)
lent_at keeps (m ∷ layout) [] k t h laid = absurd h
lent_at keeps (m ∷ layout) (v ∷ values) zero t h laid = (let same : m ≡ Variable t true = cc in subst (λ (x : Meaning). IsLent keeps x v) same h.0)
lent_at keeps (m ∷ layout) (v ∷ values) (suc k) t h laid = lent_at keeps layout values k t h.1 laid

-- ## Parameters one behind the other

pub record LaidLast (formals : List Formal) (f : Formal) (layout : Layout) : Type 0 where
  pub before : Layout
  pub last : Meaning
  pub is : layout ≡ before ++ last ∷ []
  pub first : AreLaidAs formals before
  pub laid : (t : TypeId) × (f.t ≡ Some t) × (last ≡ Variable t f.reference)

pub laid_last : (formals : List Formal) (f : Formal) (layout : Layout) → AreLaidAs (formals ++ f ∷ []) layout → LaidLast formals f layout
laid_last [] f [] h = absurd h
laid_last [] f (m ∷ []) h = record { before = []; last = m; is = refl; first = tt; laid = h.0 }
laid_last [] f (m ∷ (n ∷ layout)) h = absurd h.1
laid_last (e ∷ formals) f [] h = absurd h
laid_last (e ∷ formals) f (m ∷ layout) h =
    let inner = laid_last formals f layout h.1 in
    record { before = m ∷ inner.before; last = inner.last; is = ap (λ l. m ∷ l) inner.is; first = (h.0, inner.first); laid = inner.laid }

pub laid_count : (formals : List Formal) (layout : Layout) → AreLaidAs formals layout → length formals ≡ length layout
laid_count [] [] h = refl
laid_count [] (m ∷ layout) h = absurd h
laid_count (f ∷ formals) [] h = absurd h
laid_count (f ∷ formals) (m ∷ layout) h = ap suc (laid_count formals layout h.1)
