-- At which cells the variables of a layout begin.
use Rattle.std.proofs.Common.{◌≡◌, ℕ, zero, suc, ◌+◌, ◌-◌, ◌≤◌, ℤ, pos, Bool, true, false, ◌&&◌, ◌||◌, List, [], ◌∷◌, ◌++◌, length, get_or, slice_get, Some}
use Rattle.std.proofs.Common.{refl, sym, ap, ◌∙◌, subst, arith, length-append, ◌⊎◌, inl, inr}
use Rattle.std.specs.Prelude.{◌==◌, nat_le, unsigned_abs}
use Rattle.pfc_types.specs.Types.{Forms}
use Rattle.pfc_types.specs.rules.Declarations.{name_cells}
use Rattle.pfc_types.specs.declared.types.TypeId.{TypeId}
use Rattle.pfc_types.specs.declared.scope.Meaning.{Meaning}
use Rattle.pfc_types.specs.declared.scope.Meaning.TheVariants.{Variable}
use Rattle.pfc_semantics.specs.Values.{Value, Location, ordinal, compound, points}
use Rattle.pfc_semantics.specs.Layouts.{Layout}
use Rattle.pfc_semantics.specs.Programs.{Program}
use Rattle.pfc_translation.specs.Sites.{is_reference}
use Rattle.pfc_stacks.specs.declared.refs.Ref.{Ref}
use Rattle.pfc_stacks.specs.Refs.{word_of}
use Rattle.pfc_cells.specs.Shapes.{AreCounted}
use Rattle.pfc_cells.specs.Homes.{Homes, Lies, cells_before}
use Rattle.pfc_cells.specs.Memory.{Refers, to_nothing, to_location, AreCells, is_pointer}
use Rattle.pfc_cells.proofs.Lists.{item_between}
use Rattle.pfc_cells.proofs.Variables.{cells_next, variable_among}
use Rattle.pfc_call_laws.specs.Inside.{begins_at, refers_at}

-- ## Bits

pub or_cases : (x y : Bool) → (x || y) ≡ true → (x ≡ true) ⊎ (y ≡ true)
or_cases true y h = inl refl
or_cases false y h = inr h

pub and_both : (x y : Bool) → (x && y) ≡ true → (x ≡ true) × (y ≡ true)
and_both true y h = (refl, h)
and_both false y h = absurd (cc)

pub or_left : (x y : Bool) → x ≡ true → (x || y) ≡ true
or_left true y h = refl
or_left false y h = absurd (cc)

pub or_right : (x y : Bool) → y ≡ true → (x || y) ≡ true
or_right true y h = refl
or_right false y h = h

and_true : (x y : Bool) → x ≡ true → y ≡ true → (x && y) ≡ true
and_true true y h k = k
and_true false y h k = absurd (cc)

is_zero : (d : ℕ) → (d == 0) ≡ true → d ≡ 0
is_zero d h = grind (arith, h)

is_within : (n d : ℕ) → nat_le n d ≡ true → n ≤ d
is_within n d h = grind (arith, h)

within_is : (n k : ℕ) → nat_le n (n + k) ≡ true
within_is n k = grind arith

-- ## Beginnings

pub record PlaceAt (forms : Forms) (layout : Layout) (d : ℕ) : Type 0 where
  pub place : ℕ
  pub meaning : Meaning
  pub laid : slice_get layout place ≡ Some meaning
  pub first : cells_before forms layout place ≡ d

place_next : (forms : Forms) (m : Meaning) (layout : Layout) (k d : ℕ) → name_cells forms m ≤ d → cells_before forms layout k ≡ d - name_cells forms m
    → cells_before forms (m ∷ layout) (suc k) ≡ d
place_next forms m layout k d h is = cells_next forms m layout k ∙ omega (arith, h, is)

pub place_at : (forms : Forms) (layout : Layout) (d : ℕ) → begins_at forms layout d ≡ true → PlaceAt forms layout d
place_at forms [] d h = absurd (cc)
place_at forms (m ∷ layout) d h =
    elim (or_cases (d == 0) (nat_le (name_cells forms m) d && begins_at forms layout (d - name_cells forms m)) h) [
      | inl x ↦ here x
      | inr x ↦ later x (λ y. place_at forms layout (d - name_cells forms m) y)
    ]
  where
    here : (d == 0) ≡ true → PlaceAt forms (m ∷ layout) d
    here x = record { place = 0; meaning = m; laid = refl; first = sym (is_zero d x) }

    later : (nat_le (name_cells forms m) d && begins_at forms layout (d - name_cells forms m)) ≡ true
        → (begins_at forms layout (d - name_cells forms m) ≡ true → PlaceAt forms layout (d - name_cells forms m)) → PlaceAt forms (m ∷ layout) d
    later x further =
        let both = and_both (nat_le (name_cells forms m) d) (begins_at forms layout (d - name_cells forms m)) x in
        let inner = further both.1 in
        record {
          place = suc inner.place;
          meaning = inner.meaning;
          laid = inner.laid;
          first = place_next forms m layout inner.place d (is_within (name_cells forms m) d both.0) inner.first;
        }

less_back : (n k : ℕ) → (n + k) - n ≡ k
less_back n k = omega arith

pub begins_there : (forms : Forms) (layout : Layout) (k : ℕ) (m : Meaning) → slice_get layout k ≡ Some m
    → begins_at forms layout (cells_before forms layout k) ≡ true
begins_there forms [] k m h = absurd (cc)
begins_there forms (x ∷ layout) zero m h = refl
begins_there forms (x ∷ layout) (suc k) m h =
    subst (λ d. begins_at forms (x ∷ layout) d ≡ true) (sym (cells_next forms x layout k))
    (or_right (name_cells forms x + cells_before forms layout k == 0) _
    (and_true (nat_le (name_cells forms x) (name_cells forms x + cells_before forms layout k)) _ (within_is (name_cells forms x) (cells_before forms layout k))
    (subst (λ d. begins_at forms layout d ≡ true) (sym (less_back (name_cells forms x) (cells_before forms layout k))) (begins_there forms layout k m h))))

-- ## References

pub record ReferenceAt (forms : Forms) (layout : Layout) (values : List Value) (d : ℕ) : Type 0 where
  pub place : ℕ
  pub meaning : Meaning
  pub laid : slice_get layout place ≡ Some meaning
  pub first : cells_before forms layout place ≡ d
  pub reference : is_reference meaning ≡ true
  pub pointer : is_pointer (get_or values place (ordinal (pos 0))) ≡ true

pub reference_at : (forms : Forms) (layout : Layout) (values : List Value) (d : ℕ) → refers_at forms layout values d ≡ true → ReferenceAt forms layout values d
reference_at forms [] values d h = absurd (cc)
reference_at forms (m ∷ layout) [] d h = absurd (cc)
reference_at forms (m ∷ layout) (v ∷ values) d h =
    elim (or_cases (d == 0 && (is_reference m && is_pointer v)) (nat_le (name_cells forms m) d && refers_at forms layout values (d - name_cells forms m)) h) [
      | inl x ↦ here x
      | inr x ↦ later x (λ y. reference_at forms layout values (d - name_cells forms m) y)
    ]
  where
    here : (d == 0 && (is_reference m && is_pointer v)) ≡ true → ReferenceAt forms (m ∷ layout) (v ∷ values) d
    here x =
        let one = and_both (d == 0) (is_reference m && is_pointer v) x in
        let two = and_both (is_reference m) (is_pointer v) one.1 in
        record { place = 0; meaning = m; laid = refl; first = sym (is_zero d one.0); reference = two.0; pointer = two.1 }

    later : (nat_le (name_cells forms m) d && refers_at forms layout values (d - name_cells forms m)) ≡ true
        → (refers_at forms layout values (d - name_cells forms m) ≡ true → ReferenceAt forms layout values (d - name_cells forms m))
        → ReferenceAt forms (m ∷ layout) (v ∷ values) d
    later x further =
        let both = and_both (nat_le (name_cells forms m) d) (refers_at forms layout values (d - name_cells forms m)) x in
        let inner = further both.1 in
        record {
          place = suc inner.place;
          meaning = inner.meaning;
          laid = inner.laid;
          first = place_next forms m layout inner.place d (is_within (name_cells forms m) d both.0) inner.first;
          reference = inner.reference;
          pointer = inner.pointer;
        }

pub refers_there :
    (forms : Forms) (layout : Layout) (values : List Value) (k : ℕ) (m : Meaning) → slice_get layout k ≡ Some m → is_reference m ≡ true
    → is_pointer (get_or values k (ordinal (pos 0))) ≡ true → refers_at forms layout values (cells_before forms layout k) ≡ true
refers_there forms [] values k m h reference pointer = absurd (cc)
refers_there forms (x ∷ layout) [] k m h reference pointer = absurd (cc)
refers_there forms (x ∷ layout) (v ∷ values) zero m h reference pointer =
    let same : x ≡ m = cc in
    or_left (is_reference x && is_pointer v) _ (and_true (is_reference x) (is_pointer v) (ap is_reference same ∙ reference) pointer)
refers_there forms (x ∷ layout) (v ∷ values) (suc k) m h reference pointer =
    subst (λ d. refers_at forms (x ∷ layout) (v ∷ values) d ≡ true) (sym (cells_next forms x layout k))
    (or_right (name_cells forms x + cells_before forms layout k == 0 && (is_reference x && is_pointer v)) _
    (and_true (nat_le (name_cells forms x) (name_cells forms x + cells_before forms layout k)) _ (within_is (name_cells forms x) (cells_before forms layout k))
    (subst (λ d. refers_at forms layout values d ≡ true) (sym (less_back (name_cells forms x) (cells_before forms layout k)))
    (refers_there forms layout values k m h reference pointer))))

pub as_pointer : (v : Value) → is_pointer v ≡ true → (l : Location) × (v ≡ points l)
as_pointer (points l) h = (l, refl)
as_pointer (ordinal n) h = absurd (cc)
as_pointer (compound vs) h = absurd (cc)

pub as_reference : (m : Meaning) → is_reference m ≡ true → (t : TypeId) × (m ≡ Variable t true)
as_reference (Variable t true) h = (t, refl)
as_reference (Variable t false) h = absurd (cc)
as_reference m h = absurd (cc)

-- ## Their words

-- where the location lies that a reference stands for, and the number in the reference's cell
pub record HeldAt (g : Program) (homes : Homes) (t : TypeId) (l : Location) (cells : List ℤ) (d : ℕ) : Type 0 where
  pub word : Ref
  pub lies : Lies g homes l (Some t) word
  pub number : word_of word ≡ pos (unsigned_abs (get_or cells d (pos 0)))

same_target : (l m : Location) → points l ≡ points m → l ≡ m
same_target l m h = cc

no_target : (v : Value) (l : Location) → v ≡ points l → is_pointer v ≡ false → ⊥
no_target v l h k = (let both : true ≡ false = sym (ap is_pointer h) ∙ k in cc)

refers_to : (g : Program) (homes : Homes) (t : TypeId) (v : Value) (w : ℤ) (l : Location) → Refers g homes t v w → v ≡ points l → (r : Ref)
    × Lies g homes l (Some t) r × (w ≡ word_of r)
refers_to g homes t _ _ l (to_nothing v none) is = absurd (no_target v l is none)
refers_to g homes t _ _ l (to_location m r lies) is = (r, subst (λ (x : Location). Lies g homes x (Some t) r) (same_target m l is) lies, refl)

module _ (g : Program) (sound : AreCounted g.state.forms) (homes : Homes) (layout : Layout) (values : List Value) (cells : List ℤ)
    (holds : AreCells g homes layout values cells) where
  pub place_within : (k : ℕ) (m : Meaning) → slice_get layout k ≡ Some m → cells_before g.state.forms layout k ≤ length cells
  place_within k m laid =
      let x = variable_among g sound homes layout values cells k m holds laid in
      let whole : length cells ≡ length x.before + length (x.words ++ x.after) = ap length x.reads ∙ length-append x.before (x.words ++ x.after) in
      let place : length x.before ≡ cells_before g.state.forms layout k = x.place in
      omega (arith, whole, place)

  pub held_at : (k : ℕ) (t : TypeId) (l : Location) → slice_get layout k ≡ Some (Variable t true) → get_or values k (ordinal (pos 0)) ≡ points l
      → HeldAt g homes t l cells (cells_before g.state.forms layout k)
  held_at k t l laid is =
      let x = variable_among g sound homes layout values cells k (Variable t true) holds laid in
      let to = refers_to g homes t (get_or values k (ordinal (pos 0))) x.held.0 l x.held.2 is in
      let cell : get_or cells (cells_before g.state.forms layout k) (pos 0) ≡ x.held.0 =
      ap (λ l. get_or l (cells_before g.state.forms layout k) (pos 0)) (x.reads ∙ ap (λ ws. x.before ++ (ws ++ x.after)) x.held.1)
      ∙ item_between x.before x.held.0 x.after (cells_before g.state.forms layout k) (pos 0) x.place in
      record { word = to.0; lies = to.1; number = ap (λ w. pos (unsigned_abs w)) (sym (cell ∙ to.2)) }
