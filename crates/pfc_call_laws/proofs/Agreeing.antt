-- What is seen from inside at one moment and at another.
use Rattle.std.proofs.Common.{◌≡◌, ℕ, zero, suc, ℤ, pos, Bool, true, false, List, get_or, slice_get, Option, Some, refl, sym, ap, ◌∙◌, subst}
use Rattle.std.specs.Prelude.{unsigned_abs}
use Rattle.pfc_types.specs.declared.types.TypeId.{TypeId}
use Rattle.pfc_types.specs.declared.scope.Meaning.TheVariants.{Variable}
use Rattle.pfc_semantics.specs.Values.{Value, Location, ordinal}
use Rattle.pfc_semantics.specs.Layouts.{Layout}
use Rattle.pfc_semantics.specs.Programs.{Program}
use Rattle.pfc_stacks.specs.declared.refs.Ref.{Ref}
use Rattle.pfc_stacks.specs.Refs.{word_of}
use Rattle.pfc_cells.specs.Shapes.{AreCounted}
use Rattle.pfc_cells.specs.Homes.{Home, Homes, Lies}
use Rattle.pfc_cells.specs.Memory.{AreCells, is_pointer}
use Rattle.pfc_cells.proofs.Apart.{one_reference}
use Rattle.pfc_standing_code.specs.Settings.{View}
use Rattle.pfc_call_laws.specs.Inside.{refers_at, held_in, view_inside, StandAlike}
use Rattle.pfc_call_laws.proofs.Places.{reference_at, refers_there, as_pointer, as_reference, held_at}

same_bits : (x y : Bool) → (x ≡ true → y ≡ true) → (y ≡ true → x ≡ true) → x ≡ y
same_bits true y there back = sym (there refl)
same_bits false true there back = back refl
same_bits false false there back = refl

refers_still :
    (g : Program) (layout : Layout) (values other : List Value) (d : ℕ) → StandAlike g layout values other d → refers_at g.state.forms layout values d ≡ true
    → refers_at g.state.forms layout other d ≡ true
refers_still g layout values other d alike h =
    let place = reference_at g.state.forms layout values d h in
    let reference = as_reference place.meaning place.reference in
    let same = alike place.place reference.0 (place.laid ∙ ap Some reference.1) place.first in
    subst (λ n. refers_at g.state.forms layout other n ≡ true) place.first
    (refers_there g.state.forms layout other place.place place.meaning place.laid place.reference (ap is_pointer (sym same) ∙ place.pointer))

turned : (g : Program) (layout : Layout) (values other : List Value) (d : ℕ) → StandAlike g layout values other d → StandAlike g layout other values d
turned g layout values other d alike k t laid first = sym (alike k t laid first)

refers_alike : (g : Program) (layout : Layout) (values other : List Value) (d : ℕ) → StandAlike g layout values other d
    → refers_at g.state.forms layout values d ≡ refers_at g.state.forms layout other d
refers_alike g layout values other d alike =
    same_bits (refers_at g.state.forms layout values d) (refers_at g.state.forms layout other d) (refers_still g layout values other d alike)
    (refers_still g layout other values d (turned g layout values other d alike))

module _ (g : Program) (sound : AreCounted g.state.forms) (homes homes' : Homes) (grows : (b : ℕ) (home : Home) → homes b ≡ Some home → homes' b ≡ Some home)
    (layout : Layout) (values other : List Value) (cells other_cells : List ℤ)
    (holds : AreCells g homes layout values cells) (holds_other : AreCells g homes' layout other other_cells) (d : ℕ)
    (alike : StandAlike g layout values other d) where
  lies_on : (l : Location) (t : Option TypeId) (r : Ref) → Lies g homes l t r → Lies g homes' l t r
  lies_on l t r h =
      let is = h.is in
      record {
        home = h.home;
        behind = h.behind;
        is = record { at = grows l.activation h.home is.at; meaning = is.meaning; laid = is.laid; variable = is.variable; own = is.own; path = is.path };
        place = h.place;
      }

  -- where a reference begins, both hold the word of what it stands for
  held_same : refers_at g.state.forms layout values d ≡ true → unsigned_abs (get_or cells d (pos 0)) ≡ unsigned_abs (get_or other_cells d (pos 0))
  held_same h =
      let place = reference_at g.state.forms layout values d h in
      let reference = as_reference place.meaning place.reference in
      let target = as_pointer (get_or values place.place (ordinal (pos 0))) place.pointer in
      let laid : slice_get layout place.place ≡ Some (Variable reference.0 true) = place.laid ∙ ap Some reference.1 in
      let one = held_at g sound homes layout values cells holds place.place reference.0 target.0 laid target.1 in
      let two = held_at g sound homes' layout other other_cells holds_other place.place reference.0 target.0 laid
      (sym (alike place.place reference.0 laid place.first) ∙ target.1) in
      let same : one.word ≡ two.word = (one_reference g homes' target.0 (Some reference.0) (Some reference.0) one.word two.word
      (lies_on target.0 (Some reference.0) one.word one.lies) two.lies).1 in
      subst (λ n. unsigned_abs (get_or cells n (pos 0)) ≡ unsigned_abs (get_or other_cells n (pos 0))) place.first
      (sym (ap unsigned_abs one.number) ∙ ap (λ (r : Ref). unsigned_abs (word_of r)) same ∙ ap unsigned_abs two.number)

  held_alike : held_in (refers_at g.state.forms layout values d) cells d ≡ held_in (refers_at g.state.forms layout other d) other_cells d
  held_alike = by (refers_at g.state.forms layout values d) refl ∙ ap (λ (x : Bool). held_in x other_cells d) (refers_alike g layout values other d alike)
    where
      by : (x : Bool) → refers_at g.state.forms layout values d ≡ x → held_in (refers_at g.state.forms layout values d) cells d ≡ held_in
          (refers_at g.state.forms layout values d) other_cells d
      by true h = ap (λ (x : Bool). held_in x cells d) h ∙ held_same h ∙ sym (ap (λ (x : Bool). held_in x other_cells d) h)
      by false h = ap (λ (x : Bool). held_in x cells d) h ∙ sym (ap (λ (x : Bool). held_in x other_cells d) h)

  pub views_agree :
      (first l : ℕ) (view : View) (n : ℕ)
      → (let one = view_inside g.state.forms layout values cells first l view in
      let two = view_inside g.state.forms layout other other_cells first l view in
      (one.reaches n d ≡ two.reaches n d) × (one.refers n d ≡ two.refers n d) × (one.first n ≡ two.first n) × (one.held n d ≡ two.held n d))
  views_agree first l view zero = (refl, refers_alike g layout values other d alike, refl, held_alike)
  views_agree first l view (suc n) = (refl, refl, refl, refl)
