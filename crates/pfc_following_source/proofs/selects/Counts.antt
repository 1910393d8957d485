-- A value has as many words as its type has cells.
use Rattle.std.proofs.Common.{◌≡◌, ℕ, suc, ◌+◌, ◌*◌, ℤ, Bool, true, false, if◌then◌else◌, List, [], ◌∷◌, ◌++◌, length, take, drop, reverse, refl, sym, ap, ◌∙◌}
use Rattle.std.proofs.Common.{subst, arith}
use Rattle.std.proofs.lemmas.List.{length-append, length-reverse}
use Rattle.std.proofs.lemmas.List.Sums.{sum_by-cons}
use Rattle.std.proofs.Math.Seq.{take-append-add, drop-append-add}
use Rattle.pfc_tree.specs.Symbols.{Text}
use Rattle.pfc_types.specs.Types.{Forms, cells_in, is_simple}
use Rattle.pfc_types.specs.Fields.{FieldList}
use Rattle.pfc_types.specs.declared.types.TypeId.{TypeId}
use Rattle.pfc_semantics.specs.Values.{Value, Values}
use Rattle.pfc_translation.specs.Addresses.{fields_before}
use Rattle.pfc_cells.specs.Shapes.{words_of, words_in}
use Rattle.pfc_standing_code.specs.Shapes.{Shape, a_number, a_whole, shape_of, shape_cells, IsSound, IsOf, is_number, is_array, is_record, AreOf, none_of}
use Rattle.pfc_standing_code.specs.Shapes.{one_of, AreFieldsOf, no_field, one_field, IsShaped}
use Rattle.pfc_following_expressions.proofs.Held.{shaped_cells}

module _ (forms : Forms) (sound : IsSound forms) where
  mutual
    count_of : {t : TypeId} {v : Value} → IsOf forms t v → length (words_of v) ≡ cells_in forms t
    count_of (is_number t n simple) = sym (sound.simple_cells t simple)
    count_of (is_array t over element low high vs form are) = count_in are ∙ sym (sound.array_cells t over element low high form)
    count_of (is_record t fields vs form are) = count_fields are ∙ sym (sound.record_cells t fields form)

    count_in : {n : ℕ} {t : TypeId} {vs : Values} → AreOf forms n t vs → length (words_in vs) ≡ n * cells_in forms t
    count_in (none_of t) = omega arith
    count_in (one_of n t v vs is are) = length-append (words_of v) (words_in vs) ∙ (let first = count_of is in let others = count_in are in omega arith)

    count_fields : {fields : FieldList} {vs : Values} → AreFieldsOf forms fields vs → length (words_in vs) ≡ fields_before forms fields (length fields)
    count_fields no_field = refl
    count_fields (one_field f fields v vs is are) =
        length-append (words_of v) (words_in vs)
        ∙ (let first = count_of is in let others = count_fields are in let all =
        sum_by-cons (λ (x : Text × TypeId). cells_in forms x.1) f (take (length fields) fields) in omega (arith, all))

  -- a value that is awaited in the shape of a type is of the type
  pub shaped_is_of : (t : TypeId) (h : Shape) (v : Value) → h ≡ shape_of t → IsShaped forms h v → IsOf forms t v
  shaped_is_of t h v e is = by (is_simple t) refl (subst (λ (k : Shape). IsShaped forms k v) e is)
    where
      by : (b : Bool) → is_simple t ≡ b → IsShaped forms (if b then a_number else a_whole t) v → IsOf forms t v
      by true simple (n, same) = subst (λ (y : Value). IsOf forms t y) (sym same) (is_number t n simple)
      by false whole is = is

  pub words_count : (t : TypeId) (v : Value) → IsOf forms t v → length (words_of v) ≡ shape_cells forms (shape_of t)
  words_count t v is = count_of is ∙ sym (shaped_cells forms sound t)

-- the words of a value over an object's number, among operands
pub words_taken : (words below : List ℤ) (i : ℤ) (z : ℕ) → length words ≡ z → take (z + 1) (reverse words ++ i ∷ below) ≡ reverse words ++ i ∷ []
words_taken words below i z e =
    let size : length (reverse words) ≡ z = length-reverse words ∙ e in
    subst (λ (n : ℕ). take (n + 1) (reverse words ++ i ∷ below) ≡ reverse words ++ i ∷ []) size (take-append-add (reverse words) (i ∷ below) 1)

pub words_dropped : (words below : List ℤ) (i : ℤ) (z : ℕ) → length words ≡ z → drop (z + 1) (reverse words ++ i ∷ below) ≡ below
words_dropped words below i z e =
    let size : length (reverse words) ≡ z = length-reverse words ∙ e in
    subst (λ (n : ℕ). drop (n + 1) (reverse words ++ i ∷ below) ≡ below) size (drop-append-add (reverse words) (i ∷ below) 1)

pub words_held : (words below : List ℤ) (i : ℤ) (z : ℕ) → length words ≡ z → length (reverse words ++ i ∷ below) ≡ z + suc (length below)
words_held words below i z e =
    length-append (reverse words) (i ∷ below) ∙ ap (λ (n : ℕ). n + suc (length below)) (length-reverse words ∙ e)
