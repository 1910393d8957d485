-- A spot has one type and one word.
use Rattle.std.proofs.Common.{◌≡◌, ℕ, ◌+◌, ◌*◌, ℤ, pos, List, [], Option, Some, refl, sym, ap, ap₂, ◌∙◌, subst}
use Rattle.std.specs.List.{slice_get}
use Rattle.std.proofs.lemmas.Option.{same_Some}
use Rattle.pfc_tree.specs.Symbols.{Text}
use Rattle.pfc_types.specs.Types.{Forms, cells_in}
use Rattle.pfc_types.specs.Fields.{FieldList}
use Rattle.pfc_types.specs.declared.types.TypeId.{TypeId}
use Rattle.pfc_types.specs.declared.types.TypeForm.TheVariants.{Array, Record}
use Rattle.pfc_types.specs.declared.scope.Meaning.{Meaning}
use Rattle.pfc_semantics.specs.Values.{path_of}
use Rattle.pfc_semantics.specs.Displays.{Spot}
use Rattle.pfc_translation.specs.Sites.{Site, forms_of}
use Rattle.pfc_translation.specs.Addresses.{fields_before}
use Rattle.pfc_cells.specs.Shapes.{IsPath, here, into_element, into_field}
use Rattle.pfc_standing_code.specs.Settings.{View}
use Rattle.pfc_cells.specs.Homes.{laid_type}
use Rattle.pfc_standing_code.specs.Typed.{IsDeclaredAt}
use Rattle.pfc_standing_code.specs.Words.{first_word, IsWordAt}

elements_same : (over over' element element' : TypeId) (low high low' high' : ℤ) → Some (Array over low high element) ≡ Some (Array over' low' high' element')
    → element ≡ element'
elements_same over over' element element' low high low' high' h = cc

lists_same : (fields fields' : FieldList) → Some (Record fields) ≡ Some (Record fields') → fields ≡ fields'
lists_same fields fields' h = cc

parts_same : (fields fields' : FieldList) (i : ℕ) (x x' : Text) (v v' : TypeId) → fields ≡ fields' → slice_get fields i ≡ Some (x, v)
    → slice_get fields' i ≡ Some (x', v') → v ≡ v'
parts_same fields fields' i x x' v v' same one other =
    let both : Some (x, v) ≡ Some (x', v') = sym one ∙ ap (λ (all : FieldList). slice_get all i) same ∙ other in
    ap (λ (f : Text × TypeId). f.1) (same_Some (x, v) (x', v') both)

module _ (forms : Forms) where
  -- a path leads to one place and to one type
  path_once : {t : Option TypeId} {path : List ℕ} {u w : Option TypeId} {o p : ℕ} → IsPath forms t path u o → IsPath forms t path w p → (u ≡ w) × (o ≡ p)
  path_once (here t) (here t') = (refl, refl)
  path_once (into_element t over element u low high i path o form below inner) (into_element t' over' element' w low' high' i' path' p form' below' inner') =
      let e : element' ≡ element = elements_same over' over element' element low' high' low high (sym form' ∙ form) in
      let deeper = path_once inner (subst (λ (x : TypeId). IsPath forms (Some x) path w p) e inner') in
      (deeper.0, ap₂ (λ (x : TypeId) (n : ℕ). i * cells_in forms x + n) (sym e) deeper.1)
  path_once (into_element t over element u low high i path o form below inner) (into_field t' v w x fields i' path' p form' there inner') = absurd (cc)
  path_once (into_field t v u x fields i path o form there inner) (into_element t' over' element' w low' high' i' path' p form' below' inner') = absurd (cc)
  path_once (into_field t v u x fields i path o form there inner) (into_field t' v' w x' fields' i' path' p form' there' inner') =
      let f : fields' ≡ fields = lists_same fields' fields (sym form' ∙ form) in
      let e : v' ≡ v = parts_same fields' fields i x' x v' v f there' there in
      let deeper = path_once inner (subst (λ (y : TypeId). IsPath forms (Some y) path w p) e inner') in
      (deeper.0, ap₂ (λ (all : FieldList) (n : ℕ). fields_before forms all i + n) (sym f) deeper.1)

-- a whole variable has the type of what is laid out at its place
pub declared_once : (s : Site) (v : Spot) (t u : Option TypeId) → IsDeclaredAt s v t → IsDeclaredAt s v u → t ≡ u
declared_once s v t u one other =
    let same = same_Some one.meaning other.meaning (sym one.laid ∙ other.laid) in one.typed ∙ ap (λ (m : Meaning). laid_type m) same ∙ sym other.typed

pub words_once : (view : View) (s : Site) (v : Spot) (t u : Option TypeId) (w y : ℤ) → IsWordAt view s v t w → IsWordAt view s v u y → (t ≡ u) × (w ≡ y)
words_once view s v t u w y one other =
    let whole = record v { selectors = [] } in
    let same = declared_once s whole one.whole other.whole one.declared other.declared in
    let path = subst (λ (x : Option TypeId). IsPath (forms_of s) x (path_of v.selectors) u other.behind) (sym same) other.path in
    let ends = path_once (forms_of s) one.path path in
    (ends.0, one.word ∙ ap (λ (n : ℕ). pos (first_word view s whole + n)) ends.1 ∙ sym other.word)
