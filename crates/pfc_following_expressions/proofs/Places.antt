-- Words of parts of variables: an index within the bounds and a field lead on, and each is an address.
use Rattle.std.proofs.Common.{◌≡◌, ℕ, zero, suc, ◌+◌, ◌*◌, ◌^◌, ◌<◌, ◌≤◌, ℤ, pos, ◌+ℤ◌, ◌-ℤ◌, nat_abs, true, List, [], ◌∷◌, ◌++◌, length, take, Option, Some}
use Rattle.std.proofs.Common.{refl, sym, ap, ◌∙◌, subst, arith}
use Rattle.std.specs.List.{slice_get}
use Rattle.std.proofs.lemmas.Bool.Decides.{nat_tests}
use Rattle.std.proofs.lemmas.List.Sums.{sum_by-cons}
use Rattle.pfc_tree.specs.Symbols.{Text}
use Rattle.pfc_types.specs.Types.{Forms, form_of, cells_in, extent}
use Rattle.pfc_types.specs.Fields.{FieldList}
use Rattle.pfc_types.specs.declared.types.TypeId.{TypeId}
use Rattle.pfc_types.specs.declared.types.TypeForm.TheVariants.{Array, Record}
use Rattle.pfc_types.specs.rules.Expressions.{Env}
use Rattle.pfc_stacks.specs.Refs.{IsAddress}
use Rattle.pfc_stacks.specs.Effects.{is_within, element_word}
use Rattle.pfc_semantics.specs.Values.{Selector, path_of}
use Rattle.pfc_semantics.specs.Displays.{Spot, within}
use Rattle.pfc_semantics.specs.Programs.{Block}
use Rattle.pfc_translation.specs.Sites.{Site, forms_of, type_cells}
use Rattle.pfc_translation.specs.Addresses.{fields_before}
use Rattle.pfc_cells.specs.Shapes.{IsPath, here, into_element, into_field}
use Rattle.pfc_standing_code.specs.Shapes.{IsSound}
use Rattle.pfc_standing_code.specs.Settings.{View, Setting}
use Rattle.pfc_standing_code.specs.Words.{first_word, IsWordAt, names_at, IsChecked}

-- ## Distances

pub within_extent : (low high i : ℤ) → is_within low high i ≡ true → nat_abs (i -ℤ low) < extent low high
within_extent low high i e = grind (arith, nat_tests)

pub element_word_is : (low high i : ℤ) (z s : ℕ) → is_within low high i ≡ true → element_word low z i (pos s) ≡ pos (s + nat_abs (i -ℤ low) * z)
element_word_is low high i z s e = grind (arith, nat_tests)

times_below : (i n c : ℕ) → i < n → i * c + c ≤ n * c
times_below i zero c h = absurd (omega arith)
times_below zero (suc n) c h = omega arith
times_below (suc i) (suc n) c h = let before = times_below i n c (omega arith) in omega arith

fields_next : (forms : Forms) (f : Text × TypeId) (fields : FieldList) (k : ℕ) →
    fields_before forms (f ∷ fields) (suc k) ≡ cells_in forms f.1 + fields_before forms fields k
fields_next forms f fields k = sum_by-cons (λ (x : Text × TypeId). cells_in forms x.1) f (take k fields)

field_within : (forms : Forms) (fields : FieldList) (i : ℕ) (x : Text) (v : TypeId) → slice_get fields i ≡ Some (x, v) →
    fields_before forms fields i + cells_in forms v ≤ fields_before forms fields (length fields)
field_within forms [] i x v h = absurd (cc)
field_within forms (f ∷ fields) zero x v h =
    let all = fields_next forms f fields (length fields) in
    let same : f ≡ (x, v) = cc in
    let cells : cells_in forms f.1 ≡ cells_in forms v = ap (λ (y : Text × TypeId). cells_in forms y.1) same in
    omega arith
field_within forms (f ∷ fields) (suc i) x v h =
    let all = fields_next forms f fields (length fields) in
    let here = fields_next forms f fields i in
    let before = field_within forms fields i x v h in
    omega arith

-- ## Paths

module _ (forms : Forms) where
  path_at : {t : Option TypeId} {path : List ℕ} {u : Option TypeId} {o p : ℕ} → o ≡ p → IsPath forms t path u o → IsPath forms t path u p
  path_at {t} {path} {u} e h = subst (λ n. IsPath forms t path u n) e h

  -- two paths, one behind the other
  path_joined : {t : Option TypeId} {path : List ℕ} {u : Option TypeId} {o : ℕ} {more : List ℕ} {v : Option TypeId} {p : ℕ} → IsPath forms t path u o →
      IsPath forms u more v p → IsPath forms t (path ++ more) v (o + p)
  path_joined (here t) h = path_at (omega arith) h
  path_joined (into_element t over element u low high i path o form below rest) h =
      path_at (omega arith) (into_element t over element _ low high i _ _ form below (path_joined rest h))
  path_joined (into_field t v u x fields i path o form there rest) h =
      path_at (omega arith) (into_field t v _ x fields i _ _ form there (path_joined rest h))

  -- a part lies within the cells of the whole
  pub path_within : IsSound forms → {t : Option TypeId} {path : List ℕ} {u : Option TypeId} {o : ℕ} → IsPath forms t path u o →
      o + type_cells forms u ≤ type_cells forms t
  path_within sound (here t) = omega arith
  path_within sound (into_element t over element u low high i path o form below rest) =
      let inner = path_within sound rest in
      let cells = sound.array_cells t over element low high form in
      let all = times_below i (extent low high) (cells_in forms element) below in
      omega (arith, cells)
  path_within sound (into_field t v u x fields i path o form there rest) =
      let inner = path_within sound rest in
      let cells = sound.record_cells t fields form in
      let all = field_within forms fields i x v there in
      omega (arith, cells)

path_pushed : (selectors : List Selector) (s : Selector) → path_of selectors ++ s.place ∷ [] ≡ path_of (selectors ++ s ∷ [])
path_pushed [] s = refl
path_pushed (k ∷ selectors) s = ap (λ (xs : List ℕ). k.place ∷ xs) (path_pushed selectors s)

-- ## Words

module _ (view : View) (s : Site) where
  -- one step further, by a path of one step
  stepped :
      (v : Spot) (k : Selector) (t u : Option TypeId) (w x : ℤ) (o : ℕ)
      → IsWordAt view s v t w → IsPath (forms_of s) t (k.place ∷ []) u o → ((a : ℕ) → w ≡ pos a → x ≡ pos (a + o)) → IsWordAt view s (within v k) u x
  stepped v k t u w x o is path word =
      let joined = path_joined (forms_of s) is.path path in
      let first = first_word view s (record v { selectors = [] }) in
      let total : first + is.behind + o ≡ first + (is.behind + o) = omega arith in
      record {
        whole = is.whole;
        behind = is.behind + o;
        declared = is.declared;
        path = subst (λ (p : List ℕ). IsPath (forms_of s) is.whole p u (is.behind + o)) (path_pushed v.selectors k) joined;
        word = word (first + is.behind) is.word ∙ ap pos total;
      }

  pub element_kept :
      (v : Spot) (w i : ℤ) (t over element : TypeId) (low high : ℤ)
      → form_of (forms_of s) t ≡ Some (Array over low high element) → is_within low high i ≡ true → IsWordAt view s v (Some t) w
      → IsWordAt view s (within v (record { place = nat_abs (i -ℤ low); index = i })) (Some element) (element_word low (cells_in (forms_of s) element) i w)
  element_kept v w i t over element low high form inside is =
      let z = cells_in (forms_of s) element in
      let k = nat_abs (i -ℤ low) in
      stepped v (record { place = k; index = i }) (Some t) (Some element) w (element_word low z i w) (k * z + 0) is
      (into_element t over element (Some element) low high k [] 0 form (within_extent low high i inside) (here (Some element)))
      (λ a e. let total : a + k * z ≡ a + (k * z + 0) = omega arith in ap (λ (y : ℤ). element_word low z i y) e ∙
      element_word_is low high i z a inside ∙ ap pos total)

  pub field_kept :
      (v : Spot) (w : ℤ) (t : TypeId) (fields : FieldList) (k : ℕ) (x : Text) (u : TypeId)
      → form_of (forms_of s) t ≡ Some (Record fields) → slice_get fields k ≡ Some (x, u) → IsWordAt view s v (Some t) w
      → IsWordAt view s (within v (record { place = k; index = pos k })) (Some u) (w +ℤ pos (fields_before (forms_of s) fields k))
  field_kept v w t fields k x u form held is =
      let o = fields_before (forms_of s) fields k in
      stepped v (record { place = k; index = pos k }) (Some t) (Some u) w (w +ℤ pos o) (o + 0) is
      (into_field t u (Some u) x fields k [] 0 form held (here (Some u)))
      (λ a e. let total : a + o ≡ a + (o + 0) = omega arith in ap (λ (y : ℤ). y +ℤ pos o) e ∙ ap pos total)

small_address : (n : ℕ) → n < 2 ^ 42 → IsAddress (pos n)
small_address n h = (grind (arith, nat_tests), grind (arith, nat_tests))

-- a part's word is an address
pub word_is_address : (g : Setting) (b : Block) (env : Env) → IsChecked g b env → (v : Spot) (t : Option TypeId) (w : ℤ) →
    IsWordAt g.view (names_at g b env) v t w → IsAddress w
word_is_address g b env checked v t w is =
    let inside = path_within (forms_of (names_at g b env)) checked.sound is.path in
    let placed = checked.placed (record v { selectors = [] }) is.whole is.declared in
    subst (λ (x : ℤ). IsAddress x) (sym is.word)
    (small_address (first_word g.view (names_at g b env) (record v { selectors = [] }) + is.behind) (omega (arith, inside, placed)))
