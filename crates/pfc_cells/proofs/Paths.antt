-- Paths into a value: where one leads, and that two of which neither begins the other lead to different cells.
use Rattle.std.proofs.Common.{◌≡◌, ℕ, zero, suc, ◌+◌, ◌*◌, ◌≤◌, ◌<◌, ℤ, List, [], ◌∷◌, ◌++◌, length, slice_get, Option, Some, refl, sym, ap, ap₂, ◌∙◌, subst}
use Rattle.std.proofs.Common.{arith, ◌⊎◌, inl, inr}
use Rattle.pfc_tree.specs.Symbols.{Text}
use Rattle.pfc_types.specs.Types.{Forms, cells_in, extent}
use Rattle.pfc_types.specs.Fields.{FieldList}
use Rattle.pfc_types.specs.declared.types.TypeId.{TypeId}
use Rattle.pfc_types.specs.declared.types.TypeForm.TheVariants.{Array, Record}
use Rattle.pfc_translation.specs.Addresses.{fields_before}
use Rattle.pfc_translation.specs.Sites.{type_cells}
use Rattle.pfc_cells.specs.Shapes.{AreCounted, IsPath, here, into_element, into_field}
use Rattle.pfc_cells.proofs.Words.{fields_next}

-- ## Places of parts

-- an element ends before those behind it begin
pub element_within : (i n c : ℕ) → i < n → i * c + c ≤ n * c
element_within i zero c h = absurd (omega (arith, h))
element_within zero (suc n) c h = omega arith
element_within (suc i) (suc n) c h = let inner = element_within i n c (omega (arith, h)) in omega (arith, inner)

-- and so does a field
pub field_within : (forms : Forms) (fields : FieldList) (i j : ℕ) (f : Text × TypeId) → slice_get fields i ≡ Some f → i < j
    → fields_before forms fields i + cells_in forms f.1 ≤ fields_before forms fields j
field_within forms [] i j f there below = absurd (cc)
field_within forms (x ∷ fields) i zero f there below = absurd (omega (arith, below))
field_within forms (x ∷ fields) zero (suc j) f there below =
    let one : x ≡ f = cc in
    let next : fields_before forms (x ∷ fields) (suc j) ≡ cells_in forms f.1 + fields_before forms fields j = fields_next forms x fields j
    ∙ ap (λ (y : Text × TypeId). cells_in forms y.1 + fields_before forms fields j) one in
    let none : fields_before forms (x ∷ fields) 0 ≡ 0 = refl in
    omega (arith, next, none)
field_within forms (x ∷ fields) (suc i) (suc j) f there below =
    let inner = field_within forms fields i j f there (omega (arith, below)) in
    let next : fields_before forms (x ∷ fields) (suc j) ≡ cells_in forms x.1 + fields_before forms fields j = fields_next forms x fields j in
    let first : fields_before forms (x ∷ fields) (suc i) ≡ cells_in forms x.1 + fields_before forms fields i = fields_next forms x fields i in
    omega (arith, inner, next, first)

pub place_there : {A : Type 0} (xs : List A) (i : ℕ) (x : A) → slice_get xs i ≡ Some x → i < length xs
place_there [] i x h = absurd (cc)
place_there (y ∷ xs) zero x h = omega arith
place_there (y ∷ xs) (suc i) x h = let inner = place_there xs i x h in omega (arith, inner)

-- ## One path

module _ (forms : Forms) (sound : AreCounted forms) where
  -- a part lies within the whole
  pub path_within : {t : Option TypeId} {path : List ℕ} {u : Option TypeId} {o : ℕ} → IsPath forms t path u o → o + type_cells forms u ≤ type_cells forms t
  path_within (here t) = omega arith
  path_within (into_element t over element u low high i path o form below inner) =
      let deeper : o + type_cells forms u ≤ cells_in forms element = path_within inner in
      let among : i * cells_in forms element + cells_in forms element ≤ extent low high * cells_in forms element = element_within i
      (extent low high) (cells_in forms element) below in
      let whole : cells_in forms t ≡ extent low high * cells_in forms element = sound.array_cells t over element low high form in
      omega (arith, deeper, among, whole)
  path_within (into_field t v u x fields i path o form there inner) =
      let deeper : o + type_cells forms u ≤ cells_in forms v = path_within inner in
      let among : fields_before forms fields i + cells_in forms v ≤ fields_before forms fields (length fields) = field_within forms fields i
      (length fields) (x, v) there (place_there fields i (x, v) there) in
      let whole : cells_in forms t ≡ fields_before forms fields (length fields) = sound.record_cells t fields form in
      omega (arith, deeper, among, whole)

-- ## Two paths

-- a path begins another
abbrev pub BeginsPath : List ℕ → List ℕ → Type 0
BeginsPath p q = (rest : List ℕ) × (q ≡ p ++ rest)

pub begins_behind : (i j : ℕ) (p q : List ℕ) → i ≡ j → BeginsPath p q → BeginsPath (i ∷ p) (j ∷ q)
begins_behind i j p q e h = (h.0, ap₂ (λ (k : ℕ) (xs : List ℕ). k ∷ xs) (sym e) h.1)

pub data Order (i j : ℕ) : Type 0 where
  equal : i ≡ j → Order i j
  before : i < j → Order i j
  behind : j < i → Order i j

either_order : (i j : ℕ) → (i ≡ j) ⊎ ((i < j) ⊎ (j < i))
either_order i j = grind arith

order_by : (i j : ℕ) → (i ≡ j) ⊎ ((i < j) ⊎ (j < i)) → Order i j
order_by i j (inl h) = equal h
order_by i j (inr (inl h)) = before h
order_by i j (inr (inr h)) = behind h

pub order_of : (i j : ℕ) → Order i j
order_of i j = order_by i j (either_order i j)

-- the cells of the one end before those of the other begin
abbrev pub EndsBefore : ℕ → ℕ → ℕ → ℕ → Type 0
EndsBefore o n p m = (o + n ≤ p) ⊎ (p + m ≤ o)

pub moved : (a o n p m : ℕ) → EndsBefore o n p m → EndsBefore (a + o) n (a + p) m
moved a o n p m (inl h) = inl (omega (arith, h))
moved a o n p m (inr h) = inr (omega (arith, h))

pub ends_first : (o n p m : ℕ) → o + n ≤ p → EndsBefore o n p m
ends_first o n p m h = inl h

pub ends_last : (o n p m : ℕ) → p + m ≤ o → EndsBefore o n p m
ends_last o n p m h = inr h

pub array_same : (a b e f : TypeId) (low high low' high' : ℤ) → Some (Array a low high e) ≡ Some (Array b low' high' f) → e ≡ f
array_same a b e f low high low' high' h = cc

pub array_extent : (a b e f : TypeId) (low high low' high' : ℤ) → Some (Array a low high e) ≡ Some (Array b low' high' f) → extent low high ≡ extent low' high'
array_extent a b e f low high low' high' h = cc

pub fields_same : (fs gs : FieldList) → Some (Record fs) ≡ Some (Record gs) → fs ≡ gs
fields_same fs gs h = cc

pub some_same : {A : Type 0} (x y : A) → Some x ≡ Some y → x ≡ y
some_same x y h = cc

pub field_same : (fs gs : FieldList) (i : ℕ) (x y : Text) (v w : TypeId) → fs ≡ gs → slice_get fs i ≡ Some (x, v) → slice_get gs i ≡ Some (y, w) → v ≡ w
field_same fs gs i x y v w one_list one two =
    let both : Some (x, v) ≡ Some (y, w) = sym one ∙ ap (λ (hs : FieldList). slice_get hs i) one_list ∙ two in
    ap (λ (f : Text × TypeId). f.1) (some_same (x, v) (y, w) both)

module _ (forms : Forms) where
  -- a path leads to one place and to one type
  pub path_once : {t : Option TypeId} {path : List ℕ} {u w : Option TypeId} {o p : ℕ} → IsPath forms t path u o → IsPath forms t path w p → (u ≡ w) × (o ≡ p)
  path_once (here t) (here t') = (refl, refl)
  path_once (into_element t over element u low high i path o form below inner) (into_element t' over' element' w low' high' i' path' p form' below' inner') =
      let e : element' ≡ element = array_same over' over element' element low' high' low high (sym form' ∙ form) in
      let deeper = path_once inner (subst (λ (x : TypeId). IsPath forms (Some x) path w p) e inner') in
      (deeper.0, ap₂ (λ (x : TypeId) (n : ℕ). i * cells_in forms x + n) (sym e) deeper.1)
  path_once (into_element t over element u low high i path o form below inner) (into_field t' v w x fields i' path' p form' there inner') = absurd (cc)
  path_once (into_field t v u x fields i path o form there inner) (into_element t' over' element' w low' high' i' path' p form' below' inner') = absurd (cc)
  path_once (into_field t v u x fields i path o form there inner) (into_field t' v' w x' fields' i' path' p form' there' inner') =
      let f : fields' ≡ fields = fields_same fields' fields (sym form' ∙ form) in
      let e : v' ≡ v = field_same fields' fields i x' x v' v f there' there in
      let deeper = path_once inner (subst (λ (y : TypeId). IsPath forms (Some y) path w p) e inner') in
      (deeper.0, ap₂ (λ (fs : FieldList) (n : ℕ). fields_before forms fs i + n) (sym f) deeper.1)

module _ (forms : Forms) (sound : AreCounted forms) where
  -- parts of two elements, of which the one stands before the other
  elements_apart :
      (i j c o z : ℕ) → i < j → o + z ≤ c → i * c + o + z ≤ j * c
  elements_apart i j c o z below within =
      let among : i * c + c ≤ j * c = element_within i j c below in
      omega (arith, among, within)

  -- Paths of which neither begins the other lead to parts that have no cell in common.
  pub paths_apart :
      {t : Option TypeId} {path : List ℕ} {u : Option TypeId} {o : ℕ} {other : List ℕ} {w : Option TypeId} {p : ℕ}
      → IsPath forms t path u o → IsPath forms t other w p → (BeginsPath path other → ⊥) → (BeginsPath other path → ⊥)
      → EndsBefore o (type_cells forms u) p (type_cells forms w)
  paths_apart {t} {path} {u} {o} {other} {w} {p} (here t') second not_first not_second = absurd (not_first (other, refl))
  paths_apart (into_element t over element u low high i path o form below inner) (here t') not_first not_second = absurd (not_second (i ∷ path, refl))
  paths_apart (into_element t over element u low high i path o form below inner)
      (into_element t' over' element' w low' high' j other p form' below' inner') not_first not_second =
      let e : element' ≡ element = array_same over' over element' element low' high' low high (sym form' ∙ form) in
      let theirs : IsPath forms (Some element) other w p = subst (λ (x : TypeId). IsPath forms (Some x) other w p) e inner' in
      let one : o + type_cells forms u ≤ cells_in forms element = path_within forms sound inner in
      let two : p + type_cells forms w ≤ cells_in forms element = path_within forms sound theirs in
      subst (λ (x : TypeId). EndsBefore (i * cells_in forms element + o) (type_cells forms u) (j * cells_in forms x + p) (type_cells forms w)) (sym e)
      (elim (order_of i j) [
        | equal same ↦
            subst (λ (k : ℕ). EndsBefore (i * cells_in forms element + o) (type_cells forms u) (k * cells_in forms element + p) (type_cells forms w)) same
            (moved (i * cells_in forms element) o (type_cells forms u) p (type_cells forms w)
            (paths_apart inner theirs (λ h. not_first (begins_behind i j path other same h)) (λ h. not_second (begins_behind j i other path (sym same) h))))
        | before less ↦
            let end : i * cells_in forms element + o + type_cells forms u ≤ j * cells_in forms element = elements_apart i j
            (cells_in forms element) o (type_cells forms u) less one in
            inl (omega (arith, end))
        | behind more ↦
            let end : j * cells_in forms element + p + type_cells forms w ≤ i * cells_in forms element = elements_apart j i
            (cells_in forms element) p (type_cells forms w) more two in
            inr (omega (arith, end))
      ])
  paths_apart (into_element t over element u low high i path o form below inner)
      (into_field t' v w x fields j other p form' there inner') not_first not_second = absurd (cc)
  paths_apart (into_field t v u x fields i path o form there inner) (here t') not_first not_second = absurd (not_second (i ∷ path, refl))
  paths_apart (into_field t v u x fields i path o form there inner)
      (into_element t' over' element' w low' high' j other p form' below' inner') not_first not_second = absurd (cc)
  paths_apart (into_field t v u x fields i path o form there inner) (into_field t' v' w x' fields' j other p form' there' inner') not_first not_second =
      let f : fields' ≡ fields = fields_same fields' fields (sym form' ∙ form) in
      let beside : slice_get fields j ≡ Some (x', v') = ap (λ (fs : FieldList). slice_get fs j) (sym f) ∙ there' in
      let one : o + type_cells forms u ≤ cells_in forms v = path_within forms sound inner in
      let two : p + type_cells forms w ≤ cells_in forms v' = path_within forms sound inner' in
      subst (λ (fs : FieldList). EndsBefore (fields_before forms fields i + o) (type_cells forms u) (fields_before forms fs j + p) (type_cells forms w)) (sym f)
      (elim (order_of i j) [
        | equal same ↦
            let e : v' ≡ v = field_same fields fields i x' x v' v refl (ap (λ (k : ℕ). slice_get fields k) same ∙ beside) there in
            let theirs : IsPath forms (Some v) other w p = subst (λ (y : TypeId). IsPath forms (Some y) other w p) e inner' in
            subst (λ (k : ℕ). EndsBefore (fields_before forms fields i + o) (type_cells forms u) (fields_before forms fields k + p) (type_cells forms w)) same
            (moved (fields_before forms fields i) o (type_cells forms u) p (type_cells forms w)
            (paths_apart inner theirs (λ h. not_first (begins_behind i j path other same h)) (λ h. not_second (begins_behind j i other path (sym same) h))))
        | before less ↦
            let end : fields_before forms fields i + cells_in forms v ≤ fields_before forms fields j = field_within forms fields i j (x, v) there less in
            inl (omega (arith, end, one))
        | behind more ↦
            let end : fields_before forms fields j + cells_in forms v' ≤ fields_before forms fields i = field_within forms fields j i (x', v') beside more in
            inr (omega (arith, end, two))
      ])
