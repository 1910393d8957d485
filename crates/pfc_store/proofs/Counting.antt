-- Objects are numbered one behind the other.
use Rattle.std.proofs.Common.{◌≡◌, ℕ, zero, suc, ◌+◌, ◌<◌, ◌≤◌, pos, Bool, true, false, nat_lt, List, [], ◌∷◌, ◌++◌, length, take, drop, get_or, slice_get}
use Rattle.std.proofs.Common.{Some, None, refl, sym, ap, ap₂, ◌∙◌, arith}
use Rattle.std.specs.Prelude.{if◌then◌else◌}
use Rattle.std.proofs.lemmas.Bool.Decides.{nat_tests}
use Rattle.std.proofs.lemmas.List.{append_assoc, append-nil, drop_more, take_more, get_or_past, length-take-le}
use Rattle.std.proofs.lemmas.Option.{slice_get-get_or}
use Rattle.pfc_types.specs.Types.{Forms, form_of, held_of, all_held, held_next, predeclared_held, one_cell}
use Rattle.pfc_types.specs.Fields.{FieldList}
use Rattle.pfc_types.specs.declared.table.Held.{Held}
use Rattle.pfc_types.specs.declared.types.TypeId.{TypeId}
use Rattle.pfc_types.specs.declared.types.TypeForm.{TypeForm}
use Rattle.pfc_types.specs.Scopes.{Names}
use Rattle.pfc_types.specs.Blocks.{Blocks}
use Rattle.pfc_types.specs.declared.heads.ModuleHead.{ModuleHead}
use Rattle.pfc_types.specs.declared.scope.Meaning.{Meaning}
use Rattle.pfc_types.specs.declared.scope.Meaning.TheVariants.{Variable, Constant, Named, Sub, Module, Process, Entry, Predeclared, Faulty}
use Rattle.pfc_state.specs.Waits.{same_truth}
use Rattle.pfc_semantics.specs.Values.{Value, Values, ordinal, no_values, more_values, values_from}
use Rattle.pfc_semantics.specs.Objects.{Objects, Numbered, Numbering, unnumbered, a_semaphore, a_condition, numbering_of, one_more, numbered_copies}
use Rattle.pfc_semantics.specs.Objects.{numbered_fields, numbering_form, predeclared_numberings, numbering_next, all_numberings, numbered_names, of_main}
use Rattle.pfc_semantics.specs.Objects.{numbered_main, of_kind}
use Rattle.pfc_store.specs.Numbered.{behind}
use Rattle.pfc_store.proofs.Living.{unlike}
use Rattle.pfc_semantics.proofs.Tables.{built_length, built_at, built_below, built_form}

-- ## The numbering of a type

abbrev pub unknown : Numbering
unknown = unnumbered (ordinal (pos 0))

pub numbering_of_form : (forms : Forms) (t : TypeId) (form : TypeForm) → form_of forms t ≡ Some form →
    numbering_of (all_numberings forms) t ≡ numbering_form (all_numberings (take t.place forms)) form
numbering_of_form forms t form e = built_form Numbering numbering_next forms t form unknown e

pub part_before : (forms : Forms) (whole t : TypeId) → t.place < whole.place → whole.place ≤ length forms →
    numbering_of (all_numberings forms) t ≡ numbering_of (all_numberings (take whole.place forms)) t
part_before forms whole t below within = sym (built_below Numbering numbering_next forms whole.place t.place unknown below within)

pub part_past : (forms : Forms) (whole t : TypeId) → whole.place ≤ t.place → whole.place ≤ length forms →
    numbering_of (all_numberings (take whole.place forms)) t ≡ unknown
part_past forms whole t past within =
    get_or_past (all_numberings (take whole.place forms)) t.place unknown
    (omega (arith, past, built_length Numbering numbering_next [] (take whole.place forms), length-take-le whole.place forms within))

-- a type that is made of nothing: what it holds tells how it is numbered
abbrev pub by_held : Held → Numbering
by_held held = if held.shared then a_semaphore else (if held.conditions then a_condition else unknown)

pub predeclared : (n : ℕ) → get_or predeclared_numberings n unknown ≡ by_held (predeclared_held n)
predeclared zero = refl
predeclared (suc zero) = refl
predeclared (suc (suc zero)) = refl
predeclared (suc (suc (suc zero))) = refl
predeclared (suc (suc (suc (suc zero)))) = refl
predeclared (suc (suc (suc (suc (suc zero))))) = refl
predeclared (suc (suc (suc (suc (suc (suc n)))))) =
    let k : ℕ = suc (suc (suc (suc (suc (suc n))))) in
    sym
    (ap₂ (λ (condition semaphore : Bool). if semaphore then a_semaphore else (if condition then a_condition else unknown))
    (unlike k 4 (λ e. absurd (omega (arith, e))))
    (unlike k 3 (λ e. absurd (omega (arith, e)))))

pub simple_numbering : (forms : Forms) (t : TypeId) → form_of forms t ≡ None → numbering_of (all_numberings forms) t ≡ by_held (held_of forms t)
simple_numbering forms t e =
    elim (nat_lt t.place (length forms)) as (λ b. nat_lt t.place (length forms) ≡ b → numbering_of (all_numberings forms) t ≡ by_held (held_of forms t)) [
      | true ↦ λ h.
          let below : t.place < length forms = grind (arith, nat_tests) in
          let there : slice_get forms t.place ≡ Some None = slice_get-get_or forms t.place None below ∙ ap Some e in
          let count : length (take t.place forms) ≡ t.place = length-take-le t.place forms (omega (arith, below)) in
          let numberings : length (all_numberings (take t.place forms)) ≡ t.place =
          built_length Numbering numbering_next [] (take t.place forms) ∙ omega (arith, count) in
          let helds : length (all_held (take t.place forms)) ≡ t.place = built_length Held held_next [] (take t.place forms) ∙ omega (arith, count) in
          built_at Numbering numbering_next forms t.place None unknown there
          ∙ ap (λ n. get_or predeclared_numberings n unknown) numberings
          ∙ predeclared t.place
          ∙ ap by_held (ap predeclared_held (sym helds) ∙ sym (built_at Held held_next forms t.place None one_cell there))
      | false ↦ λ h.
          let past : length forms ≤ t.place = grind (arith, nat_tests) in
          get_or_past (all_numberings forms) t.place unknown (omega (arith, past, built_length Numbering numbering_next [] forms))
          ∙ ap by_held (sym (get_or_past (all_held forms) t.place one_cell (omega (arith, past, built_length Held held_next [] forms))))
    ] refl

-- ## Parts, one behind the other

abbrev pub onto : List Value → Values → Values
onto [] rest = rest
onto (v ∷ vs) rest = more_values v (onto vs rest)

pub onto_push : (vs : List Value) (v : Value) (rest : Values) → onto (vs ++ v ∷ []) rest ≡ onto vs (more_values v rest)
onto_push [] v rest = refl
onto_push (w ∷ vs) v rest = ap (more_values w) (onto_push vs v rest)

pub onto_none : (vs : List Value) → onto vs no_values ≡ values_from vs
onto_none [] = refl
onto_none (v ∷ vs) = ap (more_values v) (onto_none vs)

abbrev pub in_front : List Value → Numbered Values → Numbered Values
in_front vs rest = record { is = onto vs rest.is; objects = rest.objects }

abbrev pub value_with : Value → Objects → Numbered Value
value_with v o = record { is = v; objects = o }

abbrev pub parts_with : Values → Objects → Numbered Values
parts_with vs o = record { is = vs; objects = o }

-- one more, from the objects behind the one before
pub one_pushed : (vs : List Value) (v : Value) (o : Objects) (rest : Objects → Numbered Values) →
    in_front (vs ++ v ∷ []) (rest o) ≡ in_front vs (one_more (value_with v o) rest)
one_pushed vs v o rest = ap (λ is. parts_with is (rest o).objects) (onto_push vs v (rest o).is)

pub copies_next :
    (vs : List Value) (v : Value) (f : Numbering) (m n left : ℕ) (o after : Objects) → left ≡ suc n → f m o ≡ value_with v after
    → in_front (vs ++ v ∷ []) (numbered_copies n f m after) ≡ in_front vs (numbered_copies left f m o)
copies_next vs v f m n left o after count e =
    one_pushed vs v after (numbered_copies n f m)
    ∙ ap (λ x. in_front vs (one_more x (numbered_copies n f m))) (sym e)
    ∙ ap (λ k. in_front vs (numbered_copies k f m o)) (sym count)

pub copies_done : (vs : List Value) (f : Numbering) (m left : ℕ) (o : Objects) → left ≡ 0 →
    in_front vs (numbered_copies left f m o) ≡ parts_with (values_from vs) o
copies_done vs f m left o none = ap (λ k. in_front vs (numbered_copies k f m o)) none ∙ ap (λ is. parts_with is o) (onto_none vs)

pub fields_next :
    (vs : List Value) (v : Value) (before : List Numbering) (fields : FieldList) (i : ℕ) (t : TypeId) (m : ℕ) (o after : Objects)
    → i < length fields → ((d : List ℕ × TypeId) → t ≡ (get_or fields i d).1) → numbering_of before t m o ≡ value_with v after
    → in_front (vs ++ v ∷ []) (numbered_fields before (drop (i + 1) fields) m after) ≡ in_front vs (numbered_fields before (drop i fields) m o)
fields_next vs v before fields i t m o after h read e =
    let d : List ℕ × TypeId = ([], t) in
    let rest = drop (i + 1) fields in
    one_pushed vs v after (numbered_fields before rest m)
    ∙ ap (λ x. in_front vs (one_more x (numbered_fields before rest m))) (sym e ∙ ap (λ u. numbering_of before u m o) (read d))
    ∙ ap (λ fs. in_front vs (numbered_fields before fs m o)) (sym (drop_more fields i d h))

pub fields_done : (vs : List Value) (before : List Numbering) (fields : FieldList) (m : ℕ) (o : Objects) → fields ≡ [] →
    in_front vs (numbered_fields before fields m o) ≡ parts_with (values_from vs) o
fields_done vs before fields m o none = ap (λ fs. in_front vs (numbered_fields before fs m o)) none ∙ ap (λ is. parts_with is o) (onto_none vs)

-- ## Variables, one behind the other

abbrev pub variables_with : List Value → Objects → Numbered (List Value)
variables_with vs o = record { is = vs; objects = o }

-- what is made of those before, with those behind
abbrev pub followed : (Objects → Numbered (List Value)) → Numbered (List Value) → Numbered (List Value)
followed rest r = record { is = r.is ++ (rest r.objects).is; objects = (rest r.objects).objects }

pub followed_behind : (vs : List Value) (one : Numbered (List Value)) (rest : Objects → Numbered (List Value)) →
    followed rest (behind vs one) ≡ behind vs (followed rest one)
followed_behind vs one rest = ap (λ is. variables_with is (rest one.objects).objects) (append_assoc vs one.is (rest one.objects).is)

-- a name of a monitor or a resource stands for itself
pub names_one :
    (all : List Numbering) (x : List ℕ) (m : Meaning) (names : Names) (monitor : ℕ) (o : Objects)
    → numbered_names all ((x, m) ∷ names) monitor o ≡ followed (numbered_names all names monitor) (numbered_names all (([], m) ∷ []) monitor o)
names_one all x (Variable t reference) names monitor o = refl
names_one all x (Constant t n) names monitor o = refl
names_one all x (Named t) names monitor o = refl
names_one all x (Sub n) names monitor o = refl
names_one all x (Module n) names monitor o = refl
names_one all x (Process n) names monitor o = refl
names_one all x (Entry n) names monitor o = refl
names_one all x (Predeclared n) names monitor o = refl
names_one all x Faulty names monitor o = refl

pub names_next :
    (all : List Numbering) (names : Names) (k : ℕ) (m : Meaning) (monitor : ℕ) (vs after_vs : List Value) (o after : Objects)
    → k < length names → ((d : List ℕ × Meaning) → m ≡ (get_or names k d).1) →
    behind vs (numbered_names all (([], m) ∷ []) monitor o) ≡ variables_with after_vs after
    → behind after_vs (numbered_names all (drop (k + 1) names) monitor after) ≡ behind vs (numbered_names all (drop k names) monitor o)
names_next all names k m monitor vs after_vs o after h read e =
    let d : List ℕ × Meaning = ([], m) in
    let x = get_or names k d in
    let rest = drop (k + 1) names in
    ap (followed (numbered_names all rest monitor)) (sym e)
    ∙ followed_behind vs (numbered_names all (([], m) ∷ []) monitor o) (numbered_names all rest monitor)
    ∙ ap (λ u. behind vs (followed (numbered_names all rest monitor) (numbered_names all (([], u) ∷ []) monitor o))) (read d)
    ∙ ap (behind vs) (sym (names_one all x.0 x.1 rest monitor o))
    ∙ ap (λ ns. behind vs (numbered_names all ns monitor o)) (sym (drop_more names k d h))

pub main_next :
    (b : Blocks) (all : List Numbering) (names : Names) (k : ℕ) (m : Meaning) (vs after_vs : List Value) (o after : Objects)
    → k < length names → ((d : List ℕ × Meaning) → m ≡ (get_or names k d).1) → behind vs (of_main b all m o) ≡ variables_with after_vs after
    → behind after_vs (numbered_main b all (drop (k + 1) names) after) ≡ behind vs (numbered_main b all (drop k names) o)
main_next b all names k m vs after_vs o after h read e =
    let d : List ℕ × Meaning = ([], m) in
    let rest = drop (k + 1) names in
    ap (followed (numbered_main b all rest)) (sym e)
    ∙ followed_behind vs (of_main b all m o) (numbered_main b all rest)
    ∙ ap (λ u. behind vs (followed (numbered_main b all rest) (of_main b all u o))) (read d)
    ∙ ap (λ ns. behind vs (numbered_main b all ns o)) (sym (drop_more names k d h))

pub behind_nothing : (vs : List Value) (o : Objects) → behind vs (variables_with [] o) ≡ variables_with vs o
behind_nothing vs o = ap (λ is. variables_with is o) (append-nil vs)

pub names_done : (all : List Numbering) (names : Names) (monitor : ℕ) (vs : List Value) (o : Objects) → names ≡ [] →
    behind vs (numbered_names all names monitor o) ≡ variables_with vs o
names_done all names monitor vs o none = ap (λ ns. behind vs (numbered_names all ns monitor o)) none ∙ behind_nothing vs o

pub main_done : (b : Blocks) (all : List Numbering) (names : Names) (vs : List Value) (o : Objects) → names ≡ [] →
    behind vs (numbered_main b all names o) ≡ variables_with vs o
main_done b all names vs o none = ap (λ ns. behind vs (numbered_main b all ns o)) none ∙ behind_nothing vs o

-- ## Modules of a kind

pub kind_append : (resource : Bool) (xs ys : List ModuleHead) → of_kind resource (xs ++ ys) ≡ of_kind resource xs + of_kind resource ys
kind_append resource [] ys = omega arith
kind_append resource (m ∷ xs) ys =
    let induction = kind_append resource xs ys in
    elim (same_truth m.resource resource) as (λ b. (if b then 1 + of_kind resource (xs ++ ys) else of_kind resource (xs ++ ys)) ≡ (if b then
    1 + of_kind resource xs else of_kind resource xs) + of_kind resource ys)
    [ true ↦ omega (arith, induction) | false ↦ induction ]

pub kind_next : (resource : Bool) (ms : List ModuleHead) (k : ℕ) (m d : ModuleHead) → k < length ms → m ≡ get_or ms k d →
    of_kind resource (take (k + 1) ms) ≡ of_kind resource (take k ms) + (if same_truth m.resource resource then 1 else 0)
kind_next resource ms k m d h read =
    ap (of_kind resource) (take_more ms k d h)
    ∙ kind_append resource (take k ms) (get_or ms k d ∷ [])
    ∙ ap (λ u. of_kind resource (take k ms) + of_kind resource (u ∷ [])) (sym read)
    ∙ ap (λ n. of_kind resource (take k ms) + n) (elim (same_truth m.resource resource) as (λ b. (if b then 1 + 0 else 0) ≡ (if b then
    1 else 0)) [ true ↦ refl | false ↦ refl ])
