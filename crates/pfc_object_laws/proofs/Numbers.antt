-- The numbers of the objects in a first value: each is one of its kind, and they go on where those of what stands before end.
use Rattle.std.proofs.Common.{◌≡◌, ℕ, zero, suc, ◌+◌, ◌-◌, ◌<◌, ◌≤◌, ℤ, pos, ◌+ℤ◌, List, [], ◌∷◌, ◌++◌, length, take, map, get_or, fold, slice_get, Option}
use Rattle.std.proofs.Common.{Some, None, refl, sym, ap, ap₂, ◌∙◌, subst, arith, length-append}
use Rattle.std.proofs.lemmas.List.{append-nil, append_assoc, map-append}
use Rattle.pfc_tree.specs.Symbols.{Text}
use Rattle.pfc_types.specs.Types.{Forms, form_of, extent, semaphore, condition}
use Rattle.pfc_types.specs.Fields.{FieldList}
use Rattle.pfc_types.specs.Growing.{Begins}
use Rattle.pfc_types.specs.declared.types.TypeId.{TypeId}
use Rattle.pfc_types.specs.declared.types.TypeForm.{TypeForm}
use Rattle.pfc_types.specs.declared.types.TypeForm.TheVariants.{Channel, Array, Record, Process}
use Rattle.pfc_semantics.specs.Values.{Value, Values, ordinal, compound, more_values, part, part_at}
use Rattle.pfc_semantics.specs.Objects.{Objects, Numbered, Numbering, numbered_copies, numbered_fields, all_numberings}
use Rattle.pfc_semantics.proofs.Tables.{built_form, built_none, built_part}
use Rattle.pfc_translation.specs.Objects.{Labelled, no_process, labelled_before, with_index, elements_labelled, fields_labelled, labelled_form, labelled_next}
use Rattle.pfc_translation.specs.Objects.{all_labelled}
use Rattle.pfc_cells.specs.Shapes.{IsPath, here, into_element, into_field}
use Rattle.pfc_type_laws.specs.Tables.{AreBefore, IsBefore, IsBuiltUp}
use Rattle.pfc_object_laws.specs.Kinds.{Kinds, HasKind, EachKind}
use Rattle.pfc_object_laws.proofs.Tables.{by_types, predeclared_none}
use Rattle.pfc_object_laws.proofs.Lists.{get_left, get_right_at}
use Rattle.pfc_object_laws.proofs.Values.{lone_numbering, numbering, numbering_formless, numbering_formed, array_numbering, record_numbering}

-- ## What the channels of a type carry, in their order

abbrev pub as_often : ℕ → List TypeId → List TypeId
as_often zero ts = []
as_often (suc n) ts = ts ++ as_often n ts

abbrev pub carried_before : List (List TypeId) → TypeId → List TypeId
carried_before before t = get_or before t.place []

abbrev pub fields_carried : List (List TypeId) → FieldList → List TypeId
fields_carried before [] = []
fields_carried before (f ∷ fields) = carried_before before f.1 ++ fields_carried before fields

abbrev pub carried_form : List (List TypeId) → TypeForm → List TypeId
carried_form before (Channel t) = t ∷ []
carried_form before (Array over low high element) = as_often (extent low high) (carried_before before element)
carried_form before (Record fields) = fields_carried before fields
carried_form before (Process n) = []

abbrev pub carried_next : List (List TypeId) → Option TypeForm → List TypeId
carried_next before None = []
carried_next before (Some form) = carried_form before form

abbrev pub all_carried : Forms → List (List TypeId)
all_carried forms = fold (λ before form. before ++ carried_next before form ∷ []) [] forms

-- ## All objects, and those so far

-- The objects so far, with what the channels among them carry, are the first of all.
pub record AreFirst (o : Objects) (carried : List TypeId) (all : Kinds) : Type 0 where
  pub counted : length carried ≡ o.channels
  pub semaphores : o.semaphores ≤ all.semaphores
  pub conditions : length o.conditions ≤ all.conditions
  pub carried_first : Begins carried all.carried
  pub processes : Begins o.processes all.processes

-- the declarations of the processes in a variable
abbrev pub declared_in : List (ℕ × Text) → List ℕ
declared_in ps = map (λ (p : ℕ × Text). p.0) ps

-- What comes of the numbering of something behind these objects, with what its channels carry and with its processes.
pub record Goes (o : Objects) (more : List TypeId) (declared : List ℕ) (after : Objects) : Type 0 where
  pub channels : after.channels ≡ o.channels + length more
  pub processes : after.processes ≡ o.processes ++ declared
  pub semaphores : o.semaphores ≤ after.semaphores
  pub conditions : length o.conditions ≤ length after.conditions

pub goes_nowhere : (o : Objects) → Goes o [] [] o
goes_nowhere o =
    record { channels = omega arith; processes = sym (append-nil o.processes); semaphores = omega arith; conditions = omega arith }

pub goes_on : (o p q : Objects) (ts us : List TypeId) (ns ms : List ℕ) → Goes o ts ns p → Goes p us ms q → Goes o (ts ++ us) (ns ++ ms) q
goes_on o p q ts us ns ms one two =
    let a : p.channels ≡ o.channels + length ts = one.channels in
    let b : q.channels ≡ p.channels + length us = two.channels in
    record {
      channels = omega (arith, a, b, length-append ts us);
      processes = two.processes ∙ ap (λ l. l ++ ms) one.processes ∙ append_assoc o.processes ns ms;
      semaphores = omega (arith, one.semaphores, two.semaphores);
      conditions = omega (arith, one.conditions, two.conditions);
    }

-- what stood before is among the first, where what comes behind it is
pub first_before : (o p : Objects) (carried more : List TypeId) (declared : List ℕ) (all : Kinds) → length carried ≡ o.channels → Goes o more declared p
    → AreFirst p (carried ++ more) all → AreFirst o carried all
first_before o p carried more declared all count goes first =
    record {
      counted = count;
      semaphores = omega (arith, goes.semaphores, first.semaphores);
      conditions = omega (arith, goes.conditions, first.conditions);
      carried_first =
          record { more = more ++ first.carried_first.more; splits = first.carried_first.splits ∙ append_assoc carried more first.carried_first.more };
      processes = record {
        more = declared ++ first.processes.more;
        splits = first.processes.splits ∙ ap (λ l. l ++ first.processes.more) goes.processes ∙ append_assoc o.processes declared first.processes.more;
      };
    }

pub count_behind : (o p : Objects) (carried more : List TypeId) (declared : List ℕ) → length carried ≡ o.channels → Goes o more declared p
    → length (carried ++ more) ≡ p.channels
count_behind o p carried more declared count goes =
    let a : p.channels ≡ o.channels + length more = goes.channels in omega (arith, count, a, length-append carried more)

-- ## One type

-- A variable of the type, numbered behind these objects: the numbering goes on, and each part of the value has its kind among all objects.
pub record IsNumbered (forms : Forms) (more : List TypeId) (declared : List ℕ) (t : TypeId) (o : Objects) (r : Numbered Value) : Type 0 where
  pub goes : Goes o more declared r.objects
  pub kinds : (carried : List TypeId) (all : Kinds) → length carried ≡ o.channels → AreFirst r.objects (carried ++ more) all → EachKind forms all t r.is

-- so each element of an array, and each field of a record
record ElementsNumbered (forms : Forms) (more : List TypeId) (declared : List ℕ) (n : ℕ) (t : TypeId) (o : Objects) (r : Numbered Values) : Type 0 where
  goes : Goes o more declared r.objects
  kinds : (carried : List TypeId) (all : Kinds) → length carried ≡ o.channels → AreFirst r.objects (carried ++ more) all
      → (i : ℕ) → i < n → EachKind forms all t (part_at r.is i)

record FieldsNumbered (forms : Forms) (more : List TypeId) (declared : List ℕ) (fields : FieldList) (o : Objects) (r : Numbered Values) : Type 0 where
  goes : Goes o more declared r.objects
  kinds : (carried : List TypeId) (all : Kinds) → length carried ≡ o.channels → AreFirst r.objects (carried ++ more) all
      → (i : ℕ) (f : Text × TypeId) → slice_get fields i ≡ Some f → EachKind forms all f.1 (part_at r.is i)

module _ (forms : Forms) (is_built : IsBuiltUp forms) where
  abbrev pub carried : TypeId → List TypeId
  carried t = carried_before (all_carried forms) t

  abbrev pub carried_of_fields : FieldList → List TypeId
  carried_of_fields fields = fields_carried (all_carried forms) fields

  abbrev pub labelled : TypeId → Labelled
  labelled t = labelled_before (all_labelled forms) t

  carried_formless : (t : TypeId) → form_of forms t ≡ None → carried t ≡ []
  carried_formless t e = built_none (List TypeId) carried_next forms t.place [] (λ (l : List TypeId). l ≡ []) e (λ before. refl) refl

  pub labelled_formless : (t : TypeId) → form_of forms t ≡ None → labelled t ≡ no_process
  labelled_formless t e = built_none Labelled labelled_next forms t.place no_process (λ (l : Labelled). l ≡ no_process) e (λ before. refl) refl

  carried_formed : (t : TypeId) (form : TypeForm) → form_of forms t ≡ Some form → carried t ≡ carried_form (all_carried (take t.place forms)) form
  carried_formed t form e = built_form (List TypeId) carried_next forms t form [] e

  pub labelled_formed : (t : TypeId) (form : TypeForm) → form_of forms t ≡ Some form → labelled t ≡ labelled_form (all_labelled (take t.place forms)) form
  labelled_formed t form e = built_form Labelled labelled_next forms t form no_process e

  part_carried : (t : TypeId) (form : TypeForm) (u : TypeId) → form_of forms t ≡ Some form → u.place < t.place
      → carried_before (all_carried (take t.place forms)) u ≡ carried u
  part_carried t form u e below = built_part (List TypeId) carried_next forms t form u [] e below

  part_labelled : (t : TypeId) (form : TypeForm) (u : TypeId) → form_of forms t ≡ Some form → u.place < t.place
      → labelled_before (all_labelled (take t.place forms)) u ≡ labelled u
  part_labelled t form u e below = built_part Labelled labelled_next forms t form u no_process e below

  carried_fields_same : (t : TypeId) (form : TypeForm) (fields : FieldList) → form_of forms t ≡ Some form → AreBefore t.place fields
      → fields_carried (all_carried (take t.place forms)) fields ≡ carried_of_fields fields
  carried_fields_same t form [] e below = refl
  carried_fields_same t form (f ∷ fields) e below =
      ap₂ (λ (a b : List TypeId). a ++ b) (part_carried t form f.1 e below.0) (carried_fields_same t form fields e below.1)

  labelled_fields_same : (t : TypeId) (form : TypeForm) (fields : FieldList) → form_of forms t ≡ Some form → AreBefore t.place fields → (label : Text)
      → fields_labelled (all_labelled (take t.place forms)) fields label ≡ fields_labelled (all_labelled forms) fields label
  labelled_fields_same t form [] e below label = refl
  labelled_fields_same t form (f ∷ fields) e below label =
      ap₂ (λ (a b : List (ℕ × Text)). a ++ b) (ap (λ (l : Labelled). l (label ++ 46 ∷ f.0)) (part_labelled t form f.1 e below.0))
      (labelled_fields_same t form fields e below.1 label)

  carried_array : (t over element : TypeId) (low high : ℤ) → form_of forms t ≡ Some (Array over low high element)
      → carried t ≡ as_often (extent low high) (carried element)
  carried_array t over element low high e =
      carried_formed t (Array over low high element) e
      ∙ ap (λ (l : List TypeId). as_often (extent low high) l)
      (part_carried t (Array over low high element) element e (is_built.behind t (Array over low high element) e))

  carried_record : (t : TypeId) (fields : FieldList) → form_of forms t ≡ Some (Record fields) → carried t ≡ carried_of_fields fields
  carried_record t fields e =
      carried_formed t (Record fields) e ∙ carried_fields_same t (Record fields) fields e (is_built.behind t (Record fields) e)

  pub labelled_array : (t over element : TypeId) (low high : ℤ) → form_of forms t ≡ Some (Array over low high element) → (label : Text)
      → labelled t label ≡ elements_labelled (extent low high) low (labelled element) label
  labelled_array t over element low high e label =
      ap (λ (l : Labelled). l label) (labelled_formed t (Array over low high element) e)
      ∙ ap (λ (l : Labelled). elements_labelled (extent low high) low l label)
      (part_labelled t (Array over low high element) element e (is_built.behind t (Array over low high element) e))

  pub labelled_record : (t : TypeId) (fields : FieldList) → form_of forms t ≡ Some (Record fields) → (label : Text)
      → labelled t label ≡ fields_labelled (all_labelled forms) fields label
  labelled_record t fields e label =
      ap (λ (l : Labelled). l label) (labelled_formed t (Record fields) e)
      ∙ labelled_fields_same t (Record fields) fields e (is_built.behind t (Record fields) e) label

  -- ## By the parts of types

  abbrev EachNumbered : TypeId → Type 0
  EachNumbered t =
      (monitor : ℕ) (o : Objects) (label : Text) → IsNumbered forms (carried t) (declared_in (labelled t label)) t o (numbering forms is_built t monitor o)

  -- what is made of nothing has no parts but itself
  alone : (all : Kinds) (t : TypeId) (v : Value) → ((over element : TypeId) (low high : ℤ) → form_of forms t ≡ Some (Array over low high element) → ⊥)
      → ((fields : FieldList) → form_of forms t ≡ Some (Record fields) → ⊥) → HasKind forms all t v → EachKind forms all t v
  alone all t v no_array no_record kind path u o leads = by leads refl refl refl
    where
      by : {w x : Option TypeId} {p : List ℕ} {k : ℕ} → IsPath forms w p x k → w ≡ Some t → x ≡ Some u → p ≡ path → HasKind forms all u (part path v)
      by (here w) one two is =
          let same : t ≡ u = same_type t u (sym one ∙ two) in
          subst (λ (q : List ℕ). HasKind forms all u (part q v)) is (subst (λ (y : TypeId). HasKind forms all y v) same kind)
        where
          same_type : (a b : TypeId) → Some a ≡ Some b → a ≡ b
          same_type a b h = cc
      by (into_element s over element x low high i p k form below inner) one two is =
          absurd (no_array over element low high (ap (λ (y : TypeId). form_of forms y) (same_type t s (sym one)) ∙ form))
        where
          same_type : (a b : TypeId) → Some a ≡ Some b → a ≡ b
          same_type a b h = cc
      by (into_field s y x z fields i p k form there inner) one two is =
          absurd (no_record fields (ap (λ (q : TypeId). form_of forms q) (same_type t s (sym one)) ∙ form))
        where
          same_type : (a b : TypeId) → Some a ≡ Some b → a ≡ b
          same_type a b h = cc

  -- ## What is made of nothing

  no_form : {A : Type 0} (t : TypeId) (form : TypeForm) → form_of forms t ≡ None → form_of forms t ≡ Some form → A
  no_form t form none some = absurd (let both : None ≡ Some form = sym none ∙ some in cc)

  number_kind : (all : Kinds) (t : TypeId) (v : Value) → form_of forms t ≡ None → (t ≡ semaphore → (n : ℕ) × (v ≡ ordinal (pos n)) × (n < all.semaphores))
      → (t ≡ condition → (n : ℕ) × (v ≡ ordinal (pos n)) × (n < all.conditions)) → HasKind forms all t v
  number_kind all t v e one two =
      record { semaphore = one; condition = two; channel = λ u form. no_form t (Channel u) e form; process = λ k form. no_form t (Process k) e form }

  not_place : {A : Type 0} (t u : TypeId) (n : ℕ) → t.place ≡ n → (u.place ≡ n → ⊥) → t ≡ u → A
  not_place t u n at other same = absurd (other (sym (ap (λ (x : TypeId). x.place) same) ∙ at))

  -- what the six predeclared types come to, by their places
  record Lone (n : ℕ) (o : Objects) (r : Numbered Value) : Type 0 where
    goes : Goes o [] [] r.objects
    semaphore_is : n ≡ 3 → (r.is ≡ ordinal (pos o.semaphores)) × (r.objects.semaphores ≡ o.semaphores + 1)
    condition_is : n ≡ 4 → (r.is ≡ ordinal (pos (length o.conditions))) × (length r.objects.conditions ≡ length o.conditions + 1)

  no_lone : (n : ℕ) (o : Objects) (v : Value) → (n ≡ 3 → ⊥) → (n ≡ 4 → ⊥) → Lone n o (record { is = v; objects = o })
  no_lone n o v three four = record { goes = goes_nowhere o; semaphore_is = λ e. absurd (three e); condition_is = λ e. absurd (four e) }

  lone : (n monitor : ℕ) (o : Objects) → Lone n o (lone_numbering n monitor o)
  lone zero monitor o = no_lone 0 o (ordinal (pos 0)) (λ e. omega (arith, e)) (λ e. omega (arith, e))
  lone (suc zero) monitor o = no_lone 1 o (ordinal (pos 0)) (λ e. omega (arith, e)) (λ e. omega (arith, e))
  lone (suc (suc zero)) monitor o = no_lone 2 o (ordinal (pos 0)) (λ e. omega (arith, e)) (λ e. omega (arith, e))
  lone (suc (suc (suc zero))) monitor o =
      record {
        goes = record { channels = omega arith; processes = sym (append-nil o.processes); semaphores = omega arith; conditions = omega arith };
        semaphore_is = λ e. (refl, refl);
        condition_is = λ e. absurd (omega (arith, e));
      }
  lone (suc (suc (suc (suc zero)))) monitor o =
      record {
        goes = record {
          channels = omega arith;
          processes = sym (append-nil o.processes);
          semaphores = omega arith;
          conditions = omega (arith, length-append o.conditions (monitor ∷ []));
        };
        semaphore_is = λ e. absurd (omega (arith, e));
        condition_is = λ e. (refl, length-append o.conditions (monitor ∷ []));
      }
  lone (suc (suc (suc (suc (suc zero))))) monitor o = no_lone 5 o (ordinal (pos 0)) (λ e. omega (arith, e)) (λ e. omega (arith, e))
  lone (suc (suc (suc (suc (suc (suc n)))))) monitor o =
      no_lone (suc (suc (suc (suc (suc (suc n)))))) o (ordinal (pos 0)) (λ e. omega (arith, e)) (λ e. omega (arith, e))

  -- with what its channels carry, its processes and its numbering, which are the same
  as_numbered : (t : TypeId) (o : Objects) (ts us : List TypeId) (ns ms : List ℕ) (r q : Numbered Value) → us ≡ ts → ms ≡ ns → q ≡ r
      → IsNumbered forms ts ns t o r → IsNumbered forms us ms t o q
  as_numbered t o ts us ns ms r q one two three h =
      subst (λ (x : List TypeId). IsNumbered forms x ms t o q) (sym one)
      (subst (λ (x : List ℕ). IsNumbered forms ts x t o q) (sym two) (subst (λ (x : Numbered Value). IsNumbered forms ts ns t o x) (sym three) h))

  formless : (t : TypeId) → form_of forms t ≡ None → EachNumbered t
  formless t e monitor o label =
      let r = lone_numbering t.place monitor o in
      let at = lone t.place monitor o in
      as_numbered t o [] _ [] _ r _ (carried_formless t e) (ap (λ (l : Labelled). declared_in (l label)) (labelled_formless t e))
      (ap (λ (f : Numbering). f monitor o) (numbering_formless forms is_built t e))
      (record {
        goes = at.goes;
        kinds = λ before all count first.
            alone all t r.is (λ over element low high form. no_form t (Array over low high element) e form) (λ fields form. no_form t (Record fields) e form)
            (number_kind all t r.is e
            (λ same. (let its = at.semaphore_is (ap (λ (x : TypeId). x.place) same) in let more = its.1 in
            (o.semaphores, its.0, omega (arith, more, first.semaphores))))
            (λ same. (let its = at.condition_is (ap (λ (x : TypeId). x.place) same) in let more = its.1 in
            (length o.conditions, its.0, omega (arith, more, first.conditions)))));
      })

  -- ## What is made of others

  elements : (n : ℕ) (t : TypeId) (low : ℤ) → EachNumbered t → (monitor : ℕ) (o : Objects) (label : Text)
      → ElementsNumbered forms (as_often n (carried t)) (declared_in (elements_labelled n low (labelled t) label)) n t o
      (numbered_copies n (numbering forms is_built t) monitor o)
  elements zero t low each monitor o label =
      record { goes = goes_nowhere o; kinds = λ before all count first i below. absurd (omega (arith, below)) }
  elements (suc n) t low each monitor o label =
      let v = numbering forms is_built t monitor o in
      let one = each monitor o (with_index label low) in
      let rest = elements n t (low +ℤ pos 1) each monitor v.objects label in
      let vs = numbered_copies n (numbering forms is_built t) monitor v.objects in
      let ts = carried t in
      let us = as_often n (carried t) in
      let ns = declared_in (labelled t (with_index label low)) in
      let ms = declared_in (elements_labelled n (low +ℤ pos 1) (labelled t) label) in
      record {
        goes = subst (λ (l : List ℕ). Goes o (ts ++ us) l vs.objects)
            (sym (map-append (λ (p : ℕ × Text). p.0) (labelled t (with_index label low)) (elements_labelled n (low +ℤ pos 1) (labelled t) label)))
            (goes_on o v.objects vs.objects ts us ns ms one.goes rest.goes);
        kinds = λ before all count first.
            (let behind : AreFirst vs.objects ((before ++ ts) ++ us) all =
            subst (λ (l : List TypeId). AreFirst vs.objects l all) (sym (append_assoc before ts us)) first in
            let count_then = count_behind o v.objects before ts ns count one.goes in
            let first_then = first_before v.objects vs.objects (before ++ ts) us ms all count_then rest.goes behind in
            at_element n t v.is vs.is all (one.kinds before all count first_then) (rest.kinds (before ++ ts) all count_then behind));
      }
    where
      at_element : (n : ℕ) (t : TypeId) (v : Value) (vs : Values) (all : Kinds) → EachKind forms all t v
          → ((i : ℕ) → i < n → EachKind forms all t (part_at vs i))
          → (i : ℕ) → i < suc n → EachKind forms all t (part_at (more_values v vs) i)
      at_element n t v vs all one rest zero below = one
      at_element n t v vs all one rest (suc i) below = rest i (omega (arith, below))

  in_fields : (m : ℕ) (fields : FieldList) → AreBefore m fields → ((u : TypeId) → u.place < m → EachNumbered u) → (monitor : ℕ) (o : Objects) (label : Text)
      → FieldsNumbered forms (carried_of_fields fields) (declared_in (fields_labelled (all_labelled forms) fields label)) fields o
      (numbered_fields (all_numberings forms) fields monitor o)
  in_fields m [] below each monitor o label =
      record { goes = goes_nowhere o; kinds = λ before all count first i f there. absurd (none i f there) }
    where
      none : (i : ℕ) (f : Text × TypeId) → slice_get [] i ≡ Some f → ⊥
      none i f there = cc
  in_fields m (f ∷ fields) below each monitor o label =
      let v = numbering forms is_built f.1 monitor o in
      let one = each f.1 below.0 monitor o (label ++ 46 ∷ f.0) in
      let rest = in_fields m fields below.1 each monitor v.objects label in
      let vs = numbered_fields (all_numberings forms) fields monitor v.objects in
      let ts = carried f.1 in
      let us = carried_of_fields fields in
      let ns = declared_in (labelled f.1 (label ++ 46 ∷ f.0)) in
      let ms = declared_in (fields_labelled (all_labelled forms) fields label) in
      record {
        goes = subst (λ (l : List ℕ). Goes o (ts ++ us) l vs.objects)
            (sym (map-append (λ (p : ℕ × Text). p.0) (labelled f.1 (label ++ 46 ∷ f.0)) (fields_labelled (all_labelled forms) fields label)))
            (goes_on o v.objects vs.objects ts us ns ms one.goes rest.goes);
        kinds = λ before all count first.
            (let behind : AreFirst vs.objects ((before ++ ts) ++ us) all =
            subst (λ (l : List TypeId). AreFirst vs.objects l all) (sym (append_assoc before ts us)) first in
            let count_then = count_behind o v.objects before ts ns count one.goes in
            let first_then = first_before v.objects vs.objects (before ++ ts) us ms all count_then rest.goes behind in
            at_field f fields v.is vs.is all (one.kinds before all count first_then) (rest.kinds (before ++ ts) all count_then behind));
      }
    where
      at_field : (f : Text × TypeId) (fields : FieldList) (v : Value) (vs : Values) (all : Kinds) → EachKind forms all f.1 v
          → ((i : ℕ) (g : Text × TypeId) → slice_get fields i ≡ Some g → EachKind forms all g.1 (part_at vs i))
          → (i : ℕ) (g : Text × TypeId) → slice_get (f ∷ fields) i ≡ Some g → EachKind forms all g.1 (part_at (more_values v vs) i)
      at_field f fields v vs all one rest zero g there = let same : f ≡ g = cc in subst (λ (x : Text × TypeId). EachKind forms all x.1 v) same one
      at_field f fields v vs all one rest (suc i) g there = rest i g there

  no_kind : (all : Kinds) (t : TypeId) (form : TypeForm) (v : Value) → form_of forms t ≡ Some form → ((u : TypeId) → form ≡ Channel u → ⊥)
      → ((k : ℕ) → form ≡ Process k → ⊥)
      → HasKind forms all t v
  no_kind all t form v e channel process =
      record {
        semaphore = λ same. no_form t form (predeclared_none forms is_built.predeclared t (by_place t semaphore same (omega arith))) e;
        condition = λ same. no_form t form (predeclared_none forms is_built.predeclared t (by_place t condition same (omega arith))) e;
        channel = λ u other. absurd (channel u (same_form form (Channel u) (sym e ∙ other)));
        process = λ k other. absurd (process k (same_form form (Process k) (sym e ∙ other)));
      }
    where
      by_place : (t u : TypeId) → t ≡ u → u.place < 6 → t.place < 6
      by_place t u same below = subst (λ (x : TypeId). x.place < 6) (sym same) below

      same_form : (a b : TypeForm) → Some a ≡ Some b → a ≡ b
      same_form a b h = cc

  -- the parts of an array are those of its elements, and the parts of a record those of its fields
  through_elements : (all : Kinds) (t over element : TypeId) (low high : ℤ) (vs : Values) → form_of forms t ≡ Some (Array over low high element)
      → ((i : ℕ) → i < extent low high → EachKind forms all element (part_at vs i)) → EachKind forms all t (compound vs)
  through_elements all t over element low high vs e each path u o leads = by leads refl refl
    where
      same_type : (a b : TypeId) → Some a ≡ Some b → a ≡ b
      same_type a b h = cc

      by : {w x : Option TypeId} {p : List ℕ} {k : ℕ} → IsPath forms w p x k → w ≡ Some t → x ≡ Some u → HasKind forms all u (part p (compound vs))
      by (here w) one two =
          let same : t ≡ u = same_type t u (sym one ∙ two) in
          subst (λ (y : TypeId). HasKind forms all y (compound vs)) same
          (no_kind all t (Array over low high element) (compound vs) e (λ v h. cc) (λ k h. cc))
      by (into_element s over' element' x low' high' i p k form below inner) one two =
          let at : form_of forms t ≡ Some (Array over' low' high' element') = ap (λ (y : TypeId). form_of forms y) (same_type t s (sym one)) ∙ form in
          let both : Some (Array over' low' high' element') ≡ Some (Array over low high element) = sym at ∙ e in
          let its : element' ≡ element = array_element both in
          let size : extent low' high' ≡ extent low high = array_size both in
          each i (subst (λ (n : ℕ). i < n) size below) p u k
          (subst (λ (y : TypeId). IsPath forms (Some y) p (Some u) k) its (subst (λ (y : Option TypeId). IsPath forms (Some element') p y k) two inner))
        where
          array_element : {a b c d : TypeId} {l m x y : ℤ} → Some (Array a l m c) ≡ Some (Array b x y d) → c ≡ d
          array_element h = cc

          array_size : {a b c d : TypeId} {l m x y : ℤ} → Some (Array a l m c) ≡ Some (Array b x y d) → extent l m ≡ extent x y
          array_size h = cc
      by (into_field s y x z fields i p k form there inner) one two =
          let at : form_of forms t ≡ Some (Record fields) = ap (λ (q : TypeId). form_of forms q) (same_type t s (sym one)) ∙ form in
          absurd (let both : Some (Record fields) ≡ Some (Array over low high element) = sym at ∙ e in cc)

  through_fields : (all : Kinds) (t : TypeId) (fields : FieldList) (vs : Values) → form_of forms t ≡ Some (Record fields)
      → ((i : ℕ) (f : Text × TypeId) → slice_get fields i ≡ Some f → EachKind forms all f.1 (part_at vs i)) → EachKind forms all t (compound vs)
  through_fields all t fields vs e each path u o leads = by leads refl refl
    where
      same_type : (a b : TypeId) → Some a ≡ Some b → a ≡ b
      same_type a b h = cc

      same_fields : (a b : FieldList) → Some (Record a) ≡ Some (Record b) → a ≡ b
      same_fields a b h = cc

      by : {w x : Option TypeId} {p : List ℕ} {k : ℕ} → IsPath forms w p x k → w ≡ Some t → x ≡ Some u → HasKind forms all u (part p (compound vs))
      by (here w) one two =
          let same : t ≡ u = same_type t u (sym one ∙ two) in
          subst (λ (y : TypeId). HasKind forms all y (compound vs)) same
          (no_kind all t (Record fields) (compound vs) e (λ v h. cc) (λ k h. cc))
      by (into_element s over element x low high i p k form below inner) one two =
          let at : form_of forms t ≡ Some (Array over low high element) = ap (λ (y : TypeId). form_of forms y) (same_type t s (sym one)) ∙ form in
          absurd (let both : Some (Array over low high element) ≡ Some (Record fields) = sym at ∙ e in cc)
      by (into_field s y x z fields' i p k form there inner) one two =
          let at : form_of forms t ≡ Some (Record fields') = ap (λ (q : TypeId). form_of forms q) (same_type t s (sym one)) ∙ form in
          let its : fields' ≡ fields = same_fields fields' fields (sym at ∙ e) in
          each i (z, y) (ap (λ (fs : FieldList). slice_get fs i) (sym its) ∙ there) p u k (subst (λ (q : Option TypeId). IsPath forms (Some y) p q k) two inner)

  formed : (t : TypeId) (form : TypeForm) → form_of forms t ≡ Some form → IsBefore t.place form → ((u : TypeId) → u.place < t.place → EachNumbered u)
      → EachNumbered t
  formed t (Channel u) e below each monitor o label =
      let r : Numbered Value = record { is = ordinal (pos o.channels); objects = record o { channels = o.channels + 1 } } in
      as_numbered t o (u ∷ []) _ [] _ r _ (carried_formed t (Channel u) e) (ap (λ (l : Labelled). declared_in (l label)) (labelled_formed t (Channel u) e))
      (ap (λ (f : Numbering). f monitor o) (numbering_formed forms is_built t (Channel u) e))
      (record {
        goes = record { channels = refl; processes = sym (append-nil o.processes); semaphores = omega arith; conditions = omega arith };
        kinds = λ before all count first.
            alone all t r.is (λ over element low high form. absurd (let both : Some (Channel u) ≡ Some (Array over low high element) = sym e ∙ form in cc))
            (λ fields form. absurd (let both : Some (Channel u) ≡ Some (Record fields) = sym e ∙ form in cc))
            (record {
              semaphore = λ same. no_form t (Channel u) (predeclared_none forms is_built.predeclared t (by_place t semaphore same (omega arith))) e;
              condition = λ same. no_form t (Channel u) (predeclared_none forms is_built.predeclared t (by_place t condition same (omega arith))) e;
              channel = λ v other. (o.channels, refl, carries before all count first ∙ ap Some (same_channel (sym e ∙ other)));
              process = λ k other. absurd (let both : Some (Channel u) ≡ Some (Process k) = sym e ∙ other in cc);
            });
      })
    where
      by_place : (t u : TypeId) → t ≡ u → u.place < 6 → t.place < 6
      by_place t u same below = subst (λ (x : TypeId). x.place < 6) (sym same) below

      same_channel : {a b : TypeId} → Some (Channel a) ≡ Some (Channel b) → a ≡ b
      same_channel h = cc

      carries : (before : List TypeId) (all : Kinds) → length before ≡ o.channels → AreFirst (record o { channels = o.channels + 1 }) (before ++ u ∷ []) all
          → slice_get all.carried o.channels ≡ Some u
      carries before all count first =
          ap (λ (l : List TypeId). slice_get l o.channels) first.carried_first.splits
          ∙ get_left (before ++ u ∷ []) first.carried_first.more o.channels u (get_right_at before (u ∷ []) o.channels 0 (omega (arith, count)))
  formed t (Process n) e below each monitor o label =
      let r : Numbered Value = record { is = ordinal (pos (length o.processes + 1)); objects = record o { processes = o.processes ++ n ∷ [] } } in
      as_numbered t o [] _ (n ∷ []) _ r _ (carried_formed t (Process n) e) (ap (λ (l : Labelled). declared_in (l label)) (labelled_formed t (Process n) e))
      (ap (λ (f : Numbering). f monitor o) (numbering_formed forms is_built t (Process n) e))
      (record {
        goes = record { channels = omega arith; processes = refl; semaphores = omega arith; conditions = omega arith };
        kinds = λ before all count first.
            alone all t r.is (λ over element low high form. absurd (let both : Some (Process n) ≡ Some (Array over low high element) = sym e ∙ form in cc))
            (λ fields form. absurd (let both : Some (Process n) ≡ Some (Record fields) = sym e ∙ form in cc))
            (record {
              semaphore = λ same. no_form t (Process n) (predeclared_none forms is_built.predeclared t (by_place t semaphore same (omega arith))) e;
              condition = λ same. no_form t (Process n) (predeclared_none forms is_built.predeclared t (by_place t condition same (omega arith))) e;
              channel = λ u other. absurd (let both : Some (Process n) ≡ Some (Channel u) = sym e ∙ other in cc);
              process = λ k other. (
                length o.processes + 1,
                refl,
                omega arith,
                declares all first ∙ ap Some (same_process (sym e ∙ other)),
              );
            });
      })
    where
      by_place : (t u : TypeId) → t ≡ u → u.place < 6 → t.place < 6
      by_place t u same below = subst (λ (x : TypeId). x.place < 6) (sym same) below

      same_process : {a b : ℕ} → Some (Process a) ≡ Some (Process b) → a ≡ b
      same_process h = cc

      declares : (all : Kinds) {carried : List TypeId} → AreFirst (record o { processes = o.processes ++ n ∷ [] }) carried all
          → slice_get all.processes (length o.processes + 1 - 1) ≡ Some n
      declares all first =
          ap (λ (k : ℕ). slice_get all.processes k) (omega arith) ∙ ap (λ (l : List ℕ). slice_get l (length o.processes)) first.processes.splits
          ∙ get_left (o.processes ++ n ∷ []) first.processes.more (length o.processes) n
          (get_right_at o.processes (n ∷ []) (length o.processes) 0 (omega arith))
  formed t (Array over low high element) e below each monitor o label =
      let vs = numbered_copies (extent low high) (numbering forms is_built element) monitor o in
      let inner = elements (extent low high) element low (each element below) monitor o label in
      as_numbered t o (as_often (extent low high) (carried element)) _ (declared_in (elements_labelled (extent low high) low (labelled element) label)) _
      (record { is = compound vs.is; objects = vs.objects }) _ (carried_array t over element low high e)
      (ap declared_in (labelled_array t over element low high e label))
      (array_numbering forms is_built t over element low high e monitor o)
      (record {
        goes = inner.goes;
        kinds = λ before all count first. through_elements all t over element low high vs.is e
            (inner.kinds before all count first);
      })
  formed t (Record fields) e below each monitor o label =
      let vs = numbered_fields (all_numberings forms) fields monitor o in
      let inner = in_fields t.place fields below each monitor o label in
      as_numbered t o (carried_of_fields fields) _ (declared_in (fields_labelled (all_labelled forms) fields label)) _
      (record { is = compound vs.is; objects = vs.objects }) _ (carried_record t fields e) (ap declared_in (labelled_record t fields e label))
      (record_numbering forms is_built t fields e monitor o)
      (record { goes = inner.goes; kinds = λ before all count first. through_fields all t fields vs.is e (inner.kinds before all count first) })

  -- the first value of a variable of each type, numbered behind any objects
  pub numbered : (t : TypeId) → EachNumbered t
  numbered = by_types forms is_built EachNumbered formless formed
