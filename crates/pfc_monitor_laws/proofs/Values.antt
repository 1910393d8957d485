-- The conditions in the first value of a variable: each is one of the monitor whose number is told where the value is numbered.
use Rattle.std.proofs.Common.{◌≡◌, ℕ, zero, suc, ◌+◌, ◌<◌, ℤ, pos, List, [], ◌∷◌, ◌++◌, length, slice_get, Option, Some, None, refl, sym, ap, ◌∙◌, subst, arith}
use Rattle.std.proofs.lemmas.List.{append-nil, append_assoc}
use Rattle.pfc_tree.specs.Symbols.{Text}
use Rattle.pfc_types.specs.Types.{Forms, form_of, extent, condition}
use Rattle.pfc_types.specs.Fields.{FieldList}
use Rattle.pfc_types.specs.Growing.{Begins}
use Rattle.pfc_types.specs.declared.types.TypeId.{TypeId}
use Rattle.pfc_types.specs.declared.types.TypeForm.{TypeForm}
use Rattle.pfc_types.specs.declared.types.TypeForm.TheVariants.{Channel, Array, Record, Process}
use Rattle.pfc_semantics.specs.Values.{Value, Values, ordinal, compound, more_values, part, part_at}
use Rattle.pfc_semantics.specs.Objects.{Objects, Numbered, Numbering, numbered_copies, numbered_fields, all_numberings}
use Rattle.pfc_cells.specs.Shapes.{IsPath, here, into_element, into_field}
use Rattle.pfc_type_laws.specs.Tables.{AreBefore, IsBefore, IsBuiltUp}
use Rattle.pfc_object_laws.proofs.Tables.{by_types, predeclared_none}
use Rattle.pfc_monitor_laws.specs.Owners.{IsOneOf}
use Rattle.pfc_object_laws.proofs.Lists.{get_left, get_right_at}
use Rattle.pfc_object_laws.proofs.Values.{lone_numbering, numbering, numbering_formless, numbering_formed, array_numbering, record_numbering}

-- ## Conditions that are numbered

-- so it is where conditions of others come behind
pub still_one : (conditions later : List ℕ) (monitor : ℕ) (v : Value) → Begins conditions later → IsOneOf conditions monitor v → IsOneOf later monitor v
still_one conditions later monitor v b (n, is, at) =
    (n, is, ap (λ (l : List ℕ). slice_get l n) b.splits ∙ get_left conditions b.more n monitor at)

pub begins_same : (xs : List ℕ) → Begins xs xs
begins_same xs = record { more = []; splits = sym (append-nil xs) }

pub begins_more : (xs ys zs : List ℕ) → Begins xs ys → Begins ys zs → Begins xs zs
begins_more xs ys zs b c =
    record { more = b.more ++ c.more; splits = c.splits ∙ ap (λ (l : List ℕ). l ++ c.more) b.splits ∙ append_assoc xs b.more c.more }

module _ (forms : Forms) (is_built : IsBuiltUp forms) where
  -- each part of the value that is a condition is one of the monitor
  abbrev pub AreOneOf : List ℕ → ℕ → Option TypeId → Value → Type 0
  AreOneOf conditions monitor t v = (path : List ℕ) (o : ℕ) → IsPath forms t path (Some condition) o → IsOneOf conditions monitor (part path v)

  -- a variable of a type, numbered behind these objects
  pub record IsOwned (monitor : ℕ) (t : TypeId) (before : Objects) (r : Numbered Value) : Type 0 where
    pub grows : Begins before.conditions r.objects.conditions
    pub owned : AreOneOf r.objects.conditions monitor (Some t) r.is

  -- so each element of an array, and each field of a record
  record AreElements (monitor n : ℕ) (t : TypeId) (before : Objects) (r : Numbered Values) : Type 0 where
    grows : Begins before.conditions r.objects.conditions
    owned : (i : ℕ) → i < n → AreOneOf r.objects.conditions monitor (Some t) (part_at r.is i)

  record AreFields (monitor : ℕ) (fields : FieldList) (before : Objects) (r : Numbered Values) : Type 0 where
    grows : Begins before.conditions r.objects.conditions
    owned : (i : ℕ) (f : Text × TypeId) → slice_get fields i ≡ Some f → AreOneOf r.objects.conditions monitor (Some f.1) (part_at r.is i)

  abbrev EachOwned : TypeId → Type 0
  EachOwned t = (monitor : ℕ) (o : Objects) → IsOwned monitor t o (numbering forms is_built t monitor o)

  pub later_owned : (conditions later : List ℕ) (monitor : ℕ) (t : Option TypeId) (v : Value) → Begins conditions later → AreOneOf conditions monitor t v
      → AreOneOf later monitor t v
  later_owned conditions later monitor t v b owned path o leads = still_one conditions later monitor (part path v) b (owned path o leads)

  -- ## What is made of nothing

  same_type : (a b : TypeId) → Some a ≡ Some b → a ≡ b
  same_type a b h = cc

  -- what has no parts is a condition itself, or has none
  alone : (conditions : List ℕ) (monitor : ℕ) (t : TypeId) (v : Value)
      → ((over element : TypeId) (low high : ℤ) → form_of forms t ≡ Some (Array over low high element) → ⊥)
      → ((fields : FieldList) → form_of forms t ≡ Some (Record fields) → ⊥) → (t ≡ condition → IsOneOf conditions monitor v)
      → AreOneOf conditions monitor (Some t) v
  alone conditions monitor t v no_array no_record its path o leads = by leads refl refl refl
    where
      by : {w x : Option TypeId} {p : List ℕ} {k : ℕ} → IsPath forms w p x k → w ≡ Some t → x ≡ Some condition → p ≡ path
          → IsOneOf conditions monitor (part path v)
      by (here w) one two is =
          subst (λ (q : List ℕ). IsOneOf conditions monitor (part q v)) is (its (same_type t condition (sym one ∙ two)))
      by (into_element s over element x low high i p k form below inner) one two is =
          absurd (no_array over element low high (ap (λ (y : TypeId). form_of forms y) (same_type t s (sym one)) ∙ form))
      by (into_field s y x z fields i p k form there inner) one two is =
          absurd (no_record fields (ap (λ (q : TypeId). form_of forms q) (same_type t s (sym one)) ∙ form))

  no_form : {A : Type 0} (t : TypeId) (form : TypeForm) → form_of forms t ≡ None → form_of forms t ≡ Some form → A
  no_form t form none some = absurd (let both : None ≡ Some form = sym none ∙ some in cc)

  -- what is made of something is no condition
  formed_no_condition : {A : Type 0} (t : TypeId) (form : TypeForm) → form_of forms t ≡ Some form → t ≡ condition → A
  formed_no_condition t form e same =
      no_form t form (predeclared_none forms is_built.predeclared t (subst (λ (x : TypeId). x.place < 6) (sym same) (omega arith))) e

  -- what the six predeclared types come to, by their places
  record Lone (n monitor : ℕ) (o : Objects) (r : Numbered Value) : Type 0 where
    grows : Begins o.conditions r.objects.conditions
    its : n ≡ 4 → IsOneOf r.objects.conditions monitor r.is

  no_lone : (n monitor : ℕ) (o p : Objects) (v : Value) → p.conditions ≡ o.conditions → (n ≡ 4 → ⊥) → Lone n monitor o (record { is = v; objects = p })
  no_lone n monitor o p v same other =
      record { grows = subst (λ (l : List ℕ). Begins o.conditions l) (sym same) (begins_same o.conditions); its = λ e. absurd (other e) }

  lone : (n monitor : ℕ) (o : Objects) → Lone n monitor o (lone_numbering n monitor o)
  lone zero monitor o = no_lone 0 monitor o o (ordinal (pos 0)) refl (λ e. omega (arith, e))
  lone (suc zero) monitor o = no_lone 1 monitor o o (ordinal (pos 0)) refl (λ e. omega (arith, e))
  lone (suc (suc zero)) monitor o = no_lone 2 monitor o o (ordinal (pos 0)) refl (λ e. omega (arith, e))
  lone (suc (suc (suc zero))) monitor o =
      no_lone 3 monitor o (record o { semaphores = o.semaphores + 1 }) (ordinal (pos o.semaphores)) refl (λ e. omega (arith, e))
  lone (suc (suc (suc (suc zero)))) monitor o =
      record {
        grows = record { more = monitor ∷ []; splits = refl };
        its = λ e. (length o.conditions, refl, get_right_at o.conditions (monitor ∷ []) (length o.conditions) 0 (omega arith));
      }
  lone (suc (suc (suc (suc (suc zero))))) monitor o = no_lone 5 monitor o o (ordinal (pos 0)) refl (λ e. omega (arith, e))
  lone (suc (suc (suc (suc (suc (suc n)))))) monitor o =
      no_lone (suc (suc (suc (suc (suc (suc n)))))) monitor o o (ordinal (pos 0)) refl (λ e. omega (arith, e))

  -- with its numbering, which is the same
  as_owned : (monitor : ℕ) (t : TypeId) (o : Objects) (r q : Numbered Value) → q ≡ r → IsOwned monitor t o r → IsOwned monitor t o q
  as_owned monitor t o r q same h = subst (λ (x : Numbered Value). IsOwned monitor t o x) (sym same) h

  formless : (t : TypeId) → form_of forms t ≡ None → EachOwned t
  formless t e monitor o =
      let r = lone_numbering t.place monitor o in
      let at = lone t.place monitor o in
      as_owned monitor t o r _ (ap (λ (f : Numbering). f monitor o) (numbering_formless forms is_built t e))
      (record {
        grows = at.grows;
        owned = alone r.objects.conditions monitor t r.is (λ over element low high form. no_form t (Array over low high element) e form)
            (λ fields form. no_form t (Record fields) e form) (λ same. at.its (ap (λ (x : TypeId). x.place) same));
      })

  -- ## What is made of others

  elements : (n : ℕ) (t : TypeId) → EachOwned t → (monitor : ℕ) (o : Objects)
      → AreElements monitor n t o (numbered_copies n (numbering forms is_built t) monitor o)
  elements zero t each monitor o = record { grows = begins_same o.conditions; owned = λ i below. absurd (omega (arith, below)) }
  elements (suc n) t each monitor o =
      let v = numbering forms is_built t monitor o in
      let one = each monitor o in
      let rest = elements n t each monitor v.objects in
      let vs = numbered_copies n (numbering forms is_built t) monitor v.objects in
      record {
        grows = begins_more o.conditions v.objects.conditions vs.objects.conditions one.grows rest.grows;
        owned = at_element vs.objects.conditions n v.is vs.is
            (later_owned v.objects.conditions vs.objects.conditions monitor (Some t) v.is rest.grows one.owned) rest.owned;
      }
    where
      at_element : (conditions : List ℕ) (n : ℕ) (v : Value) (vs : Values) → AreOneOf conditions monitor (Some t) v
          → ((i : ℕ) → i < n → AreOneOf conditions monitor (Some t) (part_at vs i))
          → (i : ℕ) → i < suc n → AreOneOf conditions monitor (Some t) (part_at (more_values v vs) i)
      at_element conditions n v vs one rest zero below = one
      at_element conditions n v vs one rest (suc i) below = rest i (omega (arith, below))

  in_fields : (m : ℕ) (fields : FieldList) → AreBefore m fields → ((u : TypeId) → u.place < m → EachOwned u) → (monitor : ℕ) (o : Objects)
      → AreFields monitor fields o (numbered_fields (all_numberings forms) fields monitor o)
  in_fields m [] below each monitor o = record { grows = begins_same o.conditions; owned = λ i f there. absurd (none i f there) }
    where
      none : (i : ℕ) (f : Text × TypeId) → slice_get [] i ≡ Some f → ⊥
      none i f there = cc
  in_fields m (f ∷ fields) below each monitor o =
      let v = numbering forms is_built f.1 monitor o in
      let one = each f.1 below.0 monitor o in
      let rest = in_fields m fields below.1 each monitor v.objects in
      let vs = numbered_fields (all_numberings forms) fields monitor v.objects in
      record {
        grows = begins_more o.conditions v.objects.conditions vs.objects.conditions one.grows rest.grows;
        owned = at_field vs.objects.conditions f fields v.is vs.is
            (later_owned v.objects.conditions vs.objects.conditions monitor (Some f.1) v.is rest.grows one.owned) rest.owned;
      }
    where
      at_field : (conditions : List ℕ) (f : Text × TypeId) (fields : FieldList) (v : Value) (vs : Values) → AreOneOf conditions monitor (Some f.1) v
          → ((i : ℕ) (g : Text × TypeId) → slice_get fields i ≡ Some g → AreOneOf conditions monitor (Some g.1) (part_at vs i))
          → (i : ℕ) (g : Text × TypeId) → slice_get (f ∷ fields) i ≡ Some g → AreOneOf conditions monitor (Some g.1) (part_at (more_values v vs) i)
      at_field conditions f fields v vs one rest zero g there =
          let same : f ≡ g = cc in subst (λ (x : Text × TypeId). AreOneOf conditions monitor (Some x.1) v) same one
      at_field conditions f fields v vs one rest (suc i) g there = rest i g there

  -- the parts of an array are those of its elements, and the parts of a record those of its fields
  through_elements : (conditions : List ℕ) (monitor : ℕ) (t over element : TypeId) (low high : ℤ) (vs : Values)
      → form_of forms t ≡ Some (Array over low high element)
      → ((i : ℕ) → i < extent low high → AreOneOf conditions monitor (Some element) (part_at vs i)) → AreOneOf conditions monitor (Some t) (compound vs)
  through_elements conditions monitor t over element low high vs e each path o leads = by leads refl refl
    where
      by : {w x : Option TypeId} {p : List ℕ} {k : ℕ} → IsPath forms w p x k → w ≡ Some t → x ≡ Some condition
          → IsOneOf conditions monitor (part p (compound vs))
      by (here w) one two = formed_no_condition t (Array over low high element) e (same_type t condition (sym one ∙ two))
      by (into_element s over' element' x low' high' i p k form below inner) one two =
          let at : form_of forms t ≡ Some (Array over' low' high' element') = ap (λ (y : TypeId). form_of forms y) (same_type t s (sym one)) ∙ form in
          let both : Some (Array over' low' high' element') ≡ Some (Array over low high element) = sym at ∙ e in
          let its : element' ≡ element = array_element both in
          let size : extent low' high' ≡ extent low high = array_size both in
          each i (subst (λ (n : ℕ). i < n) size below) p k
          (subst (λ (y : TypeId). IsPath forms (Some y) p (Some condition) k) its
          (subst (λ (y : Option TypeId). IsPath forms (Some element') p y k) two inner))
        where
          array_element : {a b c d : TypeId} {l m x y : ℤ} → Some (Array a l m c) ≡ Some (Array b x y d) → c ≡ d
          array_element h = cc

          array_size : {a b c d : TypeId} {l m x y : ℤ} → Some (Array a l m c) ≡ Some (Array b x y d) → extent l m ≡ extent x y
          array_size h = cc
      by (into_field s y x z fields i p k form there inner) one two =
          let at : form_of forms t ≡ Some (Record fields) = ap (λ (q : TypeId). form_of forms q) (same_type t s (sym one)) ∙ form in
          absurd (let both : Some (Record fields) ≡ Some (Array over low high element) = sym at ∙ e in cc)

  through_fields : (conditions : List ℕ) (monitor : ℕ) (t : TypeId) (fields : FieldList) (vs : Values) → form_of forms t ≡ Some (Record fields)
      → ((i : ℕ) (f : Text × TypeId) → slice_get fields i ≡ Some f → AreOneOf conditions monitor (Some f.1) (part_at vs i))
      → AreOneOf conditions monitor (Some t) (compound vs)
  through_fields conditions monitor t fields vs e each path o leads = by leads refl refl
    where
      same_fields : (a b : FieldList) → Some (Record a) ≡ Some (Record b) → a ≡ b
      same_fields a b h = cc

      by : {w x : Option TypeId} {p : List ℕ} {k : ℕ} → IsPath forms w p x k → w ≡ Some t → x ≡ Some condition
          → IsOneOf conditions monitor (part p (compound vs))
      by (here w) one two = formed_no_condition t (Record fields) e (same_type t condition (sym one ∙ two))
      by (into_element s over element x low high i p k form below inner) one two =
          let at : form_of forms t ≡ Some (Array over low high element) = ap (λ (y : TypeId). form_of forms y) (same_type t s (sym one)) ∙ form in
          absurd (let both : Some (Array over low high element) ≡ Some (Record fields) = sym at ∙ e in cc)
      by (into_field s y x z fields' i p k form there inner) one two =
          let at : form_of forms t ≡ Some (Record fields') = ap (λ (q : TypeId). form_of forms q) (same_type t s (sym one)) ∙ form in
          let its : fields' ≡ fields = same_fields fields' fields (sym at ∙ e) in
          each i (z, y) (ap (λ (fs : FieldList). slice_get fs i) (sym its) ∙ there) p k
          (subst (λ (q : Option TypeId). IsPath forms (Some y) p q k) two inner)

  formed : (t : TypeId) (form : TypeForm) → form_of forms t ≡ Some form → IsBefore t.place form → ((u : TypeId) → u.place < t.place → EachOwned u)
      → EachOwned t
  formed t (Channel u) e below each monitor o =
      let r : Numbered Value = record { is = ordinal (pos o.channels); objects = record o { channels = o.channels + 1 } } in
      as_owned monitor t o r _ (ap (λ (f : Numbering). f monitor o) (numbering_formed forms is_built t (Channel u) e))
      (record {
        grows = begins_same o.conditions;
        owned = alone o.conditions monitor t r.is
            (λ over element low high form. absurd (let both : Some (Channel u) ≡ Some (Array over low high element) = sym e ∙ form in cc))
            (λ fields form. absurd (let both : Some (Channel u) ≡ Some (Record fields) = sym e ∙ form in cc)) (formed_no_condition t (Channel u) e);
      })
  formed t (Process n) e below each monitor o =
      let r : Numbered Value = record { is = ordinal (pos (length o.processes + 1)); objects = record o { processes = o.processes ++ n ∷ [] } } in
      as_owned monitor t o r _ (ap (λ (f : Numbering). f monitor o) (numbering_formed forms is_built t (Process n) e))
      (record {
        grows = begins_same o.conditions;
        owned = alone o.conditions monitor t r.is
            (λ over element low high form. absurd (let both : Some (Process n) ≡ Some (Array over low high element) = sym e ∙ form in cc))
            (λ fields form. absurd (let both : Some (Process n) ≡ Some (Record fields) = sym e ∙ form in cc)) (formed_no_condition t (Process n) e);
      })
  formed t (Array over low high element) e below each monitor o =
      let vs = numbered_copies (extent low high) (numbering forms is_built element) monitor o in
      let inner = elements (extent low high) element (each element below) monitor o in
      as_owned monitor t o (record { is = compound vs.is; objects = vs.objects }) _ (array_numbering forms is_built t over element low high e monitor o)
      (record { grows = inner.grows; owned = through_elements vs.objects.conditions monitor t over element low high vs.is e inner.owned })
  formed t (Record fields) e below each monitor o =
      let vs = numbered_fields (all_numberings forms) fields monitor o in
      let inner = in_fields t.place fields below each monitor o in
      as_owned monitor t o (record { is = compound vs.is; objects = vs.objects }) _ (record_numbering forms is_built t fields e monitor o)
      (record { grows = inner.grows; owned = through_fields vs.objects.conditions monitor t fields vs.is e inner.owned })

  -- the first value of a variable of each type, numbered behind any objects
  pub owned_by : (t : TypeId) → EachOwned t
  owned_by = by_types forms is_built EachOwned formless formed
