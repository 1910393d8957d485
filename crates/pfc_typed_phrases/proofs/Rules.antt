-- What a rule that is not broken says of the types of parts that have types.
use Rattle.std.proofs.Common.{◌≡◌, ℕ, suc, ◌+◌, ◌==◌, ℤ, Bool, true, false, not, ◌&&◌, if◌then◌else◌, cond, nat_lt, ◌<◌, [], ◌∷◌, length, slice_get, bytes_eq}
use Rattle.std.proofs.Common.{Option, Some, None, refl, sym, ap, ◌∙◌, subst, arith}
use Rattle.std.specs.Map.{keys_of}
use Rattle.std.specs.List.{position_or_len}
use Rattle.std.proofs.lemmas.Bool.Decides.{nat_tests}
use Rattle.pfc_base.specs.declared.places.Place.{Place}
use Rattle.pfc_tree.specs.Symbols.{Text}
use Rattle.pfc_tree.specs.declared.tree.Sign.{Sign}
use Rattle.pfc_tree.specs.declared.tree.AddOp.{AddOp}
use Rattle.pfc_tree.specs.declared.tree.AddOp.TheVariants.{Add, Sub, Or}
use Rattle.pfc_tree.specs.declared.tree.MulOp.{MulOp}
use Rattle.pfc_tree.specs.declared.tree.MulOp.TheVariants.{Mul, Div, Mod, And}
use Rattle.pfc_types.specs.Faults.{unless}
use Rattle.pfc_types.specs.Types.{Forms, integer, boolean, form_of, array_form, field_form, is_same, is_simple}
use Rattle.pfc_types.specs.Fields.{FieldList, type_named, position_of}
use Rattle.pfc_types.specs.declared.types.TypeId.{TypeId}
use Rattle.pfc_types.specs.declared.types.TypeForm.{TypeForm}
use Rattle.pfc_types.specs.declared.types.TypeForm.TheVariants.{Channel, Array, Record, Process}
use Rattle.pfc_types.specs.rules.Kinds.{where_so}
use Rattle.pfc_types.specs.rules.Expressions.{add_operand, mul_operand, operated, operator_rule, signed_type, signed_rule, related_type, relation_rule}
use Rattle.pfc_types.specs.rules.Expressions.{element_of, element_type, may_index, index_rule, field_type, is_field, field_rule}
use Rattle.pfc_types.proofs.Clean.{clean, clean-unless, and-left, and-right}
use Rattle.pfc_standing_code.specs.Shapes.{a_number, a_whole, shape_of}
use Rattle.pfc_standing_code.specs.Typed.{IsField}

-- a rule that is not broken holds
pub holds : (b : Bool) (p : Place) (n : ℕ) → clean (unless b p n) ≡ true → b ≡ true
holds b p n h = sym (clean-unless b p n) ∙ h

pub never : {A : Type 0} → false ≡ true → A
never h = absurd (cc)

pub some_same : (t u : TypeId) → Some t ≡ Some u → t ≡ u
some_same t u e = cc

pub where_true : (b : Bool) (t : TypeId) → b ≡ true → where_so b t ≡ Some t
where_true b t h = ap (λ x. where_so x t) h

pub same_type : (t u : TypeId) → is_same t u ≡ true → t ≡ u
same_type t u e = ap (λ (n : ℕ). let r : TypeId = record { place = n } in r) (same_place t.place u.place e)
  where
    same_place : (n m : ℕ) → (n == m) ≡ true → n ≡ m
    same_place n m e = grind (arith, nat_tests)

-- a value of a simple type is a number
pub simple_shape : (t : TypeId) → is_simple t ≡ true → shape_of t ≡ a_number
simple_shape t h = ap (λ (b : Bool). if b then a_number else a_whole t) h

pub both : (a b : Bool) → a ≡ true → b ≡ true → (a && b) ≡ true
both a b p q = ap (λ x. x && b) p ∙ q

-- ## Operators

-- both operands have the operator's type, and so has what it gives
pub record IsOperated (t : TypeId) (a b : TypeId) : Type 0 where
  pub left : a ≡ t
  pub right : b ≡ t
  pub gives : operated t (Some a) (Some b) ≡ Some t

pub operator_known : (t a b : TypeId) (p : Place) → clean (operator_rule t (Some a) (Some b) p) ≡ true → IsOperated t a b
operator_known t a b p h =
    let is : (is_same a t && is_same b t) ≡ true = holds (is_same a t && is_same b t) p 311 h in
    record {
      left = same_type a t (and-left (is_same a t) (is_same b t) is);
      right = same_type b t (and-right (is_same a t) (is_same b t) is);
      gives = where_true (is_same a t && is_same b t) t is;
    }

pub add_simple : (op : AddOp) → is_simple (add_operand op) ≡ true
add_simple Add = refl
add_simple Sub = refl
add_simple Or = refl

pub multiply_simple : (op : MulOp) → is_simple (mul_operand op) ≡ true
multiply_simple Mul = refl
multiply_simple Div = refl
multiply_simple Mod = refl
multiply_simple And = refl

pub signed_known : (sign : Sign × Place) (t : TypeId) → clean (signed_rule (Some sign) (Some t)) ≡ true → (t ≡ integer) ×
    (signed_type (Some sign) (Some t) ≡ Some integer)
signed_known sign t h = let is = holds (is_same t integer) sign.1 311 h in (same_type t integer is, where_true (is_same t integer) integer is)

-- a relation compares numbers
pub record IsCompared (t u : TypeId) : Type 0 where
  pub left : is_simple t ≡ true
  pub right : is_simple u ≡ true
  pub gives : related_type (Some t) (Some u) ≡ Some boolean

pub relation_known : (t u : TypeId) (p : Place) → clean (relation_rule (Some t) (Some u) p) ≡ true → IsCompared t u
relation_known t u p h =
    let is : ((is_simple t && is_simple u) && is_same t u) ≡ true = holds ((is_simple t && is_simple u) && is_same t u) p 311 h in
    let numbers = and-left (is_simple t && is_simple u) (is_same t u) is in
    let left = and-left (is_simple t) (is_simple u) numbers in
    record {
      left = left;
      right = and-right (is_simple t) (is_simple u) numbers;
      gives = where_true (is_simple t && is_same t u) boolean (both (is_simple t) (is_same t u) left (and-right (is_simple t && is_simple u) (is_same t u) is));
    }

-- ## Selectors

-- what is indexed, and what it is made of
pub record IsIndexed (forms : Forms) (t i : TypeId) : Type 0 where
  pub over : TypeId
  pub element : TypeId
  pub low : ℤ
  pub high : ℤ
  pub form : form_of forms t ≡ Some (Array over low high element)
  pub same : i ≡ over
  pub gives : element_type forms (Some t) (Some i) ≡ Some element

pub index_known : (forms : Forms) (t i : TypeId) (p : Place) → clean (index_rule forms (Some t) (Some i) p) ≡ true → IsIndexed forms t i
index_known forms t i p h = by (form_of forms t) refl (holds (may_index (array_form (form_of forms t)) (Some i)) p 314 h)
  where
    by : (form : Option TypeForm) → form_of forms t ≡ form → may_index (array_form form) (Some i) ≡ true → IsIndexed forms t i
    by None e is = never is
    by (Some (Channel u)) e is = never is
    by (Some (Record fields)) e is = never is
    by (Some (Process n)) e is = never is
    by (Some (Array over low high element)) e is =
        record {
          over = over;
          element = element;
          low = low;
          high = high;
          form = e;
          same = same_type i over is;
          gives = ap (λ (f : Option TypeForm). element_of (array_form f) (Some i)) e ∙ where_true (is_same i over) element is;
        }

-- a field that is looked up has its place among the fields
pub record IsAmong (fields : FieldList) (x : Text) (t : TypeId) : Type 0 where
  pub name : Text
  pub below : position_or_len (bytes_eq x) (keys_of fields) < length (keys_of fields)
  pub held : slice_get fields (position_or_len (bytes_eq x) (keys_of fields)) ≡ Some (name, t)

pub among : (fields : FieldList) (x : Text) (t : TypeId) → type_named fields x ≡ Some t → IsAmong fields x t
among [] x t h = absurd (cc)
among (f ∷ fields) x t h = let is = by (bytes_eq x f.0) h (λ e. among fields x t e) in record { name = is.1.0; below = is.0; held = is.1.1 }
  where
    n : ℕ
    n = position_or_len (bytes_eq x) (keys_of fields)

    Stands : ℕ → Type 0
    Stands k = (k < suc (length (keys_of fields))) × ((y : Text) × (slice_get (f ∷ fields) k ≡ Some (y, t)))

    by : (q : Bool) → cond q (Some f.1) (type_named fields x) ≡ Some t → (type_named fields x ≡ Some t → IsAmong fields x t) → Stands (cond (not q) (1 + n) 0)
    by true e others = (omega arith, (f.0, ap (λ (u : TypeId). Some (f.0, u)) (some_same f.1 t e)))
    by false e others =
        let rest = others e in
        let next : suc n ≡ 1 + n = omega arith in
        (omega (arith, rest.below), (rest.name, subst (λ (k : ℕ). slice_get (f ∷ fields) k ≡ Some (rest.name, t)) next rest.held))

position_within : (fields : FieldList) (x : Text) → position_or_len (bytes_eq x) (keys_of fields) < length (keys_of fields) →
    position_of fields x ≡ Some (position_or_len (bytes_eq x) (keys_of fields))
position_within fields x below =
    let n = position_or_len (bytes_eq x) (keys_of fields) in
    let test : nat_lt n (length (keys_of fields)) ≡ true = grind (arith, nat_tests) in
    ap (λ (b : Bool). cond b (Some n) None) test

pub field_known : (forms : Forms) (t : TypeId) (x : Text) (p : Place) → clean (field_rule forms (Some t) x p) ≡ true → (u : TypeId) ×
    (field_type forms (Some t) x ≡ Some u) × IsField forms (Some t) x
field_known forms t x p h = by (form_of forms t) refl (holds (is_field (field_form (form_of forms t) x)) p 315 h)
  where
    there : (fields : FieldList) → form_of forms t ≡ Some (Record fields) → (o : Option TypeId) → type_named fields x ≡ o → is_field o ≡ true
        → (u : TypeId) × (field_type forms (Some t) x ≡ Some u) × IsField forms (Some t) x
    there fields e None n is = never is
    there fields e (Some u) n is =
        let a = among fields x u n in (
          u,
          ap (λ (f : Option TypeForm). field_form f x) e ∙ n,
          record {
            whole = t;
            fields = fields;
            place = position_or_len (bytes_eq x) (keys_of fields);
            name = a.name;
            part = u;
            typed = refl;
            form = e;
            position = position_within fields x a.below;
            held = a.held;
            named = n;
          },
        )

    by : (form : Option TypeForm) → form_of forms t ≡ form → is_field (field_form form x) ≡ true → (u : TypeId) ×
        (field_type forms (Some t) x ≡ Some u) × IsField forms (Some t) x
    by None e is = never is
    by (Some (Channel u)) e is = never is
    by (Some (Array over low high element)) e is = never is
    by (Some (Process n)) e is = never is
    by (Some (Record fields)) e is = there fields e (type_named fields x) refl is
