-- A value that an expression gives has no object in it where its type is no object type.
use Rattle.std.proofs.Common.{◌≡◌, ℕ, zero, suc, ◌<◌, Bool, true, false, not, if◌then◌else◌, [], ◌∷◌, length, option_map, slice_get, Option, Some, None, refl}
use Rattle.std.proofs.Common.{sym, ap, ◌∙◌, subst, arith}
use Rattle.pfc_tree.specs.Symbols.{Text}
use Rattle.pfc_tree.specs.trees.Exprs.{ExprTree, FactorTree, SelectorTrees, ExprTrees, plain, related, sum, no_summands, more_summands, product, no_multipliers}
use Rattle.pfc_tree.specs.trees.Exprs.{more_multipliers, number, literal, negation, paren, applied, desig, index, field, no_selectors, more_selectors, no_exprs}
use Rattle.pfc_tree.specs.trees.Exprs.{more_exprs}
use Rattle.pfc_types.specs.Types.{form_of, array_form, field_form, is_simple, is_object, condition}
use Rattle.pfc_types.specs.Fields.{FieldList}
use Rattle.pfc_types.specs.Scopes.{meaning_of}
use Rattle.pfc_types.specs.rules.Expressions.{find}
use Rattle.pfc_types.specs.declared.types.TypeId.{TypeId}
use Rattle.pfc_types.specs.declared.types.TypeForm.{TypeForm}
use Rattle.pfc_types.specs.declared.types.TypeForm.TheVariants.{Array, Record}
use Rattle.pfc_types.specs.declared.scope.Meaning.{Meaning}
use Rattle.pfc_types.specs.declared.scope.Meaning.TheVariants.{Constant, Named, Variable, Sub, Module, Process, Entry, Predeclared, Faulty}
use Rattle.pfc_semantics.specs.Displays.{TypedSpot}
use Rattle.pfc_semantics.specs.Expressions.{spot_of}
use Rattle.pfc_semantics.specs.Predeclared.{Function, abs, sqr, odd, ord, chr, succ, pred, eof, eoln, empty, clock, random, no_function, function_of}
use Rattle.pfc_translation.specs.Sites.{Site, forms_of}
use Rattle.pfc_translation.specs.Addresses.{type_behind}
use Rattle.pfc_standing_code.specs.Shapes.{Shape, a_number, a_whole, shape_of}
use Rattle.pfc_standing_code.specs.ValueTypes.{IsValueType, value_simple}
use Rattle.pfc_standing_code.specs.Typed.{IsDeclared, IsUse, IsFunction, HasShape, HasShapeFactor, IsGivenFirst, IsLentFirst, AreArguments, AreSelectors}
use Rattle.pfc_standing_code.specs.Typed.{AreIndices}
use Rattle.pfc_type_laws.specs.Tables.{AreBefore, AreNoSignals, IsOfVariables}
use Rattle.pfc_type_laws.proofs.ValueTypes.{value_type}
use Rattle.pfc_typed_phrases.specs.Names.{AreKnown}

some_same : (t u : TypeId) → Some t ≡ Some u → t ≡ u
some_same t u e = cc

no_number : {A : Type 0} (t : TypeId) → a_whole t ≡ a_number → A
no_number t e = absurd (cc)

pub not_true : (b : Bool) → not b ≡ true → b ≡ false
not_true false h = refl
not_true true h = absurd (cc)

-- the shape of a type that is not simple tells it
whole_type : (t u : TypeId) → a_whole t ≡ shape_of u → u ≡ t
whole_type t u e = by (is_simple u) e
  where
    by : (b : Bool) → a_whole t ≡ (if b then a_number else a_whole u) → u ≡ t
    by true e = no_number t e
    by false e = cc

function_number : (f : Function) (h : Shape) (argument lent : Type 0) → IsFunction f h argument lent → h ≡ a_number
function_number abs h argument lent is = is.0
function_number sqr h argument lent is = is.0
function_number odd h argument lent is = is.0
function_number ord h argument lent is = is.0
function_number chr h argument lent is = is.0
function_number succ h argument lent is = is.0
function_number pred h argument lent is = is.0
function_number eof h argument lent is = is
function_number eoln h argument lent is = is
function_number empty h argument lent is = is.0
function_number clock h argument lent is = is
function_number random h argument lent is = is.0
function_number no_function h argument lent is = absurd is

module _ (s : Site) (known : AreKnown s) where
  -- ## Parts of variables

  field_of : (n place : ℕ) (name : Text) (u : TypeId) (fields : FieldList) → n < length (forms_of s) → AreBefore n fields → AreNoSignals fields
      → slice_get fields place ≡ Some (name, u) → IsOfVariables (forms_of s) u
  field_of n place name u [] within before values e = absurd (cc)
  field_of n zero name u (f ∷ fields) within before values e =
      let same : f.1 ≡ u = (let pair : f ≡ (name, u) = cc in ap (λ (y : Text × TypeId). y.1) pair) in
      subst (λ (k : TypeId). IsOfVariables (forms_of s) k) same ((let first = before.0 in omega (arith, first, within)), values.0)
  field_of n (suc place) name u (f ∷ fields) within before values e = field_of n place name u fields within before.1 values.1 e

  indexed_of : (es : ExprTrees) (t : TypeId) → AreIndices s (Some t) es → IsOfVariables (forms_of s) t
      → (u : TypeId) × (type_behind (forms_of s) (Some t) es ≡ Some u) × IsOfVariables (forms_of s) u
  indexed_of no_exprs t h is = (t, refl, is)
  indexed_of (more_exprs e es) t h is =
      let array = h.0 in
      let whole : array.whole ≡ t = sym (some_same t array.whole array.typed) in
      let form : form_of (forms_of s) t ≡ Some (Array array.over array.low array.high array.element) =
      ap (λ (k : TypeId). form_of (forms_of s) k) (sym whole) ∙ array.form in
      let inner = ap (λ (f : Option TypeForm). option_map (λ (k : TypeId × TypeId). k.1) (array_form f)) form in
      let before : array.element.place < t.place = known.table.behind t _ form in
      let rest =
      indexed_of es array.element (subst (λ (o : Option TypeId). AreIndices s o es) inner h.2)
      ((let within = is.0 in omega (arith, before, within)), known.table.parts t _ form) in
      (rest.0, ap (λ (o : Option TypeId). type_behind (forms_of s) o es) inner ∙ rest.1, rest.2)

  -- what selectors lead to from a variable is of a type of the table
  pub selected_of : (ss : SelectorTrees) (t u : TypeId) → AreSelectors s (Some t) ss (Some u) → IsOfVariables (forms_of s) t → IsOfVariables (forms_of s) u
  selected_of no_selectors t u h is = subst (λ (k : TypeId). IsOfVariables (forms_of s) k) (some_same t u h) is
  selected_of (more_selectors (index es p) ss) t u h is =
      let inner = indexed_of es t h.0 is in
      selected_of ss inner.0 u (subst (λ (o : Option TypeId). AreSelectors s o ss (Some u)) inner.1 h.1) inner.2
  selected_of (more_selectors (field x p) ss) t u h is =
      let f = h.0 in
      let whole : f.whole ≡ t = sym (some_same t f.whole f.typed) in
      let form : form_of (forms_of s) t ≡ Some (Record f.fields) = ap (λ (k : TypeId). form_of (forms_of s) k) (sym whole) ∙ f.form in
      let part : field_form (form_of (forms_of s) t) x ≡ Some f.part = ap (λ (k : Option TypeForm). field_form k x) form ∙ f.named in
      let inner = field_of t.place f.place f.name f.part f.fields is.0 (known.table.behind t _ form) (known.table.parts t _ form) f.held in
      selected_of ss f.part u (subst (λ (o : Option TypeId). AreSelectors s o ss (Some u)) part h.1) inner

  -- ## Expressions

  factor_whole : (f : FactorTree) (t : TypeId) → is_object (forms_of s) t ≡ false → HasShapeFactor s f (a_whole t) → IsValueType (forms_of s) t
  factor_whole (number n p) t free h = no_number t h
  factor_whole (literal x p) t free h = no_number t h
  factor_whole (negation f p) t free h = no_number t h.0
  factor_whole (paren (related a r b q) p) t free h = no_number t h.0
  factor_whole (paren (plain (sum (Some sign) first rest) q) p) t free h = no_number t h.0
  factor_whole (paren (plain (sum None first (more_summands op u rest)) q) p) t free h = no_number t h.0
  factor_whole (paren (plain (sum None (product f (more_multipliers op u rest)) no_summands) q) p) t free h = no_number t h.0
  factor_whole (paren (plain (sum None (product f no_multipliers) no_summands) q) p) t free h = factor_whole f t free h
  factor_whole (applied (desig x ss q) args p) t free h = by (meaning_of (find s.env x)) refl h.1
    where
      v : TypedSpot
      v = spot_of s.env (find s.env x)

      by : (m : Option Meaning) → meaning_of (find s.env x) ≡ m
          → IsUse s m (a_whole t) (IsDeclared s v.spot v.t) (λ u. AreSelectors s v.t ss u) ss (λ formals. AreArguments s formals args)
          (λ (f : Function). IsFunction f (a_whole t) (IsGivenFirst s args) (IsLentFirst s args (Some condition)))
          → IsValueType (forms_of s) t
      by None e h = absurd h
      by (Some (Constant u n)) e h = no_number t h
      by (Some (Named u)) e h = absurd h
      by (Some (Variable u r)) e h =
          let same : h.0 ≡ t = whole_type t h.0 h.4 in
          let leads = subst (λ (o : Option TypeId). AreSelectors s o ss (Some h.0)) (known.variables x u r e).typed h.2 in
          let of_variables = selected_of ss u h.0 leads (known.of_variables x u r e) in
          value_type (forms_of s) known.table t (subst (λ (k : TypeId). IsOfVariables (forms_of s) k) same of_variables) free
      by (Some (Sub n)) e h = no_number t h.0
      by (Some (Module n)) e h = absurd h
      by (Some (Process n)) e h = absurd h
      by (Some (Entry n)) e h = absurd h
      by (Some (Predeclared k)) e h = no_number t (function_number (function_of k) (a_whole t) _ _ h)
      by (Some Faulty) e h = absurd h

  expr_whole : (e : ExprTree) (t : TypeId) → is_object (forms_of s) t ≡ false → HasShape s e (a_whole t) → IsValueType (forms_of s) t
  expr_whole (related a r b q) t free h = no_number t h.0
  expr_whole (plain (sum (Some sign) first rest) q) t free h = no_number t h.0
  expr_whole (plain (sum None first (more_summands op u rest)) q) t free h = no_number t h.0
  expr_whole (plain (sum None (product f (more_multipliers op u rest)) no_summands) q) t free h = no_number t h.0
  expr_whole (plain (sum None (product f no_multipliers) no_summands) q) t free h = factor_whole f t free h

  -- an expression of the shape of a type that is no object type
  pub expr_value : (e : ExprTree) (t : TypeId) → HasShape s e (shape_of t) → is_object (forms_of s) t ≡ false → IsValueType (forms_of s) t
  expr_value e t h free = by (is_simple t) refl h
    where
      by : (b : Bool) → is_simple t ≡ b → HasShape s e (if b then a_number else a_whole t) → IsValueType (forms_of s) t
      by true simple h = value_simple t simple
      by false simple h = expr_whole e t free h
