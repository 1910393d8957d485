-- Conditions, labels, variables of a `for` and communication in which no rule is broken, at any place whose names are known.
use Rattle.std.proofs.Common.{◌≡◌, ◌≢◌, Bool, true, false, not, ◌&&◌, is_some, List, [], ◌∷◌, Option, Some, None, refl, sym, ap, ap₂, ◌∙◌, subst}
use Rattle.pfc_base.specs.declared.places.Place.{Place}
use Rattle.pfc_tree.specs.Symbols.{Text}
use Rattle.pfc_tree.specs.declared.tree.Constant.{Constant}
use Rattle.pfc_tree.specs.declared.tree.Constant.TheVariants.{Number, Named as NamedConstant, Literal}
use Rattle.pfc_tree.specs.declared.tree.Spread.{Spread}
use Rattle.pfc_tree.specs.trees.Exprs.{ExprTree}
use Rattle.pfc_types.specs.Faults.{unless}
use Rattle.pfc_types.specs.Types.{boolean, integer, is_simple, is_same}
use Rattle.pfc_types.specs.Scopes.{meaning_of}
use Rattle.pfc_types.specs.declared.types.TypeId.{TypeId}
use Rattle.pfc_types.specs.declared.scope.Meaning.{Meaning}
use Rattle.pfc_types.specs.declared.scope.Meaning.TheVariants.{Constant as AConstant, Named, Variable, Sub, Module, Process, Entry, Predeclared, Faulty}
use Rattle.pfc_types.specs.rules.Kinds.{may_have, may_be_simple, may_agree, condition_rule, a_variable, name_rules, variable_type}
use Rattle.pfc_types.specs.rules.Constants.{Ordinal, constant_value, constant_type, constant_place, broken_constant}
use Rattle.pfc_types.specs.rules.Expressions.{find, expr_place, expr_type, broken_expr}
use Rattle.pfc_types.specs.rules.FaultyNames.{stands_faulty, constant_uses_faulty}
use Rattle.pfc_types.specs.rules.Statements.{written_constant, may_label, label_rule, broken_labels, for_rule, broken_for, broken_spread, broken_guard}
use Rattle.pfc_types.specs.rules.Statements.{broken_timeout}
use Rattle.pfc_types.proofs.Clean.{clean, and-left, and-right, clean-listed}
use Rattle.pfc_types.proofs.FaultyConstants.{constant_exact}
use Rattle.pfc_semantics.specs.Expressions.{spot_of}
use Rattle.pfc_translation.specs.Sites.{Site}
use Rattle.pfc_standing_code.specs.Shapes.{Shape, a_number}
use Rattle.pfc_standing_code.specs.Typed.{HasShape}
use Rattle.pfc_standing_code.specs.TypedStatements.{IsSimpleVariable, HaveValues, IsGuard, IsSpread}
use Rattle.pfc_typed_phrases.specs.Names.{AreKnown}
use Rattle.pfc_typed_phrases.proofs.Rules.{holds, never, same_type, simple_shape}
use Rattle.pfc_typed_phrases.proofs.Anywhere.{expressions_typed}

module _ (s : Site) (known : AreKnown s) where
  -- a value whose type, if it has one, is simple
  pub number_of : (e : ExprTree) → clean (broken_expr s.env e) ≡ true → ((t : TypeId) → expr_type s.env e ≡ Some t → is_simple t ≡ true) → HasShape s e a_number
  number_of e h simple =
      let x = expressions_typed s known e (clean-listed (broken_expr s.env e) h) in
      subst (λ (k : Shape). HasShape s e k) (simple_shape x.0 (simple x.0 x.1)) x.2

  number_in : (e : ExprTree) (u : TypeId) → is_simple u ≡ true → clean (broken_expr s.env e) ≡ true →
      may_have u (expr_type s.env e) ≡ true → HasShape s e a_number
  number_in e u simple h fits = number_of e h (λ t k. ap is_simple (same_type t u (ap (may_have u) (sym k) ∙ fits)) ∙ simple)

  pub condition_typed : (e : ExprTree) → clean (broken_expr s.env e) ≡ true →
      clean (condition_rule (expr_type s.env e) (expr_place e)) ≡ true → HasShape s e a_number
  condition_typed e h rule = number_in e boolean refl h (holds (may_have boolean (expr_type s.env e)) (expr_place e) 313 rule)

  pub guard_typed : (e : Option ExprTree) → clean (broken_guard s.env e) ≡ true → IsGuard s e
  guard_typed None h = tt
  guard_typed (Some e) h =
      let one = clean (broken_expr s.env e) in
      let two = clean (condition_rule (expr_type s.env e) (expr_place e)) in
      condition_typed e (and-left one two h) (and-right one two h)

  pub timeout_typed : (e : ExprTree) → clean (broken_timeout s.env e) ≡ true → HasShape s e a_number
  timeout_typed e h =
      let one = clean (broken_expr s.env e) in
      let two = clean (unless (may_have integer (expr_type s.env e)) (expr_place e) 317) in
      number_in e integer refl (and-left one two h) (holds (may_have integer (expr_type s.env e)) (expr_place e) 317 (and-right one two h))

  -- ## Labels

  stands_sound : (m : Option Meaning) → m ≢ Some Faulty → stands_faulty m ≡ false
  stands_sound None h = refl
  stands_sound (Some (AConstant t n)) h = refl
  stands_sound (Some (Named t)) h = refl
  stands_sound (Some (Variable t r)) h = refl
  stands_sound (Some (Sub n)) h = refl
  stands_sound (Some (Module n)) h = refl
  stands_sound (Some (Process n)) h = refl
  stands_sound (Some (Entry n)) h = refl
  stands_sound (Some (Predeclared n)) h = refl
  stands_sound (Some Faulty) h = absurd (h refl)

  unused : (c : Constant) → constant_uses_faulty s.env.state.blocks.scopes s.env.view c ≡ false
  unused (Number sign n p) = refl
  unused (NamedConstant sign x p) = stands_sound (meaning_of (find s.env x)) (known.faulty x)
  unused (Literal x p) = refl

  there : (o : Option Ordinal) → is_some o ≡ true → (c : Ordinal) × (o ≡ Some c)
  there None h = never h
  there (Some c) h = (c, refl)

  pub value_typed : (c : Constant) → clean (broken_constant s.env.state.blocks.scopes s.env.view c) ≡ true → (o : Ordinal) ×
      (constant_value s.env.state.blocks.scopes s.env.view c ≡ Some o)
  value_typed c h =
      there (constant_value s.env.state.blocks.scopes s.env.view c)
      (constant_exact s.env.state.blocks.scopes s.env.view c ∙ ap₂ (λ (a b : Bool). a && not b) h (unused c))

  pub labels_typed : (t : Option TypeId) (ls : List Constant) → clean (broken_labels s.env t ls) ≡ true → HaveValues s ls
  labels_typed t [] h = tt
  labels_typed t (l ∷ ls) h =
      let one = clean (broken_constant s.env.state.blocks.scopes s.env.view l) in
      let two = clean (label_rule t (constant_type (written_constant s.env l)) (constant_place l)) in
      let rest = clean (broken_labels s.env t ls) in
      (value_typed l (and-left one two (and-left (one && two) rest h)), labels_typed t ls (and-right (one && two) rest h))

  -- what has a label is of a simple type
  pub labelled_simple : (t : TypeId) (l : Constant) (ls : List Constant) → clean (broken_labels s.env (Some t) (l ∷ ls)) ≡ true → is_simple t ≡ true
  labelled_simple t l ls h =
      let one = clean (broken_constant s.env.state.blocks.scopes s.env.view l) in
      let u = constant_type (written_constant s.env l) in
      let two = clean (label_rule (Some t) u (constant_place l)) in
      and-left (is_simple t) (may_have t u) (holds (may_label t u) (constant_place l) 319
      (and-right one two (and-left (one && two) (clean (broken_labels s.env (Some t) ls)) h)))

  -- ## The variable of a `for`

  variable_typed : (x : Text) (p : Place) → clean (name_rules a_variable (meaning_of (find s.env x)) p) ≡ true →
      may_be_simple (variable_type (meaning_of (find s.env x))) ≡ true
      → IsSimpleVariable s (spot_of s.env (find s.env x)).spot
  variable_typed x p h simple = by (meaning_of (find s.env x)) refl h simple
    where
      by : (m : Option Meaning) → meaning_of (find s.env x) ≡ m → clean (name_rules a_variable m p) ≡ true → may_be_simple (variable_type m) ≡ true →
          IsSimpleVariable s (spot_of s.env (find s.env x)).spot
      by None e h simple = never h
      by (Some (AConstant t n)) e h simple = never h
      by (Some (Named t)) e h simple = never h
      by (Some (Sub n)) e h simple = never h
      by (Some (Module n)) e h simple = never h
      by (Some (Process n)) e h simple = never h
      by (Some (Entry n)) e h simple = never h
      by (Some (Predeclared n)) e h simple = never h
      by (Some Faulty) e h simple = absurd (known.faulty x e)
      by (Some (Variable t r)) e h simple = (t, simple, (known.variables x t r e).declared)

  -- the type of a variable that is simple
  agreed : (o u : Option TypeId) (t : TypeId) → (w : TypeId) → o ≡ Some w → may_be_simple o ≡ true → may_agree o u ≡ true → u ≡ Some t → is_simple t ≡ true
  agreed o u t w e simple h k =
      let same : is_same w t ≡ true = ap₂ (λ (a b : Option TypeId). may_agree a b) (sym e) (sym k) ∙ h in
      ap is_simple (sym (same_type w t same)) ∙ (ap may_be_simple (sym e) ∙ simple)

  named_type : (m : Option Meaning) (x : Text) (p : Place) → meaning_of (find s.env x) ≡ m → clean (name_rules a_variable m p) ≡ true →
      (w : TypeId) × (variable_type m ≡ Some w)
  named_type None x p e h = never h
  named_type (Some (AConstant t n)) x p e h = never h
  named_type (Some (Named t)) x p e h = never h
  named_type (Some (Sub n)) x p e h = never h
  named_type (Some (Module n)) x p e h = never h
  named_type (Some (Process n)) x p e h = never h
  named_type (Some (Entry n)) x p e h = never h
  named_type (Some (Predeclared n)) x p e h = never h
  named_type (Some Faulty) x p e h = absurd (known.faulty x e)
  named_type (Some (Variable t r)) x p e h = (t, refl)

  pub for_typed : (x : Text) (a b : ExprTree) (p : Place) → clean (broken_for s.env x a b p) ≡ true
      → IsSimpleVariable s (spot_of s.env (find s.env x)).spot × HasShape s a a_number × HasShape s b a_number
  for_typed x a b p h =
      let m = meaning_of (find s.env x) in
      let t = variable_type m in
      let one = clean (name_rules a_variable m p) in
      let two = clean (broken_expr s.env a) in
      let three = clean (broken_expr s.env b) in
      let rule = clean (for_rule t (expr_type s.env a) (expr_type s.env b) p) in
      let name = and-left one (two && (three && rule)) h in
      let h1 = and-right one (two && (three && rule)) h in
      let h2 = and-right two (three && rule) h1 in
      let fits = holds ((may_be_simple t && may_agree t (expr_type s.env a)) && may_agree t (expr_type s.env b)) p 321 (and-right three rule h2) in
      let first = and-left (may_be_simple t && may_agree t (expr_type s.env a)) (may_agree t (expr_type s.env b)) fits in
      let simple = and-left (may_be_simple t) (may_agree t (expr_type s.env a)) first in
      let w = named_type m x p refl name in (
        variable_typed x p name simple,
        number_of a (and-left two (three && rule) h1) (λ k e. agreed t (expr_type s.env a) k w.0 w.1 simple
            (and-right (may_be_simple t) (may_agree t (expr_type s.env a)) first) e),
        number_of b (and-left three rule h2) (λ k e. agreed t (expr_type s.env b) k w.0 w.1 simple
            (and-right (may_be_simple t && may_agree t (expr_type s.env a)) (may_agree t (expr_type s.env b)) fits) e),
      )

  pub spread_typed : (r : Option Spread) → clean (broken_spread s.env r) ≡ true → IsSpread s r
  spread_typed None h = tt
  spread_typed (Some r) h =
      let m = meaning_of (find s.env r.name) in
      let t = variable_type m in
      let low = constant_type (written_constant s.env r.low) in
      let high = constant_type (written_constant s.env r.high) in
      let one = clean (name_rules a_variable m r.place) in
      let two = clean (broken_constant s.env.state.blocks.scopes s.env.view r.low) in
      let three = clean (broken_constant s.env.state.blocks.scopes s.env.view r.high) in
      let rule = clean (for_rule t low high r.place) in
      let fits = holds ((may_be_simple t && may_agree t low) && may_agree t high) r.place 321
      (and-right three rule (and-right two (three && rule) (and-right one (two && (three && rule)) h))) in
      variable_typed r.name r.place (and-left one (two && (three && rule)) h) (and-left (may_be_simple t) (may_agree t low)
      (and-left (may_be_simple t && may_agree t low) (may_agree t high) fits))
