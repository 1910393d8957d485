-- The lists are the code of the definition, wherever it stands: by induction over the phrases.
use Rattle.std.proofs.Common.{◌≡◌, ◌++◌, ℕ, Bool, true, false, List, [], ◌∷◌, Option, Some, None, if◌then◌else◌, refl, ap, ap₂}
use Rattle.pfc_base.specs.declared.places.Place.{Place}
use Rattle.pfc_tree.specs.declared.tree.Sign.{Sign}
use Rattle.pfc_tree.specs.declared.tree.Sign.TheVariants.{Plus, Minus}
use Rattle.pfc_tree.specs.trees.Exprs.{ExprTree, SimpleTree, SummandTrees, TermTree, MultiplierTrees, FactorTree, DesigTree, SelectorTrees, ExprTrees}
use Rattle.pfc_tree.specs.trees.Exprs.{ActualTree, ActualTrees, plain, related, sum, no_summands, more_summands, product, no_multipliers, more_multipliers}
use Rattle.pfc_tree.specs.trees.Exprs.{number, literal, negation, paren, applied, desig, index, field, no_selectors, more_selectors, no_exprs, more_exprs}
use Rattle.pfc_tree.specs.trees.Exprs.{actual, actual_width, no_actuals, more_actuals}
use Rattle.pfc_types.specs.declared.types.TypeId.{TypeId}
use Rattle.pfc_types.specs.declared.scope.Meaning.{Meaning}
use Rattle.pfc_types.specs.declared.scope.Meaning.TheVariants.{Constant, Named, Variable, Sub, Module, Process, Entry, Predeclared, Faulty}
use Rattle.pfc_types.specs.declared.heads.Formal.{Formal}
use Rattle.pfc_types.specs.Scopes.{meaning_of}
use Rattle.pfc_types.specs.Blocks.{sub_at}
use Rattle.pfc_types.specs.rules.Expressions.{find, first_type, field_type}
use Rattle.pfc_code.specs.declared.instructions.Instr.{Instr}
use Rattle.pfc_semantics.specs.Displays.{TypedSpot}
use Rattle.pfc_semantics.specs.Expressions.{spot_of}
use Rattle.pfc_semantics.specs.Predeclared.{Function, abs, sqr, odd, ord, chr, succ, pred, eof, eoln, empty, clock, random, no_function, function_of}
use Rattle.pfc_translation.specs.Sites.{Site, forms_of, blocks_of}
use Rattle.pfc_translation.specs.Codes.{Code, Lined, ◌⨾◌}
use Rattle.pfc_translation.specs.Addresses.{base_code, type_behind, element_in}
use Rattle.pfc_translation.specs.Expressions.{expr_code, simple_code, summands_code, term_code, multipliers_code, factor_code, sign_code, first_value}
use Rattle.pfc_translation.specs.Expressions.{first_address, actual_code, lent_code, variable_code, args_code, selectors_code, indices_code, name_code}
use Rattle.pfc_translation.specs.Expressions.{function_code, desig_code, object_code}
use Rattle.pfc_addresses.specs.Instructions.{base_instr}
use Rattle.pfc_expression_code.specs.Lists.{ways_of, single, expr_list, simple_list, summands_list, term_list, multipliers_list, factor_list, sign_list}
use Rattle.pfc_expression_code.specs.Lists.{first_value_list, first_address_list, actual_list, lent_list, variable_list, args_list, selectors_list}
use Rattle.pfc_expression_code.specs.Lists.{indices_list, name_list, function_list, part_list, desig_list, object_list}

-- two lists one behind the other
both : {a b c d : Lined} → a ≡ c → b ≡ d → a ++ b ≡ c ++ d
both p q = ap₂ (λ (x y : Lined). x ++ y) p q

-- one instruction before
next : {i : Instr × ℕ} {b d : Lined} → b ≡ d → (i ∷ b) ≡ (i ∷ d)
next {i} p = ap (λ (l : Lined). i ∷ l) p

sign_same : (s : Site) (sign : Option (Sign × Place)) (at n : ℕ) → (sign_code s sign).put at n ≡ sign_list (ways_of s) sign
sign_same s None at n = refl
sign_same s (Some (Plus, p)) at n = refl
sign_same s (Some (Minus, p)) at n = refl

function_same :
    (s : Site) (f : Function) (t : Option TypeId) (value address : Code) (x y : Lined)
    → ((at n : ℕ) → value.put at n ≡ x) → ((at n : ℕ) → address.put at n ≡ y)
    → (at n : ℕ) → (function_code s f t value address).put at n ≡ function_list (ways_of s) f t x y
function_same s abs t value address x y v a at n = both (v at n) refl
function_same s sqr t value address x y v a at n = both (v at n) refl
function_same s odd t value address x y v a at n = both (v at n) refl
function_same s ord t value address x y v a at n = v at n
function_same s chr t value address x y v a at n = both (v at n) refl
function_same s succ t value address x y v a at n = both (v at n) refl
function_same s pred t value address x y v a at n = both (v at n) refl
function_same s eof t value address x y v a at n = refl
function_same s eoln t value address x y v a at n = refl
function_same s empty t value address x y v a at n = both (a at n) refl
function_same s clock t value address x y v a at n = refl
function_same s random t value address x y v a at n = both (v at n) refl
function_same s no_function t value address x y v a at n = refl

name_same :
    (s : Site) (m : Option Meaning) (ss : SelectorTrees) (address : Code) (args : List Formal → Code) (predeclared : Function → Code)
    (x : Lined) (y : List Formal → Lined) (z : Function → Lined)
    → ((at n : ℕ) → address.put at n ≡ x)
    → ((formals : List Formal) (at n : ℕ) → (args formals).put at n ≡ y formals)
    → ((f : Function) (at n : ℕ) → (predeclared f).put at n ≡ z f)
    → (at n : ℕ) → (name_code s m ss address args predeclared).put at n ≡ name_list (ways_of s) m ss x y z
name_same s None ss address args predeclared x y z a g p at n = refl
name_same s (Some (Constant t v)) ss address args predeclared x y z a g p at n = refl
name_same s (Some (Named t)) ss address args predeclared x y z a g p at n = refl
name_same s (Some (Variable t reference)) ss address args predeclared x y z a g p at n = both (a at n) refl
name_same s (Some (Sub i)) ss address args predeclared x y z a g p at n = both (g (sub_at (blocks_of s) i).formals at n) refl
name_same s (Some (Module i)) ss address args predeclared x y z a g p at n = refl
name_same s (Some (Process i)) ss address args predeclared x y z a g p at n = refl
name_same s (Some (Entry i)) ss address args predeclared x y z a g p at n = refl
name_same s (Some (Predeclared i)) ss address args predeclared x y z a g p at n = p (function_of i) at n
name_same s (Some Faulty) ss address args predeclared x y z a g p at n = refl

either_same :
    (r : Bool) (a b : Code) (x y : Lined) → ((at n : ℕ) → a.put at n ≡ x) → ((at n : ℕ) → b.put at n ≡ y)
    → (at n : ℕ) → (if r then a else b).put at n ≡ (if r then x else y)
either_same true a b x y p q at n = p at n
either_same false a b x y p q at n = q at n

-- selectors behind the address of a variable
behind_base :
    (s : Site) (v : TypedSpot) (c : Code) (x : Lined) → ((at n : ℕ) → c.put at n ≡ x) → (at n : ℕ)
    → (base_code s v.spot ⨾ c).put at n ≡ single (ways_of s) (base_instr s v.spot) ++ x
behind_base s v c x is at n = next (is _ _)

mutual
  pub expr_same : (s : Site) (e : ExprTree) (at n : ℕ) → (expr_code s e).put at n ≡ expr_list (ways_of s) e
  expr_same s (plain x p) at n = simple_same s x at n
  expr_same s (related x r y p) at n = both (simple_same s x at n) (both (simple_same s y _ _) refl)

  pub simple_same : (s : Site) (e : SimpleTree) (at n : ℕ) → (simple_code s e).put at n ≡ simple_list (ways_of s) e
  simple_same s (sum sign first rest) at n = both (term_same s first at n) (both (sign_same s sign _ _) (summands_same s rest _ _))

  pub summands_same : (s : Site) (e : SummandTrees) (at n : ℕ) → (summands_code s e).put at n ≡ summands_list (ways_of s) e
  summands_same s no_summands at n = refl
  summands_same s (more_summands op t rest) at n = both (term_same s t at n) (next (summands_same s rest _ _))

  pub term_same : (s : Site) (e : TermTree) (at n : ℕ) → (term_code s e).put at n ≡ term_list (ways_of s) e
  term_same s (product f rest) at n = both (factor_same s f at n) (multipliers_same s rest _ _)

  pub multipliers_same : (s : Site) (e : MultiplierTrees) (at n : ℕ) → (multipliers_code s e).put at n ≡ multipliers_list (ways_of s) e
  multipliers_same s no_multipliers at n = refl
  multipliers_same s (more_multipliers op f rest) at n = both (factor_same s f at n) (next (multipliers_same s rest _ _))

  pub factor_same : (s : Site) (e : FactorTree) (at n : ℕ) → (factor_code s e).put at n ≡ factor_list (ways_of s) e
  factor_same s (number k p) at n = refl
  factor_same s (literal x p) at n = refl
  factor_same s (negation f p) at n = both (factor_same s f at n) refl
  factor_same s (paren e p) at n = expr_same s e at n
  factor_same s (applied (desig x ss q) args p) at n =
      let found = find s.env x in
      let v = spot_of s.env found in
      name_same s (meaning_of found) ss (base_code s v.spot ⨾ selectors_code s v.t ss) (λ formals. args_code s formals args)
      (λ f. function_code s f (first_type s.env args) (first_value s args) (first_address s args))
      (part_list (ways_of s) v ss) (λ formals. args_list (ways_of s) formals args)
      (λ f. function_list (ways_of s) f (first_type s.env args) (first_value_list (ways_of s) args) (first_address_list (ways_of s) args))
      (λ i j. behind_base s v (selectors_code s v.t ss) (selectors_list (ways_of s) v.t ss) (selectors_same s v.t ss) i j)
      (λ formals i j. args_same s formals args i j)
      (λ f i j. function_same s f (first_type s.env args) (first_value s args) (first_address s args) (first_value_list (ways_of s) args)
      (first_address_list (ways_of s) args) (first_value_same s args) (first_address_same s args) i j)
      at n

  pub first_value_same : (s : Site) (args : ActualTrees) (at n : ℕ) → (first_value s args).put at n ≡ first_value_list (ways_of s) args
  first_value_same s no_actuals at n = refl
  first_value_same s (more_actuals a rest) at n = actual_same s a at n

  pub first_address_same : (s : Site) (args : ActualTrees) (at n : ℕ) → (first_address s args).put at n ≡ first_address_list (ways_of s) args
  first_address_same s no_actuals at n = refl
  first_address_same s (more_actuals a rest) at n = lent_same s a at n

  pub actual_same : (s : Site) (a : ActualTree) (at n : ℕ) → (actual_code s a).put at n ≡ actual_list (ways_of s) a
  actual_same s (actual e) at n = expr_same s e at n
  actual_same s (actual_width e w) at n = expr_same s e at n

  pub lent_same : (s : Site) (a : ActualTree) (at n : ℕ) → (lent_code s a).put at n ≡ lent_list (ways_of s) a
  lent_same s (actual e) at n = variable_same s e at n
  lent_same s (actual_width e w) at n = variable_same s e at n

  pub variable_same : (s : Site) (e : ExprTree) (at n : ℕ) → (variable_code s e).put at n ≡ variable_list (ways_of s) e
  variable_same s (related a r u p) at n = refl
  variable_same s (plain (sum (Some sign) t us) p) at n = refl
  variable_same s (plain (sum None (product (number k q) ms) (more_summands op t us)) p) at n = refl
  variable_same s (plain (sum None (product (number k q) (more_multipliers op g ms)) no_summands) p) at n = refl
  variable_same s (plain (sum None (product (number k q) no_multipliers) no_summands) p) at n = refl
  variable_same s (plain (sum None (product (literal x q) ms) (more_summands op t us)) p) at n = refl
  variable_same s (plain (sum None (product (literal x q) (more_multipliers op g ms)) no_summands) p) at n = refl
  variable_same s (plain (sum None (product (literal x q) no_multipliers) no_summands) p) at n = refl
  variable_same s (plain (sum None (product (negation f q) ms) (more_summands op t us)) p) at n = refl
  variable_same s (plain (sum None (product (negation f q) (more_multipliers op g ms)) no_summands) p) at n = refl
  variable_same s (plain (sum None (product (negation f q) no_multipliers) no_summands) p) at n = refl
  variable_same s (plain (sum None (product (paren e q) ms) (more_summands op t us)) p) at n = refl
  variable_same s (plain (sum None (product (paren e q) (more_multipliers op g ms)) no_summands) p) at n = refl
  variable_same s (plain (sum None (product (paren e q) no_multipliers) no_summands) p) at n = refl
  variable_same s (plain (sum None (product (applied (desig x ss r) (more_actuals a args) q) ms) (more_summands op t us)) p) at n = refl
  variable_same s (plain (sum None (product (applied (desig x ss r) (more_actuals a args) q) (more_multipliers op g ms)) no_summands) p) at n = refl
  variable_same s (plain (sum None (product (applied (desig x ss r) (more_actuals a args) q) no_multipliers) no_summands) p) at n = refl
  variable_same s (plain (sum None (product (applied (desig x ss r) no_actuals q) (more_multipliers op g ms)) (more_summands o t us)) p) at n = refl
  variable_same s (plain (sum None (product (applied (desig x ss r) no_actuals q) no_multipliers) (more_summands o t us)) p) at n = refl
  variable_same s (plain (sum None (product (applied (desig x ss r) no_actuals q) (more_multipliers op g ms)) no_summands) p) at n = refl
  variable_same s (plain (sum None (product (applied (desig x ss r) no_actuals q) no_multipliers) no_summands) p) at n =
      let v = spot_of s.env (find s.env x) in behind_base s v (selectors_code s v.t ss) (selectors_list (ways_of s) v.t ss) (selectors_same s v.t ss) at n

  pub args_same : (s : Site) (formals : List Formal) (args : ActualTrees) (at n : ℕ) → (args_code s formals args).put at n ≡ args_list (ways_of s) formals args
  args_same s formals no_actuals at n = refl
  args_same s [] (more_actuals a rest) at n = refl
  args_same s (f ∷ formals) (more_actuals a rest) at n =
      both
      (either_same f.reference (lent_code s a) (actual_code s a) (lent_list (ways_of s) a) (actual_list (ways_of s) a) (lent_same s a) (actual_same s a) at n)
      (args_same s formals rest _ _)

  pub selectors_same : (s : Site) (t : Option TypeId) (ss : SelectorTrees) (at n : ℕ) → (selectors_code s t ss).put at n ≡ selectors_list (ways_of s) t ss
  selectors_same s t no_selectors at n = refl
  selectors_same s t (more_selectors (index es p) ss) at n =
      both (indices_same s t es at n) (selectors_same s (type_behind (forms_of s) t es) ss _ _)
  selectors_same s t (more_selectors (field x p) ss) at n = next (selectors_same s (field_type (forms_of s) t x) ss _ _)

  pub indices_same : (s : Site) (t : Option TypeId) (es : ExprTrees) (at n : ℕ) → (indices_code s t es).put at n ≡ indices_list (ways_of s) t es
  indices_same s t no_exprs at n = refl
  indices_same s t (more_exprs e es) at n = both (expr_same s e at n) (next (indices_same s (element_in (forms_of s) t) es _ _))

-- a part of a variable
pub part_same :
    (s : Site) (v : TypedSpot) (ss : SelectorTrees) (at n : ℕ) → (base_code s v.spot ⨾ selectors_code s v.t ss).put at n ≡ part_list (ways_of s) v ss
part_same s v ss at n = behind_base s v (selectors_code s v.t ss) (selectors_list (ways_of s) v.t ss) (selectors_same s v.t ss) at n

pub desig_same : (s : Site) (d : DesigTree) (at n : ℕ) → (desig_code s d).put at n ≡ desig_list (ways_of s) d
desig_same s (desig x ss p) at n = part_same s (spot_of s.env (find s.env x)) ss at n

pub object_same : (s : Site) (d : DesigTree) (at n : ℕ) → (object_code s d).put at n ≡ object_list (ways_of s) d
object_same s d at n = both (desig_same s d at n) refl
