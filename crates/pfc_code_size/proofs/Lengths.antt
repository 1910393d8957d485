-- The code of each phrase has as many instructions as are counted for it, wherever it is put: by induction over the phrases.
use Rattle.std.proofs.Common.{◌≡◌, ◌+◌, ℕ, Bool, true, false, List, [], ◌∷◌, length, Option, Some, None, if◌then◌else◌, refl, arith, length-append}
use Rattle.pfc_base.specs.declared.places.Place.{Place}
use Rattle.pfc_tree.specs.declared.tree.Sign.{Sign}
use Rattle.pfc_tree.specs.declared.tree.Sign.TheVariants.{Plus, Minus}
use Rattle.pfc_tree.specs.trees.Exprs.{ExprTree, SimpleTree, SummandTrees, TermTree, MultiplierTrees, FactorTree, DesigTree, SelectorTrees, ExprTrees}
use Rattle.pfc_tree.specs.trees.Exprs.{ActualTree, ActualTrees, plain, related, sum, no_summands, more_summands, product, no_multipliers, more_multipliers}
use Rattle.pfc_tree.specs.trees.Exprs.{number, literal, negation, paren, applied, desig, index, field, no_selectors, more_selectors, no_exprs, more_exprs}
use Rattle.pfc_tree.specs.trees.Exprs.{actual, actual_width, no_actuals, more_actuals}
use Rattle.pfc_types.specs.declared.types.TypeId.{TypeId}
use Rattle.pfc_types.specs.declared.scope.Meaning.{Meaning}
use Rattle.pfc_types.specs.declared.scope.Meaning.TheVariants.{Constant, Named, Variable, Sub, Module, Process, Entry, Predeclared, Faulty}
use Rattle.pfc_types.specs.declared.heads.Formal.{Formal}
use Rattle.pfc_types.specs.Scopes.{meaning_of}
use Rattle.pfc_types.specs.Blocks.{sub_at}
use Rattle.pfc_types.specs.rules.Expressions.{find, first_type, field_type}
use Rattle.pfc_semantics.specs.Displays.{Spot}
use Rattle.pfc_semantics.specs.Expressions.{spot_of}
use Rattle.pfc_semantics.specs.Predeclared.{Function, abs, sqr, odd, ord, chr, succ, pred, eof, eoln, empty, clock, random, no_function, function_of}
use Rattle.pfc_translation.specs.Sites.{Site, forms_of, blocks_of}
use Rattle.pfc_translation.specs.Codes.{Code, ◌⨾◌}
use Rattle.pfc_translation.specs.Addresses.{base_code, type_behind, element_in}
use Rattle.pfc_translation.specs.Expressions.{expr_code, simple_code, summands_code, term_code, multipliers_code, factor_code, sign_code, first_value}
use Rattle.pfc_translation.specs.Expressions.{first_address, actual_code, lent_code, variable_code, args_code, selectors_code, indices_code, name_code}
use Rattle.pfc_translation.specs.Expressions.{function_code, desig_code, object_code}
use Rattle.pfc_code_size.specs.Expressions.{expr_size, simple_size, summands_size, term_size, multipliers_size, factor_size, sign_size, first_value_size}
use Rattle.pfc_code_size.specs.Expressions.{first_address_size, actual_size, lent_size, variable_size, args_size, selectors_size, indices_size, name_size}
use Rattle.pfc_code_size.specs.Expressions.{function_size, desig_size, object_size}

sign_length : (s : Site) (sign : Option (Sign × Place)) (at n : ℕ) → length ((sign_code s sign).put at n) ≡ sign_size sign
sign_length s None at n = refl
sign_length s (Some (Plus, p)) at n = refl
sign_length s (Some (Minus, p)) at n = refl

function_length :
    (s : Site) (f : Function) (t : Option TypeId) (value address : Code) (j k : ℕ)
    → ((at n : ℕ) → length (value.put at n) ≡ j) → ((at n : ℕ) → length (address.put at n) ≡ k)
    → (at n : ℕ) → length ((function_code s f t value address).put at n) ≡ function_size f j k
function_length s abs t value address j k v a at n = grind (arith, length-append, v)
function_length s sqr t value address j k v a at n = grind (arith, length-append, v)
function_length s odd t value address j k v a at n = grind (arith, length-append, v)
function_length s ord t value address j k v a at n = v at n
function_length s chr t value address j k v a at n = grind (arith, length-append, v)
function_length s succ t value address j k v a at n = grind (arith, length-append, v)
function_length s pred t value address j k v a at n = grind (arith, length-append, v)
function_length s eof t value address j k v a at n = refl
function_length s eoln t value address j k v a at n = refl
function_length s empty t value address j k v a at n = grind (arith, length-append, a)
function_length s clock t value address j k v a at n = refl
function_length s random t value address j k v a at n = grind (arith, length-append, v)
function_length s no_function t value address j k v a at n = refl

name_length :
    (s : Site) (m : Option Meaning) (ss : SelectorTrees) (address : Code) (args : List Formal → Code) (predeclared : Function → Code)
    (j : ℕ) (k : List Formal → ℕ) (l : Function → ℕ)
    → ((at n : ℕ) → length (address.put at n) ≡ j)
    → ((formals : List Formal) (at n : ℕ) → length ((args formals).put at n) ≡ k formals)
    → ((f : Function) (at n : ℕ) → length ((predeclared f).put at n) ≡ l f)
    → (at n : ℕ) → length ((name_code s m ss address args predeclared).put at n) ≡ name_size (blocks_of s) m j k l
name_length s None ss address args predeclared j k l a g p at n = refl
name_length s (Some (Constant t v)) ss address args predeclared j k l a g p at n = refl
name_length s (Some (Named t)) ss address args predeclared j k l a g p at n = refl
name_length s (Some (Variable t reference)) ss address args predeclared j k l a g p at n = grind (arith, length-append, a)
name_length s (Some (Sub i)) ss address args predeclared j k l a g p at n = grind (arith, length-append, g (sub_at (blocks_of s) i).formals)
name_length s (Some (Module i)) ss address args predeclared j k l a g p at n = refl
name_length s (Some (Process i)) ss address args predeclared j k l a g p at n = refl
name_length s (Some (Entry i)) ss address args predeclared j k l a g p at n = refl
name_length s (Some (Predeclared i)) ss address args predeclared j k l a g p at n = p (function_of i) at n
name_length s (Some Faulty) ss address args predeclared j k l a g p at n = refl

either_length :
    (r : Bool) (a b : Code) (j k : ℕ) → ((at n : ℕ) → length (a.put at n) ≡ j) → ((at n : ℕ) → length (b.put at n) ≡ k)
    → (at n : ℕ) → length ((if r then a else b).put at n) ≡ (if r then j else k)
either_length true a b j k p q at n = p at n
either_length false a b j k p q at n = q at n

-- selectors behind the address of a variable
behind_base : (s : Site) (v : Spot) (c : Code) (k : ℕ) → ((at n : ℕ) → length (c.put at n) ≡ k) → (at n : ℕ) → length ((base_code s v ⨾ c).put at n) ≡ 1 + k
behind_base s v c k is at n = grind (arith, length-append, is)

mutual
  pub expr_length : (s : Site) (e : ExprTree) (at n : ℕ) → length ((expr_code s e).put at n) ≡ expr_size (blocks_of s) s.env e
  expr_length s (plain x p) at n = simple_length s x at n
  expr_length s (related x r y p) at n = grind (arith, length-append, simple_length s x, simple_length s y)

  pub simple_length : (s : Site) (e : SimpleTree) (at n : ℕ) → length ((simple_code s e).put at n) ≡ simple_size (blocks_of s) s.env e
  simple_length s (sum sign first rest) at n = grind (arith, length-append, term_length s first, sign_length s sign, summands_length s rest)

  pub summands_length : (s : Site) (e : SummandTrees) (at n : ℕ) → length ((summands_code s e).put at n) ≡ summands_size (blocks_of s) s.env e
  summands_length s no_summands at n = refl
  summands_length s (more_summands op t rest) at n = grind (arith, length-append, term_length s t, summands_length s rest)

  pub term_length : (s : Site) (e : TermTree) (at n : ℕ) → length ((term_code s e).put at n) ≡ term_size (blocks_of s) s.env e
  term_length s (product f rest) at n = grind (arith, length-append, factor_length s f, multipliers_length s rest)

  pub multipliers_length :
      (s : Site) (e : MultiplierTrees) (at n : ℕ) → length ((multipliers_code s e).put at n) ≡ multipliers_size (blocks_of s) s.env e
  multipliers_length s no_multipliers at n = refl
  multipliers_length s (more_multipliers op f rest) at n = grind (arith, length-append, factor_length s f, multipliers_length s rest)

  pub factor_length : (s : Site) (e : FactorTree) (at n : ℕ) → length ((factor_code s e).put at n) ≡ factor_size (blocks_of s) s.env e
  factor_length s (number k p) at n = refl
  factor_length s (literal x p) at n = refl
  factor_length s (negation f p) at n = grind (arith, length-append, factor_length s f)
  factor_length s (paren e p) at n = expr_length s e at n
  factor_length s (applied (desig x ss q) args p) at n =
      let found = find s.env x in
      let v = spot_of s.env found in
      name_length s (meaning_of found) ss (base_code s v.spot ⨾ selectors_code s v.t ss) (λ formals. args_code s formals args)
      (λ f. function_code s f (first_type s.env args) (first_value s args) (first_address s args))
      (1 + selectors_size (blocks_of s) s.env ss) (λ formals. args_size (blocks_of s) s.env formals args)
      (λ f. function_size f (first_value_size (blocks_of s) s.env args) (first_address_size (blocks_of s) s.env args))
      (λ i j. behind_base s v.spot (selectors_code s v.t ss) (selectors_size (blocks_of s) s.env ss) (selectors_length s v.t ss) i j)
      (λ formals i j. args_length s formals args i j)
      (λ f i j. function_length s f (first_type s.env args) (first_value s args) (first_address s args) _ _
      (first_value_length s args) (first_address_length s args) i j)
      at n

  pub first_value_length :
      (s : Site) (args : ActualTrees) (at n : ℕ) → length ((first_value s args).put at n) ≡ first_value_size (blocks_of s) s.env args
  first_value_length s no_actuals at n = refl
  first_value_length s (more_actuals a rest) at n = actual_length s a at n

  pub first_address_length :
      (s : Site) (args : ActualTrees) (at n : ℕ) → length ((first_address s args).put at n) ≡ first_address_size (blocks_of s) s.env args
  first_address_length s no_actuals at n = refl
  first_address_length s (more_actuals a rest) at n = lent_length s a at n

  pub actual_length : (s : Site) (a : ActualTree) (at n : ℕ) → length ((actual_code s a).put at n) ≡ actual_size (blocks_of s) s.env a
  actual_length s (actual e) at n = expr_length s e at n
  actual_length s (actual_width e w) at n = expr_length s e at n

  pub lent_length : (s : Site) (a : ActualTree) (at n : ℕ) → length ((lent_code s a).put at n) ≡ lent_size (blocks_of s) s.env a
  lent_length s (actual e) at n = variable_length s e at n
  lent_length s (actual_width e w) at n = variable_length s e at n

  pub variable_length : (s : Site) (e : ExprTree) (at n : ℕ) → length ((variable_code s e).put at n) ≡ variable_size (blocks_of s) s.env e
  variable_length s (related a r u p) at n = refl
  variable_length s (plain (sum (Some sign) t us) p) at n = refl
  variable_length s (plain (sum None (product (number k q) ms) (more_summands op t us)) p) at n = refl
  variable_length s (plain (sum None (product (number k q) (more_multipliers op g ms)) no_summands) p) at n = refl
  variable_length s (plain (sum None (product (number k q) no_multipliers) no_summands) p) at n = refl
  variable_length s (plain (sum None (product (literal x q) ms) (more_summands op t us)) p) at n = refl
  variable_length s (plain (sum None (product (literal x q) (more_multipliers op g ms)) no_summands) p) at n = refl
  variable_length s (plain (sum None (product (literal x q) no_multipliers) no_summands) p) at n = refl
  variable_length s (plain (sum None (product (negation f q) ms) (more_summands op t us)) p) at n = refl
  variable_length s (plain (sum None (product (negation f q) (more_multipliers op g ms)) no_summands) p) at n = refl
  variable_length s (plain (sum None (product (negation f q) no_multipliers) no_summands) p) at n = refl
  variable_length s (plain (sum None (product (paren e q) ms) (more_summands op t us)) p) at n = refl
  variable_length s (plain (sum None (product (paren e q) (more_multipliers op g ms)) no_summands) p) at n = refl
  variable_length s (plain (sum None (product (paren e q) no_multipliers) no_summands) p) at n = refl
  variable_length s (plain (sum None (product (applied (desig x ss r) (more_actuals a args) q) ms) (more_summands op t us)) p) at n = refl
  variable_length s (plain (sum None (product (applied (desig x ss r) (more_actuals a args) q) (more_multipliers op g ms)) no_summands) p) at n = refl
  variable_length s (plain (sum None (product (applied (desig x ss r) (more_actuals a args) q) no_multipliers) no_summands) p) at n = refl
  variable_length s (plain (sum None (product (applied (desig x ss r) no_actuals q) (more_multipliers op g ms)) (more_summands o t us)) p) at n = refl
  variable_length s (plain (sum None (product (applied (desig x ss r) no_actuals q) no_multipliers) (more_summands o t us)) p) at n = refl
  variable_length s (plain (sum None (product (applied (desig x ss r) no_actuals q) (more_multipliers op g ms)) no_summands) p) at n = refl
  variable_length s (plain (sum None (product (applied (desig x ss r) no_actuals q) no_multipliers) no_summands) p) at n =
      let v = spot_of s.env (find s.env x) in
      behind_base s v.spot (selectors_code s v.t ss) (selectors_size (blocks_of s) s.env ss) (selectors_length s v.t ss) at n

  pub args_length :
      (s : Site) (formals : List Formal) (args : ActualTrees) (at n : ℕ)
      → length ((args_code s formals args).put at n) ≡ args_size (blocks_of s) s.env formals args
  args_length s formals no_actuals at n = refl
  args_length s [] (more_actuals a rest) at n = refl
  args_length s (f ∷ formals) (more_actuals a rest) at n =
      let first = either_length f.reference (lent_code s a) (actual_code s a) _ _ (lent_length s a) (actual_length s a) in
      grind (arith, length-append, first, args_length s formals rest)

  pub selectors_length :
      (s : Site) (t : Option TypeId) (ss : SelectorTrees) (at n : ℕ)
      → length ((selectors_code s t ss).put at n) ≡ selectors_size (blocks_of s) s.env ss
  selectors_length s t no_selectors at n = refl
  selectors_length s t (more_selectors (index es p) ss) at n =
      grind (arith, length-append, indices_length s t es, selectors_length s (type_behind (forms_of s) t es) ss)
  selectors_length s t (more_selectors (field x p) ss) at n =
      grind (arith, length-append, selectors_length s (field_type (forms_of s) t x) ss)

  pub indices_length :
      (s : Site) (t : Option TypeId) (es : ExprTrees) (at n : ℕ) → length ((indices_code s t es).put at n) ≡ indices_size (blocks_of s) s.env es
  indices_length s t no_exprs at n = refl
  indices_length s t (more_exprs e es) at n =
      grind (arith, length-append, expr_length s e, indices_length s (element_in (forms_of s) t) es)

-- a part of a variable
pub part_length :
    (s : Site) (v : Spot) (t : Option TypeId) (ss : SelectorTrees) (at n : ℕ)
    → length ((base_code s v ⨾ selectors_code s t ss).put at n) ≡ 1 + selectors_size (blocks_of s) s.env ss
part_length s v t ss at n = behind_base s v (selectors_code s t ss) (selectors_size (blocks_of s) s.env ss) (selectors_length s t ss) at n

pub desig_length : (s : Site) (d : DesigTree) (at n : ℕ) → length ((desig_code s d).put at n) ≡ desig_size (blocks_of s) s.env d
desig_length s (desig x ss p) at n = let v = spot_of s.env (find s.env x) in part_length s v.spot v.t ss at n

pub object_length : (s : Site) (d : DesigTree) (at n : ℕ) → length ((object_code s d).put at n) ≡ object_size (blocks_of s) s.env d
object_length s d at n = grind (arith, length-append, desig_length s d)
