-- The code of an expression adds few numbers: by induction over it.
use Rattle.std.proofs.Common.{◌≡◌, ℕ, ◌+◌, ◌*◌, Bool, true, false, List, [], ◌∷◌, Option, Some, None, cond, refl, arith}
use Rattle.pfc_base.specs.declared.places.Place.{Place}
use Rattle.pfc_tree.specs.declared.tree.Sign.{Sign}
use Rattle.pfc_tree.specs.declared.tree.Sign.TheVariants.{Plus, Minus}
use Rattle.pfc_tree.specs.declared.tree.Relation.{Relation}
use Rattle.pfc_tree.specs.declared.tree.Relation.TheVariants.{Eq, Ne, Lt, Le, Gt, Ge}
use Rattle.pfc_tree.specs.declared.tree.AddOp.{AddOp}
use Rattle.pfc_tree.specs.declared.tree.AddOp.TheVariants.{Add, Sub as Minused, Or}
use Rattle.pfc_tree.specs.declared.tree.MulOp.{MulOp}
use Rattle.pfc_tree.specs.declared.tree.MulOp.TheVariants.{Mul, Div, Mod, And}
use Rattle.pfc_tree.specs.trees.Exprs.{ExprTree, SimpleTree, SummandTrees, TermTree, MultiplierTrees, FactorTree, DesigTree, SelectorTrees, ExprTrees}
use Rattle.pfc_tree.specs.trees.Exprs.{ActualTree, ActualTrees, plain, related, sum, no_summands, more_summands, product, no_multipliers, more_multipliers}
use Rattle.pfc_tree.specs.trees.Exprs.{number, literal, negation, paren, applied, desig, index, field, no_selectors, more_selectors, no_exprs, more_exprs}
use Rattle.pfc_tree.specs.trees.Exprs.{actual, actual_width, no_actuals, more_actuals}
use Rattle.pfc_types.specs.declared.types.TypeId.{TypeId}
use Rattle.pfc_types.specs.declared.types.TypeForm.{TypeForm}
use Rattle.pfc_types.specs.declared.types.TypeForm.TheVariants.{Channel, Array, Record, Process as ProcessForm}
use Rattle.pfc_types.specs.declared.scope.Meaning.{Meaning}
use Rattle.pfc_types.specs.declared.scope.Meaning.TheVariants.{Constant, Named, Variable, Sub, Module, Process, Entry, Predeclared, Faulty}
use Rattle.pfc_types.specs.declared.heads.Formal.{Formal}
use Rattle.pfc_types.specs.declared.view.Found.{Found}
use Rattle.pfc_types.specs.Types.{Forms}
use Rattle.pfc_types.specs.Scopes.{meaning_of}
use Rattle.pfc_types.specs.Blocks.{sub_at}
use Rattle.pfc_types.specs.rules.Expressions.{find, first_type, field_type, selected}
use Rattle.pfc_semantics.specs.Operators.{simple_of}
use Rattle.pfc_semantics.specs.Displays.{Spot}
use Rattle.pfc_semantics.specs.Predeclared.{Function, abs, sqr, odd, ord, chr, succ, pred, eof, eoln, empty, clock, random, no_function, function_of}
use Rattle.pfc_semantics.specs.Expressions.{spot_of, char_in, form_in}
use Rattle.pfc_code.specs.declared.instructions.Instr.TheVariants.{LIT, ADDR, REF, FLD, LOAD, OBJ, NEG, ABS, SQR, ODD, CHR, SUCC, PRED, NOT, EMPTY, CLOCK}
use Rattle.pfc_code.specs.declared.instructions.Instr.TheVariants.{RAND, EOF, EOLN}
use Rattle.pfc_translation.specs.Sites.{Site, forms_of, blocks_of, type_cells, refers, links_to, cell_of}
use Rattle.pfc_translation.specs.Codes.{Code, ◌⨾◌, one}
use Rattle.pfc_translation.specs.Addresses.{base_code, type_behind, element_in, index_instr, field_cell}
use Rattle.pfc_translation.specs.Expressions.{expr_code, simple_code, summands_code, term_code, multipliers_code, factor_code, sign_code, first_value}
use Rattle.pfc_translation.specs.Expressions.{first_address, actual_code, lent_code, variable_code, args_code, selectors_code, indices_code, name_code}
use Rattle.pfc_translation.specs.Expressions.{function_code, relation_instr, add_instr, multiply_instr, simple_number, call_instr, address_code, desig_code}
use Rattle.pfc_translation.specs.Expressions.{object_code}
use Rattle.pfc_step_laws.specs.Nodes.{sign_nodes, expr_nodes, simple_nodes, summands_nodes, term_nodes, multipliers_nodes, factor_nodes, desig_nodes}
use Rattle.pfc_step_laws.specs.Nodes.{selectors_nodes, exprs_nodes, actual_nodes, actuals_nodes}
use Rattle.pfc_step_laws.proofs.Ahead.{way, on}
use Rattle.pfc_step_laws.proofs.Short.{Short, more, no_code, both, lone, one_of}

-- ## Instructions

relation : (r : Relation) → way (relation_instr r) ≡ on
relation Eq = refl
relation Ne = refl
relation Lt = refl
relation Le = refl
relation Gt = refl
relation Ge = refl

added : (r : AddOp) → way (add_instr r) ≡ on
added Add = refl
added Minused = refl
added Or = refl

multiplied : (r : MulOp) → way (multiply_instr r) ≡ on
multiplied Mul = refl
multiplied Div = refl
multiplied Mod = refl
multiplied And = refl

indexed : (forms : Forms) (t : Option TypeForm) → way (index_instr forms t) ≡ on
indexed forms None = refl
indexed forms (Some (Channel t)) = refl
indexed forms (Some (Array over low high element)) = refl
indexed forms (Some (Record fields)) = refl
indexed forms (Some (ProcessForm n)) = refl

signed : (s : Site) (sign : Option (Sign × Place)) → Short (sign_code s sign) (sign_nodes sign)
signed s None = no_code
signed s (Some (Plus, p)) = more no_code (omega arith)
signed s (Some (Minus, p)) = lone s NEG refl

pub base : (s : Site) (v : Spot) → Short (base_code s v) 1
base s v = by (refers s v)
  where
    by : (r : Bool) → Short (one s (cond r (REF (links_to s v.scope) (cell_of s v)) (ADDR (links_to s v.scope) (cell_of s v)))) 1
    by true = lone s (REF (links_to s v.scope) (cell_of s v)) refl
    by false = lone s (ADDR (links_to s v.scope) (cell_of s v)) refl

-- ## Names

a_function :
    (s : Site) (f : Function) (t : Option TypeId) (value address : Code) (k : ℕ) → Short value k → Short address k
    → Short (function_code s f t value address) (k + 2)
a_function s abs t value address k v a = more (both v (lone s ABS refl)) (omega arith)
a_function s sqr t value address k v a = more (both v (lone s SQR refl)) (omega arith)
a_function s odd t value address k v a = more (both v (lone s ODD refl)) (omega arith)
a_function s ord t value address k v a = more v (omega arith)
a_function s chr t value address k v a = more (both v (lone s CHR refl)) (omega arith)
a_function s succ t value address k v a = more (both v (lone s (SUCC (simple_number (simple_of t))) refl)) (omega arith)
a_function s pred t value address k v a = more (both v (lone s (PRED (simple_number (simple_of t))) refl)) (omega arith)
a_function s eof t value address k v a = more (lone s EOF refl) (omega arith)
a_function s eoln t value address k v a = more (lone s EOLN refl) (omega arith)
a_function s empty t value address k v a = more (both a (both (lone s OBJ refl) (lone s EMPTY refl))) (omega arith)
a_function s clock t value address k v a = more (lone s CLOCK refl) (omega arith)
a_function s random t value address k v a = more (both v (lone s RAND refl)) (omega arith)
a_function s no_function t value address k v a = more no_code (omega arith)

pub a_sub_call : (s : Site) (n : ℕ) (c : Code) (k : ℕ) → Short c k → Short (c ⨾ one s (call_instr s (sub_at (blocks_of s) n))) (k + 1)
a_sub_call s n c k p = both p (lone s (call_instr s (sub_at (blocks_of s) n)) refl)

a_name :
    (s : Site) (x : Option Meaning) (ss : SelectorTrees) (address : Code) (args : List Formal → Code) (predeclared : Function → Code) (k : ℕ)
    → Short address k → ((formals : List Formal) → Short (args formals) k) → ((f : Function) → Short (predeclared f) (k + 2))
    → Short (name_code s x ss address args predeclared) (k + 2)
a_name s None ss address args predeclared k a g p = more no_code (omega arith)
a_name s (Some (Constant t v)) ss address args predeclared k a g p = more (lone s (LIT v) refl) (omega arith)
a_name s (Some (Named t)) ss address args predeclared k a g p = more no_code (omega arith)
a_name s (Some (Variable t reference)) ss address args predeclared k a g p =
    more (both a (lone s (LOAD (type_cells (forms_of s) (selected s.env (Some t) ss))) refl)) (omega arith)
a_name s (Some (Sub n)) ss address args predeclared k a g p =
    more (a_sub_call s n (args (sub_at (blocks_of s) n).formals) k (g (sub_at (blocks_of s) n).formals)) (omega arith)
a_name s (Some (Module n)) ss address args predeclared k a g p = more no_code (omega arith)
a_name s (Some (Process n)) ss address args predeclared k a g p = more no_code (omega arith)
a_name s (Some (Entry n)) ss address args predeclared k a g p = more no_code (omega arith)
a_name s (Some (Predeclared n)) ss address args predeclared k a g p = p (function_of n)
a_name s (Some Faulty) ss address args predeclared k a g p = more no_code (omega arith)

-- ## Expressions

-- the nodes of an expression but itself
abbrev pub inside : ExprTree → ℕ
inside (plain a p) = simple_nodes a
inside (related a r b p) = 1 + simple_nodes a + simple_nodes b

pub inside_is : (e : ExprTree) → expr_nodes e ≡ 1 + inside e
inside_is (plain a p) = refl
inside_is (related a r b p) = omega arith

mutual
  pub expr : (s : Site) (e : ExprTree) → Short (expr_code s e) (2 * inside e)
  expr s (plain a p) = simple s a
  expr s (related a r b p) = more (both (simple s a) (both (simple s b) (lone s (relation_instr r.0) (relation r.0)))) (omega arith)

  simple : (s : Site) (e : SimpleTree) → Short (simple_code s e) (2 * simple_nodes e)
  simple s (sum sign first rest) = more (both (term s first) (both (signed s sign) (summands s rest))) (omega arith)

  summands : (s : Site) (e : SummandTrees) → Short (summands_code s e) (2 * summands_nodes e)
  summands s no_summands = no_code
  summands s (more_summands op t rest) = more (both (term s t) (both (lone s (add_instr op.0) (added op.0)) (summands s rest))) (omega arith)

  term : (s : Site) (e : TermTree) → Short (term_code s e) (2 * term_nodes e)
  term s (product f rest) = more (both (factor s f) (multipliers s rest)) (omega arith)

  multipliers : (s : Site) (e : MultiplierTrees) → Short (multipliers_code s e) (2 * multipliers_nodes e)
  multipliers s no_multipliers = no_code
  multipliers s (more_multipliers op f rest) =
      more (both (factor s f) (both (lone s (multiply_instr op.0) (multiplied op.0)) (multipliers s rest))) (omega arith)

  factor : (s : Site) (e : FactorTree) → Short (factor_code s e) (2 * factor_nodes e)
  factor s (number n p) = more (lone s (LIT n) refl) (omega arith)
  factor s (literal x p) = more (lone s (LIT (char_in x)) refl) (omega arith)
  factor s (negation f p) = more (both (factor s f) (lone s NOT refl)) (omega arith)
  factor s (paren e p) = let room = inside_is e in more (expr s e) (omega (arith, room))
  factor s (applied (desig x ss q) args p) =
      let found = find s.env x in
      let v = spot_of s.env found in
      let k = 1 + 2 * selectors_nodes ss + 2 * actuals_nodes args in
      more
      (a_name s (meaning_of found) ss (base_code s v.spot ⨾ selectors_code s v.t ss) (λ formals. args_code s formals args)
      (λ f. function_code s f (first_type s.env args) (first_value s args) (first_address s args)) k
      (more (both (base s v.spot) (selectors s v.t ss)) (omega arith))
      (λ formals. more (arguments s formals args) (omega arith))
      (λ f.
      a_function s f (first_type s.env args) (first_value s args) (first_address s args) k (more (a_value s args) (omega arith))
      (more (an_address s args) (omega arith))))
      (omega arith)

  pub a_value : (s : Site) (args : ActualTrees) → Short (first_value s args) (2 * actuals_nodes args)
  a_value s no_actuals = no_code
  a_value s (more_actuals a rest) = more (an_actual s a) (omega arith)

  pub an_address : (s : Site) (args : ActualTrees) → Short (first_address s args) (2 * actuals_nodes args)
  an_address s no_actuals = no_code
  an_address s (more_actuals a rest) = more (lent s a) (omega arith)

  an_actual : (s : Site) (a : ActualTree) → Short (actual_code s a) (2 * actual_nodes a)
  an_actual s (actual e) = let room = inside_is e in more (expr s e) (omega (arith, room))
  an_actual s (actual_width e w) = let room = inside_is e in more (expr s e) (omega (arith, room))

  lent : (s : Site) (a : ActualTree) → Short (lent_code s a) (2 * actual_nodes a)
  lent s (actual e) = more (variable s e) (omega arith)
  lent s (actual_width e w) = more (variable s e) (omega arith)

  variable : (s : Site) (e : ExprTree) → Short (variable_code s e) (2 * expr_nodes e)
  variable s (related a r u p) = more no_code (omega arith)
  variable s (plain (sum (Some sign) t us) p) = more no_code (omega arith)
  variable s (plain (sum None (product (number k q) ms) us) p) = more no_code (omega arith)
  variable s (plain (sum None (product (literal x q) ms) us) p) = more no_code (omega arith)
  variable s (plain (sum None (product (negation f q) ms) us) p) = more no_code (omega arith)
  variable s (plain (sum None (product (paren e q) ms) us) p) = more no_code (omega arith)
  variable s (plain (sum None (product (applied (desig x ss r) (more_actuals a args) q) ms) us) p) = more no_code (omega arith)
  variable s (plain (sum None (product (applied (desig x ss r) no_actuals q) (more_multipliers op f ms)) us) p) = more no_code (omega arith)
  variable s (plain (sum None (product (applied (desig x ss r) no_actuals q) no_multipliers) (more_summands op t us)) p) = more no_code (omega arith)
  variable s (plain (sum None (product (applied (desig x ss r) no_actuals q) no_multipliers) no_summands) p) =
      let v = spot_of s.env (find s.env x) in more (both (base s v.spot) (selectors s v.t ss)) (omega arith)

  pub arguments : (s : Site) (formals : List Formal) (args : ActualTrees) → Short (args_code s formals args) (2 * actuals_nodes args)
  arguments s formals no_actuals = no_code
  arguments s [] (more_actuals a rest) = more no_code (omega arith)
  arguments s (f ∷ formals) (more_actuals a rest) =
      more
      (both (one_of f.reference (lent_code s a) (actual_code s a) 0 (2 * actual_nodes a) (lent s a) (an_actual s a)) (arguments s formals rest))
      (omega arith)

  pub selectors : (s : Site) (t : Option TypeId) (ss : SelectorTrees) → Short (selectors_code s t ss) (2 * selectors_nodes ss)
  selectors s t no_selectors = no_code
  selectors s t (more_selectors (index es p) ss) =
      more (both (indices s t es) (selectors s (type_behind (forms_of s) t es) ss)) (omega arith)
  selectors s t (more_selectors (field x p) ss) =
      more (both (lone s (FLD (field_cell (forms_of s) (form_in (forms_of s) t) x)) refl) (selectors s (field_type (forms_of s) t x) ss)) (omega arith)

  indices : (s : Site) (t : Option TypeId) (es : ExprTrees) → Short (indices_code s t es) (2 * exprs_nodes es)
  indices s t no_exprs = no_code
  indices s t (more_exprs e es) =
      let room = inside_is e in
      more
      (both (expr s e)
      (both (lone s (index_instr (forms_of s) (form_in (forms_of s) t)) (indexed (forms_of s) (form_in (forms_of s) t)))
      (indices s (element_in (forms_of s) t) es)))
      (omega (arith, room))

-- an address takes one more than its selectors
pub address : (s : Site) (found : Option Found) (ss : SelectorTrees) → Short (address_code s found ss) (1 + 2 * selectors_nodes ss)
address s found ss = let v = spot_of s.env found in both (base s v.spot) (selectors s v.t ss)

pub designated : (s : Site) (d : DesigTree) → Short (desig_code s d) (2 * desig_nodes d)
designated s (desig x ss p) = more (address s (find s.env x) ss) (omega arith)

pub an_object : (s : Site) (d : DesigTree) → Short (object_code s d) (2 * desig_nodes d)
an_object s (desig x ss p) = more (both (address s (find s.env x) ss) (lone s OBJ refl)) (omega arith)
