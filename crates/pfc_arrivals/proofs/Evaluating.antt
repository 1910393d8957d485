-- What the code of an expression is made of: no jumps, no guard's end, and no alternatives. By induction over its phrases.
use Rattle.std.proofs.Common.{◌≡◌, ℕ, ◌+◌, ◌++◌, Bool, true, false, List, [], ◌∷◌, length, Option, Some, None, cond, if◌then◌else◌, refl}
use Rattle.pfc_translation.specs.Codes.{Lined}
use Rattle.pfc_base.specs.declared.places.Place.{Place}
use Rattle.pfc_tree.specs.declared.tree.Sign.{Sign}
use Rattle.pfc_tree.specs.declared.tree.Sign.TheVariants.{Plus, Minus}
use Rattle.pfc_tree.specs.trees.Exprs.{ExprTree, SimpleTree, SummandTrees, TermTree, MultiplierTrees, FactorTree, SelectorTrees, ExprTrees, ActualTree}
use Rattle.pfc_tree.specs.trees.Exprs.{ActualTrees, plain, related, sum, no_summands, more_summands, product, no_multipliers, more_multipliers, number, literal}
use Rattle.pfc_tree.specs.trees.Exprs.{negation, paren, applied, desig, index, field, no_selectors, more_selectors, no_exprs, more_exprs, actual, actual_width}
use Rattle.pfc_tree.specs.trees.Exprs.{no_actuals, more_actuals}
use Rattle.pfc_types.specs.declared.types.TypeId.{TypeId}
use Rattle.pfc_types.specs.declared.scope.Meaning.{Meaning}
use Rattle.pfc_types.specs.declared.scope.Meaning.TheVariants.{Constant, Named, Variable, Sub, Module, Process, Entry, Predeclared, Faulty}
use Rattle.pfc_types.specs.declared.heads.Formal.{Formal}
use Rattle.pfc_types.specs.Scopes.{meaning_of}
use Rattle.pfc_types.specs.Blocks.{sub_at}
use Rattle.pfc_types.specs.rules.Expressions.{find, first_type, field_type, selected}
use Rattle.pfc_semantics.specs.Expressions.{spot_of, char_in, form_in}
use Rattle.pfc_semantics.specs.Operators.{simple_of}
use Rattle.pfc_code.specs.declared.instructions.Instr.{Instr}
use Rattle.pfc_code.specs.declared.instructions.Instr.TheVariants.{LIT, ADDR, REF, FLD, LOAD, OBJ, NEG, ABS, SQR, ODD, CHR, SUCC, PRED, NOT, EMPTY, CLOCK, RAND}
use Rattle.pfc_code.specs.declared.instructions.Instr.TheVariants.{EOF, EOLN}
use Rattle.pfc_semantics.specs.Predeclared.{Function, abs, sqr, odd, ord, chr, succ, pred, eof, eoln, empty, clock, random, no_function, function_of}
use Rattle.pfc_translation.specs.Sites.{Site, forms_of, blocks_of, type_cells, links_to, cell_of, refers}
use Rattle.pfc_translation.specs.Codes.{Code, nothing, ◌⨾◌, one}
use Rattle.pfc_translation.specs.Addresses.{base_code, type_behind, element_in, index_instr, field_cell}
use Rattle.pfc_translation.specs.Expressions.{expr_code, simple_code, summands_code, term_code, multipliers_code, factor_code, sign_code, first_value}
use Rattle.pfc_translation.specs.Expressions.{first_address, actual_code, lent_code, variable_code, args_code, selectors_code, indices_code, name_code}
use Rattle.pfc_translation.specs.Expressions.{function_code, relation_instr, add_instr, multiply_instr, simple_number, call_instr}
use Rattle.pfc_tree.specs.declared.tree.Relation.{Relation}
use Rattle.pfc_tree.specs.declared.tree.Relation.TheVariants.{Eq, Ne, Lt, Le, Gt, Ge}
use Rattle.pfc_tree.specs.declared.tree.AddOp.{AddOp}
use Rattle.pfc_tree.specs.declared.tree.AddOp.TheVariants.{Add, Sub as Minused, Or}
use Rattle.pfc_tree.specs.declared.tree.MulOp.{MulOp}
use Rattle.pfc_tree.specs.declared.tree.MulOp.TheVariants.{Mul, Div, Mod, And}
use Rattle.pfc_types.specs.declared.types.TypeForm.{TypeForm}
use Rattle.pfc_types.specs.declared.types.TypeForm.TheVariants.{Channel, Array, Record, Process as ProcessForm}
use Rattle.pfc_types.specs.Types.{Forms}
use Rattle.pfc_code.specs.declared.instructions.Instr.TheVariants.{JMP, JF, FORB, FORT, CEQ, GRD, ARMS, ARMR, ARMA, ARMT, ARMX, SEL}

-- an instruction that stands in the code of an expression, or that might
abbrev pub may_evaluate : Instr → Bool
may_evaluate (JMP a) = false
may_evaluate (JF a) = false
may_evaluate (FORB d a) = false
may_evaluate (FORT d a) = false
may_evaluate (CEQ n a) = false
may_evaluate (GRD r) = false
may_evaluate (ARMS z a) = false
may_evaluate (ARMR z a) = false
may_evaluate (ARMA e d z a) = false
may_evaluate (ARMT a) = false
may_evaluate ARMX = false
may_evaluate (SEL p a) = false
may_evaluate i = true

abbrev pub AllEvaluate : Lined → Type 0
AllEvaluate [] = Unit {0}
AllEvaluate (c ∷ code) = (may_evaluate c.0 ≡ true) × AllEvaluate code

abbrev pub Evaluates : Code → Type 0
Evaluates c = (at n : ℕ) → AllEvaluate (c.put at n)

all_append : (xs ys : Lined) → AllEvaluate xs → AllEvaluate ys → AllEvaluate (xs ++ ys)
all_append [] ys h k = k
all_append (x ∷ xs) ys h k = (h.0, all_append xs ys h.1 k)

pub both : (a b : Code) → Evaluates a → Evaluates b → Evaluates (a ⨾ b)
both a b p q = λ at n. all_append (a.put at n) (b.put (at + a.size) (n + length a.texts)) (p at n) (q (at + a.size) (n + length a.texts))

pub evaluates_one : (s : Site) (i : Instr) → may_evaluate i ≡ true → Evaluates (one s i)
evaluates_one s i is = λ at n. (is, tt)

pub evaluates_nothing : Evaluates nothing
evaluates_nothing = λ at n. tt

pub relates : (r : Relation) → may_evaluate (relation_instr r) ≡ true
relates Eq = refl
relates Ne = refl
relates Lt = refl
relates Le = refl
relates Gt = refl
relates Ge = refl

pub adds : (r : AddOp) → may_evaluate (add_instr r) ≡ true
adds Add = refl
adds Minused = refl
adds Or = refl

pub multiplies : (r : MulOp) → may_evaluate (multiply_instr r) ≡ true
multiplies Mul = refl
multiplies Div = refl
multiplies Mod = refl
multiplies And = refl

pub indexes : (forms : Forms) (t : Option TypeForm) → may_evaluate (index_instr forms t) ≡ true
indexes forms None = refl
indexes forms (Some (Channel t)) = refl
indexes forms (Some (Array over low high element)) = refl
indexes forms (Some (Record fields)) = refl
indexes forms (Some (ProcessForm n)) = refl

addresses : (r : Bool) (l d : ℕ) → may_evaluate (if r then REF l d else ADDR l d) ≡ true
addresses true l d = refl
addresses false l d = refl

either : (r : Bool) (a b : Code) → Evaluates a → Evaluates b → Evaluates (cond r a b)
either true a b p q = p
either false a b p q = q

pub evaluates_sign : (s : Site) (sign : Option (Sign × Place)) → Evaluates (sign_code s sign)
evaluates_sign s None = evaluates_nothing
evaluates_sign s (Some (Plus, p)) = evaluates_nothing
evaluates_sign s (Some (Minus, p)) = evaluates_one s NEG refl

pub evaluates_function : (s : Site) (f : Function) (t : Option TypeId) (value address : Code) → Evaluates value → Evaluates address
    → Evaluates (function_code s f t value address)
evaluates_function s abs t value address v a = both value (one s ABS) v (evaluates_one s ABS refl)
evaluates_function s sqr t value address v a = both value (one s SQR) v (evaluates_one s SQR refl)
evaluates_function s odd t value address v a = both value (one s ODD) v (evaluates_one s ODD refl)
evaluates_function s ord t value address v a = v
evaluates_function s chr t value address v a = both value (one s CHR) v (evaluates_one s CHR refl)
evaluates_function s succ t value address v a = both value (one s (SUCC (simple_number (simple_of t)))) v
    (evaluates_one s (SUCC (simple_number (simple_of t))) refl)
evaluates_function s pred t value address v a = both value (one s (PRED (simple_number (simple_of t)))) v
    (evaluates_one s (PRED (simple_number (simple_of t))) refl)
evaluates_function s eof t value address v a = evaluates_one s EOF refl
evaluates_function s eoln t value address v a = evaluates_one s EOLN refl
evaluates_function s empty t value address v a = both address (one s OBJ ⨾ one s EMPTY) a
    (both (one s OBJ) (one s EMPTY) (evaluates_one s OBJ refl) (evaluates_one s EMPTY refl))
evaluates_function s clock t value address v a = evaluates_one s CLOCK refl
evaluates_function s random t value address v a = both value (one s RAND) v (evaluates_one s RAND refl)
evaluates_function s no_function t value address v a = evaluates_nothing

evaluates_name :
    (s : Site) (m : Option Meaning) (ss : SelectorTrees) (address : Code) (args : List Formal → Code) (predeclared : Function → Code)
    → Evaluates address → ((formals : List Formal) → Evaluates (args formals)) → ((f : Function) → Evaluates (predeclared f))
    → Evaluates (name_code s m ss address args predeclared)
evaluates_name s None ss address args predeclared a g p = evaluates_nothing
evaluates_name s (Some (Constant t v)) ss address args predeclared a g p = evaluates_one s (LIT v) refl
evaluates_name s (Some (Named t)) ss address args predeclared a g p = evaluates_nothing
evaluates_name s (Some (Variable t reference)) ss address args predeclared a g p = both address
    (one s (LOAD (type_cells (forms_of s) (selected s.env (Some t) ss)))) a (evaluates_one s (LOAD (type_cells (forms_of s) (selected s.env (Some t) ss))) refl)
evaluates_name s (Some (Sub k)) ss address args predeclared a g p = both (args (sub_at (blocks_of s) k).formals)
    (one s (call_instr s (sub_at (blocks_of s) k))) (g (sub_at (blocks_of s) k).formals) (evaluates_one s (call_instr s (sub_at (blocks_of s) k)) refl)
evaluates_name s (Some (Module k)) ss address args predeclared a g p = evaluates_nothing
evaluates_name s (Some (Process k)) ss address args predeclared a g p = evaluates_nothing
evaluates_name s (Some (Entry k)) ss address args predeclared a g p = evaluates_nothing
evaluates_name s (Some (Predeclared k)) ss address args predeclared a g p = p (function_of k)
evaluates_name s (Some Faulty) ss address args predeclared a g p = evaluates_nothing

mutual
  pub evaluates_expr : (s : Site) (e : ExprTree) → Evaluates (expr_code s e)
  evaluates_expr s (plain a p) = evaluates_simple s a
  evaluates_expr s (related a r b p) = both (simple_code s a) (simple_code s b ⨾ one s (relation_instr r.0)) (evaluates_simple s a)
      (both (simple_code s b) (one s (relation_instr r.0)) (evaluates_simple s b) (evaluates_one s (relation_instr r.0) (relates r.0)))

  pub evaluates_simple : (s : Site) (e : SimpleTree) → Evaluates (simple_code s e)
  evaluates_simple s (sum sign first rest) = both (term_code s first) (sign_code s sign ⨾ summands_code s rest) (evaluates_term s first)
      (both (sign_code s sign) (summands_code s rest) (evaluates_sign s sign) (evaluates_summands s rest))

  pub evaluates_summands : (s : Site) (e : SummandTrees) → Evaluates (summands_code s e)
  evaluates_summands s no_summands = evaluates_nothing
  evaluates_summands s (more_summands op t rest) = both (term_code s t) (one s (add_instr op.0) ⨾ summands_code s rest) (evaluates_term s t)
      (both (one s (add_instr op.0)) (summands_code s rest) (evaluates_one s (add_instr op.0) (adds op.0)) (evaluates_summands s rest))

  pub evaluates_term : (s : Site) (e : TermTree) → Evaluates (term_code s e)
  evaluates_term s (product f rest) = both (factor_code s f) (multipliers_code s rest) (evaluates_factor s f) (evaluates_multipliers s rest)

  pub evaluates_multipliers : (s : Site) (e : MultiplierTrees) → Evaluates (multipliers_code s e)
  evaluates_multipliers s no_multipliers = evaluates_nothing
  evaluates_multipliers s (more_multipliers op f rest) = both (factor_code s f) (one s (multiply_instr op.0) ⨾ multipliers_code s rest)
      (evaluates_factor s f) (both (one s (multiply_instr op.0)) (multipliers_code s rest) (evaluates_one s (multiply_instr op.0) (multiplies op.0))
      (evaluates_multipliers s rest))

  pub evaluates_factor : (s : Site) (e : FactorTree) → Evaluates (factor_code s e)
  evaluates_factor s (number k p) = evaluates_one s (LIT k) refl
  evaluates_factor s (literal x p) = evaluates_one s (LIT (char_in x)) refl
  evaluates_factor s (negation f p) = both (factor_code s f) (one s NOT) (evaluates_factor s f) (evaluates_one s NOT refl)
  evaluates_factor s (paren e p) = evaluates_expr s e
  evaluates_factor s (applied (desig x ss q) args p) =
      let found = find s.env x in
      let v = spot_of s.env found in
      evaluates_name s (meaning_of found) ss (base_code s v.spot ⨾ selectors_code s v.t ss) (λ formals. args_code s formals args)
      (λ f. function_code s f (first_type s.env args) (first_value s args) (first_address s args))
      (both (base_code s v.spot) (selectors_code s v.t ss) (evaluates_one s
      (if refers s v.spot then REF (links_to s v.spot.scope) (cell_of s v.spot) else ADDR (links_to s v.spot.scope) (cell_of s v.spot))
      (addresses (refers s v.spot) (links_to s v.spot.scope) (cell_of s v.spot))) (evaluates_selectors s v.t ss))
      (λ formals. evaluates_args s formals args)
      (λ f. evaluates_function s f (first_type s.env args) (first_value s args) (first_address s args) (evaluates_first s args)
      (evaluates_first_address s args))

  pub evaluates_first : (s : Site) (args : ActualTrees) → Evaluates (first_value s args)
  evaluates_first s no_actuals = evaluates_nothing
  evaluates_first s (more_actuals a rest) = evaluates_actual s a

  pub evaluates_first_address : (s : Site) (args : ActualTrees) → Evaluates (first_address s args)
  evaluates_first_address s no_actuals = evaluates_nothing
  evaluates_first_address s (more_actuals a rest) = evaluates_lent s a

  pub evaluates_actual : (s : Site) (a : ActualTree) → Evaluates (actual_code s a)
  evaluates_actual s (actual e) = evaluates_expr s e
  evaluates_actual s (actual_width e w) = evaluates_expr s e

  pub evaluates_lent : (s : Site) (a : ActualTree) → Evaluates (lent_code s a)
  evaluates_lent s (actual e) = evaluates_variable s e
  evaluates_lent s (actual_width e w) = evaluates_variable s e

  pub evaluates_variable : (s : Site) (e : ExprTree) → Evaluates (variable_code s e)
  evaluates_variable s (related a r u p) = evaluates_nothing
  evaluates_variable s (plain (sum (Some sign) t us) p) = evaluates_nothing
  evaluates_variable s (plain (sum None (product (number k q) ms) us) p) = evaluates_nothing
  evaluates_variable s (plain (sum None (product (literal x q) ms) us) p) = evaluates_nothing
  evaluates_variable s (plain (sum None (product (negation f q) ms) us) p) = evaluates_nothing
  evaluates_variable s (plain (sum None (product (paren e q) ms) us) p) = evaluates_nothing
  evaluates_variable s (plain (sum None (product (applied (desig x ss r) (more_actuals a args) q) ms) us) p) = evaluates_nothing
  evaluates_variable s (plain (sum None (product (applied (desig x ss r) no_actuals q) (more_multipliers op f ms)) us) p) = evaluates_nothing
  evaluates_variable s (plain (sum None (product (applied (desig x ss r) no_actuals q) no_multipliers) (more_summands op t us)) p) = evaluates_nothing
  evaluates_variable s (plain (sum None (product (applied (desig x ss r) no_actuals q) no_multipliers) no_summands) p) =
      let v = spot_of s.env (find s.env x) in both (base_code s v.spot) (selectors_code s v.t ss)
      (evaluates_one s (if refers s v.spot then REF (links_to s v.spot.scope) (cell_of s v.spot) else ADDR (links_to s v.spot.scope) (cell_of s v.spot))
      (addresses (refers s v.spot) (links_to s v.spot.scope) (cell_of s v.spot))) (evaluates_selectors s v.t ss)

  pub evaluates_args : (s : Site) (formals : List Formal) (args : ActualTrees) → Evaluates (args_code s formals args)
  evaluates_args s formals no_actuals = evaluates_nothing
  evaluates_args s [] (more_actuals a rest) = evaluates_nothing
  evaluates_args s (f ∷ formals) (more_actuals a rest) =
      both (cond f.reference (lent_code s a) (actual_code s a)) (args_code s formals rest)
      (either f.reference (lent_code s a) (actual_code s a) (evaluates_lent s a) (evaluates_actual s a)) (evaluates_args s formals rest)

  pub evaluates_selectors : (s : Site) (t : Option TypeId) (ss : SelectorTrees) → Evaluates (selectors_code s t ss)
  evaluates_selectors s t no_selectors = evaluates_nothing
  evaluates_selectors s t (more_selectors (index es p) ss) =
      both (indices_code s t es) (selectors_code s (type_behind (forms_of s) t es) ss) (evaluates_indices s t es)
      (evaluates_selectors s (type_behind (forms_of s) t es) ss)
  evaluates_selectors s t (more_selectors (field x p) ss) =
      both (one s (FLD (field_cell (forms_of s) (form_in (forms_of s) t) x))) (selectors_code s (field_type (forms_of s) t x) ss)
      (evaluates_one s (FLD (field_cell (forms_of s) (form_in (forms_of s) t) x)) refl) (evaluates_selectors s (field_type (forms_of s) t x) ss)

  pub evaluates_indices : (s : Site) (t : Option TypeId) (es : ExprTrees) → Evaluates (indices_code s t es)
  evaluates_indices s t no_exprs = evaluates_nothing
  evaluates_indices s t (more_exprs e es) =
      both (expr_code s e) (one s (index_instr (forms_of s) (form_in (forms_of s) t)) ⨾ indices_code s (element_in (forms_of s) t) es) (evaluates_expr s e)
      (both (one s (index_instr (forms_of s) (form_in (forms_of s) t))) (indices_code s (element_in (forms_of s) t) es)
      (evaluates_one s (index_instr (forms_of s) (form_in (forms_of s) t)) (indexes (forms_of s) (form_in (forms_of s) t)))
      (evaluates_indices s (element_in (forms_of s) t) es))
