-- The code of an expression is plain: by induction over its phrases.
use Rattle.std.proofs.Common.{◌+◌, ◌++◌, Bool, true, false, List, [], ◌∷◌, length, Option, Some, None, cond, if◌then◌else◌, max, refl, ap, ap₂, ◌∙◌, sym}
use Rattle.std.proofs.Common.{length-append}
use Rattle.pfc_translation.specs.Codes.{Lined}
use Rattle.pfc_tree.specs.Symbols.{Text}
use Rattle.pfc_code_laws.specs.Plain.{IsPlain}
use Rattle.pfc_base.specs.declared.places.Place.{Place}
use Rattle.pfc_tree.specs.declared.tree.Sign.{Sign}
use Rattle.pfc_tree.specs.declared.tree.Sign.TheVariants.{Plus, Minus}
use Rattle.pfc_tree.specs.trees.Exprs.{ExprTree, SimpleTree, SummandTrees, TermTree, MultiplierTrees, FactorTree, SelectorTrees, ExprTrees, ActualTree}
use Rattle.pfc_tree.specs.trees.Exprs.{ActualTrees, plain, related, sum, no_summands, more_summands, product, no_multipliers, more_multipliers, number, literal}
use Rattle.pfc_tree.specs.trees.Exprs.{negation, paren, applied, desig, index, field, no_selectors, more_selectors, no_exprs, more_exprs, actual, actual_width}
use Rattle.pfc_tree.specs.trees.Exprs.{no_actuals, more_actuals}
use Rattle.pfc_types.specs.declared.types.TypeId.{TypeId}
use Rattle.pfc_types.specs.declared.scope.Meaning.{Meaning}
use Rattle.pfc_types.specs.declared.scope.Meaning.TheVariants.{Constant, Named, Variable, Sub, Module, Process, Entry, Predeclared, Faulty}
use Rattle.pfc_types.specs.declared.heads.Formal.{Formal}
use Rattle.pfc_types.specs.Scopes.{meaning_of}
use Rattle.pfc_types.specs.Blocks.{sub_at}
use Rattle.pfc_types.specs.rules.Expressions.{find, first_type, field_type, selected}
use Rattle.pfc_semantics.specs.Expressions.{spot_of, char_in, form_in}
use Rattle.pfc_semantics.specs.Operators.{simple_of}
use Rattle.pfc_code.specs.declared.instructions.Instr.{Instr}
use Rattle.pfc_code.specs.declared.instructions.Instr.TheVariants.{LIT, ADDR, REF, FLD, LOAD, OBJ, NEG, ABS, SQR, ODD, CHR, SUCC, PRED, NOT, EMPTY, CLOCK, RAND}
use Rattle.pfc_code.specs.declared.instructions.Instr.TheVariants.{EOF, EOLN}
use Rattle.pfc_semantics.specs.Predeclared.{Function, abs, sqr, odd, ord, chr, succ, pred, eof, eoln, empty, clock, random, no_function, function_of}
use Rattle.pfc_translation.specs.Sites.{Site, forms_of, blocks_of, type_cells, links_to, cell_of, refers}
use Rattle.pfc_translation.specs.Codes.{Code, nothing, ◌⨾◌, one}
use Rattle.pfc_translation.specs.Addresses.{base_code, type_behind, element_in, index_instr, field_cell}
use Rattle.pfc_translation.specs.Expressions.{expr_code, simple_code, summands_code, term_code, multipliers_code, factor_code, sign_code, first_value}
use Rattle.pfc_translation.specs.Expressions.{first_address, actual_code, lent_code, variable_code, args_code, selectors_code, indices_code, name_code}
use Rattle.pfc_translation.specs.Expressions.{function_code, relation_instr, add_instr, multiply_instr, simple_number, call_instr}

both : (a b : Code) → IsPlain a → IsPlain b → IsPlain (a ⨾ b)
both a b p q = (
  (λ at n. ap₂ (λ (x y : Lined). x ++ y) (p.0 at n) (q.0 (at + a.size) (n + length a.texts) ∙ sym (q.0 (0 + a.size) (0 + length a.texts)))),
  (
    length-append (a.put 0 0) (b.put (0 + a.size) (0 + length a.texts)) ∙ ap₂ (λ x y. x + y) p.1.0 (ap length (q.0 (0 + a.size) (0 + length a.texts)) ∙ q.1.0),
    (
      ap₂ (λ (x y : List Text). x ++ y) p.1.1.0 q.1.1.0,
      ap₂ (λ x y. max x y) p.1.1.1 q.1.1.1,
    ),
  ),
)

plain_one : (s : Site) (i : Instr) → IsPlain (one s i)
plain_one s i = ((λ j k. refl), (refl, (refl, refl)))

plain_nothing : IsPlain nothing
plain_nothing = ((λ j k. refl), (refl, (refl, refl)))

either : (r : Bool) (a b : Code) → IsPlain a → IsPlain b → IsPlain (cond r a b)
either true a b p q = p
either false a b p q = q

plain_sign : (s : Site) (sign : Option (Sign × Place)) → IsPlain (sign_code s sign)
plain_sign s None = plain_nothing
plain_sign s (Some (Plus, p)) = plain_nothing
plain_sign s (Some (Minus, p)) = plain_one s NEG

plain_function : (s : Site) (f : Function) (t : Option TypeId) (value address : Code) → IsPlain value → IsPlain address →
    IsPlain (function_code s f t value address)
plain_function s abs t value address v a = both value (one s ABS) v (plain_one s ABS)
plain_function s sqr t value address v a = both value (one s SQR) v (plain_one s SQR)
plain_function s odd t value address v a = both value (one s ODD) v (plain_one s ODD)
plain_function s ord t value address v a = v
plain_function s chr t value address v a = both value (one s CHR) v (plain_one s CHR)
plain_function s succ t value address v a = both value (one s (SUCC (simple_number (simple_of t)))) v (plain_one s (SUCC (simple_number (simple_of t))))
plain_function s pred t value address v a = both value (one s (PRED (simple_number (simple_of t)))) v (plain_one s (PRED (simple_number (simple_of t))))
plain_function s eof t value address v a = plain_one s EOF
plain_function s eoln t value address v a = plain_one s EOLN
plain_function s empty t value address v a = both address (one s OBJ ⨾ one s EMPTY) a (both (one s OBJ) (one s EMPTY) (plain_one s OBJ) (plain_one s EMPTY))
plain_function s clock t value address v a = plain_one s CLOCK
plain_function s random t value address v a = both value (one s RAND) v (plain_one s RAND)
plain_function s no_function t value address v a = plain_nothing

plain_name :
    (s : Site) (m : Option Meaning) (ss : SelectorTrees) (address : Code) (args : List Formal → Code) (predeclared : Function → Code)
    → IsPlain address → ((formals : List Formal) → IsPlain (args formals)) → ((f : Function) → IsPlain (predeclared f))
    → IsPlain (name_code s m ss address args predeclared)
plain_name s None ss address args predeclared a g p = plain_nothing
plain_name s (Some (Constant t v)) ss address args predeclared a g p = plain_one s (LIT v)
plain_name s (Some (Named t)) ss address args predeclared a g p = plain_nothing
plain_name s (Some (Variable t reference)) ss address args predeclared a g p =
    both address (one s (LOAD (type_cells (forms_of s) (selected s.env (Some t) ss)))) a
    (plain_one s (LOAD (type_cells (forms_of s) (selected s.env (Some t) ss))))
plain_name s (Some (Sub k)) ss address args predeclared a g p = both (args (sub_at (blocks_of s) k).formals) (one s (call_instr s (sub_at (blocks_of s) k)))
    (g (sub_at (blocks_of s) k).formals) (plain_one s (call_instr s (sub_at (blocks_of s) k)))
plain_name s (Some (Module k)) ss address args predeclared a g p = plain_nothing
plain_name s (Some (Process k)) ss address args predeclared a g p = plain_nothing
plain_name s (Some (Entry k)) ss address args predeclared a g p = plain_nothing
plain_name s (Some (Predeclared k)) ss address args predeclared a g p = p (function_of k)
plain_name s (Some Faulty) ss address args predeclared a g p = plain_nothing

mutual
  pub plain_expr : (s : Site) (e : ExprTree) → IsPlain (expr_code s e)
  plain_expr s (plain a p) = plain_simple s a
  plain_expr s (related a r b p) = both (simple_code s a) (simple_code s b ⨾ one s (relation_instr r.0)) (plain_simple s a)
      (both (simple_code s b) (one s (relation_instr r.0)) (plain_simple s b) (plain_one s (relation_instr r.0)))

  pub plain_simple : (s : Site) (e : SimpleTree) → IsPlain (simple_code s e)
  plain_simple s (sum sign first rest) = both (term_code s first) (sign_code s sign ⨾ summands_code s rest) (plain_term s first)
      (both (sign_code s sign) (summands_code s rest) (plain_sign s sign) (plain_summands s rest))

  pub plain_summands : (s : Site) (e : SummandTrees) → IsPlain (summands_code s e)
  plain_summands s no_summands = plain_nothing
  plain_summands s (more_summands op t rest) = both (term_code s t) (one s (add_instr op.0) ⨾ summands_code s rest) (plain_term s t)
      (both (one s (add_instr op.0)) (summands_code s rest) (plain_one s (add_instr op.0)) (plain_summands s rest))

  pub plain_term : (s : Site) (e : TermTree) → IsPlain (term_code s e)
  plain_term s (product f rest) = both (factor_code s f) (multipliers_code s rest) (plain_factor s f) (plain_multipliers s rest)

  pub plain_multipliers : (s : Site) (e : MultiplierTrees) → IsPlain (multipliers_code s e)
  plain_multipliers s no_multipliers = plain_nothing
  plain_multipliers s (more_multipliers op f rest) = both (factor_code s f) (one s (multiply_instr op.0) ⨾ multipliers_code s rest) (plain_factor s f)
      (both (one s (multiply_instr op.0)) (multipliers_code s rest) (plain_one s (multiply_instr op.0)) (plain_multipliers s rest))

  pub plain_factor : (s : Site) (e : FactorTree) → IsPlain (factor_code s e)
  plain_factor s (number k p) = plain_one s (LIT k)
  plain_factor s (literal x p) = plain_one s (LIT (char_in x))
  plain_factor s (negation f p) = both (factor_code s f) (one s NOT) (plain_factor s f) (plain_one s NOT)
  plain_factor s (paren e p) = plain_expr s e
  plain_factor s (applied (desig x ss q) args p) =
      let found = find s.env x in
      let v = spot_of s.env found in
      plain_name s (meaning_of found) ss (base_code s v.spot ⨾ selectors_code s v.t ss) (λ formals. args_code s formals args)
      (λ f. function_code s f (first_type s.env args) (first_value s args) (first_address s args))
      (both (base_code s v.spot) (selectors_code s v.t ss) (plain_one s (if refers s v.spot then
      REF (links_to s v.spot.scope) (cell_of s v.spot) else ADDR (links_to s v.spot.scope) (cell_of s v.spot))) (plain_selectors s v.t ss))
      (λ formals. plain_args s formals args)
      (λ f. plain_function s f (first_type s.env args) (first_value s args) (first_address s args) (plain_first s args) (plain_first_address s args))

  pub plain_first : (s : Site) (args : ActualTrees) → IsPlain (first_value s args)
  plain_first s no_actuals = plain_nothing
  plain_first s (more_actuals a rest) = plain_actual s a

  pub plain_first_address : (s : Site) (args : ActualTrees) → IsPlain (first_address s args)
  plain_first_address s no_actuals = plain_nothing
  plain_first_address s (more_actuals a rest) = plain_lent s a

  pub plain_actual : (s : Site) (a : ActualTree) → IsPlain (actual_code s a)
  plain_actual s (actual e) = plain_expr s e
  plain_actual s (actual_width e w) = plain_expr s e

  pub plain_lent : (s : Site) (a : ActualTree) → IsPlain (lent_code s a)
  plain_lent s (actual e) = plain_variable s e
  plain_lent s (actual_width e w) = plain_variable s e

  pub plain_variable : (s : Site) (e : ExprTree) → IsPlain (variable_code s e)
  plain_variable s (related a r u p) = plain_nothing
  plain_variable s (plain (sum (Some sign) t us) p) = plain_nothing
  plain_variable s (plain (sum None (product (number k q) ms) us) p) = plain_nothing
  plain_variable s (plain (sum None (product (literal x q) ms) us) p) = plain_nothing
  plain_variable s (plain (sum None (product (negation f q) ms) us) p) = plain_nothing
  plain_variable s (plain (sum None (product (paren e q) ms) us) p) = plain_nothing
  plain_variable s (plain (sum None (product (applied (desig x ss r) (more_actuals a args) q) ms) us) p) = plain_nothing
  plain_variable s (plain (sum None (product (applied (desig x ss r) no_actuals q) (more_multipliers op f ms)) us) p) = plain_nothing
  plain_variable s (plain (sum None (product (applied (desig x ss r) no_actuals q) no_multipliers) (more_summands op t us)) p) = plain_nothing
  plain_variable s (plain (sum None (product (applied (desig x ss r) no_actuals q) no_multipliers) no_summands) p) =
      let v = spot_of s.env (find s.env x) in both (base_code s v.spot) (selectors_code s v.t ss) (plain_one s (if refers s v.spot then
      REF (links_to s v.spot.scope) (cell_of s v.spot) else ADDR (links_to s v.spot.scope) (cell_of s v.spot))) (plain_selectors s v.t ss)

  pub plain_args : (s : Site) (formals : List Formal) (args : ActualTrees) → IsPlain (args_code s formals args)
  plain_args s formals no_actuals = plain_nothing
  plain_args s [] (more_actuals a rest) = plain_nothing
  plain_args s (f ∷ formals) (more_actuals a rest) =
      both (cond f.reference (lent_code s a) (actual_code s a)) (args_code s formals rest)
      (either f.reference (lent_code s a) (actual_code s a) (plain_lent s a) (plain_actual s a)) (plain_args s formals rest)

  pub plain_selectors : (s : Site) (t : Option TypeId) (ss : SelectorTrees) → IsPlain (selectors_code s t ss)
  plain_selectors s t no_selectors = plain_nothing
  plain_selectors s t (more_selectors (index es p) ss) =
      both (indices_code s t es) (selectors_code s (type_behind (forms_of s) t es) ss) (plain_indices s t es)
      (plain_selectors s (type_behind (forms_of s) t es) ss)
  plain_selectors s t (more_selectors (field x p) ss) =
      both (one s (FLD (field_cell (forms_of s) (form_in (forms_of s) t) x))) (selectors_code s (field_type (forms_of s) t x) ss)
      (plain_one s (FLD (field_cell (forms_of s) (form_in (forms_of s) t) x))) (plain_selectors s (field_type (forms_of s) t x) ss)

  pub plain_indices : (s : Site) (t : Option TypeId) (es : ExprTrees) → IsPlain (indices_code s t es)
  plain_indices s t no_exprs = plain_nothing
  plain_indices s t (more_exprs e es) =
      both (expr_code s e) (one s (index_instr (forms_of s) (form_in (forms_of s) t)) ⨾ indices_code s (element_in (forms_of s) t) es) (plain_expr s e)
      (both (one s (index_instr (forms_of s) (form_in (forms_of s) t))) (indices_code s (element_in (forms_of s) t) es)
      (plain_one s (index_instr (forms_of s) (form_in (forms_of s) t))) (plain_indices s (element_in (forms_of s) t) es))
