-- What lawful expressions write is read back.
use Rattle.std.proofs.Common.{◌≡◌, ℕ, zero, suc, ℤ, pos, negsuc, List, [], ◌∷◌, ◌++◌, length, map, Bool, true, false, ◌||◌, Option, Some, None, refl, sym, ap}
use Rattle.std.proofs.Common.{subst, ◌∙◌, append_assoc, append-nil, arith}
use Rattle.std.proofs.lemmas.Int.{ints}
use Rattle.std.proofs.lemmas.List.{length-map}
use Rattle.pfc_tree.proofs.depths.Exprs.{expr_even, factor_even}
use Rattle.pfc_base.specs.declared.tokens.Kind.TheVariants.{Word, Sign, Name, Number}
use Rattle.pfc_base.specs.declared.word.TheConstants.{NOT}
use Rattle.pfc_base.specs.declared.sign.TheConstants.{OPEN_PAREN, CLOSE_PAREN, CLOSE_BRACKET, COMMA, COLON}
use Rattle.pfc_tree.specs.declared.tree.Sign as plus_or_minus
use Rattle.pfc_tree.specs.declared.tree.Sign.TheVariants.{Plus, Minus}
use Rattle.pfc_tree.specs.declared.tree.Relation.{Relation}
use Rattle.pfc_tree.specs.declared.tree.Relation.TheVariants.{Eq, Ne, Lt, Le, Gt, Ge}
use Rattle.pfc_tree.specs.declared.tree.AddOp.{AddOp}
use Rattle.pfc_tree.specs.declared.tree.AddOp.TheVariants.{Add, Sub, Or}
use Rattle.pfc_tree.specs.declared.tree.MulOp.{MulOp}
use Rattle.pfc_tree.specs.declared.tree.MulOp.TheVariants.{Mul, Div, Mod, And}
use Rattle.pfc_tree.specs.Symbols.{Symbol, Text}
use Rattle.pfc_tree.specs.shapes.Exprs.{ExprShape, SimpleShape, SummandShapes, TermShape, MultiplierShapes, FactorShape, DesigShape, SelectorShape}
use Rattle.pfc_tree.specs.shapes.Exprs.{SelectorShapes, ExprShapes, ActualShape, ActualShapes, plain, related, sum, no_summands, more_summands, product}
use Rattle.pfc_tree.specs.shapes.Exprs.{no_multipliers, more_multipliers, number, literal, negation, paren, applied, desig, index, field, no_selectors}
use Rattle.pfc_tree.specs.shapes.Exprs.{more_selectors, no_exprs, more_exprs, actual, actual_width, no_actuals, more_actuals}
use Rattle.pfc_tree.specs.tokens.Exprs.{sign_symbol, relation_symbol, add_symbol, mul_symbol, expr_tokens, simple_tokens, summands_tokens, term_tokens}
use Rattle.pfc_tree.specs.tokens.Exprs.{multipliers_tokens, factor_tokens, desig_tokens, selectors_tokens, exprs_tokens, comma_exprs_tokens, actuals_tokens}
use Rattle.pfc_tree.specs.tokens.Exprs.{comma_actuals_tokens, actual_tokens}
use Rattle.pfc_tree.specs.lawful.Exprs.{IsWritten, IsLawfulExpr, IsLawfulSimple, AreLawfulSummands, IsLawfulTerm, AreLawfulMultipliers, IsLawfulFactor}
use Rattle.pfc_tree.specs.lawful.Exprs.{IsLawfulDesig, AreLawfulSelectors, AreLawfulIndices, AreLawfulExprs, AreLawfulActuals, IsLawfulActual}
use Rattle.pfc_tree.specs.depths.Exprs.{deeper, expr_depths, simple_depths, summands_depths, term_depths, multipliers_depths, factor_depths, desig_depths}
use Rattle.pfc_tree.specs.depths.Exprs.{selectors_depths, exprs_depths, comma_exprs_depths, actuals_depths, comma_actuals_depths, actual_depths}
use Rattle.pfc_grammar.specs.Reading.{Reader, stop, stop_deep, choose}
use Rattle.pfc_grammar.specs.Heads.{as_sign, as_plus_minus, as_relation, as_add_op, as_mul_op, as_selector, takes, is_word, begins_expr}
use Rattle.pfc_grammar.specs.grammar.Exprs.{exprs_of, selectors_of, actuals_of, multipliers_of, summands_of, selector_behind, desig_behind, desig_with}
use Rattle.pfc_grammar.specs.grammar.Exprs.{actual_with, actuals_with, paren_behind, applied_behind, plain_factor, factor_with, multiplier_behind, term_with}
use Rattle.pfc_grammar.specs.grammar.Exprs.{summand_behind, simple_behind, simple_with, expr_with, no_expr, factor_at, expr_at}
use Rattle.pfc_grammar.proofs.Lists.{or-left, or-right}
use Rattle.pfc_grammar.proofs.Complete.{Complete, Skips, Lacks, Any, complete_pure, complete_less, complete_bind, complete_last, complete_take, complete_skip}
use Rattle.pfc_grammar.proofs.Complete.{complete_pass, complete_next, complete_up, complete_deep, complete_same, complete_value, lacks_less, skips}
use Rattle.pfc_grammar.proofs.CompleteLoops.{Run, run_end, run_item, complete_many, complete_list}

-- What does not follow a designator, a factor, a term, a sum and an expression.
abbrev pub after_desig : Symbol → Bool
after_desig s = takes (as_selector s)

abbrev pub after_factor : Symbol → Bool
after_factor s = after_desig s || takes (as_sign OPEN_PAREN s)

abbrev pub after_term : Symbol → Bool
after_term s = after_factor s || takes (as_mul_op s)

abbrev pub after_simple : Symbol → Bool
after_simple s = after_term s || takes (as_add_op s)

abbrev pub after_expr : Symbol → Bool
after_expr s = after_simple s || takes (as_relation s)

-- nor an expression of a list
abbrev pub after_item : Symbol → Bool
after_item s = after_expr s || takes (as_sign COMMA s)

-- Lists of shapes as lists.
abbrev exprs_list : ExprShapes → List ExprShape
exprs_list no_exprs = []
exprs_list (more_exprs e es) = e ∷ exprs_list es

exprs_same : (es : ExprShapes) → exprs_of (exprs_list es) ≡ es
exprs_same no_exprs = refl
exprs_same (more_exprs e es) = ap (λ z. more_exprs e z) (exprs_same es)

abbrev selectors_list : SelectorShapes → List SelectorShape
selectors_list no_selectors = []
selectors_list (more_selectors s ss) = s ∷ selectors_list ss

selectors_same : (ss : SelectorShapes) → selectors_of (selectors_list ss) ≡ ss
selectors_same no_selectors = refl
selectors_same (more_selectors s ss) = ap (λ z. more_selectors s z) (selectors_same ss)

abbrev actuals_list : ActualShapes → List ActualShape
actuals_list no_actuals = []
actuals_list (more_actuals a args) = a ∷ actuals_list args

actuals_same : (args : ActualShapes) → actuals_of (actuals_list args) ≡ args
actuals_same no_actuals = refl
actuals_same (more_actuals a args) = ap (λ z. more_actuals a z) (actuals_same args)

abbrev multipliers_list : MultiplierShapes → List (MulOp × FactorShape)
multipliers_list no_multipliers = []
multipliers_list (more_multipliers op f ms) = (op, f) ∷ multipliers_list ms

multipliers_same : (ms : MultiplierShapes) → multipliers_of (multipliers_list ms) ≡ ms
multipliers_same no_multipliers = refl
multipliers_same (more_multipliers op f ms) = ap (λ z. more_multipliers op f z) (multipliers_same ms)

abbrev summands_list : SummandShapes → List (AddOp × TermShape)
summands_list no_summands = []
summands_list (more_summands op t us) = (op, t) ∷ summands_list us

summands_same : (us : SummandShapes) → summands_of (summands_list us) ≡ us
summands_same no_summands = refl
summands_same (more_summands op t us) = ap (λ z. more_summands op t z) (summands_same us)

-- arguments without the sign that closes them
abbrev comma_items : ActualShapes → List Symbol
comma_items no_actuals = []
comma_items (more_actuals a args) = Sign COMMA ∷ (actual_tokens a ++ comma_items args)

abbrev comma_item_depths : ActualShapes → List ℕ
comma_item_depths no_actuals = []
comma_item_depths (more_actuals a args) = 0 ∷ (actual_depths a ++ comma_item_depths args)

closed : (args : ActualShapes) → comma_items args ++ (Sign CLOSE_PAREN ∷ []) ≡ comma_actuals_tokens args
closed no_actuals = refl
closed (more_actuals a args) = ap (λ z. Sign COMMA ∷ z) (append_assoc (actual_tokens a) (comma_items args) (Sign CLOSE_PAREN ∷ []) ∙
    ap (λ z. actual_tokens a ++ z) (closed args))

closed_depths : (args : ActualShapes) → comma_item_depths args ++ (0 ∷ []) ≡ comma_actuals_depths args
closed_depths no_actuals = refl
closed_depths (more_actuals a args) = ap (λ z. 0 ∷ z) (append_assoc (actual_depths a) (comma_item_depths args) (0 ∷ []) ∙
    ap (λ z. actual_depths a ++ z) (closed_depths args))

-- What operators are taken as.
taken_sign : (s : plus_or_minus.Sign) → as_plus_minus (sign_symbol s) ≡ Some s
taken_sign Plus = refl
taken_sign Minus = refl

taken_relation : (r : Relation) → as_relation (relation_symbol r) ≡ Some r
taken_relation Eq = refl
taken_relation Ne = refl
taken_relation Lt = refl
taken_relation Le = refl
taken_relation Gt = refl
taken_relation Ge = refl

taken_add : (o : AddOp) → as_add_op (add_symbol o) ≡ Some o
taken_add Add = refl
taken_add Sub = refl
taken_add Or = refl

taken_mul : (o : MulOp) → as_mul_op (mul_symbol o) ≡ Some o
taken_mul Mul = refl
taken_mul Div = refl
taken_mul Mod = refl
taken_mul And = refl

-- an operator follows what stands before it
mul_follows : (o : MulOp) → after_factor (mul_symbol o) ≡ false
mul_follows Mul = refl
mul_follows Div = refl
mul_follows Mod = refl
mul_follows And = refl

add_follows : (o : AddOp) → after_term (add_symbol o) ≡ false
add_follows Add = refl
add_follows Sub = refl
add_follows Or = refl

relation_follows : (r : Relation) → after_simple (relation_symbol r) ≡ false
relation_follows Eq = refl
relation_follows Ne = refl
relation_follows Lt = refl
relation_follows Le = refl
relation_follows Gt = refl
relation_follows Ge = refl

-- With a reader of expressions.
abbrev pub ReadsExprs : ℕ → Reader ExprShape → Type 0
ReadsExprs n e = (x : ExprShape) → IsLawfulExpr x → Complete n e (expr_tokens x) (expr_depths x) x (Lacks after_expr)

module _ (n : ℕ) (e : Reader ExprShape) (he : ReadsExprs n e) where
  follow_exprs : (es : ExprShapes) (rest : List Symbol) → Lacks after_item rest → Lacks after_expr (comma_exprs_tokens es ++ rest)
  follow_exprs no_exprs rest c = lacks_less after_item after_expr (λ s q. or-left _ _ q) rest c
  follow_exprs (more_exprs x es) rest c = refl

  run_exprs : (es : ExprShapes) → AreLawfulExprs es → Run n (as_sign COMMA) (λ o. e) (Lacks after_item) (comma_exprs_tokens es)
      (comma_exprs_depths es) (exprs_list es)
  run_exprs no_exprs l = run_end (λ rest c. skips (as_sign COMMA) after_item (λ s q. or-right _ _ q) rest c)
  run_exprs (more_exprs x es) l = run_item tt refl (he x l.0) (follow_exprs es) (run_exprs es l.1)

  complete_index : (es : ExprShapes) → AreLawfulIndices es → Complete n (selector_behind e true) (exprs_tokens es ++ (Sign CLOSE_BRACKET ∷ []))
      (exprs_depths es ++ (0 ∷ [])) (index es) Any
  unfolding selector_behind
  complete_index no_exprs l = absurd l
  complete_index (more_exprs x es) l =
      complete_value (ap (λ z. index (more_exprs x z)) (exprs_same es))
      (complete_bind _ (complete_list (as_sign COMMA) (he x l.0) (follow_exprs es) (run_exprs es l.1)) (λ rest c. refl)
      (complete_next _ _ tt refl complete_pure))

  complete_field : (x : Text) → Complete n (selector_behind e false) (Name x ∷ []) (0 ∷ []) (field x) Any
  unfolding selector_behind
  complete_field x = complete_next _ _ x refl complete_pure

  run_selectors : (ss : SelectorShapes) → AreLawfulSelectors ss → Run n as_selector (selector_behind e) (Lacks after_desig) (selectors_tokens ss)
      (selectors_depths ss) (selectors_list ss)
  run_selectors no_selectors l = run_end (λ rest c. skips as_selector after_desig (λ s q. q) rest c)
  run_selectors (more_selectors (index es) ss) l = run_item true refl (complete_index es l.0) (λ rest c. tt) (run_selectors ss l.1)
  run_selectors (more_selectors (field x) ss) l = run_item false refl (complete_field x) (λ rest c. tt) (run_selectors ss l.1)

  pub complete_desig_behind : (x : Text) (ss : SelectorShapes) → AreLawfulSelectors ss →
      Complete n (desig_behind e x) (selectors_tokens ss) (selectors_depths ss) (desig x ss) (Lacks after_desig)
  unfolding desig_behind
  complete_desig_behind x ss l =
      complete_value (ap (λ z. desig x z) (selectors_same ss)) (complete_last (λ zs. desig x (selectors_of zs))
      (complete_many (run_selectors ss l)) (λ rest c. c))

  pub complete_desig : (d : DesigShape) → IsLawfulDesig d → Complete n (desig_with e) (desig_tokens d) (desig_depths d) d (Lacks after_desig)
  unfolding desig_with
  complete_desig (desig x ss) l = complete_next _ _ x refl (complete_desig_behind x ss l)

  after_actual : List Symbol → Type 0
  after_actual rest = Lacks (λ s. after_expr s || takes (as_sign COLON s)) rest

  complete_actual : (a : ActualShape) → IsLawfulActual a → Complete n (actual_with e) (actual_tokens a) (actual_depths a) a after_actual
  unfolding actual_with after_actual
  complete_actual (actual x) l = complete_same (append-nil (expr_tokens x)) (append-nil (expr_depths x)) refl
      (complete_bind _ (he x l) (λ rest c. lacks_less _ after_expr (λ s q. or-left _ _ q) rest c)
      (complete_skip _ _ (λ rest c. skips (as_sign COLON) _ (λ s q. or-right _ _ q) rest c) complete_pure))
  complete_actual (actual_width x y) l =
      complete_bind _ (he x l.0) (λ rest c. refl)
      (complete_take _ _ _ tt refl (complete_last (λ w. actual_width x w) (he y l.1) (λ rest c. lacks_less _ after_expr (λ s q. or-left _ _ q) rest c)))

  abbrev after_actuals : Symbol → Bool
  after_actuals s = after_expr s || takes (as_sign COLON s) || takes (as_sign COMMA s)

  follow_actuals : (args : ActualShapes) (rest : List Symbol) → Lacks after_actuals rest → after_actual (comma_items args ++ rest)
  unfolding after_actual
  follow_actuals no_actuals rest c = lacks_less after_actuals _ (λ s q. or-left _ _ q) rest c
  follow_actuals (more_actuals x args) rest c = refl

  run_actuals : (args : ActualShapes) → AreLawfulActuals args → Run n (as_sign COMMA) (λ o. actual_with e) (Lacks after_actuals) (comma_items args)
      (comma_item_depths args) (actuals_list args)
  run_actuals no_actuals l = run_end (λ rest c. skips (as_sign COMMA) after_actuals (λ s q. or-right _ _ q) rest c)
  run_actuals (more_actuals x args) l = run_item tt refl (complete_actual x l.0) (follow_actuals args) (run_actuals args l.1)

  pub complete_actuals : (args : ActualShapes) → AreLawfulActuals args → Complete n (actuals_with e) (actuals_tokens args) (actuals_depths args) args
      (Lacks (λ s. takes (as_sign OPEN_PAREN s)))
  unfolding actuals_with
  complete_actuals no_actuals l = complete_skip _ _ (λ rest c. skips (as_sign OPEN_PAREN) _ (λ s q. q) rest c) complete_pure
  complete_actuals (more_actuals a args) l = complete_same
      (ap (λ z. Sign OPEN_PAREN ∷ z) (append_assoc (actual_tokens a) (comma_items args) (Sign CLOSE_PAREN ∷ []) ∙ ap (λ z. actual_tokens a ++ z) (closed args)))
      (ap (λ z. 0 ∷ z) (append_assoc (actual_depths a) (comma_item_depths args) (0 ∷ []) ∙ ap (λ z. actual_depths a ++ z) (closed_depths args)))
      (ap (λ z. more_actuals a z) (actuals_same args))
      (complete_take _ _ _ tt refl (complete_bind _ (complete_list (as_sign COMMA) (complete_actual a l.0) (follow_actuals args) (run_actuals args l.1))
      (λ rest c. refl) (complete_next _ _ tt refl complete_pure)))

  complete_paren : (x : ExprShape) → IsLawfulExpr x → Complete n (paren_behind e) (expr_tokens x ++ (Sign CLOSE_PAREN ∷ []))
      (expr_depths x ++ (0 ∷ [])) (paren x) Any
  unfolding paren_behind
  complete_paren x l = complete_bind _ (he x l) (λ rest c. refl) (complete_next _ _ tt refl complete_pure)

  follow_desig : (args : ActualShapes) (rest : List Symbol) → Lacks after_factor rest → Lacks after_desig (actuals_tokens args ++ rest)
  follow_desig no_actuals rest c = lacks_less after_factor after_desig (λ s q. or-left _ _ q) rest c
  follow_desig (more_actuals a args) rest c = refl

  complete_applied : (x : Text) (ss : SelectorShapes) (args : ActualShapes) → AreLawfulSelectors ss → AreLawfulActuals args →
      Complete n (applied_behind e x) (selectors_tokens ss ++ actuals_tokens args) (selectors_depths ss ++ actuals_depths args)
      (applied (desig x ss) args) (Lacks after_factor)
  unfolding applied_behind
  complete_applied x ss args l m = complete_bind _ (complete_desig_behind x ss l) (follow_desig args) (complete_last (λ z. applied (desig x ss) z)
      (complete_actuals args m) (λ rest c. lacks_less after_factor _ (λ s q. or-right _ _ q) rest c))

  -- a factor that is no `not`
  abbrev IsPlain : FactorShape → Type 0
  IsPlain (number z) = Unit {0}
  IsPlain (literal x) = Unit {0}
  IsPlain (negation f) = ⊥
  IsPlain (paren x) = Unit {0}
  IsPlain (applied d args) = Unit {0}

  complete_number : (z : ℤ) → IsWritten z → Complete n (plain_factor e) (Number z ∷ []) (0 ∷ []) (number z) (Lacks after_factor)
  unfolding plain_factor
  complete_number (pos k) l = complete_take _ _ _ (pos k) refl complete_pure
  complete_number (negsuc k) l = absurd (omega (arith, ints, l))

  pub complete_plain : (x : FactorShape) → IsPlain x → IsLawfulFactor x → Complete n (plain_factor e) (factor_tokens x) (factor_depths x) x (Lacks after_factor)
  unfolding plain_factor
  complete_plain (number z) p l = complete_number z l
  complete_plain (literal x) p l = complete_skip _ _ (λ rest c. refl) (complete_take _ _ _ x refl complete_pure)
  complete_plain (negation f) p l = absurd p
  complete_plain (paren x) p l =
      complete_skip _ _ (λ rest c. refl) (complete_skip _ _ (λ rest c. refl) (complete_take _ _ _ tt refl (complete_less (λ rest c. tt) (complete_paren x l))))
  complete_plain (applied (desig x ss) args) p l =
      complete_skip _ _ (λ rest c. refl)
      (complete_skip _ _ (λ rest c. refl) (complete_skip _ _ (λ rest c. refl) (complete_take _ _ _ x refl (complete_applied x ss args l.0 l.1))))

-- With a reader of factors.
abbrev pub ReadsFactors : ℕ → Reader FactorShape → Type 0
ReadsFactors n f = (x : FactorShape) → IsLawfulFactor x → Complete n f (factor_tokens x) (factor_depths x) x (Lacks after_factor)

module _ (n : ℕ) (f : Reader FactorShape) (hf : ReadsFactors n f) where
  follow_factor : (ms : MultiplierShapes) (rest : List Symbol) → Lacks after_term rest → Lacks after_factor (multipliers_tokens ms ++ rest)
  follow_factor no_multipliers rest c = lacks_less after_term after_factor (λ s q. or-left _ _ q) rest c
  follow_factor (more_multipliers op x ms) rest c = mul_follows op

  run_multipliers : (ms : MultiplierShapes) → AreLawfulMultipliers ms → Run n as_mul_op (multiplier_behind f) (Lacks after_term) (multipliers_tokens ms)
      (multipliers_depths ms) (multipliers_list ms)
  unfolding multiplier_behind
  run_multipliers no_multipliers l = run_end (λ rest c. skips as_mul_op after_term (λ s q. or-right _ _ q) rest c)
  run_multipliers (more_multipliers op x ms) l = run_item op (taken_mul op) (complete_last (λ y. (op, y)) (hf x l.0) (λ rest c. c))
      (follow_factor ms) (run_multipliers ms l.1)

  complete_term : (t : TermShape) → IsLawfulTerm t → Complete n (term_with f) (term_tokens t) (term_depths t) t (Lacks after_term)
  unfolding term_with
  complete_term (product x ms) l =
      complete_value (ap (λ z. product x z) (multipliers_same ms)) (complete_bind _ (hf x l.0) (follow_factor ms)
      (complete_last (λ zs. product x (multipliers_of zs)) (complete_many (run_multipliers ms l.1)) (λ rest c. c)))

  follow_term : (us : SummandShapes) (rest : List Symbol) → Lacks after_simple rest → Lacks after_term (summands_tokens us ++ rest)
  follow_term no_summands rest c = lacks_less after_simple after_term (λ s q. or-left _ _ q) rest c
  follow_term (more_summands op x us) rest c = add_follows op

  run_summands : (us : SummandShapes) → AreLawfulSummands us → Run n as_add_op (summand_behind f) (Lacks after_simple) (summands_tokens us)
      (summands_depths us) (summands_list us)
  unfolding summand_behind
  run_summands no_summands l = run_end (λ rest c. skips as_add_op after_simple (λ s q. or-right _ _ q) rest c)
  run_summands (more_summands op x us) l =
      run_item op (taken_add op) (complete_last (λ y. (op, y)) (complete_term x l.0) (λ rest c. c)) (follow_term us) (run_summands us l.1)

  complete_simple_behind : (sign : Option plus_or_minus.Sign) (t : TermShape) (us : SummandShapes) → IsLawfulTerm t → AreLawfulSummands us →
      Complete n (simple_behind f sign) (term_tokens t ++ summands_tokens us) (term_depths t ++ summands_depths us) (sum sign t us) (Lacks after_simple)
  unfolding simple_behind
  complete_simple_behind sign t us l m = complete_value (ap (λ z. sum sign t z) (summands_same us)) (complete_bind _ (complete_term t l) (follow_term us)
      (complete_last (λ zs. sum sign t (summands_of zs)) (complete_many (run_summands us m)) (λ rest c. c)))

  -- a term begins with no sign
  unsigned : (x : FactorShape) → IsLawfulFactor x → (l : List Symbol) → Skips as_plus_minus (factor_tokens x ++ l)
  unsigned (number z) h l = refl
  unsigned (literal x) h l = refl
  unsigned (negation y) h l = refl
  unsigned (paren y) h l = refl
  unsigned (applied (desig x ss) args) h l = refl

  unsigned_term : (t : TermShape) → IsLawfulTerm t → (l : List Symbol) → Skips as_plus_minus (term_tokens t ++ l)
  unsigned_term (product x ms) h l = subst (Skips as_plus_minus) (sym (append_assoc (factor_tokens x) (multipliers_tokens ms) l))
      (unsigned x h.0 (multipliers_tokens ms ++ l))

  complete_simple : (s : SimpleShape) → IsLawfulSimple s → Complete n (simple_with f) (simple_tokens s) (simple_depths s) s (Lacks after_simple)
  unfolding simple_with
  complete_simple (sum None t us) l = complete_skip _ _ (λ rest c. subst (Skips as_plus_minus) (sym (append_assoc (term_tokens t) (summands_tokens us) rest))
      (unsigned_term t l.0 (summands_tokens us ++ rest))) (complete_simple_behind None t us l.0 l.1)
  complete_simple (sum (Some o) t us) l = complete_take _ _ _ o (taken_sign o) (complete_simple_behind (Some o) t us l.0 l.1)

  -- one level deeper
  pub complete_expr_with : (x : ExprShape) → IsLawfulExpr x → Complete (suc n) (expr_with f) (expr_tokens x) (expr_depths x) x (Lacks after_expr)
  unfolding expr_with
  complete_expr_with (plain s) l = complete_up (complete_same (append-nil (simple_tokens s)) (append-nil (simple_depths s)) refl
      (complete_bind _ (complete_simple s l) (λ rest c. lacks_less after_expr after_simple (λ s q. or-left _ _ q) rest c)
      (complete_skip _ _ (λ rest c. skips as_relation after_expr (λ s q. or-right _ _ q) rest c) complete_pure)))
  complete_expr_with (related s r t) l =
      complete_up (complete_bind _ (complete_simple s l.0) (λ rest c. relation_follows r) (complete_take _ _ _ r (taken_relation r)
      (complete_last (λ y. related s r y) (complete_simple t l.1) (λ rest c. lacks_less after_expr after_simple (λ s q. or-left _ _ q) rest c))))

  pub complete_factor_with : (e : Reader ExprShape) → ReadsExprs (suc n) e → ReadsFactors (suc n) (factor_with f e)
  unfolding factor_with
  complete_factor_with e he (number z) l = complete_skip _ _ (λ rest c. refl) (complete_plain (suc n) e he (number z) tt l)
  complete_factor_with e he (literal x) l = complete_skip _ _ (λ rest c. refl) (complete_plain (suc n) e he (literal x) tt l)
  complete_factor_with e he (negation y) l = complete_up (complete_take _ _ _ tt refl (complete_last (λ z. negation z) (hf y l) (λ rest c. c)))
  complete_factor_with e he (paren y) l = complete_skip _ _ (λ rest c. refl) (complete_plain (suc n) e he (paren y) tt l)
  complete_factor_with e he (applied (desig x ss) args) l = complete_skip _ _ (λ rest c. refl) (complete_plain (suc n) e he (applied (desig x ss) args) tt l)

-- Whatever the number of levels.
-- the first symbol of what is written, and the rest
pub data Starts (p : Symbol → Bool) : List Symbol → Type 0 where
  starts : {s : Symbol} {toks : List Symbol} → p s ≡ true → Starts p (s ∷ toks)

pub starts_more : (p : Symbol → Bool) (a b : List Symbol) → Starts p a → Starts p (a ++ b)
starts_more p [] b h = elim h [ ]
starts_more p (s ∷ a) b (starts e) = starts e

-- where no level is left, something that has a symbol and stands one level deeper halts
pub complete_none : {A : Type 0} (p : Symbol → Bool) (r : Reader A) (toks : List Symbol) (m : List ℕ) {v : A} {C : List Symbol → Type 0} → Starts p toks →
    length (deeper m) ≡ length toks → Complete 0 (choose p stop_deep r) toks (deeper m) v C
complete_none p r [] m h k = elim h [ ]
complete_none p r (s ∷ toks) [] (starts e) k = absurd (let k' : 0 ≡ suc (length toks) = k in omega arith)
complete_none p r (s ∷ toks) (d ∷ m) (starts e) k = complete_deep p r d m e (let k' : suc (length (map (λ z. suc z) m)) ≡ suc (length toks) =
    k in omega (arith, length-map m (λ z. suc z)))

starts_factor : (x : FactorShape) → IsLawfulFactor x → Starts begins_expr (factor_tokens x)
starts_factor (number (pos k)) l = starts refl
starts_factor (number (negsuc k)) l = absurd (omega (arith, ints, l))
starts_factor (literal x) l = starts refl
starts_factor (negation y) l = starts refl
starts_factor (paren y) l = starts refl
starts_factor (applied (desig x ss) args) l = starts refl

starts_simple : (s : SimpleShape) → IsLawfulSimple s → Starts begins_expr (simple_tokens s)
starts_simple (sum None (product x ms) us) l = starts_more begins_expr (factor_tokens x ++ multipliers_tokens ms) (summands_tokens us)
    (starts_more begins_expr (factor_tokens x) (multipliers_tokens ms) (starts_factor x l.0.0))
starts_simple (sum (Some Plus) t us) l = starts refl
starts_simple (sum (Some Minus) t us) l = starts refl

pub starts_expr : (x : ExprShape) → IsLawfulExpr x → Starts begins_expr (expr_tokens x)
starts_expr (plain s) l = starts_simple s l
starts_expr (related s r t) l = starts_more begins_expr (simple_tokens s) (relation_symbol r ∷ simple_tokens t) (starts_simple s l.0)

pub complete_no_expr : ReadsExprs 0 no_expr
unfolding no_expr
complete_no_expr (plain s) l = complete_none begins_expr stop (simple_tokens s) (simple_depths s) (starts_expr (plain s) l) (expr_even (plain s))
complete_no_expr (related s r t) l = complete_none begins_expr stop (expr_tokens (related s r t)) (simple_depths s ++ (0 ∷ simple_depths t))
    (starts_expr (related s r t) l) (expr_even (related s r t))

pub complete_factor_at : (n : ℕ) → ReadsFactors n (factor_at n)
unfolding factor_at
complete_factor_at zero (number z) l = complete_pass _ _ (λ rest c. refl) (complete_plain 0 no_expr complete_no_expr (number z) tt l)
complete_factor_at zero (literal x) l = complete_pass _ _ (λ rest c. refl) (complete_plain 0 no_expr complete_no_expr (literal x) tt l)
complete_factor_at zero (negation y) l = complete_none (is_word NOT) (plain_factor no_expr) (Word NOT ∷ factor_tokens y) (0 ∷ factor_depths y)
    (starts refl) (factor_even (negation y))
complete_factor_at zero (paren y) l = complete_pass _ _ (λ rest c. refl) (complete_plain 0 no_expr complete_no_expr (paren y) tt l)
complete_factor_at zero (applied (desig x ss) args) l =
    complete_pass _ _ (λ rest c. refl) (complete_plain 0 no_expr complete_no_expr (applied (desig x ss) args) tt l)
complete_factor_at (suc n) x l = complete_factor_with n (factor_at n) (complete_factor_at n) (expr_with (factor_at n))
    (complete_expr_with n (factor_at n) (complete_factor_at n)) x l

pub complete_expr_at : (n : ℕ) → ReadsExprs n (expr_at n)
unfolding expr_at
complete_expr_at zero = complete_no_expr
complete_expr_at (suc n) = complete_expr_with n (factor_at n) (complete_factor_at n)
