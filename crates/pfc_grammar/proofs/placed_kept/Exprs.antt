-- The places that an expression keeps are those of the tokens that it is read from.
use Rattle.std.proofs.Common.{◌≡◌, ℕ, zero, suc, List, [], ◌∷◌, ◌++◌, Bool, true, false, Option, Some, None, Ok, Err, refl, ap, ◌∙◌, append_assoc}
use Rattle.pfc_base.specs.declared.places.Place.{Place}
use Rattle.pfc_base.specs.declared.tokens.Token.{Token}
use Rattle.pfc_tree.specs.declared.tree.Sign as plus_or_minus
use Rattle.pfc_tree.specs.declared.tree.AddOp.{AddOp}
use Rattle.pfc_tree.specs.declared.tree.MulOp.{MulOp}
use Rattle.pfc_tree.specs.Symbols.{Text}
use Rattle.pfc_tree.specs.trees.Exprs.{ExprTree, SimpleTree, TermTree, FactorTree, ActualTree, sum, product, number, literal, negation, paren, applied}
use Rattle.pfc_tree.specs.views.Exprs.{exprs_of, selectors_of, actuals_of, multipliers_of, summands_of}
use Rattle.pfc_tree.specs.kept.Exprs.{Step, here, next, AreKept, sign_trace, expr_trace, simple_trace, summands_trace, term_trace, multipliers_trace}
use Rattle.pfc_tree.specs.kept.Exprs.{factor_trace, desig_trace, selectors_trace, selector_trace, exprs_trace, comma_exprs_trace, actuals_trace}
use Rattle.pfc_tree.specs.kept.Exprs.{comma_actuals_trace, actual_trace}
use Rattle.pfc_grammar.specs.placed.Reading.{Outcome, Reader, bind, then_read, peek}
use Rattle.pfc_grammar.specs.placed.Exprs.{selector_behind, desig_behind, desig_with, actual_with, actuals_with, paren_behind, applied_behind, plain_factor}
use Rattle.pfc_grammar.specs.placed.Exprs.{factor_with, multiplier_behind, term_with, summand_behind, simple_behind, simple_with, expr_from, expr_with, no_expr}
use Rattle.pfc_grammar.specs.placed.Exprs.{factor_at, expr_at}
use Rattle.pfc_grammar.proofs.placed_kept.Readers.{same_traces, Reaches, Leads, Traced, Leading, Keeps, Whole, led, keeps_pure, leads_pure, keeps_stop}
use Rattle.pfc_grammar.proofs.placed_kept.Readers.{keeps_stop_deep, keeps_bind, keeps_then, pass_branch, keep_branch, keep_branch_twice, pass_then, keep_then}
use Rattle.pfc_grammar.proofs.placed_kept.Readers.{keeps_choose}
use Rattle.pfc_grammar.proofs.placed_kept.Loops.{behind_next, between_next, closed, Items, keep_items, keeps_many, list_then, keeps_list}

module _ {e : Reader ExprTree} (h : Whole expr_trace e) where
  keeps_index : (p : Place) → Keeps (λ steps. here p ∷ next ∷ steps) (Traced selector_trace) (selector_behind e true p)
  unfolding selector_behind
  keeps_index p = keeps_then (keeps_list expr_trace (λ es. comma_exprs_trace (exprs_of es)) (record { none = refl; more = λ x xs. refl }) _ h
      (λ es. exprs_trace (exprs_of es)) (λ x xs. refl)) (λ es. pass_then _ (λ t. keeps_pure _ refl))

  keeps_field : (p : Place) → Keeps (λ steps. next ∷ steps) (Traced selector_trace) (selector_behind e false p)
  unfolding selector_behind
  keeps_field p = keep_then _ (λ x. keeps_pure _ refl)

  selector_items : Items selector_trace (λ o. selector_behind e o.0 o.1)
  selector_items = record { item = at }
    where
      at : (b : Bool) (t : Token) (ts : List Token) → Reaches (λ x rest. Traced selector_trace x (t ∷ ts) rest) (selector_behind e b t.place ts)
      at true t ts = (keeps_index t.place).reaches (t ∷ ts) ts (λ steps rest k. (refl, k))
      at false t ts = (keeps_field t.place).reaches (t ∷ ts) ts (λ steps rest k. k)

  -- behind the name, which is kept as the place of the designator
  pub leads_desig_behind : (F : List Step → List Step) (x : Text × Place) →
      Keeps (λ steps. F (here x.1 ∷ next ∷ steps)) (Leading (λ d steps. F (desig_trace d ++ steps))) (desig_behind e x)
  unfolding desig_behind
  leads_desig_behind F x =
      keeps_then (keeps_many selector_trace (λ ss. selectors_trace (selectors_of ss)) (record {
        none = refl;
        more =
            λ s ss. refl;
      }) _ selector_items) (λ ss. leads_pure _ (λ steps. refl))

  pub keeps_desig : Whole desig_trace (desig_with e)
  unfolding desig_with desig_behind
  keeps_desig = keep_then _ (λ x. keeps_then (keeps_many selector_trace (λ ss. selectors_trace (selectors_of ss)) (record {
    none = refl;
    more =
        λ s ss. refl;
  }) _ selector_items) (λ ss. keeps_pure _ (search same_traces)))

  keeps_actual : Whole actual_trace (actual_with e)
  unfolding actual_with
  keeps_actual = keeps_then h (λ value. pass_branch _ (λ t. keeps_then h (λ width. keeps_pure _ (search same_traces))) (keeps_pure _ (search same_traces)))

  pub keeps_actuals : Whole actuals_trace (actuals_with e)
  unfolding actuals_with
  keeps_actuals = pass_branch _ (λ t. list_then actual_trace (behind_next actual_trace) (record { none = refl; more = λ x xs. refl }) _ keeps_actual _
      (between_next actual_trace) (λ x xs. refl) (λ x xs. pass_then _ (λ u. keeps_pure _ (closes x xs)))) (keeps_pure _ refl)
    where
      closes : (x : ActualTree) (xs : List ActualTree) →
          next ∷ ((actual_trace x ++ behind_next actual_trace xs) ++ next ∷ []) ≡ actuals_trace (actuals_of (x ∷ xs))
      closes x xs = ap (λ z. next ∷ z) (append_assoc (actual_trace x) (behind_next actual_trace xs) (next ∷ []) ∙
          ap (λ z. actual_trace x ++ z) (closed actual_trace (λ args. comma_actuals_trace (actuals_of args)) refl (λ y ys. refl) xs))

  keeps_paren : (p : Place) → Keeps (λ steps. here p ∷ next ∷ steps) (Traced factor_trace) (paren_behind e p)
  unfolding paren_behind
  keeps_paren p = keeps_then h (λ x. pass_then _ (λ t. keeps_pure _ refl))

  keeps_applied : (x : Text × Place) → Keeps (λ steps. here x.1 ∷ here x.1 ∷ next ∷ steps) (Traced factor_trace) (applied_behind e x)
  unfolding applied_behind
  keeps_applied x = keeps_bind (leads_desig_behind (λ steps. here x.1 ∷ steps) x) (λ d. keeps_then keeps_actuals (λ args. keeps_pure _ (search same_traces)))

  pub keeps_plain_factor : Whole factor_trace (plain_factor e)
  unfolding plain_factor
  keeps_plain_factor = keep_branch _ (λ n. keeps_pure _ refl)
      (keep_branch _ (λ x. keeps_pure _ refl) (keep_branch _ (λ t. keeps_paren t.1) (keep_branch_twice _ keeps_applied keeps_stop)))

-- No trace of an expression is kept by no token.
none_first : (a b : List Step) (rest : List Token) → ((r : List Token) → AreKept a [] r → ⊥) → AreKept (a ++ b) [] rest → ⊥
none_first [] b rest h k = h [] refl
none_first (here p ∷ a) b rest h k = k.0
none_first (next ∷ a) b rest h k = k

factor_takes : (f : FactorTree) (rest : List Token) → AreKept (factor_trace f) [] rest → ⊥
factor_takes (number n p) rest k = k.0
factor_takes (literal x p) rest k = k.0
factor_takes (negation f p) rest k = k.0
factor_takes (paren e p) rest k = k.0
factor_takes (applied d args p) rest k = k.0

term_takes : (t : TermTree) (rest : List Token) → AreKept (term_trace t) [] rest → ⊥
term_takes (product f ms) rest k = none_first (factor_trace f) (multipliers_trace ms) rest (factor_takes f) k

simple_takes : (s : SimpleTree) (rest : List Token) → AreKept (simple_trace s) [] rest → ⊥
simple_takes (sum None t us) rest k = none_first (term_trace t) (summands_trace us) rest (term_takes t) k
simple_takes (sum (Some s) t us) rest k = k.0

abbrev multiplier_trace : (MulOp × Place) × FactorTree → List Step
multiplier_trace m = here m.0.1 ∷ next ∷ factor_trace m.1

abbrev summand_trace : (AddOp × Place) × TermTree → List Step
summand_trace u = here u.0.1 ∷ next ∷ term_trace u.1

module _ {f : Reader FactorTree} (h : Whole factor_trace f) where
  keeps_multiplier : (op : MulOp × Place) → Keeps (λ steps. here op.1 ∷ next ∷ steps) (Traced multiplier_trace) (multiplier_behind f op)
  unfolding multiplier_behind
  keeps_multiplier op = keeps_then h (λ x. keeps_pure _ (search same_traces))

  keeps_term : Whole term_trace (term_with f)
  unfolding term_with
  keeps_term = keeps_then h (λ x. keeps_then (keeps_many multiplier_trace (λ ms. multipliers_trace (multipliers_of ms)) (record {
    none = refl;
    more =
        λ m ms. refl;
  }) _ (keep_items keeps_multiplier)) (λ ms. keeps_pure _ (search same_traces)))

  keeps_summand : (op : AddOp × Place) → Keeps (λ steps. here op.1 ∷ next ∷ steps) (Traced summand_trace) (summand_behind f op)
  unfolding summand_behind
  keeps_summand op = keeps_then keeps_term (λ x. keeps_pure _ (search same_traces))

  keeps_simple_behind : (sign : Option (plus_or_minus.Sign × Place)) → Keeps (λ steps. sign_trace sign ++ steps) (Traced simple_trace) (simple_behind f sign)
  unfolding simple_behind
  keeps_simple_behind sign =
      keeps_then keeps_term (λ t. keeps_then (keeps_many summand_trace (λ us. summands_trace (summands_of us)) (record { none = refl; more = λ u us. refl }) _
      (keep_items keeps_summand)) (λ us. keeps_pure _ (search same_traces)))

  keeps_simple : Whole simple_trace (simple_with f)
  unfolding simple_with
  keeps_simple = keep_branch _ (λ s. keeps_simple_behind (Some s)) (keeps_simple_behind None)

  keeps_expr_from : (p : Place) → Keeps (λ steps. here p ∷ steps) (Traced expr_trace) (expr_from f p)
  unfolding expr_from
  keeps_expr_from p = keeps_then keeps_simple
      (λ left. keep_branch _ (λ r. keeps_then keeps_simple (λ right. keeps_pure _ (search same_traces))) (keeps_pure _ (search same_traces)))

  pub keeps_expr_with : Whole expr_trace (expr_with f)
  unfolding expr_with expr_from bind peek
  keeps_expr_with = record { reaches = go }
    where
      -- where no token comes there is no sum
      at_end : {B : Type 0} (start : List Token) (k : SimpleTree → Reader B) (Q : B → List Token → List Token → Type 0) (o : Outcome SimpleTree) →
          Reaches (λ x rest. Traced simple_trace x [] rest) o → Reaches (λ x rest. Q x start rest) (then_read o k)
      at_end start k Q (Ok p) w = absurd (simple_takes p.0 p.1 w.kept)
      at_end start k Q (Err q) w = tt

      go : (start ts : List Token) → Leads (λ steps. steps) start ts → Reaches (λ x rest. Traced expr_trace x start rest) (expr_with f ts)
      go start [] l = at_end start _ (Traced expr_trace) (simple_with f []) (keeps_simple.reaches [] [] (led []))
      go start (t ∷ ts) l = (keeps_expr_from t.place).reaches start (t ∷ ts) (λ steps rest k. l (here t.place ∷ steps) rest (refl, k))

  pub keeps_factor_with : {e : Reader ExprTree} → Whole expr_trace e → Whole factor_trace (factor_with f e)
  unfolding factor_with
  keeps_factor_with k = keep_branch _ (λ t. keeps_then h (λ x. keeps_pure _ (search same_traces))) (keeps_plain_factor k)

-- Whatever the number of levels.
keeps_no_expr : Whole expr_trace no_expr
unfolding no_expr
keeps_no_expr = keeps_choose _ keeps_stop_deep keeps_stop

pub keeps_factor_at : (n : ℕ) → Whole factor_trace (factor_at n)
unfolding factor_at
keeps_factor_at zero = keeps_choose _ keeps_stop_deep (keeps_plain_factor keeps_no_expr)
keeps_factor_at (suc n) = keeps_factor_with (keeps_factor_at n) (keeps_expr_with (keeps_factor_at n))

pub keeps_expr_at : (n : ℕ) → Whole expr_trace (expr_at n)
unfolding expr_at
keeps_expr_at zero = keeps_no_expr
keeps_expr_at (suc n) = keeps_expr_with (keeps_factor_at n)
