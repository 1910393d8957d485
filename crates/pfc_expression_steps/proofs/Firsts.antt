-- Nodes and lists of nodes, of which the first part is read.
use Rattle.std.proofs.Common.{◌≡◌, ◌-◌, ◌<◌, ◌≤◌, List, [], ◌∷◌, length, get_or, take, drop, Option, None, refl, sym, ap, ◌∙◌, arith}
use Rattle.std.proofs.lemmas.List.{take_all}
use Rattle.pfc_base.specs.declared.places.Place.{Place}
use Rattle.pfc_tree.specs.declared.tree.AddOp.{AddOp}
use Rattle.pfc_tree.specs.declared.tree.MulOp.{MulOp}
use Rattle.pfc_tree.specs.declared.tree.Sign.{Sign}
use Rattle.pfc_tree.specs.declared.tree.Expr.{Expr}
use Rattle.pfc_tree.specs.declared.tree.Factor.{Factor}
use Rattle.pfc_tree.specs.declared.tree.Selector.{Selector}
use Rattle.pfc_tree.specs.declared.tree.Simple.{Simple, out-Simple}
use Rattle.pfc_tree.specs.declared.tree.Term.{Term, out-Term}
use Rattle.pfc_tree.specs.trees.Exprs.{FactorTree, SimpleTree, TermTree, sum, product, more_summands}
use Rattle.pfc_tree.specs.trees.Exprs.{more_multipliers, more_exprs, more_selectors}
use Rattle.pfc_tree.specs.views.Exprs.{expr_view, simple_view, term_view, factor_view, selector_view, summands_view, multipliers_view, exprs_view}
use Rattle.pfc_tree.specs.views.Exprs.{selectors_view}
use Rattle.pfc_semantics.specs.Values.{Value}
use Rattle.pfc_semantics.specs.Remainders.{Context, AwaitsValue, begin_sum, begin_product}
use Rattle.pfc_semantics.specs.Expressions.{from_simple, from_term, from_factor}
use Rattle.pfc_semantics.specs.Rewriting.{from_value}
use Rattle.pfc_expression_steps.proofs.Nodes.{simple_view-out, term_view-out}

-- what stands behind the first one
behind : {T : Type 0} (x : T) (xs : List T) → take (length (x ∷ xs) - 1) (drop 1 (x ∷ xs)) ≡ xs
behind x xs = take_all (length (x ∷ xs) - 1) xs (omega arith)

pub first_and_rest : {T : Type 0} (xs : List T) (x : T) → 1 ≤ length xs → x ≡ get_or xs 0 x → x ∷ take (length xs - 1) (drop 1 xs) ≡ xs
first_and_rest [] x some is = absurd (omega (arith, some))
first_and_rest (y ∷ ys) x some is = ap (λ z. z ∷ take (length (y ∷ ys) - 1) (drop 1 (y ∷ ys))) is ∙ ap (λ zs. y ∷ zs) (behind y ys)

-- ## Sums and products

pub summands_first :
    (us : List ((AddOp × Place) × Term)) (x : (AddOp × Place) × Term)
    → 1 ≤ length us → x ≡ get_or us 0 x → more_summands x.0 (term_view x.1) (summands_view (take (length us - 1) (drop 1 us))) ≡ summands_view us
summands_first us x some is = ap summands_view (first_and_rest us x some is)

pub multipliers_first :
    (us : List ((MulOp × Place) × Factor)) (x : (MulOp × Place) × Factor)
    → 1 ≤ length us → x ≡ get_or us 0 x → more_multipliers x.0 (factor_view x.1) (multipliers_view (take (length us - 1) (drop 1 us))) ≡ multipliers_view us
multipliers_first us x some is = ap multipliers_view (first_and_rest us x some is)

pub sum_alone :
    (c : Context) (t : TermTree) (us : List ((AddOp × Place) × Term)) (u : AwaitsValue)
    → length us < 1 → from_term c t u (from_value c u) ≡ from_simple c (sum None t (summands_view us)) u (from_value c u)
sum_alone c t [] u none = refl
sum_alone c t (x ∷ us) u none = absurd (omega (arith, none))

pub sum_begun :
    (c : Context) (t : TermTree) (us : List ((AddOp × Place) × Term)) (u : AwaitsValue)
    → 1 ≤ length us
    → from_term c t (begin_sum None (summands_view us) u) (from_value c (begin_sum None (summands_view us) u)) ≡ from_simple c
    (sum None t (summands_view us)) u (from_value c u)
sum_begun c t [] u some = absurd (omega (arith, some))
sum_begun c t (x ∷ us) u some = refl

pub ruleset sums = (sum_alone, sum_begun)

pub simple_as :
    (c : Context) (s : Simple) (sign : Option (Sign × Place)) (us : List ((AddOp × Place) × Term)) (u : AwaitsValue)
    → (out-Simple s).sign ≡ sign → us ≡ (out-Simple s).rest.items
    → from_simple c (sum sign (term_view (out-Simple s).first) (summands_view us)) u (from_value c u) ≡ from_simple c (simple_view s) u (from_value c u)
simple_as c s sign us u signed all =
    ap (λ (l : List ((AddOp × Place) × Term)). from_simple c (sum sign (term_view (out-Simple s).first) (summands_view l)) u (from_value c u)) all
    ∙ ap (λ (g : Option (Sign × Place)). from_simple c (sum g (term_view (out-Simple s).first) (summands_view (out-Simple s).rest.items)) u (from_value c u))
    (sym signed)
    ∙ ap (λ (x : SimpleTree). from_simple c x u (from_value c u)) (sym (simple_view-out s))

product_alone :
    (c : Context) (f : FactorTree) (us : List ((MulOp × Place) × Factor)) (u : AwaitsValue)
    → length us < 1 → from_factor c f u (from_value c u) ≡ from_term c (product f (multipliers_view us)) u (from_value c u)
product_alone c f [] u none = refl
product_alone c f (x ∷ us) u none = absurd (omega (arith, none))

product_begun :
    (c : Context) (f : FactorTree) (us : List ((MulOp × Place) × Factor)) (u : AwaitsValue)
    → 1 ≤ length us
    → from_factor c f (begin_product (multipliers_view us) u) (from_value c (begin_product (multipliers_view us) u)) ≡ from_term c
    (product f (multipliers_view us)) u (from_value c u)
product_begun c f [] u some = absurd (omega (arith, some))
product_begun c f (x ∷ us) u some = refl

term_as :
    (c : Context) (t : Term) (us : List ((MulOp × Place) × Factor)) (u : AwaitsValue)
    → us ≡ (out-Term t).rest.items
    → from_term c (product (factor_view (out-Term t).first) (multipliers_view us)) u (from_value c u) ≡ from_term c (term_view t) u (from_value c u)
term_as c t us u all =
    ap (λ (l : List ((MulOp × Place) × Factor)). from_term c (product (factor_view (out-Term t).first) (multipliers_view l)) u (from_value c u)) all
    ∙ ap (λ (x : TermTree). from_term c x u (from_value c u)) (sym (term_view-out t))

pub term_alone :
    (c : Context) (t : Term) (us : List ((MulOp × Place) × Factor)) (u : AwaitsValue)
    → us ≡ (out-Term t).rest.items → length us < 1
    → from_factor c (factor_view (out-Term t).first) u (from_value c u) ≡ from_term c (term_view t) u (from_value c u)
term_alone c t us u all none = product_alone c (factor_view (out-Term t).first) us u none ∙ term_as c t us u all

pub term_begun :
    (c : Context) (t : Term) (us : List ((MulOp × Place) × Factor)) (u : AwaitsValue)
    → us ≡ (out-Term t).rest.items → 1 ≤ length us
    → from_factor c (factor_view (out-Term t).first) (begin_product (multipliers_view us) u) (from_value c (begin_product (multipliers_view us) u))
    ≡ from_term c (term_view t) u (from_value c u)
term_begun c t us u all some = product_begun c (factor_view (out-Term t).first) us u some ∙ term_as c t us u all

-- ## Indices and selectors

pub exprs_first :
    (es : List Expr) (x : Expr) → 1 ≤ length es → x ≡ get_or es 0 x → more_exprs (expr_view x) (exprs_view (take (length es - 1) (drop 1 es))) ≡ exprs_view es
exprs_first es x some is = ap exprs_view (first_and_rest es x some is)

pub selectors_first :
    (ss : List Selector) (x : Selector)
    → 1 ≤ length ss → x ≡ get_or ss 0 x → more_selectors (selector_view x) (selectors_view (take (length ss - 1) (drop 1 ss))) ≡ selectors_view ss
selectors_first ss x some is = ap selectors_view (first_and_rest ss x some is)
