-- A variable that stands alone.
use Rattle.std.proofs.Common.{◌≡◌, ◌<◌, ◌++◌, ◌∙◌, List, [], ◌∷◌, length, Option, Some, None, is_some, true, false, refl, subst, ap, arith}
use Rattle.std.proofs.lemmas.List.{append-nil}
use Rattle.pfc_base.specs.declared.places.Place.{Place}
use Rattle.pfc_tree.specs.declared.tree.Sign.{Sign}
use Rattle.pfc_tree.specs.declared.tree.AddOp.{AddOp}
use Rattle.pfc_tree.specs.declared.tree.MulOp.{MulOp}
use Rattle.pfc_tree.specs.declared.tree.Term.{Term, out-Term}
use Rattle.pfc_tree.specs.declared.tree.Simple.{Simple, out-Simple}
use Rattle.pfc_tree.specs.declared.tree.Factor.{Factor}
use Rattle.pfc_tree.specs.trees.Exprs.{SimpleTree, TermTree, FactorTree, SummandTrees, MultiplierTrees, sum, product, no_summands, more_summands}
use Rattle.pfc_tree.specs.trees.Exprs.{no_multipliers, more_multipliers}
use Rattle.pfc_tree.specs.views.Exprs.{simple_view, factor_view, summands_view, multipliers_view}
use Rattle.pfc_types.specs.rules.Expressions.{Env, simple_type, factor_type}
use Rattle.pfc_expression_code.proofs.Nodes.{simple_view-out, term_view-out}
use Rattle.pfc_expression_code.specs.Lists.{Ways, simple_list, factor_list, is_lone_simple, lone_simple_list, lone_term_list, lone_factor_list}

pub lone_first :
    (s : Ways) (f : FactorTree) (ms : List ((MulOp × Place) × Factor)) → length ms < 1
    → lone_term_list s (product f (multipliers_view ms)) ≡ lone_factor_list s f
lone_first s f [] none = refl
lone_first s f (m ∷ ms) none = absurd (omega (arith, none))

pub lone_unsigned :
    (s : Ways) (sign : Option (Sign × Place)) (t : TermTree) (us : List ((AddOp × Place) × Term)) → is_some sign ≡ false → length us < 1
    → lone_simple_list s (sum sign t (summands_view us)) ≡ lone_term_list s t
lone_unsigned s None t [] unsigned none = refl
lone_unsigned s None t (u ∷ us) unsigned none = absurd (omega (arith, none))
lone_unsigned s (Some x) t us unsigned none = cc

-- a sum that is one factor has the code and the type of the factor
tree_code :
    (w : Ways) (sign : Option (Sign × Place)) (f : FactorTree) (ms : MultiplierTrees) (us : SummandTrees)
    → is_lone_simple (sum sign (product f ms) us) ≡ true → simple_list w (sum sign (product f ms) us) ≡ factor_list w f
tree_code w None f no_multipliers no_summands lone = append-nil (factor_list w f ++ []) ∙ append-nil (factor_list w f)
tree_code w None f (more_multipliers op g ms) no_summands lone = cc
tree_code w None f ms (more_summands op t us) lone = cc
tree_code w (Some x) f ms us lone = cc

tree_type :
    (env : Env) (sign : Option (Sign × Place)) (f : FactorTree) (ms : MultiplierTrees) (us : SummandTrees)
    → is_lone_simple (sum sign (product f ms) us) ≡ true → simple_type env (sum sign (product f ms) us) ≡ factor_type env f
tree_type env None f no_multipliers no_summands lone = refl
tree_type env None f (more_multipliers op g ms) no_summands lone = cc
tree_type env None f ms (more_summands op t us) lone = cc
tree_type env (Some x) f ms us lone = cc

-- the sum, read down to its first factor
read_down :
    (s : Simple) → simple_view s
    ≡ sum (out-Simple s).sign (product (factor_view (out-Term (out-Simple s).first).first) (multipliers_view (out-Term (out-Simple s).first).rest.items))
    (summands_view (out-Simple s).rest.items)
read_down s =
    simple_view-out s
    ∙ ap (λ (x : TermTree). sum (out-Simple s).sign x (summands_view (out-Simple s).rest.items)) (term_view-out (out-Simple s).first)

pub lone_code :
    (w : Ways) (s : Simple) → is_lone_simple (simple_view s) ≡ true
    → simple_list w (simple_view s) ≡ factor_list w (factor_view (out-Term (out-Simple s).first).first)
lone_code w s lone =
    let t = out-Term (out-Simple s).first in
    ap (λ (x : SimpleTree). simple_list w x) (read_down s)
    ∙ tree_code w (out-Simple s).sign (factor_view t.first) (multipliers_view t.rest.items) (summands_view (out-Simple s).rest.items)
    (subst (λ (x : SimpleTree). is_lone_simple x ≡ true) (read_down s) lone)

pub lone_type :
    (env : Env) (s : Simple) → is_lone_simple (simple_view s) ≡ true
    → simple_type env (simple_view s) ≡ factor_type env (factor_view (out-Term (out-Simple s).first).first)
lone_type env s lone =
    let t = out-Term (out-Simple s).first in
    ap (λ (x : SimpleTree). simple_type env x) (read_down s)
    ∙ tree_type env (out-Simple s).sign (factor_view t.first) (multipliers_view t.rest.items) (summands_view (out-Simple s).rest.items)
    (subst (λ (x : SimpleTree). is_lone_simple x ≡ true) (read_down s) lone)

pub ruleset lone_same = (lone_code, lone_type)
