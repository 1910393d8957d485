-- The instructions of a variable that may stand alone, by whether it does.
use Rattle.std.proofs.Common.{◌≡◌, true, false, cond, Option, Some, None, refl, ap, ◌∙◌}
use Rattle.pfc_base.specs.declared.places.Place.{Place}
use Rattle.pfc_tree.specs.declared.tree.Sign.{Sign}
use Rattle.pfc_tree.specs.trees.Exprs.{SummandTrees, TermTree, MultiplierTrees, FactorTree, sum, no_summands, more_summands, product, no_multipliers}
use Rattle.pfc_tree.specs.trees.Exprs.{more_multipliers}
use Rattle.pfc_types.specs.Blocks.{Blocks}
use Rattle.pfc_types.specs.rules.Expressions.{Env}
use Rattle.pfc_code_size.specs.Lone.{no_multiplier, is_lone_sum}
use Rattle.pfc_code_size.specs.Expressions.{lone_simple_size, lone_term_size, lone_factor_size}

simple_is :
    (b : Blocks) (c : Env) (sign : Option (Sign × Place)) (t : TermTree) (us : SummandTrees)
    → lone_simple_size b c (sum sign t us) ≡ cond (is_lone_sum sign us) (lone_term_size b c t) 0
simple_is b c None t no_summands = refl
simple_is b c None t (more_summands op u us) = refl
simple_is b c (Some sign) t us = refl

pub simple_yes :
    (b : Blocks) (c : Env) (sign : Option (Sign × Place)) (t : TermTree) (us : SummandTrees)
    → is_lone_sum sign us ≡ true → lone_simple_size b c (sum sign t us) ≡ lone_term_size b c t
simple_yes b c sign t us is = simple_is b c sign t us ∙ ap (λ x. cond x (lone_term_size b c t) 0) is

pub simple_no :
    (b : Blocks) (c : Env) (sign : Option (Sign × Place)) (t : TermTree) (us : SummandTrees)
    → is_lone_sum sign us ≡ false → lone_simple_size b c (sum sign t us) ≡ 0
simple_no b c sign t us is = simple_is b c sign t us ∙ ap (λ x. cond x (lone_term_size b c t) 0) is

term_is : (b : Blocks) (c : Env) (f : FactorTree) (ms : MultiplierTrees) →
    lone_term_size b c (product f ms) ≡ cond (no_multiplier ms) (lone_factor_size b c f) 0
term_is b c f no_multipliers = refl
term_is b c f (more_multipliers op g ms) = refl

pub term_yes : (b : Blocks) (c : Env) (f : FactorTree) (ms : MultiplierTrees) → no_multiplier ms ≡ true →
    lone_term_size b c (product f ms) ≡ lone_factor_size b c f
term_yes b c f ms is = term_is b c f ms ∙ ap (λ x. cond x (lone_factor_size b c f) 0) is

pub term_no : (b : Blocks) (c : Env) (f : FactorTree) (ms : MultiplierTrees) → no_multiplier ms ≡ false → lone_term_size b c (product f ms) ≡ 0
term_no b c f ms is = term_is b c f ms ∙ ap (λ x. cond x (lone_factor_size b c f) 0) is

pub ruleset lone = (simple_yes, simple_no, term_yes, term_no)
