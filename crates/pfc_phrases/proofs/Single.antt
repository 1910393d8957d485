-- An expression is a designator, or a literal, where its one factor is one.
use Rattle.std.proofs.Common.{◌≡◌, Some, None, refl, sym}
use Rattle.pfc_tree.specs.trees.Exprs.{ExprTree, FactorTree, SummandTrees, MultiplierTrees, plain, related, sum, no_summands, more_summands, product}
use Rattle.pfc_tree.specs.trees.Exprs.{no_multipliers, more_multipliers, number, literal, negation, paren, applied, no_actuals, more_actuals}
use Rattle.pfc_types.specs.rules.Expressions.{as_desig, as_literal}
use Rattle.pfc_phrases.specs.Single.{as_factor, factor_in, single_term, factor_desig, factor_literal}

-- a factor that is none is none with others behind it
no_desig :
    (f : FactorTree) (ms : MultiplierTrees) (us : SummandTrees)
    → factor_desig (Some f) ≡ None → None ≡ factor_desig (factor_in (single_term (sum None (product f ms) us)))
no_desig f ms (more_summands op t us) here = refl
no_desig f (more_multipliers op g ms) no_summands here = refl
no_desig f no_multipliers no_summands here = sym here

no_literal :
    (f : FactorTree) (ms : MultiplierTrees) (us : SummandTrees)
    → factor_literal (Some f) ≡ None → None ≡ factor_literal (factor_in (single_term (sum None (product f ms) us)))
no_literal f ms (more_summands op t us) here = refl
no_literal f (more_multipliers op g ms) no_summands here = refl
no_literal f no_multipliers no_summands here = sym here

pub as_desig-factor : (e : ExprTree) → as_desig e ≡ factor_desig (as_factor e)
as_desig-factor (related s r u p) = refl
as_desig-factor (plain (sum (Some sign) t us) p) = refl
as_desig-factor (plain (sum None (product (number n q) ms) us) p) = no_desig (number n q) ms us refl
as_desig-factor (plain (sum None (product (literal x q) ms) us) p) = no_desig (literal x q) ms us refl
as_desig-factor (plain (sum None (product (negation f q) ms) us) p) = no_desig (negation f q) ms us refl
as_desig-factor (plain (sum None (product (paren e q) ms) us) p) = no_desig (paren e q) ms us refl
as_desig-factor (plain (sum None (product (applied d (more_actuals a args) q) ms) us) p) = no_desig (applied d (more_actuals a args) q) ms us refl
as_desig-factor (plain (sum None (product (applied d no_actuals q) (more_multipliers op f ms)) no_summands) p) = refl
as_desig-factor (plain (sum None (product (applied d no_actuals q) (more_multipliers op f ms)) (more_summands op' t us)) p) = refl
as_desig-factor (plain (sum None (product (applied d no_actuals q) no_multipliers) (more_summands op t us)) p) = refl
as_desig-factor (plain (sum None (product (applied d no_actuals q) no_multipliers) no_summands) p) = refl

pub as_literal-factor : (e : ExprTree) → as_literal e ≡ factor_literal (as_factor e)
as_literal-factor (related s r u p) = refl
as_literal-factor (plain (sum (Some sign) t us) p) = refl
as_literal-factor (plain (sum None (product (number n q) ms) us) p) = no_literal (number n q) ms us refl
as_literal-factor (plain (sum None (product (negation f q) ms) us) p) = no_literal (negation f q) ms us refl
as_literal-factor (plain (sum None (product (paren e q) ms) us) p) = no_literal (paren e q) ms us refl
as_literal-factor (plain (sum None (product (applied d args q) ms) us) p) = no_literal (applied d args q) ms us refl
as_literal-factor (plain (sum None (product (literal x q) (more_multipliers op f ms)) no_summands) p) = refl
as_literal-factor (plain (sum None (product (literal x q) (more_multipliers op f ms)) (more_summands op' t us)) p) = refl
as_literal-factor (plain (sum None (product (literal x q) no_multipliers) (more_summands op t us)) p) = refl
as_literal-factor (plain (sum None (product (literal x q) no_multipliers) no_summands) p) = refl

pub ruleset single = (as_desig-factor, as_literal-factor)
