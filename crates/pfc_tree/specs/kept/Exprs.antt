-- Where the places that a tree keeps stand among its tokens. A trace goes through the tokens in order: `next` passes a
-- token, and `here p` says that the tree keeps p as the place of the token that comes.
use Rattle.std.specs.Prelude.{◌≡◌, ℕ, suc, Option, Some, None, List, [], ◌∷◌, ◌++◌}
use Rattle.pfc_base.specs.declared.places.Place.{Place}
use Rattle.pfc_base.specs.declared.tokens.Token.{Token}
use Rattle.pfc_tree.specs.declared.tree.Sign.{Sign}
use Rattle.pfc_tree.specs.trees.Exprs.{ExprTree, SimpleTree, SummandTrees, TermTree, MultiplierTrees, FactorTree, DesigTree, SelectorTree, SelectorTrees}
use Rattle.pfc_tree.specs.trees.Exprs.{ExprTrees, ActualTree, ActualTrees, plain, related, sum, no_summands, more_summands, product, no_multipliers}
use Rattle.pfc_tree.specs.trees.Exprs.{more_multipliers, number, literal, negation, paren, applied, desig, index, field, no_selectors, more_selectors, no_exprs}
use Rattle.pfc_tree.specs.trees.Exprs.{more_exprs, actual, actual_width, no_actuals, more_actuals}

pub data Step : Type 0 where
  here : Place → Step
  next : Step

-- the token that comes stands at p
abbrev pub ComesAt : Place → List Token → Type 0
ComesAt p [] = ⊥
ComesAt p (t ∷ ts) = t.place ≡ p

-- the kept places are those of the tokens, from the first of `ts` to the last before `rest`
abbrev pub AreKept : List Step → List Token → List Token → Type 0
AreKept [] ts rest = ts ≡ rest
AreKept (here p ∷ steps) ts rest = ComesAt p ts × AreKept steps ts rest
AreKept (next ∷ steps) [] rest = ⊥
AreKept (next ∷ steps) (t ∷ ts) rest = AreKept steps ts rest

-- how many tokens a trace passes
abbrev pub passed : List Step → ℕ
passed [] = 0
passed (here p ∷ steps) = passed steps
passed (next ∷ steps) = suc (passed steps)

-- a token whose place is kept
abbrev pub at : Place → List Step
at p = here p ∷ next ∷ []

abbrev pub sign_trace : Option (Sign × Place) → List Step
sign_trace None = []
sign_trace (Some s) = at s.1

abbrev mutual
  pub expr_trace : ExprTree → List Step
  expr_trace (plain s p) = here p ∷ simple_trace s
  expr_trace (related s r t p) = here p ∷ simple_trace s ++ here r.1 ∷ next ∷ simple_trace t

  pub simple_trace : SimpleTree → List Step
  simple_trace (sum sign t us) = sign_trace sign ++ term_trace t ++ summands_trace us

  pub summands_trace : SummandTrees → List Step
  summands_trace no_summands = []
  summands_trace (more_summands op t us) = at op.1 ++ term_trace t ++ summands_trace us

  pub term_trace : TermTree → List Step
  term_trace (product f ms) = factor_trace f ++ multipliers_trace ms

  pub multipliers_trace : MultiplierTrees → List Step
  multipliers_trace no_multipliers = []
  multipliers_trace (more_multipliers op f ms) = at op.1 ++ factor_trace f ++ multipliers_trace ms

  pub factor_trace : FactorTree → List Step
  factor_trace (number n p) = at p
  factor_trace (literal x p) = at p
  factor_trace (negation f p) = at p ++ factor_trace f
  factor_trace (paren e p) = at p ++ expr_trace e ++ next ∷ []
  factor_trace (applied d args p) = here p ∷ desig_trace d ++ actuals_trace args

  pub desig_trace : DesigTree → List Step
  desig_trace (desig x ss p) = at p ++ selectors_trace ss

  pub selectors_trace : SelectorTrees → List Step
  selectors_trace no_selectors = []
  selectors_trace (more_selectors s ss) = selector_trace s ++ selectors_trace ss

  pub selector_trace : SelectorTree → List Step
  selector_trace (index es p) = at p ++ exprs_trace es ++ next ∷ []
  selector_trace (field x p) = next ∷ at p

  pub exprs_trace : ExprTrees → List Step
  exprs_trace no_exprs = []
  exprs_trace (more_exprs e es) = expr_trace e ++ comma_exprs_trace es

  pub comma_exprs_trace : ExprTrees → List Step
  comma_exprs_trace no_exprs = []
  comma_exprs_trace (more_exprs e es) = next ∷ expr_trace e ++ comma_exprs_trace es

  pub actuals_trace : ActualTrees → List Step
  actuals_trace no_actuals = []
  actuals_trace (more_actuals a args) = next ∷ actual_trace a ++ comma_actuals_trace args

  pub comma_actuals_trace : ActualTrees → List Step
  comma_actuals_trace no_actuals = next ∷ []
  comma_actuals_trace (more_actuals a args) = next ∷ actual_trace a ++ comma_actuals_trace args

  pub actual_trace : ActualTree → List Step
  actual_trace (actual e) = expr_trace e
  actual_trace (actual_width e width) = expr_trace e ++ next ∷ expr_trace width
