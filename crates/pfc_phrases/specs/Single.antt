-- Expressions that are no more than one factor.
use Rattle.std.specs.Prelude.{Option, Some, None}
use Rattle.pfc_tree.specs.Symbols.{Text}
use Rattle.pfc_tree.specs.trees.Exprs.{ExprTree, SimpleTree, TermTree, FactorTree, DesigTree, plain, sum, no_summands, product, no_multipliers, literal}
use Rattle.pfc_tree.specs.trees.Exprs.{applied, no_actuals}

-- the term that a sum is, without a sign
abbrev pub single_term : SimpleTree → Option TermTree
single_term (sum None t no_summands) = Some t
single_term s = None

-- the factor that a product is
abbrev pub single_factor : TermTree → Option FactorTree
single_factor (product f no_multipliers) = Some f
single_factor t = None

abbrev pub factor_in : Option TermTree → Option FactorTree
factor_in None = None
factor_in (Some t) = single_factor t

-- the factor that an expression is
abbrev pub as_factor : ExprTree → Option FactorTree
as_factor (plain s p) = factor_in (single_term s)
as_factor e = None

-- the designator and the literal that a factor is
abbrev pub factor_desig : Option FactorTree → Option DesigTree
factor_desig (Some (applied d no_actuals p)) = Some d
factor_desig f = None

abbrev pub factor_literal : Option FactorTree → Option Text
factor_literal (Some (literal x p)) = Some x
factor_literal f = None
