-- The variable that an argument is, by the designator that it is.
use Rattle.std.proofs.Common.{◌≡◌, ◌≤◌, List, [], ◌∷◌, length, get_or, Option, Some, None, refl, sym, ap, ◌∙◌, arith}
use Rattle.pfc_tree.specs.declared.tree.Actual.{Actual}
use Rattle.pfc_tree.specs.views.Exprs.{actual_view, actuals_view}
use Rattle.pfc_tree.specs.trees.Exprs.{ActualTree, ActualTrees, DesigTree, ExprTree, plain, related, sum, no_summands, more_summands, product, no_multipliers}
use Rattle.pfc_tree.specs.trees.Exprs.{more_multipliers, number, literal, negation, paren, applied, desig, actual, actual_width, no_actuals, more_actuals}
use Rattle.pfc_types.specs.rules.Expressions.{as_desig}
use Rattle.pfc_semantics.specs.Displays.{TypedSpot}
use Rattle.pfc_semantics.specs.Remainders.{Context, AwaitsValue, AwaitsLocation, Action}
use Rattle.pfc_semantics.specs.Values.{Value}
use Rattle.pfc_semantics.specs.Expressions.{spot_in, from_expr, from_desig, from_variable, from_lent, from_actual, from_reference, from_argument}
use Rattle.pfc_semantics.specs.Statements.{item_of}

-- ## An argument, with or without a width

lent : (c : Context) (a : ActualTree) (goal : AwaitsLocation) (go : TypedSpot → Action) → from_lent c a goal go ≡ from_variable c (item_of a) goal go
lent c (actual e) goal go = refl
lent c (actual_width e w) goal go = refl

given : (c : Context) (a : ActualTree) (u : AwaitsValue) (go : Value → Action) → from_actual c a u go ≡ from_expr c (item_of a) u go
given c (actual e) u go = refl
given c (actual_width e w) u go = refl

-- ## A variable, by the designator that it is

abbrev by_desig : Context → Option DesigTree → AwaitsLocation → (TypedSpot → Action) → Action
by_desig c None goal go = go (spot_in 0 0 None)
by_desig c (Some d) goal go = from_desig c d goal go

variable_desig : (c : Context) (e : ExprTree) (goal : AwaitsLocation) (go : TypedSpot → Action) → by_desig c (as_desig e) goal go ≡ from_variable c e goal go
variable_desig c (related s r u p) goal go = refl
variable_desig c (plain (sum (Some sign) t us) p) goal go = refl
variable_desig c (plain (sum None (product (number n q) ms) us) p) goal go = refl
variable_desig c (plain (sum None (product (literal x q) ms) us) p) goal go = refl
variable_desig c (plain (sum None (product (negation f q) ms) us) p) goal go = refl
variable_desig c (plain (sum None (product (paren e q) ms) us) p) goal go = refl
variable_desig c (plain (sum None (product (applied (desig x ss r) (more_actuals a args) q) ms) us) p) goal go = refl
variable_desig c (plain (sum None (product (applied (desig x ss r) no_actuals q) (more_multipliers op f ms)) us) p) goal go = refl
variable_desig c (plain (sum None (product (applied (desig x ss r) no_actuals q) no_multipliers) (more_summands op t us)) p) goal go = refl
variable_desig c (plain (sum None (product (applied (desig x ss r) no_actuals q) no_multipliers) no_summands) p) goal go = refl

pub lent_found :
    (c : Context) (a : ActualTree) (goal : AwaitsLocation) (go : TypedSpot → Action) (e : ExprTree) (d : DesigTree)
    → e ≡ item_of a → Some d ≡ as_desig e → from_desig c d goal go ≡ from_lent c a goal go
lent_found c a goal go e d is some =
    ap (λ x. by_desig c x goal go) (some ∙ ap as_desig is) ∙ variable_desig c (item_of a) goal go ∙ sym (lent c a goal go)

pub lent_none :
    (c : Context) (a : ActualTree) (goal : AwaitsLocation) (go : TypedSpot → Action) (e : ExprTree)
    → e ≡ item_of a → None ≡ as_desig e → go (spot_in 0 0 None) ≡ from_lent c a goal go
lent_none c a goal go e is none =
    ap (λ x. by_desig c x goal go) (none ∙ ap as_desig is) ∙ variable_desig c (item_of a) goal go ∙ sym (lent c a goal go)

pub first_lent :
    (c : Context) (args : List Actual) (a : Actual) (goal : AwaitsLocation) (go : TypedSpot → Action)
    → 1 ≤ length args → a ≡ get_or args 0 a → from_lent c (actual_view a) goal go ≡ from_reference c (actuals_view args) goal go
first_lent c [] a goal go some is = absurd (omega (arith, some))
first_lent c (x ∷ rest) a goal go some is = ap (λ y. from_lent c (actual_view y) goal go) is

-- ## A value

pub first_given :
    (c : Context) (a : ActualTree) (rest : ActualTrees) (u : AwaitsValue) (go : Value → Action) (e : ExprTree)
    → e ≡ item_of a → from_expr c e u go ≡ from_argument c (more_actuals a rest) u go
first_given c a rest u go e is = ap (λ x. from_expr c x u go) is ∙ sym (given c a u go)

pub ruleset references = first_given
