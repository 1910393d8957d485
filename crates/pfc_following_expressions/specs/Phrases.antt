-- What it is for the code of a phrase to follow its next action.
use Rattle.std.specs.Prelude.{ℕ, ◌+◌, ◌≤◌, ◌≡◌, ℤ, List, ◌∷◌, ◌++◌, length, Option}
use Rattle.pfc_tree.specs.trees.Exprs.{ExprTree, DesigTree, ActualTrees}
use Rattle.pfc_types.specs.declared.types.TypeId.{TypeId}
use Rattle.pfc_types.specs.declared.heads.Formal.{Formal}
use Rattle.pfc_semantics.specs.Values.{Value, ordinal}
use Rattle.pfc_semantics.specs.Displays.{Spot, TypedSpot}
use Rattle.pfc_semantics.specs.Programs.{Block}
use Rattle.pfc_semantics.specs.Remainders.{Context, Argument, AwaitsValue, AwaitsLocation, Call, Action}
use Rattle.pfc_semantics.specs.Expressions.{from_expr, from_desig, from_args}
use Rattle.pfc_translation.specs.Expressions.{expr_code, desig_code, args_code}
use Rattle.pfc_standing_code.specs.Shapes.{Shape, a_number}
use Rattle.pfc_standing_code.specs.Settings.{Setting, of_own, site_of, Stands}
use Rattle.pfc_standing_code.specs.Effects.{Arm}
use Rattle.pfc_standing_code.specs.Typed.{HasShape, IsDesig, AreArguments}
use Rattle.pfc_standing_code.specs.Words.{IsWord, IsChecked, AreHeld, Lends, LendsAt}
use Rattle.pfc_standing_code.specs.Awaits.{TakesValue, TakesLocation, CallsAt}
use Rattle.pfc_standing_code.specs.Following.{Follows}

-- Where an expression's code stands, and behind it code that takes its value, quiet instructions lead to the action that comes next in the
-- expression, or on with the number that it is.
abbrev pub ExpressionFollows : Setting → Block → Context → Type 0
ExpressionFollows g b x =
    IsChecked g b x.env → (arms : List Arm) → length arms ≤ g.arms → (e : ExprTree) (h : Shape) → HasShape (site_of g b x) e h
    → (u : AwaitsValue) (go : Value → Action) (at n : ℕ) (ops : List ℤ)
    → Stands g at n (length ops) (expr_code (site_of g b x) e) → TakesValue g b x (at + (expr_code (site_of g b x) e).size) ops arms h u
    → ((v : ℤ) → h ≡ a_number → Follows g (go (ordinal v)) (at + (expr_code (site_of g b x) e).size) (v ∷ ops) arms)
    → Follows g (from_expr x e u go) at ops arms

-- the same of a variable with its selectors, and of its address, outside the guards of others, and for no requeue
abbrev pub VariableFollows : Setting → Block → Context → Type 0
VariableFollows g b x =
    IsChecked g b x.env → g.trial ≡ of_own → (arms : List Arm) → length arms ≤ g.arms → (d : DesigTree) (t : Option TypeId) → IsDesig (site_of g b x) d t
    → (goal : AwaitsLocation) → ((v : Spot) → LendsAt (site_of g b x) v goal) → (go : TypedSpot → Action) (at n : ℕ) (ops : List ℤ)
    → Stands g at n (length ops) (desig_code (site_of g b x) d) → TakesLocation g b x (at + (desig_code (site_of g b x) d).size) ops arms t goal
    → ((l : TypedSpot) (w : ℤ) → IsWord g.view (site_of g b x) l.spot t w → Follows g (go l) (at + (desig_code (site_of g b x) d).size) (w ∷ ops) arms)
    → Follows g (from_desig x d goal go) at ops arms

-- and of arguments behind those that are given: they lead to the call
abbrev pub ArgumentsFollow : Setting → Block → Context → Type 0
ArgumentsFollow g b x =
    IsChecked g b x.env → (arms : List Arm) → length arms ≤ g.arms → (args : ActualTrees) (formals : List Formal) → AreArguments (site_of g b x) formals args
    → (before : List Formal) (given : List Argument) (call : Call) (at n : ℕ) (ops below : List ℤ)
    → AreHeld g.view (site_of g b x) before given ops below → Stands g at n (length ops) (args_code (site_of g b x) formals args)
    → CallsAt g b x (at + (args_code (site_of g b x) formals args).size) below arms (before ++ formals) call
    → Lends (site_of g b x) given formals args call → Follows g (from_args x formals args given call) at ops arms
