-- Phrases in which no static rule is broken, and the shapes that they have.
use Rattle.std.specs.Prelude.{ℕ, ◌≡◌, true, List, [], ◌∷◌, length, Option, Some, None}
use Rattle.pfc_tree.specs.trees.Exprs.{ExprTree, DesigTree, SelectorTrees, ActualTree, ActualTrees, no_actuals, more_actuals}
use Rattle.pfc_types.specs.Faults.{listed}
use Rattle.pfc_types.specs.rules.Expressions.{expr_type, desig_type, selected, actual_count, broken_expr, broken_desig, broken_selectors, broken_actuals}
use Rattle.pfc_types.specs.rules.FaultyNames.{all_typed}
use Rattle.pfc_types.specs.rules.Routines.{Want, a_value, a_simple_value, a_variable_of, wants_for}
use Rattle.pfc_types.specs.declared.types.TypeId.{TypeId}
use Rattle.pfc_types.specs.declared.heads.Formal.{Formal}
use Rattle.pfc_translation.specs.Sites.{Site, forms_of}
use Rattle.pfc_standing_code.specs.Shapes.{a_number, shape_of}
use Rattle.pfc_standing_code.specs.Typed.{HasShape, IsGiven, IsLent, IsDesig, AreArguments, AreSelectors}
use Rattle.pfc_standing_code.specs.ValueTypes.{IsValueType}

abbrev pub ExpressionsAreTyped : Site → Type 0
ExpressionsAreTyped s =
    (e : ExprTree) → listed (broken_expr s.env e) ≡ [] → (t : TypeId) × (expr_type s.env e ≡ Some t) × HasShape s e (shape_of t)

abbrev pub VariablesAreTyped : Site → Type 0
VariablesAreTyped s =
    (d : DesigTree) → listed (broken_desig s.env d) ≡ [] → (t : TypeId) × (desig_type s.env d ≡ Some t) × IsDesig s d (Some t)

abbrev pub SelectorsAreTyped : Site → Type 0
SelectorsAreTyped s =
    (ss : SelectorTrees) (t : TypeId) → listed (broken_selectors s.env (Some t) ss) ≡ []
    → (u : TypeId) × (selected s.env (Some t) ss ≡ Some u) × AreSelectors s (Some t) ss (Some u)

-- ## Arguments

-- an argument is what is wanted; a value has no object in it
abbrev pub IsWanted : Site → Want → ActualTree → Type 0
IsWanted s (a_value None) a = ⊥
IsWanted s (a_value (Some t)) a = IsGiven s a (shape_of t) × IsValueType (forms_of s) t
IsWanted s a_simple_value a = IsGiven s a a_number
IsWanted s (a_variable_of None) a = ⊥
IsWanted s (a_variable_of (Some t)) a = IsLent s a (Some t)

abbrev pub AreWanted : Site → List Want → ActualTrees → Type 0
AreWanted s [] no_actuals = Unit {0}
AreWanted s (w ∷ wants) no_actuals = ⊥
AreWanted s [] (more_actuals a rest) = ⊥
AreWanted s (w ∷ wants) (more_actuals a rest) = IsWanted s w a × AreWanted s wants rest

-- what is wanted has a type
abbrev pub IsAsked : Want → Type 0
IsAsked (a_value t) = (u : TypeId) × (t ≡ Some u)
IsAsked a_simple_value = Unit {0}
IsAsked (a_variable_of t) = (u : TypeId) × (t ≡ Some u)

abbrev pub AreAsked : List Want → Type 0
AreAsked [] = Unit {0}
AreAsked (w ∷ wants) = IsAsked w × AreAsked wants

-- `ending` is the scope of the activation that a `requeue` ends
abbrev pub ArgumentsAreWanted : Site → Type 0
ArgumentsAreWanted s =
    (ending : Option ℕ) (wants : List Want) (args : ActualTrees) → AreAsked wants → length wants ≡ actual_count args
    → listed (broken_actuals s.env ending true wants args) ≡ [] → AreWanted s wants args

abbrev pub ArgumentsAreTyped : Site → Type 0
ArgumentsAreTyped s =
    (ending : Option ℕ) (formals : List Formal) (args : ActualTrees) → all_typed formals ≡ true → length formals ≡ actual_count args
    → listed (broken_actuals s.env ending true (wants_for formals) args) ≡ [] → AreArguments s formals args
