-- Faulty parts: a part has no type exactly where a rule is broken in it or it uses a faulty name.
use Rattle.std.specs.Prelude.{◌≡◌, ◌≢◌, ◌⊎◌, ◌↔◌, ⊤, ℕ, Bool, true, List, [], Option, Some, None}
use Rattle.pfc_tree.specs.Symbols.{Text}
use Rattle.pfc_tree.specs.declared.tree.Constant.{Constant}
use Rattle.pfc_tree.specs.trees.Types.{TypeTree, GroupTree}
use Rattle.pfc_tree.specs.trees.Exprs.{ExprTree, SimpleTree, TermTree, FactorTree, DesigTree}
use Rattle.pfc_types.specs.Faults.{Faults, listed}
use Rattle.pfc_types.specs.Growing.{Begins}
use Rattle.pfc_types.specs.Types.{Forms, predeclared_forms, is_simple}
use Rattle.pfc_types.specs.declared.scope.Meaning.{Meaning}
use Rattle.pfc_types.specs.declared.scope.Meaning.TheVariants.{Constant as AConstant}
use Rattle.pfc_types.specs.Blocks.{State}
use Rattle.pfc_types.specs.Scopes.{Names, Level, scope_at, meaning_in}
use Rattle.pfc_types.specs.rules.Constants.{Made, made, constant_value, broken_constant}
use Rattle.pfc_types.specs.rules.Declarations.{group_type, broken_group}
use Rattle.pfc_types.specs.rules.Expressions.{Env, expr_type, simple_type, term_type, factor_type, desig_type, broken_expr, broken_simple, broken_term}
use Rattle.pfc_types.specs.rules.Expressions.{broken_factor, broken_desig}
use Rattle.pfc_types.specs.rules.FaultyNames.{constant_uses_faulty, type_uses_faulty, group_uses_faulty, expr_uses_faulty, simple_uses_faulty, term_uses_faulty}
use Rattle.pfc_types.specs.rules.FaultyNames.{factor_uses_faulty, desig_uses_faulty}

-- a part with this type or value, with these broken rules, that uses a faulty name or not
abbrev pub IsFaultyExactly : {A : Type 0} → Option A → Faults → Bool → Type 0
IsFaultyExactly t fs uses = (t ≡ None) ↔ ((listed fs ≢ []) ⊎ (uses ≡ true))

-- the table of types begins with the six predeclared ones
abbrev pub BeginsPredeclared : Forms → Type 0
BeginsPredeclared forms = Begins predeclared_forms forms

-- Of an expression and its parts, and of a variable that stands alone.
pub record AreFaultyExactly (env : Env) : Type 0 where
  pub exprs : (e : ExprTree) → IsFaultyExactly (expr_type env e) (broken_expr env e) (expr_uses_faulty env e)
  pub simples : (s : SimpleTree) → IsFaultyExactly (simple_type env s) (broken_simple env s) (simple_uses_faulty env s)
  pub terms : (t : TermTree) → IsFaultyExactly (term_type env t) (broken_term env t) (term_uses_faulty env t)
  pub factors : (f : FactorTree) → IsFaultyExactly (factor_type env f) (broken_factor env f) (factor_uses_faulty env f)
  pub designators : (d : DesigTree) → IsFaultyExactly (desig_type env d) (broken_desig env d) (desig_uses_faulty env d)

-- ## Types as they are written

-- a constant is of a simple type
abbrev pub IsSimpleConstant : Option Meaning → Type 0
IsSimpleConstant (Some (AConstant t v)) = is_simple t ≡ true
IsSimpleConstant m = ⊤

-- each constant in the scopes is of a simple type
abbrev pub HoldSimpleConstants : List Names → Type 0
HoldSimpleConstants scopes = (i : ℕ) (x : Text) → IsSimpleConstant (meaning_in (scope_at scopes i) x)

-- what a type as it is written makes, where the rules that are broken in it are noted in the state
abbrev pub IsMadeExactly : State → Made → Bool → Type 0
IsMadeExactly s m uses = (m.t ≡ None) ↔ ((m.state.blocks.noted ≢ s.blocks.noted) ⊎ (uses ≡ true))

-- Of constants, of types and of groups of parameters as they are written in some state.
pub record AreWrittenExactly (s : State) (view : List Level) : Type 0 where
  pub constants : (c : Constant) → IsFaultyExactly (constant_value s.blocks.scopes view c) (broken_constant s.blocks.scopes view c)
      (constant_uses_faulty s.blocks.scopes view c)
  pub types : (carried : Bool) (t : TypeTree) → IsMadeExactly s (made carried s view t) (type_uses_faulty s.blocks.scopes view t)
  pub groups : (g : GroupTree) → IsFaultyExactly (group_type s view g) (broken_group s view g) (group_uses_faulty s.blocks.scopes view g)
