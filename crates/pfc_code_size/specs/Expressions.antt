-- How many instructions expressions, variables and arguments have: over the blocks of the program, by what is known at the place.
use Rattle.std.specs.Prelude.{ℕ, ◌+◌, if◌then◌else◌, List, [], ◌∷◌, Option, Some, None}
use Rattle.pfc_base.specs.declared.places.Place.{Place}
use Rattle.pfc_tree.specs.declared.tree.Sign.{Sign}
use Rattle.pfc_tree.specs.declared.tree.Sign.TheVariants.{Plus, Minus}
use Rattle.pfc_tree.specs.trees.Exprs.{ExprTree, SimpleTree, SummandTrees, TermTree, MultiplierTrees, FactorTree, DesigTree, SelectorTrees, ExprTrees}
use Rattle.pfc_tree.specs.trees.Exprs.{ActualTree, ActualTrees, plain, related, sum, no_summands, more_summands, product, no_multipliers, more_multipliers}
use Rattle.pfc_tree.specs.trees.Exprs.{number, literal, negation, paren, applied as used, desig, index, field, no_selectors, more_selectors, no_exprs}
use Rattle.pfc_tree.specs.trees.Exprs.{more_exprs, actual, actual_width, no_actuals, more_actuals}
use Rattle.pfc_types.specs.Scopes.{meaning_of}
use Rattle.pfc_types.specs.Blocks.{Blocks, sub_at}
use Rattle.pfc_types.specs.rules.Expressions.{Env, find}
use Rattle.pfc_types.specs.declared.scope.Meaning.{Meaning}
use Rattle.pfc_types.specs.declared.scope.Meaning.TheVariants.{Constant, Variable, Sub as ASub, Predeclared}
use Rattle.pfc_types.specs.declared.heads.Formal.{Formal}
use Rattle.pfc_semantics.specs.Predeclared.{Function, abs, sqr, odd, ord, chr, succ, pred, eof, eoln, empty, clock, random, no_function, function_of}

-- `-t` has one instruction more than t, `+t` none
abbrev pub sign_size : Option (Sign × Place) → ℕ
sign_size None = 0
sign_size (Some (Plus, p)) = 0
sign_size (Some (Minus, p)) = 1

-- A predeclared function has one instruction behind its argument, but `ord` none; `empty` has an object for its argument. The instructions
-- of the argument as a value and as an address are given.
abbrev pub function_size : Function → ℕ → ℕ → ℕ
function_size abs value address = value + 1
function_size sqr value address = value + 1
function_size odd value address = value + 1
function_size ord value address = value
function_size chr value address = value + 1
function_size succ value address = value + 1
function_size pred value address = value + 1
function_size eof value address = 1
function_size eoln value address = 1
function_size empty value address = address + 2
function_size clock value address = 1
function_size random value address = value + 1
function_size no_function value address = 0

-- A name with its selectors or arguments: a constant has one, a variable its address and one, a function its arguments and its call. The
-- instructions of the address, of the arguments by their parameters, and of a predeclared function are given.
abbrev pub name_size : Blocks → Option Meaning → ℕ → (List Formal → ℕ) → (Function → ℕ) → ℕ
name_size b (Some (Constant t n)) address args predeclared = 1
name_size b (Some (Variable t reference)) address args predeclared = address + 1
name_size b (Some (ASub n)) address args predeclared = args (sub_at b n).formals + 1
name_size b (Some (Predeclared k)) address args predeclared = predeclared (function_of k)
name_size b m address args predeclared = 0

-- so many where no arguments are behind a name
abbrev pub lone_size : ActualTrees → ℕ → ℕ
lone_size no_actuals n = n
lone_size (more_actuals a rest) n = 0

abbrev mutual
  pub expr_size : Blocks → Env → ExprTree → ℕ
  expr_size b c (plain x p) = simple_size b c x
  expr_size b c (related x r y p) = simple_size b c x + (simple_size b c y + 1)

  pub simple_size : Blocks → Env → SimpleTree → ℕ
  simple_size b c (sum sign first rest) = term_size b c first + (sign_size sign + summands_size b c rest)

  pub summands_size : Blocks → Env → SummandTrees → ℕ
  summands_size b c no_summands = 0
  summands_size b c (more_summands op t rest) = term_size b c t + (1 + summands_size b c rest)

  pub term_size : Blocks → Env → TermTree → ℕ
  term_size b c (product f rest) = factor_size b c f + multipliers_size b c rest

  pub multipliers_size : Blocks → Env → MultiplierTrees → ℕ
  multipliers_size b c no_multipliers = 0
  multipliers_size b c (more_multipliers op f rest) = factor_size b c f + (1 + multipliers_size b c rest)

  pub factor_size : Blocks → Env → FactorTree → ℕ
  factor_size b c (number n p) = 1
  factor_size b c (literal x p) = 1
  factor_size b c (negation f p) = factor_size b c f + 1
  factor_size b c (paren e p) = expr_size b c e
  factor_size b c (used (desig x ss q) args p) =
      name_size b (meaning_of (find c x)) (1 + selectors_size b c ss)
      (λ formals. args_size b c formals args)
      (λ f. function_size f (first_value_size b c args) (first_address_size b c args))

  -- the first argument, as a value and as an address
  pub first_value_size : Blocks → Env → ActualTrees → ℕ
  first_value_size b c no_actuals = 0
  first_value_size b c (more_actuals a rest) = actual_size b c a

  pub first_address_size : Blocks → Env → ActualTrees → ℕ
  first_address_size b c no_actuals = 0
  first_address_size b c (more_actuals a rest) = lent_size b c a

  pub actual_size : Blocks → Env → ActualTree → ℕ
  actual_size b c (actual e) = expr_size b c e
  actual_size b c (actual_width e w) = expr_size b c e

  -- an argument for a reference: the address
  pub lent_size : Blocks → Env → ActualTree → ℕ
  lent_size b c (actual e) = variable_size b c e
  lent_size b c (actual_width e w) = variable_size b c e

  -- a variable alone, without sign, operators, relation and arguments
  pub variable_size : Blocks → Env → ExprTree → ℕ
  variable_size b c (plain x p) = lone_simple_size b c x
  variable_size b c (related x r y p) = 0

  pub lone_simple_size : Blocks → Env → SimpleTree → ℕ
  lone_simple_size b c (sum None t no_summands) = lone_term_size b c t
  lone_simple_size b c e = 0

  pub lone_term_size : Blocks → Env → TermTree → ℕ
  lone_term_size b c (product f no_multipliers) = lone_factor_size b c f
  lone_term_size b c (product f (more_multipliers op g rest)) = 0

  pub lone_factor_size : Blocks → Env → FactorTree → ℕ
  lone_factor_size b c (used (desig x ss q) args p) = lone_size args (1 + selectors_size b c ss)
  lone_factor_size b c f = 0

  pub args_size : Blocks → Env → List Formal → ActualTrees → ℕ
  args_size b c formals no_actuals = 0
  args_size b c [] (more_actuals a rest) = 0
  args_size b c (f ∷ formals) (more_actuals a rest) = (if f.reference then lent_size b c a else actual_size b c a) + args_size b c formals rest

  -- each index has one instruction behind it, and each field one
  pub selectors_size : Blocks → Env → SelectorTrees → ℕ
  selectors_size b c no_selectors = 0
  selectors_size b c (more_selectors (index es p) ss) = indices_size b c es + selectors_size b c ss
  selectors_size b c (more_selectors (field x p) ss) = 1 + selectors_size b c ss

  pub indices_size : Blocks → Env → ExprTrees → ℕ
  indices_size b c no_exprs = 0
  indices_size b c (more_exprs e es) = expr_size b c e + (1 + indices_size b c es)

-- the address of a variable with its selectors
abbrev pub desig_size : Blocks → Env → DesigTree → ℕ
desig_size b c (desig x ss p) = 1 + selectors_size b c ss

-- an object: its address, OBJ
abbrev pub object_size : Blocks → Env → DesigTree → ℕ
object_size b c d = desig_size b c d + 1
