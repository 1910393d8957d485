-- Expressions: what has which type, and the rules that are broken in them.
use Rattle.std.specs.Prelude.{ℕ, ◌+◌, Bool, true, false, not, ◌&&◌, ◌||◌, ◌==◌, if◌then◌else◌, List, [], ◌∷◌, length, Option, Some, None}
use Rattle.pfc_base.specs.declared.places.Place.{Place}
use Rattle.pfc_tree.specs.Symbols.{Text}
use Rattle.pfc_tree.specs.declared.tree.Sign.{Sign}
use Rattle.pfc_tree.specs.declared.tree.AddOp.{AddOp}
use Rattle.pfc_tree.specs.declared.tree.AddOp.TheVariants.{Add, Sub, Or}
use Rattle.pfc_tree.specs.declared.tree.MulOp.{MulOp}
use Rattle.pfc_tree.specs.declared.tree.MulOp.TheVariants.{Mul, Div, Mod, And}
use Rattle.pfc_tree.specs.trees.Exprs.{ExprTree, SimpleTree, SummandTrees, TermTree, MultiplierTrees, FactorTree, DesigTree, SelectorTree, SelectorTrees}
use Rattle.pfc_tree.specs.trees.Exprs.{ExprTrees, ActualTree, ActualTrees, plain, related, sum, no_summands, more_summands, product, no_multipliers}
use Rattle.pfc_tree.specs.trees.Exprs.{more_multipliers, number, literal, negation, paren, applied, desig, index, field, no_selectors, more_selectors, no_exprs}
use Rattle.pfc_tree.specs.trees.Exprs.{more_exprs, actual, actual_width, no_actuals, more_actuals}
use Rattle.pfc_types.specs.Faults.{Faults, none, ◌⨾◌, unless}
use Rattle.pfc_types.specs.Types.{Forms, integer, boolean, char, form_of, array_form, field_form}
use Rattle.pfc_types.specs.Scopes.{Level, found_in, meaning_of}
use Rattle.pfc_types.specs.Blocks.{State}
use Rattle.pfc_types.specs.declared.types.TypeId.{TypeId}
use Rattle.pfc_types.specs.declared.scope.Meaning.{Meaning}
use Rattle.pfc_types.specs.declared.scope.Meaning.TheVariants.{Constant, Named, Variable, Sub as ASub, Module, Process, Entry, Predeclared, Faulty}
use Rattle.pfc_types.specs.declared.view.Found.{Found}
use Rattle.pfc_types.specs.declared.view.Around.{Around}
use Rattle.pfc_types.specs.rules.Kinds.{where_so, has, may_have, agree, may_agree, has_simple, may_be_simple, value_rule, name_rules, a_variable, variable_type}
use Rattle.pfc_types.specs.rules.Constants.{is_char}
use Rattle.pfc_types.specs.rules.Routines.{Want, fits_want, want_rules, Callee, nothing_called, called_function, sort_value, routine_value, routine_of}
use Rattle.pfc_types.specs.rules.Routines.{site_fits, site_rule, fits_use, is_any, guard_function}
use Rattle.pfc_types.specs.Blocks.{sub_at}

-- what is known at a place of a body: the finished table and scopes, the names in view, and the tree around
pub record Env : Type 0 where
  pub state : State
  pub view : List Level
  pub around : Around

abbrev pub find : Env → Text → Option Found
find env x = found_in env.state.blocks.scopes env.view x

-- ## First tokens

abbrev pub factor_place : FactorTree → Place
factor_place (number n p) = p
factor_place (literal x p) = p
factor_place (negation f p) = p
factor_place (paren e p) = p
factor_place (applied d args p) = p

abbrev pub term_place : TermTree → Place
term_place (product f rest) = factor_place f

abbrev pub sum_place : Option (Sign × Place) → TermTree → Place
sum_place None t = term_place t
sum_place (Some sign) t = sign.1

abbrev pub simple_place : SimpleTree → Place
simple_place (sum sign first rest) = sum_place sign first

abbrev pub expr_place : ExprTree → Place
expr_place (plain s p) = p
expr_place (related s r u p) = p

abbrev pub desig_place : DesigTree → Place
desig_place (desig x ss p) = p

-- ## Expressions of one kind

-- the designator that an expression is, without parentheses, operators or arguments
abbrev pub as_desig : ExprTree → Option DesigTree
as_desig (plain (sum None (product (applied d no_actuals p) no_multipliers) no_summands) q) = Some d
as_desig e = None

-- the literal that an expression is
abbrev pub as_literal : ExprTree → Option Text
as_literal (plain (sum None (product (literal x p) no_multipliers) no_summands) q) = Some x
as_literal e = None

-- ## Operators

-- `+` and `-` take integers, and `or` takes booleans
abbrev pub add_operand : AddOp → TypeId
add_operand Add = integer
add_operand Sub = integer
add_operand Or = boolean

-- `*`, `div` and `mod` take integers, and `and` takes booleans
abbrev pub mul_operand : MulOp → TypeId
mul_operand Mul = integer
mul_operand Div = integer
mul_operand Mod = integer
mul_operand And = boolean

-- an operator gives a value of the type that it takes
abbrev pub operated : TypeId → Option TypeId → Option TypeId → Option TypeId
operated t a b = where_so (has t a && has t b) t

-- 311: an operator's operands have its type; at the operator. One operand may break it where the other is faulty.
abbrev pub operator_rule : TypeId → Option TypeId → Option TypeId → Place → Faults
operator_rule t a b p = unless (may_have t a && may_have t b) p 311

-- 311: a sign stands before an integer; at the sign
abbrev pub signed_type : Option (Sign × Place) → Option TypeId → Option TypeId
signed_type None t = t
signed_type (Some sign) t = where_so (has integer t) integer

abbrev pub signed_rule : Option (Sign × Place) → Option TypeId → Faults
signed_rule None t = none
signed_rule (Some sign) t = unless (may_have integer t) sign.1 311

-- 311: a relation compares two values of one simple type; at the operator
abbrev pub related_type : Option TypeId → Option TypeId → Option TypeId
related_type a b = where_so (has_simple a && agree a b) boolean

abbrev pub relation_rule : Option TypeId → Option TypeId → Place → Faults
relation_rule a b p = unless ((may_be_simple a && may_be_simple b) && may_agree a b) p 311

-- ## Selectors

-- 314: what is indexed is an array, and the index has its bounds' type; at `[`
abbrev pub element_of : Option (TypeId × TypeId) → Option TypeId → Option TypeId
element_of None i = None
element_of (Some a) i = where_so (has a.0 i) a.1

abbrev pub element_type : Forms → Option TypeId → Option TypeId → Option TypeId
element_type forms None i = None
element_type forms (Some t) i = element_of (array_form (form_of forms t)) i

abbrev pub may_index : Option (TypeId × TypeId) → Option TypeId → Bool
may_index None i = false
may_index (Some a) i = may_have a.0 i

abbrev pub index_rule : Forms → Option TypeId → Option TypeId → Place → Faults
index_rule forms None i p = none
index_rule forms (Some t) i p = unless (may_index (array_form (form_of forms t)) i) p 314

-- 315: what stands behind `.` is a field of the record; at the name
abbrev pub field_type : Forms → Option TypeId → Text → Option TypeId
field_type forms None x = None
field_type forms (Some t) x = field_form (form_of forms t) x

abbrev pub is_field : Option TypeId → Bool
is_field None = false
is_field (Some t) = true

abbrev pub field_rule : Forms → Option TypeId → Text → Place → Faults
field_rule forms None x p = none
field_rule forms (Some t) x p = unless (is_field (field_form (form_of forms t) x)) p 315

-- ## Names in an expression

abbrev pub no_selector : SelectorTrees → Bool
no_selector no_selectors = true
no_selector (more_selectors s ss) = false

abbrev pub no_actual : ActualTrees → Bool
no_actual no_actuals = true
no_actual (more_actuals a rest) = false

-- 420: a guard names the resource's variables, constants, `abs sqr odd ord chr succ pred` and nothing else; at the name
abbrev pub guard_names : ℕ → Option ℕ → Meaning → Bool
guard_names r scope (Constant t v) = true
guard_names r scope (Named t) = false
guard_names r None (Variable t reference) = false
guard_names r (Some i) (Variable t reference) = i == r
guard_names r scope (ASub n) = false
guard_names r scope (Module n) = false
guard_names r scope (Process n) = false
guard_names r scope (Entry n) = false
guard_names r scope (Predeclared k) = guard_function k
guard_names r scope Faulty = true

abbrev pub guard_allows : Option ℕ → Option Found → Bool
guard_allows None found = true
guard_allows (Some r) None = true
guard_allows (Some r) (Some found) = guard_names r found.scope found.meaning

-- 301, 310, 412 and 420, of a name that is a factor; at the name
abbrev pub use_rules : Env → Option Found → Bool → Bool → Place → Faults
use_rules env None alone bare p = unless false p 301
use_rules env (Some found) alone bare p =
    unless (fits_use env.state.blocks alone bare found.meaning) p 310
    ⨾ unless (not (is_any (Some found.meaning) && (alone && bare))) p 412
    ⨾ unless (guard_allows env.around.guard (Some found)) p 420

-- the type of a name that is a factor. What its selectors make of it, whether its arguments fit, and the type of the first of
-- them are given.
abbrev pub plain_use : Env → Meaning → Bool → Bool → Option TypeId → Bool → Option TypeId → Option TypeId
plain_use env (Constant t v) alone bare part fit first = where_so (alone && bare) t
plain_use env (Named t) alone bare part fit first = None
plain_use env (Variable t reference) alone bare part fit first = if bare then part else None
plain_use env (ASub n) alone bare part fit first = if alone && fit then sort_value (sub_at env.state.blocks n).sort else None
plain_use env (Module n) alone bare part fit first = None
plain_use env (Process n) alone bare part fit first = None
plain_use env (Entry n) alone bare part fit first = None
plain_use env (Predeclared k) alone bare part fit first = if alone && fit then routine_value (routine_of k) first else None
plain_use env Faulty alone bare part fit first = None

abbrev pub use_type : Env → Option Found → Bool → Bool → Option TypeId → Bool → Option TypeId → Option TypeId
use_type env None alone bare part fit first = None
use_type env (Some found) alone bare part fit first =
    if guard_allows env.around.guard (Some found) then plain_use env found.meaning alone bare part fit first else None

-- ## Arguments

abbrev pub actual_count : ActualTrees → ℕ
actual_count no_actuals = 0
actual_count (more_actuals a rest) = 1 + actual_count rest

-- 316: as many arguments as formals; at the called name
abbrev pub count_rule : Callee → ActualTrees → Place → Faults
count_rule c args p = unless (not c.known || length c.wants == actual_count args) p 316

-- Whether a variable may be lent for a reference (318). The name may be faulty or unknown, which is another rule's. A variable or a
-- value parameter of the activation that a `requeue` ends, whose scope is `ending`, is none that may be lent.
abbrev pub in_scope : Option ℕ → Option ℕ → Bool
in_scope (Some i) (Some j) = i == j
in_scope i j = false

abbrev pub lends : Option ℕ → Option ℕ → Meaning → Bool
lends ending scope (Constant t v) = false
lends ending scope (Named t) = false
lends ending scope (Variable t reference) = reference || not (in_scope ending scope)
lends ending scope (ASub n) = false
lends ending scope (Module n) = false
lends ending scope (Process n) = false
lends ending scope (Entry n) = false
lends ending scope (Predeclared k) = false
lends ending scope Faulty = true

abbrev pub found_lends : Option ℕ → Option Found → Bool
found_lends ending None = true
found_lends ending (Some found) = lends ending found.scope found.meaning

abbrev pub desig_lends : Env → Option ℕ → Option DesigTree → Bool
desig_lends env ending None = false
desig_lends env ending (Some (desig x ss p)) = found_lends ending (find env x)

abbrev pub is_variable : Env → Option ℕ → ExprTree → Bool
is_variable env ending e = desig_lends env ending (as_desig e)

-- ## What has which type

-- The type of an expression and of its parts, None where it is faulty: each part has a type only where all its own parts have
-- theirs and no rule is broken between them.
abbrev mutual
  pub expr_type : Env → ExprTree → Option TypeId
  expr_type env (plain s p) = simple_type env s
  expr_type env (related s r u p) = related_type (simple_type env s) (simple_type env u)

  pub simple_type : Env → SimpleTree → Option TypeId
  simple_type env (sum sign first rest) = summed env (signed_type sign (term_type env first)) rest

  -- the type of a sum, whose terms so far have the type t
  pub summed : Env → Option TypeId → SummandTrees → Option TypeId
  summed env t no_summands = t
  summed env t (more_summands op u rest) = summed env (operated (add_operand op.0) t (term_type env u)) rest

  pub term_type : Env → TermTree → Option TypeId
  term_type env (product f rest) = multiplied env (factor_type env f) rest

  -- the type of a product, whose factors so far have the type t
  pub multiplied : Env → Option TypeId → MultiplierTrees → Option TypeId
  multiplied env t no_multipliers = t
  multiplied env t (more_multipliers op f rest) = multiplied env (operated (mul_operand op.0) t (factor_type env f)) rest

  pub factor_type : Env → FactorTree → Option TypeId
  factor_type env (number n p) = Some integer
  factor_type env (literal x p) = where_so (is_char x) char
  factor_type env (negation f p) = where_so (has boolean (factor_type env f)) boolean
  factor_type env (paren e p) = expr_type env e
  factor_type env (applied (desig x ss q) args p) =
      let found = find env x in
      let callee = called_function env.state.blocks (meaning_of found) in
      use_type env found (no_selector ss) (no_actual args)
      (selected env (variable_type (meaning_of found)) ss)
      (args_fit env callee.wants args && site_fits env.around callee.site (first_type env args))
      (first_type env args)

  -- the type of a part of a variable of type t
  pub selected : Env → Option TypeId → SelectorTrees → Option TypeId
  selected env t no_selectors = t
  selected env t (more_selectors s ss) = selected env (selected_by env t s) ss

  pub selected_by : Env → Option TypeId → SelectorTree → Option TypeId
  selected_by env t (index es p) = indexed env t es
  selected_by env t (field x p) = field_type env.state.forms t x

  -- `a[i, j]` is `a[i][j]`
  pub indexed : Env → Option TypeId → ExprTrees → Option TypeId
  indexed env t no_exprs = t
  indexed env t (more_exprs e es) = indexed env (element_type env.state.forms t (expr_type env e)) es

  -- no rule is broken in the arguments or between them and what is wanted
  pub args_fit : Env → List Want → ActualTrees → Bool
  args_fit env [] no_actuals = true
  args_fit env [] (more_actuals a rest) = false
  args_fit env (w ∷ ws) no_actuals = false
  args_fit env (w ∷ ws) (more_actuals a rest) = arg_fits env w a && args_fit env ws rest

  pub arg_fits : Env → Want → ActualTree → Bool
  arg_fits env w (actual e) = fits_want env.state.forms w (is_variable env None e) (expr_type env e)
  arg_fits env w (actual_width e width) = false

  pub first_type : Env → ActualTrees → Option TypeId
  first_type env no_actuals = None
  first_type env (more_actuals a rest) = arg_type env a

  pub arg_type : Env → ActualTree → Option TypeId
  arg_type env (actual e) = expr_type env e
  arg_type env (actual_width e width) = expr_type env e

-- the type of a variable that stands alone, with its selectors
abbrev pub desig_type : Env → DesigTree → Option TypeId
desig_type env (desig x ss p) = selected env (variable_type (meaning_of (find env x))) ss

-- ## Broken rules

-- The rules that are broken in an expression, in the order of its parts.
abbrev mutual
  pub broken_expr : Env → ExprTree → Faults
  broken_expr env (plain s p) = broken_simple env s
  broken_expr env (related s r u p) =
      broken_simple env s
      ⨾ broken_simple env u
      ⨾ relation_rule (simple_type env s) (simple_type env u) r.1
      -- 406: no object type is compared
      ⨾ value_rule env.state.forms (simple_type env s) (simple_place s)
      ⨾ value_rule env.state.forms (simple_type env u) (simple_place u)

  pub broken_simple : Env → SimpleTree → Faults
  broken_simple env (sum sign first rest) =
      broken_term env first
      ⨾ signed_rule sign (term_type env first)
      ⨾ broken_summands env (signed_type sign (term_type env first)) rest

  pub broken_summands : Env → Option TypeId → SummandTrees → Faults
  broken_summands env t no_summands = none
  broken_summands env t (more_summands op u rest) =
      broken_term env u
      ⨾ operator_rule (add_operand op.0) t (term_type env u) op.1
      ⨾ broken_summands env (operated (add_operand op.0) t (term_type env u)) rest

  pub broken_term : Env → TermTree → Faults
  broken_term env (product f rest) = broken_factor env f ⨾ broken_multipliers env (factor_type env f) rest

  pub broken_multipliers : Env → Option TypeId → MultiplierTrees → Faults
  broken_multipliers env t no_multipliers = none
  broken_multipliers env t (more_multipliers op f rest) =
      broken_factor env f
      ⨾ operator_rule (mul_operand op.0) t (factor_type env f) op.1
      ⨾ broken_multipliers env (operated (mul_operand op.0) t (factor_type env f)) rest

  pub broken_factor : Env → FactorTree → Faults
  broken_factor env (number n p) = none
  -- 325: a literal of length other than 1 is an item of `write` or `writeln`; at the literal
  broken_factor env (literal x p) = unless (is_char x) p 325
  -- 311: `not` takes a boolean; at `not`
  broken_factor env (negation f p) = broken_factor env f ⨾ unless (may_have boolean (factor_type env f)) p 311
  broken_factor env (paren e p) = broken_expr env e
  broken_factor env (applied (desig x ss q) args p) =
      let found = find env x in
      let callee = (if no_selector ss then called_function env.state.blocks (meaning_of found) else nothing_called) in
      use_rules env found (no_selector ss) (no_actual args) q
      ⨾ broken_selectors env (variable_type (meaning_of found)) ss
      ⨾ count_rule callee args q
      ⨾ broken_actuals env None callee.known callee.wants args
      ⨾ site_rule env.around callee.site (first_type env args) q

  pub broken_selectors : Env → Option TypeId → SelectorTrees → Faults
  broken_selectors env t no_selectors = none
  broken_selectors env t (more_selectors s ss) = broken_selector env t s ⨾ broken_selectors env (selected_by env t s) ss

  pub broken_selector : Env → Option TypeId → SelectorTree → Faults
  broken_selector env t (index es p) = broken_indexes env t es p
  broken_selector env t (field x p) = field_rule env.state.forms t x p

  pub broken_indexes : Env → Option TypeId → ExprTrees → Place → Faults
  broken_indexes env t no_exprs p = none
  broken_indexes env t (more_exprs e es) p =
      broken_expr env e
      ⨾ index_rule env.state.forms t (expr_type env e) p
      ⨾ broken_indexes env (element_type env.state.forms t (expr_type env e)) es p

  -- Arguments, with the activation that a `requeue` ends, whether what is called is known, and what it wants. Arguments beyond the
  -- formals break only their own rules.
  pub broken_actuals : Env → Option ℕ → Bool → List Want → ActualTrees → Faults
  broken_actuals env ending known ws no_actuals = none
  broken_actuals env ending known [] (more_actuals a rest) =
      broken_actual env known a ⨾ broken_actuals env ending known [] rest
  broken_actuals env ending known (w ∷ ws) (more_actuals a rest) =
      broken_actual env known a ⨾ broken_wanted env ending w a ⨾ broken_actuals env ending known ws rest

  -- 324: widths stand only in `write` and `writeln`; at the width
  pub broken_actual : Env → Bool → ActualTree → Faults
  broken_actual env known (actual e) = broken_expr env e
  broken_actual env known (actual_width e width) = broken_expr env e ⨾ broken_expr env width ⨾ unless (not known) (expr_place width) 324

  pub broken_wanted : Env → Option ℕ → Want → ActualTree → Faults
  broken_wanted env ending w (actual e) = want_rules env.state.forms w (is_variable env ending e) (expr_type env e) (expr_place e)
  broken_wanted env ending w (actual_width e width) = want_rules env.state.forms w (is_variable env ending e) (expr_type env e) (expr_place e)

-- 301 and 310 of a variable that stands alone, and the rules broken in its selectors
abbrev pub broken_desig : Env → DesigTree → Faults
broken_desig env (desig x ss p) =
    name_rules a_variable (meaning_of (find env x)) p ⨾ broken_selectors env (variable_type (meaning_of (find env x))) ss
