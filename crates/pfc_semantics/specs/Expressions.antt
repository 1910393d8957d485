-- Expressions: the action that comes next in one.
--
-- Each function is given the phrase, what waits for its value, and what happens where it comes to its value quietly. Literals,
-- constants, operators that do not fault and the address of a variable are quiet. Operands are evaluated left first, both of
-- `and` and of `or`; indices and arguments from left to right. An expression that is one operand alone waits for nothing of its own.
use Rattle.std.specs.Prelude.{ℕ, ℤ, pos, ◌-ℤ◌, nat_abs, int_le, ◌&&◌, if◌then◌else◌, List, [], ◌∷◌, ◌++◌, length, Option, Some, None, Ok, Err}
use Rattle.pfc_base.specs.declared.faults.RunFault.TheVariants.{Index}
use Rattle.pfc_tree.specs.Symbols.{Text}
use Rattle.pfc_tree.specs.trees.Exprs.{ExprTree, SimpleTree, SummandTrees, TermTree, MultiplierTrees, FactorTree, DesigTree, SelectorTrees, ExprTrees}
use Rattle.pfc_tree.specs.trees.Exprs.{ActualTree, ActualTrees, plain, related, sum, no_summands, more_summands, product, no_multipliers, more_multipliers}
use Rattle.pfc_tree.specs.trees.Exprs.{number, literal, negation, paren, applied as used, desig, index, field, no_selectors, more_selectors, no_exprs}
use Rattle.pfc_tree.specs.trees.Exprs.{more_exprs, actual, actual_width, no_actuals, more_actuals}
use Rattle.pfc_types.specs.Types.{Forms, form_of}
use Rattle.pfc_types.specs.Fields.{position_of}
use Rattle.pfc_types.specs.Scopes.{meaning_of}
use Rattle.pfc_types.specs.Blocks.{Blocks, sub_at}
use Rattle.pfc_types.specs.rules.Expressions.{Env, find, first_type, field_type}
use Rattle.pfc_types.specs.rules.Routines.{sort_value}
use Rattle.pfc_types.specs.declared.types.TypeId.{TypeId}
use Rattle.pfc_types.specs.declared.types.TypeForm.{TypeForm}
use Rattle.pfc_types.specs.declared.types.TypeForm.TheVariants.{Array, Record}
use Rattle.pfc_types.specs.declared.scope.Meaning.{Meaning}
use Rattle.pfc_types.specs.declared.scope.Meaning.TheVariants.{Constant, Variable, Sub, Process, Predeclared}
use Rattle.pfc_types.specs.declared.heads.Formal.{Formal}
use Rattle.pfc_types.specs.declared.heads.SubHead.{SubHead}
use Rattle.pfc_types.specs.declared.view.Found.{Found}
use Rattle.pfc_values.specs.Numbers.{Outcome, inverse_of}
use Rattle.pfc_semantics.specs.Values.{Value, ordinal, ordinal_of}
use Rattle.pfc_semantics.specs.Layouts.{variable_place}
use Rattle.pfc_semantics.specs.Displays.{Spot, TypedSpot, within}
use Rattle.pfc_semantics.specs.Operators.{signed, added, multiplied, compared, applied, simple_of}
use Rattle.pfc_semantics.specs.Predeclared.{Function, eof, eoln, empty, clock, random, function_of}
use Rattle.pfc_semantics.specs.Remainders.{Context, Argument, by_value, by_reference, AwaitsValue, AwaitsLocation, Call, Action, begin_sum, add_to}
use Rattle.pfc_semantics.specs.Remainders.{begin_product, multiply_by, compare_with, compare_to, invert, apply, index_into, pass_value, read_for, pass_variable}
use Rattle.pfc_semantics.specs.Remainders.{ask_empty, to_function, reads, calls, asks_eof, asks_eoln, asks_clock, asks_empty, draws, faults}

-- on with the number that an operator gives, or the fault in which its evaluation ended: a fault is an action of its own
abbrev pub with_number : Context → Outcome → (Value → Action) → Action
with_number c (Ok n) go = go (ordinal n)
with_number c (Err f) go = faults c f

-- a literal of length 1 is a char
abbrev pub char_in : Text → ℤ
char_in [] = pos 0
char_in (b ∷ rest) = pos b

-- ## Parts of variables

-- a variable in view. The name of a function stands for its result: that is a variable of the function's block.
abbrev pub spot_in : ℕ → ℕ → Option TypeId → TypedSpot
spot_in i k t = record { spot = record { scope = i; variable = k; selectors = [] }; t = t }

abbrev pub result_spot : SubHead → TypedSpot
result_spot head = spot_in head.scope (length head.formals) (sort_value head.sort)

abbrev pub named_spot : Blocks → ℕ → ℕ → Meaning → TypedSpot
named_spot b i k (Variable t reference) = spot_in i (variable_place b i k) (Some t)
named_spot b i k (Process n) = spot_in i (variable_place b i k) None
named_spot b i k (Sub n) = result_spot (sub_at b n)
named_spot b i k m = spot_in 0 0 None

abbrev pub found_spot : Blocks → Option ℕ → Found → TypedSpot
found_spot b None f = spot_in 0 0 None
found_spot b (Some i) f = named_spot b i f.place f.meaning

abbrev pub spot_of : Env → Option Found → TypedSpot
spot_of env None = spot_in 0 0 None
spot_of env (Some f) = found_spot env.state.blocks f.scope f

-- a field, by its place from 0
abbrev pub place_among : Option ℕ → ℕ
place_among None = 0
place_among (Some k) = k

abbrev pub field_place : Option TypeForm → Text → ℕ
field_place (Some (Record fields)) x = place_among (position_of fields x)
field_place form x = 0

abbrev pub form_in : Forms → Option TypeId → Option TypeForm
form_in forms None = None
form_in forms (Some t) = form_of forms t

abbrev pub field_spot : Forms → TypedSpot → Text → TypedSpot
field_spot forms s x =
    let k = field_place (form_in forms s.t) x in
    record { spot = within s.spot (record { place = k; index = pos k }); t = field_type forms s.t x }

-- an element, by its distance from the low bound; none where the index is outside the bounds
abbrev pub element_in : Option TypeForm → Spot → ℤ → Option TypedSpot
element_in (Some (Array over low high element)) s i =
    if int_le low i && int_le i high then Some (record { spot = within s (record { place = nat_abs (i -ℤ low); index = i }); t = Some element }) else None
element_in form s i = None

abbrev pub element_spot : Forms → TypedSpot → ℤ → Option TypedSpot
element_spot forms s i = element_in (form_in forms s.t) s.spot i

-- on with an element, or fault 3
abbrev pub with_element : Context → Option TypedSpot → (TypedSpot → Action) → Action
with_element c None go = faults c Index
with_element c (Some s) go = go s

-- ## Functions

-- A predeclared function whose argument is evaluated. `random` draws.
abbrev pub finish_call : Context → Function → Option TypeId → AwaitsValue → (Value → Action) → Value → Action
finish_call c random t u go v = draws c (ordinal_of v) u
finish_call c f t u go v = with_number c (applied f (simple_of t) (ordinal_of v)) go

-- A predeclared function. How its argument is evaluated is given, as a value and as a variable. `eof`, `eoln` and `clock` have none, and
-- `empty` asks of a condition.
abbrev pub from_function :
    Context → Function → Option TypeId → AwaitsValue → (Value → Action) → (AwaitsValue → (Value → Action) → Action)
    → (AwaitsLocation → (TypedSpot → Action) → Action) → Action
from_function c eof t u go value variable = asks_eof c u
from_function c eoln t u go value variable = asks_eoln c u
from_function c clock t u go value variable = asks_clock c u
from_function c empty t u go value variable = variable (ask_empty u) (λ s. asks_empty c s.spot u)
from_function c f t u go value variable = value (apply f t u) (finish_call c f t u go)

-- A name with its selectors or arguments: a constant, a variable, a function of the program, or a predeclared function. How its selectors
-- lead to a variable, how its arguments are evaluated, and how that of a predeclared function is, is given.
abbrev pub from_name :
    Context → Option Meaning → AwaitsValue → (Value → Action) → (AwaitsLocation → (TypedSpot → Action) → Action)
    → (List Formal → Call → Action) → (Function → Action) → Action
from_name c (Some (Constant t n)) u go variable called predeclared = go (ordinal n)
from_name c (Some (Variable t reference)) u go variable called predeclared = variable (read_for u) (λ s. reads c s.spot u)
from_name c (Some (Sub n)) u go variable called predeclared =
    let head = sub_at c.env.state.blocks n in called head.formals (to_function head.scope u)
from_name c (Some (Predeclared k)) u go variable called predeclared = predeclared (function_of k)
from_name c m u go variable called predeclared = go (ordinal (pos 0))

-- ## Expressions

abbrev mutual
  pub from_expr : Context → ExprTree → AwaitsValue → (Value → Action) → Action
  from_expr c (plain s p) u go = from_simple c s u go
  from_expr c (related s r t p) u go =
      from_simple c s (compare_with r.0 t u)
      (λ a. from_simple c t (compare_to (ordinal_of a) r.0 u) (λ b. go (ordinal (compared r.0 (ordinal_of a) (ordinal_of b)))))

  pub from_simple : Context → SimpleTree → AwaitsValue → (Value → Action) → Action
  from_simple c (sum None first no_summands) u go = from_term c first u go
  from_simple c (sum sign first rest) u go =
      from_term c first (begin_sum sign rest u) (λ a. with_number c (signed sign (ordinal_of a)) (λ n. from_summands c n rest u go))

  -- the sum so far is given
  pub from_summands : Context → Value → SummandTrees → AwaitsValue → (Value → Action) → Action
  from_summands c a no_summands u go = go a
  from_summands c a (more_summands op t rest) u go =
      from_term c t (add_to (ordinal_of a) op.0 rest u) (λ b. with_number c (added op.0 (ordinal_of a) (ordinal_of b)) (λ n. from_summands c n rest u go))

  pub from_term : Context → TermTree → AwaitsValue → (Value → Action) → Action
  from_term c (product f no_multipliers) u go = from_factor c f u go
  from_term c (product f rest) u go = from_factor c f (begin_product rest u) (λ a. from_multipliers c a rest u go)

  -- the product so far is given
  pub from_multipliers : Context → Value → MultiplierTrees → AwaitsValue → (Value → Action) → Action
  from_multipliers c a no_multipliers u go = go a
  from_multipliers c a (more_multipliers op f rest) u go =
      from_factor c f (multiply_by (ordinal_of a) op.0 rest u)
      (λ b. with_number c (multiplied op.0 (ordinal_of a) (ordinal_of b)) (λ n. from_multipliers c n rest u go))

  pub from_factor : Context → FactorTree → AwaitsValue → (Value → Action) → Action
  from_factor c (number n p) u go = go (ordinal n)
  from_factor c (literal x p) u go = go (ordinal (char_in x))
  from_factor c (negation f p) u go = from_factor c f (invert u) (λ a. go (ordinal (inverse_of (ordinal_of a))))
  from_factor c (paren e p) u go = from_expr c e u go
  from_factor c (used (desig x ss q) args p) u go =
      let found = find c.env x in
      from_name c (meaning_of found) u go
      (λ goal arrive. from_selectors c (spot_of c.env found) ss goal arrive)
      (λ formals call. from_args c formals args [] call)
      (λ f. from_function c f (first_type c.env args) u go (from_argument c args) (from_reference c args))

  -- the one argument of a predeclared function, and the variable that it is
  pub from_argument : Context → ActualTrees → AwaitsValue → (Value → Action) → Action
  from_argument c no_actuals u go = go (ordinal (pos 0))
  from_argument c (more_actuals a rest) u go = from_actual c a u go

  pub from_reference : Context → ActualTrees → AwaitsLocation → (TypedSpot → Action) → Action
  from_reference c no_actuals goal go = go (spot_in 0 0 None)
  from_reference c (more_actuals a rest) goal go = from_lent c a goal go

  pub from_actual : Context → ActualTree → AwaitsValue → (Value → Action) → Action
  from_actual c (actual e) u go = from_expr c e u go
  from_actual c (actual_width e width) u go = from_expr c e u go

  -- an argument for a reference is a variable, without an operator and without parentheses around it; its address is quiet
  pub from_lent : Context → ActualTree → AwaitsLocation → (TypedSpot → Action) → Action
  from_lent c (actual e) goal go = from_variable c e goal go
  from_lent c (actual_width e width) goal go = from_variable c e goal go

  pub from_variable : Context → ExprTree → AwaitsLocation → (TypedSpot → Action) → Action
  from_variable c (plain (sum None (product (used (desig x ss q) no_actuals p) no_multipliers) no_summands) r) goal go =
      from_selectors c (spot_of c.env (find c.env x)) ss goal go
  from_variable c e goal go = go (spot_in 0 0 None)

  -- The arguments of a call, by their parameters, behind those that are given: values and references. Then the call is the action.
  pub from_args : Context → List Formal → ActualTrees → List Argument → Call → Action
  from_args c formals no_actuals given call = calls c call given
  from_args c [] (more_actuals a rest) given call = calls c call given
  from_args c (f ∷ formals) (more_actuals a rest) given call =
      if f.reference
      then from_lent c a (pass_variable formals rest given call) (λ s. from_args c formals rest (given ++ by_reference s.spot ∷ []) call)
      else from_actual c a (pass_value formals rest given call) (λ v. from_args c formals rest (given ++ by_value v ∷ []) call)

  -- the selectors behind a variable's part
  pub from_selectors : Context → TypedSpot → SelectorTrees → AwaitsLocation → (TypedSpot → Action) → Action
  from_selectors c s no_selectors goal go = go s
  from_selectors c s (more_selectors (index es p) ss) goal go =
      from_indices c s es ss goal (λ t. from_selectors c t ss goal go)
  from_selectors c s (more_selectors (field x p) ss) goal go = from_selectors c (field_spot c.env.state.forms s x) ss goal go

  -- The indices behind a variable's part: each is evaluated and tested before the next. The selectors behind them are told to what waits.
  pub from_indices : Context → TypedSpot → ExprTrees → SelectorTrees → AwaitsLocation → (TypedSpot → Action) → Action
  from_indices c s no_exprs ss goal go = go s
  from_indices c s (more_exprs e es) ss goal go =
      from_expr c e (index_into s es ss goal)
      (λ i. with_element c (element_spot c.env.state.forms s (ordinal_of i)) (λ t. from_indices c t es ss goal go))

-- a variable with its selectors
abbrev pub from_desig : Context → DesigTree → AwaitsLocation → (TypedSpot → Action) → Action
from_desig c (desig x ss p) goal go = from_selectors c (spot_of c.env (find c.env x)) ss goal go
