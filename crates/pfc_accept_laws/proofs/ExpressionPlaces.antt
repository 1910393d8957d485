-- What comes next in an expression is placed as what it leads to.
use Rattle.std.proofs.Common.{pos, Bool, true, false, if◌then◌else◌, List, [], ◌∷◌, ◌++◌, Option, Some, None, Ok, Err}
use Rattle.pfc_tree.specs.trees.Exprs.{ExprTree, SimpleTree, SummandTrees, TermTree, MultiplierTrees, FactorTree, DesigTree, SelectorTrees, ExprTrees}
use Rattle.pfc_tree.specs.trees.Exprs.{ActualTree, ActualTrees, plain, related, sum, no_summands, more_summands, product, no_multipliers, more_multipliers}
use Rattle.pfc_tree.specs.trees.Exprs.{number, literal, negation, paren, applied as used, desig, index, field, no_selectors, more_selectors, no_exprs}
use Rattle.pfc_tree.specs.trees.Exprs.{more_exprs, actual, actual_width, no_actuals, more_actuals}
use Rattle.pfc_types.specs.Scopes.{meaning_of}
use Rattle.pfc_types.specs.Blocks.{sub_at}
use Rattle.pfc_types.specs.rules.Expressions.{find, first_type}
use Rattle.pfc_types.specs.declared.types.TypeId.{TypeId}
use Rattle.pfc_types.specs.declared.scope.Meaning.{Meaning}
use Rattle.pfc_types.specs.declared.scope.Meaning.TheVariants.{Constant, Variable, Sub, Predeclared}
use Rattle.pfc_types.specs.declared.heads.Formal.{Formal}
use Rattle.pfc_types.specs.declared.heads.SubHead.{SubHead}
use Rattle.pfc_values.specs.Numbers.{Outcome, inverse_of}
use Rattle.pfc_semantics.specs.Values.{Value, ordinal, ordinal_of}
use Rattle.pfc_semantics.specs.Displays.{TypedSpot}
use Rattle.pfc_semantics.specs.Operators.{signed, added, multiplied, compared, applied, simple_of}
use Rattle.pfc_semantics.specs.Predeclared.{Function, eof, eoln, empty, clock, random, function_of}
use Rattle.pfc_semantics.specs.Programs.{Block}
use Rattle.pfc_semantics.specs.Remainders.{Context, Argument, by_value, by_reference, AwaitsValue, AwaitsLocation, Call, Action, begin_sum, add_to}
use Rattle.pfc_semantics.specs.Remainders.{begin_product, multiply_by, compare_with, compare_to, invert, apply, index_into, pass_value, read_for, pass_variable}
use Rattle.pfc_semantics.specs.Remainders.{ask_empty, to_function, reads, asks_empty}
use Rattle.pfc_semantics.specs.Expressions.{with_number, char_in, spot_in, spot_of, field_spot, element_spot, with_element, finish_call, from_function}
use Rattle.pfc_semantics.specs.Expressions.{from_name, from_expr, from_simple, from_summands, from_term, from_multipliers, from_factor, from_argument}
use Rattle.pfc_semantics.specs.Expressions.{from_reference, from_actual, from_lent, from_variable, from_args, from_selectors, from_indices, from_desig}
use Rattle.pfc_accept_laws.specs.Places.{PlacesAwaiting, PlacesGoal, PlacesCalling, PlacesAction}

module _ (b : Block) where
  -- ## What comes behind

  abbrev pub Goes : (Value → Action) → Type 0
  Goes go = (v : Value) → PlacesAction b (go v)

  abbrev pub Arrives : (TypedSpot → Action) → Type 0
  Arrives go = (s : TypedSpot) → PlacesAction b (go s)

  pub either : (t : Bool) (n m : Action) → PlacesAction b n → PlacesAction b m → PlacesAction b (if t then n else m)
  either true n m first second = first
  either false n m first second = second

  module _ (c : Context) where
    abbrev pub Evaluates : (AwaitsValue → (Value → Action) → Action) → Type 0
    Evaluates from = (u : AwaitsValue) (go : Value → Action) → PlacesAwaiting b c.env u → Goes go → PlacesAction b (from u go)

    abbrev pub Locates : (AwaitsLocation → (TypedSpot → Action) → Action) → Type 0
    Locates from = (goal : AwaitsLocation) (go : TypedSpot → Action) → PlacesGoal b c.env goal → Arrives go → PlacesAction b (from goal go)

    pub number_on : (o : Outcome) (go : Value → Action) → Goes go → PlacesAction b (with_number c o go)
    number_on (Ok n) go on = on (ordinal n)
    number_on (Err f) go on = tt

    pub element_on : (s : Option TypedSpot) (go : TypedSpot → Action) → Arrives go → PlacesAction b (with_element c s go)
    element_on None go on = tt
    element_on (Some s) go on = on s

    -- ## Functions

    pub function_ends :
        (f : Function) (t : Option TypeId) (u : AwaitsValue) (go : Value → Action) (v : Value) → PlacesAwaiting b c.env u → Goes go
        → PlacesAction b (finish_call c f t u go v)
    function_ends random t u go v waits on = waits
    function_ends f t u go v waits on = number_on (applied f (simple_of t) (ordinal_of v)) go on

    function_places :
        (f : Function) (t : Option TypeId) (value : AwaitsValue → (Value → Action) → Action) (variable : AwaitsLocation → (TypedSpot → Action) → Action)
        → Evaluates value → Locates variable → Evaluates (λ u go. from_function c f t u go value variable)
    function_places eof t value variable given lent u go waits on = waits
    function_places eoln t value variable given lent u go waits on = waits
    function_places clock t value variable given lent u go waits on = waits
    function_places empty t value variable given lent u go waits on = lent (ask_empty u) (λ s. asks_empty c s.spot u) waits (λ s. waits)
    function_places f t value variable given lent u go waits on =
        given (apply f t u) (finish_call c f t u go) waits (λ v. function_ends f t u go v waits on)

    name_places :
        (m : Option Meaning) (u : AwaitsValue) (go : Value → Action) (variable : AwaitsLocation → (TypedSpot → Action) → Action)
        (called : List Formal → Call → Action) (predeclared : Function → Action) → PlacesAwaiting b c.env u → Goes go
        → Locates variable → ((formals : List Formal) (call : Call) → PlacesCalling b c.env call → PlacesAction b (called formals call))
        → ((f : Function) → PlacesAction b (predeclared f)) → PlacesAction b (from_name c m u go variable called predeclared)
    name_places (Some (Constant t n)) u go variable called predeclared waits on located made asks = on (ordinal n)
    name_places (Some (Variable t reference)) u go variable called predeclared waits on located made asks =
        located (read_for u) (λ s. reads c s.spot u) waits (λ s. waits)
    name_places (Some (Sub n)) u go variable called predeclared waits on located made asks =
        let head : SubHead = sub_at c.env.state.blocks n in made head.formals (to_function head.scope u) waits
    name_places (Some (Predeclared k)) u go variable called predeclared waits on located made asks = asks (function_of k)
    name_places m u go variable called predeclared waits on located made asks = on (ordinal (pos 0))

    -- ## Expressions

    mutual
      pub expr_places : (e : ExprTree) → Evaluates (from_expr c e)
      expr_places (plain s p) u go waits on = simple_places s u go waits on
      expr_places (related s r t p) u go waits on =
          simple_places s (compare_with r.0 t u)
          (λ a. from_simple c t (compare_to (ordinal_of a) r.0 u) (λ b. go (ordinal (compared r.0 (ordinal_of a) (ordinal_of b)))))
          waits
          (λ a. simple_places t (compare_to (ordinal_of a) r.0 u) (λ b. go (ordinal (compared r.0 (ordinal_of a) (ordinal_of b)))) waits
          (λ b. on (ordinal (compared r.0 (ordinal_of a) (ordinal_of b)))))

      pub simple_places : (s : SimpleTree) → Evaluates (from_simple c s)
      simple_places (sum None first no_summands) u go waits on = term_places first u go waits on
      simple_places (sum None first (more_summands op t rest)) u go waits on =
          term_places first (begin_sum None (more_summands op t rest) u)
          (λ a. with_number c (signed None (ordinal_of a)) (λ n. from_summands c n (more_summands op t rest) u go)) waits
          (λ a. number_on (signed None (ordinal_of a)) (λ n. from_summands c n (more_summands op t rest) u go)
          (λ n. summands_place (more_summands op t rest) n u go waits on))
      simple_places (sum (Some sign) first rest) u go waits on =
          term_places first (begin_sum (Some sign) rest u)
          (λ a. with_number c (signed (Some sign) (ordinal_of a)) (λ n. from_summands c n rest u go)) waits
          (λ a. number_on (signed (Some sign) (ordinal_of a)) (λ n. from_summands c n rest u go)
          (λ n. summands_place rest n u go waits on))

      pub summands_place : (rest : SummandTrees) → (a : Value) → Evaluates (from_summands c a rest)
      summands_place no_summands a u go waits on = on a
      summands_place (more_summands op t rest) a u go waits on =
          term_places t (add_to (ordinal_of a) op.0 rest u)
          (λ b. with_number c (added op.0 (ordinal_of a) (ordinal_of b)) (λ n. from_summands c n rest u go)) waits
          (λ b. number_on (added op.0 (ordinal_of a) (ordinal_of b)) (λ n. from_summands c n rest u go)
          (λ n. summands_place rest n u go waits on))

      pub term_places : (t : TermTree) → Evaluates (from_term c t)
      term_places (product f no_multipliers) u go waits on = factor_places f u go waits on
      term_places (product f (more_multipliers op h rest)) u go waits on =
          factor_places f (begin_product (more_multipliers op h rest) u) (λ a. from_multipliers c a (more_multipliers op h rest) u go) waits
          (λ a. multipliers_place (more_multipliers op h rest) a u go waits on)

      pub multipliers_place : (rest : MultiplierTrees) → (a : Value) → Evaluates (from_multipliers c a rest)
      multipliers_place no_multipliers a u go waits on = on a
      multipliers_place (more_multipliers op f rest) a u go waits on =
          factor_places f (multiply_by (ordinal_of a) op.0 rest u)
          (λ b. with_number c (multiplied op.0 (ordinal_of a) (ordinal_of b)) (λ n. from_multipliers c n rest u go)) waits
          (λ b. number_on (multiplied op.0 (ordinal_of a) (ordinal_of b)) (λ n. from_multipliers c n rest u go)
          (λ n. multipliers_place rest n u go waits on))

      pub factor_places : (f : FactorTree) → Evaluates (from_factor c f)
      factor_places (number n p) u go waits on = on (ordinal n)
      factor_places (literal x p) u go waits on = on (ordinal (char_in x))
      factor_places (negation f p) u go waits on =
          factor_places f (invert u) (λ a. go (ordinal (inverse_of (ordinal_of a)))) waits (λ a. on (ordinal (inverse_of (ordinal_of a))))
      factor_places (paren e p) u go waits on = expr_places e u go waits on
      factor_places (used (desig x ss q) args p) u go waits on =
          let found = find c.env x in
          name_places (meaning_of found) u go (λ goal arrive. from_selectors c (spot_of c.env found) ss goal arrive)
          (λ formals call. from_args c formals args [] call)
          (λ f. from_function c f (first_type c.env args) u go (from_argument c args) (from_reference c args))
          waits on
          (λ goal arrive reached arrives. selectors_place ss (spot_of c.env found) goal arrive reached arrives)
          (λ formals call held. args_place formals args [] call held)
          (λ f. function_places f (first_type c.env args) (from_argument c args) (from_reference c args)
          (λ w last held behind. argument_places args w last held behind) (λ goal last held behind. reference_places args goal last held behind)
          u go waits on)

      pub argument_places : (args : ActualTrees) → Evaluates (from_argument c args)
      argument_places no_actuals u go waits on = on (ordinal (pos 0))
      argument_places (more_actuals a rest) u go waits on = actual_places a u go waits on

      pub reference_places : (args : ActualTrees) → Locates (from_reference c args)
      reference_places no_actuals goal go waits on = on (spot_in 0 0 None)
      reference_places (more_actuals a rest) goal go waits on = lent_places a goal go waits on

      pub actual_places : (a : ActualTree) → Evaluates (from_actual c a)
      actual_places (actual e) u go waits on = expr_places e u go waits on
      actual_places (actual_width e w) u go waits on = expr_places e u go waits on

      pub lent_places : (a : ActualTree) → Locates (from_lent c a)
      lent_places (actual e) goal go waits on = variable_places e goal go waits on
      lent_places (actual_width e w) goal go waits on = variable_places e goal go waits on

      pub variable_places : (e : ExprTree) → Locates (from_variable c e)
      variable_places (plain (sum None (product (used (desig x ss q) no_actuals p) no_multipliers) no_summands) r) goal go waits on =
          selectors_place ss (spot_of c.env (find c.env x)) goal go waits on
      variable_places e goal go waits on = on (spot_in 0 0 None)

      pub args_place :
          (formals : List Formal) (args : ActualTrees) → (given : List Argument) (call : Call) → PlacesCalling b c.env call
          → PlacesAction b (from_args c formals args given call)
      args_place formals no_actuals given call waits = waits
      args_place [] (more_actuals a rest) given call waits = waits
      args_place (f ∷ formals) (more_actuals a rest) given call waits =
          either f.reference (from_lent c a (pass_variable formals rest given call) (λ s. from_args c formals rest (given ++ by_reference s.spot ∷ []) call))
          (from_actual c a (pass_value formals rest given call) (λ v. from_args c formals rest (given ++ by_value v ∷ []) call))
          (lent_places a (pass_variable formals rest given call) (λ s. from_args c formals rest (given ++ by_reference s.spot ∷ []) call)
          waits (λ s. args_place formals rest (given ++ by_reference s.spot ∷ []) call waits))
          (actual_places a (pass_value formals rest given call) (λ v. from_args c formals rest (given ++ by_value v ∷ []) call)
          waits (λ v. args_place formals rest (given ++ by_value v ∷ []) call waits))

      pub selectors_place : (ss : SelectorTrees) → (s : TypedSpot) → Locates (from_selectors c s ss)
      selectors_place no_selectors s goal go waits on = on s
      selectors_place (more_selectors (index es p) ss) s goal go waits on =
          indices_place es ss s goal (λ t. from_selectors c t ss goal go) waits (λ t. selectors_place ss t goal go waits on)
      selectors_place (more_selectors (field x p) ss) s goal go waits on =
          selectors_place ss (field_spot c.env.state.forms s x) goal go waits on

      pub indices_place :
          (es : ExprTrees) → (ss : SelectorTrees) → (s : TypedSpot) → Locates (from_indices c s es ss)
      indices_place no_exprs ss s goal go waits on = on s
      indices_place (more_exprs e es) ss s goal go waits on =
          expr_places e (index_into s es ss goal)
          (λ i. with_element c (element_spot c.env.state.forms s (ordinal_of i)) (λ t. from_indices c t es ss goal go)) waits
          (λ i. element_on (element_spot c.env.state.forms s (ordinal_of i)) (λ t. from_indices c t es ss goal go)
          (λ t. indices_place es ss t goal go waits on))

    pub desig_places : (d : DesigTree) → Locates (from_desig c d)
    desig_places (desig x ss p) goal go waits on = selectors_place ss (spot_of c.env (find c.env x)) goal go waits on
