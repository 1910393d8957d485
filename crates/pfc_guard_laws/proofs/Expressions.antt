-- What comes next in an expression calls what the rules ask.
use Rattle.std.proofs.Common.{pos, Bool, true, false, if◌then◌else◌, List, [], ◌∷◌, ◌++◌, Option, Some, None, Ok, Err}
use Rattle.pfc_tree.specs.trees.Exprs.{ExprTree, SimpleTree, SummandTrees, TermTree, MultiplierTrees, FactorTree, DesigTree, SelectorTrees, ExprTrees}
use Rattle.pfc_tree.specs.trees.Exprs.{ActualTree, ActualTrees, plain, related, sum, no_summands, more_summands, product, no_multipliers, more_multipliers}
use Rattle.pfc_tree.specs.trees.Exprs.{number, literal, negation, paren, applied as used, desig, index, field, no_selectors, more_selectors, no_exprs}
use Rattle.pfc_tree.specs.trees.Exprs.{more_exprs, actual, actual_width, no_actuals, more_actuals}
use Rattle.pfc_types.specs.Scopes.{meaning_of}
use Rattle.pfc_types.specs.Blocks.{sub_at}
use Rattle.pfc_types.specs.rules.Expressions.{find, first_type}
use Rattle.pfc_types.specs.declared.types.TypeId.{TypeId}
use Rattle.pfc_types.specs.declared.scope.Meaning.{Meaning}
use Rattle.pfc_types.specs.declared.scope.Meaning.TheVariants.{Constant, Variable, Sub, Predeclared}
use Rattle.pfc_types.specs.declared.heads.Formal.{Formal}
use Rattle.pfc_types.specs.declared.heads.SubHead.{SubHead}
use Rattle.pfc_values.specs.Numbers.{Outcome, inverse_of}
use Rattle.pfc_semantics.specs.Values.{Value, ordinal, ordinal_of}
use Rattle.pfc_semantics.specs.Displays.{TypedSpot}
use Rattle.pfc_semantics.specs.Operators.{signed, added, multiplied, compared, applied, simple_of}
use Rattle.pfc_semantics.specs.Predeclared.{Function, eof, eoln, empty, clock, random, function_of}
use Rattle.pfc_semantics.specs.Programs.{Program}
use Rattle.pfc_guard_laws.specs.Tops.{Standing}
use Rattle.pfc_semantics.specs.Remainders.{Context, Scan, Argument, by_value, by_reference, AwaitsValue, AwaitsLocation, Call, Action, begin_sum, add_to}
use Rattle.pfc_semantics.specs.Remainders.{begin_product, multiply_by, compare_with, compare_to, invert, apply, index_into, pass_value, read_for, pass_variable}
use Rattle.pfc_semantics.specs.Remainders.{ask_empty, to_function, reads, asks_empty}
use Rattle.pfc_semantics.specs.Expressions.{with_number, char_in, spot_in, spot_of, field_spot, element_spot, with_element, finish_call, from_function}
use Rattle.pfc_semantics.specs.Expressions.{from_name, from_expr, from_simple, from_summands, from_term, from_multipliers, from_factor, from_argument}
use Rattle.pfc_semantics.specs.Expressions.{from_reference, from_actual, from_lent, from_variable, from_args, from_selectors, from_indices, from_desig}
use Rattle.pfc_guard_laws.specs.Written.{SuitsName, SuitsExpr, SuitsSimple, SuitSummands, SuitsTerm, SuitMultipliers, SuitsFactor, SuitsDesig, SuitSelectors}
use Rattle.pfc_guard_laws.specs.Written.{SuitExprs, SuitsActual, SuitActuals}
use Rattle.pfc_guard_laws.specs.Remainders.{SuitsAwaiting, SuitsGoal, SuitsCalling, SuitsAction}

module _ (g : Program) (standing : Standing) (scanned : Scan → Type 0) where
  -- ## What comes behind

  abbrev pub Goes : (Value → Action) → Type 0
  Goes go = (v : Value) → SuitsAction g standing scanned (go v)

  abbrev pub Arrives : (TypedSpot → Action) → Type 0
  Arrives go = (s : TypedSpot) → SuitsAction g standing scanned (go s)

  pub either : (b : Bool) (n m : Action) → SuitsAction g standing scanned n → SuitsAction g standing scanned m →
      SuitsAction g standing scanned (if b then n else m)
  either true n m first second = first
  either false n m first second = second

  module _ (c : Context) where
    abbrev pub Evaluates : (AwaitsValue → (Value → Action) → Action) → Type 0
    Evaluates from = (u : AwaitsValue) (go : Value → Action) → SuitsAwaiting g standing scanned c.env u → Goes go → SuitsAction g standing scanned (from u go)

    abbrev pub Locates : (AwaitsLocation → (TypedSpot → Action) → Action) → Type 0
    Locates from =
        (goal : AwaitsLocation) (go : TypedSpot → Action) → SuitsGoal g standing scanned c.env goal → Arrives go → SuitsAction g standing scanned (from goal go)

    pub number_on : (o : Outcome) (go : Value → Action) → Goes go → SuitsAction g standing scanned (with_number c o go)
    number_on (Ok n) go on = on (ordinal n)
    number_on (Err f) go on = tt

    pub element_on : (s : Option TypedSpot) (go : TypedSpot → Action) → Arrives go → SuitsAction g standing scanned (with_element c s go)
    element_on None go on = tt
    element_on (Some s) go on = on s

    -- ## Functions

    pub function_ends :
        (f : Function) (t : Option TypeId) (u : AwaitsValue) (go : Value → Action) (v : Value) → SuitsAwaiting g standing scanned c.env u → Goes go
        → SuitsAction g standing scanned (finish_call c f t u go v)
    function_ends random t u go v waits on = waits
    function_ends f t u go v waits on = number_on (applied f (simple_of t) (ordinal_of v)) go on

    function_suits :
        (f : Function) (t : Option TypeId) (value : AwaitsValue → (Value → Action) → Action) (variable : AwaitsLocation → (TypedSpot → Action) → Action)
        → Evaluates value → Locates variable → Evaluates (λ u go. from_function c f t u go value variable)
    function_suits eof t value variable given lent u go waits on = waits
    function_suits eoln t value variable given lent u go waits on = waits
    function_suits clock t value variable given lent u go waits on = waits
    function_suits empty t value variable given lent u go waits on = lent (ask_empty u) (λ s. asks_empty c s.spot u) waits (λ s. waits)
    function_suits f t value variable given lent u go waits on =
        given (apply f t u) (finish_call c f t u go) waits (λ v. function_ends f t u go v waits on)

    name_suits :
        (m : Option Meaning) (u : AwaitsValue) (go : Value → Action) (variable : AwaitsLocation → (TypedSpot → Action) → Action)
        (called : List Formal → Call → Action) (predeclared : Function → Action) → SuitsName g standing c.env m →
        SuitsAwaiting g standing scanned c.env u → Goes go
        → Locates variable → ((formals : List Formal) (call : Call) → SuitsCalling g standing scanned c.env call →
        SuitsAction g standing scanned (called formals call))
        → ((f : Function) → SuitsAction g standing scanned (predeclared f)) → SuitsAction g standing scanned (from_name c m u go variable called predeclared)
    name_suits (Some (Constant t n)) u go variable called predeclared suits waits on located made asks = on (ordinal n)
    name_suits (Some (Variable t reference)) u go variable called predeclared suits waits on located made asks =
        located (read_for u) (λ s. reads c s.spot u) waits (λ s. waits)
    name_suits (Some (Sub n)) u go variable called predeclared suits waits on located made asks =
        let head : SubHead = sub_at c.env.state.blocks n in made head.formals (to_function head.scope u) (suits, waits)
    name_suits (Some (Predeclared k)) u go variable called predeclared suits waits on located made asks = asks (function_of k)
    name_suits m u go variable called predeclared suits waits on located made asks = on (ordinal (pos 0))

    -- ## Expressions

    mutual
      pub expr_suits : (e : ExprTree) → SuitsExpr g standing c.env e → Evaluates (from_expr c e)
      expr_suits (plain s p) suits u go waits on = simple_suits s suits u go waits on
      expr_suits (related s r t p) suits u go waits on =
          simple_suits s suits.0 (compare_with r.0 t u)
          (λ a. from_simple c t (compare_to (ordinal_of a) r.0 u) (λ b. go (ordinal (compared r.0 (ordinal_of a) (ordinal_of b)))))
          (suits.1, waits)
          (λ a. simple_suits t suits.1 (compare_to (ordinal_of a) r.0 u) (λ b. go (ordinal (compared r.0 (ordinal_of a) (ordinal_of b)))) waits
          (λ b. on (ordinal (compared r.0 (ordinal_of a) (ordinal_of b)))))

      pub simple_suits : (s : SimpleTree) → SuitsSimple g standing c.env s → Evaluates (from_simple c s)
      simple_suits (sum None first no_summands) suits u go waits on = term_suits first suits.0 u go waits on
      simple_suits (sum None first (more_summands op t rest)) suits u go waits on =
          term_suits first suits.0 (begin_sum None (more_summands op t rest) u)
          (λ a. with_number c (signed None (ordinal_of a)) (λ n. from_summands c n (more_summands op t rest) u go)) (suits.1, waits)
          (λ a. number_on (signed None (ordinal_of a)) (λ n. from_summands c n (more_summands op t rest) u go)
          (λ n. summands_suit (more_summands op t rest) suits.1 n u go waits on))
      simple_suits (sum (Some sign) first rest) suits u go waits on =
          term_suits first suits.0 (begin_sum (Some sign) rest u)
          (λ a. with_number c (signed (Some sign) (ordinal_of a)) (λ n. from_summands c n rest u go)) (suits.1, waits)
          (λ a. number_on (signed (Some sign) (ordinal_of a)) (λ n. from_summands c n rest u go)
          (λ n. summands_suit rest suits.1 n u go waits on))

      pub summands_suit : (rest : SummandTrees) → SuitSummands g standing c.env rest → (a : Value) → Evaluates (from_summands c a rest)
      summands_suit no_summands suits a u go waits on = on a
      summands_suit (more_summands op t rest) suits a u go waits on =
          term_suits t suits.0 (add_to (ordinal_of a) op.0 rest u)
          (λ b. with_number c (added op.0 (ordinal_of a) (ordinal_of b)) (λ n. from_summands c n rest u go)) (suits.1, waits)
          (λ b. number_on (added op.0 (ordinal_of a) (ordinal_of b)) (λ n. from_summands c n rest u go)
          (λ n. summands_suit rest suits.1 n u go waits on))

      pub term_suits : (t : TermTree) → SuitsTerm g standing c.env t → Evaluates (from_term c t)
      term_suits (product f no_multipliers) suits u go waits on = factor_suits f suits.0 u go waits on
      term_suits (product f (more_multipliers op h rest)) suits u go waits on =
          factor_suits f suits.0 (begin_product (more_multipliers op h rest) u) (λ a. from_multipliers c a (more_multipliers op h rest) u go) (suits.1, waits)
          (λ a. multipliers_suit (more_multipliers op h rest) suits.1 a u go waits on)

      pub multipliers_suit : (rest : MultiplierTrees) → SuitMultipliers g standing c.env rest → (a : Value) → Evaluates (from_multipliers c a rest)
      multipliers_suit no_multipliers suits a u go waits on = on a
      multipliers_suit (more_multipliers op f rest) suits a u go waits on =
          factor_suits f suits.0 (multiply_by (ordinal_of a) op.0 rest u)
          (λ b. with_number c (multiplied op.0 (ordinal_of a) (ordinal_of b)) (λ n. from_multipliers c n rest u go)) (suits.1, waits)
          (λ b. number_on (multiplied op.0 (ordinal_of a) (ordinal_of b)) (λ n. from_multipliers c n rest u go)
          (λ n. multipliers_suit rest suits.1 n u go waits on))

      pub factor_suits : (f : FactorTree) → SuitsFactor g standing c.env f → Evaluates (from_factor c f)
      factor_suits (number n p) suits u go waits on = on (ordinal n)
      factor_suits (literal x p) suits u go waits on = on (ordinal (char_in x))
      factor_suits (negation f p) suits u go waits on =
          factor_suits f suits (invert u) (λ a. go (ordinal (inverse_of (ordinal_of a)))) waits (λ a. on (ordinal (inverse_of (ordinal_of a))))
      factor_suits (paren e p) suits u go waits on = expr_suits e suits u go waits on
      factor_suits (used (desig x ss q) args p) suits u go waits on =
          let found = find c.env x in
          name_suits (meaning_of found) u go (λ goal arrive. from_selectors c (spot_of c.env found) ss goal arrive)
          (λ formals call. from_args c formals args [] call)
          (λ f. from_function c f (first_type c.env args) u go (from_argument c args) (from_reference c args))
          suits.0 waits on
          (λ goal arrive reached arrives. selectors_suit ss suits.1 (spot_of c.env found) goal arrive reached arrives)
          (λ formals call held. args_suit formals args suits.2 [] call held)
          (λ f. function_suits f (first_type c.env args) (from_argument c args) (from_reference c args)
          (λ w last held behind. argument_suits args suits.2 w last held behind) (λ goal last held behind. reference_suits args suits.2 goal last held behind)
          u go waits on)

      pub argument_suits : (args : ActualTrees) → SuitActuals g standing c.env args → Evaluates (from_argument c args)
      argument_suits no_actuals suits u go waits on = on (ordinal (pos 0))
      argument_suits (more_actuals a rest) suits u go waits on = actual_suits a suits.0 u go waits on

      pub reference_suits : (args : ActualTrees) → SuitActuals g standing c.env args → Locates (from_reference c args)
      reference_suits no_actuals suits goal go waits on = on (spot_in 0 0 None)
      reference_suits (more_actuals a rest) suits goal go waits on = lent_suits a suits.0 goal go waits on

      pub actual_suits : (a : ActualTree) → SuitsActual g standing c.env a → Evaluates (from_actual c a)
      actual_suits (actual e) suits u go waits on = expr_suits e suits u go waits on
      actual_suits (actual_width e w) suits u go waits on = expr_suits e suits.0 u go waits on

      pub lent_suits : (a : ActualTree) → SuitsActual g standing c.env a → Locates (from_lent c a)
      lent_suits (actual e) suits goal go waits on = variable_suits e suits goal go waits on
      lent_suits (actual_width e w) suits goal go waits on = variable_suits e suits.0 goal go waits on

      pub variable_suits : (e : ExprTree) → SuitsExpr g standing c.env e → Locates (from_variable c e)
      variable_suits (plain (sum None (product (used (desig x ss q) no_actuals p) no_multipliers) no_summands) r) suits goal go waits on =
          selectors_suit ss suits.0.0.1 (spot_of c.env (find c.env x)) goal go waits on
      variable_suits e suits goal go waits on = on (spot_in 0 0 None)

      pub args_suit :
          (formals : List Formal) (args : ActualTrees) → SuitActuals g standing c.env args → (given : List Argument) (call : Call)
          → SuitsCalling g standing scanned c.env call
          → SuitsAction g standing scanned (from_args c formals args given call)
      args_suit formals no_actuals suits given call waits = waits
      args_suit [] (more_actuals a rest) suits given call waits = waits
      args_suit (f ∷ formals) (more_actuals a rest) suits given call waits =
          either f.reference (from_lent c a (pass_variable formals rest given call) (λ s. from_args c formals rest (given ++ by_reference s.spot ∷ []) call))
          (from_actual c a (pass_value formals rest given call) (λ v. from_args c formals rest (given ++ by_value v ∷ []) call))
          (lent_suits a suits.0 (pass_variable formals rest given call) (λ s. from_args c formals rest (given ++ by_reference s.spot ∷ []) call)
          (suits.1, waits) (λ s. args_suit formals rest suits.1 (given ++ by_reference s.spot ∷ []) call waits))
          (actual_suits a suits.0 (pass_value formals rest given call) (λ v. from_args c formals rest (given ++ by_value v ∷ []) call)
          (suits.1, waits) (λ v. args_suit formals rest suits.1 (given ++ by_value v ∷ []) call waits))

      pub selectors_suit : (ss : SelectorTrees) → SuitSelectors g standing c.env ss → (s : TypedSpot) → Locates (from_selectors c s ss)
      selectors_suit no_selectors suits s goal go waits on = on s
      selectors_suit (more_selectors (index es p) ss) suits s goal go waits on =
          indices_suit es suits.0 ss suits.1 s goal (λ t. from_selectors c t ss goal go) waits (λ t. selectors_suit ss suits.1 t goal go waits on)
      selectors_suit (more_selectors (field x p) ss) suits s goal go waits on =
          selectors_suit ss suits.1 (field_spot c.env.state.forms s x) goal go waits on

      pub indices_suit :
          (es : ExprTrees) → SuitExprs g standing c.env es → (ss : SelectorTrees) → SuitSelectors g standing c.env ss →
          (s : TypedSpot) → Locates (from_indices c s es ss)
      indices_suit no_exprs suits ss behind s goal go waits on = on s
      indices_suit (more_exprs e es) suits ss behind s goal go waits on =
          expr_suits e suits.0 (index_into s es ss goal)
          (λ i. with_element c (element_spot c.env.state.forms s (ordinal_of i)) (λ t. from_indices c t es ss goal go)) (suits.1, behind, waits)
          (λ i. element_on (element_spot c.env.state.forms s (ordinal_of i)) (λ t. from_indices c t es ss goal go)
          (λ t. indices_suit es suits.1 ss behind t goal go waits on))

    pub desig_suits : (d : DesigTree) → SuitsDesig g standing c.env d → Locates (from_desig c d)
    desig_suits (desig x ss p) suits goal go waits on = selectors_suit ss suits (spot_of c.env (find c.env x)) goal go waits on
