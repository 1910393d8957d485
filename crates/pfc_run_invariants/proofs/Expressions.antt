-- What comes next in an expression has only numbers of 32 bits.
use Rattle.std.proofs.Common.{ℤ, ◌-ℤ◌, subst, sym, ◌≡◌, ℕ, pos, Bool, true, false, if◌then◌else◌, List, [], ◌∷◌, ◌++◌, Option, Some, None, Ok, Err, refl}
use Rattle.pfc_tree.specs.Symbols.{Text}
use Rattle.pfc_tree.specs.trees.Exprs.{ExprTree, SimpleTree, SummandTrees, TermTree, MultiplierTrees, FactorTree, DesigTree, SelectorTrees, ExprTrees}
use Rattle.pfc_tree.specs.trees.Exprs.{ActualTree, ActualTrees, plain, related, sum, no_summands, more_summands, product, no_multipliers, more_multipliers}
use Rattle.pfc_tree.specs.trees.Exprs.{number, literal, negation, paren, applied as used, desig, index, field, no_selectors, more_selectors, no_exprs}
use Rattle.pfc_tree.specs.trees.Exprs.{more_exprs, actual, actual_width, no_actuals, more_actuals}
use Rattle.pfc_types.specs.Scopes.{meaning_of}
use Rattle.pfc_types.specs.Blocks.{sub_at}
use Rattle.pfc_types.specs.rules.Expressions.{find, first_type}
use Rattle.pfc_types.specs.declared.types.TypeId.{TypeId}
use Rattle.pfc_types.specs.declared.scope.Meaning.{Meaning}
use Rattle.pfc_types.specs.declared.scope.Meaning.TheVariants.{Constant, Variable, Sub, Predeclared}
use Rattle.pfc_types.specs.declared.heads.Formal.{Formal}
use Rattle.pfc_types.specs.declared.heads.SubHead.{SubHead}
use Rattle.pfc_values.specs.Numbers.{Outcome, inverse_of, is_true}
use Rattle.std.specs.Prelude.{◌&&◌, nat_abs, int_le, not}
use Rattle.pfc_semantics.specs.Values.{Value, ordinal, compound, points, ordinal_of}
use Rattle.pfc_types.specs.declared.types.TypeForm.{TypeForm}
use Rattle.pfc_types.specs.declared.types.TypeForm.TheVariants.{Array}
use Rattle.pfc_semantics.specs.Displays.{TypedSpot, within}
use Rattle.pfc_semantics.specs.Operators.{signed, added, multiplied, compared, holds, applied, simple_of}
use Rattle.pfc_semantics.specs.Predeclared.{Function, eof, eoln, empty, clock, random, function_of}
use Rattle.pfc_semantics.specs.Remainders.{Context, Argument, by_value, by_reference, AwaitsValue, AwaitsLocation, Call, Action, begin_sum, add_to}
use Rattle.pfc_semantics.specs.Remainders.{begin_product, multiply_by, compare_with, compare_to, invert, apply, index_into, pass_value, read_for, pass_variable}
use Rattle.pfc_semantics.specs.Remainders.{ask_empty, to_function, reads, asks_empty}
use Rattle.pfc_semantics.specs.Expressions.{element_in, form_in, with_number, char_in, spot_in, spot_of, field_spot, element_spot, with_element, finish_call}
use Rattle.pfc_semantics.specs.Expressions.{from_function, from_name, from_expr, from_simple, from_summands, from_term, from_multipliers, from_factor}
use Rattle.pfc_semantics.specs.Expressions.{from_argument, from_reference, from_actual, from_lent, from_variable, from_args, from_selectors, from_indices}
use Rattle.pfc_semantics.specs.Expressions.{from_desig}
use Rattle.pfc_run_invariants.specs.Fitting.{Fits, FitsOutcome, FitsValue, FitsMeaning}
use Rattle.pfc_run_invariants.specs.Written.{FitsExpr, FitsSimple, FitSummands, FitsTerm, FitMultipliers, FitsFactor, FitsDesig, FitSelectors, FitExprs}
use Rattle.pfc_run_invariants.specs.Written.{FitsActual, FitActuals}
use Rattle.pfc_run_invariants.specs.Remainders.{FitsEnv, FitsArgument, FitArguments, FitsAwaiting, FitsGoal, FitsCall, FitsAction}
use Rattle.pfc_run_invariants.proofs.Lists.{all_push}
use Rattle.pfc_run_invariants.proofs.Numbers.{truth_fits, signed_fits, added_fits, multiplied_fits, applied_fits}
use Rattle.pfc_semantics.specs.Configurations.{Mark, plain}
use Rattle.pfc_run_invariants.specs.Asked.{Asked, IsClosed}

-- ## What comes behind

abbrev pub Goes : Asked → ℕ → List Mark → (Value → Action) → Type 0
Goes law who ms go = (v : Value) → FitsValue v → FitsAction law who ms (go v)

abbrev pub Arrives : Asked → ℕ → List Mark → (TypedSpot → Action) → Type 0
Arrives law who ms go = (s : TypedSpot) → law.spot who ms s.spot.scope → FitsAction law who ms (go s)

abbrev pub Evaluates : Asked → ℕ → List Mark → (AwaitsValue → (Value → Action) → Action) → Type 0
Evaluates law who ms from = (u : AwaitsValue) (go : Value → Action) → FitsAwaiting law who ms u → Goes law who ms go → FitsAction law who ms (from u go)

abbrev pub Locates : Asked → ℕ → List Mark → (AwaitsLocation → (TypedSpot → Action) → Action) → Type 0
Locates law who ms from = (goal : AwaitsLocation) (go : TypedSpot → Action) → FitsGoal law who ms goal →
    Arrives law who ms go → FitsAction law who ms (from goal go)

pub ordinal_fits : (v : Value) → FitsValue v → Fits (ordinal_of v)
ordinal_fits (ordinal n) fits = fits
ordinal_fits (compound vs) fits = refl
ordinal_fits (points l) fits = refl

module _ (law : Asked) (who : ℕ) (ms : List Mark) (closed : IsClosed law) where
  pub either : (b : Bool) (n m : Action) → FitsAction law who ms n → FitsAction law who ms m → FitsAction law who ms (if b then n else m)
  either true n m first second = first
  either false n m first second = second

  module _ (c : Context) (known : FitsEnv law who ms c.env) where
    pub number_on : (o : Outcome) (go : Value → Action) → FitsOutcome o → Goes law who ms go → FitsAction law who ms (with_number c o go)
    number_on (Ok n) go fits on = on (ordinal n) fits
    number_on (Err f) go fits on = tt

    within_bounds :
        (b : Bool) (s t : TypedSpot) (go : TypedSpot → Action) → t.spot.scope ≡ s.spot.scope → law.spot who ms s.spot.scope → Arrives law who ms go
        → FitsAction law who ms (with_element c (if b then Some t else None) go)
    within_bounds true s t go same there on = on t (subst (λ (i : ℕ). law.spot who ms i) (sym same) there)
    within_bounds false s t go same there on = tt

    element_by :
        (form : Option TypeForm) (s : TypedSpot) (i : ℤ) (go : TypedSpot → Action) → law.spot who ms s.spot.scope → Arrives law who ms go
        → FitsAction law who ms (with_element c (element_in form s.spot i) go)
    element_by (Some (Array over low high element)) s i go there on =
        within_bounds (int_le low i && int_le i high) s
        (record { spot = within s.spot (record { place = nat_abs (i -ℤ low); index = i }); t = Some element }) go refl there on
    element_by form s i go there on = tt

    pub element_on :
        (s : TypedSpot) (i : ℤ) (go : TypedSpot → Action) → law.spot who ms s.spot.scope → Arrives law who ms go
        → FitsAction law who ms (with_element c (element_spot c.env.state.forms s i) go)
    element_on s i go there on = element_by (form_in c.env.state.forms s.t) s i go there on

    -- ## Functions

    pub call_fits :
        (f : Function) (t : Option TypeId) (u : AwaitsValue) (go : Value → Action) (v : Value) → FitsValue v → FitsAwaiting law who ms u → Goes law who ms go
        → FitsAction law who ms (finish_call c f t u go v)
    call_fits random t u go v fits waits on = (known, ordinal_fits v fits, waits)
    call_fits f t u go v fits waits on =
        number_on (applied f (simple_of t) (ordinal_of v)) go (applied_fits f (simple_of t) (ordinal_of v) (ordinal_fits v fits)) on

    function_fits :
        (f : Function) (t : Option TypeId) (value : AwaitsValue → (Value → Action) → Action) (variable : AwaitsLocation → (TypedSpot → Action) → Action)
        → Evaluates law who ms value → Locates law who ms variable → Evaluates law who ms (λ u go. from_function c f t u go value variable)
    function_fits eof t value variable given lent u go waits on = (known, waits)
    function_fits eoln t value variable given lent u go waits on = (known, waits)
    function_fits clock t value variable given lent u go waits on = (known, waits)
    function_fits empty t value variable given lent u go waits on = lent (ask_empty u) (λ s. asks_empty c s.spot u) waits (λ s there. (known, waits))
    function_fits f t value variable given lent u go waits on =
        given (apply f t u) (finish_call c f t u go) waits (λ v fits. call_fits f t u go v fits waits on)

    name_fits :
        (x : Text) (m : Option Meaning) → meaning_of (find c.env x) ≡ m →
        (u : AwaitsValue) (go : Value → Action) (variable : AwaitsLocation → (TypedSpot → Action) → Action)
        (called : List Formal → Call → Action) (predeclared : Function → Action) → FitsMeaning m → FitsAwaiting law who ms u →
        Goes law who ms go → Locates law who ms variable
        → ((formals : List Formal) (call : Call) → FitsCall law who ms call → FitsAction law who ms (called formals call)) →
        ((f : Function) → FitsAction law who ms (predeclared f))
        → FitsAction law who ms (from_name c m u go variable called predeclared)
    name_fits x (Some (Constant t n)) is u go variable called predeclared fits waits on located made asks = on (ordinal n) fits
    name_fits x (Some (Variable t reference)) is u go variable called predeclared fits waits on located made asks =
        located (read_for u) (λ s. reads c s.spot u) waits (λ s there. (known, waits))
    name_fits x (Some (Sub n)) is u go variable called predeclared fits waits on located made asks =
        let head : SubHead = sub_at c.env.state.blocks n in made head.formals (to_function head.scope u) (closed.calls who ms c.env x n known is, waits)
    name_fits x (Some (Predeclared k)) is u go variable called predeclared fits waits on located made asks = asks (function_of k)
    name_fits x m is u go variable called predeclared fits waits on located made asks = on (ordinal (pos 0)) refl

    -- ## Expressions

    mutual
      pub expr_fits : (e : ExprTree) → FitsExpr e → Evaluates law who ms (from_expr c e)
      expr_fits (plain s p) fits u go waits on = simple_fits s fits u go waits on
      expr_fits (related s r t p) fits u go waits on =
          simple_fits s fits.0 (compare_with r.0 t u)
          (λ a. from_simple c t (compare_to (ordinal_of a) r.0 u) (λ b. go (ordinal (compared r.0 (ordinal_of a) (ordinal_of b)))))
          (fits.1, waits)
          (λ a first. simple_fits t fits.1 (compare_to (ordinal_of a) r.0 u) (λ b. go (ordinal (compared r.0 (ordinal_of a) (ordinal_of b)))) waits
          (λ b second. on (ordinal (compared r.0 (ordinal_of a) (ordinal_of b))) (truth_fits (holds r.0 (ordinal_of a) (ordinal_of b)))))

      pub simple_fits : (s : SimpleTree) → FitsSimple s → Evaluates law who ms (from_simple c s)
      simple_fits (sum None first no_summands) fits u go waits on = term_fits first fits.0 u go waits on
      simple_fits (sum None first (more_summands op t rest)) fits u go waits on =
          term_fits first fits.0 (begin_sum None (more_summands op t rest) u)
          (λ a. with_number c (signed None (ordinal_of a)) (λ n. from_summands c n (more_summands op t rest) u go)) (fits.1, waits)
          (λ a given. number_on (signed None (ordinal_of a)) (λ n. from_summands c n (more_summands op t rest) u go)
          (signed_fits None (ordinal_of a) (ordinal_fits a given))
          (λ n so_far. summands_fit (more_summands op t rest) fits.1 n so_far u go waits on))
      simple_fits (sum (Some sign) first rest) fits u go waits on =
          term_fits first fits.0 (begin_sum (Some sign) rest u)
          (λ a. with_number c (signed (Some sign) (ordinal_of a)) (λ n. from_summands c n rest u go)) (fits.1, waits)
          (λ a given. number_on (signed (Some sign) (ordinal_of a)) (λ n. from_summands c n rest u go)
          (signed_fits (Some sign) (ordinal_of a) (ordinal_fits a given))
          (λ n so_far. summands_fit rest fits.1 n so_far u go waits on))

      pub summands_fit : (rest : SummandTrees) → FitSummands rest → (a : Value) → FitsValue a → Evaluates law who ms (from_summands c a rest)
      summands_fit no_summands fits a given u go waits on = on a given
      summands_fit (more_summands op t rest) fits a given u go waits on =
          term_fits t fits.0 (add_to (ordinal_of a) op.0 rest u)
          (λ b. with_number c (added op.0 (ordinal_of a) (ordinal_of b)) (λ n. from_summands c n rest u go)) (fits.1, waits)
          (λ b second. number_on (added op.0 (ordinal_of a) (ordinal_of b)) (λ n. from_summands c n rest u go)
          (added_fits op.0 (ordinal_of a) (ordinal_of b))
          (λ n so_far. summands_fit rest fits.1 n so_far u go waits on))

      pub term_fits : (t : TermTree) → FitsTerm t → Evaluates law who ms (from_term c t)
      term_fits (product f no_multipliers) fits u go waits on = factor_fits f fits.0 u go waits on
      term_fits (product f (more_multipliers op h rest)) fits u go waits on =
          factor_fits f fits.0 (begin_product (more_multipliers op h rest) u) (λ a. from_multipliers c a (more_multipliers op h rest) u go) (fits.1, waits)
          (λ a given. multipliers_fit (more_multipliers op h rest) fits.1 a given u go waits on)

      pub multipliers_fit : (rest : MultiplierTrees) → FitMultipliers rest → (a : Value) → FitsValue a → Evaluates law who ms (from_multipliers c a rest)
      multipliers_fit no_multipliers fits a given u go waits on = on a given
      multipliers_fit (more_multipliers op f rest) fits a given u go waits on =
          factor_fits f fits.0 (multiply_by (ordinal_of a) op.0 rest u)
          (λ b. with_number c (multiplied op.0 (ordinal_of a) (ordinal_of b)) (λ n. from_multipliers c n rest u go)) (fits.1, waits)
          (λ b second. number_on (multiplied op.0 (ordinal_of a) (ordinal_of b)) (λ n. from_multipliers c n rest u go)
          (multiplied_fits op.0 (ordinal_of a) (ordinal_of b) (ordinal_fits b second))
          (λ n so_far. multipliers_fit rest fits.1 n so_far u go waits on))

      pub factor_fits : (f : FactorTree) → FitsFactor f → Evaluates law who ms (from_factor c f)
      factor_fits (number n p) fits u go waits on = on (ordinal n) fits
      factor_fits (literal x p) fits u go waits on = on (ordinal (char_in x)) fits
      factor_fits (negation f p) fits u go waits on =
          factor_fits f fits (invert u) (λ a. go (ordinal (inverse_of (ordinal_of a)))) waits
          (λ a given. on (ordinal (inverse_of (ordinal_of a))) (truth_fits (not (is_true (ordinal_of a)))))
      factor_fits (paren e p) fits u go waits on = expr_fits e fits u go waits on
      factor_fits (used (desig x ss q) args p) fits u go waits on =
          let found = find c.env x in
          name_fits x (meaning_of found) refl u go (λ goal arrive. from_selectors c (spot_of c.env found) ss goal arrive)
          (λ formals call. from_args c formals args [] call)
          (λ f. from_function c f (first_type c.env args) u go (from_argument c args) (from_reference c args))
          (closed.names who ms c.env known c.env.view x) waits on
          (λ goal arrive reached arrives. selectors_fit ss fits.0 (spot_of c.env found) (closed.spots who ms c.env x known) goal arrive reached arrives)
          (λ formals call held. args_fit formals args fits.1 [] tt call held)
          (λ f. function_fits f (first_type c.env args) (from_argument c args) (from_reference c args)
          (λ w last held behind. argument_fits args fits.1 w last held behind) (λ goal last held behind. reference_fits args fits.1 goal last held behind)
          u go waits on)

      pub argument_fits : (args : ActualTrees) → FitActuals args → Evaluates law who ms (from_argument c args)
      argument_fits no_actuals fits u go waits on = on (ordinal (pos 0)) refl
      argument_fits (more_actuals a rest) fits u go waits on = actual_fits a fits.0 u go waits on

      pub reference_fits : (args : ActualTrees) → FitActuals args → Locates law who ms (from_reference c args)
      reference_fits no_actuals fits goal go waits on = on (spot_in 0 0 None) (closed.outside who ms)
      reference_fits (more_actuals a rest) fits goal go waits on = lent_fits a fits.0 goal go waits on

      pub actual_fits : (a : ActualTree) → FitsActual a → Evaluates law who ms (from_actual c a)
      actual_fits (actual e) fits u go waits on = expr_fits e fits u go waits on
      actual_fits (actual_width e w) fits u go waits on = expr_fits e fits.0 u go waits on

      pub lent_fits : (a : ActualTree) → FitsActual a → Locates law who ms (from_lent c a)
      lent_fits (actual e) fits goal go waits on = variable_fits e fits goal go waits on
      lent_fits (actual_width e w) fits goal go waits on = variable_fits e fits.0 goal go waits on

      pub variable_fits : (e : ExprTree) → FitsExpr e → Locates law who ms (from_variable c e)
      variable_fits (plain (sum None (product (used (desig x ss q) no_actuals p) no_multipliers) no_summands) r) fits goal go waits on =
          selectors_fit ss fits.0.0.0 (spot_of c.env (find c.env x)) (closed.spots who ms c.env x known) goal go waits on
      variable_fits e fits goal go waits on = on (spot_in 0 0 None) (closed.outside who ms)

      pub args_fit :
          (formals : List Formal) (args : ActualTrees) → FitActuals args → (given : List Argument) → FitArguments law who ms given →
          (call : Call) → FitsCall law who ms call
          → FitsAction law who ms (from_args c formals args given call)
      args_fit formals no_actuals fits given so_far call waits = (known, waits, so_far)
      args_fit [] (more_actuals a rest) fits given so_far call waits = (known, waits, so_far)
      args_fit (f ∷ formals) (more_actuals a rest) fits given so_far call waits =
          either f.reference (from_lent c a (pass_variable formals rest given call) (λ s. from_args c formals rest (given ++ by_reference s.spot ∷ []) call))
          (from_actual c a (pass_value formals rest given call) (λ v. from_args c formals rest (given ++ by_value v ∷ []) call))
          (lent_fits a fits.0 (pass_variable formals rest given call) (λ s. from_args c formals rest (given ++ by_reference s.spot ∷ []) call)
          (fits.1, so_far, waits)
          (λ s there. args_fit formals rest fits.1 (given ++ by_reference s.spot ∷ []) (all_push (FitsArgument law who ms) given
          (by_reference s.spot) so_far tt) call waits))
          (actual_fits a fits.0 (pass_value formals rest given call) (λ v. from_args c formals rest (given ++ by_value v ∷ []) call)
          (fits.1, so_far, waits)
          (λ v passed. args_fit formals rest fits.1 (given ++ by_value v ∷ []) (all_push (FitsArgument law who ms) given
          (by_value v) so_far passed) call waits))

      pub selectors_fit : (ss : SelectorTrees) → FitSelectors ss → (s : TypedSpot) → law.spot who ms s.spot.scope → Locates law who ms (from_selectors c s ss)
      selectors_fit no_selectors fits s there goal go waits on = on s there
      selectors_fit (more_selectors (index es p) ss) fits s there goal go waits on =
          indices_fit es fits.0 ss fits.1 s there goal (λ t. from_selectors c t ss goal go) waits (λ t still. selectors_fit ss fits.1 t still goal go waits on)
      selectors_fit (more_selectors (field x p) ss) fits s there goal go waits on =
          selectors_fit ss fits.1 (field_spot c.env.state.forms s x) there goal go waits on

      pub indices_fit : (es : ExprTrees) → FitExprs es → (ss : SelectorTrees) → FitSelectors ss → (s : TypedSpot) → law.spot who ms s.spot.scope
          → Locates law who ms (from_indices c s es ss)
      indices_fit no_exprs fits ss behind s there goal go waits on = on s there
      indices_fit (more_exprs e es) fits ss behind s there goal go waits on =
          expr_fits e fits.0 (index_into s es ss goal)
          (λ i. with_element c (element_spot c.env.state.forms s (ordinal_of i)) (λ t. from_indices c t es ss goal go)) (there, fits.1, behind, waits)
          (λ i given. element_on s (ordinal_of i) (λ t. from_indices c t es ss goal go) there
          (λ t still. indices_fit es fits.1 ss behind t still goal go waits on))

    pub desig_fits : (d : DesigTree) → FitsDesig d → Locates law who ms (from_desig c d)
    desig_fits (desig x ss p) fits goal go waits on = selectors_fit ss fits (spot_of c.env (find c.env x)) (closed.spots who ms c.env x known) goal go waits on
