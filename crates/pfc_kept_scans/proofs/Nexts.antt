-- What is true of the action that comes next, where it is true of all but those on resources, and of these as they come about.
use Rattle.std.proofs.Common.{pos, Bool, true, false, if◌then◌else◌, List, [], ◌∷◌, Option, Some, None, Ok, Err}
use Rattle.pfc_tree.specs.trees.Exprs.{ExprTree, SimpleTree, SummandTrees, TermTree, MultiplierTrees, FactorTree, DesigTree, SelectorTrees, ExprTrees}
use Rattle.pfc_tree.specs.trees.Exprs.{ActualTree, ActualTrees, plain, related, sum, no_summands, more_summands, product, no_multipliers, more_multipliers}
use Rattle.pfc_tree.specs.trees.Exprs.{number, literal, negation, paren, applied as used, desig, index, field, no_selectors, more_selectors, no_exprs}
use Rattle.pfc_tree.specs.trees.Exprs.{more_exprs, actual, actual_width, no_actuals, more_actuals}
use Rattle.pfc_types.specs.Scopes.{meaning_of}
use Rattle.pfc_types.specs.rules.Expressions.{find, first_type}
use Rattle.pfc_types.specs.declared.types.TypeId.{TypeId}
use Rattle.pfc_types.specs.declared.scope.Meaning.{Meaning}
use Rattle.pfc_types.specs.declared.scope.Meaning.TheVariants.{Constant, Variable, Sub, Predeclared}
use Rattle.pfc_types.specs.declared.heads.Formal.{Formal}
use Rattle.pfc_values.specs.Numbers.{Outcome}
use Rattle.pfc_semantics.specs.Values.{Value, ordinal, ordinal_of}
use Rattle.pfc_semantics.specs.Operators.{signed, applied, simple_of}
use Rattle.pfc_semantics.specs.Displays.{TypedSpot}
use Rattle.pfc_semantics.specs.Predeclared.{Function, eof, eoln, empty, clock, random}
use Rattle.pfc_semantics.specs.Remainders.{Context, Argument, AwaitsValue, AwaitsLocation, Call, Action, reads, calls, asks_eof, asks_eoln, asks_clock}
use Rattle.pfc_semantics.specs.Remainders.{asks_empty, draws, scans, bars, passes, faults}
use Rattle.pfc_semantics.specs.Expressions.{with_number, char_in, spot_in, spot_of, with_element, finish_call, from_function, from_name, from_expr, from_simple}
use Rattle.pfc_semantics.specs.Expressions.{from_summands, from_term, from_multipliers, from_factor, from_argument, from_reference, from_actual, from_lent}
use Rattle.pfc_semantics.specs.Expressions.{from_variable, from_args, from_selectors, from_indices, from_desig}

-- all but those on guards and scans
abbrev pub IsOther : Action → Type 0
IsOther (scans x s k) = ⊥
IsOther (bars x b k) = ⊥
IsOther (passes x w s k) = ⊥
IsOther n = Unit {0}

module _ (P : Action → Type 0) (other : (n : Action) → IsOther n → P n) where
  abbrev pub Comes : (Value → Action) → Type 0
  Comes go = (v : Value) → P (go v)

  abbrev pub Arrives : (TypedSpot → Action) → Type 0
  Arrives go = (s : TypedSpot) → P (go s)

  pub either : (r : Bool) (a b : Action) → P a → P b → P (if r then a else b)
  either true a b p q = p
  either false a b p q = q

  pub numbered : (c : Context) (n : Outcome) (go : Value → Action) → Comes go → P (with_number c n go)
  numbered c (Ok n) go h = h (ordinal n)
  numbered c (Err f) go h = other (faults c f) tt

  pub element : (c : Context) (s : Option TypedSpot) (go : TypedSpot → Action) → Arrives go → P (with_element c s go)
  element c None go h = other (faults c _) tt
  element c (Some s) go h = h s

  -- ## Functions

  pub finished : (c : Context) (f : Function) (t : Option TypeId) (u : AwaitsValue) (go : Value → Action) → Comes go → Comes (finish_call c f t u go)
  finished c random t u go h v = other (draws c _ u) tt
  finished c f t u go h v = numbered c (applied f (simple_of t) (ordinal_of v)) go h

  a_function : (c : Context) (f : Function) (t : Option TypeId) (u : AwaitsValue) (go : Value → Action)
      (value : AwaitsValue → (Value → Action) → Action) (variable : AwaitsLocation → (TypedSpot → Action) → Action) → Comes go
      → ((u' : AwaitsValue) (go' : Value → Action) → Comes go' → P (value u' go'))
      → ((goal : AwaitsLocation) (go' : TypedSpot → Action) → Arrives go' → P (variable goal go')) → P (from_function c f t u go value variable)
  a_function c eof t u go value variable h p q = other (asks_eof c u) tt
  a_function c eoln t u go value variable h p q = other (asks_eoln c u) tt
  a_function c clock t u go value variable h p q = other (asks_clock c u) tt
  a_function c empty t u go value variable h p q = q _ _ (λ s. other (asks_empty c s.spot u) tt)
  a_function c f t u go value variable h p q = p _ _ (finished c f t u go h)

  a_name : (c : Context) (m : Option Meaning) (u : AwaitsValue) (go : Value → Action) (variable : AwaitsLocation → (TypedSpot → Action) → Action)
      (called : List Formal → Call → Action) (predeclared : Function → Action) → Comes go
      → ((goal : AwaitsLocation) (go' : TypedSpot → Action) → Arrives go' → P (variable goal go'))
      → ((formals : List Formal) (call : Call) → P (called formals call)) → ((f : Function) → P (predeclared f))
      → P (from_name c m u go variable called predeclared)
  a_name c (Some (Constant t n)) u go variable called predeclared h p q r = h (ordinal n)
  a_name c (Some (Variable t reference)) u go variable called predeclared h p q r = p _ _ (λ s. other (reads c s.spot u) tt)
  a_name c (Some (Sub n)) u go variable called predeclared h p q r = q _ _
  a_name c (Some (Predeclared k)) u go variable called predeclared h p q r = r _
  a_name c m u go variable called predeclared h p q r = h (ordinal (pos 0))

  -- ## Expressions

  mutual
    pub expr : (c : Context) (e : ExprTree) (u : AwaitsValue) (go : Value → Action) → Comes go → P (from_expr c e u go)
    expr c (plain s p) u go h = simple c s u go h
    expr c (related s r t p) u go h = simple c s _ _ (λ a. simple c t _ _ (λ b. h _))

    pub simple : (c : Context) (e : SimpleTree) (u : AwaitsValue) (go : Value → Action) → Comes go → P (from_simple c e u go)
    simple c (sum None first no_summands) u go h = term c first u go h
    simple c (sum None first (more_summands op t rest)) u go h =
        term c first _ _ (λ a. numbered c (signed None (ordinal_of a)) _ (λ n. summands c n (more_summands op t rest) u go h))
    simple c (sum (Some sign) first rest) u go h = term c first _ _ (λ a. numbered c _ _ (λ n. summands c n rest u go h))

    pub summands : (c : Context) (a : Value) (e : SummandTrees) (u : AwaitsValue) (go : Value → Action) → Comes go → P (from_summands c a e u go)
    summands c a no_summands u go h = h a
    summands c a (more_summands op t rest) u go h = term c t _ _ (λ b. numbered c _ _ (λ n. summands c n rest u go h))

    term : (c : Context) (e : TermTree) (u : AwaitsValue) (go : Value → Action) → Comes go → P (from_term c e u go)
    term c (product f no_multipliers) u go h = factor c f u go h
    term c (product f (more_multipliers op g rest)) u go h = factor c f _ _ (λ a. multipliers c a (more_multipliers op g rest) u go h)

    pub multipliers : (c : Context) (a : Value) (e : MultiplierTrees) (u : AwaitsValue) (go : Value → Action) → Comes go
        → P (from_multipliers c a e u go)
    multipliers c a no_multipliers u go h = h a
    multipliers c a (more_multipliers op f rest) u go h = factor c f _ _ (λ b. numbered c _ _ (λ n. multipliers c n rest u go h))

    factor : (c : Context) (e : FactorTree) (u : AwaitsValue) (go : Value → Action) → Comes go → P (from_factor c e u go)
    factor c (number n p) u go h = h (ordinal n)
    factor c (literal x p) u go h = h (ordinal (char_in x))
    factor c (negation f p) u go h = factor c f _ _ (λ a. h _)
    factor c (paren e p) u go h = expr c e u go h
    factor c (used (desig x ss q) args p) u go h =
        a_name c (meaning_of (find c.env x)) u go _ _ _ h (λ goal go' r. selectors c (spot_of c.env (find c.env x)) ss goal go' r)
        (λ formals call. arguments c formals args [] call)
        (λ f. a_function c f (first_type c.env args) u go _ _ h (λ v go' r. argument c args v go' r) (λ goal go' r. reference c args goal go' r))

    pub argument : (c : Context) (e : ActualTrees) (u : AwaitsValue) (go : Value → Action) → Comes go → P (from_argument c e u go)
    argument c no_actuals u go h = h (ordinal (pos 0))
    argument c (more_actuals a rest) u go h = given c a u go h

    pub reference : (c : Context) (e : ActualTrees) (goal : AwaitsLocation) (go : TypedSpot → Action) → Arrives go → P (from_reference c e goal go)
    reference c no_actuals goal go h = h (spot_in 0 0 None)
    reference c (more_actuals a rest) goal go h = lent c a goal go h

    given : (c : Context) (e : ActualTree) (u : AwaitsValue) (go : Value → Action) → Comes go → P (from_actual c e u go)
    given c (actual e) u go h = expr c e u go h
    given c (actual_width e width) u go h = expr c e u go h

    lent : (c : Context) (e : ActualTree) (goal : AwaitsLocation) (go : TypedSpot → Action) → Arrives go → P (from_lent c e goal go)
    lent c (actual e) goal go h = variable c e goal go h
    lent c (actual_width e width) goal go h = variable c e goal go h

    variable : (c : Context) (e : ExprTree) (goal : AwaitsLocation) (go : TypedSpot → Action) → Arrives go → P (from_variable c e goal go)
    variable c (plain (sum None (product (used (desig x ss q) no_actuals p) no_multipliers) no_summands) r) goal go h =
        selectors c (spot_of c.env (find c.env x)) ss goal go h
    variable c e goal go h = h (spot_in 0 0 None)

    pub arguments : (c : Context) (formals : List Formal) (e : ActualTrees) (before : List Argument) (call : Call) → P (from_args c formals e before call)
    arguments c formals no_actuals before call = other (calls c call before) tt
    arguments c [] (more_actuals a rest) before call = other (calls c call before) tt
    arguments c (f ∷ formals) (more_actuals a rest) before call =
        either f.reference _ _ (lent c a _ _ (λ s. arguments c formals rest _ call)) (given c a _ _ (λ v. arguments c formals rest _ call))

    pub selectors : (c : Context) (s : TypedSpot) (e : SelectorTrees) (goal : AwaitsLocation) (go : TypedSpot → Action) → Arrives go
        → P (from_selectors c s e goal go)
    selectors c s no_selectors goal go h = h s
    selectors c s (more_selectors (index es p) ss) goal go h = indices c s es ss goal _ (λ t. selectors c t ss goal go h)
    selectors c s (more_selectors (field x p) ss) goal go h = selectors c _ ss goal go h

    pub indices : (c : Context) (s : TypedSpot) (e : ExprTrees) (ss : SelectorTrees) (goal : AwaitsLocation) (go : TypedSpot → Action) → Arrives go
        → P (from_indices c s e ss goal go)
    indices c s no_exprs ss goal go h = h s
    indices c s (more_exprs e es) ss goal go h = expr c e _ _ (λ i. element c _ _ (λ t. indices c t es ss goal go h))

  pub designated : (c : Context) (e : DesigTree) (goal : AwaitsLocation) (go : TypedSpot → Action) → Arrives go → P (from_desig c e goal go)
  designated c (desig x ss p) goal go h = selectors c (spot_of c.env (find c.env x)) ss goal go h
