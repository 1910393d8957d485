-- A name that is a factor, in which no rule is broken: a constant, a variable with its selectors, or a function with its arguments.
use Rattle.std.proofs.Common.{◌≡◌, ℕ, ◌==◌, Bool, true, false, not, ◌&&◌, ◌||◌, if◌then◌else◌, List, [], ◌∷◌, length, is_some, Option, Some}
use Rattle.std.proofs.Common.{None, refl, sym, ap, ◌∙◌, subst}
use Rattle.pfc_base.specs.declared.places.Place.{Place}
use Rattle.pfc_tree.specs.Symbols.{Text}
use Rattle.pfc_tree.specs.trees.Exprs.{SelectorTrees, ActualTrees, no_selectors, more_selectors, no_actuals, more_actuals, actual, actual_width}
use Rattle.pfc_types.specs.Faults.{unless}
use Rattle.pfc_types.specs.Types.{integer, boolean, char, condition, is_simple}
use Rattle.pfc_types.specs.Scopes.{Level, meaning_of}
use Rattle.pfc_types.specs.Blocks.{sub_at}
use Rattle.pfc_types.specs.declared.types.TypeId.{TypeId}
use Rattle.pfc_types.specs.declared.scope.Meaning.{Meaning}
use Rattle.pfc_types.specs.declared.scope.Meaning.TheVariants.{Constant, Named, Variable, Sub, Module, Process, Entry, Predeclared, Faulty}
use Rattle.pfc_types.specs.declared.view.Found.{Found}
use Rattle.pfc_types.specs.declared.view.Around.{Around}
use Rattle.pfc_types.specs.declared.heads.Formal.{Formal}
use Rattle.pfc_types.specs.declared.heads.SubHead.{SubHead}
use Rattle.pfc_types.specs.declared.heads.SubSort.{SubSort}
use Rattle.pfc_types.specs.declared.heads.SubSort.TheVariants.{Procedure, Guarded, Function}
use Rattle.pfc_types.specs.rules.Kinds.{variable_type, has_simple}
use Rattle.pfc_types.specs.rules.FaultyNames.{all_typed}
use Rattle.pfc_types.specs.declared.predeclared.PredeclaredName.{PredeclaredName}
use Rattle.pfc_types.specs.declared.predeclared.PredeclaredName.TheVariants as predeclared_name
use Rattle.pfc_types.specs.rules.Routines.{Want, a_value, a_simple_value, a_variable_of, wants_for, gives, gives_alike, Site as Stand, anywhere, in_main}
use Rattle.pfc_types.specs.rules.Routines.{in_monitor_sub, Routine, a_function, routine_of, one_integer, one_simple, one_condition}
use Rattle.pfc_types.specs.rules.Routines.{site_fits, site_rule, Callee, nothing_called, called_sort, called_routine, called_function, given, sort_value}
use Rattle.pfc_types.specs.rules.Routines.{routine_value, is_function_sort, is_signal, is_function_routine, fits_use, is_any}
use Rattle.pfc_types.specs.rules.Expressions.{find, no_selector, no_actual, guard_allows, use_rules, plain_use, use_type, actual_count, count_rule, selected}
use Rattle.pfc_types.specs.rules.Expressions.{args_fit, first_type, expr_type, broken_selectors, broken_actuals}
use Rattle.pfc_types.proofs.Clean.{clean, and-left, and-right}
use Rattle.pfc_semantics.specs.Predeclared.{Function as AFunction, abs, sqr, odd, ord, chr, succ, pred, eof, eoln, empty, clock, random, no_function}
use Rattle.pfc_semantics.specs.Predeclared.{function_of}
use Rattle.pfc_semantics.specs.Programs.{Block, Program}
use Rattle.pfc_semantics.specs.Expressions.{spot_of}
use Rattle.pfc_translation.specs.Sites.{Site, forms_of}
use Rattle.pfc_standing_code.specs.Shapes.{Shape, a_number, shape_of}
use Rattle.pfc_standing_code.specs.Typed.{IsDeclared, LeavesCells, InExpressions, IsOfSub, IsSub, Either, IsFunction, IsUse, IsGiven, IsGivenFirst, IsLent}
use Rattle.pfc_standing_code.specs.Typed.{IsLentFirst, AreArguments, AreSelectors}
use Rattle.pfc_name_laws.specs.Reached.{GivesSimple}
use Rattle.pfc_typed_phrases.specs.Names.{left_behind, IsNamedSub, IsWhole, AreKnown}
use Rattle.pfc_typed_phrases.specs.Phrases.{IsWanted, AreWanted, IsAsked, AreAsked}
use Rattle.pfc_typed_phrases.proofs.Rules.{holds, never, where_true, simple_shape, both}
use Rattle.pfc_standing_code.specs.ValueTypes.{IsValueType}

-- ## Wants

-- each formal of a heading whose parameters have types asks for one
pub asked_formals : (formals : List Formal) → all_typed formals ≡ true → AreAsked (wants_for formals)
asked_formals [] h = tt
asked_formals (f ∷ formals) h = (one f.t f.reference (and-left _ (all_typed formals) h), asked_formals formals (and-right _ (all_typed formals) h))
  where
    one : (t : Option TypeId) (r : Bool) → is_some t ≡ true → IsAsked (if r then a_variable_of t else a_value t)
    one None r h = never h
    one (Some t) true h = (t, refl)
    one (Some t) false h = (t, refl)

-- what a heading wants are its arguments
pub wanted_arguments : (s : Site) (formals : List Formal) (args : ActualTrees) → AreWanted s (wants_for formals) args → AreArguments s formals args
wanted_arguments s [] no_actuals h = tt
wanted_arguments s [] (more_actuals a rest) h = absurd h
wanted_arguments s (f ∷ formals) no_actuals h = absurd h
wanted_arguments s (f ∷ formals) (more_actuals a rest) h = (one f.t f.reference h.0, wanted_arguments s formals rest h.1)
  where
    one : (t : Option TypeId) (r : Bool) → IsWanted s (if r then a_variable_of t else a_value t) a
        → Either r (IsLent s a t) ((u : TypeId) × (t ≡ Some u) × IsGiven s a (shape_of u) × IsValueType (forms_of s) u)
    one None true h = absurd h
    one None false h = absurd h
    one (Some t) true h = h
    one (Some t) false h = (t, refl, h.0, h.1)

-- ## Predeclared functions

abbrev takes_number : AFunction → Bool
takes_number eof = false
takes_number eoln = false
takes_number clock = false
takes_number empty = false
takes_number no_function = false
takes_number f = true

abbrev takes_nothing : AFunction → Bool
takes_nothing eof = true
takes_nothing eoln = true
takes_nothing clock = true
takes_nothing f = false

of_number : (f : AFunction) (h : Shape) (given lent : Type 0) → takes_number f ≡ true → h ≡ a_number → given → IsFunction f h given lent
of_number abs h given lent is e a = (e, a)
of_number sqr h given lent is e a = (e, a)
of_number odd h given lent is e a = (e, a)
of_number ord h given lent is e a = (e, a)
of_number chr h given lent is e a = (e, a)
of_number succ h given lent is e a = (e, a)
of_number pred h given lent is e a = (e, a)
of_number eof h given lent is e a = never is
of_number eoln h given lent is e a = never is
of_number empty h given lent is e a = never is
of_number clock h given lent is e a = never is
of_number random h given lent is e a = (e, a)
of_number no_function h given lent is e a = never is

of_none : (f : AFunction) (h : Shape) (given lent : Type 0) → takes_nothing f ≡ true → h ≡ a_number → IsFunction f h given lent
of_none abs h given lent is e = never is
of_none sqr h given lent is e = never is
of_none odd h given lent is e = never is
of_none ord h given lent is e = never is
of_none chr h given lent is e = never is
of_none succ h given lent is e = never is
of_none pred h given lent is e = never is
of_none eof h given lent is e = e
of_none eoln h given lent is e = e
of_none empty h given lent is e = never is
of_none clock h given lent is e = e
of_none random h given lent is e = never is
of_none no_function h given lent is e = never is

-- a predeclared function by its rule and by its meaning
data IsPair : Routine → AFunction → Type 0 where
  of_integer : (t : TypeId) {f : AFunction} → is_simple t ≡ true → takes_number f ≡ true → IsPair (a_function one_integer (gives t) anywhere) f
  of_simple : (t : TypeId) {f : AFunction} → is_simple t ≡ true → takes_number f ≡ true → IsPair (a_function one_simple (gives t) anywhere) f
  alike : {f : AFunction} → takes_number f ≡ true → IsPair (a_function one_simple gives_alike anywhere) f
  of_nothing : (t : TypeId) {f : AFunction} → is_simple t ≡ true → takes_nothing f ≡ true → IsPair (a_function [] (gives t) anywhere) f
  of_condition : IsPair (a_function one_condition (gives boolean) in_monitor_sub) empty
  no_pair : {r : Routine} {f : AFunction} → is_function_routine r ≡ false → IsPair r f

function_pair : (k : PredeclaredName) → IsPair (routine_of k) (function_of k)
function_pair predeclared_name.Any = no_pair refl
function_pair predeclared_name.Abs = of_integer integer refl refl
function_pair predeclared_name.Sqr = of_integer integer refl refl
function_pair predeclared_name.Odd = of_integer boolean refl refl
function_pair predeclared_name.Ord = of_simple integer refl refl
function_pair predeclared_name.Chr = of_integer char refl refl
function_pair predeclared_name.Succ = alike refl
function_pair predeclared_name.Pred = alike refl
function_pair predeclared_name.Eof = of_nothing boolean refl refl
function_pair predeclared_name.Eoln = of_nothing boolean refl refl
function_pair predeclared_name.Empty = of_condition
function_pair predeclared_name.Clock = of_nothing integer refl refl
function_pair predeclared_name.Random = of_integer integer refl refl
function_pair predeclared_name.Read = no_pair refl
function_pair predeclared_name.Readln = no_pair refl
function_pair predeclared_name.Write = no_pair refl
function_pair predeclared_name.Writeln = no_pair refl
function_pair predeclared_name.Initial = no_pair refl
function_pair predeclared_name.Wait = no_pair refl
function_pair predeclared_name.Signal = no_pair refl
function_pair predeclared_name.Delay = no_pair refl
function_pair predeclared_name.Resume = no_pair refl
function_pair predeclared_name.Sleep = no_pair refl

-- ## What is called

-- Arguments in which no rule is broken are what is wanted, and fit it.
abbrev pub Fit : Site → ActualTrees → Type 0
Fit s args =
    (wants : List Want) → AreAsked wants → (length wants == actual_count args) ≡ true → clean (broken_actuals s.env None true wants args) ≡ true
    → AreWanted s wants args × (args_fit s.env wants args ≡ true)

-- the first argument, where one is wanted
first_given : (s : Site) (args : ActualTrees) (wants : List Want) → AreWanted s (a_value (Some integer) ∷ wants) args → IsGivenFirst s args
first_given s no_actuals wants h = absurd h
first_given s (more_actuals a rest) wants h = h.0.0

first_simple : (s : Site) (args : ActualTrees) (wants : List Want) → AreWanted s (a_simple_value ∷ wants) args → IsGivenFirst s args
first_simple s no_actuals wants h = absurd h
first_simple s (more_actuals a rest) wants h = h.0

first_lent : (s : Site) (args : ActualTrees) (wants : List Want) →
    AreWanted s (a_variable_of (Some condition) ∷ wants) args → IsLentFirst s args (Some condition)
first_lent s no_actuals wants h = absurd h
first_lent s (more_actuals a rest) wants h = h.0

is_typed : (o : Option TypeId) → has_simple o ≡ true → (u : TypeId) × (o ≡ Some u) × (is_simple u ≡ true)
is_typed None h = never h
is_typed (Some u) h = (u, refl, h)

first_typed : (s : Site) (args : ActualTrees) (wants : List Want) → args_fit s.env (a_simple_value ∷ wants) args ≡ true
    → (u : TypeId) × (first_type s.env args ≡ Some u) × (is_simple u ≡ true)
first_typed s no_actuals wants h = never h
first_typed s (more_actuals (actual e) rest) wants h = is_typed (expr_type s.env e) (and-left _ (args_fit s.env wants rest) h)
first_typed s (more_actuals (actual_width e w) rest) wants h = never h

-- the value of a call that fits
called_type : (fit : Bool) (o : Option TypeId) (t : TypeId) → fit ≡ true → o ≡ Some t → (if true && fit then o else None) ≡ Some t
called_type fit o t f e = ap (λ (b : Bool). if b then o else None) f ∙ e

site_holds : (s : Site) (stand : Stand) (first : Option TypeId) (p : Place) → clean (site_rule s.env.around stand first p) ≡ true →
    site_fits s.env.around stand first ≡ true
site_holds s anywhere first p h = refl
site_holds s in_main first p h = holds s.env.around.main p 403 h
site_holds s in_monitor_sub first p h = holds (site_fits s.env.around in_monitor_sub first) p 408 h

-- a function that is called with arguments in which no rule is broken
abbrev Called : Site → Callee → Option TypeId → ActualTrees → (Shape → Type 0) → Type 0
Called s callee value args is =
    (t : TypeId) × ((if true && (args_fit s.env callee.wants args && site_fits s.env.around callee.site (first_type s.env args)) then
    value else None) ≡ Some t) × is (shape_of t)

routine_called :
    (s : Site) (args : ActualTrees) (p : Place) (r : Routine) (f : AFunction) → IsPair r f → is_function_routine r ≡ true → Fit s args
    → clean (count_rule (called_routine r) args p) ≡ true → clean (broken_actuals s.env None (called_routine r).known (called_routine r).wants args) ≡ true
    → clean (site_rule s.env.around (called_routine r).site (first_type s.env args) p) ≡ true
    → Called s (called_routine r) (routine_value r (first_type s.env args)) args
    (λ h. IsFunction f h (IsGivenFirst s args) (IsLentFirst s args (Some condition)))
routine_called s args p r f (of_integer t simple takes) is fit count actuals stands =
    let a = fit one_integer ((integer, refl), tt) (holds _ p 316 count) actuals in (
      t,
      called_type _ (Some t) t (both _ _ a.1 refl) refl,
      of_number f (shape_of t) (IsGivenFirst s args) _ takes
          (simple_shape t simple) (first_given s args [] a.0),
    )
routine_called s args p r f (of_simple t simple takes) is fit count actuals stands =
    let a = fit one_simple (tt, tt) (holds _ p 316 count) actuals in (
      t,
      called_type _ (Some t) t (both _ _ a.1 refl) refl,
      of_number f (shape_of t) (IsGivenFirst s args) _ takes
          (simple_shape t simple) (first_simple s args [] a.0),
    )
routine_called s args p r f (alike takes) is fit count actuals stands =
    let a = fit one_simple (tt, tt) (holds _ p 316 count) actuals in
    let first = first_typed s args [] a.1 in (
      first.0,
      called_type _ (first_type s.env args) first.0 (both _ _ a.1 refl) first.1,
      of_number f (shape_of first.0) (IsGivenFirst s args) _ takes
          (simple_shape first.0 first.2) (first_simple s args [] a.0),
    )
routine_called s args p r f (of_nothing t simple takes) is fit count actuals stands =
    let a = fit [] tt (holds _ p 316 count) actuals in
    (t, called_type _ (Some t) t (both _ _ a.1 refl) refl, of_none f (shape_of t) (IsGivenFirst s args) _ takes (simple_shape t simple))
routine_called s args p r f of_condition is fit count actuals stands =
    let a = fit one_condition ((condition, refl), tt) (holds _ p 316 count) actuals in (
      boolean,
      called_type _ (Some boolean) boolean (both _ _ a.1 (site_holds s in_monitor_sub (first_type s.env args) p stands))
          refl,
      (refl, first_lent s args [] a.0),
    )
routine_called s args p r f (no_pair other) is fit count actuals stands = never (sym other ∙ is)

-- a sub in view is as is asked of it
pub of_named : (s : Site) (head : SubHead) (asked : ℕ → SubSort → Type 0) (named : IsNamedSub s head) → asked named.within head.sort
    → IsOfSub s head.scope head.formals asked
of_named s head asked named h =
    record {
      number = named.number;
      among = named.among;
      own_scope = ap (λ (x : SubHead). x.scope) named.is;
      own_formals = ap (λ (x : SubHead). x.formals) named.is;
      within = named.within;
      name = named.name;
      declared = named.declared;
      seen = named.seen;
      as_asked = subst (λ (x : SubHead). asked named.within x.sort) named.is h;
    }

sub_called :
    (s : Site) (args : ActualTrees) (p : Place) (head : SubHead) → IsWhole s head → is_function_sort head.sort ≡ true → Fit s args
    → clean (count_rule (called_sort head.sort head.formals) args p) ≡ true
    → clean (broken_actuals s.env None (called_sort head.sort head.formals).known (called_sort head.sort head.formals).wants args) ≡ true
    → Called s (called_sort head.sort head.formals) (sort_value head.sort) args
    (λ h. (h ≡ a_number) × IsSub s head 1 InExpressions × AreArguments s head.formals args)
sub_called s args p head whole is fit count actuals = by head.sort is whole.block.gives whole.block.leaves count actuals
  where
    called : LeavesCells s head.scope 1 → IsSub s head 1 InExpressions
    called leaves = record { headed = of_named s head InExpressions whole.block.named is; taken = whole.block.taken; leaves = leaves }

    by : (sort : SubSort) → is_function_sort sort ≡ true → GivesSimple sort → LeavesCells s head.scope (left_behind sort)
        → clean (count_rule (called_sort sort head.formals) args p) ≡ true
        → clean (broken_actuals s.env None (called_sort sort head.formals).known (called_sort sort head.formals).wants args) ≡ true
        → Called s (called_sort sort head.formals) (sort_value sort) args
        (λ h. (h ≡ a_number) × IsSub s head 1 InExpressions × AreArguments s head.formals args)
    by Procedure is value leaves count actuals = never is
    by Guarded is value leaves count actuals = never is
    by (Function t) is value leaves count actuals =
        let a = fit (wants_for head.formals) (asked_formals head.formals whole.formals) (holds _ p 316 count) actuals in
        (value.0, called_type _ t value.0 (both _ _ a.1 refl) value.1, (simple_shape value.0 value.2, called leaves, wanted_arguments s head.formals args a.0))

-- ## A name

-- selectors in which no rule is broken lead to a part
abbrev pub Lead : Site → SelectorTrees → Type 0
Lead s ss =
    (t : TypeId) → clean (broken_selectors s.env (Some t) ss) ≡ true → (u : TypeId) ×
    (selected s.env (Some t) ss ≡ Some u) × AreSelectors s (Some t) ss (Some u)

abbrev pub site_in : Program → Block → List Level → Around → ℕ → Site
site_in g block view around line = record { program = g; block = block; env = record { state = g.state; view = view; around = around }; line = line }

module _ (g : Program) (block : Block) (view : List Level) (around : Around) (line : ℕ) (known : AreKnown (site_in g block view around line)) where
  abbrev pub s : Site
  s = site_in g block view around line

  -- what a use of a name gives, and what it is
  abbrev Uses : Text → SelectorTrees → ActualTrees → Option Meaning → Option TypeId → Type 0
  Uses x ss args m value =
      let v = spot_of s.env (find s.env x) in
      (t : TypeId) × (value ≡ Some t)
      × IsUse s m (shape_of t) (IsDeclared s v.spot v.t) (λ u. AreSelectors s v.t ss u) ss (λ formals. AreArguments s formals args)
      (λ f. IsFunction f (shape_of t) (IsGivenFirst s args) (IsLentFirst s args (Some condition)))

  abbrev fit_of : Meaning → ActualTrees → Bool
  fit_of m args =
      let callee = called_function s.env.state.blocks (Some m) in
      args_fit s.env callee.wants args && site_fits s.env.around callee.site (first_type s.env args)

  abbrev gives_of : Meaning → SelectorTrees → ActualTrees → Option TypeId
  gives_of m ss args = plain_use s.env m (no_selector ss) (no_actual args) (selected s.env (variable_type (Some m)) ss) (fit_of m args) (first_type s.env args)

  variable_used :
      (x : Text) (ss : SelectorTrees) (args : ActualTrees) (t : TypeId) (r : Bool) → meaning_of (find s.env x) ≡ Some (Variable t r) → Lead s ss
      → no_actual args ≡ true → clean (broken_selectors s.env (Some t) ss) ≡ true → Uses x ss args (Some (Variable t r)) (gives_of (Variable t r) ss args)
  variable_used x ss args t r e lead bare h =
      let laid = known.variables x t r e in
      let part = lead t h in
      let v = spot_of s.env (find s.env x) in (
        part.0,
        ap (λ (b : Bool). if b then selected s.env (Some t) ss else None) bare ∙ part.1,
        (
          part.0,
          subst (λ (o : Option TypeId). IsDeclared s v.spot o) (sym laid.typed) laid.declared,
          subst (λ (o : Option TypeId). AreSelectors s o ss (Some part.0)) (sym laid.typed) part.2,
          part.1,
          refl,
        ),
      )

  meaning_used :
      (x : Text) (ss : SelectorTrees) (args : ActualTrees) (p : Place) (m : Meaning) → meaning_of (find s.env x) ≡ Some m → Lead s ss → Fit s args
      → fits_use s.env.state.blocks (no_selector ss) (no_actual args) m ≡ true
      → not (is_any (Some m) && (no_selector ss && no_actual args)) ≡ true
      → clean (broken_selectors s.env (variable_type (Some m)) ss) ≡ true
      → (let callee = (if no_selector ss then called_function s.env.state.blocks (Some m) else nothing_called) in
      (clean (count_rule callee args p) ≡ true) × (clean (broken_actuals s.env None callee.known callee.wants args) ≡ true) ×
      (clean (site_rule s.env.around callee.site (first_type s.env args) p) ≡ true))
      → Uses x ss args (Some m) (gives_of m ss args)
  meaning_used x ss args p (Constant t n) e lead fit fits any sel rest =
      (t, where_true (no_selector ss && no_actual args) t fits, simple_shape t (known.constants x t n e))
  meaning_used x ss args p (Named t) e lead fit fits any sel rest = never fits
  meaning_used x ss args p (Variable t r) e lead fit fits any sel rest = variable_used x ss args t r e lead fits sel
  meaning_used x (more_selectors a ss) args p (Sub n) e lead fit fits any sel rest = never fits
  meaning_used x no_selectors args p (Sub n) e lead fit fits any sel rest =
      sub_called s args p (sub_at g.state.blocks n) (known.subs x n e) fits fit rest.0 rest.1
  meaning_used x ss args p (Module n) e lead fit fits any sel rest = never fits
  meaning_used x ss args p (Process n) e lead fit fits any sel rest = never fits
  meaning_used x ss args p (Entry n) e lead fit fits any sel rest = never fits
  meaning_used x (more_selectors a ss) args p (Predeclared k) e lead fit fits any sel rest = never fits
  meaning_used x no_selectors args p (Predeclared k) e lead fit fits any sel rest =
      routine_called s args p (routine_of k) (function_of k) (function_pair k) (function (is_function_routine (routine_of k)) (is_signal (routine_of k))
      (no_actual args) fits any) fit rest.0 rest.1 rest.2
    where
      function : (f a b : Bool) → (f || (a && b)) ≡ true → not (a && b) ≡ true → f ≡ true
      function true a b h k = refl
      function false true true h k = never k
      function false true false h k = h
      function false false b h k = h
  meaning_used x ss args p Faulty e lead fit fits any sel rest = absurd (known.faulty x e)

  -- a name that breaks no rule may stand where it does, in a guard too
  pub name_allowed :
      (found : Option Found) (alone bare : Bool) (p : Place) → clean (use_rules s.env found alone bare p) ≡ true
      → guard_allows s.env.around.guard found ≡ true
  name_allowed None alone bare p rules = never rules
  name_allowed (Some f) alone bare p rules =
      let a = unless (fits_use s.env.state.blocks alone bare f.meaning) p 310 in
      let b = unless (not (is_any (Some f.meaning) && (alone && bare))) p 412 in
      let c = unless (guard_allows s.env.around.guard (Some f)) p 420 in
      holds (guard_allows s.env.around.guard (Some f)) p 420 (and-right (clean b) (clean c) (and-right (clean a) (clean b && clean c) rules))

  pub name_used :
      (x : Text) (ss : SelectorTrees) (args : ActualTrees) (p : Place) (found : Option Found) →
      meaning_of (find s.env x) ≡ meaning_of found → Lead s ss → Fit s args
      → clean (use_rules s.env found (no_selector ss) (no_actual args) p) ≡ true
      → clean (broken_selectors s.env (variable_type (meaning_of found)) ss) ≡ true
      → (let callee = (if no_selector ss then called_function s.env.state.blocks (meaning_of found) else nothing_called) in
      (clean (count_rule callee args p) ≡ true) × (clean (broken_actuals s.env None callee.known callee.wants args) ≡ true) ×
      (clean (site_rule s.env.around callee.site (first_type s.env args) p) ≡ true))
      → Uses x ss args (meaning_of found)
      (use_type s.env found (no_selector ss) (no_actual args) (selected s.env (variable_type (meaning_of found)) ss)
      (args_fit s.env (called_function s.env.state.blocks (meaning_of found)).wants args
      && site_fits s.env.around (called_function s.env.state.blocks (meaning_of found)).site (first_type s.env args))
      (first_type s.env args))
  name_used x ss args p None e lead fit rules sel rest = never rules
  name_used x ss args p (Some f) e lead fit rules sel rest =
      let a = unless (fits_use s.env.state.blocks (no_selector ss) (no_actual args) f.meaning) p 310 in
      let b = unless (not (is_any (Some f.meaning) && (no_selector ss && no_actual args))) p 412 in
      let c = unless (guard_allows s.env.around.guard (Some f)) p 420 in
      let behind = and-right (clean a) (clean b && clean c) rules in
      let fits = holds _ p 310 (and-left (clean a) (clean b && clean c) rules) in
      let any = holds _ p 412 (and-left (clean b) (clean c) behind) in
      let allows = holds (guard_allows s.env.around.guard (Some f)) p 420 (and-right (clean b) (clean c) behind) in
      let used = meaning_used x ss args p f.meaning e lead fit fits any sel rest in
      (used.0, ap (λ (k : Bool). if k then gives_of f.meaning ss args else None) allows ∙ used.1, used.2)
