-- Faulty names that are factors: a name with its selectors and arguments has a type exactly where it fits its place, they have
-- theirs, and its own declaration is whole.
use Rattle.std.proofs.Common.{◌≡◌, ℕ, Bool, true, false, not, ◌&&◌, ◌||◌, ◌==◌, if◌then◌else◌, is_some, List, [], ◌∷◌, length, Option, Some}
use Rattle.std.proofs.Common.{None, ℤ, refl, sym, ap, ap₂, ◌∙◌}
use Rattle.pfc_base.specs.declared.places.Place.{Place}
use Rattle.pfc_tree.specs.trees.Exprs.{SelectorTrees, ActualTree, ActualTrees, no_selectors, more_selectors, no_actuals, more_actuals, actual, actual_width}
use Rattle.pfc_types.specs.Faults.{Faults, ◌⨾◌, unless}
use Rattle.pfc_types.specs.Blocks.{sub_at}
use Rattle.pfc_types.specs.declared.types.TypeId.{TypeId}
use Rattle.pfc_types.specs.declared.predeclared.PredeclaredName.{PredeclaredName}
use Rattle.pfc_types.specs.declared.predeclared.PredeclaredName.TheVariants as name
use Rattle.pfc_types.specs.declared.scope.Meaning.{Meaning}
use Rattle.pfc_types.specs.declared.scope.Meaning.TheVariants.{Constant, Named, Variable, Sub, Module, Process, Entry, Predeclared, Faulty}
use Rattle.pfc_types.specs.declared.view.Found.{Found}
use Rattle.pfc_types.specs.declared.view.Around.{Around}
use Rattle.pfc_types.specs.declared.heads.Formal.{Formal}
use Rattle.pfc_types.specs.declared.heads.SubSort.{SubSort}
use Rattle.pfc_types.specs.declared.heads.SubSort.TheVariants.{Procedure, Guarded, Function}
use Rattle.pfc_types.specs.Scopes.{meaning_of}
use Rattle.pfc_types.specs.rules.Kinds.{a_variable, name_rules, variable_type}
use Rattle.pfc_types.specs.rules.Declarations.{whole_sort}
use Rattle.pfc_types.specs.rules.Routines.{Want, wants_for, Gives, gives, gives_alike, Site, anywhere, in_main, in_monitor_sub, Routine, the_signal, a_function}
use Rattle.pfc_types.specs.rules.Routines.{a_procedure, a_delay, a_reader, a_writer, routine_of, site_fits, site_rule, Callee, nothing_called}
use Rattle.pfc_types.specs.rules.Routines.{called_with, called_sort, called_routine, called_function, given, sort_value, routine_value, is_function_sort}
use Rattle.pfc_types.specs.rules.Routines.{is_signal, is_function_routine, fits_use, is_any}
use Rattle.pfc_types.specs.rules.Expressions.{Env, no_selector, no_actual, guard_allows, use_rules, plain_use, use_type, actual_count, count_rule, is_variable}
use Rattle.pfc_types.specs.rules.Expressions.{expr_type, selected, args_fit, arg_fits, first_type, arg_type, broken_selectors, broken_actuals}
use Rattle.pfc_types.specs.rules.FaultyNames.{all_typed, is_faulty, is_faulty_found, selectors_use_faulty, actuals_use_faulty}
use Rattle.pfc_types.proofs.Clean.{clean, clean-unless, and-false}
use Rattle.pfc_types.proofs.FaultyOperators.{all_wanted, wanted_formals, fits_typed}

-- ## What is known of the parts

-- what the selectors make of a type
abbrev pub SelectorsExact : Env → SelectorTrees → Type 0
SelectorsExact env ss = (t : Option TypeId) →
    is_some (selected env t ss) ≡ (is_some t && (clean (broken_selectors env t ss) && not (selectors_use_faulty env ss)))

-- the arguments fit what is wanted
abbrev pub ArgumentsExact : Env → ActualTrees → Type 0
ArgumentsExact env args =
    (ws : List Want) → args_fit env ws args ≡
    ((length ws == actual_count args) && (all_wanted ws && (clean (broken_actuals env None true ws args) && not (actuals_use_faulty env args))))

-- ## Predeclared functions

-- a function that gives the type of its argument has one
abbrev HasFirst : Gives → List Want → Type 0
HasFirst (gives t) ws = Unit {0}
HasFirst gives_alike [] = ⊥
HasFirst gives_alike (w ∷ ws) = Unit {0}

abbrev IsLawful : Routine → Type 0
IsLawful the_signal = Unit {0}
IsLawful (a_function wants g site) = (all_wanted wants ≡ true) × HasFirst g wants
IsLawful (a_procedure wants site) = Unit {0}
IsLawful a_delay = Unit {0}
IsLawful (a_reader some) = Unit {0}
IsLawful (a_writer some) = Unit {0}

lawful_routine : (k : PredeclaredName) → IsLawful (routine_of k)
lawful_routine name.Any = tt
lawful_routine name.Abs = (refl, tt)
lawful_routine name.Sqr = (refl, tt)
lawful_routine name.Odd = (refl, tt)
lawful_routine name.Ord = (refl, tt)
lawful_routine name.Chr = (refl, tt)
lawful_routine name.Succ = (refl, tt)
lawful_routine name.Pred = (refl, tt)
lawful_routine name.Eof = (refl, tt)
lawful_routine name.Eoln = (refl, tt)
lawful_routine name.Empty = (refl, tt)
lawful_routine name.Clock = (refl, tt)
lawful_routine name.Random = (refl, tt)
lawful_routine name.Read = tt
lawful_routine name.Readln = tt
lawful_routine name.Write = tt
lawful_routine name.Writeln = tt
lawful_routine name.Initial = tt
lawful_routine name.Wait = tt
lawful_routine name.Signal = tt
lawful_routine name.Delay = tt
lawful_routine name.Resume = tt
lawful_routine name.Sleep = tt

arg_typed : (env : Env) (w : Want) (a : ActualTree) → arg_fits env w a ≡ true → is_some (arg_type env a) ≡ true
arg_typed env w (actual e) h = fits_typed env.state.forms w (is_variable env None e) (expr_type env e) h
arg_typed env w (actual_width e width) h = cc

first_typed : (env : Env) (w : Want) (ws : List Want) (args : ActualTrees) → args_fit env (w ∷ ws) args ≡ true → is_some (first_type env args) ≡ true
first_typed env w ws no_actuals h = h
first_typed env w ws (more_actuals a rest) h = by (arg_fits env w a) refl h
  where
    by : (b : Bool) → arg_fits env w a ≡ b → (b && args_fit env ws rest) ≡ true → is_some (arg_type env a) ≡ true
    by true e h = arg_typed env w a e
    by false e h = cc

given_typed : (env : Env) (g : Gives) (wants : List Want) (args : ActualTrees) → HasFirst g wants → args_fit env wants args ≡ true →
    is_some (given g (first_type env args)) ≡ true
given_typed env (gives t) wants args lawful h = refl
given_typed env gives_alike [] args lawful h = absurd lawful
given_typed env gives_alike (w ∷ ws) args lawful h = first_typed env w ws args h

site_exactly : (around : Around) (site : Site) (first : Option TypeId) (p : Place) → site_fits around site first ≡ clean (site_rule around site first p)
site_exactly around anywhere first p = refl
site_exactly around in_main first p = sym (clean-unless around.main p 403)
site_exactly around in_monitor_sub first p = sym (clean-unless (site_fits around in_monitor_sub first) p 408)

-- ## Names of each kind

-- the rules of a name that are no rules of its use
abbrev rest_of : Env → Option TypeId → Callee → SelectorTrees → ActualTrees → Place → Faults
rest_of env t callee ss args q =
    broken_selectors env t ss
    ⨾ count_rule callee args q
    ⨾ broken_actuals env None callee.known callee.wants args
    ⨾ site_rule env.around callee.site (first_type env args) q

abbrev callee_in : Env → SelectorTrees → Meaning → Callee
callee_in env ss m = if no_selector ss then called_function env.state.blocks (Some m) else nothing_called

-- a name whose use breaks no rule of a guard has a type exactly where it should
abbrev IsExact : Env → SelectorTrees → ActualTrees → Place → Meaning → Type 0
IsExact env ss args q m =
    is_some (plain_use env m (no_selector ss) (no_actual args) (selected env (variable_type (Some m)) ss)
    (args_fit env (called_function env.state.blocks (Some m)).wants args && site_fits env.around
    (called_function env.state.blocks (Some m)).site (first_type env args))
    (first_type env args))
    ≡ (((fits_use env.state.blocks (no_selector ss) (no_actual args) m && not (is_any (Some m) && (no_selector ss && no_actual args)))
    && clean (rest_of env (variable_type (Some m)) (callee_in env ss m) ss args q))
    && not ((is_faulty env.state.blocks m || selectors_use_faulty env ss) || actuals_use_faulty env args))

constant_exact : (env : Env) (ss : SelectorTrees) (args : ActualTrees) (q : Place) (t : TypeId) (v : ℤ) → IsExact env ss args q (Constant t v)
constant_exact env no_selectors no_actuals q t v = refl
constant_exact env no_selectors (more_actuals a rest) q t v = refl
constant_exact env (more_selectors s ss) args q t v = refl

variable_exact : (env : Env) (ss : SelectorTrees) (args : ActualTrees) (q : Place) (t : TypeId) (r : Bool) →
    SelectorsExact env ss → IsExact env ss args q (Variable t r)
variable_exact env ss (more_actuals a rest) q t r known = refl
variable_exact env no_selectors no_actuals q t r known = refl
variable_exact env (more_selectors s ss) no_actuals q t r known =
    known (Some t) ∙ by (clean (broken_selectors env (Some t) (more_selectors s ss))) (selectors_use_faulty env (more_selectors s ss))
  where
    by : (c u : Bool) → (c && not u) ≡ ((c && (true && (true && true))) && not (u || false))
    by true true = refl
    by true false = refl
    by false u = refl

-- nothing has a type where a test chooses between two parts that have none
neither : (b : Bool) → is_some {T = TypeId} (if b then None else None) ≡ false
neither true = refl
neither false = refl

-- a value that is given where a test holds
chosen : (b : Bool) (t : Option TypeId) → is_some (if b then t else None) ≡ (b && is_some t)
chosen true t = refl
chosen false t = refl

-- a value that is there where both tests hold
both_chosen : (a b : Bool) (t : Option TypeId) → (a ≡ true → is_some t ≡ true) → is_some (if a && b then t else None) ≡ (a && b)
both_chosen true true t h = h refl
both_chosen true false t h = refl
both_chosen false b t h = refl

clean-count : (wants : List Want) (site : Site) (args : ActualTrees) (q : Place) →
    clean (count_rule (called_with wants site) args q) ≡ (length wants == actual_count args)
clean-count wants site args q = clean-unless (length wants == actual_count args) q 316

sort_exact :
    (env : Env) (args : ActualTrees) (q : Place) (sort : SubSort) (formals : List Formal) → ArgumentsExact env args
    → is_some (if true && (args_fit env (called_sort sort formals).wants args && site_fits env.around (called_sort sort formals).site
    (first_type env args)) then sort_value sort else None)
    ≡ ((((true && is_function_sort sort) && not (false && (true && no_actual args))) && clean (rest_of env None (called_sort sort formals) no_selectors args q))
    && not ((not (all_typed formals && whole_sort sort) || false) || actuals_use_faulty env args))
sort_exact env args q Procedure formals known = neither (args_fit env [] args && true)
sort_exact env args q Guarded formals known = neither (args_fit env [] args && true)
sort_exact env args q (Function t) formals known =
    chosen (args_fit env (wants_for formals) args && true) t
    ∙ ap (λ x. (x && true) && is_some t) (known (wants_for formals))
    ∙ ap (λ x. (((length (wants_for formals) == actual_count args) &&
    (x && (clean (broken_actuals env None true (wants_for formals) args) && not (actuals_use_faulty env args)))) && true) && is_some t)
    (wanted_formals formals)
    ∙ by (length (wants_for formals) == actual_count args) (all_typed formals) (clean (broken_actuals env None true (wants_for formals) args))
    (actuals_use_faulty env args) (is_some t)
    ∙ ap (λ x. (x && (clean (broken_actuals env None true (wants_for formals) args) && true)) && not
    ((not (all_typed formals && is_some t) || false) || actuals_use_faulty env args)) (sym (clean-count (wants_for formals) anywhere args q))
  where
    by : (l w c u s : Bool) → (((l && (w && (c && not u))) && true) && s) ≡ ((l && (c && true)) && not ((not (w && s) || false) || u))
    by false w c u s = refl
    by true false true u s = refl
    by true false false u s = refl
    by true true false u s = refl
    by true true true true true = refl
    by true true true true false = refl
    by true true true false true = refl
    by true true true false false = refl

sub_exact : (env : Env) (ss : SelectorTrees) (args : ActualTrees) (q : Place) (n : ℕ) → ArgumentsExact env args → IsExact env ss args q (Sub n)
sub_exact env (more_selectors s ss) args q n known = refl
sub_exact env no_selectors args q n known = sort_exact env args q (sub_at env.state.blocks n).sort (sub_at env.state.blocks n).formals known

routine_exact :
    (env : Env) (args : ActualTrees) (q : Place) (r : Routine) → IsLawful r → ArgumentsExact env args
    → is_some (if true && (args_fit env (called_routine r).wants args && site_fits env.around (called_routine r).site (first_type env args)) then
    routine_value r (first_type env args) else None)
    ≡ ((((true && (is_function_routine r || (is_signal r && no_actual args))) && not (is_signal r && (true && no_actual args))) && clean
    (rest_of env None (called_routine r) no_selectors args q))
    && not ((false || false) || actuals_use_faulty env args))
routine_exact env no_actuals q the_signal lawful known = refl
routine_exact env (more_actuals a rest) q the_signal lawful known = neither (args_fit env [] (more_actuals a rest) && true)
routine_exact env args q (a_procedure wants site) lawful known = neither (args_fit env [] args && true)
routine_exact env args q a_delay lawful known = neither (args_fit env [] args && true)
routine_exact env args q (a_reader some) lawful known = neither (args_fit env [] args && true)
routine_exact env args q (a_writer some) lawful known = neither (args_fit env [] args && true)
routine_exact env args q (a_function wants g site) lawful known =
    both_chosen (args_fit env wants args) (site_fits env.around site (first_type env args)) (given g (first_type env args))
    (given_typed env g wants args lawful.1)
    ∙ ap (λ x. x && site_fits env.around site (first_type env args)) (known wants)
    ∙ ap₂ (λ w s. ((length wants == actual_count args) && (w && (clean (broken_actuals env None true wants args) && not (actuals_use_faulty env args)))) && s)
    lawful.0 (site_exactly env.around site (first_type env args) q)
    ∙ by (length wants == actual_count args) (clean (broken_actuals env None true wants args)) (actuals_use_faulty env args)
    (clean (site_rule env.around site (first_type env args) q))
    ∙ ap (λ x. (x && (clean (broken_actuals env None true wants args) && clean (site_rule env.around site (first_type env args) q))) && not
    (actuals_use_faulty env args)) (sym (clean-count wants site args q))
  where
    by : (l c u s : Bool) → ((l && (true && (c && not u))) && s) ≡ ((l && (c && s)) && not u)
    by false c u s = refl
    by true false u s = refl
    by true true true true = refl
    by true true true false = refl
    by true true false true = refl
    by true true false false = refl

predeclared_exact : (env : Env) (ss : SelectorTrees) (args : ActualTrees) (q : Place) (k : PredeclaredName) → ArgumentsExact env args
    → IsExact env ss args q (Predeclared k)
predeclared_exact env (more_selectors s ss) args q k known = refl
predeclared_exact env no_selectors args q k known = routine_exact env args q (routine_of k) (lawful_routine k) known

meaning_exact : (env : Env) (ss : SelectorTrees) (args : ActualTrees) (q : Place) (m : Meaning) → SelectorsExact env ss →
    ArgumentsExact env args → IsExact env ss args q m
meaning_exact env ss args q (Constant t v) selectors arguments = constant_exact env ss args q t v
meaning_exact env ss args q (Named t) selectors arguments = refl
meaning_exact env ss args q (Variable t r) selectors arguments = variable_exact env ss args q t r selectors
meaning_exact env ss args q (Sub n) selectors arguments = sub_exact env ss args q n arguments
meaning_exact env ss args q (Module n) selectors arguments = refl
meaning_exact env ss args q (Process n) selectors arguments = refl
meaning_exact env ss args q (Entry n) selectors arguments = refl
meaning_exact env ss args q (Predeclared k) selectors arguments = predeclared_exact env ss args q k arguments
meaning_exact env ss args q Faulty selectors arguments = sym (and-false (clean (rest_of env None (callee_in env ss Faulty) ss args q)))

-- ## The whole

guarded_exact :
    (t : Option TypeId) (fit any guard rest uses : Bool) (q : Place) → is_some t ≡ (((fit && any) && rest) && not uses)
    → is_some (if guard then t else None) ≡ (((clean (unless fit q 310) && (clean (unless any q 412) && clean (unless guard q 420))) && rest) && not uses)
guarded_exact t true true true rest uses q h = h
guarded_exact t true false true rest uses q h = h
guarded_exact t false any true rest uses q h = h
guarded_exact t true true false rest uses q h = refl
guarded_exact t true false false rest uses q h = refl
guarded_exact t false any false rest uses q h = refl

-- a name that is a factor, with its selectors and arguments
pub use_exact :
    (env : Env) (ss : SelectorTrees) (args : ActualTrees) (q : Place) (found : Option Found) → SelectorsExact env ss → ArgumentsExact env args
    → is_some (use_type env found (no_selector ss) (no_actual args) (selected env (variable_type (meaning_of found)) ss)
    (args_fit env (called_function env.state.blocks (meaning_of found)).wants args && site_fits env.around
    (called_function env.state.blocks (meaning_of found)).site (first_type env args))
    (first_type env args))
    ≡ ((clean (use_rules env found (no_selector ss) (no_actual args) q)
    && clean (rest_of env (variable_type (meaning_of found)) (if no_selector ss then
    called_function env.state.blocks (meaning_of found) else nothing_called) ss args q))
    && not ((is_faulty_found env.state.blocks found || selectors_use_faulty env ss) || actuals_use_faulty env args))
use_exact env ss args q None selectors arguments = refl
use_exact env ss args q (Some found) selectors arguments =
    guarded_exact _ (fits_use env.state.blocks (no_selector ss) (no_actual args) found.meaning)
    (not (is_any (Some found.meaning) && (no_selector ss && no_actual args))) (guard_allows env.around.guard (Some found))
    _ _ q (meaning_exact env ss args q found.meaning selectors arguments)

-- a variable that stands alone
pub desig_exact :
    (env : Env) (ss : SelectorTrees) (p : Place) (found : Option Found) → SelectorsExact env ss
    → is_some (selected env (variable_type (meaning_of found)) ss)
    ≡ ((clean (name_rules a_variable (meaning_of found) p) && clean (broken_selectors env (variable_type (meaning_of found)) ss)) && not
    (is_faulty_found env.state.blocks found || selectors_use_faulty env ss))
desig_exact env ss p None known = known None
desig_exact env ss p (Some found) known = at found.meaning
  where
    by : (c : Bool) → false ≡ (c && false)
    by true = refl
    by false = refl

    at : (m : Meaning) → is_some (selected env (variable_type (Some m)) ss)
        ≡ ((clean (name_rules a_variable (Some m) p) && clean (broken_selectors env (variable_type (Some m)) ss)) && not
        (is_faulty env.state.blocks m || selectors_use_faulty env ss))
    at (Constant t v) = known None
    at (Named t) = known None
    at (Variable t r) = known (Some t)
    at (Sub n) = known None
    at (Module n) = known None
    at (Process n) = known None
    at (Entry n) = known None
    at (Predeclared k) = known None
    at Faulty = known None ∙ by (clean (broken_selectors env None ss))
