-- What is called, and what it wants of its arguments.
use Rattle.std.specs.Prelude.{ℕ, Bool, true, false, not, ◌&&◌, ◌||◌, if◌then◌else◌, nat_lt, List, [], ◌∷◌, map, Option, Some, None}
use Rattle.pfc_base.specs.declared.places.Place.{Place}
use Rattle.pfc_types.specs.Faults.{Faults, none, ◌⨾◌, unless}
use Rattle.pfc_types.specs.Types.{Forms, integer, boolean, char, semaphore, condition}
use Rattle.pfc_types.specs.Blocks.{Blocks, sub_at}
use Rattle.pfc_types.specs.declared.types.TypeId.{TypeId}
use Rattle.pfc_types.specs.declared.predeclared.PredeclaredName.{PredeclaredName}
use Rattle.pfc_types.specs.declared.predeclared.PredeclaredName.TheVariants as name
use Rattle.pfc_types.specs.declared.scope.Meaning.{Meaning}
use Rattle.pfc_types.specs.declared.scope.Meaning.TheVariants.{Constant, Named, Variable, Sub, Module, Process, Entry, Predeclared, Faulty}
use Rattle.pfc_types.specs.declared.view.Around.{Around}
use Rattle.pfc_types.specs.declared.heads.Formal.{Formal}
use Rattle.pfc_types.specs.declared.heads.SubSort.{SubSort}
use Rattle.pfc_types.specs.declared.heads.SubSort.TheVariants.{Procedure, Guarded, Function}
use Rattle.pfc_types.specs.rules.Kinds.{has, may_have, may_be_simple, has_simple, has_object, value_rule}

-- ## What an argument has to be

pub data Want : Type 0 where
  -- a value of this type; None for a parameter whose type is faulty, of which nothing is wanted
  a_value : Option TypeId → Want
  -- a value of a simple type
  a_simple_value : Want
  -- a variable of this type, for a reference
  a_variable_of : Option TypeId → Want

abbrev pub want_of : Formal → Want
want_of f = if f.reference then a_variable_of f.t else a_value f.t

abbrev pub wants_for : List Formal → List Want
wants_for formals = map want_of formals

-- the argument may have the type that is wanted: one of them may be faulty
abbrev pub may_suit : Option TypeId → Option TypeId → Bool
may_suit None u = true
may_suit (Some t) u = may_have t u

abbrev pub suits : Option TypeId → Option TypeId → Bool
suits None u = false
suits (Some t) u = has t u

-- no rule is broken between this argument and what is wanted, and neither is faulty; `lent` says that it is a variable
abbrev pub fits_want : Forms → Want → Bool → Option TypeId → Bool
fits_want forms (a_value t) lent u = suits t u && not (has_object forms u)
fits_want forms a_simple_value lent u = has_simple u
fits_want forms (a_variable_of t) lent u = suits t u && lent

-- 317: an argument has the type of its formal; at the argument
-- 318: an argument for a reference is a variable, which needs no type; at the argument
-- 406: no object type is passed by value; at the argument
abbrev pub want_rules : Forms → Want → Bool → Option TypeId → Place → Faults
want_rules forms (a_value t) lent u p = unless (may_suit t u) p 317 ⨾ value_rule forms u p
want_rules forms a_simple_value lent u p = unless (may_be_simple u) p 317 ⨾ value_rule forms u p
want_rules forms (a_variable_of t) lent u p = unless (may_suit t u) p 317 ⨾ unless lent p 318

-- ## The predeclared functions and procedures

-- the type of a predeclared function's value: always one, or that of its argument
pub data Gives : Type 0 where
  gives : TypeId → Gives
  gives_alike : Gives

-- where a predeclared name may be called
pub data Site : Type 0 where
  anywhere : Site
  -- in the main body
  in_main : Site
  -- in a sub of the condition's monitor
  in_monitor_sub : Site

pub data Routine : Type 0 where
  -- `any`, the one value of `synchronous`
  the_signal : Routine
  a_function : List Want → Gives → Site → Routine
  a_procedure : List Want → Site → Routine
  -- `delay`, which takes one argument or two
  a_delay : Routine
  -- `read` and `readln`; whether at least one argument is wanted
  a_reader : Bool → Routine
  -- `write` and `writeln`; whether at least one argument is wanted
  a_writer : Bool → Routine

abbrev pub one_integer : List Want
one_integer = a_value (Some integer) ∷ []

abbrev pub one_simple : List Want
one_simple = a_simple_value ∷ []

abbrev pub one_semaphore : List Want
one_semaphore = a_variable_of (Some semaphore) ∷ []

abbrev pub one_condition : List Want
one_condition = a_variable_of (Some condition) ∷ []

-- a condition with a rank
abbrev pub ranked_condition : List Want
ranked_condition = a_variable_of (Some condition) ∷ a_value (Some integer) ∷ []

-- `delay` with n arguments: it takes one or two, so none is one too few, and three are one too many
abbrev pub delay_wants : ℕ → List Want
delay_wants n = if nat_lt 1 n then ranked_condition else one_condition

-- what each predeclared name is called with, what it gives, and where it may be called
abbrev pub routine_of : PredeclaredName → Routine
routine_of name.Any = the_signal
routine_of name.Abs = a_function one_integer (gives integer) anywhere
routine_of name.Sqr = a_function one_integer (gives integer) anywhere
routine_of name.Odd = a_function one_integer (gives boolean) anywhere
routine_of name.Ord = a_function one_simple (gives integer) anywhere
routine_of name.Chr = a_function one_integer (gives char) anywhere
routine_of name.Succ = a_function one_simple gives_alike anywhere
routine_of name.Pred = a_function one_simple gives_alike anywhere
routine_of name.Eof = a_function [] (gives boolean) anywhere
routine_of name.Eoln = a_function [] (gives boolean) anywhere
routine_of name.Empty = a_function one_condition (gives boolean) in_monitor_sub
routine_of name.Clock = a_function [] (gives integer) anywhere
routine_of name.Random = a_function one_integer (gives integer) anywhere
routine_of name.Read = a_reader true
routine_of name.Readln = a_reader false
routine_of name.Write = a_writer true
routine_of name.Writeln = a_writer false
routine_of name.Initial = a_procedure (a_variable_of (Some semaphore) ∷ a_value (Some integer) ∷ []) in_main
routine_of name.Wait = a_procedure one_semaphore anywhere
routine_of name.Signal = a_procedure one_semaphore anywhere
routine_of name.Delay = a_delay
routine_of name.Resume = a_procedure one_condition in_monitor_sub
routine_of name.Sleep = a_procedure one_integer anywhere

-- the predeclared names that stand in guards
abbrev pub guard_function : PredeclaredName → Bool
guard_function name.Abs = true
guard_function name.Sqr = true
guard_function name.Odd = true
guard_function name.Ord = true
guard_function name.Chr = true
guard_function name.Succ = true
guard_function name.Pred = true
guard_function k = false

-- 403: `initial` stands in the main body
-- 408: `delay`, `resume` and `empty` stand in a sub of the condition's monitor. A condition that is in view is a variable of the
-- monitor around, so it is enough that there is a sub. Where the argument is no condition there is no monitor to ask for.
abbrev pub site_fits : Around → Site → Option TypeId → Bool
site_fits around anywhere first = true
site_fits around in_main first = around.main
site_fits around in_monitor_sub first = around.sub || not (has condition first)

-- at the name
abbrev pub site_rule : Around → Site → Option TypeId → Place → Faults
site_rule around anywhere first p = none
site_rule around in_main first p = unless around.main p 403
site_rule around in_monitor_sub first p = unless (around.sub || not (has condition first)) p 408

-- ## Functions in an expression

-- what is called, where it can be asked for its arguments, and where it may stand
pub record Callee : Type 0 where
  pub known : Bool
  pub wants : List Want
  pub site : Site

-- no rule asks for the arguments
abbrev pub nothing_called : Callee
nothing_called = record { known = false; wants = []; site = anywhere }

abbrev pub called_with : List Want → Site → Callee
called_with wants site = record { known = true; wants = wants; site = site }

abbrev pub called_sort : SubSort → List Formal → Callee
called_sort Procedure formals = nothing_called
called_sort Guarded formals = nothing_called
called_sort (Function t) formals = called_with (wants_for formals) anywhere

abbrev pub called_routine : Routine → Callee
called_routine the_signal = nothing_called
called_routine (a_function wants g site) = called_with wants site
called_routine (a_procedure wants site) = nothing_called
called_routine a_delay = nothing_called
called_routine (a_reader some) = nothing_called
called_routine (a_writer some) = nothing_called

abbrev pub called_function : Blocks → Option Meaning → Callee
called_function b (Some (Sub n)) = called_sort (sub_at b n).sort (sub_at b n).formals
called_function b (Some (Predeclared k)) = called_routine (routine_of k)
called_function b m = nothing_called

-- the type of a function's value, whose first argument has this type
abbrev pub given : Gives → Option TypeId → Option TypeId
given (gives t) first = Some t
given gives_alike first = first

abbrev pub sort_value : SubSort → Option TypeId
sort_value Procedure = None
sort_value Guarded = None
sort_value (Function t) = t

abbrev pub routine_value : Routine → Option TypeId → Option TypeId
routine_value the_signal first = None
routine_value (a_function wants g site) first = given g first
routine_value (a_procedure wants site) first = None
routine_value a_delay first = None
routine_value (a_reader some) first = None
routine_value (a_writer some) first = None

abbrev pub is_function_sort : SubSort → Bool
is_function_sort Procedure = false
is_function_sort Guarded = false
is_function_sort (Function t) = true

abbrev pub is_signal : Routine → Bool
is_signal the_signal = true
is_signal r = false

abbrev pub is_function_routine : Routine → Bool
is_function_routine (a_function wants g site) = true
is_function_routine r = false

-- 310: a name in an expression is a constant, a variable, a function, or `any` alone (which is 412). With selectors it is a
-- variable, with arguments a function.
abbrev pub fits_use : Blocks → Bool → Bool → Meaning → Bool
fits_use b alone bare (Constant t v) = alone && bare
fits_use b alone bare (Named t) = false
fits_use b alone bare (Variable t r) = bare
fits_use b alone bare (Sub n) = alone && is_function_sort (sub_at b n).sort
fits_use b alone bare (Module n) = false
fits_use b alone bare (Process n) = false
fits_use b alone bare (Entry n) = false
fits_use b alone bare (Predeclared k) = alone && (is_function_routine (routine_of k) || (is_signal (routine_of k) && bare))
fits_use b alone bare Faulty = true

-- 412: `any` stands only in communication; as a factor it is refused at the name
abbrev pub is_any : Option Meaning → Bool
is_any (Some (Predeclared k)) = is_signal (routine_of k)
is_any m = false
