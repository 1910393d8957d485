-- The values of this crate, as the definitions of the rules know them.
use Rattle.std.specs.Prelude.{List, [], ◌∷◌}
use Rattle.pfc_types.specs.Views.{levels}
use Rattle.pfc_types.specs.rules.Kinds.{Kind, a_constant, a_type, a_variable, an_entry}
use Rattle.pfc_types.specs.rules.Constants as constants
use Rattle.pfc_types.specs.rules.Routines as routines
use Rattle.pfc_types.specs.rules.Expressions as expressions
use Rattle.pfc_phrases.specs.declared.env.Env.{Env}
use Rattle.pfc_phrases.specs.declared.names.NameKind.{NameKind}
use Rattle.pfc_phrases.specs.declared.names.NameKind.TheVariants.{Constant, TypeName, Variable, Entry}
use Rattle.pfc_phrases.specs.declared.constants.Ordinal.{Ordinal}
use Rattle.pfc_phrases.specs.declared.constants.Extent.{Extent}
use Rattle.pfc_phrases.specs.declared.routines.Want.{Want}
use Rattle.pfc_phrases.specs.declared.routines.Want.TheVariants as want
use Rattle.pfc_phrases.specs.declared.routines.Wants.{Wants}
use Rattle.pfc_phrases.specs.declared.routines.Wants.TheVariants as wants
use Rattle.pfc_phrases.specs.declared.routines.Site.{Site}
use Rattle.pfc_phrases.specs.declared.routines.Site.TheVariants as site
use Rattle.pfc_phrases.specs.declared.routines.Gives.{Gives}
use Rattle.pfc_phrases.specs.declared.routines.Gives.TheVariants as gives
use Rattle.pfc_phrases.specs.declared.routines.Routine.{Routine}
use Rattle.pfc_phrases.specs.declared.routines.Routine.TheVariants as routine
use Rattle.pfc_phrases.specs.declared.routines.Callee.{Callee}

-- what is known at a place of a body
abbrev pub env_view : Env → expressions.Env
env_view env = record { state = record { forms = env.types.now; blocks = env.scopes.now }; view = levels env.view.now; around = env.around }

abbrev pub kind_view : NameKind → Kind
kind_view Constant = a_constant
kind_view TypeName = a_type
kind_view Variable = a_variable
kind_view Entry = an_entry

abbrev pub ordinal_view : Ordinal → constants.Ordinal
ordinal_view c = record { t = c.t; value = c.value }

abbrev pub extent_view : Extent → constants.Extent
extent_view r = record { index = r.index; low = r.low; high = r.high }

-- ## What is called

abbrev pub want_view : Want → routines.Want
want_view (want.Value t) = routines.a_value t
want_view want.SimpleValue = routines.a_simple_value
want_view (want.VariableOf t) = routines.a_variable_of t

abbrev pub wants_view : Wants → List routines.Want
wants_view wants.OneSimple = routines.a_simple_value ∷ []
wants_view (wants.Formals formals) = routines.wants_for formals.now

abbrev pub site_view : Site → routines.Site
site_view site.Anywhere = routines.anywhere
site_view site.InMain = routines.in_main
site_view site.InMonitorSub = routines.in_monitor_sub

abbrev pub gives_view : Gives → routines.Gives
gives_view (gives.Always t) = routines.gives t
gives_view gives.Alike = routines.gives_alike

abbrev pub routine_view : Routine → routines.Routine
routine_view routine.Signal = routines.the_signal
routine_view (routine.Function w g s) = routines.a_function (wants_view w) (gives_view g) (site_view s)
routine_view (routine.Procedure w s) = routines.a_procedure (wants_view w) (site_view s)
routine_view routine.Delay = routines.a_delay
routine_view (routine.Reader some) = routines.a_reader some
routine_view (routine.Writer some) = routines.a_writer some

abbrev pub callee_view : Callee → routines.Callee
callee_view c = record { known = c.known; wants = wants_view c.wants; site = site_view c.site }
