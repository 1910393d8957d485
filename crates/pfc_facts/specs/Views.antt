-- The values of this crate, as the definitions of runs know them.
use Rattle.std.specs.Prelude.{ℕ, ℤ, List, [], Option, Some, None}
use Rattle.pfc_semantics.specs.Displays.{Spot}
use Rattle.pfc_semantics.specs.Remainders.{Replica}
use Rattle.pfc_semantics.specs.Alternatives.{replicas_between}
use Rattle.pfc_semantics.specs.Predeclared as predeclared
use Rattle.pfc_facts.specs.declared.routines.Function.{Function}
use Rattle.pfc_facts.specs.declared.routines.Function.TheVariants as function
use Rattle.pfc_facts.specs.declared.routines.Procedure.{Procedure}
use Rattle.pfc_facts.specs.declared.routines.Procedure.TheVariants as procedure

abbrev pub function_view : Function → predeclared.Function
function_view function.Abs = predeclared.abs
function_view function.Sqr = predeclared.sqr
function_view function.Odd = predeclared.odd
function_view function.Ord = predeclared.ord
function_view function.Chr = predeclared.chr
function_view function.Succ = predeclared.succ
function_view function.Pred = predeclared.pred
function_view function.Eof = predeclared.eof
function_view function.Eoln = predeclared.eoln
function_view function.Empty = predeclared.empty
function_view function.Clock = predeclared.clock
function_view function.Random = predeclared.random
function_view function.NoFunction = predeclared.no_function

abbrev pub procedure_view : Procedure → predeclared.Procedure
procedure_view (procedure.Reader skip) = predeclared.reader skip
procedure_view (procedure.Writer newline) = predeclared.writer newline
procedure_view procedure.Initial = predeclared.initial
procedure_view procedure.Wait = predeclared.wait
procedure_view procedure.Signal = predeclared.signal
procedure_view procedure.Delay = predeclared.delay
procedure_view procedure.Resume = predeclared.resume
procedure_view procedure.Sleep = predeclared.sleep
procedure_view procedure.NoProcedure = predeclared.no_procedure

-- the values of a spread, from a low one to a high one, where they are known
abbrev pub replicas_with : Spot → ℕ → Option (ℤ × ℤ) → List Replica
replicas_with s line None = []
replicas_with s line (Some values) = replicas_between s line values.0 values.1
