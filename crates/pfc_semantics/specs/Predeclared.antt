-- The predeclared functions and procedures.
use Rattle.std.specs.Prelude.{Bool, true, false}
use Rattle.pfc_types.specs.declared.predeclared.PredeclaredName.{PredeclaredName}
use Rattle.pfc_types.specs.declared.predeclared.PredeclaredName.TheVariants as name

pub data Function : Type 0 where
  abs : Function
  sqr : Function
  odd : Function
  ord : Function
  chr : Function
  succ : Function
  pred : Function
  eof : Function
  eoln : Function
  empty : Function
  clock : Function
  random : Function
  -- any other predeclared name
  no_function : Function

abbrev pub function_of : PredeclaredName → Function
function_of name.Abs = abs
function_of name.Sqr = sqr
function_of name.Odd = odd
function_of name.Ord = ord
function_of name.Chr = chr
function_of name.Succ = succ
function_of name.Pred = pred
function_of name.Eof = eof
function_of name.Eoln = eoln
function_of name.Empty = empty
function_of name.Clock = clock
function_of name.Random = random
function_of k = no_function

pub data Procedure : Type 0 where
  -- `read`, or `readln`
  reader : Bool → Procedure
  -- `write`, or `writeln`
  writer : Bool → Procedure
  initial : Procedure
  wait : Procedure
  signal : Procedure
  delay : Procedure
  resume : Procedure
  sleep : Procedure
  -- any other predeclared name
  no_procedure : Procedure

abbrev pub procedure_of : PredeclaredName → Procedure
procedure_of name.Read = reader false
procedure_of name.Readln = reader true
procedure_of name.Write = writer false
procedure_of name.Writeln = writer true
procedure_of name.Initial = initial
procedure_of name.Wait = wait
procedure_of name.Signal = signal
procedure_of name.Delay = delay
procedure_of name.Resume = resume
procedure_of name.Sleep = sleep
procedure_of k = no_procedure
