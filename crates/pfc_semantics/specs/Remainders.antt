-- What a process has still to do: source text that is left, innermost first.
--
-- There are three sorts, by what they wait for: a statement that ends, a value, or a location, which a spot names. So a value never
-- meets a statement, and nothing is ever stuck. A remainder names variables by their spots; it knows no activation.
use Rattle.std.specs.Prelude.{ℕ, ℤ, Bool, List, Option}
use Rattle.pfc_base.specs.declared.places.Place.{Place}
use Rattle.pfc_base.specs.declared.faults.RunFault.{RunFault}
use Rattle.pfc_tree.specs.declared.tree.Sign.{Sign}
use Rattle.pfc_tree.specs.declared.tree.Relation.{Relation}
use Rattle.pfc_tree.specs.declared.tree.AddOp.{AddOp}
use Rattle.pfc_tree.specs.declared.tree.MulOp.{MulOp}
use Rattle.pfc_tree.specs.trees.Exprs.{ExprTree, SimpleTree, SummandTrees, MultiplierTrees, DesigTree, SelectorTrees, ExprTrees, ActualTrees}
use Rattle.pfc_tree.specs.trees.Stmts.{StmtTree, StmtTrees, ArmTrees, CommTree}
use Rattle.pfc_types.specs.declared.types.TypeId.{TypeId}
use Rattle.pfc_types.specs.declared.heads.Formal.{Formal}
use Rattle.pfc_types.specs.rules.Expressions.{Env}
use Rattle.pfc_semantics.specs.Values.{Value}
use Rattle.pfc_semantics.specs.Displays.{Spot, TypedSpot}
use Rattle.pfc_semantics.specs.Predeclared.{Function}

-- what is known where a phrase stands: the names in view, and the line of its statement
pub record Context : Type 0 where
  pub env : Env
  pub line : ℕ

-- ## Pieces of remainders

-- a running `for`: its line, the number of the next scope in its statement, its variable, the value that is kept and the last one, whether it
-- counts down, and its statement
pub record Count : Type 0 where
  pub line : ℕ
  pub next : ℕ
  pub at : Spot
  pub kept : ℤ
  pub last : ℤ
  pub down : Bool
  pub pass : StmtTree

-- the write of a replicated alternative: its variable, the value, and the line of the select
pub record Replica : Type 0 where
  pub at : Spot
  pub value : ℤ
  pub line : ℕ

-- an accept: the number of the entry, the scope of its parameters, its statement, and the line of its `accept`
pub record Accepting : Type 0 where
  pub entry : ℕ
  pub scope : ℕ
  pub stmt : StmtTree
  pub line : ℕ

-- what an open alternative, or a plain communication, waits to do
pub data Offer : Type 0 where
  -- to send a value on a channel
  to_send : Spot → Value → Offer
  -- to receive from a channel into a variable; over a channel of `synchronous` into none
  to_receive : Spot → Option Spot → Offer
  to_accept : Accepting → Offer
  -- to wait so many seconds at most, or to terminate
  to_wait : ℤ → Offer
  to_end : Offer

-- An alternative that is open, with its replica where it is replicated, and the statements behind it, whose next scope has this number. A plain
-- `!`, `?` or `accept` is one without statements.
pub record Open : Type 0 where
  pub offer : Offer
  pub replica : Option Replica
  pub next : ℕ
  pub stmts : StmtTrees

-- an alternative that is not yet gone through: one of the text, or one value of a replicated one. The number is that of its next scope.
pub record Alternative : Type 0 where
  pub replica : Option Replica
  pub guard : Option ExprTree
  pub comm : CommTree
  pub next : ℕ
  pub stmts : StmtTrees

-- the statements behind `else`
pub record Otherwise : Type 0 where
  pub next : ℕ
  pub stmts : StmtTrees

-- a select: whether it is `pri`, the alternatives that were found open so far, in the order of the text, and its `else` part
pub record Selecting : Type 0 where
  pub pri : Bool
  pub offered : List Open
  pub otherwise : Option Otherwise

-- a guard of a resource, with the number of its procedure, the names in view in it, and the line of its `when`
pub record Bar : Type 0 where
  pub resource : ℕ
  pub procedure : ℕ
  pub context : Context
  pub test : ExprTree

-- what comes behind a scan: to leave the resource, or to try the guard of the procedure to which the process has requeued
pub data Way : Type 0 where
  leave : Way
  own : Bar → Way

-- a scan of the barred processes of a resource past a ticket, with the line of the resource's final `end`
pub record Scan : Type 0 where
  pub resource : ℕ
  pub line : ℕ
  pub after : Option ℕ
  pub way : Way

-- a barred process whose guard a scan tries, with its ticket
pub record Tried : Type 0 where
  pub process : ℕ
  pub ticket : ℕ
  pub bar : Bar

-- an argument: a value, or the variable for which a reference parameter is to stand
pub data Argument : Type 0 where
  by_value : Value → Argument
  by_reference : Spot → Argument

-- ## Remainders

mutual
  -- what is left behind a statement
  pub data Remainder : Type 0 where
    -- nothing: the end of a body, whose `end` has this line
    ends : ℕ → Remainder
    -- these statements, whose next scope of the text has this number
    perform : ℕ → StmtTrees → Remainder → Remainder
    -- from here on these names are in view
    in_names : Env → Remainder → Remainder
    -- the way back to a loop
    turn : ℕ → StmtTree → Remainder → Remainder
    -- the test of `repeat ss until e`, whose statements are done
    until : ℕ → StmtTrees → ExprTree → Place → Remainder → Remainder
    -- a `for` behind its statement
    behind_pass : Count → Remainder → Remainder
    -- a `for` whose next value is to be written
    next_pass : Count → Remainder → Remainder
    -- the items of a `write` that are left, and whether it is a `writeln`
    write_on : ℕ → ActualTrees → Bool → Remainder → Remainder
    -- the variables of a `read` that are left, and whether it is a `readln`
    read_on : ℕ → ActualTrees → Bool → Remainder → Remainder
    -- the `coend` with this line
    at_coend : ℕ → Remainder → Remainder
    -- the end of an accept with this line, whose caller is a process
    part_from : ℕ → ℕ → Remainder → Remainder
    -- the write of a replicated alternative that was chosen
    write_again : Replica → Remainder → Remainder
    -- a select at an alternative whose replica was written, with the alternatives behind it
    go_through : ℕ → Alternative → List Alternative → Selecting → Remainder → Remainder
    -- the guard of the own procedure
    try_guard : Bar → Remainder → Remainder
    -- the next turn of a scan, and the guard that it found
    scan_on : Scan → Remainder → Remainder
    try_other : Tried → Scan → Remainder → Remainder

  -- what waits for a value
  pub data AwaitsValue : Type 0 where
    -- the first term of a sum, with its sign and the terms behind it
    begin_sum : Option (Sign × Place) → SummandTrees → AwaitsValue → AwaitsValue
    -- the right operand, with the left one and the terms behind both
    add_to : ℤ → AddOp → SummandTrees → AwaitsValue → AwaitsValue
    begin_product : MultiplierTrees → AwaitsValue → AwaitsValue
    multiply_by : ℤ → MulOp → MultiplierTrees → AwaitsValue → AwaitsValue
    -- the left side of a relation, with the right one; then the right side
    compare_with : Relation → SimpleTree → AwaitsValue → AwaitsValue
    compare_to : ℤ → Relation → AwaitsValue → AwaitsValue
    invert : AwaitsValue → AwaitsValue
    -- the argument of a function, and its type
    apply : Function → Option TypeId → AwaitsValue → AwaitsValue
    -- an index, with the part that it leads into, and the indices and selectors behind it
    index_into : TypedSpot → ExprTrees → SelectorTrees → AwaitsLocation → AwaitsValue
    -- an argument by value, with the parameters and the arguments behind it, those before it, and what is called
    pass_value : List Formal → ActualTrees → List Argument → Call → AwaitsValue
    -- the value of an assignment
    store_at : Spot → Remainder → AwaitsValue
    -- the test of an `if`, with both branches
    choose : ℕ → StmtTree → StmtTree → Remainder → AwaitsValue
    -- the value of a `case`
    choose_arm : ℕ → ArmTrees → Remainder → AwaitsValue
    -- the test of `while e do s`
    while_true : ℕ → ExprTree → StmtTree → Place → Remainder → AwaitsValue
    -- the test of `repeat ss until e`
    until_true : ℕ → StmtTrees → ExprTree → Place → Remainder → AwaitsValue
    -- the first bound of a `for`, with the second and the statement; then the second
    count_from : ℕ → Spot → Bool → ExprTree → StmtTree → Remainder → AwaitsValue
    count_to : ℕ → Spot → ℤ → Bool → StmtTree → Remainder → AwaitsValue
    -- an item of a `write`, of this type; with its width where it has one
    show : Option TypeId → Remainder → AwaitsValue
    show_wide : Option TypeId → ExprTree → Remainder → AwaitsValue
    -- the width of these bytes
    pad : List ℕ → Remainder → AwaitsValue
    -- the count of `initial`, the rank of `delay`, the seconds of `sleep`
    set_count : Spot → Remainder → AwaitsValue
    delay_with : Spot → Remainder → AwaitsValue
    sleep_for : Remainder → AwaitsValue
    -- the message to a channel
    send_on : Spot → Remainder → AwaitsValue
    -- in a select: the guard of an alternative, its message, its seconds
    open_if : Alternative → List Alternative → Selecting → Remainder → AwaitsValue
    offer_value : Spot → Alternative → List Alternative → Selecting → Remainder → AwaitsValue
    offer_wait : Alternative → List Alternative → Selecting → Remainder → AwaitsValue
    -- the own guard, and that of a barred process
    pass_own : Bar → Remainder → AwaitsValue
    pass_other : Tried → Scan → Remainder → AwaitsValue

  -- what waits for a location
  pub data AwaitsLocation : Type 0 where
    -- a variable in an expression
    read_for : AwaitsValue → AwaitsLocation
    -- the target of an assignment, with its value
    assign_to : ExprTree → Remainder → AwaitsLocation
    -- a variable that is read, of this type
    input_to : Option TypeId → Remainder → AwaitsLocation
    -- an argument for a reference
    pass_variable : List Formal → ActualTrees → List Argument → Call → AwaitsLocation
    -- the condition of `empty`
    ask_empty : AwaitsValue → AwaitsLocation
    -- a process that is activated, with its parameters and arguments; one whose entry is called
    activate_with : List Formal → ActualTrees → Remainder → AwaitsLocation
    enter_with : ℕ → List Formal → ActualTrees → Remainder → AwaitsLocation
    -- the semaphore of `initial` with its count, of `wait` and of `signal`
    initial_to : ExprTree → Remainder → AwaitsLocation
    wait_at : Remainder → AwaitsLocation
    signal_at : Remainder → AwaitsLocation
    -- the condition of `delay`, with its rank where one is given, and of `resume`
    delay_at : Option ExprTree → Remainder → AwaitsLocation
    resume_at : Remainder → AwaitsLocation
    -- the channel of `c ! e`, with its message unless that is `any`; of `c ? v`, with its variable unless that is `any`; then that variable
    send_to : Option ExprTree → Remainder → AwaitsLocation
    receive_from : Option DesigTree → Remainder → AwaitsLocation
    receive_into : Spot → Remainder → AwaitsLocation
    -- the same in a select
    offer_to : Option ExprTree → Alternative → List Alternative → Selecting → Remainder → AwaitsLocation
    offer_from : Option DesigTree → Alternative → List Alternative → Selecting → Remainder → AwaitsLocation
    offer_into : Spot → Alternative → List Alternative → Selecting → Remainder → AwaitsLocation

  -- what is called, and what waits for its end
  pub data Call : Type 0 where
    -- a procedure, by its scope
    to_procedure : ℕ → Remainder → Call
    to_function : ℕ → AwaitsValue → Call
    -- an exported procedure, from outside its module
    to_module : ℕ → ℕ → Remainder → Call
    -- the guarded procedure to which a process requeues
    to_requeue : ℕ → Call
    -- a process that is activated
    to_process : Spot → Remainder → Call
    -- an entry of a process, by its number there
    to_entry : Spot → ℕ → Remainder → Call

-- ## Actions

-- What a process does next: one action, with what is left behind it. Each carries the names in view and its line.
pub data Action : Type 0 where
  -- a read and a write of a variable or of a part of one, whole
  reads : Context → Spot → AwaitsValue → Action
  writes : Context → Spot → Value → Remainder → Action
  -- the way back of a loop
  turns : Context → Remainder → Action
  -- a call of any kind, with its arguments
  calls : Context → Call → List Argument → Action
  -- the end of a body: a return, or the end of the process
  finishes : ℕ → Action
  -- an output piece
  prints : Context → List ℕ → Remainder → Action
  -- an input item for a variable of this type
  inputs : Context → Option TypeId → Spot → Remainder → Action
  -- the skip of a `readln`
  skips : Context → Remainder → Action
  asks_eof : Context → AwaitsValue → Action
  asks_eoln : Context → AwaitsValue → Action
  asks_clock : Context → AwaitsValue → Action
  asks_empty : Context → Spot → AwaitsValue → Action
  draws : Context → ℤ → AwaitsValue → Action
  -- the wait at `coend`
  joins : Context → Remainder → Action
  initials : Context → Spot → ℤ → Remainder → Action
  waits : Context → Spot → Remainder → Action
  signals : Context → Spot → Remainder → Action
  delays : Context → Spot → ℤ → Remainder → Action
  resumes : Context → Spot → Remainder → Action
  sleeps : Context → ℤ → Remainder → Action
  -- a plain `!`, `?` or `accept`
  meets : Context → Open → Remainder → Action
  -- the deciding action of a select
  decides : Context → Selecting → Remainder → Action
  -- the end of an accept
  parts : Context → ℕ → Remainder → Action
  -- a turn of a scan; a false guard of the own procedure; a true guard of a barred process
  scans : Context → Scan → Remainder → Action
  bars : Context → Bar → Remainder → Action
  passes : Context → Tried → Scan → Remainder → Action
  faults : Context → RunFault → Action
