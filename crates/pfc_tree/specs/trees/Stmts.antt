-- Statements with their places, as plain values. A spread holds no list and no box, and is plain already.
use Rattle.std.specs.Prelude.{Bool, Option, List}
use Rattle.pfc_base.specs.declared.places.Place.{Place}
use Rattle.pfc_tree.specs.Symbols.{Text}
use Rattle.pfc_tree.specs.declared.tree.Constant.{Constant}
use Rattle.pfc_tree.specs.declared.tree.Spread.{Spread}
use Rattle.pfc_tree.specs.trees.Exprs.{ExprTree, DesigTree, ActualTrees}
use Rattle.pfc_tree.specs.trees.Types.{GroupTree}

mutual
  -- a statement
  pub data StmtTree : Type 0 where
    empty : StmtTree
    -- null
    null : Place → StmtTree
    -- begin x := 1 end
    block : BodyTree → Place → StmtTree
    -- if b then x := 1
    if_then : ExprTree → StmtTree → Place → StmtTree
    -- if b then x := 1 else x := 2
    if_then_else : ExprTree → StmtTree → StmtTree → Place → StmtTree
    -- case n of 1: x := 1; end, with whether its last `;` stands
    case_of : ExprTree → ArmTrees → Bool → Place → StmtTree
    -- while b do x := 1
    while_do : ExprTree → StmtTree → Place → StmtTree
    -- repeat x := 1 until b
    repeat_until : StmtTrees → ExprTree → Place → StmtTree
    -- repeat x := 1 forever
    repeat_forever : StmtTrees → Place → StmtTree
    -- for i := 1 to 9 do x := 1, or with downto
    for_do : Text → ExprTree → Bool → ExprTree → StmtTree → Place → Place → StmtTree
    -- cobegin p; q coend
    cobegin : StmtTrees → Place → Place → StmtTree
    -- accept e (n: integer) do x := n
    accepting : AcceptTree → Place → StmtTree
    -- requeue p (1)
    requeue : (Text × Place) → ActualTrees → Place → StmtTree
    -- select c ? n or terminate end, or with pri
    select : Bool → AltTrees → Place → Place → StmtTree
    -- select c ? n else x := 1 end, or with pri
    select_else : Bool → AltTrees → StmtTrees → Place → Place → Place → StmtTree
    -- x := 1
    assign : DesigTree → ExprTree → Place → Place → StmtTree
    -- c ! 1
    send : DesigTree → ExprTree → Place → Place → StmtTree
    -- c ? x
    receive : DesigTree → DesigTree → Place → Place → StmtTree
    -- p (1, 2)
    call : DesigTree → ActualTrees → Place → StmtTree

  -- statements
  pub data StmtTrees : Type 0 where
    no_stmts : StmtTrees
    more_stmts : StmtTree → StmtTrees → StmtTrees

  -- a body
  pub data BodyTree : Type 0 where
    -- begin x := 1; y := 2 end
    body : StmtTrees → Place → Place → BodyTree

  -- an arm of a case
  pub data ArmTree : Type 0 where
    -- 1, 2: x := 1
    arm : List Constant → StmtTree → ArmTree

  -- arms
  pub data ArmTrees : Type 0 where
    no_arms : ArmTrees
    more_arms : ArmTree → ArmTrees → ArmTrees

  -- what stands behind accept
  pub data AcceptTree : Type 0 where
    -- e (n: integer)
    accept : Text → List GroupTree → Place → AcceptTree
    -- e (n: integer) do x := n
    accept_do : Text → List GroupTree → StmtTree → Place → AcceptTree

  -- an alternative
  pub data AltTree : Type 0 where
    -- for k := 1 to 3 replicate when b => c[k] ? x; y := 1
    alt : Option Spread → Option ExprTree → CommTree → StmtTrees → AltTree

  -- alternatives
  pub data AltTrees : Type 0 where
    no_alts : AltTrees
    more_alts : AltTree → AltTrees → AltTrees

  -- what an alternative waits for
  pub data CommTree : Type 0 where
    -- accept e
    comm_accept : AcceptTree → Place → CommTree
    -- c ! 1
    comm_send : DesigTree → ExprTree → Place → CommTree
    -- c ? x
    comm_receive : DesigTree → DesigTree → Place → CommTree
    -- timeout 10
    timeout : ExprTree → Place → CommTree
    -- terminate
    terminate : Place → CommTree
