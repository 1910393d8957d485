-- Statements without places.
use Rattle.std.specs.Prelude.{Bool, Option, List}
use Rattle.pfc_tree.specs.Symbols.{Text}
use Rattle.pfc_tree.specs.shapes.Exprs.{ExprShape, DesigShape, ActualShapes}
use Rattle.pfc_tree.specs.shapes.Types.{GroupShape, ConstantShape}

-- for k := 1 to 3 replicate
pub record SpreadShape : Type 0 where
  pub name : Text
  pub low : ConstantShape
  pub high : ConstantShape

mutual
  -- a statement
  pub data StmtShape : Type 0 where
    empty : StmtShape
    -- null
    null : StmtShape
    -- begin x := 1 end
    block : BodyShape → StmtShape
    -- if b then x := 1
    if_then : ExprShape → StmtShape → StmtShape
    -- if b then x := 1 else x := 2
    if_then_else : ExprShape → StmtShape → StmtShape → StmtShape
    -- case n of 1: x := 1; end, with whether its last `;` stands
    case_of : ExprShape → ArmShapes → Bool → StmtShape
    -- while b do x := 1
    while_do : ExprShape → StmtShape → StmtShape
    -- repeat x := 1 until b
    repeat_until : StmtShapes → ExprShape → StmtShape
    -- repeat x := 1 forever
    repeat_forever : StmtShapes → StmtShape
    -- for i := 1 to 9 do x := 1, or with downto
    for_do : Text → ExprShape → Bool → ExprShape → StmtShape → StmtShape
    -- cobegin p; q coend
    cobegin : StmtShapes → StmtShape
    -- accept e (n: integer) do x := n
    accepting : AcceptShape → StmtShape
    -- requeue p (1)
    requeue : Text → ActualShapes → StmtShape
    -- select c ? n or terminate end, or with pri
    select : Bool → AltShapes → StmtShape
    -- select c ? n else x := 1 end, or with pri
    select_else : Bool → AltShapes → StmtShapes → StmtShape
    -- x := 1
    assign : DesigShape → ExprShape → StmtShape
    -- c ! 1
    send : DesigShape → ExprShape → StmtShape
    -- c ? x
    receive : DesigShape → DesigShape → StmtShape
    -- p (1, 2)
    call : DesigShape → ActualShapes → StmtShape

  -- statements
  pub data StmtShapes : Type 0 where
    no_stmts : StmtShapes
    more_stmts : StmtShape → StmtShapes → StmtShapes

  -- a body
  pub data BodyShape : Type 0 where
    -- begin x := 1; y := 2 end
    body : StmtShapes → BodyShape

  -- an arm of a case
  pub data ArmShape : Type 0 where
    -- 1, 2: x := 1
    arm : List ConstantShape → StmtShape → ArmShape

  -- arms
  pub data ArmShapes : Type 0 where
    no_arms : ArmShapes
    more_arms : ArmShape → ArmShapes → ArmShapes

  -- what stands behind accept
  pub data AcceptShape : Type 0 where
    -- e (n: integer)
    accept : Text → List GroupShape → AcceptShape
    -- e (n: integer) do x := n
    accept_do : Text → List GroupShape → StmtShape → AcceptShape

  -- an alternative
  pub data AltShape : Type 0 where
    -- for k := 1 to 3 replicate when b => c[k] ? x; y := 1
    alt : Option SpreadShape → Option ExprShape → CommShape → StmtShapes → AltShape

  -- alternatives
  pub data AltShapes : Type 0 where
    no_alts : AltShapes
    more_alts : AltShape → AltShapes → AltShapes

  -- what an alternative waits for
  pub data CommShape : Type 0 where
    -- accept e
    comm_accept : AcceptShape → CommShape
    -- c ! 1
    comm_send : DesigShape → ExprShape → CommShape
    -- c ? x
    comm_receive : DesigShape → DesigShape → CommShape
    -- timeout 10
    timeout : ExprShape → CommShape
    -- terminate
    terminate : CommShape
