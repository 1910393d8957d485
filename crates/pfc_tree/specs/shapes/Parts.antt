-- Parts and programs without places.
use Rattle.std.specs.Prelude.{Bool, Option, List}
use Rattle.pfc_tree.specs.Symbols.{Text}
use Rattle.pfc_tree.specs.shapes.Exprs.{ExprShape}
use Rattle.pfc_tree.specs.shapes.Types.{VarShapes, ConstItemShape, TypeItemShape, GroupShape}
use Rattle.pfc_tree.specs.shapes.Stmts.{BodyShape}

-- what a sub is
pub data KindShape : Type 0 where
  procedure : KindShape
  -- with the name of the result's type
  function : Text → KindShape
  -- with its guard
  guarded : ExprShape → KindShape

-- entry e (n: integer);
pub record EntryShape : Type 0 where
  pub name : Text
  pub formals : List GroupShape

mutual
  -- a part
  pub data PartShape : Type 0 where
    -- const a = 1;
    consts : List ConstItemShape → PartShape
    -- type t = integer;
    types : List TypeItemShape → PartShape
    -- var i: integer;
    vars : VarShapes → PartShape
    -- a procedure, a function or a guarded procedure
    sub_part : SubShape → PartShape
    -- monitor m; end;
    monitor : ModuleShape → PartShape
    -- resource r; end;
    resource : ModuleShape → PartShape
    -- process p; begin end;
    process_part : ProcessShape → PartShape

  -- parts
  pub data PartShapes : Type 0 where
    no_parts : PartShapes
    more_parts : PartShape → PartShapes → PartShapes

  -- a sub
  pub data SubShape : Type 0 where
    -- name, parameters, kind, parts and body
    sub : Text → List GroupShape → KindShape → PartShapes → BodyShape → SubShape

  -- a monitor or a resource
  pub data ModuleShape : Type 0 where
    -- name, exports, parts and perhaps a body
    the_module : Text → List (List Text) → PartShapes → Option BodyShape → ModuleShape

  -- a process
  pub data ProcessShape : Type 0 where
    -- whether it is a type, name, parameters, entries, parts and body
    process : Bool → Text → List GroupShape → List EntryShape → PartShapes → BodyShape → ProcessShape

-- a program
pub record ProgramShape : Type 0 where
  pub name : Text
  pub params : List Text
  pub parts : PartShapes
  pub body : BodyShape
