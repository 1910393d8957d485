-- Parts and programs with their places, as plain values.
use Rattle.std.specs.Prelude.{Bool, Option, List}
use Rattle.pfc_base.specs.declared.places.Place.{Place}
use Rattle.pfc_tree.specs.Symbols.{Text}
use Rattle.pfc_tree.specs.declared.tree.ConstItem.{ConstItem}
use Rattle.pfc_tree.specs.trees.Exprs.{ExprTree}
use Rattle.pfc_tree.specs.trees.Types.{VarTrees, TypeItemTree, GroupTree}
use Rattle.pfc_tree.specs.trees.Stmts.{BodyTree}

-- what a sub is
pub data KindTree : Type 0 where
  procedure : KindTree
  -- with the name of the result's type
  function : Text → Place → KindTree
  -- with its guard and the place of `when`
  guarded : ExprTree → Place → KindTree

-- entry e (n: integer);
pub record EntryTree : Type 0 where
  pub name : Text
  pub formals : List GroupTree
  pub place : Place

mutual
  -- a part
  pub data PartTree : Type 0 where
    -- const a = 1;
    consts : List ConstItem → PartTree
    -- type t = integer;
    types : List TypeItemTree → PartTree
    -- var i: integer;
    vars : VarTrees → PartTree
    -- a procedure, a function or a guarded procedure
    sub_part : SubTree → PartTree
    -- monitor m; end;
    monitor : ModuleTree → PartTree
    -- resource r; end;
    resource : ModuleTree → PartTree
    -- process p; begin end;
    process_part : ProcessTree → PartTree

  -- parts
  pub data PartTrees : Type 0 where
    no_parts : PartTrees
    more_parts : PartTree → PartTrees → PartTrees

  -- a sub
  pub data SubTree : Type 0 where
    -- name, parameters, kind, parts and body
    sub : Text → List GroupTree → KindTree → PartTrees → BodyTree → Place → SubTree

  -- a monitor or a resource
  pub data ModuleTree : Type 0 where
    -- name, exports, parts and perhaps a body
    the_module : Text → List (List (Text × Place)) → PartTrees → Option BodyTree → Place → Place → ModuleTree

  -- a process
  pub data ProcessTree : Type 0 where
    -- whether it is a type, name, parameters, entries, parts and body
    process : Bool → Text → List GroupTree → List EntryTree → PartTrees → BodyTree → Place → ProcessTree

-- a program
pub record ProgramTree : Type 0 where
  pub name : Text × Place
  pub params : List (Text × Place)
  pub parts : PartTrees
  pub body : BodyTree
  pub place : Place
