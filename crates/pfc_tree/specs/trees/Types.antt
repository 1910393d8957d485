-- Types and groups of parameters with their places, as plain values. A constant, a range and an item of `const` hold no
-- list and no box, and are plain already.
use Rattle.std.specs.Prelude.{Bool, List}
use Rattle.pfc_base.specs.declared.places.Place.{Place}
use Rattle.pfc_tree.specs.Symbols.{Text}
use Rattle.pfc_tree.specs.declared.tree.Range.{Range}

mutual
  -- a type
  pub data TypeTree : Type 0 where
    -- integer
    named : Text → Place → TypeTree
    -- channel of integer
    channel : TypeTree → Place → TypeTree
    -- array [1..9, char] of integer
    array : List Range → TypeTree → Place → TypeTree
    -- record x, y: integer; end, with whether its last `;` stands
    fields : VarTrees → Bool → Place → TypeTree

  -- a group of variables or fields
  pub data VarTree : Type 0 where
    -- i, j: integer
    var_item : List (Text × Place) → TypeTree → VarTree

  -- groups of variables or fields
  pub data VarTrees : Type 0 where
    no_vars : VarTrees
    more_vars : VarTree → VarTrees → VarTrees

-- t = integer;
pub record TypeItemTree : Type 0 where
  pub name : Text
  pub form : TypeTree
  pub place : Place

-- var a, b: integer
pub record GroupTree : Type 0 where
  pub reference : Bool
  pub names : List (Text × Place)
  pub form : Text × Place
