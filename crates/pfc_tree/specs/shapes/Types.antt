-- Constants, types and groups of parameters without places.
use Rattle.std.specs.Prelude.{ℤ, Bool, Option, List}
use Rattle.pfc_tree.specs.Symbols.{Text}
use Rattle.pfc_tree.specs.declared.tree.Sign.{Sign}

-- a constant
pub data ConstantShape : Type 0 where
  -- -10
  number : Option Sign → ℤ → ConstantShape
  -- -size
  constant : Option Sign → Text → ConstantShape
  -- 'a'
  literal : Text → ConstantShape

-- 1..9
pub record RangeShape : Type 0 where
  pub low : ConstantShape
  pub high : ConstantShape

-- a = 1;
pub record ConstItemShape : Type 0 where
  pub name : Text
  pub value : ConstantShape

mutual
  -- a type
  pub data TypeShape : Type 0 where
    -- integer
    named : Text → TypeShape
    -- channel of integer
    channel : TypeShape → TypeShape
    -- array [1..9, char] of integer
    array : List RangeShape → TypeShape → TypeShape
    -- record x, y: integer; end, with whether its last `;` stands
    fields : VarShapes → Bool → TypeShape

  -- a group of variables or fields
  pub data VarShape : Type 0 where
    -- i, j: integer
    var_item : List Text → TypeShape → VarShape

  -- groups of variables or fields
  pub data VarShapes : Type 0 where
    no_vars : VarShapes
    more_vars : VarShape → VarShapes → VarShapes

-- t = integer;
pub record TypeItemShape : Type 0 where
  pub name : Text
  pub form : TypeShape

-- var a, b: integer
pub record GroupShape : Type 0 where
  pub reference : Bool
  pub names : List Text
  pub form : Text
