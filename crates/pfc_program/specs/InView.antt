-- The names in view at a place, without the tables.
use Rattle.std.specs.Prelude.{List}
use Rattle.pfc_types.specs.Scopes.{Level}
use Rattle.pfc_types.specs.declared.view.Around.{Around}

pub record InView : Type 0 where
  -- the levels, innermost first
  pub view : List Level
  -- what the tree around says of the place
  pub around : Around
