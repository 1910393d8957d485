-- Where the parts of a block stand, as the definitions of the rules know it.
use Rattle.std.specs.Prelude.{List, [], Option, Some, None}
use Rattle.std.specs.Borrow.{Bor}
use Rattle.pfc_types.specs.Scopes.{Level}
use Rattle.pfc_types.specs.Blocks.{State}
use Rattle.pfc_types.specs.Views.{levels}
use Rattle.pfc_types.specs.declared.view.View.{View}
use Rattle.pfc_rules.specs.declared.bodies.Home.{Home}

-- the finished declarations
abbrev pub finished_in : Home → State
finished_in home = record { forms = home.types.now; blocks = home.scopes.now }

-- what is in view around a block, innermost first
abbrev pub levels_around : Option (Bor View) → List Level
levels_around None = []
levels_around (Some view) = levels view.now
