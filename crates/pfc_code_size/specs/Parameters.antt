-- The parameters of what a name in an expression calls.
use Rattle.std.specs.Prelude.{List, [], Option, Some}
use Rattle.pfc_types.specs.Blocks.{Blocks, sub_at}
use Rattle.pfc_types.specs.declared.scope.Meaning.{Meaning}
use Rattle.pfc_types.specs.declared.scope.Meaning.TheVariants.{Sub}
use Rattle.pfc_types.specs.declared.heads.Formal.{Formal}

-- those of a sub; any other has none
abbrev pub formals_of : Blocks → Option Meaning → List Formal
formals_of b (Some (Sub n)) = (sub_at b n).formals
formals_of b m = []
