-- What one name brings into a layout.
use Rattle.std.specs.Prelude.{if◌then◌else◌, [], ◌∷◌}
use Rattle.pfc_types.specs.declared.scope.Meaning.{Meaning}
use Rattle.pfc_semantics.specs.Layouts.{Layout, is_laid}

abbrev pub one_laid : Meaning → Layout
one_laid m = if is_laid m then m ∷ [] else []
