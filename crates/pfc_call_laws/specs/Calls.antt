-- Activations that begin, and blocks of which no variable holds an object.
use Rattle.std.specs.Prelude.{ℕ, ◌≡◌, false, List, Option, Some}
use Rattle.std.specs.List.{slice_get}
use Rattle.pfc_types.specs.declared.types.TypeId.{TypeId}
use Rattle.pfc_types.specs.declared.scope.Meaning.{Meaning}
use Rattle.pfc_semantics.specs.Programs.{Block, Program}
use Rattle.pfc_translation.specs.Sites.{is_reference}
use Rattle.pfc_cells.specs.Shapes.{IsPath}
use Rattle.pfc_cells.specs.Homes.{Home, laid_type}
use Rattle.pfc_standing_code.specs.Shapes.{is_object_type}

-- no part of a variable of the block is an object: those are main's
abbrev pub HasNoObjects : Program → Block → Type 0
HasNoObjects g b =
    (k : ℕ) (m : Meaning) (path : List ℕ) (t : Option TypeId) (o : ℕ) → slice_get b.layout k ≡ Some m → is_reference m ≡ false
    → IsPath g.state.forms (laid_type m) path t o → is_object_type g.state.forms t ≡ false

-- the home of an activation of the block with scope i, over so many cells of process p
abbrev pub home_at : ℕ → ℕ → ℕ → Home
home_at p cells i = record { process = p; cell = cells; scope = i }

abbrev pub first_home : ℕ → ℕ → Home
first_home p i = home_at p 0 i
