-- The names whose variables are main's.
use Rattle.std.specs.Prelude.{◌≡◌, false}
use Rattle.std.specs.List.{All}
use Rattle.pfc_types.specs.Types.{Forms, held_of}
use Rattle.pfc_types.specs.Scopes.{scope_at}
use Rattle.pfc_types.specs.Blocks.{State, module_at}
use Rattle.pfc_types.specs.declared.scope.Meaning.{Meaning}
use Rattle.pfc_types.specs.declared.scope.Meaning.TheVariants.{Variable, Module, Process}

-- A name of a module: a variable is no reference and holds no process, and no process is declared there.
abbrev pub IsOfModule : Forms → Meaning → Type 0
IsOfModule forms (Variable t reference) = (reference ≡ false) × ((held_of forms t).processes ≡ 0)
IsOfModule forms (Process n) = ⊥
IsOfModule forms m = Unit {0}

-- A name of the program: a variable is no reference, and the names of a module are as they are to be.
abbrev pub IsOfMain : State → Meaning → Type 0
IsOfMain s (Variable t reference) = reference ≡ false
IsOfMain s (Module n) = All (λ x. IsOfModule s.forms x.1) (scope_at s.blocks.scopes (module_at s.blocks n).scope)
IsOfMain s m = Unit {0}

abbrev pub AreOfMain : State → Type 0
AreOfMain s = All (λ x. IsOfMain s x.1) (scope_at s.blocks.scopes 0)
