-- What may be declared where.
use Rattle.std.specs.Prelude.{◌≡◌, true, false}
use Rattle.pfc_types.specs.Types.{Forms, held_of}
use Rattle.pfc_types.specs.declared.scope.Meaning.{Meaning}
use Rattle.pfc_types.specs.declared.scope.Meaning.TheVariants.{Variable, Module, Process}
use Rattle.pfc_types.specs.rules.Declarations.{Owner, may_share, may_wait}

-- Of the names that are declared directly in such a block a variable is no reference, holds processes in the program alone, and conditions in a monitor alone;
-- and processes and modules are the program's.
abbrev pub IsOfOwner : Owner → Forms → Meaning → Type 0
IsOfOwner owner forms (Variable t reference) =
    (reference ≡ false) × (may_share owner ≡ false → (held_of forms t).processes ≡ 0) × (may_wait owner ≡ false → (held_of forms t).conditions ≡ false)
IsOfOwner owner forms (Process n) = may_share owner ≡ true
IsOfOwner owner forms (Module n) = may_share owner ≡ true
IsOfOwner owner forms m = Unit {0}
