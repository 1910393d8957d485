-- The numbers of the simple types.
use Rattle.std.specs.Prelude.{ℕ, ◌==◌, if◌then◌else◌}
use Rattle.pfc_values.specs.declared.simple.Simple.{Simple}
use Rattle.pfc_values.specs.declared.simple.Simple.TheVariants.{Integer, Boolean, Char}

-- the simple type with a number
abbrev pub simple_of : ℕ → Simple
simple_of k = if k == 0 then Integer else if k == 1 then Boolean else Char
