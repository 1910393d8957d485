-- Items as they are read at the front of bytes.
use Rattle.std.specs.Prelude.{ℕ, List, drop, Result, Ok, Err}
use Rattle.pfc_base.specs.declared.faults.RunFault.{RunFault}
use Rattle.pfc_values.specs.declared.items.Reading.{Reading}
use Rattle.pfc_values.specs.Inputs.{Item}

-- the item that was read at the front of these bytes
abbrev pub read_of : List ℕ → Result Reading RunFault → Result Item RunFault
read_of bytes (Ok r) = Ok (record { value = r.value; left = drop r.passed bytes })
read_of bytes (Err f) = Err f
