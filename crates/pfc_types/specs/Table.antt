-- What the table of types keeps beside the types: what a variable of each takes and holds.
use Rattle.std.specs.Prelude.{◌≡◌, ◌<◌, ◌≤◌, ◌^◌, List, length, All}
use Rattle.pfc_types.specs.Types.{Forms, all_held}
use Rattle.pfc_types.specs.declared.table.Held.{Held}

-- no more than a type of the table may have
pub record IsSmall (held : Held) : Type 0 where
  pub cells : held.cells ≤ 65536
  pub processes : held.processes ≤ 1024

pub record AreHeld (forms : Forms) (rows : List Held) : Type 0 where
  pub same : rows ≡ all_held forms
  pub small : All IsSmall rows
  pub room : length forms < 2 ^ 32
