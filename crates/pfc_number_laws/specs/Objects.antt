-- How many objects there are.
use Rattle.std.specs.Prelude.{◌≤◌, length}
use Rattle.pfc_semantics.specs.Objects.{Objects}

-- the number of each object has 32 bits
pub record AreFew (o : Objects) : Type 0 where
  pub semaphores : o.semaphores ≤ 2147483647
  pub channels : o.channels ≤ 2147483647
  pub conditions : length o.conditions ≤ 2147483647
  pub processes : length o.processes ≤ 2147483647
