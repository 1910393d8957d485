-- Want of memory.
use Rattle.std.proofs.Common.{Bool, true, false, Result, Ok, Err, refl}
use Rattle.pfc_machines.specs.declared.actions.ActionFault.{ActionFault}
use Rattle.pfc_machines.specs.declared.actions.ActionFault.TheVariants.{Fault, Memory}
use Rattle.pfc_machine_acts.specs.Performing.{WantsMemoryIf}

pub may_want : (result : Result Unit ActionFault) → WantsMemoryIf true result
may_want (Ok u) = tt
may_want (Err (Fault f)) = tt
may_want (Err Memory) = refl

-- what wants none, whatever else it may do
pub wants_none : (may : Bool) (result : Result Unit ActionFault) → WantsMemoryIf false result → WantsMemoryIf may result
wants_none may (Ok u) h = tt
wants_none may (Err (Fault f)) h = tt
wants_none may (Err Memory) h = absurd cc
