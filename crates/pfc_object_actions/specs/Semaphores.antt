-- Semaphores.
use Rattle.std.specs.Prelude.{ℕ, if◌then◌else◌, Ok, Err}
use Rattle.pfc_base.specs.declared.faults.RunFault.TheVariants.{Negative, Count}
use Rattle.pfc_stacks.specs.Stacks.{operand, operands_of}
use Rattle.pfc_world.specs.Semaphores.{Counted, counted, is_below_zero, initialised, waited, is_overfull, signalled}
use Rattle.pfc_machines.specs.declared.machine.Machine.{Machine}
use Rattle.pfc_machines.specs.Actions.{at_rest, Effect}
use Rattle.pfc_machines.specs.Quiet.{left_by}
use Rattle.pfc_object_actions.specs.Objects.{object_at}

-- the standings and the counts of a machine
abbrev pub semaphores_counted : Machine → Counted
semaphores_counted m = counted m.world m.semaphores

abbrev pub with_semaphores : Machine → Counted → Machine
with_semaphores m c = record m { world = c.table; semaphores = c.counts }

-- `SINI` sets the count of the semaphore below the top to the number on top; fault 10 where that is below 0.
abbrev pub initials : ℕ → Machine → Effect
initials p m =
    let n = operand (operands_of m.stacks p) 0 in
    if is_below_zero n then Err Negative else Ok (at_rest (record (left_by m p 2) { semaphores = initialised m.semaphores (object_at 1 p m) n }))

-- `SWAIT` lowers a positive count; at 0 the process waits.
abbrev pub waits : ℕ → Machine → Effect
waits p m = Ok (at_rest (with_semaphores (left_by m p 1) (waited (semaphores_counted m) p (object_at 0 p m))))

-- `SSIG` makes the first waiter ready and leaves the count. Without a waiter the count rises by 1; fault 11 where it cannot.
abbrev pub signals : ℕ → Machine → Effect
signals p m =
    let s = object_at 0 p m in
    if is_overfull (semaphores_counted m) s
    then Err Count
    else Ok (at_rest (with_semaphores (left_by m p 1) (signalled (semaphores_counted m) s)))
