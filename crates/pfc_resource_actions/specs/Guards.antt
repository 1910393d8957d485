-- Guards by which a resource changes hands.
use Rattle.std.specs.Prelude.{ℕ, Bool, true, false, List, drop, set, Option, None, Some, Ok}
use Rattle.std.specs.List.{slice_get}
use Rattle.pfc_code.specs.declared.images.Block.{Block}
use Rattle.pfc_stacks.specs.Stacks.{stack_of, own_number, block_place}
use Rattle.pfc_world.specs.Resources.{barred, passed_to, requeued}
use Rattle.pfc_machines.specs.declared.descriptors.Scan.{Scan}
use Rattle.pfc_machines.specs.declared.machine.Machine.{Machine}
use Rattle.pfc_machines.specs.Actions.{at_rest, Effect}
use Rattle.pfc_machines.specs.Descriptors.{descriptor_of}
use Rattle.pfc_machines.specs.Quiet.{left_by}
use Rattle.pfc_call_actions.specs.Calls.{resources_held, with_resources}
use Rattle.pfc_resource_actions.specs.Scans.{scan_ended}

-- a guarded procedure goes on at its body behind its guard
abbrev pub body_in : Option Block → ℕ
body_in None = 0
body_in (Some b) = b.body

-- the procedure of the last activation of a process, by its number in the image
abbrev pub procedure_of : ℕ → Machine → ℕ
procedure_of p m = own_number (stack_of m.stacks p) block_place

-- Where the own guard is false, one action bars the process: it waits at that procedure, and the first entrant has the resource, else it is free.
abbrev pub bars : ℕ → ℕ → Machine → Machine
bars g p m = with_resources (left_by m p 1) (barred (resources_held m) p g (procedure_of p m))

-- the value of the guard is popped
abbrev pub guard_popped : ℕ → Machine → Machine
guard_popped p m = let s = stack_of m.stacks p in record m { stacks = set m.stacks p (record s { operands = drop 1 s.operands }) }

-- Where the guard of another is true, one action passes the resource to that one, which is ready at its body. Behind a return the process that
-- scanned goes on; behind a requeue it is barred, in the same action, at the procedure to which it has requeued.
abbrev pub passes_where : Bool → List Block → Scan → ℕ → ℕ → ℕ → Machine → Machine
passes_where false blocks s q g p m =
    with_resources (scan_ended s.back p (guard_popped p m)) (passed_to (resources_held m) g q)
passes_where true blocks s q g p m =
    let k = procedure_of p m in
    with_resources (scan_ended (body_in (slice_get blocks k)) p (guard_popped p m)) (requeued (resources_held m) p g k q)

abbrev pub passes : List Block → Scan → ℕ → ℕ → ℕ → Machine → Machine
passes blocks s q g p m = passes_where s.requeued blocks s q g p m

-- whose guard it was: that of another, in a scan, or its own
abbrev pub guarded_by : List Block → Scan → Option ℕ → ℕ → ℕ → Machine → Machine
guarded_by blocks s None g p m = bars g p m
guarded_by blocks s (Some q) g p m = passes blocks s q g p m

abbrev pub guarded_in : List Block → Option Scan → ℕ → ℕ → Machine → Machine
guarded_in blocks None g p m = bars g p m
guarded_in blocks (Some s) g p m = guarded_by blocks s s.tried g p m

-- `GRD` where it is an action
abbrev pub guards : List Block → ℕ → ℕ → Machine → Effect
guards blocks g p m = Ok (at_rest (guarded_in blocks (descriptor_of m.descriptors p).scan g p m))
