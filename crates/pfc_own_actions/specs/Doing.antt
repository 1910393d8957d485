-- Actions that touch no object: input, draws, time, the wait at `coend`, and the end of a process.
use Rattle.std.specs.Prelude.{ℕ, ◌+◌, ◌*◌, ◌/◌, ◌==◌, nat_le, ℤ, pos, negsuc, if◌then◌else◌, List, [], ◌∷◌, drop, Option, None, Some, Result, Ok, Err}
use Rattle.rand_pcg.specs.Lcg.{Lcg}
use Rattle.pfc_base.specs.declared.faults.RunFault.{RunFault}
use Rattle.pfc_base.specs.declared.faults.RunFault.TheVariants.{Below, Late}
use Rattle.pfc_sched.specs.Draws.{drawn, after_draw}
use Rattle.pfc_stacks.specs.Effects.{passed}
use Rattle.pfc_stacks.specs.Refs.{ref_of}
use Rattle.pfc_stacks.specs.Stacks.{operand, operands_of, written}
use Rattle.pfc_state.specs.declared.waits.Why.TheVariants.{Coend, Sleep}
use Rattle.pfc_values.specs.declared.simple.Simple.{Simple}
use Rattle.pfc_values.specs.Inputs.{Item, item, skipped, at_end, at_line_end}
use Rattle.pfc_values.specs.Numbers.{Outcome, fitting, truth}
use Rattle.pfc_world.specs.Tables.{Table, some_created}
use Rattle.pfc_world.specs.Transitions.{rested, blocked, all_started, finished}
use Rattle.pfc_machines.specs.declared.machine.Machine.{Machine}
use Rattle.pfc_machines.specs.Actions.{at_rest, Effect}
use Rattle.pfc_machines.specs.Quiet.{left_by}

-- the process has popped so many operands, pushed a word and gone on
abbrev pub left_with : Machine → ℕ → ℕ → ℤ → Machine
left_with m p n v = record m { stacks = passed m.stacks p (v ∷ drop n (operands_of m.stacks p)) }

-- ## Input

-- an item is written at the address on top
abbrev pub read_to : Machine → ℕ → Result Item RunFault → Effect
read_to m p (Ok i) =
    let ops = operands_of m.stacks p in
    Ok (at_rest (record m {
      stacks = passed (written m.stacks (ref_of (operand ops 0)) (i.value ∷ [])) p (drop 1 ops);
      input = record m.input { bytes = i.left };
    }))
read_to m p (Err f) = Err f

-- `RDI` and `RDC`: one item for a variable of this type
abbrev pub reads : Simple → ℕ → Machine → Effect
reads t p m = read_to m p (item t m.input.bytes)

abbrev pub skipped_to : Machine → ℕ → Result (List ℕ) RunFault → Effect
skipped_to m p (Ok left) = Ok (at_rest (record (left_by m p 0) { input = record m.input { bytes = left } }))
skipped_to m p (Err f) = Err f

-- `RDNL`
abbrev pub skips : ℕ → Machine → Effect
skips p m = skipped_to m p (skipped m.input.whole_lines m.input.bytes)

-- `EOF` and `EOLN`
abbrev pub asks_end : ℕ → Machine → Effect
asks_end p m = Ok (at_rest (left_with m p 0 (truth (at_end m.input.bytes))))

abbrev pub asks_line_end : ℕ → Machine → Effect
asks_line_end p m = Ok (at_rest (left_with m p 0 (truth (at_line_end m.input.bytes))))

-- ## Draws

abbrev pub drawn_to : Machine → ℕ → Lcg → Result ℤ RunFault → Effect
drawn_to m p words (Ok n) = Ok (at_rest (record (left_with m p 1 n) { draws = words }))
drawn_to m p words (Err f) = Err f

-- `RAND`
abbrev pub draws : ℕ → Machine → Effect
draws p m = let n = operand (operands_of m.stacks p) 0 in drawn_to m p (after_draw m.draws n) (drawn m.draws n)

-- ## Time

abbrev pub clocked_to : Machine → ℕ → Outcome → Effect
clocked_to m p (Ok n) = Ok (at_rest (left_with m p 0 n))
clocked_to m p (Err f) = Err f

-- `CLOCK` pushes the whole seconds since the start; fault 1 where they do not fit in 32 bits.
abbrev pub clocks : ℕ → Machine → Effect
clocks p m = clocked_to m p (fitting (pos (m.world.moment / 1000)))

-- no due moment is above 10^15
abbrev pub latest_moment : ℕ
latest_moment = 1000000000000000

-- The moment at which a sleep of so many seconds ends, from a moment on; None where there is no wait. Below 0 it is fault 14, and where it ends too
-- late fault 15.
abbrev pub due_after : ℕ → ℕ → Result (Option ℕ) RunFault
due_after moment n =
    if n == 0 then Ok None else (if nat_le (moment + 1000 * n) latest_moment then Ok (Some (moment + 1000 * n)) else Err Late)

abbrev pub due_behind : ℕ → ℤ → Result (Option ℕ) RunFault
due_behind moment (pos n) = due_after moment n
due_behind moment (negsuc n) = Err Below

abbrev pub slept_to : Machine → ℕ → Result (Option ℕ) RunFault → Effect
slept_to m p (Ok None) = Ok (at_rest (left_by m p 1))
slept_to m p (Ok (Some due)) = Ok (record (left_by m p 1) { world = blocked m.world p (Sleep due) [] })
slept_to m p (Err f) = Err f

-- `SLEEP`
abbrev pub sleeps : ℕ → Machine → Effect
sleeps p m = slept_to m p (due_behind m.world.moment (operand (operands_of m.stacks p) 0))

-- ## Processes

-- where some process is created, all created ones are ready and the process waits for their ends
abbrev pub joined : Table → ℕ → Table
joined w p = if some_created w.rows then blocked (all_started w) p Coend [] else rested w

-- `COEND`
abbrev pub joins : ℕ → Machine → Effect
joins p m = Ok (record (left_by m p 0) { world = joined m.world p })

-- `END`: the process has finished. The end of the last child makes main ready, where that one waits at `coend`.
abbrev pub finishes : ℕ → Machine → Effect
finishes p m = Ok (record m { world = finished m.world p })
