-- The stacks before the first instruction.
use Rattle.std.specs.Prelude.{ℕ, ◌+◌, ◌-◌, ◌==◌, max, not, pos, if◌then◌else◌, ℤ, Bool, List, [], ◌∷◌, length, set, replicate, Option, None, Some}
use Rattle.std.specs.List.{slice_get}
use Rattle.pfc_code.specs.declared.images.Block.{Block}
use Rattle.pfc_code.specs.declared.images.Object.{Object}
use Rattle.pfc_code.specs.declared.images.ProcessInfo.{ProcessInfo}
use Rattle.pfc_code.specs.Images.{PlainImage}
use Rattle.pfc_stacks.specs.Stacks.{Stack, Stacks, idle_stack, own_cells}
use Rattle.pfc_stacks.specs.Activations.{entered}

-- ## Room for guards

-- A guarded procedure begins with its guard.
abbrev pub is_guarded : Block → Bool
is_guarded b = not (b.entry == b.body)

-- the most operands that a guarded procedure may hold, so that each process has room for any guard
abbrev pub guard_room : List Block → ℕ
guard_room [] = 0
guard_room (b ∷ blocks) = if is_guarded b then max b.operands (guard_room blocks) else guard_room blocks

-- ## Main

-- each object's cell holds its number
abbrev pub numbered : List Object → List ℤ → List ℤ
numbered [] cells = cells
numbered (o ∷ objects) cells = numbered objects (set cells (own_cells + o.cell) (pos o.number))

-- main at its entry: all its variables are 0 but the objects
abbrev pub main_entered : ℕ → Block → List Object → ℕ → Stack
main_entered k b objects spare = let s = entered k b [] b.cells spare in record s { cells = numbered objects s.cells }

-- ## All

-- main has entered its block, and the others have begun nothing
abbrev pub begun : ℕ → Stack → ℕ → Stacks
begun n main spare = main ∷ replicate (n - 1) (idle_stack spare)

abbrev pub started : PlainImage → ProcessInfo → Option Block → Stacks
started image main None = []
started image main (Some b) =
    let spare = guard_room image.blocks in
    begun (length image.processes) (main_entered main.block b image.objects spare) spare

-- an image without a main has no stacks
abbrev pub main_started : PlainImage → Option ProcessInfo → Stacks
main_started image None = []
main_started image (Some main) = started image main (slice_get image.blocks main.block)

abbrev pub start_stacks : PlainImage → Stacks
start_stacks image = main_started image (slice_get image.processes 0)
