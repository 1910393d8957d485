-- The machine before its first instruction.
use Rattle.std.specs.Prelude.{ℕ, ◌≤◌, ◌<◌, ◌^◌, false, List, [], ◌∷◌, length, get_or, replicate, None, All}
use Rattle.pfc_code.specs.declared.images.ProcessInfo.{ProcessInfo}
use Rattle.pfc_code.specs.Images.{PlainImage}
use Rattle.pfc_sched.specs.Draws.{first_draws}
use Rattle.pfc_stacks.specs.Starts.{start_stacks}
use Rattle.pfc_values.specs.Inputs.{opened}
use Rattle.pfc_world.specs.Tables.{start_table}
use Rattle.pfc_machines.specs.declared.machine.Machine.{Machine}
use Rattle.pfc_machines.specs.declared.machine.Objects.{Objects}
use Rattle.pfc_machines.specs.Descriptors.{start_descriptors}
use Rattle.pfc_machines.specs.Rooms.{no_room, rooms_of}

-- the number of main's block
abbrev pub main_block : List ProcessInfo → ℕ
main_block [] = 0
main_block (main ∷ others) = main.block

-- what the image of a program with main meets
pub record CanStart (image : PlainImage) : Type 0 where
  pub main : 0 < length image.processes
  pub few : length image.processes ≤ 1024
  -- each condition is one of a monitor
  pub owners : All (λ m. m < image.monitors) image.conditions
  pub conditions : length image.conditions < 2 ^ 32
  pub resources : length image.scans < 2 ^ 32

-- Main is ready, the others are idle, all counts are 0, and nobody holds a monitor or a resource.
abbrev pub start_objects : PlainImage → Objects
start_objects image = record {
  world = start_table (length image.processes) image.arms;
  semaphores = replicate image.semaphores 0;
  monitors = record { holders = replicate image.monitors None; owners = image.conditions };
  resources = replicate (length image.scans) None;
}

-- Besides, main has entered its block, and the others have begun nothing.
abbrev pub start_machine : PlainImage → List ℕ → ℕ → Machine
start_machine image input seed =
    let rooms = rooms_of (length image.processes) image.code image.blocks in
    let objects = start_objects image in
    record {
      stacks = start_stacks image;
      world = objects.world;
      semaphores = objects.semaphores;
      monitors = objects.monitors;
      resources = objects.resources;
      descriptors = start_descriptors image.blocks image.processes (get_or rooms (main_block image.processes) no_room);
      rooms = rooms;
      input = opened input;
      draws = first_draws seed;
      in_line = false;
    }
