-- Processes and the accepts in their bodies.
use Rattle.std.specs.Prelude.{ℕ, ◌<◌, ◌≡◌, length}
use Rattle.pfc_types.specs.Blocks.{Blocks, process_at}
use Rattle.pfc_semantics.specs.Programs.{Block}
use Rattle.pfc_typed_structures.specs.Accepts.{AllFit}

-- The block is that of a process, and each accept in its body has the parameters of its entry.
pub record HasEntries (bs : Blocks) (b : Block) : Type 0 where
  pub process : ℕ
  pub is : process < length bs.processes
  pub own : (process_at bs process).scope ≡ b.scope
  pub fits : AllFit bs process b.env.view b.next b.stmts
