-- The instruction that gives the address of a variable.
use Rattle.std.specs.Prelude.{if◌then◌else◌}
use Rattle.pfc_code.specs.declared.instructions.Instr.{Instr}
use Rattle.pfc_code.specs.declared.instructions.Instr.TheVariants.{ADDR, REF}
use Rattle.pfc_semantics.specs.Displays.{Spot}
use Rattle.pfc_translation.specs.Sites.{Site, links_to, cell_of, refers}

-- its own cell, or for a reference parameter the reference that its cell holds
abbrev pub base_instr : Site → Spot → Instr
base_instr s v = let l = links_to s v.scope in let d = cell_of s v in if refers s v then REF l d else ADDR l d
