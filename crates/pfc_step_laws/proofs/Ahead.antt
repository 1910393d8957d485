-- How many instructions a process may go through quietly, from each place of some code on.
use Rattle.std.specs.Prelude.{ℕ, suc, ◌+◌, ◌-◌, max, List, [], ◌∷◌, get_or}
use Rattle.pfc_code.specs.declared.instructions.Instr.{Instr}
use Rattle.pfc_code.specs.declared.instructions.Instr.TheVariants.{STORE, JMP, JF, FORB, CEQ, RET, RETF, SCAN, END}

-- where a process may go on quietly behind an instruction
pub data Way : Type 0 where
  -- nowhere: it is an action
  stays : Way
  -- at the next instruction
  on : Way
  -- at this address, which is ahead
  to : ℕ → Way
  -- at the next instruction, or at this address
  either : ℕ → Way

-- Of most actions nothing better is asked than of what is quiet.
abbrev pub way : Instr → Way
way (STORE z) = stays
way RET = stays
way RETF = stays
way (SCAN g) = stays
way END = stays
way (JMP a) = to a
way (JF a) = either a
way (FORB d a) = either a
way (CEQ n a) = either a
way i = on

-- how many instructions are gone through from one on, at an address, where so many are from each of those behind it
abbrev pub from_here : Way → ℕ → List ℕ → ℕ
from_here stays at behind = 0
from_here on at behind = suc (get_or behind 0 0)
from_here (to a) at behind = suc (get_or behind (a - (at + 1)) 0)
from_here (either a) at behind = suc (max (get_or behind 0 0) (get_or behind (a - (at + 1)) 0))

-- the same of each of some instructions, from an address on, before those behind them
abbrev pub ahead : ℕ → List Instr → List ℕ → List ℕ
ahead at [] behind = behind
ahead at (i ∷ code) behind = let rest = ahead (at + 1) code behind in from_here (way i) at rest ∷ rest
