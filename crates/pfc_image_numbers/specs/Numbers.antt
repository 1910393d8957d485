-- What the numbers in an instruction name.
use Rattle.std.specs.Prelude.{◌≡◌, ℕ, ◌+◌, ◌<◌, ◌≤◌, length}
use Rattle.pfc_types.specs.Blocks.{State, Blocks, entry_at}
use Rattle.pfc_name_laws.specs.Reached.{HasEntry, entries_of}
use Rattle.pfc_code.specs.declared.instructions.Instr.{Instr}
use Rattle.pfc_code.specs.declared.instructions.Instr.TheVariants.{SUCC, PRED, FORB, FORT, MCALL, RCALL, GRD, SCAN, REQ, ECALL, ACC, ARMA, SEL, WRI, WRB, WRC}
use Rattle.pfc_code.specs.declared.instructions.Instr.TheVariants.{WRS}
use Rattle.pfc_code.specs.Images.{PlainImage}
use Rattle.pfc_translation.specs.Calls.{formals_cells}

-- ## Modules

-- the monitor or the resource that is entered, left or scanned is one of the image's
abbrev pub NamesModule : PlainImage → Instr → Type 0
NamesModule image (MCALL m b) = m < image.monitors
NamesModule image (RCALL g b) = g < length image.scans
NamesModule image (GRD g) = g < length image.scans
NamesModule image (SCAN g) = g < length image.scans
NamesModule image (REQ g b) = g < length image.scans
NamesModule image i = Unit {0}

-- ## Entries

-- Some process has an entry e whose parameters take z cells. Entries are numbered from 0 in each process apart, and the process is that whose
-- number is an operand.
pub record IsEntry (s : State) (e z : ℕ) : Type 0 where
  pub process : ℕ
  pub is : process < length s.blocks.processes
  pub entry : e < entries_of s.blocks process
  pub cells : z ≡ formals_cells s.forms (entry_at s.blocks process e)

-- Some process has an entry e.
pub record IsSomeEntry (s : State) (e : ℕ) : Type 0 where
  pub process : ℕ
  pub is : process < length s.blocks.processes
  pub entry : e < entries_of s.blocks process

-- the entry that is called or accepted is one
abbrev pub NamesEntry : State → Instr → Type 0
NamesEntry s (ECALL e z) = IsEntry s e z
NamesEntry s (ACC e d z) = IsSomeEntry s e
NamesEntry s (ARMA e d z a) = IsSomeEntry s e
NamesEntry s i = Unit {0}

-- ## Marks

-- A type is 0, 1 or 2, for integer, boolean and char; a direction, `pri` and whether a width is given are 0 or 1.
abbrev pub IsMarked : Instr → Type 0
IsMarked (SUCC k) = k < 3
IsMarked (PRED k) = k < 3
IsMarked (FORB d a) = d < 2
IsMarked (FORT d a) = d < 2
IsMarked (SEL p a) = p < 2
IsMarked (WRI w) = w < 2
IsMarked (WRB w) = w < 2
IsMarked (WRC w) = w < 2
IsMarked (WRS s w) = w < 2
IsMarked i = Unit {0}

-- ## All of them

abbrev pub AreThere : PlainImage → State → ℕ → Instr → Type 0
AreThere image s at i = NamesModule image i × NamesEntry s i × IsMarked i

-- Its numbers are there whatever rules are broken: it is no requeue and no accept.
abbrev pub IsUnruled : Instr → Type 0
IsUnruled (REQ g b) = ⊥
IsUnruled (ACC e d z) = ⊥
IsUnruled (ARMA e d z a) = ⊥
IsUnruled i = Unit {0}

-- ## Accepts

-- In the code of the block with this scope and so many cells: the entry that is accepted is the block's own, as that of a process, and its
-- parameters lie below these cells.
abbrev pub AcceptsWithin : Blocks → ℕ → ℕ → ℕ → Instr → Type 0
AcceptsWithin b scope cells at (ACC e d z) = HasEntry b scope e × (d + z ≤ cells)
AcceptsWithin b scope cells at (ARMA e d z a) = HasEntry b scope e × (d + z ≤ cells)
AcceptsWithin b scope cells at i = Unit {0}
