-- How many operands each instruction reads, takes and leaves.
use Rattle.std.specs.Prelude.{ℕ, ◌+◌, ◌==◌, if◌then◌else◌}
use Rattle.pfc_code.specs.declared.instructions.Instr.{Instr}
use Rattle.pfc_code.specs.declared.instructions.Instr.TheVariants.{LIT, ADDR, REF, IDX, FLD, LOAD, STORE, OBJ, NEG, ADD, SUB, MUL, DIV, MOD, ABS, SQR, ODD, CHR}
use Rattle.pfc_code.specs.declared.instructions.Instr.TheVariants.{SUCC, PRED, NOT, AND, OR, EQ, NE, LT, LE, GT, GE, JMP, JF, TURN, FORB, FORW, FORT, CEQ, CERR}
use Rattle.pfc_code.specs.declared.instructions.Instr.TheVariants.{CALL, RET, RETF, MCALL, RCALL, GRD, SCAN, REQ, NEW, COEND, END, SINI, SWAIT, SSIG, SEND}
use Rattle.pfc_code.specs.declared.instructions.Instr.TheVariants.{RECV, ECALL, ACC, EACC, ARMS, ARMR, ARMA, ARMT, ARMX, SEL, DELAY, RESUME, EMPTY, SLEEP}
use Rattle.pfc_code.specs.declared.instructions.Instr.TheVariants.{CLOCK, RAND, WRI, WRB, WRC, WRS, WRNL, RDI, RDC, RDNL, EOF, EOLN}
use Rattle.pfc_code.specs.declared.counts.Count.{Count}
use Rattle.pfc_code.specs.declared.counts.Count.TheVariants.{Exactly, OfParameters, OneAndParameters, OfResult}
use Rattle.pfc_code.specs.declared.counts.Operands.{Operands}

-- the number that a count stands for, where the parameters and the result of each block have so many cells
abbrev pub counted : (ℕ → ℕ) → (ℕ → ℕ) → Count → ℕ
counted params results (Exactly n) = n
counted params results (OfParameters b) = params b
counted params results (OneAndParameters b) = 1 + params b
counted params results (OfResult b) = results b

-- what an instruction tells of it without any block
abbrev pub told : Count → ℕ
told = counted (λ b. 0) (λ b. 0)

-- it pops what it reads
abbrev pub taking : Count → Count → Operands
taking reads leaves = record { reads = reads; takes = reads; takes_jumping = reads; leaves = leaves }

abbrev pub pops : ℕ → ℕ → Operands
pops reads leaves = taking (Exactly reads) (Exactly leaves)

-- it may keep what it reads: it pops so many on its way to the next instruction, and so many where it jumps
abbrev pub keeps : ℕ → ℕ → ℕ → Operands
keeps reads takes takes_jumping =
    record { reads = Exactly reads; takes = Exactly takes; takes_jumping = Exactly takes_jumping; leaves = Exactly 0 }

-- what a receive has as operands: over a channel of `synchronous` no address
abbrev pub receiving : ℕ → ℕ
receiving z = if z == 0 then 1 else 2

-- A `for` keeps its address, its value and its last value; a `case` its value, which `CERR` takes where no test has. What a function leaves, its
-- `RETF` pushes, for the activation that its `CALL` belongs to.
abbrev pub operands_of : Instr → Operands
operands_of (LIT n) = pops 0 1
operands_of (ADDR l d) = pops 0 1
operands_of (REF l d) = pops 0 1
operands_of (IDX low high z) = pops 2 1
operands_of (FLD k) = pops 1 1
operands_of (LOAD z) = pops 1 z
operands_of (STORE z) = pops (z + 1) 0
operands_of OBJ = pops 1 1
operands_of NEG = pops 1 1
operands_of ADD = pops 2 1
operands_of SUB = pops 2 1
operands_of MUL = pops 2 1
operands_of DIV = pops 2 1
operands_of MOD = pops 2 1
operands_of ABS = pops 1 1
operands_of SQR = pops 1 1
operands_of ODD = pops 1 1
operands_of CHR = pops 1 1
operands_of (SUCC k) = pops 1 1
operands_of (PRED k) = pops 1 1
operands_of NOT = pops 1 1
operands_of AND = pops 2 1
operands_of OR = pops 2 1
operands_of EQ = pops 2 1
operands_of NE = pops 2 1
operands_of LT = pops 2 1
operands_of LE = pops 2 1
operands_of GT = pops 2 1
operands_of GE = pops 2 1
operands_of (JMP a) = pops 0 0
operands_of (JF a) = pops 1 0
operands_of (TURN a) = pops 0 0
operands_of (FORB d a) = keeps 3 0 3
operands_of FORW = keeps 3 0 0
operands_of (FORT d a) = keeps 3 3 0
operands_of (CEQ n a) = keeps 1 0 1
operands_of CERR = pops 1 0
operands_of (CALL b l) = taking (OfParameters b) (OfResult b)
operands_of RET = pops 0 0
operands_of RETF = pops 0 0
operands_of (MCALL m b) = taking (OfParameters b) (Exactly 0)
operands_of (RCALL g b) = taking (OfParameters b) (Exactly 0)
operands_of (GRD g) = pops 1 0
operands_of (SCAN g) = pops 0 0
operands_of (REQ g b) = taking (OfParameters b) (Exactly 0)
operands_of (NEW b) = taking (OneAndParameters b) (Exactly 0)
operands_of COEND = pops 0 0
operands_of END = pops 0 0
operands_of SINI = pops 2 0
operands_of SWAIT = pops 1 0
operands_of SSIG = pops 1 0
operands_of (SEND z) = pops (z + 1) 0
operands_of (RECV z) = pops (receiving z) 0
operands_of (ECALL e z) = pops (z + 1) 0
operands_of (ACC e d z) = pops 0 0
operands_of EACC = pops 0 0
operands_of (ARMS z a) = pops (z + 1) 0
operands_of (ARMR z a) = pops (receiving z) 0
operands_of (ARMA e d z a) = pops 0 0
operands_of (ARMT a) = pops 1 0
operands_of ARMX = pops 0 0
operands_of (SEL p x) = pops 0 0
operands_of DELAY = pops 2 0
operands_of RESUME = pops 1 0
operands_of EMPTY = pops 1 1
operands_of SLEEP = pops 1 0
operands_of CLOCK = pops 0 1
operands_of RAND = pops 1 1
operands_of (WRI w) = pops (1 + w) 0
operands_of (WRB w) = pops (1 + w) 0
operands_of (WRC w) = pops (1 + w) 0
operands_of (WRS s w) = pops w 0
operands_of WRNL = pops 0 0
operands_of RDI = pops 1 0
operands_of RDC = pops 1 0
operands_of RDNL = pops 0 0
operands_of EOF = pops 0 1
operands_of EOLN = pops 0 1
