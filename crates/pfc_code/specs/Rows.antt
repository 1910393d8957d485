-- The names of the instructions, and their arguments as they are printed.
use Rattle.std.specs.Prelude.{ℕ, ℤ, pos, List, [], ◌∷◌, codes}
use Rattle.pfc_code.specs.declared.instructions.Instr.{Instr}
use Rattle.pfc_code.specs.declared.instructions.Instr.TheVariants.{LIT, ADDR, REF, IDX, FLD, LOAD, STORE, OBJ, NEG, ADD, SUB, MUL, DIV, MOD, ABS, SQR, ODD, CHR}
use Rattle.pfc_code.specs.declared.instructions.Instr.TheVariants.{SUCC, PRED, NOT, AND, OR, EQ, NE, LT, LE, GT, GE, JMP, JF, TURN, FORB, FORW, FORT, CEQ, CERR}
use Rattle.pfc_code.specs.declared.instructions.Instr.TheVariants.{CALL, RET, RETF, MCALL, RCALL, GRD, SCAN, REQ, NEW, COEND, END, SINI, SWAIT, SSIG, SEND}
use Rattle.pfc_code.specs.declared.instructions.Instr.TheVariants.{RECV, ECALL, ACC, EACC, ARMS, ARMR, ARMA, ARMT, ARMX, SEL, DELAY, RESUME, EMPTY, SLEEP}
use Rattle.pfc_code.specs.declared.instructions.Instr.TheVariants.{CLOCK, RAND, WRI, WRB, WRC, WRS, WRNL, RDI, RDC, RDNL, EOF, EOLN}
use Rattle.pfc_code.specs.declared.instructions.Arguments.{Arguments}
use Rattle.pfc_code.specs.declared.instructions.Arguments.TheVariants.{Zero, One, Two, Three, Four}

-- the name of an instruction, and its arguments in their order
abbrev pub row_of : Instr → List ℕ × List ℤ
row_of (LIT n) = (codes "LIT", n ∷ [])
row_of (ADDR l d) = (codes "ADDR", pos l ∷ pos d ∷ [])
row_of (REF l d) = (codes "REF", pos l ∷ pos d ∷ [])
row_of (IDX lo hi z) = (codes "IDX", lo ∷ hi ∷ pos z ∷ [])
row_of (FLD k) = (codes "FLD", pos k ∷ [])
row_of (LOAD z) = (codes "LOAD", pos z ∷ [])
row_of (STORE z) = (codes "STORE", pos z ∷ [])
row_of OBJ = (codes "OBJ", [])
row_of NEG = (codes "NEG", [])
row_of ADD = (codes "ADD", [])
row_of SUB = (codes "SUB", [])
row_of MUL = (codes "MUL", [])
row_of DIV = (codes "DIV", [])
row_of MOD = (codes "MOD", [])
row_of ABS = (codes "ABS", [])
row_of SQR = (codes "SQR", [])
row_of ODD = (codes "ODD", [])
row_of CHR = (codes "CHR", [])
row_of (SUCC k) = (codes "SUCC", pos k ∷ [])
row_of (PRED k) = (codes "PRED", pos k ∷ [])
row_of NOT = (codes "NOT", [])
row_of AND = (codes "AND", [])
row_of OR = (codes "OR", [])
row_of EQ = (codes "EQ", [])
row_of NE = (codes "NE", [])
row_of LT = (codes "LT", [])
row_of LE = (codes "LE", [])
row_of GT = (codes "GT", [])
row_of GE = (codes "GE", [])
row_of (JMP a) = (codes "JMP", pos a ∷ [])
row_of (JF a) = (codes "JF", pos a ∷ [])
row_of (TURN a) = (codes "TURN", pos a ∷ [])
row_of (FORB d a) = (codes "FORB", pos d ∷ pos a ∷ [])
row_of FORW = (codes "FORW", [])
row_of (FORT d a) = (codes "FORT", pos d ∷ pos a ∷ [])
row_of (CEQ n a) = (codes "CEQ", n ∷ pos a ∷ [])
row_of CERR = (codes "CERR", [])
row_of (CALL b l) = (codes "CALL", pos b ∷ pos l ∷ [])
row_of RET = (codes "RET", [])
row_of RETF = (codes "RETF", [])
row_of (MCALL m b) = (codes "MCALL", pos m ∷ pos b ∷ [])
row_of (RCALL g b) = (codes "RCALL", pos g ∷ pos b ∷ [])
row_of (GRD g) = (codes "GRD", pos g ∷ [])
row_of (SCAN g) = (codes "SCAN", pos g ∷ [])
row_of (REQ g b) = (codes "REQ", pos g ∷ pos b ∷ [])
row_of (NEW b) = (codes "NEW", pos b ∷ [])
row_of COEND = (codes "COEND", [])
row_of END = (codes "END", [])
row_of SINI = (codes "SINI", [])
row_of SWAIT = (codes "SWAIT", [])
row_of SSIG = (codes "SSIG", [])
row_of (SEND z) = (codes "SEND", pos z ∷ [])
row_of (RECV z) = (codes "RECV", pos z ∷ [])
row_of (ECALL e z) = (codes "ECALL", pos e ∷ pos z ∷ [])
row_of (ACC e d z) = (codes "ACC", pos e ∷ pos d ∷ pos z ∷ [])
row_of EACC = (codes "EACC", [])
row_of (ARMS z a) = (codes "ARMS", pos z ∷ pos a ∷ [])
row_of (ARMR z a) = (codes "ARMR", pos z ∷ pos a ∷ [])
row_of (ARMA e d z a) = (codes "ARMA", pos e ∷ pos d ∷ pos z ∷ pos a ∷ [])
row_of (ARMT a) = (codes "ARMT", pos a ∷ [])
row_of ARMX = (codes "ARMX", [])
row_of (SEL p x) = (codes "SEL", pos p ∷ pos x ∷ [])
row_of DELAY = (codes "DELAY", [])
row_of RESUME = (codes "RESUME", [])
row_of EMPTY = (codes "EMPTY", [])
row_of SLEEP = (codes "SLEEP", [])
row_of CLOCK = (codes "CLOCK", [])
row_of RAND = (codes "RAND", [])
row_of (WRI w) = (codes "WRI", pos w ∷ [])
row_of (WRB w) = (codes "WRB", pos w ∷ [])
row_of (WRC w) = (codes "WRC", pos w ∷ [])
row_of (WRS s w) = (codes "WRS", pos s ∷ pos w ∷ [])
row_of WRNL = (codes "WRNL", [])
row_of RDI = (codes "RDI", [])
row_of RDC = (codes "RDC", [])
row_of RDNL = (codes "RDNL", [])
row_of EOF = (codes "EOF", [])
row_of EOLN = (codes "EOLN", [])

-- arguments as a list
abbrev pub list_of : Arguments → List ℤ
list_of Zero = []
list_of (One a) = a ∷ []
list_of (Two a b) = a ∷ b ∷ []
list_of (Three a b c) = a ∷ b ∷ c ∷ []
list_of (Four a b c d) = a ∷ b ∷ c ∷ d ∷ []
