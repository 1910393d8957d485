-- What an instruction names by an operand: an address of code, a block, a text, an activation around.
use Rattle.std.specs.Prelude.{ℕ, ◌+◌, zero, suc, Bool, true, false, Option, Some, None}
use Rattle.pfc_code.specs.declared.instructions.Instr.{Instr}
use Rattle.pfc_code.specs.declared.instructions.Instr.TheVariants.{ADDR, REF, JMP, JF, TURN, FORB, FORT, CEQ, CALL, RET, RETF, MCALL, RCALL, SCAN, REQ, NEW}
use Rattle.pfc_code.specs.declared.instructions.Instr.TheVariants.{END, ARMS, ARMR, ARMA, ARMT, ARMX, SEL, WRS}

abbrev pub address_of_else : ℕ → Option ℕ
address_of_else zero = None
address_of_else (suc a) = Some (suc a)

-- an address at which the process may go on, behind the instruction; a select without an else part has none for it
abbrev pub address_ahead : Instr → Option ℕ
address_ahead (JMP a) = Some a
address_ahead (JF a) = Some a
address_ahead (FORB d a) = Some a
address_ahead (CEQ n a) = Some a
address_ahead (ARMS z a) = Some a
address_ahead (ARMR z a) = Some a
address_ahead (ARMA e d z a) = Some a
address_ahead (ARMT a) = Some a
address_ahead (SEL p a) = address_of_else a
address_ahead i = None

-- an address to which a loop turns back
abbrev pub address_back : Instr → Option ℕ
address_back (TURN a) = Some a
address_back (FORT d a) = Some a
address_back i = None

-- whether an instruction ends a body
abbrev pub ends_body : Instr → Bool
ends_body RET = true
ends_body RETF = true
ends_body END = true
ends_body i = false

-- whether an instruction ends a body, or is the turn of a scan, which stands behind the blocks of a resource
abbrev pub is_end : Instr → Bool
is_end RET = true
is_end RETF = true
is_end END = true
is_end (SCAN g) = true
is_end i = false

-- the block that is called or created
abbrev pub block_in : Instr → Option ℕ
block_in (CALL b l) = Some b
block_in (MCALL m b) = Some b
block_in (RCALL g b) = Some b
block_in (REQ g b) = Some b
block_in (NEW b) = Some b
block_in i = None

-- the string that is written, by its place in the texts
abbrev pub text_in : Instr → Option ℕ
text_in (WRS s w) = Some s
text_in i = None

-- so many static links are followed
abbrev pub links_in : Instr → Option ℕ
links_in (ADDR l d) = Some l
links_in (REF l d) = Some l
links_in (CALL b l) = Some l
links_in i = None

-- How many alternatives are open behind an instruction, where so many are before it: each that is made adds one, and a decision takes all.
abbrev pub open_behind : Instr → ℕ → ℕ
open_behind (ARMS z a) n = n + 1
open_behind (ARMR z a) n = n + 1
open_behind (ARMA e d z a) n = n + 1
open_behind (ARMT a) n = n + 1
open_behind ARMX n = n + 1
open_behind (SEL p x) n = 0
open_behind i n = n
