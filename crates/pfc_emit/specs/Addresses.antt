-- Which instructions have an address argument, a place in the code at which to go on. It is always the last argument.
use Rattle.std.specs.Prelude.{ℕ, Bool, true, false}
use Rattle.pfc_code.specs.declared.instructions.Instr.{Instr}
use Rattle.pfc_code.specs.declared.instructions.Instr.TheVariants.{JMP, JF, TURN, FORB, FORT, CEQ, ARMS, ARMR, ARMA, ARMT, SEL}

abbrev pub has_address : Instr → Bool
has_address (JMP a) = true
has_address (JF a) = true
has_address (TURN a) = true
has_address (FORB d a) = true
has_address (FORT d a) = true
has_address (CEQ n a) = true
has_address (ARMS z a) = true
has_address (ARMR z a) = true
has_address (ARMA e d z a) = true
has_address (ARMT a) = true
has_address (SEL p x) = true
has_address instr = false

-- the instruction with another address; one that has no address argument is as it was
abbrev pub retargeted : Instr → ℕ → Instr
retargeted (JMP a) target = JMP target
retargeted (JF a) target = JF target
retargeted (TURN a) target = TURN target
retargeted (FORB d a) target = FORB d target
retargeted (FORT d a) target = FORT d target
retargeted (CEQ n a) target = CEQ n target
retargeted (ARMS z a) target = ARMS z target
retargeted (ARMR z a) target = ARMR z target
retargeted (ARMA e d z a) target = ARMA e d z target
retargeted (ARMT a) target = ARMT target
retargeted (SEL p x) target = SEL p target
retargeted instr target = instr
