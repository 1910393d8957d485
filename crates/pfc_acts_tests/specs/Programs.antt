-- Images of programs.
use Rattle.std.specs.Prelude.{ℕ, pos, [], ◌∷◌}
use Rattle.pfc_code.specs.declared.images.Block.{Block}
use Rattle.pfc_code.specs.declared.images.ProcessInfo.{ProcessInfo}
use Rattle.pfc_code.specs.declared.instructions.Instr.TheVariants.{ACC, ADD, ADDR, ARMR, CALL, COEND, DELAY, DIV, EACC, ECALL, END, FORB, FORT, FORW, GRD, JMP}
use Rattle.pfc_code.specs.declared.instructions.Instr.TheVariants.{LIT, LOAD, MCALL, NEW, OBJ, RCALL, RECV, REF, RESUME, RET, SCAN, SEL, SEND, SINI, SSIG}
use Rattle.pfc_code.specs.declared.instructions.Instr.TheVariants.{STORE, SUB, SWAIT, WRC, WRI, WRNL}
use Rattle.pfc_code.specs.Images.{PlainImage}

-- by entry, body, parameters, cells, operands, level and line; its label is p
abbrev pub block_by : ℕ → ℕ → ℕ → ℕ → ℕ → ℕ → ℕ → Block
block_by entry body params cells operands level line =
    record { label = 112 ∷ []; entry = entry; body = body; params = params; cells = cells; operands = operands; level = level; line = line }

-- of a block
abbrev pub process_by : ℕ → ProcessInfo
process_by block = record { block = block; label = 112 ∷ [] }

-- a loop that sums
abbrev pub sum_image : PlainImage
sum_image = record {
  code = (ADDR 0 0) ∷ (LIT (pos 1)) ∷ (LIT (pos 2)) ∷ (FORB 0 13) ∷ FORW ∷ (ADDR 0 1) ∷ (ADDR 0 1) ∷ (LOAD 1) ∷ (ADDR 0 0) ∷ (LOAD 1) ∷ ADD ∷ (STORE 1) ∷
      (FORT 0 4) ∷ (ADDR 0 1) ∷ (LOAD 1) ∷ (WRI 0) ∷ WRNL ∷ END ∷ [];
  lines = 4 ∷ 4 ∷ 4 ∷ 4 ∷ 4 ∷ 5 ∷ 5 ∷ 5 ∷ 5 ∷ 5 ∷ 5 ∷ 5 ∷ 4 ∷ 6 ∷ 6 ∷ 6 ∷ 6 ∷ 7 ∷ [];
  blocks = block_by 0 0 0 2 6 0 3 ∷ [];
  processes = process_by 0 ∷ [];
  objects = [];
  texts = [];
  semaphores = 0;
  channels = 0;
  conditions = [];
  monitors = 0;
  scans = [];
  arms = 0;
}

-- a call with a reference parameter
abbrev pub reference_image : PlainImage
reference_image = record {
  code = (REF 0 0) ∷ (REF 0 0) ∷ (LOAD 1) ∷ (LIT (pos 4)) ∷ ADD ∷ (STORE 1) ∷ RET ∷ (ADDR 0 0) ∷ (CALL 0 0) ∷ (ADDR 0 0) ∷ (LOAD 1) ∷ (WRI 0) ∷ END ∷ [];
  lines = 5 ∷ 5 ∷ 5 ∷ 5 ∷ 5 ∷ 5 ∷ 6 ∷ 8 ∷ 8 ∷ 9 ∷ 9 ∷ 9 ∷ 10 ∷ [];
  blocks = block_by 0 0 1 1 3 1 4 ∷ block_by 7 7 0 1 1 0 7 ∷ [];
  processes = process_by 1 ∷ [];
  objects = [];
  texts = [];
  semaphores = 0;
  channels = 0;
  conditions = [];
  monitors = 0;
  scans = [];
  arms = 0;
}

-- a wait and a signal
abbrev pub semaphore_image : PlainImage
semaphore_image = record {
  code = (ADDR 1 0) ∷ OBJ ∷ SWAIT ∷ (LIT (pos 112)) ∷ (WRC 0) ∷ END ∷ (LIT (pos 113)) ∷ (WRC 0) ∷ (ADDR 1 0) ∷ OBJ ∷ SSIG ∷ END ∷ (ADDR 0 0) ∷ OBJ ∷
      (LIT (pos 0)) ∷ SINI ∷ (ADDR 0 1) ∷ OBJ ∷ (NEW 0) ∷ (ADDR 0 2) ∷ OBJ ∷ (NEW 1) ∷ COEND ∷ END ∷ [];
  lines = 3 ∷ 3 ∷ 3 ∷ 3 ∷ 3 ∷ 3 ∷ 4 ∷ 4 ∷ 4 ∷ 4 ∷ 4 ∷ 4 ∷ 6 ∷ 6 ∷ 6 ∷ 6 ∷ 7 ∷ 7 ∷ 7 ∷ 7 ∷ 7 ∷ 7 ∷ 7 ∷ 8 ∷ [];
  blocks = block_by 0 0 0 0 1 1 3 ∷ block_by 6 6 0 0 1 1 4 ∷ block_by 12 12 0 3 2 0 5 ∷ [];
  processes = process_by 2 ∷ process_by 0 ∷ process_by 1 ∷ [];
  objects = record { cell = 0; number = 0 } ∷ record { cell = 1; number = 1 } ∷ record { cell = 2; number = 2 } ∷ [];
  texts = [];
  semaphores = 1;
  channels = 0;
  conditions = [];
  monitors = 0;
  scans = [];
  arms = 0;
}

-- a message to a process that waits
abbrev pub message_image : PlainImage
message_image = record {
  code = (ADDR 1 0) ∷ OBJ ∷ (ADDR 0 0) ∷ (RECV 1) ∷ (ADDR 0 0) ∷ (LOAD 1) ∷ (WRI 0) ∷ END ∷ (ADDR 1 0) ∷ OBJ ∷ (LIT (pos 7)) ∷ (SEND 1) ∷ END ∷
      (ADDR 0 1) ∷ OBJ ∷ (NEW 0) ∷ (ADDR 0 2) ∷ OBJ ∷ (NEW 1) ∷ COEND ∷ END ∷ [];
  lines = 5 ∷ 5 ∷ 5 ∷ 5 ∷ 6 ∷ 6 ∷ 6 ∷ 7 ∷ 8 ∷ 8 ∷ 8 ∷ 8 ∷ 8 ∷ 10 ∷ 10 ∷ 10 ∷ 10 ∷ 10 ∷ 10 ∷ 10 ∷ 11 ∷ [];
  blocks = block_by 0 0 0 1 2 1 4 ∷ block_by 8 8 0 0 2 1 8 ∷ block_by 13 13 0 3 1 0 9 ∷ [];
  processes = process_by 2 ∷ process_by 0 ∷ process_by 1 ∷ [];
  objects = record { cell = 0; number = 0 } ∷ record { cell = 1; number = 1 } ∷ record { cell = 2; number = 2 } ∷ [];
  texts = [];
  semaphores = 0;
  channels = 1;
  conditions = [];
  monitors = 0;
  scans = [];
  arms = 0;
}

-- a call of an entry that is waited for
abbrev pub rendezvous_image : PlainImage
rendezvous_image = record {
  code = (ACC 0 0 2) ∷ (REF 0 1) ∷ (ADDR 0 0) ∷ (LOAD 1) ∷ (LIT (pos 1)) ∷ ADD ∷ (STORE 1) ∷ EACC ∷ END ∷ (ADDR 1 0) ∷ OBJ ∷ (LIT (pos 4)) ∷ (ADDR 0 0) ∷
      (ECALL 0 2) ∷ (ADDR 0 0) ∷ (LOAD 1) ∷ (WRI 0) ∷ END ∷ (ADDR 0 0) ∷ OBJ ∷ (NEW 0) ∷ (ADDR 0 1) ∷ OBJ ∷ (NEW 1) ∷ COEND ∷ END ∷ [];
  lines = 4 ∷ 5 ∷ 5 ∷ 5 ∷ 5 ∷ 5 ∷ 5 ∷ 4 ∷ 6 ∷ 9 ∷ 9 ∷ 9 ∷ 9 ∷ 9 ∷ 10 ∷ 10 ∷ 10 ∷ 11 ∷ 13 ∷ 13 ∷ 13 ∷ 13 ∷ 13 ∷ 13 ∷ 13 ∷ 14 ∷ [];
  blocks = block_by 0 0 0 2 3 1 3 ∷ block_by 9 9 0 1 3 1 8 ∷ block_by 18 18 0 2 1 0 12 ∷ [];
  processes = process_by 2 ∷ process_by 0 ∷ process_by 1 ∷ [];
  objects = record { cell = 0; number = 1 } ∷ record { cell = 1; number = 2 } ∷ [];
  texts = [];
  semaphores = 0;
  channels = 0;
  conditions = [];
  monitors = 0;
  scans = [];
  arms = 0;
}

-- a delay and a resume
abbrev pub monitor_image : PlainImage
monitor_image = record {
  code = (ADDR 1 0) ∷ OBJ ∷ (LIT (pos 0)) ∷ DELAY ∷ (LIT (pos 116)) ∷ (WRC 0) ∷ RET ∷ (ADDR 1 0) ∷ OBJ ∷ RESUME ∷ (LIT (pos 103)) ∷ (WRC 0) ∷ RET ∷
      (MCALL 0 0) ∷ END ∷ (MCALL 0 1) ∷ END ∷ (ADDR 0 1) ∷ OBJ ∷ (NEW 2) ∷ (ADDR 0 2) ∷ OBJ ∷ (NEW 3) ∷ COEND ∷ END ∷ [];
  lines = 3 ∷ 3 ∷ 3 ∷ 3 ∷ 3 ∷ 3 ∷ 3 ∷ 4 ∷ 4 ∷ 4 ∷ 4 ∷ 4 ∷ 4 ∷ 6 ∷ 6 ∷ 7 ∷ 7 ∷ 9 ∷ 9 ∷ 9 ∷ 9 ∷ 9 ∷ 9 ∷ 9 ∷ 10 ∷ [];
  blocks = block_by 0 0 0 0 2 1 3 ∷ block_by 7 7 0 0 1 1 4 ∷ block_by 13 13 0 0 0 1 6 ∷ block_by 15 15 0 0 0 1 7 ∷ block_by 17 17 0 3 1 0 8 ∷ [];
  processes = process_by 4 ∷ process_by 2 ∷ process_by 3 ∷ [];
  objects = record { cell = 0; number = 0 } ∷ record { cell = 1; number = 1 } ∷ record { cell = 2; number = 2 } ∷ [];
  texts = [];
  semaphores = 0;
  channels = 0;
  conditions = 0 ∷ [];
  monitors = 1;
  scans = [];
  arms = 0;
}

-- a select of two alternatives that are both matched
abbrev pub select_image : PlainImage
select_image = record {
  code = (ADDR 1 0) ∷ OBJ ∷ (LIT (pos 5)) ∷ (SEND 1) ∷ END ∷ (ADDR 1 1) ∷ OBJ ∷ (LIT (pos 6)) ∷ (SEND 1) ∷ END ∷ (ADDR 1 0) ∷ OBJ ∷ (ADDR 1 2) ∷ (ARMR 1 19) ∷
      (ADDR 1 1) ∷ OBJ ∷ (ADDR 1 2) ∷ (ARMR 1 22) ∷ (SEL 0 0) ∷ (LIT (pos 99)) ∷ (WRC 0) ∷ (JMP 25) ∷ (LIT (pos 100)) ∷ (WRC 0) ∷ (JMP 25) ∷ END ∷
      (ADDR 0 3) ∷ OBJ ∷ (NEW 0) ∷ (ADDR 0 4) ∷ OBJ ∷ (NEW 1) ∷ (ADDR 0 5) ∷ OBJ ∷ (NEW 2) ∷ COEND ∷ END ∷ [];
  lines = 3 ∷ 3 ∷ 3 ∷ 3 ∷ 3 ∷ 4 ∷ 4 ∷ 4 ∷ 4 ∷ 4 ∷ 7 ∷ 7 ∷ 7 ∷ 7 ∷ 7 ∷ 7 ∷ 7 ∷ 7 ∷ 7 ∷ 8 ∷ 8 ∷ 7 ∷ 10 ∷ 10 ∷ 7 ∷ 12 ∷ 14 ∷ 14 ∷ 14 ∷
      14 ∷ 14 ∷ 14 ∷ 14 ∷ 14 ∷ 14 ∷ 14 ∷ 15 ∷ [];
  blocks = block_by 0 0 0 0 2 1 3 ∷ block_by 5 5 0 0 2 1 4 ∷ block_by 10 10 0 0 2 1 6 ∷ block_by 26 26 0 6 1 0 13 ∷ [];
  processes = process_by 3 ∷ process_by 0 ∷ process_by 1 ∷ process_by 2 ∷ [];
  objects = record { cell = 0; number = 0 } ∷ record { cell = 1; number = 1 } ∷ record { cell = 3; number = 1 } ∷ record {
    cell = 4;
    number =
        2;
  } ∷ record { cell = 5; number = 3 } ∷ [];
  texts = [];
  semaphores = 0;
  channels = 2;
  conditions = [];
  monitors = 0;
  scans = [];
  arms = 2;
}

-- a guard that is false, and then true
abbrev pub resource_image : PlainImage
resource_image = record {
  code = (ADDR 1 0) ∷ (LOAD 1) ∷ (GRD 0) ∷ (LIT (pos 116)) ∷ (WRC 0) ∷ RET ∷ (ADDR 1 0) ∷ (LIT (pos 1)) ∷ (STORE 1) ∷ RET ∷ (SCAN 0) ∷ (RCALL 0 0) ∷ END ∷
      (RCALL 0 1) ∷ END ∷ (ADDR 0 1) ∷ OBJ ∷ (NEW 2) ∷ (ADDR 0 2) ∷ OBJ ∷ (NEW 3) ∷ COEND ∷ END ∷ [];
  lines = 3 ∷ 3 ∷ 3 ∷ 3 ∷ 3 ∷ 3 ∷ 4 ∷ 4 ∷ 4 ∷ 4 ∷ 5 ∷ 6 ∷ 6 ∷ 7 ∷ 7 ∷ 9 ∷ 9 ∷ 9 ∷ 9 ∷ 9 ∷ 9 ∷ 9 ∷ 10 ∷ [];
  blocks = block_by 0 3 0 0 1 1 3 ∷ block_by 6 6 0 0 2 1 4 ∷ block_by 11 11 0 0 0 1 6 ∷ block_by 13 13 0 0 0 1 7 ∷ block_by 15 15 0 3 1 0 8 ∷ [];
  processes = process_by 4 ∷ process_by 2 ∷ process_by 3 ∷ [];
  objects = record { cell = 1; number = 1 } ∷ record { cell = 2; number = 2 } ∷ [];
  texts = [];
  semaphores = 0;
  channels = 0;
  conditions = [];
  monitors = 0;
  scans = 10 ∷ [];
  arms = 0;
}

-- a division by 0
abbrev pub fault_image : PlainImage
fault_image = record {
  code = (ADDR 0 0) ∷ (LIT (pos 7)) ∷ (STORE 1) ∷ (ADDR 0 0) ∷ (LIT (pos 1)) ∷ (ADDR 0 0) ∷ (LOAD 1) ∷ (LIT (pos 7)) ∷ SUB ∷ DIV ∷ (STORE 1) ∷ END ∷ [];
  lines = 4 ∷ 4 ∷ 4 ∷ 5 ∷ 5 ∷ 5 ∷ 5 ∷ 5 ∷ 5 ∷ 5 ∷ 5 ∷ 6 ∷ [];
  blocks = block_by 0 0 0 1 4 0 3 ∷ [];
  processes = process_by 0 ∷ [];
  objects = [];
  texts = [];
  semaphores = 0;
  channels = 0;
  conditions = [];
  monitors = 0;
  scans = [];
  arms = 0;
}
