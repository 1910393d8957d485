use Rattle.std.proofs.Common.{sym, subst}
use Rattle.pfc_code.specs.declared.instructions.Instr.{Instr}
use Rattle.pfc_machine_acts.specs.Performing.{may_want_memory, WantsMemoryIf}
use Rattle.pfc_machine_acts.proofs.Wants.{may_want}
use Rattle.pfc_machine_acts.proofs.performing.perform.Goals as goal

pub returns-in-WRI-clause-memory : goal.returns-in-WRI-clause-memory
returns-in-WRI-clause-memory c =
    subst (λ (i : Instr). WantsMemoryIf (may_want_memory i) c.write_value.result) (sym c.in-WRI.is) (may_want c.write_value.result)

pub returns-in-WRB-clause-memory : goal.returns-in-WRB-clause-memory
returns-in-WRB-clause-memory c =
    subst (λ (i : Instr). WantsMemoryIf (may_want_memory i) c.write_value-in-WRB.result) (sym c.in-WRB.is) (may_want c.write_value-in-WRB.result)

pub returns-in-WRC-clause-memory : goal.returns-in-WRC-clause-memory
returns-in-WRC-clause-memory c =
    subst (λ (i : Instr). WantsMemoryIf (may_want_memory i) c.write_value-in-WRC.result) (sym c.in-WRC.is) (may_want c.write_value-in-WRC.result)

pub returns-in-WRS-clause-memory : goal.returns-in-WRS-clause-memory
returns-in-WRS-clause-memory c =
    subst (λ (i : Instr). WantsMemoryIf (may_want_memory i) c.write_text.result) (sym c.in-WRS.is) (may_want c.write_text.result)

pub returns-in-WRNL-clause-memory : goal.returns-in-WRNL-clause-memory
returns-in-WRNL-clause-memory c =
    subst (λ (i : Instr). WantsMemoryIf (may_want_memory i) c.write_line_end.result) (sym c.in-WRNL.is) (may_want c.write_line_end.result)
