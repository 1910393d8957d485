-- The most operands so far, with those of the code still to come.
use Rattle.std.proofs.Common.{◌≡◌, ◌*◌, ◌≤◌, max, drop}
use Rattle.pfc_translation.specs.Operands.{most_operands}
use Rattle.pfc_operands.specs.Callees.{program_in}
use Rattle.pfc_operands.proofs.operands.most_operands.Given as goal

abbrev pub invariant-loop-instr : goal.invariant-loop-instr
invariant-loop-instr l = record {
  value : max l.most (most_operands (program_in l.callees.tree.now l.callees.types.now l.callees.scopes.now) l.held (drop l.instr-index l.code)) ≡ most_operands
      (program_in l.callees.tree.now l.callees.types.now l.callees.scopes.now) 0 l.code;
  bound : l.held ≤ 4294967296 * l.instr-index;
}
