use Rattle.std.proofs.Common.{◌≡◌, ◌-◌}
use Rattle.pfc_stacks.specs.declared.marks.Mark.TheVariants.{Monitor}
use Rattle.pfc_stacks.specs.Activations.{is_marked, has_mark}
use Rattle.pfc_stacks.proofs.stack.ProcessStack.has_mark.Given as goal

-- those from here on are marked where some of all are
abbrev pub invariant-loop : goal.invariant-loop
invariant-loop l = is_marked (l.self.base - l.counter) (Monitor l.m) l.self.cells l.base ≡ has_mark l.m l.self
