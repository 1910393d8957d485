-- Only strings are kept, and no more of them than are asked for.
use Rattle.std.proofs.Common.{◌≡◌, ◌≤◌, ◌-◌, length}
use Rattle.pfc_expression_code.proofs.coder.Coder.pass_strings.Given as goal

abbrev pub invariant-loop-self : goal.invariant-loop-self
invariant-loop-self l = record {
  code : l.self-inside.code ≡ l.fn.self.code;
  arms : l.self-inside.arms ≡ l.fn.self.arms;
  few : length l.fn.self.texts ≤ l.count → length l.self-inside.texts.items ≤ l.count;
}

abbrev pub decreases-loop-self : goal.decreases-loop-self
decreases-loop-self l = l.count - length l.self-inside.texts.items
