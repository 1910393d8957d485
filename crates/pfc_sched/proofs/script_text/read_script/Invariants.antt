use Rattle.std.proofs.Common.{◌≡◌, ◌+◌, ◌≤◌, length}
use Rattle.pfc_sched.specs.Script.{script, items_of, numbers_of}
use Rattle.pfc_sched.specs.SoFar.{numbers_before}
use Rattle.pfc_sched.proofs.script_text.read_script.Given as goal

abbrev pub invariant-loop-item : goal.invariant-loop-item
invariant-loop-item l = record {
  few : l.items + length l.rest ≤ length l.bytes;
  numbers : numbers_before l.picks (numbers_of (l.items + 1) (items_of l.rest)) ≡ script l.bytes;
}

abbrev pub decreases-loop-item : goal.decreases-loop-item
decreases-loop-item l = length l.rest
