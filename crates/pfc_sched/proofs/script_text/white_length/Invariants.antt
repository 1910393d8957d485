use Rattle.std.proofs.Common.{◌≡◌, ◌+◌, drop}
use Rattle.pfc_sched.specs.Cut.{blanks_before}
use Rattle.pfc_sched.proofs.script_text.white_length.Given as goal

abbrev pub invariant-loop-i : goal.invariant-loop-i
invariant-loop-i l = l.i + blanks_before (drop l.i l.bytes) ≡ blanks_before l.bytes
