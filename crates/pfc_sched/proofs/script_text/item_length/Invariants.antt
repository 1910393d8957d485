use Rattle.std.proofs.Common.{◌≡◌, ◌+◌, drop}
use Rattle.pfc_sched.specs.Cut.{bytes_before_blank}
use Rattle.pfc_sched.proofs.script_text.item_length.Given as goal

abbrev pub invariant-loop-i : goal.invariant-loop-i
invariant-loop-i l = l.i + bytes_before_blank (drop l.i l.bytes) ≡ bytes_before_blank l.bytes
