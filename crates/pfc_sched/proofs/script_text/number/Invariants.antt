use Rattle.std.proofs.Common.{◌≡◌, ◌≤◌, drop}
use Rattle.pfc_sched.specs.Digits.{number_behind}
use Rattle.pfc_sched.specs.Script.{number_of}
use Rattle.pfc_sched.proofs.script_text.number.Given as goal

abbrev pub invariant-loop-byte : goal.invariant-loop-byte
invariant-loop-byte l = record { small : l.value ≤ 4294967295; rest : number_behind l.value (drop l.byte-index l.item) ≡ number_of l.item }
