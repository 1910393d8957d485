-- Behind those that were found come those that are left to be found, and there is room for them.
use Rattle.std.proofs.Common.{◌≡◌, ◌+◌, ◌≤◌, ◌++◌, drop}
use Rattle.std.specs.Vec.{vec_len, vec_capacity}
use Rattle.pfc_events.specs.Wakes.{woken_by}
use Rattle.pfc_events.proofs.wakes.Standings.woken.Given as goal

abbrev pub invariant-loop-q : goal.invariant-loop-q
invariant-loop-q l = record {
  found : l.woken.items ++ woken_by l.q (drop l.q l.ready.items) (drop l.q l.world.rows) ≡ woken_by 0 l.ready.items l.world.rows;
  room : vec_len l.woken + vec_len l.ready ≤ vec_capacity l.woken + l.q;
}
