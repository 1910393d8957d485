use Rattle.std.proofs.Common.{◌≡◌, map, take, get_or}
use Rattle.pfc_hb.proofs.columns.column_of.Given as goal

abbrev pub invariant-loop-clock : goal.invariant-loop-clock
invariant-loop-clock l = l.counts.items ≡ map (λ clock. get_or clock l.slot 0) (take l.clock-index l.clocks)
