use Rattle.std.proofs.Common.{◌≡◌, ◌+◌, ◌<◌, ◌++◌, length, take}
use Rattle.pfc_hb.specs.Conflicts.{races_with}
use Rattle.pfc_hb.proofs.pairs.note_races.Given as goal

abbrev pub invariant-loop-second : goal.invariant-loop-second
invariant-loop-second l = record {
  room : length l.races ≡ length l.initial.races;
  few : l.end + l.first < l.start + l.second;
  noted : take l.end l.races ≡ take l.start l.initial.races ++ races_with l.events l.first l.second;
}
