use Rattle.std.proofs.Common.{◌≡◌, ◌++◌, drop}
use Rattle.std.specs.List.{flat_map}
use Rattle.pfc_hb.specs.Lines.{race_text}
use Rattle.pfc_hb.proofs.lines.race_lines.Given as goal

abbrev pub invariant-loop-race : goal.invariant-loop-race
invariant-loop-race l = l.text.items ++ flat_map (race_text l.events) (drop l.race-index l.races) ≡ flat_map (race_text l.events) l.races
