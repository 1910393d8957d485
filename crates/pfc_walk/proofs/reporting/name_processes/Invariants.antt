use Rattle.std.proofs.Common.{take}
use Rattle.pfc_code.specs.Images.{plain_image}
use Rattle.pfc_report.specs.Reports.{NameProcesses}
use Rattle.pfc_walk.proofs.reporting.name_processes.Given as goal

-- the standings so far have labels
abbrev pub invariant-loop-standing : goal.invariant-loop-standing
invariant-loop-standing l = NameProcesses (plain_image l.image) (take l.standing-index l.standings)
