use Rattle.std.proofs.Common.{◌≡◌, ◌++◌, drop}
use Rattle.pfc_code.specs.Images.{plain_image}
use Rattle.pfc_report.specs.Reports.{standings_text}
use Rattle.pfc_report.proofs.reports.print_standings.Given as goal

abbrev pub invariant-loop-standing : goal.invariant-loop-standing
invariant-loop-standing l =
    l.page ++ standings_text (plain_image l.image) (drop l.standing-index l.standings)
    ≡ l.initial.page ++ standings_text (plain_image l.image) l.standings
