use Rattle.std.proofs.Common.{append_assoc}
use Rattle.std.proofs.lemmas.Result.{IfOk-equal}
use Rattle.pfc_report.proofs.reports.print_ending.Goals as goal

pub returns-in_ok-text-in-Deadlock : goal.returns-in_ok-text-in-Deadlock
returns-in_ok-text-in-Deadlock c =
    rw c.in-Deadlock.is (IfOk-equal _ _ _ _ c.print_standings.ensures (rw c.in_ok-text-in-Deadlock.ensures (simp append_assoc)))

pub returns-in_ok-text-in-Limit-2 : goal.returns-in_ok-text-in-Limit-2
returns-in_ok-text-in-Limit-2 c =
    rw c.in-Limit.is
    (IfOk-equal _ _ _ _ c.print_standings-in-Limit.ensures
    (rw (c.in_ok-text-in-Limit-2.ensures, c.in_ok-number-in-Limit.ensures, c.in_ok-text-in-Limit.ensures) (simp append_assoc)))

pub returns-in_ok-print_script_line-in-Script : goal.returns-in_ok-print_script_line-in-Script
returns-in_ok-print_script_line-in-Script c =
    rw c.in-Script.is
    (IfOk-equal _ _ _ _ c.print_script_standings.ensures (rw c.in_ok-print_script_line-in-Script.ensures (simp append_assoc)))
