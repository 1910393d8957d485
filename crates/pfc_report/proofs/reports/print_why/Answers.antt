use Rattle.std.proofs.Common.{append_assoc}
use Rattle.std.proofs.lemmas.Result.{IfOk-equal}
use Rattle.pfc_report.proofs.reports.print_why.Goals as goal

pub returns-in_ok-number-in-NotReady : goal.returns-in_ok-number-in-NotReady
returns-in_ok-number-in-NotReady c =
    rw c.in-NotReady.is
    (IfOk-equal _ _ _ _ c.text-in-NotReady.ensures (rw (c.in_ok-number-in-NotReady.ensures, c.in_ok-text-in-NotReady.ensures) (simp append_assoc)))

pub returns-in_ok-text-in-NoProcess : goal.returns-in_ok-text-in-NoProcess
returns-in_ok-text-in-NoProcess c =
    rw c.in-NoProcess.is (IfOk-equal _ _ _ _ c.number-in-NoProcess.ensures (rw (c.in_ok-text-in-NoProcess.ensures) (simp append_assoc)))

pub returns-in-NotANumber : goal.returns-in-NotANumber
returns-in-NotANumber c = rw c.in-NotANumber.is c.text-in-NotANumber.ensures
