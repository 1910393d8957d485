use Rattle.std.proofs.Common.{subst}
use Rattle.pfc_guarding.specs.Trying.{IsNext}
use Rattle.pfc_guarding.proofs.Performing.{tries_other, tries_own, ends_scan}
use Rattle.pfc_guarding.proofs.Pushing.{if_ok}
use Rattle.pfc_guarding.proofs.actions.scan_once.Goals as goal

pub returns-in-Some-clause-ok : goal.returns-in-Some-clause-ok
returns-in-Some-clause-ok c =
    if_ok c.go_under.result _ _
    (λ d. tries_other c.args.state.now c.go_under.new.state c.args.p c.args.scan c.in-Some.tried d c.requires.ready c.in-Some.ensures)
    c.go_under.ensures.ok

pub returns-in-Some-own-clause-ok : goal.returns-in-Some-own-clause-ok
returns-in-Some-own-clause-ok c =
    if_ok c.go_under-in-Some-own.result _ _
    (λ d. tries_own c.args.state.now c.go_under-in-Some-own.new.state c.args.p c.args.scan c.in-Some-own.bar d c.requires.ready
    (subst (IsNext c.args.state.now c.args.scan.resource c.args.scan.after) c.in-None.is c.next_tried.ensures)
    c.in-Some-own.is)
    c.go_under-in-Some-own.ensures.ok

pub returns-in-None-own-clause-ok : goal.returns-in-None-own-clause-ok
returns-in-None-own-clause-ok c =
    if_ok c.end_scan.result _ _
    (λ d. ends_scan c.args.state.now c.end_scan.new.state c.args.p c.args.scan d c.requires.ready
    (subst (IsNext c.args.state.now c.args.scan.resource c.args.scan.after) c.in-None.is c.next_tried.ensures) c.in-None-own.is)
    c.end_scan.ensures.ok
