use Rattle.std.proofs.Common.{List, ap}
use Rattle.pfc_semantics.specs.Configurations as configurations
use Rattle.pfc_activities.specs.Shown.{Shown, activity_shown}
use Rattle.pfc_returning.proofs.Scanning.{if_ok, if_err, pushed, scan_seen, nothing_seen}
use Rattle.pfc_returning.proofs.scans.put_scan.Goals as goal

pub returns-clause-ok : goal.returns-clause-ok
returns-clause-ok c =
    if_ok c.put_before-put.result
    (λ same t. ap (λ (xs : List configurations.Activation). (let y : Shown = record (activity_shown t c.args.activity.now) { activations = xs } in y))
    (scan_seen t c.args.activity.now c.pop.new.self.items c.push.new.self.items c.in-Some.last c.put_before-put.new.caller c.args.resource c.args.line
    c.in-Some.ensures.items (pushed c.pop.new.self.items c.push.new.self.items _ c.push.result c.unwrap.result c.push.ensures.items c.unwrap.ensures) (same t)))
    c.put_before-put.ensures.ok

pub returns-clause-err : goal.returns-clause-err
returns-clause-err c =
    if_err c.put_before-put.result
    (λ same t. ap (λ (xs : List configurations.Activation). (let y : Shown = record (activity_shown t c.args.activity.now) { activations = xs } in y))
    (nothing_seen t c.args.activity.now c.pop.new.self.items c.push.new.self.items c.in-Some.last c.put_before-put.new.caller
    c.in-Some.ensures.items (pushed c.pop.new.self.items c.push.new.self.items _ c.push.result c.unwrap.result c.push.ensures.items c.unwrap.ensures) (same t)))
    c.put_before-put.ensures.err
