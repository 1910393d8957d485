use Rattle.std.proofs.Common.{refl, ap}
use Rattle.pfc_world.specs.Semaphores.{Counted}
use Rattle.pfc_activities.specs.declared.state.State.{State}
use Rattle.pfc_waiting.proofs.Performing.{signals_so, signals_stop, fault_so}
use Rattle.pfc_waiting.proofs.semaphores.signals.Goals as goal

pub returns-in-Ok-clause-ok : goal.returns-in-Ok-clause-ok
returns-in-Ok-clause-ok c =
    let old : State = c.args.state.now in
    let mid : State = record old { world = c.signal_by.new.world; semaphores = c.signal_by.new.sems } in
    signals_so old mid c.go_on_when_ready.new.state c.args.p c.in-Some.s c.args.spot c.go_on_when_ready.result refl c.signal_by.ensures.acted refl
    c.in-Some.ensures.number c.in-Ok.ensures.rule.0 c.in-Ok.ensures.rule.2 c.go_on_when_ready.ensures

pub returns-clause-ok : goal.returns-clause-ok
returns-clause-ok c =
    let old : State = c.args.state.now in
    let mid : State = record old { world = c.signal_by.new.world; semaphores = c.signal_by.new.sems } in
    signals_stop old c.end_in_fault.new.self c.args.p c.in-Some.s c.args.spot c.in-Err.fault c.end_in_fault.result c.in-Some.ensures.number
    c.in-Err.ensures.rule.0 c.in-Err.ensures.rule.1
    (fault_so old mid c.end_in_fault.new.self c.args.p c.in-Err.fault c.end_in_fault.result refl
    (ap (λ (x : Counted). x.table) c.in-Err.ensures.rule.2) (ap (λ (x : Counted). x.counts) c.in-Err.ensures.rule.2) refl c.end_in_fault.ensures)
