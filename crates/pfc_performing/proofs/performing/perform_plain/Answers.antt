use Rattle.std.proofs.Common.{[], Ok, refl, subst, rules, w64, ℤ}
use Rattle.std.proofs.lemmas.Int.{to_z-of_z}
use mir.Val.{SFits}
use Rattle.pfc_pending.specs.declared.actions.Deed.TheVariants as deed
use Rattle.pfc_activities.specs.Relation.{Performs}
use Rattle.pfc_performing.specs.Performing.{IsTried}
use Rattle.pfc_performing.proofs.Performed.{done_so, given_so, stays_same, tried_at}
use Rattle.pfc_performing.proofs.performing.perform_plain.Goals as goal

pub returns-in-Reads : goal.returns-in-Reads
returns-in-Reads c =
    tried_at c.args.source.now c.args.state.now c.read.new.state c.args.p c.args.deed _ c.read.result c.in-Reads.is
    (c.read.ensures c.args.source.now)

pub returns-in-Writes : goal.returns-in-Writes
returns-in-Writes c =
    tried_at c.args.source.now c.args.state.now c.write.new.state c.args.p c.args.deed _ c.write.result c.in-Writes.is
    (c.write.ensures c.args.source.now)

pub returns-in-Inputs : goal.returns-in-Inputs
returns-in-Inputs c =
    tried_at c.args.source.now c.args.state.now c.input.new.state c.args.p c.args.deed _ c.input.result c.in-Inputs.is
    (c.input.ensures c.args.source.now)

pub returns-in-AsksEmpty : goal.returns-in-AsksEmpty
returns-in-AsksEmpty c =
    tried_at c.args.source.now c.args.state.now c.ask_empty.new.state c.args.p c.args.deed _ c.ask_empty.result c.in-AsksEmpty.is
    (c.ask_empty.ensures c.args.source.now)

pub returns-in-Waits : goal.returns-in-Waits
returns-in-Waits c =
    tried_at c.args.source.now c.args.state.now c.wait.new.state c.args.p c.args.deed _ c.wait.result c.in-Waits.is
    (c.wait.ensures c.args.source.now)

pub returns-in-Signals : goal.returns-in-Signals
returns-in-Signals c =
    tried_at c.args.source.now c.args.state.now c.signal.new.state c.args.p c.args.deed _ c.signal.result c.in-Signals.is
    (c.signal.ensures c.args.source.now)

pub returns-in-Resumes : goal.returns-in-Resumes
returns-in-Resumes c =
    tried_at c.args.source.now c.args.state.now c.resume.new.state c.args.p c.args.deed _ c.resume.result c.in-Resumes.is
    (c.resume.ensures c.args.source.now)

pub returns-in-Parts : goal.returns-in-Parts
returns-in-Parts c =
    tried_at c.args.source.now c.args.state.now c.part.new.state c.args.p c.args.deed _ c.part.result c.in-Parts.is
    (c.part.ensures c.args.source.now)

pub returns-in-Calls : goal.returns-in-Calls
returns-in-Calls c =
    tried_at c.args.source.now c.args.state.now c.call.new.state c.args.p c.args.deed _ c.call.result c.in-Calls.is
    (c.call.ensures)

pub returns-in-Finishes : goal.returns-in-Finishes
returns-in-Finishes c =
    tried_at c.args.source.now c.args.state.now c.finish.new.state c.args.p c.args.deed _ c.finish.result c.in-Finishes.is
    (c.finish.ensures)

pub returns-in-Initials : goal.returns-in-Initials
returns-in-Initials c =
    let fits : SFits w64 c.in-Initials.n = search rules in
    tried_at c.args.source.now c.args.state.now c.initial.new.state c.args.p c.args.deed _ c.initial.result c.in-Initials.is
    (subst (λ (m : ℤ). IsTried c.args.source.now c.args.state.now c.initial.new.state c.args.p (deed.Initials c.in-Initials.spot m) c.initial.result)
    (to_z-of_z w64 c.in-Initials.n fits) (c.initial.ensures c.args.source.now))

pub returns-in-Delays : goal.returns-in-Delays
returns-in-Delays c =
    let fits : SFits w64 c.in-Delays.rank = search rules in
    tried_at c.args.source.now c.args.state.now c.delay.new.state c.args.p c.args.deed _ c.delay.result c.in-Delays.is
    (subst (λ (m : ℤ). IsTried c.args.source.now c.args.state.now c.delay.new.state c.args.p (deed.Delays c.in-Delays.spot m) c.delay.result)
    (to_z-of_z w64 c.in-Delays.rank fits) (c.delay.ensures c.args.source.now))

pub returns-in-Turns : goal.returns-in-Turns
returns-in-Turns c =
    tried_at c.args.source.now c.args.state.now c.turns.new.state c.args.p c.args.deed _ (Ok c.turns.result) c.in-Turns.is
    (done_so c.args.source.now c.args.state.now c.turns.new.state c.args.p deed.Turns c.turns.result (c.turns.ensures c.args.source.now))

pub returns-in-Skips : goal.returns-in-Skips
returns-in-Skips c =
    tried_at c.args.source.now c.args.state.now c.skips.new.state c.args.p c.args.deed _ (Ok c.skips.result) c.in-Skips.is
    (done_so c.args.source.now c.args.state.now c.skips.new.state c.args.p deed.Skips c.skips.result (c.skips.ensures c.args.source.now))

pub returns-in-AsksEof : goal.returns-in-AsksEof
returns-in-AsksEof c =
    tried_at c.args.source.now c.args.state.now c.asks_eof.new.state c.args.p c.args.deed _ (Ok c.asks_eof.result) c.in-AsksEof.is
    (done_so c.args.source.now c.args.state.now c.asks_eof.new.state c.args.p deed.AsksEof c.asks_eof.result (c.asks_eof.ensures c.args.source.now))

pub returns-in-AsksEoln : goal.returns-in-AsksEoln
returns-in-AsksEoln c =
    tried_at c.args.source.now c.args.state.now c.asks_eoln.new.state c.args.p c.args.deed _ (Ok c.asks_eoln.result) c.in-AsksEoln.is
    (done_so c.args.source.now c.args.state.now c.asks_eoln.new.state c.args.p deed.AsksEoln c.asks_eoln.result (c.asks_eoln.ensures c.args.source.now))

pub returns-in-AsksClock : goal.returns-in-AsksClock
returns-in-AsksClock c =
    tried_at c.args.source.now c.args.state.now c.asks_clock.new.state c.args.p c.args.deed _ (Ok c.asks_clock.result) c.in-AsksClock.is
    (done_so c.args.source.now c.args.state.now c.asks_clock.new.state c.args.p deed.AsksClock c.asks_clock.result (c.asks_clock.ensures c.args.source.now))

pub returns-in-Joins : goal.returns-in-Joins
returns-in-Joins c =
    tried_at c.args.source.now c.args.state.now c.joins.new.state c.args.p c.args.deed _ (Ok c.joins.result) c.in-Joins.is
    (done_so c.args.source.now c.args.state.now c.joins.new.state c.args.p deed.Joins c.joins.result (c.joins.ensures c.args.source.now))

pub returns-in-Faults : goal.returns-in-Faults
returns-in-Faults c =
    tried_at c.args.source.now c.args.state.now c.faults.new.state c.args.p c.args.deed _ (Ok c.faults.result) c.in-Faults.is
    (done_so c.args.source.now c.args.state.now c.faults.new.state c.args.p
    (deed.Faults c.in-Faults.fault) c.faults.result (c.faults.ensures c.args.source.now))

pub returns-in-Draws : goal.returns-in-Draws
returns-in-Draws c =
    let fits : SFits w64 c.in-Draws.n = search rules in
    tried_at c.args.source.now c.args.state.now c.draws.new.state c.args.p c.args.deed _ (Ok c.draws.result) c.in-Draws.is
    (done_so c.args.source.now c.args.state.now c.draws.new.state c.args.p (deed.Draws c.in-Draws.n) c.draws.result
    (subst (λ (m : ℤ). Performs c.args.source.now c.args.state.now c.draws.new.state c.args.p (deed.Draws m) [] c.draws.result)
    (to_z-of_z w64 c.in-Draws.n fits) (c.draws.ensures c.args.source.now)))

pub returns-in-Sleeps : goal.returns-in-Sleeps
returns-in-Sleeps c =
    let fits : SFits w64 c.in-Sleeps.n = search rules in
    tried_at c.args.source.now c.args.state.now c.sleeps.new.state c.args.p c.args.deed _ (Ok c.sleeps.result) c.in-Sleeps.is
    (done_so c.args.source.now c.args.state.now c.sleeps.new.state c.args.p (deed.Sleeps c.in-Sleeps.n) c.sleeps.result
    (subst (λ (m : ℤ). Performs c.args.source.now c.args.state.now c.sleeps.new.state c.args.p (deed.Sleeps m) [] c.sleeps.result)
    (to_z-of_z w64 c.in-Sleeps.n fits) (c.sleeps.ensures c.args.source.now)))

pub returns-in-Scans : goal.returns-in-Scans
returns-in-Scans c =
    tried_at c.args.source.now c.args.state.now c.scan.new.state c.args.p c.args.deed _ c.scan.result c.in-Scans.is
    (c.scan.ensures c.args.source.now)

pub returns-in-Bars : goal.returns-in-Bars
returns-in-Bars c =
    tried_at c.args.source.now c.args.state.now c.bar.new.state c.args.p c.args.deed _ c.bar.result c.in-Bars.is
    (c.bar.ensures c.args.source.now)

pub returns-in-Passes : goal.returns-in-Passes
returns-in-Passes c =
    tried_at c.args.source.now c.args.state.now c.pass.new.state c.args.p c.args.deed _ c.pass.result c.in-Passes.is
    (c.pass.ensures c.args.source.now)

pub returns-in-Meets : goal.returns-in-Meets
returns-in-Meets c =
    tried_at c.args.source.now c.args.state.now c.meet.new.state c.args.p c.args.deed _ c.meet.result c.in-Meets.is
    (c.meet.ensures)

pub returns-in_default : goal.returns-in_default
returns-in_default c =
    given_so c.args.source.now c.args.state.now c.args.state.now c.args.p _ _ (stays_same c.args.state.now c.args.state.now c.args.p refl) refl
