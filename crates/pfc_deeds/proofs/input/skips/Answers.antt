use Rattle.std.proofs.Common.{refl}
use Rattle.pfc_deeds.proofs.Performing.{skips_so, skips_stop}
use Rattle.pfc_deeds.proofs.input.skips.Goals as goal

pub returns-in-Ok : goal.returns-in-Ok
returns-in-Ok c =
    skips_so c.args.state.now (record c.args.state.now { input = c.skip_line.new.self }) c.go_on.new.self c.args.p c.go_on.result
    refl refl refl c.in-Ok.ensures.skipped c.in-Ok.ensures.whole c.go_on.ensures

pub returns-in-Err : goal.returns-in-Err
returns-in-Err c =
    skips_stop c.args.state.now (record c.args.state.now { input = c.skip_line.new.self }) c.end_in_fault.new.self c.args.p c.in-Err.fault c.end_in_fault.result
    refl refl c.in-Err.ensures.err refl c.in-Err.ensures.skipped c.end_in_fault.ensures
