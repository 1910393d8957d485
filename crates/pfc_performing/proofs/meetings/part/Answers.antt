use Rattle.std.proofs.Common.{refl}
use Rattle.pfc_pending.specs.declared.actions.Deed.TheVariants as deed
use Rattle.pfc_performing.proofs.Performed.{done_so, given_so, stays_same}
use Rattle.pfc_performing.proofs.meetings.part.Goals as goal

pub returns-in-Ok : goal.returns-in-Ok
returns-in-Ok c = λ source.
    done_so source c.args.state.now c.parts.new.state c.args.p (deed.Parts c.args.caller) c.in-Ok.done (c.in-Ok.ensures.ok source)

pub returns-in-Err : goal.returns-in-Err
returns-in-Err c = λ source.
    given_so source c.args.state.now c.parts.new.state c.args.p (deed.Parts c.args.caller) _
    (stays_same c.args.state.now c.parts.new.state c.args.p c.in-Err.ensures.err)
    (refl)
