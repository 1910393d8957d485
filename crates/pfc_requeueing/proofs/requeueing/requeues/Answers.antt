use Rattle.std.proofs.Common.{List, refl, subst}
use Rattle.pfc_pending.specs.declared.pending.Argument.{Argument}
use Rattle.pfc_requeueing.specs.Requeueing.{Requeues}
use Rattle.pfc_requeueing.proofs.requeueing.requeues.Goals as goal

pub returns-in-Ok-clause-ok : goal.returns-in-Ok-clause-ok
returns-in-Ok-clause-ok c = λ g c' choice a program is_at.
    subst (λ (l : List Argument). Requeues c.args.source.now c.args.state.now c.requeued.new.state c.args.p c.args.scope l c.in-Ok.done)
    c.deref.ensures.value c.in-Ok.ensures.ok g c' choice a _ program is_at refl refl
