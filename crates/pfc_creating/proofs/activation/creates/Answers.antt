use Rattle.std.proofs.Common.{List, refl, subst}
use Rattle.pfc_pending.specs.declared.pending.Argument.{Argument}
use Rattle.pfc_creating.specs.Creating.{Creates}
use Rattle.pfc_creating.proofs.activation.creates.Goals as goal

pub returns-in-Ok-clause-ok : goal.returns-in-Ok-clause-ok
returns-in-Ok-clause-ok c = λ g c' choice a program is_at.
    subst (λ (l : List Argument). Creates c.args.source.now c.args.state.now c.created.new.state c.args.p c.args.spot l c.in-Ok.done)
    c.deref.ensures.value c.in-Ok.ensures.ok g c' choice a _ program is_at refl refl
