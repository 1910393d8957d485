use Rattle.std.proofs.Common.{[], ap, subst, ◌∙◌, w64, ℤ}
use Rattle.std.proofs.lemmas.Int.{to_z-of_z}
use Rattle.pfc_pending.specs.declared.actions.Deed.TheVariants as deed
use Rattle.pfc_activities.specs.Relation.{Performs}
use Rattle.pfc_performing.proofs.Performed.{done_so, given_so, stays_same}
use Rattle.pfc_performing.proofs.objects.delay.Goals as goal

pub returns-in-Ok : goal.returns-in-Ok
returns-in-Ok c = λ source.
    done_so source c.args.state.now c.delays.new.state c.args.p (deed.Delays c.args.spot c.args.rank) c.in-Ok.done
    (subst (λ (n : ℤ). Performs source c.args.state.now c.delays.new.state c.args.p (deed.Delays c.args.spot n) [] c.in-Ok.done)
    (to_z-of_z w64 c.args.rank c.ranges.rank) (c.in-Ok.ensures.ok source))

pub returns-in-Err : goal.returns-in-Err
returns-in-Err c = λ source.
    given_so source c.args.state.now c.delays.new.state c.args.p (deed.Delays c.args.spot c.args.rank) _
    (stays_same c.args.state.now c.delays.new.state c.args.p c.in-Err.ensures.err)
    (ap (λ (m : ℤ). deed.Delays c.in-Err.spot m) (to_z-of_z w64 c.args.rank c.ranges.rank) ∙ ap (λ s. deed.Delays s c.args.rank) c.in-Err.ensures.given)
