use Rattle.std.proofs.Common.{[], ap, subst, ◌∙◌, w64, ℤ}
use Rattle.std.proofs.lemmas.Int.{to_z-of_z}
use Rattle.pfc_pending.specs.declared.actions.Deed.TheVariants as deed
use Rattle.pfc_activities.specs.Relation.{Performs}
use Rattle.pfc_performing.proofs.Performed.{done_so, given_so, stays_same}
use Rattle.pfc_performing.proofs.objects.initial.Goals as goal

pub returns-in-Ok : goal.returns-in-Ok
returns-in-Ok c = λ source.
    done_so source c.args.state.now c.initials.new.state c.args.p (deed.Initials c.args.spot c.args.n) c.in-Ok.done
    (subst (λ (n : ℤ). Performs source c.args.state.now c.initials.new.state c.args.p (deed.Initials c.args.spot n) [] c.in-Ok.done)
    (to_z-of_z w64 c.args.n c.ranges.n) (c.in-Ok.ensures.ok source))

pub returns-in-Err : goal.returns-in-Err
returns-in-Err c = λ source.
    given_so source c.args.state.now c.initials.new.state c.args.p (deed.Initials c.args.spot c.args.n) _
    (stays_same c.args.state.now c.initials.new.state c.args.p c.in-Err.ensures.err)
    (ap (λ (m : ℤ). deed.Initials c.in-Err.spot m) (to_z-of_z w64 c.args.n c.ranges.n) ∙ ap (λ s. deed.Initials s c.args.n) c.in-Err.ensures.given)
