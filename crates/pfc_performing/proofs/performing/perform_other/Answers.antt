use Rattle.std.proofs.Common.{◌≡◌, refl, sym, subst}
use Rattle.std.specs.Prelude.{IfOk, IfErr}
use Rattle.pfc_performing.specs.Performing.{IsDone}
use Rattle.pfc_performing.proofs.Performed.{tried_done, not_choosing, in_any}
use Rattle.pfc_performing.proofs.performing.perform_other.Goals as goal

pub returns-in_default-clause-ok : goal.returns-in_default-clause-ok
returns-in_default-clause-ok c =
    tried_done c.args.source.now c.args.state.now c.perform_plain.new.state c.args.p c.args.deed c.perform_plain.result
    c.args.picker.now c.args.out.now c.perform_plain.ensures
    (not_choosing c.args.deed c.in_default.not-Decides)

pub returns-in_default-clause-err : goal.returns-in_default-clause-err
returns-in_default-clause-err c = c.perform_plain.ensures.err

pub returns-in_default-clause-given : goal.returns-in_default-clause-given
returns-in_default-clause-given c = c.perform_plain.ensures.given

pub returns-in_default-clause-kept : goal.returns-in_default-clause-kept
returns-in_default-clause-kept c = in_any c.perform_plain.result _ refl

pub returns-in-Decides-clause-ok : goal.returns-in-Decides-clause-ok
returns-in-Decides-clause-ok c =
    subst (λ x. IfOk c.decide.result
    (λ d. IsDone c.args.source.now c.args.state.now c.decide.new.state c.args.p x c.args.picker.now c.decide.new.picker c.args.out.now c.args.out.now d))
    (sym c.in-Decides.is) (c.decide.ensures.ok c.args.out.now)

pub returns-in-Decides-clause-err : goal.returns-in-Decides-clause-err
returns-in-Decides-clause-err c = c.decide.ensures.err

pub returns-in-Decides-clause-given : goal.returns-in-Decides-clause-given
returns-in-Decides-clause-given c = subst (λ x. IfErr c.decide.result (λ given. given ≡ x)) (sym c.in-Decides.is) c.decide.ensures.given
