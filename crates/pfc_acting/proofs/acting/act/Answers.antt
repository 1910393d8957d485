use Rattle.std.proofs.Common.{sym, subst}
use Rattle.pfc_pending.specs.declared.actions.Deed.{Deed}
use Rattle.pfc_acting.specs.Acting.{IsBeforeDeed}
use Rattle.pfc_acting.proofs.Before.{still_before, acted_so}
use Rattle.pfc_acting.proofs.acting.act.Goals as goal

pub returns-in-Ok-clause-ok : goal.returns-in-Ok-clause-ok
returns-in-Ok-clause-ok c =
    acted_so c.args.source.now c.args.state.now c.next.new.state c.perform.new.state c.args.p c.in_ok-deed.deed c.args.picker.now c.perform.new.picker
    c.args.out.now c.perform.new.out c.in-Ok.done c.in_ok-deed.ensures.ok c.in-Ok.ensures.ok

pub returns-in-Err-clause-err : goal.returns-in-Err-clause-err
returns-in-Err-clause-err c = λ c' before.
    c.put_back.ensures c.args.source.now c'
    (subst (λ (x : Deed). IsBeforeDeed c.args.source.now c.perform.new.state c' c.args.p x) (sym c.in-Err.ensures.given)
    (still_before c.args.source.now c.next.new.state c.perform.new.state c' c.args.p c.in_ok-deed.deed
    (c.in_ok-deed.ensures.ok c' before) c.in-Err.ensures.err))
