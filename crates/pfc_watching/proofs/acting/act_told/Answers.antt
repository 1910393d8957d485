use Rattle.std.proofs.Common.{sym, subst}
use Rattle.pfc_pending.specs.declared.actions.Deed.{Deed}
use Rattle.pfc_activities.specs.declared.changes.Done.{Done}
use Rattle.pfc_acting.specs.Acting.{IsActed, IsBeforeDeed}
use Rattle.pfc_acting.proofs.Before.{acted_so, still_before}
use Rattle.pfc_performing.specs.Performing.{IsDone}
use Rattle.pfc_watching.proofs.Told.{told_so}
use Rattle.pfc_watching.proofs.acting.act_told.Goals as goal

pub returns-in_default-clause-err : goal.returns-in_default-clause-err
returns-in_default-clause-err c = λ c' before. c.put_back.ensures c.args.source.now c' (c.in_ok-deed.ensures.ok c' before)

pub returns-in-Ok-perform-clause-ok : goal.returns-in-Ok-perform-clause-ok
returns-in-Ok-perform-clause-ok c =
    subst
    (λ (d : Done). IsActed c.args.source.now c.args.state.now c.perform.new.state c.args.p c.args.picker.now
    c.perform.new.picker c.args.out.now c.perform.new.out d)
    (sym c.event_behind.ensures.done)
    (acted_so c.args.source.now c.args.state.now c.next.new.state c.perform.new.state c.args.p c.in_ok-deed.deed c.args.picker.now c.perform.new.picker
    c.args.out.now c.perform.new.out c.in-Ok-perform.done c.in_ok-deed.ensures.ok c.in-Ok-perform.ensures.ok)

pub returns-in-Ok-perform-clause-told : goal.returns-in-Ok-perform-clause-told
returns-in-Ok-perform-clause-told c =
    told_so c.args.source.now c.args.state.now c.next.new.state c.perform.new.state c.args.p c.in_ok-deed.deed c.args.picker.now c.perform.new.picker
    c.args.out.now c.perform.new.out c.args.joins c.in-Ok.told c.event_behind.result c.in_ok-deed.ensures.ok c.in-Ok.ensures
    (subst
    (λ (d : Done). IsDone c.args.source.now c.next.new.state c.perform.new.state c.args.p c.in_ok-deed.deed c.args.picker.now
    c.perform.new.picker c.args.out.now c.perform.new.out d)
    (sym c.event_behind.ensures.done) c.in-Ok-perform.ensures.ok)
    c.event_behind.ensures.event

pub returns-in-Err-clause-err : goal.returns-in-Err-clause-err
returns-in-Err-clause-err c = λ c' before.
    c.put_back-in-Err.ensures c.args.source.now c'
    (subst (λ (x : Deed). IsBeforeDeed c.args.source.now c.perform.new.state c' c.args.p x) (sym c.in-Err.ensures.given)
    (still_before c.args.source.now c.next.new.state c.perform.new.state c' c.args.p c.in_ok-deed.deed
    (c.in_ok-deed.ensures.ok c' before) c.in-Err.ensures.err))
