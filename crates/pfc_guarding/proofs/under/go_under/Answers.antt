use Rattle.std.proofs.Common.{refl}
use Rattle.pfc_guarding.proofs.Pushing.{on_err, stays_so, goes_under}
use Rattle.pfc_guarding.proofs.under.go_under.Goals as goal

pub returns-in_err-put_under-clause-err : goal.returns-in_err-put_under-clause-err
returns-in_err-put_under-clause-err c =
    on_err _ _
    (stays_so c.args.state.now _ c.args.p c.index_mut.result.now c.put_under.new.activity c.index_mut.ensures.value
    (record { is = refl; items = refl }) c.in_err-put_under.ensures.err)

pub returns-clause-ok : goal.returns-clause-ok
returns-clause-ok c =
    goes_under c.args.state.now _ c.go_on.new.self c.args.p c.args.part c.index_mut.result.now c.put_under.new.activity c.go_on.result
    c.index_mut.ensures.value (record { is = refl; items = refl }) c.in_ok-put_under.ensures.ok c.go_on.ensures
