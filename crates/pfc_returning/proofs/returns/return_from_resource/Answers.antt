use Rattle.std.proofs.Common.{refl}
use Rattle.pfc_store.specs.Views.{value_view}
use Rattle.pfc_returning.proofs.Finishing.{resource_so}
use Rattle.pfc_returning.proofs.Scanning.{stays_so, on_err}
use Rattle.pfc_returning.proofs.returns.return_from_resource.Goals as goal

pub returns-in_err-put_scan-clause-err : goal.returns-in_err-put_scan-clause-err
returns-in_err-put_scan-clause-err c =
    on_err _ _
    (stays_so c.args.state.now _ c.args.p c.index_mut.result.now c.put_scan.new.activity c.index_mut.ensures.value
    (record { is = refl; items = refl }) c.in_err-put_scan.ensures.doing c.in_err-put_scan.ensures.err)

pub returns-clause-ok : goal.returns-clause-ok
returns-clause-ok c =
    resource_so c.args.source.now c.args.state.now _ c.go_back_from.new.state c.args.p c.args.number c.args.r c.end_of-end.result c.args.line
    (value_view c.of.result) c.index_mut.result.now c.put_scan.new.activity c.go_back_from.result c.requires.way c.end_of-end.ensures
    c.index_mut.ensures.value (record { is = refl; items = refl }) c.in_ok-put_scan.ensures.ok c.go_back_from.ensures
